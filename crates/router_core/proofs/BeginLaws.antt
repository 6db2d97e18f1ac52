-- What a router keeps where an operation begins.
use Rattle.std.proofs.Common.{◌≡◌, ◌≢◌, ℕ, ◌+◌, ◌-◌, ◌%◌, ◌^◌, ◌<◌, ◌≤◌, true, false, List, [], ◌∷◌, length, Some, None, refl, sym, ap, ◌∙◌, subst, inl, arith}
use Rattle.blob_id.specs.declared.blob.Blob.{Blob}
use Rattle.blob_id.specs.declared.id.BlobId.{BlobId}
use Rattle.blob_id.specs.declared.id.Kind.{Kind}
use Rattle.blob_id.specs.Id.{kind_of, partition_of}
use Rattle.quorum_op.specs.declared.outcome.Outcome.{Outcome}
use Rattle.world_model.specs.declared.history.Begun.{Begun}
use Rattle.world_model.specs.declared.history.HistoryMark.TheVariants.{Begin, Drew}
use Rattle.world_model.specs.declared.shape.Shape.{Shape}
use Rattle.world_model.specs.Notes.{Piece, clock_of}
use Rattle.world_model.specs.Ordered.{marks_of}
use Rattle.world_model.specs.Outcomes.{DrewNothing, Follows, named, names_id}
use Rattle.world_model.specs.Pieces.{is_chunk, is_composite, is_simple, same_kind}
use Rattle.world_model.specs.Record.{Top, Marked, Drawn, Decided, Record, turns_in}
use Rattle.world_model.specs.Router.{begun_in}
use Rattle.world_model.specs.Told.{AllSession}
use Rattle.operation.specs.Calls.{Drew}
use Rattle.op_table.specs.declared.waiting.Waiting.{Waiting}
use Rattle.op_table.specs.Piece.{AsksNothing}
use Rattle.op_table.specs.Tied.{IsTarget, OwnsCalls}
use Rattle.op_table.proofs.TiedLaws.{nothing_asked}
use Rattle.router_core.specs.declared.live.Live.{Live}
use Rattle.router_core.specs.declared.router.Stage.{Stage}
use Rattle.router_core.specs.Beginning.{BeginsAs, IsRefused, begin_items, put_items}
use Rattle.router_core.specs.Fits.{DoesJob}
use Rattle.router_core.specs.Jobs.{Job, Puts, Gets, Deletes, HasDrawnId, IsServed, begun_as, piece_for, target_for}
use Rattle.router_core.specs.Stages.{simple_rules, AimsBelow, AimsWithin, IsGoing, IsUnderWay}
use Rattle.router_core.specs.Stands.{HasLeft, OwnsLive}
use Rattle.router_core.proofs.AimLaws.{below_stays, none_said}
use Rattle.router_core.proofs.StageLaws.{begins, decides, deletes_on, draws, drew_nothing, no_requests}

-- ---- the next operation

pub begins_next : (shape : Shape) (r : Record) (operation : ℕ) (begun : Begun) → IsGoing (simple_rules shape) r → operation ≡ begun_in r + 1 → operation < 2 ^ 31 → IsUnderWay (simple_rules shape) (Marked (Begin operation begun) ∷ r) operation begun r 1
begins_next shape r operation begun i e l =
    let n : operation ≡ 1 + begun_in r = omega (arith, e) in
    subst (λ (k : ℕ). IsUnderWay (simple_rules shape) (Marked (Begin k begun) ∷ r) k begun r 1) (sym n) (begins (simple_rules shape) r begun i (omega (arith, n, l)))

asks_nothing : (shape : Shape) (r : Record) (operation : ℕ) (begun : Begun) (piece : Piece) → IsGoing (simple_rules shape) r → operation ≡ begun_in r + 1 → piece.operation ≡ operation → AsksNothing piece r
asks_nothing shape r operation begun piece i e n = λ a h. no_requests (simple_rules shape) r begun piece a i (omega (arith, n, e)) h

none_drawn : (shape : Shape) (r : Record) (operation : ℕ) (begun : Begun) → IsGoing (simple_rules shape) r → operation ≡ begun_in r + 1 → DrewNothing (Marked (Begin operation begun) ∷ r) operation
none_drawn shape r operation begun i e =
    let n : operation ≡ 1 + begun_in r = omega (arith, e) in
    subst (λ (k : ℕ). DrewNothing (Marked (Begin k begun) ∷ r) k) (sym n) (drew_nothing (simple_rules shape) r begun i)

-- a piece as its operation has it
is_target : (shape : Shape) (operation moment : ℕ) (job : Job) → IsTarget shape (piece_for operation job) (target_for shape moment job)
is_target shape operation moment (Puts id body) = record { kind = refl; id = refl; replicas = refl; need = refl }
is_target shape operation moment (Gets id) = record { kind = refl; id = refl; replicas = refl; need = refl }
is_target shape operation moment (Deletes id) = record { kind = refl; id = refl; replicas = refl; need = refl }

piece_number : (operation : ℕ) (job : Job) → (piece_for operation job).operation ≡ operation
piece_number operation (Puts id body) = refl
piece_number operation (Gets id) = refl
piece_number operation (Deletes id) = refl

said_nothing : (shape : Shape) (r : Record) (operation : ℕ) (begun : Begun) → operation ≡ begun_in r + 1 → AimsWithin r → AimsBelow (Marked (Begin operation begun) ∷ r) operation 1
said_nothing shape r operation begun e w = below_stays (Marked (Begin operation begun)) r operation 1 1 (λ c p a x. absurd cc) (omega arith) (none_said r operation 1 e w)

-- ---- a put

put_owned : (shape : Shape) (r : Record) (operation moment : ℕ) (id : BlobId) (body : List ℕ) (live : Live) → IsGoing (simple_rules shape) r → AimsWithin r → moment ≡ clock_of r → operation ≡ begun_in r + 1 → operation < 2 ^ 31 → length body ≤ shape.chunk
    → IsServed shape id → partition_of id ≡ (operation - 1) % shape.partitions → live.operation ≡ operation → live.requests ≡ [] → DoesJob shape moment (Puts id body) live.op (Drew id (Some body) ∷ [])
    → OwnsLive shape (Drawn operation Top 0 id (record { created = moment; ctype = []; meta = []; body = body }) ∷ Marked (Begin operation (Begun.Put [] body 0 [] [])) ∷ r) live []
put_owned shape r operation moment id body live i w clock e l small served chosen same none does =
    let begun : Begun = Begun.Put [] body 0 [] [] in
    let job : Job = Puts id body in
    let blob : Blob = record { created = moment; ctype = []; meta = []; body = body } in
    let now : Record = Drawn operation Top 0 id blob ∷ Marked (Begin operation begun) ∷ r in
    let turn : partition_of id ≡ (operation - 1 + 0 + 0) % shape.partitions = chosen ∙ ap (λ (n : ℕ). n % shape.partitions) (omega arith) in
    let u = draws shape (Marked (Begin operation begun) ∷ r) operation body r 1 id blob (begins_next shape r operation begun i e l) (none_drawn shape r operation begun i e) small served.simple turn served.within
    (ap (λ (n : ℕ). record { created = n; ctype = []; meta = []; body = body }) clock) in
    let owns = nothing_asked shape (piece_for operation job) (target_for shape moment job) now (Drew id (Some body) ∷ []) (is_target shape operation moment job) (asks_nothing shape r operation begun (piece_for operation job) i e refl) refl in
    record {
      job = job;
      then = r;
      calls = Drew id (Some body) ∷ [];
      next = 1;
      from = 1;
      under_way = subst (λ (k : ℕ). IsUnderWay (simple_rules shape) now k begun r 1) (sym same) u;
      aims = subst (λ (k : ℕ). AimsBelow now k 1) (sym same) (below_stays (Drawn operation Top 0 id blob) (Marked (Begin operation begun) ∷ r) operation 1 1 (λ c p a x. absurd cc) (omega arith) (said_nothing shape r operation begun e w));
      drawn = subst (λ (k : ℕ). HasDrawnId now k (clock_of r) job) (sym same) (subst (λ (m : ℕ). HasDrawnId now operation m job) clock (inl refl));
      does = subst (λ (m : ℕ). DoesJob shape m job live.op (Drew id (Some body) ∷ [])) clock does;
      goes_on = (refl, tt);
      owns = subst (λ (m : ℕ). OwnsCalls shape (piece_for live.operation job) (target_for shape m job) now live.requests (Drew id (Some body) ∷ []) []) clock
          (subst (λ (k : ℕ). OwnsCalls shape (piece_for k job) (target_for shape moment job) now live.requests (Drew id (Some body) ∷ []) []) (sym same)
          (subst (λ (ws : List Waiting). OwnsCalls shape (piece_for operation job) (target_for shape moment job) now ws (Drew id (Some body) ∷ []) []) (sym none) owns));
      some = omega arith;
      ahead = omega arith;
      numbered = tt;
      counted = omega arith;
      for_piece = tt;
      kept_all = tt;
    }

-- ---- what is over at once

over_owned : (shape : Shape) (r : Record) (operation : ℕ) (begun : Begun) (outcome : Outcome) (turn : ℕ) → IsGoing (simple_rules shape) r → operation ≡ begun_in r + 1 → operation < 2 ^ 31 → Follows (simple_rules shape) (Marked (Begin operation begun) ∷ r) operation begun outcome
    → outcome ≢ Outcome.Cancelled → turn ≡ turns_in r + 1 → HasLeft shape (Decided operation outcome ∷ Marked (Begin operation begun) ∷ r) operation outcome turn
over_owned shape r operation begun outcome turn i e l f n now = record {
  since = record { at = Marked (Begin operation begun) ∷ r; decided = inl refl; turn_is = omega (arith, now) };
  over = decides (simple_rules shape) (Marked (Begin operation begun) ∷ r) operation begun r 1 outcome (begins_next shape r operation begun i e l) f n;
  deletes = deletes_on shape (Decided operation outcome) (Marked (Begin operation begun) ∷ r) operation outcome (λ id blob x. cc x) (λ none id blob h replica low. absurd (none_drawn shape r operation begun i e Top 0 id blob h));
}

-- ---- an operation on an id

refused_follows : (shape : Shape) (r : Record) (operation : ℕ) (begun : Begun) (outcome : Outcome) → names_id begun ≡ true → IsRefused shape (named begun) outcome → Follows (simple_rules shape) r operation begun outcome
refused_follows shape r operation begun Outcome.NoId names why = (names, why)
refused_follows shape r operation begun Outcome.NotWhole names why = why
refused_follows shape r operation begun Outcome.NoPartition names why = (why.0, why.1, inl why.2, why.3)
refused_follows shape r operation begun (Outcome.Put id) names why = absurd why
refused_follows shape r operation begun Outcome.Deleted2 names why = absurd why
refused_follows shape r operation begun (Outcome.Bytes bytes) names why = absurd why
refused_follows shape r operation begun (Outcome.Info size created ctype meta) names why = absurd why
refused_follows shape r operation begun Outcome.Deleted names why = absurd why
refused_follows shape r operation begun Outcome.NotFound names why = absurd why
refused_follows shape r operation begun (Outcome.Unavailable id failed) names why = absurd why
refused_follows shape r operation begun Outcome.Cancelled names why = absurd why
refused_follows shape r operation begun (Outcome.TooLarge size) names why = absurd why
refused_follows shape r operation begun (Outcome.BadRange size) names why = absurd why
refused_follows shape r operation begun Outcome.NoFile names why = absurd why
refused_follows shape r operation begun (Outcome.Missing id) names why = absurd why
refused_follows shape r operation begun (Outcome.Corrupt id) names why = absurd why
refused_follows shape r operation begun Outcome.Memory names why = absurd why

-- one that is refused is over at once
pub refused_begins : (shape : Shape) (clock turn operation : ℕ) (begun : Begun) (outcome : Outcome) → operation < 2 ^ 31 → names_id begun ≡ true → IsRefused shape (named begun) outcome
    → BeginsAs shape clock turn operation (begin_items operation begun (Stage.Over operation outcome turn)) (Stage.Over operation outcome turn)
refused_begins shape clock turn operation begun outcome l names why = λ r i w c t e.
    over_owned shape r operation begun outcome turn i e l (refused_follows shape (Marked (Begin operation begun) ∷ r) operation begun outcome names why)
    (λ x. let z : IsRefused shape (named begun) Outcome.Cancelled = subst (λ (o : Outcome). IsRefused shape (named begun) o) x why in absurd z) t

job_owned : (shape : Shape) (r : Record) (clock operation : ℕ) (job : Job) (live : Live) → operation < 2 ^ 31 → live.operation ≡ operation → live.requests ≡ [] → DoesJob shape clock job live.op [] → (HasDrawnId (Marked (Begin operation (begun_as job)) ∷ r) operation (clock_of r) job)
    → IsGoing (simple_rules shape) r → AimsWithin r → clock ≡ clock_of r → operation ≡ begun_in r + 1 → OwnsLive shape (Marked (Begin operation (begun_as job)) ∷ r) live []
job_owned shape r clock operation job live l same none does drawn i w c e =
    let now : Record = Marked (Begin operation (begun_as job)) ∷ r in
    let owns = nothing_asked shape (piece_for operation job) (target_for shape clock job) now [] (is_target shape operation clock job) (asks_nothing shape r operation (begun_as job) (piece_for operation job) i e (piece_number operation job)) refl in
    record {
      job = job;
      then = r;
      calls = [];
      next = 1;
      from = 1;
      under_way = subst (λ (k : ℕ). IsUnderWay (simple_rules shape) now k (begun_as job) r 1) (sym same) (begins_next shape r operation (begun_as job) i e l);
      aims = subst (λ (k : ℕ). AimsBelow now k 1) (sym same) (said_nothing shape r operation (begun_as job) e w);
      drawn = subst (λ (k : ℕ). HasDrawnId now k (clock_of r) job) (sym same) drawn;
      does = subst (λ (m : ℕ). DoesJob shape m job live.op []) c does;
      goes_on = tt;
      owns = subst (λ (m : ℕ). OwnsCalls shape (piece_for live.operation job) (target_for shape m job) now live.requests [] []) c
          (subst (λ (k : ℕ). OwnsCalls shape (piece_for k job) (target_for shape clock job) now live.requests [] []) (sym same)
          (subst (λ (ws : List Waiting). OwnsCalls shape (piece_for operation job) (target_for shape clock job) now ws [] []) (sym none) owns));
      some = omega arith;
      ahead = omega arith;
      numbered = tt;
      counted = omega arith;
      for_piece = tt;
      kept_all = tt;
    }

pub get_begins : (shape : Shape) (clock turn operation : ℕ) (id : BlobId) (live : Live) → operation < 2 ^ 31 → live.operation ≡ operation → live.requests ≡ [] → DoesJob shape clock (Gets id) live.op [] → BeginsAs shape clock turn operation (Marked (Begin operation (Begun.Get (Some id) None [])) ∷ []) (Stage.UnderWay live)
get_begins shape clock turn operation id live l same none does = λ r i w c t e. job_owned shape r clock operation (Gets id) live l same none does tt i w c e

pub delete_begins : (shape : Shape) (clock turn operation : ℕ) (id : BlobId) (live : Live) → operation < 2 ^ 31 → live.operation ≡ operation → live.requests ≡ [] → DoesJob shape clock (Deletes id) live.op [] → BeginsAs shape clock turn operation (Marked (Begin operation (Begun.Delete (Some id))) ∷ []) (Stage.UnderWay live)
delete_begins shape clock turn operation id live l same none does = λ r i w c t e. job_owned shape r clock operation (Deletes id) live l same none does tt i w c e

pub put_begins : (shape : Shape) (clock turn operation : ℕ) (id : BlobId) (body : List ℕ) (live : Live) → operation < 2 ^ 31 → length body ≤ shape.chunk → IsServed shape id → partition_of id ≡ (operation - 1) % shape.partitions → live.operation ≡ operation
    → live.requests ≡ [] → DoesJob shape clock (Puts id body) live.op (Drew id (Some body) ∷ []) → BeginsAs shape clock turn operation (put_items operation clock id body) (Stage.UnderWay live)
put_begins shape clock turn operation id body live l small served chosen same none does = λ r i w c t e. put_owned shape r operation clock id body live i w c e l small served chosen same none does

-- a put of too many bytes is over at once
pub large_begins : (shape : Shape) (clock turn operation size : ℕ) (body : List ℕ) → operation < 2 ^ 31 → shape.chunk < size → length body ≡ size
    → BeginsAs shape clock turn operation (begin_items operation (Begun.Put [] body 0 [] []) (Stage.Over operation (Outcome.TooLarge size) turn)) (Stage.Over operation (Outcome.TooLarge size) turn)
large_begins shape clock turn operation size body l large long = λ r i w c t e.
    over_owned shape r operation (Begun.Put [] body 0 [] []) (Outcome.TooLarge size) turn i e l ((λ none. sym long), large, none_drawn shape r operation (Begun.Put [] body 0 [] []) i e) (λ x. absurd cc) t

-- what is neither composite nor a chunk is simple
pub simple_else : (id : BlobId) → is_composite id ≡ false → is_chunk id ≡ false → is_simple id ≡ true
simple_else id c k = go (kind_of id) c k
  where
    go : (kind : Kind) → same_kind kind Kind.Composite ≡ false → same_kind kind Kind.Chunk ≡ false → same_kind kind Kind.Simple ≡ true
    go Kind.Simple c k = refl
    go Kind.Composite c k = absurd cc
    go Kind.Chunk c k = absurd cc

pub all_session : (operation : ℕ) (begun : Begun) (stage : Stage) → AllSession (begin_items operation begun stage)
all_session operation begun (Stage.UnderWay live) = (refl, tt)
all_session operation begun (Stage.Over number outcome turn) = (refl, (refl, tt))

pub begin_marks : (operation : ℕ) (begun : Begun) (stage : Stage) → marks_of (begin_items operation begun stage) ≡ Begin operation begun ∷ []
begin_marks operation begun (Stage.UnderWay live) = refl
begin_marks operation begun (Stage.Over number outcome turn) = refl
