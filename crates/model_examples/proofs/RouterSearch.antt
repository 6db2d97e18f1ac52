-- Whether a record is one that a router kept, by computing.
use Rattle.std.proofs.Common.{◌≡◌, ◌≢◌, ℕ, zero, suc, ◌+◌, ◌-◌, min, replicate, ◌^◌, ◌==◌, nat_lt, Bool, true, false, ◌&&◌, List, [], ◌∷◌, length, take, drop, ◌*◌, Option, Some, None, refl, sym, ap, ◌∙◌, inl, inr, subst}
use Rattle.blob_id.specs.declared.blob.Blob.{Blob}
use Rattle.blob_id.specs.declared.id.BlobId.{BlobId}
use Rattle.blob_id.specs.Id.{partition_of}
use Rattle.quorum_op.specs.declared.cause.Cause.{Cause}
use Rattle.quorum_op.specs.declared.cause.Finding.{Finding}
use Rattle.quorum_op.specs.declared.cause.Verdict.{Verdict}
use Rattle.quorum_op.specs.declared.outcome.Outcome.{Outcome}
use Rattle.req_frame.specs.declared.frame.Body.{Body}
use Rattle.req_frame.specs.declared.frame.Frame.{Frame}
use Rattle.world_model.specs.declared.history.Begun.{Begun}
use Rattle.world_model.specs.declared.history.HistoryMark.TheVariants.{Begin, Drew, End, Cancel, Wait, Level, Drain, Ordered}
use Rattle.world_model.specs.declared.shape.Shape.{Shape}
use Rattle.world_model.specs.declared.step.Step.TheVariants.{Send, Refused, Exec, Torn, Hand, Now, Cut, Stop, Restart, Merge, Compact}
use Rattle.world_model.specs.Frames.{frame_in}
use Rattle.world_model.specs.Lists.{At, Has, Earlier}
use Rattle.world_model.specs.Notes.{Aim, Ended, Piece, aim_of, asked, clock_of, ends_of, is_drained, notes_of, operation_of, request_of, router_frame, verdict_of}
use Rattle.world_model.specs.Outcomes.{BeganAt, DeleteFollows, Follows, GetFollows, IsChunkAt, IsRead, IsReadIn, ReadsParts, IsUnavailable, IsWhole, OfRequest, PutFollows, ReadFails, ReadsSimple, delete_piece, failures, named, names_id, put_piece, read_piece}
use Rattle.world_model.specs.Pieces.{Window, joined_parts, listed, metadata_of, parts, past, touches, is_chunk, is_composite, is_simple, seen, window_of}
use Rattle.world_model.specs.Ordered.{is_cancelled}
use Rattle.world_model.specs.Record.{Part, Top, Chunk, Item, Marked, Drawn, Aimed, Took, Given, Withheld, Decided, Record, turns_in}
use Rattle.world_model.specs.Router.{AsksFor, Decides, DeletesPart, DrawsPart, Ends, GaveUp, GoesFirst, IsStoredAt, IsStoredIn, ListsStored, IsAtCancel, IsNext, Keeps, MayDelete, MayPut, MayRead, MaySend, MaySendFor, MaySendForNone, PutsPart, ReadsPart, RefusesSome, SendsFrame, SendsNow, SendsSome, begun_in, is_delete, is_get, number_of, part_blob}
use Rattle.world_model.specs.Rules.{Rules}
use Rattle.world_model.specs.Shape.{replica_of}
use Rattle.model_examples.proofs.TestLemmas.{AllOrdered, all_pass, is_below, not_decided, not_drawn_for, not_ended, ordered, rising, undone, undrawn_for, unended}
use Rattle.world_model.proofs.CellLaws.{same_number}
use Rattle.model_examples.proofs.Searches.{below, blob, both, bytes, either, failures_are, found, not_less, number, outcome_is, some_in, unless, up_to, verdict_is, when, where_so}

-- ---- what stands in a record

abbrev pub BegunIn : Record → ℕ → Type 0
BegunIn r operation = (begun : Begun) × (then : Record) × BeganAt r operation begun then

abbrev pub begun_later : (item : Item) (r : Record) (operation : ℕ) → BegunIn r operation → BegunIn (item ∷ r) operation
begun_later item r operation h = (h.0, h.1, inr h.2)

pub begun_here : (other : ℕ) (begun : Begun) (r : Record) (operation : ℕ) → other ≡ operation → BeganAt (Marked (Begin other begun) ∷ r) operation begun r
begun_here other begun r operation e = inl (ap (λ (n : ℕ). Marked (Begin n begun) ∷ r) (sym e))

abbrev pub begun_found : (r : Record) (operation : ℕ) → Option (BegunIn r operation)
begun_found [] operation = None
begun_found (Marked (Begin other begun) ∷ before) operation = elim (number other operation) [
  | Some e ↦ Some (begun, before, begun_here other begun before operation e)
  | None ↦ found (begun_later (Marked (Begin other begun)) before operation) (begun_found before operation)
]
begun_found (item ∷ before) operation = found (begun_later item before operation) (begun_found before operation)

abbrev pub has_cancel : (r : Record) (operation : ℕ) → Option (Has r (Marked (Cancel operation)))
has_cancel [] operation = None
has_cancel (Marked (Cancel other) ∷ before) operation = either (found (λ e. ap (λ (n : ℕ). Marked (Cancel n)) (sym e)) (number other operation)) (has_cancel before operation)
has_cancel (item ∷ before) operation = found inr (has_cancel before operation)

pub end_parts : (o p : ℕ) (a b : Outcome) → ((o ≡ p) × (a ≡ b)) → Marked (End p b) ≡ Marked (End o a)
end_parts o p a b h = rw (h.0, h.1) refl

abbrev pub has_end : (r : Record) (operation : ℕ) (outcome : Outcome) → Option (Has r (Marked (End operation outcome)))
has_end [] operation outcome = None
has_end (Marked (End other how) ∷ before) operation outcome = either (found (end_parts other operation how outcome) (both (number other operation) (outcome_is how outcome))) (has_end before operation outcome)
has_end (item ∷ before) operation outcome = found inr (has_end before operation outcome)

abbrev pub DecidedIn : Record → ℕ → Outcome → Type 0
DecidedIn r operation outcome = (at : Record) × Earlier (Decided operation outcome ∷ at) r

abbrev pub decided_later : (item : Item) (r : Record) (operation : ℕ) (outcome : Outcome) → DecidedIn r operation outcome → DecidedIn (item ∷ r) operation outcome
decided_later item r operation outcome h = (h.0, inr h.1)

pub decided_here : (o p : ℕ) (a b : Outcome) (r : Record) → ((o ≡ p) × (a ≡ b)) → Earlier (Decided p b ∷ r) (Decided o a ∷ r)
decided_here o p a b r h = inl (rw (h.0, h.1) refl)

abbrev pub decided_in : (r : Record) (operation : ℕ) (outcome : Outcome) → Option (DecidedIn r operation outcome)
decided_in [] operation outcome = None
decided_in (Decided other how ∷ before) operation outcome = elim (both (number other operation) (outcome_is how outcome)) [
  | Some e ↦ Some (before, decided_here other operation how outcome before e)
  | None ↦ found (decided_later (Decided other how) before operation outcome) (decided_in before operation outcome)
]
decided_in (item ∷ before) operation outcome = found (decided_later item before operation outcome) (decided_in before operation outcome)

-- ---- drawn ids

abbrev pub part_is : (a b : Part) → Option (a ≡ b)
part_is Top Top = Some refl
part_is (Chunk k) (Chunk n) = found (ap Chunk) (number k n)
part_is a b = None

-- an id drawn for an attempt at a part, of which the test finds Q
abbrev pub DrawnWith : Record → ℕ → Part → ℕ → (BlobId → Type 0) → Type 0
DrawnWith r operation part attempt Q = (id : BlobId) × (b : Blob) × Has r (Drawn operation part attempt id b) × Q id

abbrev pub drawn_later : (item : Item) (r : Record) (operation : ℕ) (part : Part) (attempt : ℕ) (Q : BlobId → Type 0) → DrawnWith r operation part attempt Q → DrawnWith (item ∷ r) operation part attempt Q
drawn_later item r operation part attempt Q h = (h.0, h.1, inr h.2, h.3)

pub drawn_here : (o p : ℕ) (a b : Part) (m n : ℕ) (id : BlobId) (c : Blob) (r : Record) → ((o ≡ p) × ((a ≡ b) × (m ≡ n))) → Has (Drawn o a m id c ∷ r) (Drawn p b n id c)
drawn_here o p a b m n id c r h = inl (rw (h.0, h.1.0, h.1.1) refl)

abbrev pub drawn_with : (r : Record) (operation : ℕ) (part : Part) (attempt : ℕ) (Q : BlobId → Type 0) → ((id : BlobId) → Option (Q id)) → Option (DrawnWith r operation part attempt Q)
drawn_with [] operation part attempt Q test = None
drawn_with (Drawn o p a id b ∷ before) operation part attempt Q test = elim (both (both (number o operation) (both (part_is p part) (number a attempt))) (test id)) [
  | Some h ↦ Some (id, b, drawn_here o operation p part a attempt id b before h.0, h.1)
  | None ↦ found (drawn_later (Drawn o p a id b) before operation part attempt Q) (drawn_with before operation part attempt Q test)
]
drawn_with (item ∷ before) operation part attempt Q test = found (drawn_later item before operation part attempt Q) (drawn_with before operation part attempt Q test)

pub drawn_parts : (o p : ℕ) (a b : Part) (m n : ℕ) (i j : BlobId) (c d : Blob) → (((o ≡ p) × (a ≡ b)) × ((m ≡ n) × ((i ≡ j) × (c ≡ d)))) → Drawn p b n j d ≡ Drawn o a m i c
drawn_parts o p a b m n i j c d h = rw (h.0.0, h.0.1, h.1.0, h.1.1.0, h.1.1.1) refl

abbrev pub has_drawn : (r : Record) (operation : ℕ) (part : Part) (attempt : ℕ) (id : BlobId) (b : Blob) → Option (Has r (Drawn operation part attempt id b))
has_drawn [] operation part attempt id b = None
has_drawn (Drawn o p a i c ∷ before) operation part attempt id b =
    either (found (drawn_parts o operation p part a attempt i id c b) (both (both (number o operation) (part_is p part)) (both (number a attempt) (both (bytes i id) (blob c b)))))
    (has_drawn before operation part attempt id b)
has_drawn (item ∷ before) operation part attempt id b = found inr (has_drawn before operation part attempt id b)

-- ---- putting

abbrev pub next : (shape : Shape) (before : Record) (operation : ℕ) (part : Part) (attempt : ℕ) → Option (IsNext shape before operation part attempt)
next shape before operation part zero = Some tt
next shape before operation part (suc attempt) =
    drawn_with before operation part attempt (λ id. verdict_of shape (put_piece operation part attempt id) before ≡ Verdict.Unavailable) (λ id. verdict_is (verdict_of shape (put_piece operation part attempt id) before) Verdict.Unavailable)

-- the search goes on with what the first one found
abbrev pub and_then : {A B : Type 0} → (A → Option B) → Option A → Option B
and_then f None = None
and_then f (Some a) = f a

abbrev pub value_in : {A : Type 0} → (o : Option A) → Option ((a : A) × (o ≡ Some a))
value_in None = None
value_in (Some a) = Some (a, refl)

-- an id was drawn by this operation: for which attempt at which part, and what for
abbrev pub DrewIn : Record → ℕ → BlobId → Type 0
DrewIn r operation id = (part : Part) × (attempt : ℕ) × (b : Blob) × Has r (Drawn operation part attempt id b)

abbrev pub drew_later : (item : Item) (r : Record) (operation : ℕ) (id : BlobId) → DrewIn r operation id → DrewIn (item ∷ r) operation id
drew_later item r operation id h = (h.0, h.1, h.2, inr h.3)

pub drew_here : (o p : ℕ) (part : Part) (attempt : ℕ) (i j : BlobId) (b : Blob) (r : Record) → ((o ≡ p) × (i ≡ j)) → Has (Drawn o part attempt i b ∷ r) (Drawn p part attempt j b)
drew_here o p part attempt i j b r h = inl (rw (h.0, h.1) refl)

abbrev pub drew_in : (r : Record) (operation : ℕ) (id : BlobId) → Option (DrewIn r operation id)
drew_in [] operation id = None
drew_in (Drawn o part attempt i b ∷ before) operation id = elim (both (number o operation) (bytes i id)) [
  | Some h ↦ Some (part, attempt, b, drew_here o operation part attempt i id b before h)
  | None ↦ found (drew_later (Drawn o part attempt i b) before operation id) (drew_in before operation id)
]
drew_in (item ∷ before) operation id = found (drew_later item before operation id) (drew_in before operation id)

-- metadata list chunks that are stored
pub stored_here : (before : Record) (operation : ℕ) (p q : Part) (attempt : ℕ) (id : BlobId) (b c : Blob) → Has before (Drawn operation p attempt id b) → ((p ≡ q) × (b ≡ c)) → Has before (Drawn operation q attempt id c)
stored_here before operation p q attempt id b c h e = subst (λ (x : Part). Has before (Drawn operation x attempt id c)) e.0 (subst (λ (x : Blob). Has before (Drawn operation p attempt id x)) e.1 h)

abbrev pub stored_at : (shape : Shape) (before : Record) (operation : ℕ) (then : Record) (k : ℕ) (id : BlobId) (part : List ℕ) → Option (IsStoredAt shape before operation then k id part)
stored_at shape before operation then k id part =
    and_then (λ d. found (λ h. (d.1, stored_here before operation d.0 (Chunk k) d.1 id d.2 (part_blob then part) d.3 h.0, h.1))
    (both (both (part_is d.0 (Chunk k)) (blob d.2 (part_blob then part))) (verdict_is (verdict_of shape (put_piece operation (Chunk k) d.1 id) before) Verdict.Ok)))
    (drew_in before operation id)

abbrev pub stored_in : (shape : Shape) (before : Record) (operation : ℕ) (then : Record) (k : ℕ) (ids : List BlobId) (parts : List (List ℕ)) → Option (IsStoredIn shape before operation then k ids parts)
stored_in shape before operation then k [] [] = Some tt
stored_in shape before operation then k (id ∷ ids) (part ∷ rest) = found (λ h. (h.0, h.1)) (both (stored_at shape before operation then k id part) (stored_in shape before operation then (suc k) ids rest))
stored_in shape before operation then k _ _ = None

abbrev pub lists_stored : (shape : Shape) (before : Record) (operation : ℕ) (then : Record) (body : List ℕ) (b : Blob) → Option (ListsStored shape before operation then body b)
lists_stored shape before operation then body b =
    and_then (λ m. found (λ h. record { metadata = m.0; reads = m.1; total = h.0.0; chunk = h.0.1; stored = h.1 })
    (both (both (number m.0.total (length body)) (number m.0.chunk shape.chunk)) (stored_in shape before operation then 0 m.0.ids (parts (length m.0.ids) m.0.chunk body))))
    (value_in (metadata_of b.body))

-- what a put puts for its one blob, for its metadata or for a chunk
abbrev pub puts : (shape : Shape) (before : Record) (operation : ℕ) (then : Record) (body ctype meta : List ℕ) (part : Part) (id : BlobId) (b : Blob) → Option (PutsPart shape before operation then body ctype meta part id b)
puts shape before operation then body ctype meta Top id b =
    either (found (λ h. (h.0, h.1.0, h.1.1)) (both (up_to (length body) shape.chunk) (both (when (is_simple id)) (blob b (record { created = clock_of then; ctype = ctype; meta = meta; body = body })))))
    (found (λ h. (h.0.0, h.0.1, h.1.0, h.1.1)) (both (both (below shape.chunk (length body)) (when (is_composite id))) (both (blob b (record { created = clock_of then; ctype = ctype; meta = meta; body = b.body })) (lists_stored shape before operation then body b))))
puts shape before operation then body ctype meta (Chunk k) id b =
    found (λ h. (h.0.0, h.0.1, h.1.0, h.1.1)) (both (both (below shape.chunk (length body)) (below (k * shape.chunk) (length body))) (both (when (is_chunk id)) (blob b (part_blob then (take shape.chunk (drop (k * shape.chunk) body))))))

abbrev pub draws : (rules : Rules) (before : Record) (operation : ℕ) (part : Part) (attempt : ℕ) (id : BlobId) (b : Blob) (begun : Begun) (then : Record) → BeganAt before operation begun then → Option (DrawsPart rules before operation part attempt id b)
draws rules before operation part attempt id b (Begun.Put file body ttl ctype meta) then e = found
    (λ h. record { file = file; body = body; ttl = ttl; ctype = ctype; meta = meta; then = then; began = e; live = undone operation before h.0.0; small = h.0.1; puts = h.1.0.0; tries = h.1.0.1; next = h.1.1.0.0; once = undrawn_for operation part attempt before h.1.1.0.1; chosen = h.1.1.1.0; within = h.1.1.1.1 })
    (both (both (when (all_pass (not_decided operation) before)) (up_to (length body) rules.limit))
    (both (both (puts rules.shape before operation then body ctype meta part id b) (below attempt rules.attempts))
    (both (both (next rules.shape before operation part attempt) (when (all_pass (not_drawn_for operation part attempt) before)))
    (both (number (partition_of id) (rules.choose operation (number_of rules.shape body part) attempt)) (below (partition_of id) rules.shape.partitions)))))
draws rules before operation part attempt id b begun then e = None

-- ---- sending

abbrev pub named_in : (begun : Begun) → Option ((id : BlobId) × (named begun ≡ Some id))
named_in (Begun.Get (Some id) range file) = Some (id, refl)
named_in (Begun.Info (Some id)) = Some (id, refl)
named_in (Begun.Delete (Some id)) = Some (id, refl)
named_in begun = None

abbrev pub whole : (id : BlobId) → Option (IsWhole id)
whole id = either (when (is_simple id)) (when (is_composite id))

abbrev pub asks_named : (shape : Shape) (before : Record) (operation : ℕ) (h : BegunIn before operation) → ((id : BlobId) × (named h.0 ≡ Some id)) → Option ((top : BlobId) × AsksFor shape before operation top)
asks_named shape before operation h n = found
    (λ t. (n.0, record { begun = h.0; then = h.1; began = h.2; names = n.1; whole = t.0; within = t.1.0; live = unended operation before t.1.1 }))
    (both (whole n.0) (both (below (partition_of n.0) shape.partitions) (when (all_pass (not_ended operation) before))))

abbrev pub asks_for : (shape : Shape) (before : Record) (operation : ℕ) → Option ((top : BlobId) × AsksFor shape before operation top)
asks_for shape before operation = and_then (λ h. and_then (asks_named shape before operation h) (named_in h.0)) (begun_found before operation)

abbrev pub BroughtIn : List Ended → Type 0
BroughtIn all = (b : Blob) × (ended : Ended) × Has all ended × (ended.finding ≡ Finding.Yes) × (ended.blob ≡ Some b)

abbrev pub yes_is : (f : Finding) → Option (f ≡ Finding.Yes)
yes_is Finding.Yes = Some refl
yes_is f = None

abbrev pub brought_later : (e : Ended) (all : List Ended) → BroughtIn all → BroughtIn (e ∷ all)
brought_later e all h = (h.0, h.1, inr h.2, h.3, h.4)

abbrev pub brought_in : (all : List Ended) → Option (BroughtIn all)
brought_in [] = None
brought_in (e ∷ all) = elim (both (yes_is e.finding) (value_in e.blob)) [
  | Some h ↦ Some (h.1.0, e, inl refl, h.0, h.1.1)
  | None ↦ found (brought_later e all) (brought_in all)
]

abbrev pub ReadIn : Shape → Record → ℕ → Part → BlobId → Type 0
ReadIn shape before operation part id = (b : Blob) × IsRead shape before operation part id b

abbrev pub read_in : (shape : Shape) (before : Record) (operation : ℕ) (part : Part) (id : BlobId) → Option (ReadIn shape before operation part id)
read_in shape before operation part id = found (λ h. (h.1.0, (h.0, (h.1.1, h.1.2, h.1.3, h.1.4))))
    (both (verdict_is (verdict_of shape (read_piece operation part id) before) Verdict.Ok) (brought_in (ends_of shape (read_piece operation part id) before)))

-- a chunk that the operation's read of an id listed
abbrev pub at_place : (xs : List BlobId) (k : ℕ) (x : BlobId) → Option (At xs k x)
at_place [] k x = None
at_place (y ∷ ys) zero x = bytes x y
at_place (y ∷ ys) (suc k) x = at_place ys k x

abbrev pub chunk_at : (shape : Shape) (before : Record) (operation : ℕ) (id : BlobId) (k : ℕ) (chunk : BlobId) → Option (IsChunkAt shape before operation id k chunk)
chunk_at shape before operation id k chunk = and_then (λ r. found (λ h. record { blob = r.0; read = r.1; at = h }) (at_place (listed id r.0) k chunk)) (read_in shape before operation Top id)

abbrev pub reads_part : (shape : Shape) (before : Record) (operation : ℕ) (begun : Begun) (top : BlobId) (part : Part) (id : BlobId) → Option (ReadsPart shape before operation begun top part id)
reads_part shape before operation begun top Top id = found (λ h. (h.0, h.1)) (both (bytes id top) (either (unless (is_delete begun)) (when (is_composite top))))
reads_part shape before operation begun top (Chunk k) id = found (λ h. (h.0, h.1)) (both (when (is_get begun)) (chunk_at shape before operation top k id))

abbrev pub may_read : (shape : Shape) (before : Record) (operation : ℕ) (part : Part) (id : BlobId) → Option (MayRead shape before operation part id)
may_read shape before operation part id =
    and_then (λ a. found (λ h. record { top = a.0; asks = a.1; reads = h }) (reads_part shape before operation a.1.begun a.0 part id)) (asks_for shape before operation)

abbrev pub deletes_part : (shape : Shape) (before : Record) (operation : ℕ) (top : BlobId) (part : Part) (id : BlobId) → Option (DeletesPart shape before operation top part id)
deletes_part shape before operation top Top id = found (λ h. (h.0, inl h.1)) (both (bytes id top) (when (is_simple top)))
deletes_part shape before operation top (Chunk k) id = None

abbrev pub may_delete : (shape : Shape) (before : Record) (operation : ℕ) (part : Part) (id : BlobId) (at : ℕ) → Option (MayDelete shape before operation part id at)
may_delete shape before operation part id at =
    and_then (λ a. found (λ h. record { top = a.0; asks = a.1; delete = h.0; when = h.1.0; deletes = h.1.1 })
    (both (when (is_delete a.1.begun)) (both (number at (clock_of a.1.then)) (deletes_part shape before operation a.0 part id))))
    (asks_for shape before operation)

abbrev pub may_put : (before : Record) (operation : ℕ) (part : Part) (attempt : ℕ) (id : BlobId) (b : Blob) → Option (MayPut before operation part attempt id b)
may_put before operation part attempt id b =
    found (λ h. record { drew = h.0; live = unended operation before h.1 }) (both (has_drawn before operation part attempt id b) (when (all_pass (not_ended operation) before)))

-- a draw of this operation behind that of an id
abbrev pub DrewBehind : Record → ℕ → Part → ℕ → BlobId → Blob → Type 0
DrewBehind r operation part attempt id b = (p : Part) × (a : ℕ) × (other : BlobId) × (c : Blob) × (then : Record) × Earlier (Drawn operation p a other c ∷ then) r × Has then (Drawn operation part attempt id b)

abbrev pub behind_later : (item : Item) (r : Record) (operation : ℕ) (part : Part) (attempt : ℕ) (id : BlobId) (b : Blob) → DrewBehind r operation part attempt id b → DrewBehind (item ∷ r) operation part attempt id b
behind_later item r operation part attempt id b h = (h.0, h.1, h.2, h.3, h.4, inr h.5, h.6)

pub behind_here : (o : ℕ) (p : Part) (a : ℕ) (other : BlobId) (c : Blob) (r : Record) (operation : ℕ) (part : Part) (attempt : ℕ) (id : BlobId) (b : Blob) → ((o ≡ operation) × Has r (Drawn operation part attempt id b)) → DrewBehind (Drawn o p a other c ∷ r) operation part attempt id b
behind_here o p a other c r operation part attempt id b h = (p, a, other, c, r, inl (ap (λ (n : ℕ). Drawn n p a other c ∷ r) (sym h.0)), h.1)

abbrev pub drew_behind : (r : Record) (operation : ℕ) (part : Part) (attempt : ℕ) (id : BlobId) (b : Blob) → Option (DrewBehind r operation part attempt id b)
drew_behind [] operation part attempt id b = None
drew_behind (Drawn o p a other c ∷ before) operation part attempt id b = elim (both (number o operation) (has_drawn before operation part attempt id b)) [
  | Some h ↦ Some (behind_here o p a other c before operation part attempt id b h)
  | None ↦ found (behind_later (Drawn o p a other c) before operation part attempt id b) (drew_behind before operation part attempt id b)
]
drew_behind (item ∷ before) operation part attempt id b = found (behind_later item before operation part attempt id b) (drew_behind before operation part attempt id b)

-- the operation became done otherwise than by storing
abbrev pub FailedIn : Record → ℕ → Type 0
FailedIn r operation = (outcome : Outcome) × Has r (Decided operation outcome) × ((id' : BlobId) → outcome ≢ Outcome.Put id')

abbrev pub stores : Outcome → Bool
stores (Outcome.Put id) = true
stores _ = false

pub not_stored : (outcome : Outcome) → stores outcome ≡ false → (id' : BlobId) → outcome ≢ Outcome.Put id'
not_stored outcome h id' e = let q : stores outcome ≡ true = ap stores e in cc

abbrev pub failed_later : (item : Item) (r : Record) (operation : ℕ) → FailedIn r operation → FailedIn (item ∷ r) operation
failed_later item r operation h = (h.0, inr h.1, h.2)

abbrev pub failed_in : (r : Record) (operation : ℕ) → Option (FailedIn r operation)
failed_in [] operation = None
failed_in (Decided other how ∷ before) operation = elim (both (number other operation) (found (not_stored how) (unless (stores how)))) [
  | Some h ↦ Some (how, inl (ap (λ (n : ℕ). Decided n how) (sym h.0)), h.1)
  | None ↦ found (failed_later (Decided other how) before operation) (failed_in before operation)
]
failed_in (item ∷ before) operation = found (failed_later item before operation) (failed_in before operation)

abbrev pub gave_up_drawn : (shape : Shape) (r : Record) (operation : ℕ) (id : BlobId) → DrewIn r operation id → Option (GaveUp shape r operation id)
gave_up_drawn shape r operation id d = found
    (λ h. record { part = d.0; attempt = d.1; blob = d.2; drew = d.3; why = h })
    (either (found (λ h. (h.0, h.1)) (both (verdict_is (verdict_of shape (put_piece operation d.0 d.1 id) r) Verdict.Unavailable) (drew_behind r operation d.0 d.1 id d.2))) (failed_in r operation))

abbrev pub may_send_for : (shape : Shape) (before : Record) (operation : ℕ) (aim : Aim) (body : Body) → Option (MaySendFor shape before operation aim body)
may_send_for shape before operation aim (Body.Put id b) = may_put before operation aim.part aim.attempt id b
may_send_for shape before operation aim (Body.Get id) = found (λ h. (h.0, h.1)) (both (number aim.attempt 0) (may_read shape before operation aim.part id))
may_send_for shape before operation aim (Body.Peek id) = found (λ h. (h.0, h.1)) (both (number aim.attempt 0) (may_read shape before operation aim.part id))
may_send_for shape before operation aim (Body.Delete id at) = found (λ h. (h.0, h.1)) (both (number aim.attempt 0) (may_delete shape before operation aim.part id at))
may_send_for shape before operation aim body = None

abbrev pub may_send_for_none : (shape : Shape) (before : Record) (operation : ℕ) (body : Body) → Option (MaySendForNone shape before operation body)
may_send_for_none shape before operation (Body.Delete id at) = found (λ h. (h.0, h.1)) (both (number at 0) (and_then (gave_up_drawn shape before operation id) (drew_in before operation id)))
may_send_for_none shape before operation body = None

abbrev pub may_send : (shape : Shape) (before : Record) (operation : ℕ) (aim : Option Aim) (body : Body) → Option (MaySend shape before operation aim body)
may_send shape before operation (Some aim) body = may_send_for shape before operation aim body
may_send shape before operation None body = may_send_for_none shape before operation body

abbrev pub sends_frame : (shape : Shape) (before : Record) (node : ℕ) (f : Frame) → Option (SendsFrame shape before node f)
sends_frame shape before node f = found
    (λ h. record { rises = rising f.correlation before h.0.0; numbered = h.0.1; stands = h.1.0; may = h.1.1 })
    (both (both (when (all_pass (is_below f.correlation) (asked before))) (below 0 (request_of f.correlation)))
    (both (some_in (replica_of shape f.partition node)) (may_send shape before (operation_of f.correlation) (aim_of f.correlation before) f.body)))

abbrev pub sends_now : (shape : Shape) (before : Record) (node : ℕ) (f : Frame) → Option (SendsNow shape before node f)
sends_now shape before node f = found (λ h. (h.0, h.1)) (both (sends_frame shape before node f) (unless (is_drained node before)))

abbrev pub sends_some : (shape : Shape) (before : Record) (node : ℕ) (o : Option Frame) → Option (SendsSome shape before node o)
sends_some shape before node None = None
sends_some shape before node (Some f) = sends_now shape before node f

abbrev pub refuses_some : (shape : Shape) (before : Record) (node : ℕ) (o own : Option Frame) → Option (RefusesSome shape before node o own)
refuses_some shape before node None own = None
refuses_some shape before node (Some f) None = Some tt
refuses_some shape before node (Some f) (Some own) = sends_now shape before node own

pub not_own : (n : ℕ) → (n == 0) ≡ false → n ≢ 0
not_own n h e = let q : (n == 0) ≡ true = ap (λ (m : ℕ). m == 0) e in cc

-- ---- ending

abbrev pub at_cancel_in : (r : Record) (operation : ℕ) → Option (IsAtCancel r operation)
at_cancel_in [] operation = None
at_cancel_in (Marked (Cancel other) ∷ before) operation = number other operation
at_cancel_in (Marked (Drew o id) ∷ before) operation = found (λ h. (refl, h)) (at_cancel_in before operation)
at_cancel_in (Marked (End o how) ∷ before) operation = found (λ h. (refl, h)) (at_cancel_in before operation)
at_cancel_in (Drawn o p a id b ∷ before) operation = at_cancel_in before operation
at_cancel_in (Aimed c p a ∷ before) operation = at_cancel_in before operation
at_cancel_in (Took step ∷ before) operation = at_cancel_in before operation
at_cancel_in (Withheld node f ∷ before) operation = at_cancel_in before operation
at_cancel_in (Decided o how ∷ before) operation = at_cancel_in before operation
at_cancel_in (item ∷ before) operation = None

pub not_cancelled : (outcome : Outcome) → is_cancelled outcome ≡ false → outcome ≢ Outcome.Cancelled
not_cancelled outcome h e = let q : is_cancelled outcome ≡ true = ap is_cancelled e in cc

abbrev pub if_cancelled : (r : Record) (operation : ℕ) (outcome : Outcome) → Option (outcome ≡ Outcome.Cancelled → IsAtCancel r operation)
if_cancelled r operation Outcome.Cancelled = found (λ h e. h) (at_cancel_in r operation)
if_cancelled r operation outcome = found (λ n e. absurd (not_cancelled outcome n e)) (unless (is_cancelled outcome))

abbrev pub is_unavailable : (shape : Shape) (before : Record) (piece : Piece) (failed : List (ℕ × Cause)) → Option (IsUnavailable shape before piece failed)
is_unavailable shape before piece failed = found (λ h. (h.0, h.1)) (both (verdict_is (verdict_of shape piece before) Verdict.Unavailable) (failures_are failed (failures shape piece.id (notes_of shape piece before))))

abbrev pub put_follows : (rules : Rules) (before : Record) (operation : ℕ) (file body : List ℕ) (outcome : Outcome) → Option (PutFollows rules before operation file body outcome)
put_follows rules before operation file body (Outcome.Put id) =
    and_then (λ d. found (λ h. (d.1, d.2, subst (λ (p : Part). Has before (Drawn operation p d.1 id d.2)) h.0 d.3, h.1))
    (both (part_is d.0 Top) (verdict_is (verdict_of rules.shape (put_piece operation Top d.1 id) before) Verdict.Ok)))
    (drew_in before operation id)
put_follows rules before operation file body (Outcome.Unavailable id failed) =
    and_then (λ d. found (λ h. (d.0, d.1, d.2, d.3, h.0, h.1)) (both (number rules.attempts (suc d.1)) (is_unavailable rules.shape before (put_piece operation d.0 d.1 id) failed))) (drew_in before operation id)
put_follows rules before operation file body outcome = None

abbrev pub read_fails : (shape : Shape) (before : Record) (operation : ℕ) (id : BlobId) (outcome : Outcome) → Option (ReadFails shape before operation id outcome)
read_fails shape before operation id Outcome.Deleted = verdict_is (verdict_of shape (read_piece operation Top id) before) Verdict.Gone
read_fails shape before operation id Outcome.NotFound = verdict_is (verdict_of shape (read_piece operation Top id) before) Verdict.NotFound
read_fails shape before operation id (Outcome.Unavailable other failed) = found (λ h. (h.0, h.1)) (both (bytes other id) (is_unavailable shape before (read_piece operation Top id) failed))
read_fails shape before operation id outcome = None

abbrev pub reads_simple : (shape : Shape) (before : Record) (operation : ℕ) (id : BlobId) (range : Option (ℕ × ℕ)) (bs : List ℕ) → Option (ReadsSimple shape before operation id range bs)
reads_simple shape before operation id range bs =
    and_then (λ r. found (λ h. record { kind = h.0; blob = r.0; read = r.1; within = h.1.0; shows = h.1.1 })
    (both (when (is_simple id)) (both (up_to ((window_of range (length r.0.body)).from + (window_of range (length r.0.body)).len) (length r.0.body)) (bytes bs (seen (window_of range (length r.0.body)) r.0.body)))))
    (read_in shape before operation Top id)

-- what the chunks of a read are: zeros where nothing is read
abbrev pub read_or : (size : ℕ) {P : Blob → Type 0} → Option ((b : Blob) × P b) → List ℕ
read_or size None = replicate size 0
read_or size (Some r) = r.0.body

abbrev pub contents_of : (shape : Shape) (before : Record) (operation chunk left k : ℕ) (ids : List BlobId) → List (List ℕ)
contents_of shape before operation chunk left k [] = []
contents_of shape before operation chunk left k (id ∷ ids) = read_or (min chunk left) (read_in shape before operation (Chunk k) id) ∷ contents_of shape before operation chunk (left - chunk) (suc k) ids

abbrev pub ReadAs : Shape → Record → ℕ → ℕ → BlobId → List ℕ → Type 0
ReadAs shape before operation k id part = (b : Blob) × IsRead shape before operation (Chunk k) id b × (b.body ≡ part)

abbrev pub read_as : (shape : Shape) (before : Record) (operation k : ℕ) (id : BlobId) (part : List ℕ) → Option (ReadAs shape before operation k id part)
read_as shape before operation k id part = and_then (λ r. found (λ h. (r.0, r.1, h)) (bytes r.0.body part)) (read_in shape before operation (Chunk k) id)

abbrev pub parts_read : (shape : Shape) (before : Record) (operation chunk left : ℕ) (w : Window) (k : ℕ) (ids : List BlobId) (contents : List (List ℕ)) → Option (IsReadIn shape before operation chunk left w k ids contents)
parts_read shape before operation chunk left w k [] [] = Some tt
parts_read shape before operation chunk left w k (id ∷ ids) (part ∷ rest) = found (λ h. (h.0, h.1.0, h.1.1))
    (both (number (length part) (min chunk left)) (both (where_so (touches w (length part)) (read_as shape before operation k id part)) (parts_read shape before operation chunk (left - chunk) (past w (length part)) (suc k) ids rest)))
parts_read shape before operation chunk left w k _ _ = None

abbrev pub reads_parts : (shape : Shape) (before : Record) (operation : ℕ) (id : BlobId) (range : Option (ℕ × ℕ)) (bs : List ℕ) → Option (ReadsParts shape before operation id range bs)
reads_parts shape before operation id range bs =
    and_then (λ r. and_then (λ m.
    let contents : List (List ℕ) = contents_of shape before operation m.0.chunk m.0.total 0 m.0.ids in
    found (λ h. record { kind = h.0.0; blob = r.0; read = r.1; metadata = m.0; reads = m.1; within = h.0.1; contents = contents; parts = h.1.0; shows = h.1.1 })
    (both (both (when (is_composite id)) (up_to ((window_of range m.0.total).from + (window_of range m.0.total).len) m.0.total))
    (both (parts_read shape before operation m.0.chunk m.0.total (window_of range m.0.total) 0 m.0.ids contents) (bytes bs (seen (window_of range m.0.total) (joined_parts contents))))))
    (value_in (metadata_of r.0.body)))
    (read_in shape before operation Top id)

abbrev pub get_follows : (shape : Shape) (before : Record) (operation : ℕ) (id : BlobId) (range : Option (ℕ × ℕ)) (outcome : Outcome) → Option (GetFollows shape before operation id range outcome)
get_follows shape before operation id range (Outcome.Bytes bs) = either (reads_simple shape before operation id range bs) (reads_parts shape before operation id range bs)
get_follows shape before operation id range Outcome.Deleted = found inl (read_fails shape before operation id Outcome.Deleted)
get_follows shape before operation id range Outcome.NotFound = found inl (read_fails shape before operation id Outcome.NotFound)
get_follows shape before operation id range (Outcome.Unavailable other failed) = found inl (read_fails shape before operation id (Outcome.Unavailable other failed))
get_follows shape before operation id range outcome = None

abbrev pub delete_follows : (shape : Shape) (before : Record) (operation : ℕ) (id : BlobId) (outcome : Outcome) → Option (DeleteFollows shape before operation id outcome)
delete_follows shape before operation id Outcome.Deleted2 = found (λ h. (h.0, inl h.1)) (both (verdict_is (verdict_of shape (delete_piece operation Top id) before) Verdict.Ok) (when (is_simple id)))
delete_follows shape before operation id outcome = None

-- which outcomes of a request follow; of an info, of chunks and of metadata none is found
abbrev pub of_request : (rules : Rules) (before : Record) (operation : ℕ) (begun : Begun) (outcome : Outcome) → Option (OfRequest rules before operation begun outcome)
of_request rules before operation (Begun.Put file body ttl ctype meta) outcome = put_follows rules before operation file body outcome
of_request rules before operation (Begun.Get (Some id) range file) outcome = get_follows rules.shape before operation id range outcome
of_request rules before operation (Begun.Delete (Some id)) outcome = delete_follows rules.shape before operation id outcome
of_request rules before operation begun outcome = None

abbrev pub none_is : {A : Type 0} → (o : Option A) → Option (o ≡ None)
none_is None = Some refl
none_is (Some a) = None

abbrev pub follows : (rules : Rules) (before : Record) (operation : ℕ) (begun : Begun) (outcome : Outcome) → Option (Follows rules before operation begun outcome)
follows rules before operation begun Outcome.Cancelled = has_cancel before operation
follows rules before operation begun Outcome.Memory = Some tt
follows rules before operation begun Outcome.NoId = found (λ h. (h.0, h.1)) (both (when (names_id begun)) (none_is (named begun)))
follows rules before operation begun Outcome.NotWhole = and_then (λ n. found (λ h. (n.0, n.1, h)) (when (is_chunk n.0))) (named_in begun)
follows rules before operation begun Outcome.NoPartition = and_then (λ n. found (λ h. (n.0, n.1, h.0, h.1)) (both (whole n.0) (up_to rules.shape.partitions (partition_of n.0)))) (named_in begun)
follows rules before operation begun (Outcome.Put id) = of_request rules before operation begun (Outcome.Put id)
follows rules before operation begun Outcome.Deleted2 = of_request rules before operation begun Outcome.Deleted2
follows rules before operation begun (Outcome.Bytes bs) = of_request rules before operation begun (Outcome.Bytes bs)
follows rules before operation begun Outcome.Deleted = of_request rules before operation begun Outcome.Deleted
follows rules before operation begun Outcome.NotFound = of_request rules before operation begun Outcome.NotFound
follows rules before operation begun (Outcome.Unavailable id failed) = of_request rules before operation begun (Outcome.Unavailable id failed)
follows rules before operation begun outcome = None

abbrev pub decides_begun : (rules : Rules) (before : Record) (operation : ℕ) (outcome : Outcome) → BegunIn before operation → Option (Decides rules before operation outcome)
decides_begun rules before operation outcome b = found
    (λ h. record { begun = b.0; began = (b.1, b.2); follows = h.0; once = undone operation before h.1.0; at_cancel = h.1.1 })
    (both (follows rules before operation b.0 outcome) (both (when (all_pass (not_decided operation) before)) (if_cancelled before operation outcome)))

pub goes_not : (then : Record) (other : ℕ) (at : Record) (operation : ℕ) → ((nat_lt (turns_in then) (turns_in at) ≡ false) × (((turns_in then == turns_in at) && nat_lt other operation) ≡ false)) → GoesFirst then other at operation → ⊥
goes_not then other at operation h g = elim g [
  | inl l ↦ not_less (turns_in then) (turns_in at) h.0 l
  | inr e ↦ (
      let s : (turns_in then == turns_in at) ≡ true = ap (λ (n : ℕ). n == turns_in at) e.0 ∙ same_number (turns_in at) in
      let f : nat_lt other operation ≡ false = ap (λ (b : Bool). b && nat_lt other operation) (sym s) ∙ h.1 in
      not_less other operation f e.1)
]

-- what became done and goes first has ended
abbrev pub first_ended : (then : Record) (other : ℕ) (how : Outcome) (at : Record) (operation : ℕ) (before : Record) → Option (GoesFirst then other at operation → Has before (Marked (End other how)))
first_ended then other how at operation before = elim (both (unless (nat_lt (turns_in then) (turns_in at))) (unless ((turns_in then == turns_in at) && nat_lt other operation))) [
  | Some h ↦ Some (λ g. absurd (goes_not then other at operation h g))
  | None ↦ found (λ h g. h) (has_end before other how)
]

abbrev pub all_ordered : (r at : Record) (operation : ℕ) (before : Record) → Option (AllOrdered r at operation before)
all_ordered [] at operation before = Some tt
all_ordered (Decided other how ∷ then) at operation before = found (λ h. (h.0, h.1)) (both (all_ordered then at operation before) (first_ended then other how at operation before))
all_ordered (Marked mark ∷ then) at operation before = all_ordered then at operation before
all_ordered (Drawn o p a id b ∷ then) at operation before = all_ordered then at operation before
all_ordered (Aimed c p a ∷ then) at operation before = all_ordered then at operation before
all_ordered (Took step ∷ then) at operation before = all_ordered then at operation before
all_ordered (Given event ∷ then) at operation before = all_ordered then at operation before
all_ordered (Withheld node f ∷ then) at operation before = all_ordered then at operation before

abbrev pub OrderOf : Record → Record → ℕ → Outcome → Type 0
OrderOf before at operation outcome = outcome ≢ Outcome.Cancelled → AllOrdered before at operation before

abbrev pub order_of : (before at : Record) (operation : ℕ) (outcome : Outcome) → Option (OrderOf before at operation outcome)
order_of before at operation Outcome.Cancelled = Some (λ c. absurd (c refl))
order_of before at operation outcome = found (λ h c. h) (all_ordered before at operation before)

abbrev pub ends_decided : (before : Record) (operation : ℕ) (outcome : Outcome) → DecidedIn before operation outcome → Option (Ends before operation outcome)
ends_decided before operation outcome d = found
    (λ h. record { at = d.0; decided = d.1; order = λ c. ordered before d.0 operation before (h.0 c); once = unended operation before h.1 })
    (both (order_of before d.0 operation outcome) (when (all_pass (not_ended operation) before)))

-- of orders and of metadata none is found
abbrev pub keeps : (rules : Rules) (item : Item) (before : Record) → Option (Keeps rules item before)
keeps rules (Marked (Begin operation begun)) before = found (λ h. record { next = h.0; within = h.1 }) (both (number operation (1 + begun_in before)) (below operation (2 ^ 31)))
keeps rules (Marked (Drew operation id)) before = None
keeps rules (Marked (End operation outcome)) before = and_then (ends_decided before operation outcome) (decided_in before operation outcome)
keeps rules (Marked (Ordered order told)) before = None
keeps rules (Marked (Cancel operation)) before = Some tt
keeps rules (Marked (Wait operation)) before = Some tt
keeps rules (Marked (Level p a b same)) before = Some tt
keeps rules (Marked (Drain node on)) before = Some tt
keeps rules (Drawn operation part attempt id b) before = and_then (λ h. draws rules before operation part attempt id b h.0 h.1 h.2) (begun_found before operation)
keeps rules (Decided operation outcome) before = and_then (decides_begun rules before operation outcome) (begun_found before operation)
keeps rules (Took (Send from node frame)) before = elim (unless (from == 0)) [
  | Some h ↦ Some (λ z. absurd (not_own from h z))
  | None ↦ found (λ h z. h) (sends_some rules.shape before node (frame_in frame))
]
keeps rules (Took (Refused node frame)) before = refuses_some rules.shape before node (frame_in frame) (router_frame (frame_in frame))
keeps rules (Took (Exec send reply)) before = Some tt
keeps rules (Took (Torn send)) before = Some tt
keeps rules (Took (Hand reply)) before = Some tt
keeps rules (Took (Now ms)) before = Some tt
keeps rules (Took (Cut node)) before = Some tt
keeps rules (Took (Stop node)) before = Some tt
keeps rules (Took (Restart node done)) before = Some tt
keeps rules (Took (Merge node partition reply place torn)) before = Some tt
keeps rules (Took (Compact node partition reply)) before = Some tt
keeps rules (Given event) before = Some tt
keeps rules (Aimed c p a) before = Some tt
keeps rules (Withheld node f) before = found (λ h. (h.0, h.1)) (both (sends_frame rules.shape before node f) (when (is_drained node before)))
