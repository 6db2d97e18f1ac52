-- How the record goes on where an operation begins.
use Rattle.std.specs.Prelude.{◌≡◌, ℕ, ◌+◌, ◌≤◌, ◌++◌, true, List, [], ◌∷◌, Option, Some, None}
use Rattle.blob_id.specs.declared.id.BlobId.{BlobId}
use Rattle.blob_id.specs.Id.{partition_of}
use Rattle.quorum_op.specs.declared.outcome.Outcome.{Outcome}
use Rattle.world_model.specs.declared.history.Begun.{Begun}
use Rattle.world_model.specs.declared.history.HistoryMark.TheVariants.{Begin}
use Rattle.world_model.specs.declared.shape.Shape.{Shape}
use Rattle.world_model.specs.Notes.{clock_of}
use Rattle.world_model.specs.Pieces.{is_chunk, is_simple}
use Rattle.world_model.specs.Record.{Top, Marked, Decided, Drawn, Record, turns_in}
use Rattle.world_model.specs.Router.{begun_in}
use Rattle.router_core.specs.declared.router.Stage.{Stage}
use Rattle.router_core.specs.Stages.{simple_rules, AimsWithin, IsGoing}
use Rattle.router_core.specs.Fits.{RouterView}
use Rattle.router_core.specs.Jobs.{blob_for}
use Rattle.router_core.specs.Stands.{At, OwnsStage, Stands, around}

-- it begins, and may be over at once
abbrev pub begin_items : ℕ → Begun → Stage → Record
begin_items operation begun (Stage.Over number outcome turn) = Decided operation outcome ∷ Marked (Begin operation begun) ∷ []
begin_items operation begun _ = Marked (Begin operation begun) ∷ []

-- a put begins with the id that it draws
abbrev pub put_items : ℕ → (moment : ℕ) → BlobId → (body : List ℕ) → Record
put_items operation moment id body = Drawn operation Top 0 id (blob_for moment body) ∷ Marked (Begin operation (Begun.Put [] body 0 [] [])) ∷ []

-- the next operation begins with these items, at this moment and in this turn, and then stands so
abbrev pub BeginsAs : Shape → (clock turn operation : ℕ) → (items : Record) → Stage → Type 0
BeginsAs shape clock turn operation items stage =
    (record' : Record) → IsGoing (simple_rules shape) record' → AimsWithin record' → clock ≡ clock_of record' → turn ≡ turns_in record' + 1 → operation ≡ begun_in record' + 1 → OwnsStage shape (items ++ record') stage

-- one that begins beside those that are live stands so behind these items, and is the one that the router works at
abbrev pub BeginsBeside : RouterView → (items : Record) → Stage → Type 0
BeginsBeside router items stage =
    (record' : Record) → Stands router record' → At router.shape (λ r. OwnsStage router.shape r stage) router.clock router.events (around (router.begun + 1) (router.turns + 1) (router.begun + 1) router.stages []) (items ++ record')

-- why an operation on an id isn't begun: no id is named, or it is of a chunk, or of no partition
abbrev pub IsRefused : Shape → Option BlobId → Outcome → Type 0
IsRefused shape id Outcome.NoId = id ≡ None
IsRefused shape id Outcome.NotWhole = (named : BlobId) × (id ≡ Some named) × (is_chunk named ≡ true)
IsRefused shape id Outcome.NoPartition = (named : BlobId) × (id ≡ Some named) × (is_simple named ≡ true) × (shape.partitions ≤ partition_of named)
IsRefused shape id _ = ⊥

-- a router behind the begin of one that stands so
abbrev pub with_stage : RouterView → Stage → RouterView
with_stage router stage = record {
  shape = router.shape;
  clock = router.clock;
  events = router.events;
  begun = router.begun + 1;
  turns = router.turns + 1;
  stages = router.stages ++ stage ∷ [];
}
