-- What is another operation's leaves what is kept of an operation as it is.
use Rattle.std.proofs.Common.{◌≡◌, ℕ, ◌^◌, ◌<◌, List, [], ◌∷◌, Some, refl, sym, ap, ◌∙◌, subst, inl, inr}
use Rattle.operation.specs.declared.sending.Sending.{Sending}
use Rattle.quorum_op.specs.declared.outcome.Outcome.{Outcome}
use Rattle.blob_id.specs.declared.blob.Blob.{Blob}
use Rattle.blob_id.specs.declared.id.BlobId.{BlobId}
use Rattle.req_frame.specs.declared.frame.Frame.{Frame}
use Rattle.world_model.specs.declared.history.Begun.{Begun}
use Rattle.world_model.specs.declared.history.HistoryMark.TheVariants.{Begin, End}
use Rattle.world_model.specs.declared.shape.Shape.{Shape}
use Rattle.world_model.specs.declared.step.Step.{Step}
use Rattle.world_model.specs.Frames.{frame_in}
use Rattle.world_model.specs.Notes.{clock_of, events_in, operation_of, router_frame}
use Rattle.world_model.specs.Record.{Part, Item, Aimed, Decided, Drawn, Marked, Took, Withheld, Record, turns_in}
use Rattle.world_model.specs.Router.{begun_in}
use Rattle.op_table.specs.Apart.{IsApart}
use Rattle.op_table.proofs.ApartLaws.{apart_aimed, apart_begun, apart_decided, apart_drawn, apart_ended, apart_refused, apart_sent, apart_withheld, calls_apart}
use Rattle.router_core.specs.declared.live.Live.{Live}
use Rattle.router_core.specs.declared.router.Stage.{Stage}
use Rattle.router_core.specs.Jobs.{Job, Puts, Gets, Deletes, begun_as, piece_for, target_for}
use Rattle.router_core.specs.Stages.{simple_rules, AimsBelow, AimsWithin, IsGoing}
use Rattle.router_core.specs.Fits.{number_of}
use Rattle.router_core.specs.Stands.{AreOthers, Beside, Counts, EachEnds, EachStage, HasLeft, IsOther, OwnsLive, OwnsStage, RestsStage, Waits}
use Rattle.router_core.proofs.AskLaws.{drawn_later}
use Rattle.router_core.proofs.StageLaws.{begun_rises, decided_later, deletes_on, over_apart, under_way_apart}

piece_is_of : (operation : ℕ) (job : Job) → (piece_for operation job).operation ≡ operation
piece_is_of operation (Puts id body) = refl
piece_is_of operation (Gets id) = refl
piece_is_of operation (Deletes id) = refl

below_apart : (item : Item) (r : Record) (operation next : ℕ) → IsApart operation item r → AimsBelow r operation next → AimsBelow (item ∷ r) operation next
below_apart item r operation next apart b = λ c p a h own. elim h [ inl e ↦ absurd (apart.aims c p a e own) | inr t ↦ b c p a t own ]

pub live_apart : (shape : Shape) (item : Item) (r : Record) (live : Live) (rest : List Sending) → IsGoing (simple_rules shape) (item ∷ r) → IsApart live.operation item r → OwnsLive shape r live rest → OwnsLive shape (item ∷ r) live rest
live_apart shape item r live rest going apart o = record {
  job = o.job;
  then = o.then;
  calls = o.calls;
  next = o.next;
  from = o.from;
  under_way = under_way_apart (simple_rules shape) item r live.operation (begun_as o.job) o.then o.next going (begun_rises item r) apart o.under_way;
  aims = below_apart item r live.operation o.next apart o.aims;
  drawn = drawn_later item r live.operation (clock_of o.then) o.job o.drawn;
  does = o.does;
  goes_on = o.goes_on;
  owns = calls_apart shape (piece_for live.operation o.job) (target_for shape (clock_of o.then) o.job) item r live.requests o.calls rest (subst (λ (n : ℕ). IsApart n item r) (sym (piece_is_of live.operation o.job)) apart) o.owns;
  some = o.some;
  ahead = o.ahead;
  numbered = o.numbered;
  counted = o.counted;
  for_piece = o.for_piece;
  kept_all = o.kept_all;
}

-- what waits for replies still does
pub waits_apart : (shape : Shape) (item : Item) (r : Record) (live : Live) → IsGoing (simple_rules shape) (item ∷ r) → IsApart live.operation item r → Waits shape r live → Waits shape (item ∷ r) live
unfolding live_apart
waits_apart shape item r live going apart w = (live_apart shape item r live [] going apart w.0, w.1, w.2)

left_apart : (shape : Shape) (item : Item) (r : Record) (operation : ℕ) (outcome : Outcome) (turn : ℕ) → IsGoing (simple_rules shape) (item ∷ r) → IsApart operation item r → HasLeft shape r operation outcome turn → HasLeft shape (item ∷ r) operation outcome turn
left_apart shape item r operation outcome turn going apart l = record {
  since = decided_later item r operation outcome turn l.since;
  over = over_apart (simple_rules shape) item r operation outcome going (begun_rises item r) apart l.over;
  deletes = deletes_on shape item r operation outcome (λ id blob e. apart.draws Part.Top 0 id blob e) l.deletes;
}

pub stage_apart : (shape : Shape) (item : Item) (r : Record) (stage : Stage) → IsGoing (simple_rules shape) (item ∷ r) → IsApart (number_of stage) item r → OwnsStage shape r stage → OwnsStage shape (item ∷ r) stage
stage_apart shape item r (Stage.UnderWay live) going apart o = live_apart shape item r live [] going apart o
stage_apart shape item r (Stage.Over operation outcome turn) going apart o = left_apart shape item r operation outcome turn going apart o

pub rests_apart : (shape : Shape) (item : Item) (r : Record) (stage : Stage) → IsGoing (simple_rules shape) (item ∷ r) → IsApart (number_of stage) item r → RestsStage shape r stage → RestsStage shape (item ∷ r) stage
rests_apart shape item r (Stage.UnderWay live) going apart o = (live_apart shape item r live [] going apart o.0, waits_apart shape item r live going apart o.1)
rests_apart shape item r (Stage.Over operation outcome turn) going apart o = (left_apart shape item r operation outcome turn going apart o.0, tt)

-- ---- all the others

-- the item is this operation's alone
abbrev pub IsOwnItem : ℕ → Item → Record → Type 0
IsOwnItem operation item r = (other : ℕ) → (other ≡ operation → ⊥) → other < 2 ^ 31 → IsApart other item r

pub more_apart : (shape : Shape) (item : Item) (r : Record) (operation : ℕ) (stages : List Stage) → IsGoing (simple_rules shape) (item ∷ r) → IsOwnItem operation item r → EachStage (IsOther operation) stages → EachStage (OwnsStage shape r) stages → EachStage (OwnsStage shape (item ∷ r)) stages
more_apart shape item r operation [] going own others each = tt
more_apart shape item r operation (stage ∷ stages) going own others each =
    (stage_apart shape item r stage going (own (number_of stage) others.0.0 others.0.1) each.0, more_apart shape item r operation stages going own others.1 each.1)

pub rest_apart : (shape : Shape) (item : Item) (r : Record) (operation : ℕ) (stages : List Stage) → IsGoing (simple_rules shape) (item ∷ r) → IsOwnItem operation item r → EachStage (IsOther operation) stages → EachStage (RestsStage shape r) stages → EachStage (RestsStage shape (item ∷ r)) stages
rest_apart shape item r operation [] going own others each = tt
rest_apart shape item r operation (stage ∷ stages) going own others each =
    (rests_apart shape item r stage going (own (number_of stage) others.0.0 others.0.1) each.0, rest_apart shape item r operation stages going own others.1 each.1)

-- an item that changes neither the clock nor a count, and decides no other operation
pub record IsPlain (operation : ℕ) (item : Item) (r : Record) : Type 0 where
  pub clock : clock_of (item ∷ r) ≡ clock_of r
  pub events : events_in (item ∷ r) ≡ events_in r
  pub begun : begun_in (item ∷ r) ≡ begun_in r
  pub turns : turns_in (item ∷ r) ≡ turns_in r
  pub decides : (other : ℕ) (outcome : Outcome) → Decided other outcome ≡ item → other ≡ operation

-- what became done has its end still, or is kept
pub ends_stay : (operation : ℕ) (beside : Beside) (item : Item) (r : Record) → beside.at ≡ Some operation → ((other : ℕ) (outcome : Outcome) → Decided other outcome ≡ item → other ≡ operation) → EachEnds beside r → EachEnds beside (item ∷ r)
ends_stay operation beside item r at own ended = λ other outcome h. elim h [
  | inl e ↦ inr (inr (inr (at ∙ ap (λ (n : ℕ). Some n) (sym (own other outcome e)))))
  | inr m ↦ elim (ended other outcome m) [
    | inl a ↦ inl a
    | inr b ↦ elim b [
      | inl c ↦ inr (inl c)
      | inr d ↦ elim d [ inl x ↦ inr (inr (inl (inr x))) | inr y ↦ inr (inr (inr y)) ]
    ]
  ]
]

-- Behind an item of one operation all that is kept beside it stays.
pub beside_stays : (shape : Shape) (clock events operation : ℕ) (beside : Beside) (item : Item) (r : Record) → AreOthers operation beside → IsOwnItem operation item r → IsPlain operation item r → AimsWithin (item ∷ r) → IsGoing (simple_rules shape) (item ∷ r)
    → Counts shape clock events beside r → Counts shape clock events beside (item ∷ r)
beside_stays shape clock events operation beside item r others own plain aims going c = record {
  clock_is = c.clock_is ∙ sym plain.clock;
  events_are = c.events_are ∙ sym plain.events;
  begun_are = c.begun_are ∙ sym plain.begun;
  turns_are = c.turns_are ∙ sym plain.turns;
  aims = aims;
  going = going;
  rest = rest_apart shape item r operation beside.rest going own others.rest c.rest;
  more = more_apart shape item r operation beside.more going own others.more c.more;
  ended = ends_stay operation beside item r others.at plain.decides c.ended;
}

-- ---- which items are so

pub own_sent : (operation node : ℕ) (bytes : List ℕ) (f : Frame) (before : Record) → frame_in bytes ≡ Some f → operation_of f.correlation ≡ operation → IsOwnItem operation (Took (Step.Send 0 node bytes)) before
own_sent operation node bytes f before reads own = λ other apart low. apart_sent other node bytes f before reads (λ e. apart (sym e ∙ own))

pub own_refused : (operation node : ℕ) (bytes : List ℕ) (f : Frame) (before : Record) → frame_in bytes ≡ Some f → router_frame (Some f) ≡ Some f → operation_of f.correlation ≡ operation → IsOwnItem operation (Took (Step.Refused node bytes)) before
own_refused operation node bytes f before reads router own = λ other apart low. apart_refused other node bytes f before reads (ap router_frame reads ∙ router) (λ e. apart (sym e ∙ own))

pub own_withheld : (operation node : ℕ) (f : Frame) (before : Record) → operation_of f.correlation ≡ operation → IsOwnItem operation (Withheld node f) before
own_withheld operation node f before own = λ other apart low. apart_withheld other node f before (λ e. apart (sym e ∙ own))

pub own_aimed : (operation correlation : ℕ) (part : Part) (attempt : ℕ) (before : Record) → operation_of correlation ≡ operation → IsOwnItem operation (Aimed correlation part attempt) before
own_aimed operation correlation part attempt before own = λ other apart low. apart_aimed other correlation part attempt before (λ e. apart (sym e ∙ own))

pub own_decided : (operation : ℕ) (outcome : Outcome) (before : Record) → IsOwnItem operation (Decided operation outcome) before
own_decided operation outcome before = λ other apart low. apart_decided other operation outcome before (λ e. apart (sym e))

pub own_drawn : (operation : ℕ) (part : Part) (attempt : ℕ) (id : BlobId) (blob : Blob) (before : Record) → IsOwnItem operation (Drawn operation part attempt id blob) before
own_drawn operation part attempt id blob before = λ other apart low. apart_drawn other operation part attempt id blob before low (λ e. apart (sym e))

pub own_begun : (operation : ℕ) (begun : Begun) (before : Record) → IsOwnItem operation (Marked (Begin operation begun)) before
own_begun operation begun before = λ other apart low. apart_begun other operation begun before low

pub own_ended : (operation : ℕ) (outcome : Outcome) (before : Record) → IsOwnItem operation (Marked (End operation outcome)) before
own_ended operation outcome before = λ other apart low. apart_ended other operation outcome before low (λ e. apart (sym e))
