-- What a session keeps of its past: everything but the bytes of bodies, which nothing needs any more.
use Rattle.std.specs.Prelude.{◌≡◌, ℕ, List, [], Option}
use Rattle.quorum_op.specs.declared.outcome.Outcome.{Outcome}
use Rattle.world_model.specs.declared.history.Begun.{Begun}
use Rattle.world_model.specs.declared.history.HistoryMark.{HistoryMark}
use Rattle.world_model.specs.declared.history.HistoryMark.TheVariants.{Begin, End}
use Rattle.front_end.specs.declared.history.Entry.{Entry}
use Rattle.front_end.specs.declared.history.Entry.TheVariants.{Mark, Bad, Failed}
use Rattle.front_end.specs.Past.{answer_after}

abbrev pub outline_begun : Begun → Begun
outline_begun (Begun.Put file body ttl ctype meta) = Begun.Put file [] ttl ctype meta
outline_begun request = request

abbrev pub outline_outcome : Outcome → Outcome
outline_outcome (Outcome.Bytes bytes) = Outcome.Bytes []
outline_outcome outcome = outcome

abbrev pub outline_mark : HistoryMark → HistoryMark
outline_mark (Begin n request) = Begin n (outline_begun request)
outline_mark (End n outcome) = End n (outline_outcome outcome)
outline_mark mark = mark

abbrev pub outline_entry : Entry → Entry
outline_entry (Mark mark) = Mark (outline_mark mark)
outline_entry (Bad number) = Bad number
outline_entry (Failed order) = Failed order

-- an entry that has no bytes of a body, and gives no operation an answer
pub record IsPlain (entry : Entry) : Type 0 where
  pub outlined : outline_entry entry ≡ entry
  pub silent : (before : Option (List ℕ)) (n : ℕ) → answer_after before entry n ≡ before
