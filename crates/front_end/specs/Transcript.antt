-- The transcript: one line for each entry of the past, but none for a wait.
use Rattle.std.specs.Prelude.{ℕ, List, [], ◌∷◌, ◌++◌, length, flat_map, codes}
use Rattle.std.specs.Fmt.{decimal}
use Rattle.hex.specs.Hex.{encode_lower}
use Rattle.front_end.specs.declared.tags.Tag.{Tag}
pub use Rattle.front_end.specs.Script.{name_of, name_or_none}
use Rattle.quorum_op.specs.declared.cause.Cause.{Cause}
use Rattle.quorum_op.specs.declared.outcome.Outcome.{Outcome}
use Rattle.world_model.specs.declared.history.HistoryMark.{HistoryMark}
use Rattle.world_model.specs.declared.history.HistoryMark.TheVariants.{Begin, Drew, End, Ordered}
use Rattle.world_model.specs.declared.order.Order.{Order}
use Rattle.world_model.specs.declared.order.PullCause.{PullCause}
use Rattle.world_model.specs.declared.order.Refusal.{Refusal}
use Rattle.world_model.specs.declared.order.Told.{Told}
use Rattle.world_model.specs.declared.order.What.{What}
use Rattle.front_end.specs.declared.history.Entry.{Entry}
use Rattle.front_end.specs.declared.history.Entry.TheVariants.{Mark, Bad, Failed}

-- `-` for no bytes, else lower-case digits
abbrev pub spelled_bytes : List ℕ → List ℕ
spelled_bytes [] = codes "-"
spelled_bytes (b ∷ bytes) = encode_lower (b ∷ bytes)

-- how many bytes, and the bytes
abbrev pub sized_bytes : List ℕ → List ℕ
sized_bytes bytes = decimal (length bytes) ++ 32 ∷ spelled_bytes bytes

unfoldable pub cause_word : Cause → List ℕ
cause_word Cause.Timeout = codes "timeout"
cause_word Cause.Patience = codes "patience"
cause_word Cause.Broken = codes "broken"
cause_word Cause.Full = codes "full"
cause_word Cause.Clash = codes "clash"
cause_word Cause.Gone = codes "gone"
cause_word Cause.Fault = codes "fault"
cause_word Cause.Down = codes "down"
cause_word Cause.Memory = codes "memory"
cause_word Cause.Stray = codes "stray"
cause_word Cause.Cancelled = codes "cancelled"

-- a node that failed, and its cause
abbrev pub failure_words : ℕ × Cause → List ℕ
failure_words failure = codes " " ++ decimal failure.0 ++ codes ":" ++ cause_word failure.1

abbrev pub failures_words : List (ℕ × Cause) → List ℕ
failures_words failed = flat_map failure_words failed

-- a type, or `-` where there is none
abbrev pub type_words : List ℕ → List ℕ
type_words [] = codes "-"
type_words (c ∷ ctype) = c ∷ ctype

-- when a blob was made, its type and its metadata bytes
abbrev pub properties_words : ℕ → List ℕ → List ℕ → List ℕ
properties_words created ctype meta = codes " " ++ decimal created ++ codes " " ++ type_words ctype ++ codes " " ++ spelled_bytes meta

-- the words that say how an operation ended
unfoldable pub outcome_words : Outcome → List ℕ
outcome_words (Outcome.Put id) = codes "ok " ++ encode_lower id
outcome_words Outcome.Deleted2 = codes "ok"
outcome_words (Outcome.Bytes bytes) = codes "ok " ++ sized_bytes bytes
outcome_words (Outcome.Info size created ctype meta) = codes "ok " ++ decimal size ++ properties_words created ctype meta
outcome_words Outcome.Deleted = codes "deleted"
outcome_words Outcome.NotFound = codes "notfound"
outcome_words (Outcome.Unavailable id failed) = codes "unavailable " ++ encode_lower id ++ failures_words failed
outcome_words Outcome.Cancelled = codes "cancelled"
outcome_words (Outcome.TooLarge size) = codes "toolarge " ++ decimal size
outcome_words (Outcome.BadRange size) = codes "badrange " ++ decimal size
outcome_words Outcome.NotWhole = codes "notwhole"
outcome_words Outcome.NoFile = codes "nofile"
outcome_words Outcome.NoId = codes "noid"
outcome_words Outcome.NoPartition = codes "nopartition"
outcome_words (Outcome.Missing id) = codes "missing " ++ encode_lower id
outcome_words (Outcome.Corrupt id) = codes "corrupt " ++ encode_lower id
outcome_words Outcome.Memory = codes "memory"

-- an order of a script is one of these
unfoldable pub order_words : Order → List ℕ
order_words (Order.Stop node) = codes "stop " ++ decimal node
order_words (Order.Restart node) = codes "restart " ++ decimal node
order_words _ = []

-- what is wrong with a disk
unfoldable pub what_words : What → List ℕ
what_words (What.Damaged place) = codes "damaged " ++ decimal place
what_words What.OtherShape = codes "othershape"
what_words (What.OtherSize size) = codes "othersize " ++ decimal size

-- What came of an order. A stop and a restart come to nothing else.
unfoldable pub told_words : Told → List ℕ
told_words Told.Done = codes "ok"
told_words Told.Already = codes "already"
told_words (Told.Refused refusal) = codes "refused " ++ decimal refusal.partition ++ codes " " ++ what_words refusal.what
told_words (Told.Stuck PullCause.Fault) = codes "stuck fault"
told_words (Told.Stuck PullCause.Memory) = codes "stuck memory"
told_words _ = []

abbrev pub ordered_line : Order → Told → List ℕ
ordered_line order told = order_words order ++ codes " " ++ told_words told ++ 10 ∷ []

-- a disk that isn't opened, by its node and its partition, so that no line of the script is run
abbrev pub refusal_line : Refusal → List ℕ
refusal_line refusal = codes "refused " ++ decimal refusal.node ++ codes " " ++ decimal refusal.partition ++ codes " " ++ what_words refusal.what ++ 10 ∷ []

-- the network failed
abbrev pub failed_line : Order → List ℕ
failed_line order = order_words order ++ codes " failed" ++ 10 ∷ []

abbrev pub mark_line : List Tag → HistoryMark → List ℕ
mark_line tags (Begin n request) = name_of tags n ++ codes " begun" ++ 10 ∷ []
mark_line tags (Drew n id) = name_of tags n ++ codes " drew " ++ encode_lower id ++ 10 ∷ []
mark_line tags (End n outcome) = name_of tags n ++ codes " " ++ outcome_words outcome ++ 10 ∷ []
mark_line tags (Ordered order told) = ordered_line order told
mark_line tags _ = []

abbrev pub bad_line : ℕ → List ℕ
bad_line number = codes "line " ++ decimal number ++ codes " bad" ++ 10 ∷ []

unfoldable pub entry_line : List Tag → Entry → List ℕ
entry_line tags (Mark mark) = mark_line tags mark
entry_line tags (Bad number) = bad_line number
entry_line tags (Failed order) = failed_line order

abbrev pub transcript_of : List Tag → List Entry → List ℕ
transcript_of tags entries = flat_map (entry_line tags) entries
