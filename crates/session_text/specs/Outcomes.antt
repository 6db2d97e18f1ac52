-- The words that say how an operation ended.
use Rattle.std.specs.Prelude.{◌≡◌, ◌≢◌, ℕ, ◌^◌, ◌<◌, List, [], ◌∷◌, ◌++◌, length, flat_map, true, codes}
use Rattle.std.specs.Fmt.{decimal}
use Rattle.std.specs.List.{AllByRecursion, list_all}
use Rattle.hex.specs.Hex.{IsBytes, encode_lower}
use Rattle.blob_id.specs.Blob.{is_type_byte}
use Rattle.blob_id.specs.Id.{IsId}
use Rattle.quorum_op.specs.declared.cause.Cause.{Cause}
use Rattle.quorum_op.specs.declared.outcome.Outcome.{Outcome}

-- `-` for no bytes, else lower-case digits
abbrev pub spelled_bytes : List ℕ → List ℕ
spelled_bytes [] = codes "-"
spelled_bytes (b ∷ bytes) = encode_lower (b ∷ bytes)

-- how many bytes, and the bytes
abbrev pub sized_bytes : List ℕ → List ℕ
sized_bytes bytes = decimal (length bytes) ++ 32 ∷ spelled_bytes bytes

unfoldable pub cause_word : Cause → List ℕ
cause_word Cause.Timeout = codes "timeout"
cause_word Cause.Patience = codes "patience"
cause_word Cause.Broken = codes "broken"
cause_word Cause.Full = codes "full"
cause_word Cause.Clash = codes "clash"
cause_word Cause.Gone = codes "gone"
cause_word Cause.Fault = codes "fault"
cause_word Cause.Down = codes "down"
cause_word Cause.Memory = codes "memory"
cause_word Cause.Stray = codes "stray"
cause_word Cause.Cancelled = codes "cancelled"

-- a node that failed, and its cause
abbrev pub failure_words : ℕ × Cause → List ℕ
failure_words failure = codes " " ++ decimal failure.0 ++ codes ":" ++ cause_word failure.1

abbrev pub failures_words : List (ℕ × Cause) → List ℕ
failures_words failed = flat_map failure_words failed

-- a type, or `-` where there is none
abbrev pub type_words : List ℕ → List ℕ
type_words [] = codes "-"
type_words (c ∷ ctype) = c ∷ ctype

-- when a blob was made, its type and its metadata bytes
abbrev pub properties_words : ℕ → List ℕ → List ℕ → List ℕ
properties_words created ctype meta = codes " " ++ decimal created ++ codes " " ++ type_words ctype ++ codes " " ++ spelled_bytes meta

-- the words that say how an operation ended
unfoldable pub outcome_words : Outcome → List ℕ
outcome_words (Outcome.Put id) = codes "ok " ++ encode_lower id
outcome_words Outcome.Deleted2 = codes "ok"
outcome_words (Outcome.Bytes bytes) = codes "ok " ++ sized_bytes bytes
outcome_words (Outcome.Info size created ctype meta) = codes "ok " ++ decimal size ++ properties_words created ctype meta
outcome_words Outcome.Deleted = codes "deleted"
outcome_words Outcome.NotFound = codes "notfound"
outcome_words (Outcome.Unavailable id failed) = codes "unavailable " ++ encode_lower id ++ failures_words failed
outcome_words Outcome.Cancelled = codes "cancelled"
outcome_words (Outcome.TooLarge size) = codes "toolarge " ++ decimal size
outcome_words (Outcome.BadRange size) = codes "badrange " ++ decimal size
outcome_words Outcome.NotWhole = codes "notwhole"
outcome_words Outcome.NoFile = codes "nofile"
outcome_words Outcome.NoId = codes "noid"
outcome_words Outcome.NoPartition = codes "nopartition"
outcome_words (Outcome.Missing id) = codes "missing " ++ encode_lower id
outcome_words (Outcome.Corrupt id) = codes "corrupt " ++ encode_lower id
outcome_words Outcome.Memory = codes "memory"

-- a number of a node, which has 32 bits
abbrev pub IsFailure : ℕ × Cause → Type 0
IsFailure failure = failure.0 < 2 ^ 32

-- The parts of an outcome lie in their ranges: ids are ids, numbers have 64 bits, a type is printable and no `-` alone.
unfoldable pub IsOutcome : Outcome → Type 0
IsOutcome (Outcome.Put id) = IsId id
IsOutcome (Outcome.Bytes bytes) = IsBytes bytes × (length bytes < 2 ^ 64)
IsOutcome (Outcome.Info size created ctype meta) = (size < 2 ^ 64) × (created < 2 ^ 64) × (list_all is_type_byte ctype ≡ true) × (ctype ≢ codes "-") × IsBytes meta
IsOutcome (Outcome.Unavailable id failed) = IsId id × AllByRecursion IsFailure failed
IsOutcome (Outcome.TooLarge size) = size < 2 ^ 64
IsOutcome (Outcome.BadRange size) = size < 2 ^ 64
IsOutcome (Outcome.Missing id) = IsId id
IsOutcome (Outcome.Corrupt id) = IsId id
IsOutcome _ = Unit {0}
