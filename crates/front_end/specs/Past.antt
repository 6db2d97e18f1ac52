-- What ties a past to the script that was carried out.
use Rattle.std.specs.Prelude.{◌≡◌, ◌⊎◌, ℕ, ◌+◌, List, [], ◌∷◌, ◌++◌, length, nat_le, ◌&&◌, Bool, true, false, Option, None, Some, ◌==◌, not, if◌then◌else◌, option_and_then, MatchBool}
use Rattle.front_end.specs.declared.tags.Tag.{Tag}
use Rattle.front_end.specs.declared.script.Command.{Command}
use Rattle.front_end.specs.declared.script.Command.TheVariants as command
use Rattle.front_end.specs.declared.script.Target.{Target}
use Rattle.quorum_op.specs.declared.outcome.Outcome.{Outcome}
use Rattle.world_model.specs.declared.history.Begun.{Begun}
use Rattle.world_model.specs.declared.history.HistoryMark.{HistoryMark}
use Rattle.world_model.specs.declared.history.HistoryMark.TheVariants.{Begin, Drew, End, Ordered, Wait}
use Rattle.world_model.specs.declared.order.Order.{Order}
use Rattle.front_end.specs.declared.history.Entry.{Entry}
use Rattle.front_end.specs.declared.history.Entry.TheVariants.{Mark, Bad, Failed}
use Rattle.front_end.specs.Script.{Asked, tag_number}

-- the history: the marks among the entries
abbrev pub marks_of : List Entry → List HistoryMark
marks_of [] = []
marks_of (Mark mark ∷ entries) = mark ∷ marks_of entries
marks_of (Bad number ∷ entries) = marks_of entries
marks_of (Failed order ∷ entries) = marks_of entries

-- a line was bad
abbrev pub has_bad : List Entry → Bool
has_bad [] = false
has_bad (Mark mark ∷ entries) = has_bad entries
has_bad (Bad number ∷ entries) = true
has_bad (Failed order ∷ entries) = has_bad entries

-- the answer that an outcome gives: a put's id
abbrev pub answer_in : Outcome → Option (List ℕ)
answer_in (Outcome.Put id) = Some id
answer_in _ = None

abbrev pub answer_or : Option (List ℕ) → Option (List ℕ) → Option (List ℕ)
answer_or before None = before
answer_or before (Some id) = Some id

-- the answer of operation n, where it had one before this entry or this entry is the end that gives it
abbrev pub answer_after : Option (List ℕ) → Entry → ℕ → Option (List ℕ)
answer_after before (Mark (End m outcome)) n = if m == n then answer_or before (answer_in outcome) else before
answer_after before _ n = before

abbrev pub answer_along : Option (List ℕ) → List Entry → ℕ → Option (List ℕ)
answer_along before [] n = before
answer_along before (entry ∷ entries) n = answer_along (answer_after before entry n) entries n

-- the id that operation n was answered with, where its end stands among the entries and gives one
abbrev pub answer_of : List Entry → ℕ → Option (List ℕ)
answer_of entries n = answer_along None entries n

-- the id that `$TAG` names behind these entries
abbrev pub named_by : List Tag → List Entry → List ℕ → Option (List ℕ)
named_by tags entries tag = option_and_then (answer_of entries) (tag_number tags tag)

-- the id that a line means behind these entries: that which the put with the tag was answered with, if it was, or the one that the line spells
abbrev pub meant_by : List Tag → List Entry → Target → Option (List ℕ)
meant_by tags entries (Target.Tag tag) = named_by tags entries tag
meant_by tags entries (Target.Id id) = Some id

-- whether an entry is what an operation drew or how it ended, and not an entry of a script line
abbrev pub is_later : Entry → Bool
is_later (Mark (Drew n id)) = true
is_later (Mark (End n outcome)) = true
is_later _ = false

-- whether an order is to one of so many nodes
abbrev pub is_to_node : ℕ → Order → Bool
is_to_node nodes (Order.Stop node) = nat_le 1 node && nat_le node nodes
is_to_node nodes (Order.Restart node) = nat_le 1 node && nat_le node nodes
is_to_node nodes _ = false

-- a line is bad that asks for nothing, or orders something of a node that isn't there
abbrev pub IsBad : ℕ → Option Command → Type 0
IsBad nodes None = Unit {0}
IsBad nodes (Some (command.Order order)) = is_to_node nodes order ≡ false
IsBad nodes (Some asks) = ⊥

abbrev pub IsOrder : ℕ → Option Command → Order → Type 0
IsOrder nodes asks order = (asks ≡ Some (command.Order order)) × (is_to_node nodes order ≡ true)

-- An entry is that of the script line, over so many nodes, where these entries stand before it.
abbrev pub IsOwn : ℕ → List Entry → Asked → Entry → Type 0
IsOwn nodes before line (Bad number) = IsBad nodes line.command × (number ≡ line.number)
IsOwn nodes before line (Failed order) = IsOrder nodes line.command order
IsOwn nodes before line (Mark (Ordered order told)) = IsOrder nodes line.command order
IsOwn nodes before line (Mark (Wait t)) = (line.command ≡ Some command.Wait) × (t ≡ None)
IsOwn nodes before line (Mark (Begin n (Begun.Put file body ttl ctype meta))) =
    (tag : List ℕ) × (line.command ≡ Some (command.Put tag body)) × (n ≡ length line.tags + 1) × (file ≡ []) × (ttl ≡ 0) × (ctype ≡ []) × (meta ≡ [])
IsOwn nodes before line (Mark (Begin n (Begun.Get id range file))) =
    (tag : List ℕ) × (of : Target) × (line.command ≡ Some (command.Get tag of)) × (n ≡ length line.tags + 1) × (id ≡ meant_by line.tags before of) × (range ≡ None) × (file ≡ [])
IsOwn nodes before line (Mark (Begin n (Begun.Delete id))) =
    (tag : List ℕ) × (of : Target) × (line.command ≡ Some (command.Delete tag of)) × (n ≡ length line.tags + 1) × (id ≡ meant_by line.tags before of)
IsOwn nodes before line _ = ⊥

-- The entries follow the script: each is that of the next line, but for what was drawn and ended between them.
abbrev pub Follows : ℕ → List Entry → List Entry → List Asked → Type 0
Follows nodes before [] lines = lines ≡ []
Follows nodes before (entry ∷ entries) lines = MatchBool (is_later entry)
    (Follows nodes (before ++ entry ∷ []) entries lines)
    ((line : Asked) × (more : List Asked) × (lines ≡ line ∷ more) × IsOwn nodes before line entry × Follows nodes (before ++ entry ∷ []) entries more)

abbrev pub is_wait : Entry → Bool
is_wait (Mark (Wait t)) = true
is_wait _ = false

-- A wait stands directly behind an entry of a script line, or first.
abbrev pub WaitsStandFirst : Bool → List Entry → Type 0
WaitsStandFirst front [] = Unit {0}
WaitsStandFirst front (entry ∷ entries) = (is_wait entry ≡ true → front ≡ true) × WaitsStandFirst (not (is_later entry)) entries

abbrev pub is_begin : Entry → Bool
is_begin (Mark (Begin n request)) = true
is_begin _ = false

-- The next entry of a script line begins an operation. At `over` it may also be that the script has no more lines.
abbrev pub BeginsNext : Bool → List Entry → Type 0
BeginsNext over [] = over ≡ true
BeginsNext over (entry ∷ entries) = MatchBool (is_later entry) (BeginsNext over entries) (is_begin entry ≡ true)

-- An end stands only while the script waits: behind a wait, or directly before the next operation begins, since one operation is open at a time,
-- or at the end of the script. `waited` tells whether the last entry of a script line before these is a wait.
abbrev pub EndsWhileWaiting : Bool → Bool → List Entry → Type 0
EndsWhileWaiting over waited [] = Unit {0}
EndsWhileWaiting over waited (Mark (End n outcome) ∷ entries) = ((waited ≡ true) ⊎ BeginsNext over entries) × EndsWhileWaiting over waited entries
EndsWhileWaiting over waited (Mark (Drew n id) ∷ entries) = EndsWhileWaiting over waited entries
EndsWhileWaiting over waited (Mark (Wait t) ∷ entries) = EndsWhileWaiting over true entries
EndsWhileWaiting over waited (_ ∷ entries) = EndsWhileWaiting over false entries
