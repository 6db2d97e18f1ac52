use Rattle.std.proofs.Common.{◌≡◌, ℕ, Option, Some, None, suc, length}
use Rattle.std.specs.List.{list_any}
use Rattle.std.specs.Option.{option_copied}
use Rattle.run_words.specs.Pathnames.{Text, parts, parts_left, is_up}
use Rattle.run_words.proofs.pathnames.goes_up.Given as goal

-- no part in front of what is left is `..`
abbrev pub invariant-loop-left : goal.invariant-loop-left
invariant-loop-left l = list_any is_up (parts_left (option_copied l.left)) ≡ list_any is_up (parts l.text)

abbrev size : Option Text → ℕ
size None = 0
size (Some text) = suc (length text)

abbrev pub decreases-loop-left : goal.decreases-loop-left
decreases-loop-left l = size (option_copied l.left)
