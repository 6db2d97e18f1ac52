use Rattle.std.proofs.Common.{◌≡◌, ◌++◌, drop}
use Rattle.session_text.specs.Pieces.{BeginsWith}
use Rattle.session_text.specs.Outcomes.{failures_words}
use Rattle.session_text.proofs.writing.add_failures.Given as goal

-- what is there with the failures that are left, and what was there before
abbrev pub invariant-loop-node : goal.invariant-loop-node
invariant-loop-node l = record {
  text : l.out.items ++ failures_words (drop l.node-index l.failed) ≡ l.initial.out.items ++ failures_words l.failed;
  kept : BeginsWith l.initial.out.items l.out.items;
}
