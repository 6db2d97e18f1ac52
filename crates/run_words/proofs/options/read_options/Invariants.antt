use Rattle.std.proofs.Common.{◌≤◌, ◌-◌, ◌↔◌, List, [], drop, length}
use Rattle.run_words.specs.declared.options.Given.{Given}
use Rattle.run_words.specs.Options.{AreOnce}
use Rattle.run_words.proofs.ReadLemmas.{Meets}
use Rattle.run_words.proofs.options.read_options.Given as goal

-- what was read and what is left stand for the same lists of options as all the words
abbrev pub invariant-loop-place : goal.invariant-loop-place
invariant-loop-place l = record {
  once : AreOnce l.options.items;
  same : (all : List Given) → Meets [] (drop 1 l.words) all ↔ Meets l.options.items (drop l.place l.words) all;
  begun : 1 ≤ l.place;
}

abbrev pub decreases-loop-place : goal.decreases-loop-place
decreases-loop-place l = length l.words - l.place
