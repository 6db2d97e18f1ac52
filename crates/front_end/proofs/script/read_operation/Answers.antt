use Rattle.front_end.proofs.ScriptLemmas.{five_words}
use Rattle.front_end.proofs.script.read_operation.Goals as goal

pub returns-in-len4-up : goal.returns-in-len4-up
returns-in-len4-up c = five_words (λ more. more.now) c.args.tags.now c.args.word.now c.args.rest.now c.in-len4-up.len_at_least
