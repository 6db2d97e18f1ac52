use Rattle.std.proofs.Common.{rules}
use Rattle.run_words.proofs.PathnameLemmas.{path_is_text}
use Rattle.run_words.proofs.pathnames.Pathname.read.Goals as goal

pub returns-in-Err-clause-usage : goal.returns-in-Err-clause-usage
returns-in-Err-clause-usage c = λ _. absurd (c.in-Err.ensures.cases.0 (path_is_text c.args.text.now (search rules)))
