use Rattle.session_text.proofs.LineLemmas.{found, only}
use Rattle.session_text.proofs.LineRefusalLemmas.{answer_is}
use Rattle.session_text.proofs.reading.read_line.Goals as goal

pub returns-clause-spelled : goal.returns-clause-spelled
returns-clause-spelled c = found c.args.scope.now c.args.line.now c.read_command.result c.read_command.ensures

pub returns-clause-only : goal.returns-clause-only
returns-clause-only c = λ command spells. only c.args.scope.now c.args.line.now c.read_command.result command c.read_command.ensures spells

pub returns-clause-refused : goal.returns-clause-refused
returns-clause-refused c = answer_is c.args.scope.now c.args.line.now c.read_command.result c.read_command.ensures
