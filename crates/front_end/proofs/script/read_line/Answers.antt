use Rattle.std.proofs.Common.{◌≡◌, ◌∙◌, Option, Some, None, List, ℕ, IfSome, sym}
use Rattle.std.proofs.lemmas.Result.{IfOk-weaker}
use Rattle.front_end.specs.declared.tags.Tag.{Tag}
use Rattle.front_end.specs.declared.script.Command.{Command}
use Rattle.front_end.specs.Script.{command_of}
use Rattle.front_end.specs.Spelling.{Spells}
use Rattle.front_end.proofs.SpellingLemmas.{line_takes, line_again}
use Rattle.front_end.proofs.script.read_line.Goals as goal

spelled : (tags : List Tag) (line : List ℕ) (read : Option Command) → read ≡ command_of tags line → IfSome read (λ command. Spells tags command line)
spelled tags line None e = tt
spelled tags line (Some command) e = line_takes tags line command (sym e)

pub returns-clause-spelled : goal.returns-clause-spelled
returns-clause-spelled c = IfOk-weaker c.read_command.result _ _ (λ read e. spelled c.args.tags.now c.args.line.now read e) c.read_command.ensures

pub returns-clause-only : goal.returns-clause-only
returns-clause-only c = λ command spells. IfOk-weaker c.read_command.result _ _ (λ read e. e ∙ line_again c.args.tags.now c.args.line.now command spells) c.read_command.ensures
