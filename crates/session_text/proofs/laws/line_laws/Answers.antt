use Rattle.session_text.proofs.CommandLemmas.{line_of_each, line_is_valid}
use Rattle.session_text.proofs.LineLemmas.{one_command}
use Rattle.session_text.proofs.laws.line_laws.Goals as goal

pub returns : goal.returns
returns c = record { one = one_command; valid = line_is_valid; each = line_of_each }
