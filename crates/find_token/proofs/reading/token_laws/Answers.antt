use Rattle.find_token.proofs.Spelled.{token_begins, token_again, tokens_apart}
use Rattle.find_token.proofs.reading.token_laws.Goals as goal

pub returns-clause-spelled : goal.returns-clause-spelled
returns-clause-spelled c = token_begins

pub returns-clause-read : goal.returns-clause-read
returns-clause-read c = token_again

pub returns-clause-apart : goal.returns-clause-apart
returns-clause-apart c = tokens_apart
