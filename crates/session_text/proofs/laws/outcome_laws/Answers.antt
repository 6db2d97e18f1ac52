use Rattle.session_text.proofs.OutcomeLemmas.{apart, within}
use Rattle.session_text.proofs.laws.outcome_laws.Goals as goal

pub returns : goal.returns
returns c = record { apart = apart; within = within }
