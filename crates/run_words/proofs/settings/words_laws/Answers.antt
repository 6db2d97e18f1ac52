use Rattle.run_words.proofs.SettingsLemmas.{one_run}
use Rattle.run_words.proofs.settings.words_laws.Goals as goal

pub returns : goal.returns
returns c = record { unique = one_run }
