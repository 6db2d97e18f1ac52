use Rattle.std.proofs.Common.{◌∙◌, inl}
use Rattle.front_end.proofs.lab.run_settings.Goals as goal

pub returns-clause-run : goal.returns-clause-run
returns-clause-run g c = inl (rw (c.as_str.ensures, c.start-2.ensures.given, c.in-Ok.ensures.begun) at c.run_begun.ensures.run, c.run_begun.ensures.seeds ∙ c.start-2.ensures.seeds)
