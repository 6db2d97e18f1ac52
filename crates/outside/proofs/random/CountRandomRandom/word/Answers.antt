use Rattle.std.proofs.Common.{refl}
use Rattle.outside.proofs.random.CountRandomRandom.word.Goals as goal

pub returns-then-self-clause-given : goal.returns-then-self-clause-given
returns-then-self-clause-given c = rw c.if-self.true (refl, refl)
