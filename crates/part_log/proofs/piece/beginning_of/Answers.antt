use Rattle.part_log.proofs.Beginnings.{gate_open}
use Rattle.part_log.proofs.piece.beginning_of.Goals as goal

pub returns-in-None : goal.returns-in-None
returns-in-None c = λ more long. (
  gate_open c.args.front.now more c.requires.two c.if-front-ne-OPEN_GATE.false,
  λ entry begins. let found = c.decode_head.ensures.only more entry long begins in let none = c.in-None.is in absurd (cc (found, none)),
)
