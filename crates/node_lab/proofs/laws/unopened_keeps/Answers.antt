use Rattle.node_lab.proofs.RestartLemmas.{places_unopened}
use Rattle.node_lab.proofs.laws.unopened_keeps.Goals as goal

pub returns : goal.returns
returns g c = λ t shape folder places old new due stay holds. places_unopened g.B.Bays.tells g.B.Disk.Disk.tells g.B.Disk.Disk.content g.B.Disk.Disk.size g.B.Bays.home g.B.Bays.out shape folder places old new t g.met.B.Bays.known holds due stay
