use Rattle.node_lab.proofs.RestartLemmas.{places_opened}
use Rattle.node_lab.proofs.laws.opening_settles.Goals as goal

pub returns : goal.returns
returns g c = λ t shape folder places old new meant named stopped opens holds. places_opened g.B.Bays.tells g.B.Disk.Disk.tells g.B.Disk.Disk.content g.B.Disk.Disk.size g.B.Bays.home g.B.Bays.out shape folder places old new t g.met.B.Bays.known holds named meant stopped opens
