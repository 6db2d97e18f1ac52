use Rattle.node_lab.proofs.AskLemmas.{ask_holds}
use Rattle.node_lab.proofs.laws.asking_keeps.Goals as goal

pub returns : goal.returns
returns g c = λ t settings old new home place ask reply asked holds. ask_holds g.D.Disk.tells g.D.Disk.content g.D.Disk.size g.D.Disk.faults ask reply settings old new home place asked t holds
