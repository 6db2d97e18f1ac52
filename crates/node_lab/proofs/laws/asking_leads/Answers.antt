use Rattle.node_lab.proofs.RunLemmas.{ask_leads}
use Rattle.node_lab.proofs.laws.asking_leads.Goals as goal

pub returns : goal.returns
returns g c = λ t shape folder opening first before old new send call reply leads sent asked running up. ask_leads g.B.Disk.Disk.tells g.B.Disk.Disk.content g.B.Disk.Disk.size g.B.Disk.Disk.faults g.B.Bays.home shape folder opening first before old new t leads send call reply sent asked running up
