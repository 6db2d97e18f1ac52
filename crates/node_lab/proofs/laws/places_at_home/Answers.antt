use Rattle.node_lab.proofs.RestartLemmas.{all_at_home, first_held}
use Rattle.node_lab.proofs.laws.places_at_home.Goals as goal

pub returns-clause-first : goal.returns-clause-first
returns-clause-first g c = λ shape folder places bays holds. first_held g.B.Disk.Disk.content g.B.Bays.home shape folder places bays holds

pub returns-clause-last : goal.returns-clause-last
returns-clause-last g c = λ shape folder places nodes none holds. all_at_home g.B.Disk.Disk.content g.B.Bays.home shape folder places nodes none holds
