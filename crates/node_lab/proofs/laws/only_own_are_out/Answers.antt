use Rattle.node_lab.proofs.OutLemmas.{closed_out, opened_out, unopened_out}
use Rattle.node_lab.proofs.laws.only_own_are_out.Goals as goal

pub returns-clause-closed : goal.returns-clause-closed
returns-clause-closed g c = λ t before old new meant stops own closes. closed_out g.B.Bays.tells g.B.Disk.Disk.tells g.B.Disk.Disk.content g.B.Disk.Disk.size g.B.Bays.home g.B.Bays.out t before old new own meant stops closes

pub returns-clause-opened : goal.returns-clause-opened
returns-clause-opened g c = λ t before old new due settings own same opens. opened_out g.B.Bays.tells g.B.Disk.Disk.tells g.B.Disk.Disk.content g.B.Disk.Disk.size g.B.Bays.home g.B.Bays.out t before old new own due settings same opens

pub returns-clause-unopened : goal.returns-clause-unopened
returns-clause-unopened g c = λ t before old new due settings folder own stay. unopened_out g.B.Bays.tells g.B.Disk.Disk.tells g.B.Disk.Disk.content g.B.Disk.Disk.size g.B.Bays.home g.B.Bays.out t before old new own due settings folder stay
