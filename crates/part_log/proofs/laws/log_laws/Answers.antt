use Rattle.part_log.proofs.Damage.{names_its_own, one_damage, undamaged}
use Rattle.part_log.proofs.Layouts.{one_layout, some_layout}
use Rattle.part_log.proofs.Meaning.{one_log}
use Rattle.part_log.proofs.laws.log_laws.Goals as goal

pub returns-clause-records : goal.returns-clause-records
returns-clause-records c = λ settings bytes xs ys m n one two. (one_log settings bytes xs ys m n one two).records

pub returns-clause-end : goal.returns-clause-end
returns-clause-end c = λ settings bytes xs ys m n one two. (one_log settings bytes xs ys m n one two).end

pub returns-clause-layout : goal.returns-clause-layout
returns-clause-layout c = one_layout

pub returns-clause-some_layout : goal.returns-clause-some_layout
returns-clause-some_layout c = some_layout

pub returns-clause-undamaged : goal.returns-clause-undamaged
returns-clause-undamaged c = undamaged

pub returns-clause-names_its_own : goal.returns-clause-names_its_own
returns-clause-names_its_own c = names_its_own

pub returns-clause-one_damage : goal.returns-clause-one_damage
returns-clause-one_damage c = one_damage
