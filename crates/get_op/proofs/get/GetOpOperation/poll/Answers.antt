use Rattle.std.proofs.Common.{None, Some, refl, subst}
use Rattle.operation.specs.declared.sending.Errand.{Errand}
use Rattle.operation.specs.declared.stage.Stage.{Stage}
use Rattle.operation.proofs.GivingLaws.{gives_decided}
use Rattle.operation.proofs.StageLaws.{comes_done, single_given}
use Rattle.get_op.specs.Gets.{GetStands, GetTask, get_decides, get_plan, get_target}
use Rattle.get_op.proofs.GetLaws.{get_first}
use Rattle.get_op.proofs.get.GetOpOperation.poll.Goals as goal

pub returns-in-Some-clause-answers : goal.returns-in-Some-clause-answers
returns-in-Some-clause-answers c = λ calls h.
    let s = c.args.self.now in
    let task : GetTask = record { id = s.id; replicas = s.replicas; need = s.need } in
    let runs : GetStands task s.piece s.next Stage.Running calls = subst (λ (g : Stage). GetStands task s.piece s.next g calls) c.in-Running.is h in
    gives_decided (get_plan task) (get_decides task) calls (Some c.in-Some.outcome) runs.at (c.in-Some.ensures.comes task calls refl (runs.piece refl))

pub returns-in-Some-clause-goes_on : goal.returns-in-Some-clause-goes_on
returns-in-Some-clause-goes_on c = λ calls h.
    let s = c.args.self.now in
    let task : GetTask = record { id = s.id; replicas = s.replicas; need = s.need } in
    let runs : GetStands task s.piece s.next Stage.Running calls = subst (λ (g : Stage). GetStands task s.piece s.next g calls) c.in-Running.is h in
    single_given (get_plan task) (get_decides task) (get_target task) (Errand.Get s.id) s.piece c.read_outcome.new.piece s.next Stage.Running calls (get_first task)
    (comes_done (get_plan task) (get_decides task) calls c.in-Some.outcome runs.at (c.in-Some.ensures.comes task calls refl (runs.piece refl))) c.read_outcome.ensures.same runs

pub returns-in-None-clause-answers : goal.returns-in-None-clause-answers
returns-in-None-clause-answers c = λ calls h.
    let s = c.args.self.now in
    let task : GetTask = record { id = s.id; replicas = s.replicas; need = s.need } in
    let runs : GetStands task s.piece s.next Stage.Running calls = subst (λ (g : Stage). GetStands task s.piece s.next g calls) c.in-Running.is h in
    gives_decided (get_plan task) (get_decides task) calls None runs.at (c.in-None.ensures.comes task calls refl (runs.piece refl))
