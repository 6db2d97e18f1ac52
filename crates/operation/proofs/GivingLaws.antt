-- What is given is an outcome.
use Rattle.std.proofs.Common.{◌≡◌, inl, inr, Bool, true, false, cond, List, Option, Some, None, refl, sym, ap, ◌∙◌}
use Rattle.quorum_op.specs.declared.outcome.Outcome.{Outcome}
use Rattle.operation.specs.declared.sending.Poll.{Poll}
use Rattle.operation.specs.declared.stage.Stage.{Stage}
use Rattle.operation.specs.Calls.{Call, Plan, is_done, poll_of, was_given}
use Rattle.operation.specs.Giving.{Gives}
use Rattle.operation.specs.Stages.{IsOrMemory, StandsAt}
use Rattle.operation.proofs.StageLaws.{answer_cancelled, answer_given, answer_running, answer_starved}

-- where an outcome is given there is one
pub given_done : (plan : Plan) (calls : List Call) (outcome : Outcome) → Gives plan calls (Some outcome) → is_done (plan.outcome calls) ≡ true
given_done plan calls outcome (inl e) = go (was_given plan calls) (plan.outcome calls) e
  where
    go : (b : Bool) (o : Option Outcome) → Poll.Done outcome ≡ cond b Poll.Pending (poll_of o) → is_done o ≡ true
    go true o e = absurd cc
    go false None e = absurd cc
    go false (Some o) e = refl
given_done plan calls outcome (inr m) = m.1

pub gives_cancelled : (plan : Plan) (decides : List Call → Option Outcome) (calls : List Call) → StandsAt plan decides Stage.Cancelled calls → Gives plan calls (Some Outcome.Cancelled)
gives_cancelled plan decides calls h = inl (sym (answer_cancelled plan decides calls h))

pub gives_starved : (plan : Plan) (decides : List Call → Option Outcome) (calls : List Call) → StandsAt plan decides Stage.Starved calls → Gives plan calls (Some Outcome.Memory)
gives_starved plan decides calls h = inl (sym (answer_starved plan decides calls h))

pub gives_nothing : (plan : Plan) (decides : List Call → Option Outcome) (calls : List Call) → StandsAt plan decides Stage.Given calls → Gives plan calls None
gives_nothing plan decides calls h = inl (sym (answer_given plan decides calls h))

pub gives_decided : (plan : Plan) (decides : List Call → Option Outcome) (calls : List Call) (outcome : Option Outcome) → StandsAt plan decides Stage.Running calls → IsOrMemory (decides calls) outcome → Gives plan calls outcome
gives_decided plan decides calls outcome h (inl e) = inl (ap (λ (o : Option Outcome). poll_of o) e ∙ sym (answer_running plan decides calls h))
gives_decided plan decides calls outcome h (inr m) = inr (ap (λ (o : Option Outcome). poll_of o) m.0, ap (λ (o : Option Outcome). is_done o) h.outcome ∙ m.1, h.given)
