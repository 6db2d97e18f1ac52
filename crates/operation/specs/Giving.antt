-- What an operation gives when it is asked for its outcome.
use Rattle.std.specs.Prelude.{◌≡◌, ◌⊎◌, true, false, List, Option}
use Rattle.quorum_op.specs.declared.outcome.Outcome.{Outcome}
use Rattle.operation.specs.declared.sending.Poll.{Poll}
use Rattle.operation.specs.Calls.{Call, Plan, answer, is_done, poll_of, was_given}

-- It answers what its calls come to. Where there is no memory for an outcome that wasn't given yet, it answers want of memory.
abbrev pub Polls : Plan → List Call → Poll → Type 0
Polls plan calls result = (result ≡ answer plan calls) ⊎ (result ≡ Poll.Done Outcome.Memory) × (is_done (plan.outcome calls) ≡ true) × (was_given plan calls ≡ false)

-- the same of an outcome that is given, or none
abbrev pub Gives : Plan → List Call → Option Outcome → Type 0
Gives plan calls outcome = Polls plan calls (poll_of outcome)
