-- What deletes come to, on examples.
use Rattle.std.proofs.Common.{◌≡◌, ℕ, List, [], ◌∷◌, Some, None, refl}
use Rattle.cell_model.specs.declared.ask.Reply.{Reply}
use Rattle.quorum_op.specs.declared.cause.Cause.{Cause}
use Rattle.quorum_op.specs.declared.outcome.Outcome.{Outcome}
use Rattle.operation.specs.declared.sending.Errand.{Errand}
use Rattle.operation.specs.declared.sending.Purpose.{Purpose}
use Rattle.operation.specs.declared.sending.Sending.{Sending}
use Rattle.operation.specs.Calls.{Cancelled, Missed, Replied, sent_all}
use Rattle.delete_op.specs.Deletes.{DeleteTask, delete_outcome, delete_wants}

-- two of three replicas are needed
abbrev task : DeleteTask
task = record { id = 1 ∷ []; at = 5000; replicas = 3; need = 2 }

abbrev request : ℕ → ℕ → Sending
request number replica = record { request = number; replica = replica; purpose = Purpose.Part None 0; errand = Errand.Delete (1 ∷ []) 5000 }

abbrev all : List Sending
all = request 1 0 ∷ request 2 1 ∷ request 3 2 ∷ []

-- all replicas are asked at once, in replica order, whatever the order of asking, and once
all_asked : delete_wants task [] (2 ∷ 0 ∷ 1 ∷ []) ≡ all
all_asked = refl

none_twice : delete_wants task (Missed 1 Cause.Timeout ∷ sent_all all []) (2 ∷ 0 ∷ 1 ∷ []) ≡ []
none_twice = refl

-- two of three acknowledge it; one that answers twice doesn't
acknowledged : delete_outcome task (Replied 1 Reply.Done ∷ Missed 2 Cause.Broken ∷ Replied 3 Reply.Done ∷ sent_all all []) ≡ Some Outcome.Deleted2
acknowledged = refl

repeated : delete_outcome task (Replied 3 Reply.Done ∷ Replied 3 Reply.Done ∷ sent_all all []) ≡ None
repeated = refl

-- two failures end it, with their causes in replica order
unavailable : delete_outcome task (Replied 1 Reply.Full ∷ Missed 3 Cause.Timeout ∷ sent_all all []) ≡ Some (Outcome.Unavailable (1 ∷ []) ((0, Cause.Full) ∷ (2, Cause.Timeout) ∷ []))
unavailable = refl

-- the first outcome stays
stays : delete_outcome task (Cancelled ∷ Replied 1 Reply.Done ∷ Replied 3 Reply.Done ∷ sent_all all []) ≡ Some Outcome.Deleted2
stays = refl

cancelled : delete_outcome task (Replied 1 Reply.Done ∷ Replied 3 Reply.Done ∷ Cancelled ∷ sent_all all []) ≡ Some Outcome.Cancelled
cancelled = refl
