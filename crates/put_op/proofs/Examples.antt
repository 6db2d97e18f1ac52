-- What puts come to, on examples.
use Rattle.std.proofs.Common.{◌≡◌, ℕ, List, [], ◌∷◌, Some, None, refl}
use Rattle.blob_id.specs.declared.id.Kind.{Kind}
use Rattle.cell_model.specs.declared.ask.Reply.{Reply}
use Rattle.quorum_op.specs.declared.cause.Cause.{Cause}
use Rattle.quorum_op.specs.declared.outcome.Outcome.{Outcome}
use Rattle.operation.specs.declared.sending.Errand.{Errand}
use Rattle.operation.specs.declared.sending.Purpose.{Purpose}
use Rattle.operation.specs.declared.sending.Sending.{Sending}
use Rattle.operation.specs.Calls.{Call, Cancelled, Drew, Missed, Replied, Starved, sent_all}
use Rattle.put_op.specs.Puts.{PutTask, put_outcome, put_want, put_wants}

-- three bytes, which two of three replicas have to store
abbrev task : PutTask
task = record { total = 3; replicas = 3; need = 2; created = 40; ctype = []; meta = [] }

abbrev store : ℕ → ℕ → Sending
store number replica = record { request = number; replica = replica; purpose = Purpose.Part None 0; errand = Errand.Put (1 ∷ []) }

abbrev remove : ℕ → ℕ → Sending
remove number replica = record { request = number; replica = replica; purpose = Purpose.GivenUp; errand = Errand.Delete (1 ∷ []) 0 }

abbrev drawn : List Call
drawn = Drew (1 ∷ []) (Some (7 ∷ 8 ∷ 9 ∷ [])) ∷ []

abbrev stored : List Sending
stored = store 1 0 ∷ store 2 1 ∷ store 3 2 ∷ []

abbrev sent : List Call
sent = sent_all stored drawn

abbrev removed : List Sending
removed = remove 4 0 ∷ remove 5 1 ∷ remove 6 2 ∷ []

-- the whole is wanted, until an id is drawn with as many bytes, or it is over
whole : put_want task [] ≡ Some (record { piece = 0; attempt = 0; kind = Kind.Simple; from = 0; len = 3 })
whole = refl

fewer : put_want task (Drew (1 ∷ []) (Some (7 ∷ [])) ∷ []) ≡ Some (record { piece = 0; attempt = 0; kind = Kind.Simple; from = 0; len = 3 })
fewer = refl

drawn_once : put_want task drawn ≡ None
drawn_once = refl

over : put_want task (Cancelled ∷ []) ≡ None
over = refl

-- each replica is asked once
all_asked : put_wants task drawn (2 ∷ 0 ∷ 1 ∷ []) ≡ stored
all_asked = refl

none_twice : put_wants task sent (2 ∷ 0 ∷ 1 ∷ []) ≡ []
none_twice = refl

-- two of three store it, and then nothing is given up
ok : put_outcome task (Replied 3 Reply.There ∷ Replied 2 Reply.Clash ∷ Replied 1 Reply.Stored ∷ sent) ≡ Some (Outcome.Put (1 ∷ []))
ok = refl

kept : put_wants task (Replied 3 Reply.There ∷ Replied 1 Reply.Stored ∷ sent) [] ≡ []
kept = refl

-- two failures end it, with their causes in replica order, and its id is given up, once
abbrev failed : List Call
failed = Replied 1 Reply.Full ∷ Missed 3 Cause.Timeout ∷ sent

unavailable : put_outcome task failed ≡ Some (Outcome.Unavailable (1 ∷ []) ((0, Cause.Full) ∷ (2, Cause.Timeout) ∷ []))
unavailable = refl

given_up : put_wants task failed [] ≡ removed
given_up = refl

given_up_once : put_wants task (Replied 4 Reply.Done ∷ sent_all removed failed) [] ≡ []
given_up_once = refl

-- so is that of a cancelled put and of one that starved, which may have asked nobody
cancelled : put_wants task (Cancelled ∷ drawn) [] ≡ remove 1 0 ∷ remove 2 1 ∷ remove 3 2 ∷ []
cancelled = refl

starved : put_wants task (Starved ∷ sent) [] ≡ removed
starved = refl
