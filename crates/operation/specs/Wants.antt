-- Which requests an operation wants.
use Rattle.std.specs.Prelude.{◌≡◌, ℕ, zero, suc, ◌+◌, ◌==◌, nat_lt, Bool, true, false, ◌&&◌, not, cond, List, [], ◌∷◌, ◌++◌, length, Option, Some, None}
use Rattle.std.specs.List.{list_any}
use Rattle.blob_id.specs.declared.id.BlobId.{BlobId}
use Rattle.quorum_op.specs.declared.cause.TallyKind.{TallyKind}
use Rattle.quorum_op.specs.Tally.{is_pending}
use Rattle.world_model.specs.World.{same_id}
use Rattle.operation.specs.declared.sending.Errand.{Errand}
use Rattle.operation.specs.declared.sending.Purpose.{Purpose}
use Rattle.operation.specs.declared.sending.Sending.{Sending}
use Rattle.operation.specs.Calls.{Call, Sent, id_of, sent_all, sent_in}
use Rattle.operation.specs.Pieces.{Target, busy_at, verdict_at, was_asked}

-- the number of the next request
abbrev pub next_request : List Call → ℕ
next_request calls = length (sent_in calls) + 1

-- a request to each replica that passes, one after the other, each by the calls so far
abbrev pub sends_along : (List Call → ℕ → Bool) → Purpose → Errand → List Call → List ℕ → List Sending
sends_along passes purpose errand calls [] = []
sends_along passes purpose errand calls (replica ∷ rest) =
    cond (passes calls replica)
    (let sending : Sending = record { request = next_request calls; replica = replica; purpose = purpose; errand = errand } in
    sending ∷ sends_along passes purpose errand (Sent sending ∷ calls) rest)
    (sends_along passes purpose errand calls rest)

-- the numbers below n
abbrev pub upto : ℕ → List ℕ
upto zero = []
upto (suc n) = upto n ++ n ∷ []

abbrev pub part_of : Target → Purpose
part_of t = Purpose.Part t.chunk t.attempt

-- to put or delete a piece each replica is asked, once
abbrev pub asks_all : Target → List Call → ℕ → Bool
asks_all t calls replica = nat_lt replica t.replicas && not (was_asked t calls replica)

-- to read it, the next replica is asked as long as it is pending and fewer are busy than are needed
abbrev pub asks_next : Target → List Call → ℕ → Bool
asks_next t calls replica = asks_all t calls replica && (is_pending (verdict_at t calls) && nat_lt (busy_at t calls) t.need)

-- which replicas are asked, by what they are asked for
abbrev pub asks_as : TallyKind → Target → List Call → ℕ → Bool
asks_as TallyKind.Get t = asks_next t
asks_as _ t = asks_all t

abbrev pub asks : Target → List Call → ℕ → Bool
asks t = asks_as t.kind t

-- the request to a replica, if it is asked
abbrev pub asked_if : Bool → Sending → Option Sending
asked_if due sending = cond due (Some sending) None

-- these requests were added, and the asker stands behind them
pub record HasSent (stands : List Call → Type 0) (added : List Sending) (calls : List Call) (before after : List Sending) (next : ℕ) : Type 0 where
  pub out : after ≡ before ++ added
  pub knows : stands (sent_all added calls)
  pub numbers : next ≡ next_request (sent_all added calls)

abbrev pub is_given_up : Purpose → Bool
is_given_up Purpose.GivenUp = true
is_given_up _ = false

-- an id that is given up is deleted at each replica, once
abbrev pub gives_up : ℕ → BlobId → List Call → ℕ → Bool
gives_up replicas id calls replica =
    nat_lt replica replicas && not (list_any (λ sending. is_given_up sending.purpose && (same_id (id_of sending.errand) id && (sending.replica == replica))) (sent_in calls))
