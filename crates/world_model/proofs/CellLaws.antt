-- Cells, their order, and what replies tell of them.
use Rattle.std.proofs.Common.{◌≡◌, ℕ, ◌==◌, Bool, true, false, cond, Option, Some, None, refl, sym, ◌∙◌, subst, inl, inr}
use Rattle.std.proofs.lemmas.Bool.Decides.{Decides-eqb}
use Rattle.std.proofs.lemmas.Slice.Eq.{bytes_eq-Decides}
use Rattle.blob_id.specs.declared.id.BlobId.{BlobId}
use Rattle.blob_id.specs.declared.blob.Blob.{Blob}
use Rattle.cell_model.specs.declared.cell.Cell.{Cell}
use Rattle.cell_model.specs.declared.cell.Cell.TheVariants.{Absent, Held, Gone}
use Rattle.cell_model.specs.declared.ask.Ask.{Ask}
use Rattle.cell_model.specs.declared.ask.Reply.{Reply}
use Rattle.world_model.specs.World.{same_id}
use Rattle.cell_model.specs.Cells.{join, AtMost}
use Rattle.cell_model.specs.Asks.{is_refusal, landed, Answers}
use Rattle.world_model.specs.World.{is_at, Change, MayReply}
use Rattle.world_model.specs.Safe.{is_held, is_gone}
use Rattle.cell_model.specs.Asks.{IsRefusal}

pub at_most_self : (c : Cell) → AtMost c c
at_most_self Absent = tt
at_most_self (Held b) = refl
at_most_self Gone = tt

pub at_most_trans : (a b c : Cell) → AtMost a b → AtMost b c → AtMost a c
at_most_trans Absent b c h k = tt
at_most_trans (Held x) Absent c h k = absurd h
at_most_trans (Held x) (Held y) Absent h k = absurd k
at_most_trans (Held x) (Held y) (Held z) h k = h ∙ k
at_most_trans (Held x) (Held y) Gone h k = tt
at_most_trans (Held x) Gone Absent h k = absurd k
at_most_trans (Held x) Gone (Held z) h k = absurd k
at_most_trans (Held x) Gone Gone h k = tt
at_most_trans Gone Absent c h k = absurd h
at_most_trans Gone (Held y) c h k = absurd h
at_most_trans Gone Gone c h k = k

-- a join rises
pub at_most_join : (a b : Cell) → AtMost a (join a b)
at_most_join Absent b = tt
at_most_join (Held x) Absent = refl
at_most_join (Held x) (Held y) = refl
at_most_join (Held x) Gone = tt
at_most_join Gone b = tt

-- a join is one of the two
pub join_is : (P : Cell → Type 0) (a b : Cell) → P a → P b → P (join a b)
join_is P Absent b p q = q
join_is P (Held x) Absent p q = p
join_is P (Held x) (Held y) p q = p
join_is P (Held x) Gone p q = q
join_is P Gone b p q = p

pub held_rises : (a b : Cell) → AtMost a b → is_held a ≡ true → is_held b ≡ true
held_rises Absent b h k = absurd cc
held_rises (Held x) Absent h k = absurd h
held_rises (Held x) (Held y) h k = refl
held_rises (Held x) Gone h k = refl
held_rises Gone Absent h k = absurd h
held_rises Gone (Held y) h k = refl
held_rises Gone Gone h k = refl

pub gone_rises : (a b : Cell) → AtMost a b → is_gone a ≡ true → is_gone b ≡ true
gone_rises Absent b h k = absurd cc
gone_rises (Held x) b h k = absurd cc
gone_rises Gone Absent h k = absurd h
gone_rises Gone (Held y) h k = absurd h
gone_rises Gone Gone h k = refl

pub same_id_true : (a b : BlobId) → same_id a b ≡ true → a ≡ b
same_id_true a b h = (bytes_eq-Decides a b).0 h

pub same_id_self : (a : BlobId) → same_id a a ≡ true
same_id_self a = (bytes_eq-Decides a a).1 refl

pub same_number : (n : ℕ) → (n == n) ≡ true
same_number n = (Decides-eqb n n).1 refl

pub number_true : (n m : ℕ) → (n == m) ≡ true → n ≡ m
number_true n m h = (Decides-eqb n m).0 h

pub is_at_self : (n p : ℕ) (id : BlobId) → is_at n p id n p id ≡ true
is_at_self n p id = rw (same_number n, same_number p, same_id_self id)

-- who doesn't refuse answers
refuses : (ask : Ask) (reply : Reply) → IsRefusal ask reply → is_refusal reply ≡ true
refuses ask Reply.Full r = refl
refuses ask Reply.Fault r = refl
refuses ask Reply.Down r = refl
refuses ask Reply.Memory r = refl
refuses ask Reply.NoPartition r = refl
refuses (Ask.Get id) _ r = absurd r
refuses (Ask.Peek id) _ r = absurd r
refuses (Ask.Put id b) _ r = absurd r
refuses (Ask.Delete id at) _ r = absurd r
refuses (Ask.Merge id c) _ r = absurd r
refuses (Ask.Find token max) _ r = absurd r
refuses Ask.End _ r = absurd r
refuses (Ask.Token peer) _ r = absurd r
refuses (Ask.SaveToken peer token) _ r = absurd r
refuses Ask.CompactBegin _ r = absurd r
refuses (Ask.CompactStep records) _ r = absurd r
refuses Ask.CompactCommit _ r = absurd r

pub answers_from : (d : Option Change) (c : Cell) (ask : Ask) (reply : Reply) → MayReply d c ask reply → is_refusal reply ≡ false → Answers c ask reply
answers_from (Some d) c ask reply h k = absurd (let e : is_refusal Reply.Down ≡ false = subst (λ r. is_refusal r ≡ false) h k in cc)
answers_from None c ask reply h k = elim h [
  | inl a ↦ a
  | inr more ↦ elim more [
    | inl r ↦ absurd (let y : is_refusal reply ≡ true = refuses ask reply r.0 in cc)
    | inr e ↦ absurd (let y : is_refusal Reply.NoPartition ≡ false = subst (λ r. is_refusal r ≡ false) e k in cc)
  ]
]

-- whoever answered a put holds the id
pub put_holds : (c : Cell) (id : BlobId) (b : Blob) (reply : Reply) → Answers c (Ask.Put id b) reply → is_held (join c (landed (Ask.Put id b) reply)) ≡ true
put_holds Absent id b reply h = subst (λ r. is_held (join Absent (landed (Ask.Put id b) r)) ≡ true) (sym h) refl
put_holds (Held x) id b reply h = go (is_refusal reply)
  where
    go : (r : Bool) → is_held (join (Held x) (cond r Absent (Held b))) ≡ true
    go true = refl
    go false = refl
put_holds Gone id b reply h = refl

-- whoever answered a delete has the id gone
pub delete_removes : (c : Cell) (id : BlobId) (at : ℕ) (reply : Reply) → Answers c (Ask.Delete id at) reply → is_gone (join c (landed (Ask.Delete id at) reply)) ≡ true
delete_removes Absent id at reply h = subst (λ r. is_gone (join Absent (landed (Ask.Delete id at) r)) ≡ true) (sym h) refl
delete_removes (Held x) id at reply h = subst (λ r. is_gone (join (Held x) (landed (Ask.Delete id at) r)) ≡ true) (sym h) refl
delete_removes Gone id at reply h = refl
