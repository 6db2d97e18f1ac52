-- Proofs that are looked for by computing: a search gives the proof, or none.
use Rattle.std.proofs.Common.{◌≡◌, ℕ, ◌==◌, ◌<◌, ◌≤◌, nat_lt, nat_le, Bool, true, false, List, [], ◌∷◌, ◌⊎◌, Option, Some, None, IsSome, refl, ap, ◌∙◌, inl, inr, arith, is_some}
use Rattle.std.proofs.lemmas.Bool.Decides.{nat_tests}
use Rattle.blob_id.specs.declared.blob.Blob.{Blob}
use Rattle.blob_id.specs.declared.id.BlobId.{BlobId}
use Rattle.quorum_op.specs.declared.cause.Cause.{Cause}
use Rattle.quorum_op.specs.declared.cause.Verdict.{Verdict}
use Rattle.quorum_op.specs.declared.outcome.Outcome.{Outcome}
use Rattle.cell_model.specs.declared.ask.Reply.{Reply}
use Rattle.world_model.specs.World.{same_id}
use Rattle.world_model.proofs.CellLaws.{same_id_true, number_true}

abbrev pub found : {A B : Type 0} → (A → B) → Option A → Option B
found f None = None
found f (Some a) = Some (f a)

abbrev pub both : {A B : Type 0} → Option A → Option B → Option (A × B)
both None b = None
both (Some a) None = None
both (Some a) (Some b) = Some (a, b)

-- the first search, and where it finds nothing the second
abbrev pub either : {A B : Type 0} → Option A → Option B → Option (A ⊎ B)
either (Some a) b = Some (inl a)
either None None = None
either None (Some b) = Some (inr b)

abbrev pub when : (b : Bool) → Option (b ≡ true)
when true = Some refl
when false = None

abbrev pub unless : (b : Bool) → Option (b ≡ false)
unless true = None
unless false = Some refl

abbrev pub some_in : {A : Type 0} → (o : Option A) → Option (IsSome o)
some_in None = None
some_in (Some a) = Some refl

pub not_so : {P : Type 0} (b : Bool) → b ≡ false → b ≡ true → P
not_so b e t = absurd cc

-- what is to hold where a test is passed
abbrev pub where_so : {P : Type 0} → (b : Bool) → Option P → Option (b ≡ true → P)
where_so true o = found (λ h e. h) o
where_so {P} false o = Some (not_so {P = P} false refl)

-- the proof that was found
pub got_true : {A : Type 0} → (o : Option A) → is_some o ≡ true → A
got_true None h = absurd cc
got_true (Some a) h = a

pub less : (a b : ℕ) → nat_lt a b ≡ true → a < b
less a b h = grind (arith, nat_tests)

pub not_less : (a b : ℕ) → nat_lt a b ≡ false → a < b → ⊥
not_less a b h l = grind (arith, nat_tests)

pub at_most : (a b : ℕ) → nat_le a b ≡ true → a ≤ b
at_most a b h = grind (arith, nat_tests)

abbrev pub number : (a b : ℕ) → Option (a ≡ b)
number a b = found (number_true a b) (when (a == b))

abbrev pub bytes : (a b : List ℕ) → Option (a ≡ b)
bytes a b = found (same_id_true a b) (when (same_id a b))

abbrev pub below : (a b : ℕ) → Option (a < b)
below a b = found (less a b) (when (nat_lt a b))

abbrev pub up_to : (a b : ℕ) → Option (a ≤ b)
up_to a b = found (at_most a b) (when (nat_le a b))

pub blob_parts : (a b : Blob) → (((a.created ≡ b.created) × (a.ctype ≡ b.ctype)) × ((a.meta ≡ b.meta) × (a.body ≡ b.body))) → a ≡ b
blob_parts a b h =
    ap (λ (n : ℕ). record { created = n; ctype = a.ctype; meta = a.meta; body = a.body }) h.0.0
    ∙ ap (λ (t : List ℕ). record { created = b.created; ctype = t; meta = a.meta; body = a.body }) h.0.1
    ∙ ap (λ (t : List ℕ). record { created = b.created; ctype = b.ctype; meta = t; body = a.body }) h.1.0
    ∙ ap (λ (t : List ℕ). record { created = b.created; ctype = b.ctype; meta = b.meta; body = t }) h.1.1

abbrev pub blob : (a b : Blob) → Option (a ≡ b)
blob a b = found (blob_parts a b) (both (both (number a.created b.created) (bytes a.ctype b.ctype)) (both (bytes a.meta b.meta) (bytes a.body b.body)))

-- which reply it is
abbrev pub reply_is : (a b : Reply) → Option (a ≡ b)
reply_is Reply.Stored Reply.Stored = Some refl
reply_is Reply.There Reply.There = Some refl
reply_is Reply.Clash Reply.Clash = Some refl
reply_is Reply.Gone Reply.Gone = Some refl
reply_is (Reply.Blob a) (Reply.Blob b) = found (ap Reply.Blob) (blob a b)
reply_is Reply.Absent Reply.Absent = Some refl
reply_is Reply.Done Reply.Done = Some refl
reply_is Reply.Full Reply.Full = Some refl
reply_is Reply.Fault Reply.Fault = Some refl
reply_is Reply.Down Reply.Down = Some refl
reply_is Reply.Memory Reply.Memory = Some refl
reply_is Reply.NoPartition Reply.NoPartition = Some refl
reply_is a b = None

abbrev pub verdict_is : (a b : Verdict) → Option (a ≡ b)
verdict_is Verdict.Pending Verdict.Pending = Some refl
verdict_is Verdict.Ok Verdict.Ok = Some refl
verdict_is Verdict.Gone Verdict.Gone = Some refl
verdict_is Verdict.NotFound Verdict.NotFound = Some refl
verdict_is Verdict.Unavailable Verdict.Unavailable = Some refl
verdict_is a b = None

abbrev pub cause_is : (a b : Cause) → Option (a ≡ b)
cause_is Cause.Timeout Cause.Timeout = Some refl
cause_is Cause.Patience Cause.Patience = Some refl
cause_is Cause.Broken Cause.Broken = Some refl
cause_is Cause.Full Cause.Full = Some refl
cause_is Cause.Clash Cause.Clash = Some refl
cause_is Cause.Gone Cause.Gone = Some refl
cause_is Cause.Fault Cause.Fault = Some refl
cause_is Cause.Down Cause.Down = Some refl
cause_is Cause.Memory Cause.Memory = Some refl
cause_is Cause.Stray Cause.Stray = Some refl
cause_is Cause.Cancelled Cause.Cancelled = Some refl
cause_is a b = None

pub failure_parts : (n m : ℕ) (a b : Cause) (xs ys : List (ℕ × Cause)) → (((n ≡ m) × (a ≡ b)) × (xs ≡ ys)) → (n, a) ∷ xs ≡ (m, b) ∷ ys
failure_parts n m a b xs ys h = rw (h.0.0, h.0.1, h.1) refl

abbrev pub failures_are : (a b : List (ℕ × Cause)) → Option (a ≡ b)
failures_are [] [] = Some refl
failures_are (x ∷ xs) (y ∷ ys) = found (failure_parts x.0 y.0 x.1 y.1 xs ys) (both (both (number x.0 y.0) (cause_is x.1 y.1)) (failures_are xs ys))
failures_are _ _ = None

pub unavailable_parts : (a b : BlobId) (f g : List (ℕ × Cause)) → ((a ≡ b) × (f ≡ g)) → Outcome.Unavailable a f ≡ Outcome.Unavailable b g
unavailable_parts a b f g h = rw (h.0, h.1) refl

pub info_parts : (s t c d : ℕ) (a b m n : List ℕ) → (((s ≡ t) × (c ≡ d)) × ((a ≡ b) × (m ≡ n))) → Outcome.Info s c a m ≡ Outcome.Info t d b n
info_parts s t c d a b m n h = rw (h.0.0, h.0.1, h.1.0, h.1.1) refl

abbrev pub outcome_is : (a b : Outcome) → Option (a ≡ b)
outcome_is (Outcome.Put a) (Outcome.Put b) = found (ap Outcome.Put) (bytes a b)
outcome_is Outcome.Deleted2 Outcome.Deleted2 = Some refl
outcome_is (Outcome.Bytes a) (Outcome.Bytes b) = found (ap Outcome.Bytes) (bytes a b)
outcome_is (Outcome.Info s c a m) (Outcome.Info t d b n) = found (info_parts s t c d a b m n) (both (both (number s t) (number c d)) (both (bytes a b) (bytes m n)))
outcome_is Outcome.Deleted Outcome.Deleted = Some refl
outcome_is Outcome.NotFound Outcome.NotFound = Some refl
outcome_is (Outcome.Unavailable a f) (Outcome.Unavailable b g) = found (unavailable_parts a b f g) (both (bytes a b) (failures_are f g))
outcome_is Outcome.Cancelled Outcome.Cancelled = Some refl
outcome_is (Outcome.TooLarge a) (Outcome.TooLarge b) = found (ap Outcome.TooLarge) (number a b)
outcome_is (Outcome.BadRange a) (Outcome.BadRange b) = found (ap Outcome.BadRange) (number a b)
outcome_is Outcome.NotWhole Outcome.NotWhole = Some refl
outcome_is Outcome.NoFile Outcome.NoFile = Some refl
outcome_is Outcome.NoId Outcome.NoId = Some refl
outcome_is Outcome.NoPartition Outcome.NoPartition = Some refl
outcome_is (Outcome.Missing a) (Outcome.Missing b) = found (ap Outcome.Missing) (bytes a b)
outcome_is (Outcome.Corrupt a) (Outcome.Corrupt b) = found (ap Outcome.Corrupt) (bytes a b)
outcome_is Outcome.Memory Outcome.Memory = Some refl
outcome_is a b = None
