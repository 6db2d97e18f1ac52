-- Each replica is asked once.
use Rattle.std.proofs.Common.{◌≡◌, ℕ, zero, suc, ◌+◌, ◌<◌, ◌≤◌, ◌==◌, nat_lt, Bool, true, false, ◌&&◌, ◌||◌, ◌⊎◌, inl, inr, not, cond, List, [], ◌∷◌, ◌++◌, length, refl, sym, ap, ◌∙◌, arith, length-append, append_assoc, add-one}
use Rattle.std.proofs.lemmas.Bool.Decides.{nat_tests}
use Rattle.operation.specs.declared.sending.Errand.{Errand}
use Rattle.operation.specs.declared.sending.Purpose.{Purpose}
use Rattle.operation.specs.declared.sending.Sending.{Sending}
use Rattle.operation.specs.Calls.{Call, Sent, sent_all, sent_in}
use Rattle.std.specs.List.{list_any}
use Rattle.operation.specs.Each.{HasReached, to_each, was_reached}
use Rattle.operation.specs.Wants.{next_request, sends_along, upto}

pub sent_more : (added : List Sending) (sending : Sending) (calls : List Call) → sent_all (added ++ sending ∷ []) calls ≡ Sent sending ∷ sent_all added calls
sent_more [] sending calls = refl
sent_more (s ∷ added) sending calls = sent_more added sending (Sent s ∷ calls)

-- the replicas that no request reached
abbrev pub lacks : (Sending → ℕ → Bool) → ℕ → List Call → ℕ → Bool
lacks reaches replicas calls replica = nat_lt replica replicas && not (was_reached reaches calls replica)

-- a request to a replica reaches that one alone
abbrev pub Reaches : (Sending → ℕ → Bool) → Purpose → Errand → Type 0
Reaches reaches purpose errand = (request replica other : ℕ) → reaches (record { request = request; replica = replica; purpose = purpose; errand = errand }) other ≡ (replica == other)

along_more : (passes : List Call → ℕ → Bool) (purpose : Purpose) (errand : Errand) (calls : List Call) (xs : List ℕ) (x : ℕ)
    → sends_along passes purpose errand calls (xs ++ x ∷ []) ≡ sends_along passes purpose errand calls xs ++ sends_along passes purpose errand (sent_all (sends_along passes purpose errand calls xs) calls) (x ∷ [])
along_more passes purpose errand calls [] x = refl
along_more passes purpose errand calls (y ∷ xs) x =
    let s : Sending = record { request = next_request calls; replica = y; purpose = purpose; errand = errand } in
    go s (passes calls y) (along_more passes purpose errand calls xs x) (along_more passes purpose errand (Sent s ∷ calls) xs x)
  where
    rest : List Call → List ℕ → List Sending
    rest cs ys = sends_along passes purpose errand cs ys

    go : (s : Sending) (b : Bool) → rest calls (xs ++ x ∷ []) ≡ rest calls xs ++ rest (sent_all (rest calls xs) calls) (x ∷ [])
        → rest (Sent s ∷ calls) (xs ++ x ∷ []) ≡ rest (Sent s ∷ calls) xs ++ rest (sent_all (rest (Sent s ∷ calls) xs) (Sent s ∷ calls)) (x ∷ [])
        → cond b (s ∷ rest (Sent s ∷ calls) (xs ++ x ∷ [])) (rest calls (xs ++ x ∷ []))
        ≡ cond b (s ∷ rest (Sent s ∷ calls) xs) (rest calls xs) ++ rest (sent_all (cond b (s ∷ rest (Sent s ∷ calls) xs) (rest calls xs)) calls) (x ∷ [])
    go s true here there = ap (λ (l : List Sending). s ∷ l) there
    go s false here there = here

pub each_long : (purpose : Purpose) (errand : Errand) (first n : ℕ) (calls : List Call) → length (sent_in (sent_all (to_each purpose errand first n) calls)) ≡ n + length (sent_in calls)
each_long purpose errand first zero calls = omega arith
each_long purpose errand first (suc n) calls =
    let s : Sending = record { request = first + n; replica = n; purpose = purpose; errand = errand } in
    ap (λ (cs : List Call). length (sent_in cs)) (sent_more (to_each purpose errand first n) s calls) ∙ (let e = each_long purpose errand first n calls in omega arith)

not_reached : (n replica : ℕ) → n ≤ replica → suc n ≤ replica → (n == replica) ≡ false
not_reached n replica l m = grind (arith, nat_tests)

-- who is behind those that are asked is not reached
pub each_behind : (reaches : Sending → ℕ → Bool) (purpose : Purpose) (errand : Errand) → Reaches reaches purpose errand → (first n : ℕ) (calls : List Call) (replica : ℕ) → n ≤ replica
    → was_reached reaches (sent_all (to_each purpose errand first n) calls) replica ≡ was_reached reaches calls replica
each_behind reaches purpose errand one first zero calls replica l = refl
each_behind reaches purpose errand one first (suc n) calls replica l =
    let s : Sending = record { request = first + n; replica = n; purpose = purpose; errand = errand } in
    let m : n ≤ replica = omega arith in
    ap (λ (cs : List Call). was_reached reaches cs replica) (sent_more (to_each purpose errand first n) s calls)
    ∙ (ap (λ (b : Bool). b || was_reached reaches (sent_all (to_each purpose errand first n) calls) replica) (one (first + n) n replica ∙ not_reached n replica m l)
    ∙ each_behind reaches purpose errand one first n calls replica m)

or_true : (a b : Bool) → b ≡ true → (a || b) ≡ true
or_true true b h = refl
or_true false b h = h

below_or_at : (n replica : ℕ) → replica < suc n → (replica < n) ⊎ ((n == replica) ≡ true)
below_or_at n replica l = go (nat_lt replica n) refl
  where
    go : (b : Bool) → nat_lt replica n ≡ b → (replica < n) ⊎ ((n == replica) ≡ true)
    go true e = inl (grind (arith, nat_tests))
    go false e = inr (grind (arith, nat_tests))

-- who was asked is reached
pub each_within : (reaches : Sending → ℕ → Bool) (purpose : Purpose) (errand : Errand) → Reaches reaches purpose errand → (first n : ℕ) (calls : List Call) (replica : ℕ) → replica < n
    → was_reached reaches (sent_all (to_each purpose errand first n) calls) replica ≡ true
each_within reaches purpose errand one first zero calls replica l = absurd (omega arith)
each_within reaches purpose errand one first (suc n) calls replica l =
    let s : Sending = record { request = first + n; replica = n; purpose = purpose; errand = errand } in
    ap (λ (cs : List Call). was_reached reaches cs replica) (sent_more (to_each purpose errand first n) s calls)
    ∙ elim (below_or_at n replica l) [
      | inl m ↦ or_true (reaches s replica) (was_reached reaches (sent_all (to_each purpose errand first n) calls) replica) (each_within reaches purpose errand one first n calls replica m)
      | inr e ↦ ap (λ (b : Bool). b || was_reached reaches (sent_all (to_each purpose errand first n) calls) replica) (one (first + n) n replica ∙ e)
    ]

lt_true : (n m : ℕ) → n < m → nat_lt n m ≡ true
lt_true n m l = grind (arith, nat_tests)

-- Where no replica was reached, each one is asked.
pub along_each : (reaches : Sending → ℕ → Bool) (purpose : Purpose) (errand : Errand) → Reaches reaches purpose errand → (replicas : ℕ) (calls : List Call) → ((replica : ℕ) → was_reached reaches calls replica ≡ false)
    → (n : ℕ) → n ≤ replicas → sends_along (lacks reaches replicas) purpose errand calls (upto n) ≡ to_each purpose errand (next_request calls) n
along_each reaches purpose errand one replicas calls none zero l = refl
along_each reaches purpose errand one replicas calls none (suc n) l =
    let so : sends_along (lacks reaches replicas) purpose errand calls (upto n) ≡ to_each purpose errand (next_request calls) n = along_each reaches purpose errand one replicas calls none n (omega arith) in
    let now : List Call = sent_all (to_each purpose errand (next_request calls) n) calls in
    let behind : lacks reaches replicas now n ≡ true =
    (λ i. lt_true n replicas l i && not (each_behind reaches purpose errand one (next_request calls) n calls n (omega arith) i)) ∙ ap not (none n) in
    let number : next_request now ≡ next_request calls + n = let e = each_long purpose errand (next_request calls) n calls in omega arith in
    along_more (lacks reaches replicas) purpose errand calls (upto n) n
    ∙ (ap (λ (l : List Sending). l ++ sends_along (lacks reaches replicas) purpose errand (sent_all l calls) (n ∷ [])) so
    ∙ ap (λ (l : List Sending). to_each purpose errand (next_request calls) n ++ l)
    (ap (λ (b : Bool). cond b (record { request = next_request now; replica = n; purpose = purpose; errand = errand } ∷ []) []) behind
    ∙ ap (λ (k : ℕ). record { request = k; replica = n; purpose = purpose; errand = errand } ∷ []) number))

-- Where each one was reached, none is asked.
pub along_none : (reaches : Sending → ℕ → Bool) (purpose : Purpose) (errand : Errand) (replicas : ℕ) (calls : List Call) → ((replica : ℕ) → replica < replicas → was_reached reaches calls replica ≡ true)
    → (xs : List ℕ) → sends_along (lacks reaches replicas) purpose errand calls xs ≡ []
along_none reaches purpose errand replicas calls all [] = refl
along_none reaches purpose errand replicas calls all (x ∷ xs) =
    let s : Sending = record { request = next_request calls; replica = x; purpose = purpose; errand = errand } in
    ap (λ (b : Bool). cond b (s ∷ sends_along (lacks reaches replicas) purpose errand (Sent s ∷ calls) xs) (sends_along (lacks reaches replicas) purpose errand calls xs)) (passed (nat_lt x replicas) refl)
    ∙ along_none reaches purpose errand replicas calls all xs
  where
    passed : (b : Bool) → nat_lt x replicas ≡ b → lacks reaches replicas calls x ≡ false
    passed true e = (λ i. e i && not (all x (grind (arith, nat_tests)) i))
    passed false e = ap (λ (b : Bool). b && not (was_reached reaches calls x)) e

-- who was reached is so behind a call that asks for nothing, and behind requests that reach others
pub still_reached : (reaches : Sending → ℕ → Bool) (replicas : ℕ) (all : Bool) (calls calls' : List Call) → ((replica : ℕ) → was_reached reaches calls' replica ≡ was_reached reaches calls replica)
    → HasReached reaches replicas all calls → HasReached reaches replicas all calls'
still_reached reaches replicas false calls calls' same h = λ replica. same replica ∙ h replica
still_reached reaches replicas true calls calls' same h = λ replica l. same replica ∙ h replica l

pub silent_reached : (reaches : Sending → ℕ → Bool) (replicas : ℕ) (all : Bool) (call : Call) (calls : List Call) → sent_in (call ∷ calls) ≡ sent_in calls → HasReached reaches replicas all calls → HasReached reaches replicas all (call ∷ calls)
silent_reached reaches replicas all call calls sent h = still_reached reaches replicas all calls (call ∷ calls) (λ replica. ap (λ (l : List Sending). list_any (λ s. reaches s replica) l) sent) h

-- requests of a purpose and an errand that reach no one
abbrev pub ReachesNone : (Sending → ℕ → Bool) → Purpose → Errand → Type 0
ReachesNone reaches purpose errand = (request replica other : ℕ) → reaches (record { request = request; replica = replica; purpose = purpose; errand = errand }) other ≡ false

pub others_reached : (reaches : Sending → ℕ → Bool) (passes : List Call → ℕ → Bool) (purpose : Purpose) (errand : Errand) → ReachesNone reaches purpose errand → (calls : List Call) (xs : List ℕ) (replica : ℕ)
    → was_reached reaches (sent_all (sends_along passes purpose errand calls xs) calls) replica ≡ was_reached reaches calls replica
others_reached reaches passes purpose errand none calls [] replica = refl
others_reached reaches passes purpose errand none calls (x ∷ xs) replica =
    let s : Sending = record { request = next_request calls; replica = x; purpose = purpose; errand = errand } in
    go s (none (next_request calls) x replica) (passes calls x) (others_reached reaches passes purpose errand none calls xs replica) (others_reached reaches passes purpose errand none (Sent s ∷ calls) xs replica)
  where
    go : (s : Sending) → reaches s replica ≡ false → (b : Bool) → was_reached reaches (sent_all (sends_along passes purpose errand calls xs) calls) replica ≡ was_reached reaches calls replica
        → was_reached reaches (sent_all (sends_along passes purpose errand (Sent s ∷ calls) xs) (Sent s ∷ calls)) replica ≡ was_reached reaches (Sent s ∷ calls) replica
        → was_reached reaches (sent_all (cond b (s ∷ sends_along passes purpose errand (Sent s ∷ calls) xs) (sends_along passes purpose errand calls xs)) calls) replica ≡ was_reached reaches calls replica
    go s n true here there = there ∙ ap (λ (b : Bool). b || was_reached reaches calls replica) n
    go s n false here there = here

pub upto_long : (n : ℕ) → length (upto n) ≡ n
upto_long zero = refl
upto_long (suc n) = length-append (upto n) (n ∷ []) ∙ (let e = upto_long n in omega arith)

-- one request more was added
pub each_more : (purpose : Purpose) (errand : Errand) (first n : ℕ) (before out out' : List Sending) → out ≡ before ++ to_each purpose errand first n
    → out' ≡ out ++ record { request = first + n; replica = n; purpose = purpose; errand = errand } ∷ [] → out' ≡ before ++ to_each purpose errand first (n + 1)
each_more purpose errand first n before out out' h more =
    let s : Sending = record { request = first + n; replica = n; purpose = purpose; errand = errand } in
    more ∙ (ap (λ (l : List Sending). l ++ s ∷ []) h
    ∙ (append_assoc before (to_each purpose errand first n) (s ∷ []) ∙ ap (λ (k : ℕ). before ++ to_each purpose errand first k) (sym (add-one n))))
