-- One more replica is asked.
use Rattle.std.proofs.Common.{◌≡◌, ℕ, zero, suc, ◌+◌, ◌<◌, ◌≤◌, Bool, true, false, cond, List, [], ◌∷◌, ◌++◌, length, take, get_or, Option, refl, sym, ap, ◌∙◌, subst, append_assoc, take-suc, add-one, arith}
use Rattle.std.specs.Option.{option_to_list}
use Rattle.operation.specs.declared.sending.Errand.{Errand}
use Rattle.operation.specs.declared.sending.Purpose.{Purpose}
use Rattle.operation.specs.declared.sending.Sending.{Sending}
use Rattle.operation.specs.Calls.{Call, Sent, sent_all}
use Rattle.operation.specs.Wants.{HasSent, asked_if, next_request, sends_along, upto}

pub sent_append : (a b : List Sending) (calls : List Call) → sent_all (a ++ b) calls ≡ sent_all b (sent_all a calls)
sent_append [] b calls = refl
sent_append (s ∷ a) b calls = sent_append a b (Sent s ∷ calls)

pub along_more : (passes : List Call → ℕ → Bool) (purpose : Purpose) (errand : Errand) (calls : List Call) (xs : List ℕ) (x : ℕ)
    → sends_along passes purpose errand calls (xs ++ x ∷ []) ≡ sends_along passes purpose errand calls xs ++ sends_along passes purpose errand (sent_all (sends_along passes purpose errand calls xs) calls) (x ∷ [])
along_more passes purpose errand calls [] x = refl
along_more passes purpose errand calls (y ∷ xs) x =
    let s : Sending = record { request = next_request calls; replica = y; purpose = purpose; errand = errand } in
    go s (passes calls y) (along_more passes purpose errand calls xs x) (along_more passes purpose errand (Sent s ∷ calls) xs x)
  where
    rest : List Call → List ℕ → List Sending
    rest cs ys = sends_along passes purpose errand cs ys

    go : (s : Sending) (b : Bool) → rest calls (xs ++ x ∷ []) ≡ rest calls xs ++ rest (sent_all (rest calls xs) calls) (x ∷ [])
        → rest (Sent s ∷ calls) (xs ++ x ∷ []) ≡ rest (Sent s ∷ calls) xs ++ rest (sent_all (rest (Sent s ∷ calls) xs) (Sent s ∷ calls)) (x ∷ [])
        → cond b (s ∷ rest (Sent s ∷ calls) (xs ++ x ∷ [])) (rest calls (xs ++ x ∷ []))
        ≡ cond b (s ∷ rest (Sent s ∷ calls) xs) (rest calls xs) ++ rest (sent_all (cond b (s ∷ rest (Sent s ∷ calls) xs) (rest calls xs)) calls) (x ∷ [])
    go s true here there = ap (λ (l : List Sending). s ∷ l) there
    go s false here there = here

one_list : (b : Bool) (s : Sending) → cond b (s ∷ []) [] ≡ option_to_list (asked_if b s)
one_list true s = refl
one_list false s = refl

-- an asker asks one replica more
pub asked_more : (passes : List Call → ℕ → Bool) (purpose : Purpose) (errand : Errand) (xs : List ℕ) (i d : ℕ) (calls : List Call) (stands stands' : List Call → Type 0) (before out out' : List Sending) (next next' : ℕ) → i < length xs
    → HasSent stands (sends_along passes purpose errand calls (take i xs)) calls before out next
    → (let now : List Call = sent_all (sends_along passes purpose errand calls (take i xs)) calls in
    HasSent stands' (option_to_list (asked_if (passes now (get_or xs i d)) (record { request = next; replica = get_or xs i d; purpose = purpose; errand = errand }))) now out out' next')
    → HasSent stands' (sends_along passes purpose errand calls (take (i + 1) xs)) calls before out' next'
asked_more passes purpose errand xs i d calls stands stands' before out out' next next' l h one =
    let a : List Sending = sends_along passes purpose errand calls (take i xs) in
    let now : List Call = sent_all a calls in
    let x : ℕ = get_or xs i d in
    let b : List Sending = option_to_list (asked_if (passes now x) (record { request = next; replica = x; purpose = purpose; errand = errand })) in
    let more : sends_along passes purpose errand calls (take (i + 1) xs) ≡ a ++ b =
    ap (λ (ys : List ℕ). sends_along passes purpose errand calls ys) (ap (λ (k : ℕ). take k xs) (add-one i) ∙ take-suc xs i d l)
    ∙ (along_more passes purpose errand calls (take i xs) x
    ∙ ap (λ (ys : List Sending). a ++ ys)
    (one_list (passes now x) (record { request = next_request now; replica = x; purpose = purpose; errand = errand })
    ∙ ap (λ (k : ℕ). option_to_list (asked_if (passes now x) (record { request = k; replica = x; purpose = purpose; errand = errand }))) (sym h.numbers))) in
    let all : sent_all b now ≡ sent_all (a ++ b) calls = sym (sent_append a b calls) in
    subst (λ (added : List Sending). HasSent stands' added calls before out' next') (sym more)
    (record {
      out = one.out ∙ (ap (λ (o : List Sending). o ++ b) h.out ∙ append_assoc before a b);
      knows = subst stands' all one.knows;
      numbers = one.numbers ∙ ap (λ (cs : List Call). next_request cs) all;
    })

-- one request was asked for, or none
pub asked_one : (stands : List Call → Type 0) (calls : List Call) (r s : Option Sending) (out out' : List Sending) (next' : ℕ) → r ≡ s → stands (sent_all (option_to_list r) calls) → out' ≡ out ++ option_to_list r
    → next' ≡ next_request (sent_all (option_to_list r) calls) → HasSent stands (option_to_list s) calls out out' next'
asked_one stands calls r s out out' next' e knows added numbers =
    subst (λ (o : Option Sending). HasSent stands (option_to_list o) calls out out' next') e (record { out = added; knows = knows; numbers = numbers })

-- the first so many of nine numbers
pub numbers_upto : (n : ℕ) → n ≤ 9 → take n (0 ∷ 1 ∷ 2 ∷ 3 ∷ 4 ∷ 5 ∷ 6 ∷ 7 ∷ 8 ∷ []) ≡ upto n
numbers_upto zero l = refl
numbers_upto (suc zero) l = refl
numbers_upto (suc (suc zero)) l = refl
numbers_upto (suc (suc (suc zero))) l = refl
numbers_upto (suc (suc (suc (suc zero)))) l = refl
numbers_upto (suc (suc (suc (suc (suc zero))))) l = refl
numbers_upto (suc (suc (suc (suc (suc (suc zero)))))) l = refl
numbers_upto (suc (suc (suc (suc (suc (suc (suc zero))))))) l = refl
numbers_upto (suc (suc (suc (suc (suc (suc (suc (suc zero)))))))) l = refl
numbers_upto (suc (suc (suc (suc (suc (suc (suc (suc (suc zero))))))))) l = refl
numbers_upto (suc (suc (suc (suc (suc (suc (suc (suc (suc (suc n)))))))))) l = absurd (omega arith)
