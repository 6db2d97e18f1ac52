-- Requests in lists, and counts below a bound.
use Rattle.std.proofs.Common.{◌≡◌, ◌≢◌, ℕ, zero, suc, ◌+◌, ◌<◌, ◌≤◌, ◌==◌, Bool, true, false, not, cond, List, [], ◌∷◌, ◌++◌, filter, find, map, length, take, get_or, take-suc, add-one, Option, Some, None, refl, sym, ap, ◌∙◌, arith}
use Rattle.std.proofs.lemmas.Bool.Decides.{Decides-eqb}
use Rattle.quorum_op.specs.Counts.{count_below}
use Rattle.operation.specs.declared.piece.Open.{Open}
use Rattle.operation.specs.declared.sending.Sending.{Sending}
use Rattle.operation.specs.Pieces.{open_of}

pub same_either : {A : Type 0} (b : Bool) (x : A) → cond b x x ≡ x
same_either true x = refl
same_either false x = refl

-- a request as it is kept
abbrev pub opened : Option Sending → Option Open
opened None = None
opened (Some sending) = Some (open_of sending)

pub find_open : (request : ℕ) (xs : List Sending) → find (λ o. o.request == request) (map open_of xs) ≡ opened (find (λ s. s.request == request) xs)
find_open request [] = refl
find_open request (x ∷ xs) = go (x.request == request) (find_open request xs)
  where
    go : (b : Bool) → find (λ o. o.request == request) (map open_of xs) ≡ opened (find (λ s. s.request == request) xs)
        → cond b (Some (open_of x)) (find (λ o. o.request == request) (map open_of xs)) ≡ opened (cond b (Some x) (find (λ s. s.request == request) xs))
    go true ih = refl
    go false ih = ih

pub filter_open : (request : ℕ) (xs : List Sending) → filter (λ o. not (o.request == request)) (map open_of xs) ≡ map open_of (filter (λ s. not (s.request == request)) xs)
filter_open request [] = refl
filter_open request (x ∷ xs) = go (not (x.request == request)) (filter_open request xs)
  where
    go : (b : Bool) → filter (λ o. not (o.request == request)) (map open_of xs) ≡ map open_of (filter (λ s. not (s.request == request)) xs)
        → cond b (open_of x ∷ filter (λ o. not (o.request == request)) (map open_of xs)) (filter (λ o. not (o.request == request)) (map open_of xs))
        ≡ map open_of (cond b (x ∷ filter (λ s. not (s.request == request)) xs) (filter (λ s. not (s.request == request)) xs))
    go true ih = ap (λ (l : List Open). open_of x ∷ l) ih
    go false ih = ih

-- two filters, in either order
pub filter_swap : {A : Type 0} (p q : A → Bool) (xs : List A) → filter p (filter q xs) ≡ filter q (filter p xs)
filter_swap p q [] = refl
filter_swap {A} p q (x ∷ xs) = go (p x) (q x) refl refl (filter_swap p q xs)
  where
    go : (b c : Bool) → p x ≡ b → q x ≡ c → filter p (filter q xs) ≡ filter q (filter p xs) → filter p (cond c (x ∷ filter q xs) (filter q xs)) ≡ filter q (cond b (x ∷ filter p xs) (filter p xs))
    go true true e f ih =
        ap (λ (d : Bool). cond d (x ∷ filter p (filter q xs)) (filter p (filter q xs))) e
        ∙ (ap (λ (l : List A). x ∷ l) ih ∙ sym (ap (λ (d : Bool). cond d (x ∷ filter q (filter p xs)) (filter q (filter p xs))) f))
    go true false e f ih = ih ∙ sym (ap (λ (d : Bool). cond d (x ∷ filter q (filter p xs)) (filter q (filter p xs))) f)
    go false true e f ih = ap (λ (d : Bool). cond d (x ∷ filter p (filter q xs)) (filter p (filter q xs))) e ∙ ih
    go false false e f ih = ih

-- where no request has the number, all have others
pub others_all : (request : ℕ) (xs : List Sending) → find (λ s. s.request == request) xs ≡ None → filter (λ s. not (s.request == request)) xs ≡ xs
others_all request [] h = refl
others_all request (x ∷ xs) h = go (x.request == request) (others_all request xs) h
  where
    go : (b : Bool) → (find (λ s. s.request == request) xs ≡ None → filter (λ s. not (s.request == request)) xs ≡ xs) → cond b (Some x) (find (λ s. s.request == request) xs) ≡ None
        → cond (not b) (x ∷ filter (λ s. not (s.request == request)) xs) (filter (λ s. not (s.request == request)) xs) ≡ x ∷ xs
    go true ih h = absurd cc
    go false ih h = ap (λ (l : List Sending). x ∷ l) (ih h)

-- what is found among those that pass passes
pub found_passes : {A : Type 0} (p q : A → Bool) (xs : List A) (y : A) → find q (filter p xs) ≡ Some y → p y ≡ true
found_passes p q [] y h = absurd cc
found_passes {A} p q (x ∷ xs) y h = go (p x) refl (found_passes p q xs y) h
  where
    here : (b : Bool) → p x ≡ true → (find q (filter p xs) ≡ Some y → p y ≡ true) → cond b (Some x) (find q (filter p xs)) ≡ Some y → p y ≡ true
    here true e ih h = let same : y ≡ x = cc in ap p same ∙ e
    here false e ih h = ih h

    go : (b : Bool) → p x ≡ b → (find q (filter p xs) ≡ Some y → p y ≡ true) → find q (cond b (x ∷ filter p xs) (filter p xs)) ≡ Some y → p y ≡ true
    go true e ih h = here (q x) e ih h
    go false e ih h = ih h

pub filter_short : {A : Type 0} (p : A → Bool) (xs : List A) → length (filter p xs) ≤ length xs
filter_short p [] = omega arith
filter_short p (x ∷ xs) = go (p x) (filter_short p xs)
  where
    go : (b : Bool) → length (filter p xs) ≤ length xs → length (cond b (x ∷ filter p xs) (filter p xs)) ≤ suc (length xs)
    go true h = omega arith
    go false h = omega arith

pub filter_last : {A : Type 0} (p : A → Bool) (xs : List A) (y : A) → filter p (xs ++ y ∷ []) ≡ filter p xs ++ cond (p y) (y ∷ []) []
filter_last p [] y = refl
filter_last {A} p (x ∷ xs) y = go (p x) (filter_last p xs y)
  where
    go : (b : Bool) → filter p (xs ++ y ∷ []) ≡ filter p xs ++ cond (p y) (y ∷ []) [] → cond b (x ∷ filter p (xs ++ y ∷ [])) (filter p (xs ++ y ∷ [])) ≡ cond b (x ∷ filter p xs) (filter p xs) ++ cond (p y) (y ∷ []) []
    go true ih = ap (λ (l : List A). x ∷ l) ih
    go false ih = ih

-- one more is looked at
pub filter_more : {A : Type 0} (p : A → Bool) (xs : List A) (i : ℕ) (d : A) (old new : List A) → i < length xs → old ≡ filter p (take i xs) → new ≡ old ++ cond (p (get_or xs i d)) (get_or xs i d ∷ []) [] → new ≡ filter p (take (i + 1) xs)
filter_more {A} p xs i d old new l h n =
    n ∙ (ap (λ (ys : List A). ys ++ cond (p (get_or xs i d)) (get_or xs i d ∷ []) []) h
    ∙ (sym (filter_last p (take i xs) (get_or xs i d)) ∙ ap (λ (ys : List A). filter p ys) (sym (ap (λ (k : ℕ). take k xs) (add-one i) ∙ take-suc xs i d l))))

-- ---- counts

pub count_most : (n : ℕ) (p : ℕ → Bool) → count_below n p ≤ n
count_most zero p = omega arith
count_most (suc n) p = go (p n) (count_most n p)
  where
    go : (b : Bool) → count_below n p ≤ n → cond b (1 + count_below n p) (count_below n p) ≤ suc n
    go true h = omega arith
    go false h = omega arith

-- where one number doesn't pass, not all do
pub count_room : (n : ℕ) (p : ℕ → Bool) (k : ℕ) → k < n → p k ≡ false → count_below n p < n
count_room zero p k l e = absurd (omega arith)
count_room (suc n) p k l e = go (p n) (n == k) refl refl (count_room n p k)
  where
    go : (b c : Bool) → p n ≡ b → (n == k) ≡ c → (k < n → p k ≡ false → count_below n p < n) → cond b (1 + count_below n p) (count_below n p) < suc n
    go false c f g ih = let m = count_most n p in omega arith
    go true true f g ih = absurd (let same : n ≡ k = (Decides-eqb n k).0 g in let t : p k ≡ true = ap p (sym same) ∙ f in cc)
    go true false f g ih =
        let apart : n ≢ k = λ w. (let t : (n == k) ≡ true = (Decides-eqb n k).1 w in cc) in
        let less : k < n = below_other n k l apart in
        let m = ih less e in
        omega arith
      where
        below_other : (n k : ℕ) → k < suc n → n ≢ k → k < n
        below_other n k l apart = omega arith

-- one number more passes
pub count_more : (n : ℕ) (p q : ℕ → Bool) (k : ℕ) → k < n → p k ≡ false → q k ≡ true → ((r : ℕ) → r ≢ k → q r ≡ p r) → count_below n q ≡ 1 + count_below n p
count_more zero p q k l e f same = absurd (omega arith)
count_more (suc n) p q k l e f same = go (n == k) refl (count_more n p q k)
  where
    stays : (m : ℕ) → m ≤ k → count_below m q ≡ count_below m p
    stays zero l = refl
    stays (suc m) l =
        let apart : m ≢ k = λ w. omega arith in
        ap (λ (b : Bool). cond b (1 + count_below m q) (count_below m q)) (same m apart) ∙ ap (λ (c : ℕ). cond (p m) (1 + c) c) (stays m (omega arith))

    behind : (b : Bool) (c d : ℕ) → c ≡ 1 + d → cond b (1 + c) c ≡ 1 + cond b (1 + d) d
    behind true c d h = ap (λ (m : ℕ). 1 + m) h
    behind false c d h = h

    go : (b : Bool) → (n == k) ≡ b → (k < n → p k ≡ false → q k ≡ true → ((r : ℕ) → r ≢ k → q r ≡ p r) → count_below n q ≡ 1 + count_below n p)
        → cond (q n) (1 + count_below n q) (count_below n q) ≡ 1 + cond (p n) (1 + count_below n p) (count_below n p)
    go true g ih =
        let at : n ≡ k = (Decides-eqb n k).0 g in
        let now : q n ≡ true = ap q at ∙ f in
        let was : p n ≡ false = ap p at ∙ e in
        (λ i. cond (now i) (1 + count_below n q) (count_below n q)) ∙ (ap (λ (m : ℕ). 1 + m) (stays n (omega arith)) ∙ sym (λ i. 1 + cond (was i) (1 + count_below n p) (count_below n p)))
    go false g ih =
        let apart : n ≢ k = λ w. (let t : (n == k) ≡ true = (Decides-eqb n k).1 w in cc) in
        ap (λ (b : Bool). cond b (1 + count_below n q) (count_below n q)) (same n apart) ∙ behind (p n) (count_below n q) (count_below n p) (ih (omega arith) e f same)
