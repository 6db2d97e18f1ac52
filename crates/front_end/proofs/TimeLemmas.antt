-- Where ends stand, as a past grows.
use Rattle.std.proofs.Common.{◌≡◌, ◌⊎◌, inl, inr, ℕ, List, [], ◌∷◌, ◌++◌, Bool, true, false, Option, refl}
use Rattle.std.specs.List.{AllByRecursion}
use Rattle.quorum_op.specs.declared.outcome.Outcome.{Outcome}
use Rattle.world_model.specs.declared.history.Begun.{Begun}
use Rattle.world_model.specs.declared.history.HistoryMark.TheVariants.{Begin, Cancel, Drain, Drew, End, Level, Ordered, Wait}
use Rattle.front_end.specs.declared.history.Entry.{Entry}
use Rattle.front_end.specs.declared.history.Entry.TheVariants.{Mark, Bad, Failed}
use Rattle.front_end.specs.Past.{is_later, BeginsNext, EndsWhileWaiting}
use Rattle.front_end.proofs.PastLemmas.{match_map}

-- a next operation that begins among the entries does so whatever follows
begins_among : (over : Bool) (es more : List Entry) → BeginsNext false es → BeginsNext over (es ++ more)
begins_among over [] more b = absurd cc
begins_among over (x ∷ es) more b = match_map (is_later x) (begins_among over es more) (λ h. h) b

-- a script that may be over goes on with an operation
begins_now : (es : List Entry) (n : ℕ) (r : Begun) → BeginsNext true es → BeginsNext false (es ++ Mark (Begin n r) ∷ [])
begins_now [] n r b = refl
begins_now (x ∷ es) n r b = match_map (is_later x) (begins_now es n r) (λ h. h) b

over_at_end : (es : List Entry) → BeginsNext false es → BeginsNext true es
over_at_end [] b = absurd cc
over_at_end (x ∷ es) b = match_map (is_later x) (over_at_end es) (λ h. h) b

either_map : {A B C : Type 0} → (B → C) → A ⊎ B → A ⊎ C
either_map f (inl a) = inl a
either_map f (inr b) = inr (f b)

pub weaken : (w : Bool) (es : List Entry) → EndsWhileWaiting false w es → EndsWhileWaiting true w es
weaken w [] p = tt
weaken w (Mark (End n o) ∷ es) p = (either_map (over_at_end es) p.0, weaken w es p.1)
weaken w (Mark (Drew n id) ∷ es) p = weaken w es p
weaken w (Mark (Begin n r) ∷ es) p = weaken false es p
weaken w (Mark (Cancel c0) ∷ es) p = weaken false es p
weaken w (Mark (Level l0 l1 l2 l3) ∷ es) p = weaken false es p
weaken w (Mark (Drain d0 d1) ∷ es) p = weaken false es p
weaken w (Mark (Ordered d0 d1) ∷ es) p = weaken false es p
weaken w (Mark (Wait t) ∷ es) p = weaken true es p
weaken w (Bad k ∷ es) p = weaken false es p
weaken w (Failed d ∷ es) p = weaken false es p

-- an operation begins
pub time_begin : (w : Bool) (es : List Entry) (n : ℕ) (r : Begun) → EndsWhileWaiting true w es → EndsWhileWaiting false w (es ++ Mark (Begin n r) ∷ [])
time_begin w [] n r p = tt
time_begin w (Mark (End m o) ∷ es) n r p = (either_map (begins_now es n r) p.0, time_begin w es n r p.1)
time_begin w (Mark (Drew m id) ∷ es) n r p = time_begin w es n r p
time_begin w (Mark (Begin m q) ∷ es) n r p = time_begin false es n r p
time_begin w (Mark (Cancel c0) ∷ es) n r p = time_begin false es n r p
time_begin w (Mark (Level l0 l1 l2 l3) ∷ es) n r p = time_begin false es n r p
time_begin w (Mark (Drain d0 d1) ∷ es) n r p = time_begin false es n r p
time_begin w (Mark (Ordered d0 d1) ∷ es) n r p = time_begin false es n r p
time_begin w (Mark (Wait t) ∷ es) n r p = time_begin true es n r p
time_begin w (Bad k ∷ es) n r p = time_begin false es n r p
time_begin w (Failed d ∷ es) n r p = time_begin false es n r p

-- an entry comes that ends nothing and begins nothing
pub time_more : (w : Bool) (es : List Entry) (e : Entry) → ((v : Bool) → EndsWhileWaiting false v (e ∷ [])) → EndsWhileWaiting false w es → EndsWhileWaiting false w (es ++ e ∷ [])
time_more w [] e alone p = alone w
time_more w (Mark (End m o) ∷ es) e alone p = (either_map (begins_among false es (e ∷ [])) p.0, time_more w es e alone p.1)
time_more w (Mark (Drew m x) ∷ es) e alone p = time_more w es e alone p
time_more w (Mark (Begin m q) ∷ es) e alone p = time_more false es e alone p
time_more w (Mark (Cancel c0) ∷ es) e alone p = time_more false es e alone p
time_more w (Mark (Level l0 l1 l2 l3) ∷ es) e alone p = time_more false es e alone p
time_more w (Mark (Drain d0 d1) ∷ es) e alone p = time_more false es e alone p
time_more w (Mark (Ordered d0 d1) ∷ es) e alone p = time_more false es e alone p
time_more w (Mark (Wait t) ∷ es) e alone p = time_more true es e alone p
time_more w (Bad k ∷ es) e alone p = time_more false es e alone p
time_more w (Failed d ∷ es) e alone p = time_more false es e alone p

-- an operation ends, where the script may be over
pub time_end : (w : Bool) (es : List Entry) (n : ℕ) (o : Outcome) → EndsWhileWaiting false w es → EndsWhileWaiting true w (es ++ Mark (End n o) ∷ [])
time_end w [] n o p = (inr refl, tt)
time_end w (Mark (End m x) ∷ es) n o p = (either_map (begins_among true es (Mark (End n o) ∷ [])) p.0, time_end w es n o p.1)
time_end w (Mark (Drew m x) ∷ es) n o p = time_end w es n o p
time_end w (Mark (Begin m q) ∷ es) n o p = time_end false es n o p
time_end w (Mark (Cancel c0) ∷ es) n o p = time_end false es n o p
time_end w (Mark (Level l0 l1 l2 l3) ∷ es) n o p = time_end false es n o p
time_end w (Mark (Drain d0 d1) ∷ es) n o p = time_end false es n o p
time_end w (Mark (Ordered d0 d1) ∷ es) n o p = time_end false es n o p
time_end w (Mark (Wait t) ∷ es) n o p = time_end true es n o p
time_end w (Bad k ∷ es) n o p = time_end false es n o p
time_end w (Failed d ∷ es) n o p = time_end false es n o p

-- behind a wait what was drawn and ended stands in time
behind_wait : (later : List Entry) → AllByRecursion (λ e. is_later e ≡ true) later → EndsWhileWaiting false true later
behind_wait [] all = tt
behind_wait (Mark (End n o) ∷ es) all = (inl refl, behind_wait es all.1)
behind_wait (Mark (Drew n id) ∷ es) all = behind_wait es all.1
behind_wait (Mark (Begin n r) ∷ es) all = absurd cc
behind_wait (Mark (Cancel c0) ∷ es) all = absurd cc
behind_wait (Mark (Level l0 l1 l2 l3) ∷ es) all = absurd cc
behind_wait (Mark (Drain d0 d1) ∷ es) all = absurd cc
behind_wait (Mark (Ordered d0 d1) ∷ es) all = absurd cc
behind_wait (Mark (Wait t) ∷ es) all = absurd cc
behind_wait (Bad k ∷ es) all = absurd cc
behind_wait (Failed d ∷ es) all = absurd cc

none_begins : (later : List Entry) → AllByRecursion (λ e. is_later e ≡ true) later → BeginsNext false later → ⊥
none_begins [] all b = cc
none_begins (x ∷ es) all b = let here = all.0 in none_begins es all.1 (rw here at b)

begins_before : (es later more : List Entry) → AllByRecursion (λ e. is_later e ≡ true) later → BeginsNext false (es ++ later) → BeginsNext false (es ++ more)
begins_before [] later more all b = absurd (none_begins later all b)
begins_before (x ∷ es) later more all b = match_map (is_later x) (begins_before es later more all) (λ h. h) b

-- A wait stands behind the last entry of a script line, and what was drawn and ended since, and ends now, stands behind it.
pub time_wait : (w : Bool) (settled later now : List Entry) (t : Option ℕ) → AllByRecursion (λ e. is_later e ≡ true) later → AllByRecursion (λ e. is_later e ≡ true) now
    → EndsWhileWaiting false w (settled ++ later) → EndsWhileWaiting false w (settled ++ Mark (Wait t) ∷ now)
time_wait w [] later now t all also p = behind_wait now also
time_wait w (Mark (End m x) ∷ es) later now t all also p = (either_map (begins_before es later (Mark (Wait t) ∷ now) all) p.0, time_wait w es later now t all also p.1)
time_wait w (Mark (Drew m x) ∷ es) later now t all also p = time_wait w es later now t all also p
time_wait w (Mark (Begin m q) ∷ es) later now t all also p = time_wait false es later now t all also p
time_wait w (Mark (Cancel c0) ∷ es) later now t all also p = time_wait false es later now t all also p
time_wait w (Mark (Level l0 l1 l2 l3) ∷ es) later now t all also p = time_wait false es later now t all also p
time_wait w (Mark (Drain d0 d1) ∷ es) later now t all also p = time_wait false es later now t all also p
time_wait w (Mark (Ordered d0 d1) ∷ es) later now t all also p = time_wait false es later now t all also p
time_wait w (Mark (Wait u) ∷ es) later now t all also p = time_wait true es later now t all also p
time_wait w (Bad k ∷ es) later now t all also p = time_wait false es later now t all also p
time_wait w (Failed d ∷ es) later now t all also p = time_wait false es later now t all also p
