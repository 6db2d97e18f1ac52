-- Requests end in time: one that is open has seen fewer events than it waits for.
use Rattle.std.proofs.Common.{◌≡◌, ℕ, ◌+◌, ◌<◌, ◌==◌, nat_le, Bool, true, false, ◌||◌, not, cond, List, [], ◌∷◌, ◌++◌, filter, filter_map, Option, Some, None, refl, sym, ap, ◌∙◌, subst, inl, inr, arith}
use Rattle.std.specs.List.{cons_option, list_any}
use Rattle.std.specs.Option.{IsSome}
use Rattle.std.proofs.lemmas.Bool.{leb-false}
use Rattle.quorum_op.specs.declared.cause.Cause.{Cause}
use Rattle.world_model.specs.declared.shape.Shape.{Shape}
use Rattle.world_model.specs.declared.step.Event.{Event}
use Rattle.world_model.specs.declared.step.Step.TheVariants.{Send, Refused}
use Rattle.world_model.specs.Frames.{frame_in}
use Rattle.world_model.specs.Lists.{Has}
use Rattle.world_model.specs.Notes.{Asked, Ended, Entry, Learnt, ask_as, asked, asked_by, asked_now, end_at, end_with, ends, ends_now, entry_of, events_in, failed, is_open, is_stated, or_patience, router_frame, says}
use Rattle.world_model.specs.Record.{Item, Took, Given, Withheld, Record}
use Rattle.world_model.specs.Shape.{replica_of}
use Rattle.world_model.proofs.ListLaws.{has_append, has_left}
use Rattle.world_model.proofs.CellLaws.{same_number}

-- ---- a request that was just sent

-- a fact of an optional value, by cases
by_case : {F : Type 0} (o : Option F) (P : Option F → Type 0) → P None → ((f : F) → P (Some f)) → P o
by_case None P none some = none
by_case (Some f) P none some = some f

now_in_time : (before : Record) (a b : Asked) → b.events ≡ events_in before → Has (b ∷ []) a → events_in before < a.events + 65536
now_in_time before a b same h = elim h [ inl e ↦ (let then : a.events ≡ events_in before = ap (λ (w : Asked). w.events) e ∙ same in omega (arith, then)) | inr z ↦ absurd z ]

-- no event sends one, so it has seen none
sent_in_time : (item : Item) (before : Record) (a : Asked) → Has (asked_now item before) a → events_in (item ∷ before) < a.events + 65536
sent_in_time (Took (Send from node frame)) before a h = go (from == 0) h
  where
    go : (b : Bool) → Has (cond b (asked_by (frame_in frame) node before) []) a → events_in before < a.events + 65536
    go true h = by_case (frame_in frame) (λ o. Has (asked_by o node before) a → events_in before < a.events + 65536) (λ z. absurd z) (λ f. now_in_time before a (ask_as f node before) refl) h
    go false h = absurd h
sent_in_time (Took (Refused node frame)) before a h =
    by_case (router_frame (frame_in frame)) (λ o. Has (asked_by o node before) a → events_in before < a.events + 65536) (λ z. absurd z) (λ f. now_in_time before a (ask_as f node before) refl) h
sent_in_time (Withheld node f) before a h = now_in_time before a (ask_as f node before) refl h
sent_in_time _ before a h = absurd h

-- ---- a request that waits

-- an end of a request is among the new ones
end_has : {A B : Type 0} (f : A → Option B) (p : A → Bool) (xs : List A) (x : A) (y : B) → Has xs x → p x ≡ true → f x ≡ Some y → Has (filter_map f (filter p xs)) y
end_has f p [] x y h t e = absurd h
end_has {A} {B} f p (z ∷ xs) x y h t e = elim h [
  | inl q ↦ subst (λ (b : Bool). Has (filter_map f (cond b (z ∷ filter p xs) (filter p xs))) y) (sym (ap p (sym q) ∙ t))
      (subst (λ (o : Option B). Has (cons_option o (filter_map f (filter p xs))) y) (sym (ap f (sym q) ∙ e)) (inl refl))
  | inr m ↦ go (p z) (f z) (end_has f p xs x y m t e)
]
  where
    one : (o : Option B) → Has (filter_map f (filter p xs)) y → Has (cons_option o (filter_map f (filter p xs))) y
    one None k = k
    one (Some w) k = inr k

    go : (b : Bool) (o : Option B) → Has (filter_map f (filter p xs)) y → Has (filter_map f (cond b (z ∷ filter p xs) (filter p xs))) y
    go true o k = one (f z) k
    go false o k = k

-- a request with an end is open no more
end_shuts : (es : List Ended) (e : Ended) (a : Asked) → Has es e → e.asked ≡ a → is_open es a ≡ false
end_shuts [] e a h same = absurd h
end_shuts (x ∷ es) e a h same = elim h [
  | inl q ↦ (
      let is : (x.asked.correlation == a.correlation) ≡ true =
      ap (λ (w : Ended). w.asked.correlation == a.correlation) (sym q) ∙ (ap (λ (w : Asked). w.correlation == a.correlation) same ∙ same_number a.correlation) in
      ap (λ (b : Bool). not (b || list_any (λ (w : Ended). w.asked.correlation == a.correlation) es)) is)
  | inr m ↦ go (x.asked.correlation == a.correlation) (end_shuts es e a m same)
]
  where
    go : (b : Bool) → is_open es a ≡ false → not (b || list_any (λ (w : Ended). w.asked.correlation == a.correlation) es) ≡ false
    go true ih = refl
    go false ih = ih

-- a request that is open was open before
open_before : (new old : List Ended) (a : Asked) → is_open (new ++ old) a ≡ true → is_open old a ≡ true
open_before [] old a h = h
open_before (x ∷ new) old a h = open_before new old a (go (x.asked.correlation == a.correlation) h)
  where
    go : (b : Bool) → not (b || list_any (λ (w : Ended). w.asked.correlation == a.correlation) (new ++ old)) ≡ true → is_open (new ++ old) a ≡ true
    go true h = absurd cc
    go false h = h

runs_out : (a : Entry) (events : ℕ) (o : Option Learnt) → nat_le (a.events + 65536) (1 + events) ≡ true → (said : Learnt) × (or_patience a events o ≡ Some said)
runs_out a events (Some said) h = (said, refl)
runs_out a events None h = (_, ap (λ (b : Bool). cond b (failed Cause.Patience) None) h)

-- each event says something to a request that has waited for too many
tells : (stated : Bool) (event : Event) (events : ℕ) (a : Entry) → nat_le (a.events + 65536) (1 + events) ≡ true → (said : Learnt) × (says stated (Given event) events a ≡ Some said)
tells stated (Event.Reply node frame) events a h = runs_out a events _ h
tells stated (Event.Broken node) events a h = runs_out a events _ h
tells stated (Event.Now ms) events a h = runs_out a events _ h
tells stated Event.Quiet events a h = runs_out a events None h

-- so it ends
ends_then : (shape : Shape) (event : Event) (before : Record) (a : Asked) → IsSome (replica_of shape a.partition a.node) → nat_le (a.events + 65536) (1 + events_in before) ≡ true
    → (e : Ended) × (ends_now shape (ends shape before) (Given event) before a ≡ Some e) × (e.asked ≡ a)
ends_then shape event before a s h = go (replica_of shape a.partition a.node) s
  where
    go : (o : Option ℕ) → IsSome o → (e : Ended) × (end_at shape (ends shape before) (Given event) before a o ≡ Some e) × (e.asked ≡ a)
    go None s = absurd cc
    go (Some replica) s =
        let told = tells (is_stated shape (ends shape before) a replica) event (events_in before) (entry_of a) h in
        (record { asked = a; replica = replica; finding = told.0.finding; blob = told.0.blob }, ap (λ (o : Option Learnt). end_with a replica o) told.1, refl)

-- an event leaves open only requests that may wait for more
event_in_time : (shape : Shape) (event : Event) (before : Record) (a : Asked) → Has (asked before) a → IsSome (replica_of shape a.partition a.node) → is_open (ends shape before) a ≡ true
    → is_open (ends shape (Given event ∷ before)) a ≡ true → 1 + events_in before < a.events + 65536
event_in_time shape event before a h s was is = go (nat_le (a.events + 65536) (1 + events_in before)) refl
  where
    new : List Ended
    new = filter_map (ends_now shape (ends shape before) (Given event) before) (filter (is_open (ends shape before)) (asked before))

    go : (b : Bool) → nat_le (a.events + 65536) (1 + events_in before) ≡ b → 1 + events_in before < a.events + 65536
    go true late = absurd (
        let e = ends_then shape event before a s late in
        let has : Has new e.0 = end_has (ends_now shape (ends shape before) (Given event) before) (is_open (ends shape before)) (asked before) a e.0 h was e.1 in
        let shut : is_open (new ++ ends shape before) a ≡ false = end_shuts (new ++ ends shape before) e.0 a (has_left new (ends shape before) e.0 has) e.2 in
        let both : true ≡ false = sym is ∙ shut in
        cc both)
    go false early = leb-false _ _ early

waits_in_time : (shape : Shape) (item : Item) (before : Record) (a : Asked) → Has (asked before) a → IsSome (replica_of shape a.partition a.node) → is_open (ends shape before) a ≡ true
    → is_open (ends shape (item ∷ before)) a ≡ true → events_in before < a.events + 65536 → events_in (item ∷ before) < a.events + 65536
waits_in_time shape (Given event) before a h s was is l = event_in_time shape event before a h s was is
waits_in_time shape _ before a h s was is l = l

-- a request that is outstanding has seen fewer than 65,536 events
pub open_in_time : (shape : Shape) (r : Record) (a : Asked) → Has (asked r) a → IsSome (replica_of shape a.partition a.node) → is_open (ends shape r) a ≡ true → events_in r < a.events + 65536
open_in_time shape [] a h s is = absurd h
open_in_time shape (item ∷ before) a h s is = elim (has_append (asked_now item before) (asked before) a h) [
  | inl now ↦ sent_in_time item before a now
  | inr then ↦ (
      let was : is_open (ends shape before) a ≡ true =
      open_before (filter_map (ends_now shape (ends shape before) item before) (filter (is_open (ends shape before)) (asked (item ∷ before)))) (ends shape before) a is in
      waits_in_time shape item before a then s was is (open_in_time shape before a then s was))
]
