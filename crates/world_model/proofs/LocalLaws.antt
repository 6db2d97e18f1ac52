-- A piece's ends go on by its own requests alone.
use Rattle.std.proofs.Common.{◌≡◌, ℕ, ◌==◌, Bool, true, false, cond, ◌&&◌, ◌||◌, not, List, [], ◌∷◌, ◌++◌, Option, Some, None, refl, sym, ap, ◌∙◌, subst, inl, inr, filter, filter_map}
use Rattle.std.specs.List.{list_any, cons_option}
use Rattle.blob_id.specs.declared.id.BlobId.{BlobId}
use Rattle.world_model.specs.declared.shape.Shape.{Shape}
use Rattle.quorum_op.specs.declared.cause.TallyKind.{TallyKind}
use Rattle.world_model.specs.Lists.{Has}
use Rattle.world_model.specs.declared.step.Event.{Event}
use Rattle.world_model.specs.Record.{Part, Top, Chunk, Item, Given, Record}
use Rattle.quorum_op.specs.Tally.{is_state, standing}
use Rattle.world_model.specs.Notes
use Rattle.world_model.specs.Notes.{Asked, events_in, entry_of, asked, Ended, Learnt, Piece, ends, end_with, end_at, ends_now, fits, aims_at, same_part, Aim, is_of, is_open, is_stated, stated_for, piece_of, piece_by, notes_of, operation_of, kind_of, says, same_kind}
use Rattle.world_model.specs.Shape.{replica_of}
use Rattle.world_model.specs.Local.{all_of, open_of, end_here, piece_end, is_silent}
use Rattle.world_model.specs.Router.{IsKept}
use Rattle.world_model.proofs.ListLaws.{has_filter, has_filter_map}
use Rattle.world_model.proofs.CellLaws.{number_true, same_id_true, same_number}
use Rattle.quorum_op.proofs.CountLaws.{and_left, and_right}
use Rattle.world_model.proofs.SettledLaws.{filter_append}
use Rattle.world_model.proofs.SourceLaws.{some_same}
use Rattle.world_model.proofs.NoteLaws.{ends_said, asked_later, asked_once}
use Rattle.world_model.specs.Rules.{Rules}

kind_true : (a b : TallyKind) → same_kind a b ≡ true → a ≡ b
kind_true TallyKind.Put TallyKind.Put h = refl
kind_true TallyKind.Get TallyKind.Get h = refl
kind_true TallyKind.Delete TallyKind.Delete h = refl
kind_true TallyKind.Put TallyKind.Get h = absurd cc
kind_true TallyKind.Put TallyKind.Delete h = absurd cc
kind_true TallyKind.Get TallyKind.Put h = absurd cc
kind_true TallyKind.Get TallyKind.Delete h = absurd cc
kind_true TallyKind.Delete TallyKind.Put h = absurd cc
kind_true TallyKind.Delete TallyKind.Get h = absurd cc

part_true : (a b : Part) → same_part a b ≡ true → a ≡ b
part_true Top Top h = refl
part_true (Chunk k) (Chunk n) h = ap Chunk (number_true k n h)
part_true Top (Chunk n) h = absurd cc
part_true (Chunk k) Top h = absurd cc

-- a request that is for a piece is for no other
piece_is : (piece : Piece) (a : Asked) → is_of piece a ≡ true → piece_of a ≡ Some piece
piece_is piece a h = go a.aim (kind_of a.body) (Notes.id_of a.body) (number_true (operation_of a.correlation) piece.operation (and_left _ _ h)) (and_left _ _ (and_right _ _ h)) (and_right _ _ (and_right _ _ h))
  where
    go : (m : Option Aim) (k : Option TallyKind) (i : Option BlobId) → operation_of a.correlation ≡ piece.operation → aims_at piece m ≡ true → fits piece k i ≡ true → piece_by (operation_of a.correlation) m k i ≡ Some piece
    go None k i o m f = absurd cc
    go (Some aim) None i o m f = absurd cc
    go (Some aim) (Some kind) None o m f = absurd cc
    go (Some aim) (Some kind) (Some id) o m f =
        let k : piece.kind ≡ kind = kind_true piece.kind kind (and_left _ _ f) in
        let i : id ≡ piece.id = same_id_true id piece.id (and_right _ _ f) in
        let p : aim.part ≡ piece.part = part_true aim.part piece.part (and_left _ _ m) in
        let t : aim.attempt ≡ piece.attempt = number_true aim.attempt piece.attempt (and_right _ _ m) in
        ap (λ (n : ℕ). Some (record { operation = n; kind = kind; part = aim.part; attempt = aim.attempt; id = id })) o
        ∙ (ap (λ (w : TallyKind). Some (record { operation = piece.operation; kind = w; part = aim.part; attempt = aim.attempt; id = id })) (sym k)
        ∙ (ap (λ (w : Part). Some (record { operation = piece.operation; kind = piece.kind; part = w; attempt = aim.attempt; id = id })) p
        ∙ (ap (λ (w : ℕ). Some (record { operation = piece.operation; kind = piece.kind; part = piece.part; attempt = w; id = id })) t
        ∙ ap (λ (w : BlobId). Some (record { operation = piece.operation; kind = piece.kind; part = piece.part; attempt = piece.attempt; id = w })) i)))

-- so a piece's own notes say whether its replica stands at State
stated_is : (shape : Shape) (piece : Piece) (before : Record) (a : Asked) (replica : ℕ) → is_of piece a ≡ true → is_stated shape (ends shape before) a replica ≡ is_state (standing (notes_of shape piece before) replica)
stated_is shape piece before a replica h = ap (λ (p : Option Piece). stated_for shape (ends shape before) p replica) (piece_is piece a h)

ends_as : (shape : Shape) (piece : Piece) (item : Item) (before : Record) (a : Asked) → is_of piece a ≡ true → ends_now shape (ends shape before) item before a ≡ piece_end shape piece item before a
ends_as shape piece item before a h = go (replica_of shape a.partition a.node)
  where
    go : (o : Option ℕ) → end_at shape (ends shape before) item before a o ≡ end_here (notes_of shape piece before) item before a o
    go None = refl
    go (Some replica) = ap (λ (b : Bool). end_with a replica (says b item (events_in before) (entry_of a))) (stated_is shape piece before a replica h)

-- an end is of its request
end_asked : (shape : Shape) (so_far : List Ended) (item : Item) (before : Record) (a : Asked) (ended : Ended) → ends_now shape so_far item before a ≡ Some ended → ended.asked ≡ a
end_asked shape so_far item before a ended h = go (replica_of shape a.partition a.node) h
  where
    with_said : (replica : ℕ) (o : Option Learnt) → end_with a replica o ≡ Some ended → ended.asked ≡ a
    with_said replica None h = absurd cc
    with_said replica (Some said) h = sym (ap (λ (e : Ended). e.asked) (some_same _ _ h))

    go : (o : Option ℕ) → end_at shape so_far item before a o ≡ Some ended → ended.asked ≡ a
    go None h = absurd cc
    go (Some replica) h = with_said replica _ h

-- to filter what was made is to make from what was filtered
filter_made : (f g : Asked → Option Ended) (test : Asked → Bool) (xs : List Asked) → ((a : Asked) (e : Ended) → f a ≡ Some e → e.asked ≡ a) → ((a : Asked) → test a ≡ true → f a ≡ g a)
    → filter (λ (e : Ended). test e.asked) (filter_map f xs) ≡ filter_map g (filter test xs)
filter_made f g test [] is same = refl
filter_made f g test (a ∷ xs) is same = go (f a) (test a) refl refl (filter_made f g test xs is same)
  where
    go : (o : Option Ended) (b : Bool) → f a ≡ o → test a ≡ b → filter (λ (e : Ended). test e.asked) (filter_map f xs) ≡ filter_map g (filter test xs)
        → filter (λ (e : Ended). test e.asked) (cons_option o (filter_map f xs)) ≡ filter_map g (cond b (a ∷ filter test xs) (filter test xs))
    go None true e t ih = ih ∙ ap (λ (o : Option Ended). cons_option o (filter_map g (filter test xs))) (sym e ∙ same a t)
    go None false e t ih = ih
    go (Some x) true e t ih =
        let of : test x.asked ≡ true = ap test (is a x e) ∙ t in
        ap (λ (b : Bool). cond b (x ∷ filter (λ (e : Ended). test e.asked) (filter_map f xs)) (filter (λ (e : Ended). test e.asked) (filter_map f xs))) of
        ∙ (ap (λ (l : List Ended). x ∷ l) ih ∙ ap (λ (o : Option Ended). cons_option o (filter_map g (filter test xs))) (sym e ∙ same a t))
    go (Some x) false e t ih =
        let of : test x.asked ≡ false = ap test (is a x e) ∙ t in
        ap (λ (b : Bool). cond b (x ∷ filter (λ (e : Ended). test e.asked) (filter_map f xs)) (filter (λ (e : Ended). test e.asked) (filter_map f xs))) of ∙ ih

-- a piece's ends go on by its own open requests
pub piece_goes_on : (shape : Shape) (piece : Piece) (item : Item) (before : Record)
    → all_of shape piece (item ∷ before)
    ≡ filter_map (piece_end shape piece item before) (filter (is_of piece) (filter (is_open (ends shape before)) (asked (item ∷ before)))) ++ all_of shape piece before
piece_goes_on shape piece item before =
    filter_append (λ (e : Ended). is_of piece e.asked) (filter_map (ends_now shape (ends shape before) item before) (filter (is_open (ends shape before)) (asked (item ∷ before)))) (ends shape before)
    ∙ ap (λ (l : List Ended). l ++ all_of shape piece before)
    (filter_made (ends_now shape (ends shape before) item before) (piece_end shape piece item before) (is_of piece) (filter (is_open (ends shape before)) (asked (item ∷ before)))
    (λ a e. end_asked shape (ends shape before) item before a e) (λ a. ends_as shape piece item before a))

-- whether a request is open, by its own piece's ends

any_filter : {A : Type 0} (test q : A → Bool) (xs : List A) → ((x : A) → Has xs x → test x ≡ true → q x ≡ true) → list_any test xs ≡ list_any test (filter q xs)
any_filter test q [] h = refl
any_filter test q (x ∷ xs) h = go (test x) (q x) refl refl (any_filter test q xs (λ y m. h y (inr m)))
  where
    go : (a b : Bool) → test x ≡ a → q x ≡ b → list_any test xs ≡ list_any test (filter q xs) → (test x || list_any test xs) ≡ list_any test (cond b (x ∷ filter q xs) (filter q xs))
    go a true e f ih = ap (λ (t : Bool). test x || t) ih
    go true false e f ih = absurd (let t : q x ≡ true = h x (inl refl) e in cc)
    go false false e f ih = ap (λ (t : Bool). t || list_any test xs) e ∙ ih

filter_same : {A : Type 0} (p q : A → Bool) (xs : List A) → ((x : A) → Has xs x → p x ≡ q x) → filter p xs ≡ filter q xs
filter_same p q [] h = refl
filter_same p q (x ∷ xs) h =
    ap (λ (b : Bool). cond b (x ∷ filter p xs) (filter p xs)) (h x (inl refl)) ∙ ap (λ l. cond (q x) (x ∷ l) l) (filter_same p q xs (λ y m. h y (inr m)))

filter_twice : {A : Type 0} (p q : A → Bool) (xs : List A) → filter p (filter q xs) ≡ filter (λ x. p x && q x) xs
filter_twice p q [] = refl
filter_twice p q (x ∷ xs) = go (q x) (p x) refl (filter_twice p q xs)
  where
    go : (b a : Bool) → p x ≡ a → filter p (filter q xs) ≡ filter (λ y. p y && q y) xs → filter p (cond b (x ∷ filter q xs) (filter q xs)) ≡ cond (p x && b) (x ∷ filter (λ y. p y && q y) xs) (filter (λ y. p y && q y) xs)
    go true true e ih = ap (λ (b : Bool). cond b (x ∷ filter p (filter q xs)) (filter p (filter q xs))) e ∙ (ap (λ l. x ∷ l) ih ∙ sym (ap (λ (b : Bool). cond (b && true) (x ∷ filter (λ y. p y && q y) xs) (filter (λ y. p y && q y) xs)) e))
    go true false e ih = ap (λ (b : Bool). cond b (x ∷ filter p (filter q xs)) (filter p (filter q xs))) e ∙ (ih ∙ sym (ap (λ (b : Bool). cond (b && true) (x ∷ filter (λ y. p y && q y) xs) (filter (λ y. p y && q y) xs)) e))
    go false true e ih = ih ∙ sym (ap (λ (b : Bool). cond (b && false) (x ∷ filter (λ y. p y && q y) xs) (filter (λ y. p y && q y) xs)) e)
    go false false e ih = ih ∙ sym (ap (λ (b : Bool). cond (b && false) (x ∷ filter (λ y. p y && q y) xs) (filter (λ y. p y && q y) xs)) e)

ended_asked : (shape : Shape) (record' : Record) (ended : Ended) → Has (ends shape record') ended → Has (asked record') ended.asked
ended_asked shape record' ended h = let s = ends_said shape record' ended h in asked_later (s.item ∷ s.before) record' ended.asked s.at s.has

open_is : (rules : Rules) (piece : Piece) (before : Record) (a : Asked) → IsKept rules before → Has (asked before) a → is_of piece a ≡ true → is_open (ends rules.shape before) a ≡ is_open (all_of rules.shape piece before) a
open_is rules piece before a kept h of =
    ap not (any_filter (λ (e : Ended). e.asked.correlation == a.correlation) (λ (e : Ended). is_of piece e.asked) (ends rules.shape before)
    (λ e m t. let same : e.asked ≡ a = asked_once rules before e.asked a kept (ended_asked rules.shape before e m) h (number_true _ _ t) in ap (is_of piece) same ∙ of))

open_here : (rules : Rules) (piece : Piece) (before : Record) → IsKept rules before → filter (is_of piece) (filter (is_open (ends rules.shape before)) (asked before)) ≡ open_of rules.shape piece before
open_here rules piece before kept =
    filter_twice (is_of piece) (is_open (ends rules.shape before)) (asked before)
    ∙ filter_same (λ (a : Asked). is_of piece a && is_open (ends rules.shape before) a) (λ (a : Asked). is_of piece a && is_open (all_of rules.shape piece before) a) (asked before)
    (λ a h. go a (is_of piece a) refl h)
  where
    go : (a : Asked) (b : Bool) → is_of piece a ≡ b → Has (asked before) a → (is_of piece a && is_open (ends rules.shape before) a) ≡ (is_of piece a && is_open (all_of rules.shape piece before) a)
    go a true e h = ap (λ (t : Bool). is_of piece a && t) (open_is rules piece before a kept h e)
    go a false e h = ap (λ (t : Bool). t && is_open (ends rules.shape before) a) e ∙ sym (ap (λ (t : Bool). t && is_open (all_of rules.shape piece before) a) e)

-- an event ends just those open requests of a piece to which it says something, by the piece's own ends
pub piece_at_event : (rules : Rules) (piece : Piece) (event : Event) (before : Record) → IsKept rules before
    → all_of rules.shape piece (Given event ∷ before) ≡ filter_map (piece_end rules.shape piece (Given event) before) (open_of rules.shape piece before) ++ all_of rules.shape piece before
piece_at_event rules piece event before kept =
    piece_goes_on rules.shape piece (Given event) before
    ∙ ap (λ (l : List Asked). filter_map (piece_end rules.shape piece (Given event) before) l ++ all_of rules.shape piece before) (open_here rules piece before kept)

-- the requests that are still open behind an event

any_has : {A : Type 0} (test : A → Bool) (xs : List A) (x : A) → Has xs x → test x ≡ true → list_any test xs ≡ true
any_has test [] x h t = absurd h
any_has test (y ∷ xs) x h t = elim h [
  | inl e ↦ ap (λ (b : Bool). b || list_any test xs) (ap test (sym e) ∙ t)
  | inr m ↦ ap (λ (b : Bool). test y || b) (any_has test xs x m t) ∙ or_true (test y)
]
  where
    or_true : (b : Bool) → (b || true) ≡ true
    or_true true = refl
    or_true false = refl

has_any : {A : Type 0} (test : A → Bool) (xs : List A) → list_any test xs ≡ true → (x : A) × Has xs x × (test x ≡ true)
has_any test [] h = absurd cc
has_any {A} test (y ∷ xs) h = go (test y) refl (has_any test xs) h
  where
    go : (b : Bool) → test y ≡ b → (list_any test xs ≡ true → (x : A) × Has xs x × (test x ≡ true)) → (b || list_any test xs) ≡ true → (x : A) × Has (y ∷ xs) x × (test x ≡ true)
    go true e ih k = (y, inl refl, e)
    go false e ih k = let r = ih k in (r.0, inr r.1, r.2)

any_append : {A : Type 0} (test : A → Bool) (xs ys : List A) → list_any test (xs ++ ys) ≡ (list_any test xs || list_any test ys)
any_append test [] ys = refl
any_append test (x ∷ xs) ys = go (test x) (any_append test xs ys)
  where
    go : (b : Bool) → list_any test (xs ++ ys) ≡ (list_any test xs || list_any test ys) → (b || list_any test (xs ++ ys)) ≡ ((b || list_any test xs) || list_any test ys)
    go true ih = refl
    go false ih = ih

made_has : {A B : Type 0} (f : A → Option B) (xs : List A) (x : A) (y : B) → Has xs x → f x ≡ Some y → Has (filter_map f xs) y
made_has f [] x y h e = absurd h
made_has {A} {B} f (z ∷ xs) x y h e = elim h [
  | inl q ↦ subst (λ (o : Option B). Has (cons_option o (filter_map f xs)) y) (sym (ap f (sym q) ∙ e)) (inl refl)
  | inr m ↦ go (f z) (made_has f xs x y m e)
]
  where
    go : (o : Option B) → Has (filter_map f xs) y → Has (cons_option o (filter_map f xs)) y
    go None k = k
    go (Some w) k = inr k

filter_has : {A : Type 0} (p : A → Bool) (xs : List A) (x : A) → Has xs x → p x ≡ true → Has (filter p xs) x
filter_has p [] x h t = absurd h
filter_has {A} p (y ∷ xs) x h t = elim h [
  | inl q ↦ subst (λ (b : Bool). Has (cond b (y ∷ filter p xs) (filter p xs)) x) (sym (ap p (sym q) ∙ t)) (inl q)
  | inr m ↦ go (p y) (filter_has p xs x m t)
]
  where
    go : (b : Bool) → Has (filter p xs) x → Has (cond b (y ∷ filter p xs) (filter p xs)) x
    go true k = inr k
    go false k = k

piece_asked : (shape : Shape) (piece : Piece) (item : Item) (before : Record) (a : Asked) (ended : Ended) → piece_end shape piece item before a ≡ Some ended → ended.asked ≡ a
piece_asked shape piece item before a ended h = go (replica_of shape a.partition a.node) h
  where
    with_said : (replica : ℕ) (o : Option Learnt) → end_with a replica o ≡ Some ended → ended.asked ≡ a
    with_said replica None h = absurd cc
    with_said replica (Some said) h = sym (ap (λ (e : Ended). e.asked) (some_same _ _ h))

    go : (o : Option ℕ) → end_here (notes_of shape piece before) item before a o ≡ Some ended → ended.asked ≡ a
    go None h = absurd cc
    go (Some replica) h = with_said replica _ h

-- of an open request, the new ends hold one exactly where the event says something to it
any_new : (rules : Rules) (piece : Piece) (event : Event) (before : Record) (a : Asked) → IsKept rules before → Has (open_of rules.shape piece before) a
    → list_any (λ (e : Ended). e.asked.correlation == a.correlation) (filter_map (piece_end rules.shape piece (Given event) before) (open_of rules.shape piece before)) ≡ not (is_silent (piece_end rules.shape piece (Given event) before a))
any_new rules piece event before a kept h = go (piece_end rules.shape piece (Given event) before a) refl
  where
    new : List Ended
    new = filter_map (piece_end rules.shape piece (Given event) before) (open_of rules.shape piece before)

    silent : (b : Bool) → list_any (λ (e : Ended). e.asked.correlation == a.correlation) (filter_map (piece_end rules.shape piece (Given event) before) (open_of rules.shape piece before)) ≡ b → piece_end rules.shape piece (Given event) before a ≡ None → b ≡ false
    silent false q n = refl
    silent true q n = absurd (
        let x = has_any (λ (e : Ended). e.asked.correlation == a.correlation) (filter_map (piece_end rules.shape piece (Given event) before) (open_of rules.shape piece before)) q in
        let m = has_filter_map (piece_end rules.shape piece (Given event) before) (open_of rules.shape piece before) x.0 x.1 in
        let of : x.0.asked ≡ m.0 = piece_asked rules.shape piece (Given event) before m.0 x.0 m.2 in
        let in_asked : Has (asked before) m.0 = (has_filter (λ (w : Asked). is_of piece w && is_open (all_of rules.shape piece before) w) (asked before) m.0 m.1).0 in
        let a_asked : Has (asked before) a = (has_filter (λ (w : Asked). is_of piece w && is_open (all_of rules.shape piece before) w) (asked before) a h).0 in
        let same : m.0 ≡ a = asked_once rules before m.0 a kept in_asked a_asked (sym (ap (λ (w : Asked). w.correlation) of) ∙ number_true _ _ x.2) in
        let k : None ≡ Some x.0 = sym n ∙ (ap (piece_end rules.shape piece (Given event) before) (sym same) ∙ m.2) in
        cc k)

    go : (o : Option Ended) → piece_end rules.shape piece (Given event) before a ≡ o
        → list_any (λ (e : Ended). e.asked.correlation == a.correlation) (filter_map (piece_end rules.shape piece (Given event) before) (open_of rules.shape piece before)) ≡ not (is_silent o)
    go None e = silent _ refl e
    go (Some x) e =
        any_has (λ (w : Ended). w.asked.correlation == a.correlation) (filter_map (piece_end rules.shape piece (Given event) before) (open_of rules.shape piece before)) x (made_has (piece_end rules.shape piece (Given event) before) (open_of rules.shape piece before) a x h e)
        (ap (λ (w : Asked). w.correlation == a.correlation) (piece_asked rules.shape piece (Given event) before a x e) ∙ same_number a.correlation)

-- just those stay open to which the event says nothing
pub open_at_event : (rules : Rules) (piece : Piece) (event : Event) (before : Record) → IsKept rules before
    → open_of rules.shape piece (Given event ∷ before) ≡ filter (λ a. is_silent (piece_end rules.shape piece (Given event) before a)) (open_of rules.shape piece before)
open_at_event rules piece event before kept =
    filter_same (λ (a : Asked). is_of piece a && is_open (all_of rules.shape piece (Given event ∷ before)) a) (λ (a : Asked). is_silent (piece_end rules.shape piece (Given event) before a) && (is_of piece a && is_open (all_of rules.shape piece before) a)) (asked before)
    (λ a h. go a (is_of piece a) (is_open (all_of rules.shape piece before) a) refl refl h)
    ∙ sym (filter_twice (λ (a : Asked). is_silent (piece_end rules.shape piece (Given event) before a)) (λ (a : Asked). is_of piece a && is_open (all_of rules.shape piece before) a) (asked before))
  where
    new : List Ended
    new = filter_map (piece_end rules.shape piece (Given event) before) (open_of rules.shape piece before)

    after : (a : Asked) → is_open (all_of rules.shape piece (Given event ∷ before)) a ≡ not (list_any (λ (e : Ended). e.asked.correlation == a.correlation) (filter_map (piece_end rules.shape piece (Given event) before) (open_of rules.shape piece before)) || list_any (λ (e : Ended). e.asked.correlation == a.correlation) (all_of rules.shape piece before))
    after a = ap (λ (l : List Ended). is_open l a) (piece_at_event rules piece event before kept)
        ∙ ap not (any_append (λ (e : Ended). e.asked.correlation == a.correlation) (filter_map (piece_end rules.shape piece (Given event) before) (open_of rules.shape piece before)) (all_of rules.shape piece before))

    and_false : (b : Bool) → (b && false) ≡ false
    and_false true = refl
    and_false false = refl

    or_true : (b : Bool) → (b || true) ≡ true
    or_true true = refl
    or_true false = refl

    old_any : (t b : Bool) → not t ≡ b → t ≡ not b
    old_any true b e = ap not e
    old_any false b e = ap not e

    last : (x s : Bool) → x ≡ not s → not (x || false) ≡ s
    last true true e = absurd cc
    last true false e = refl
    last false true e = refl
    last false false e = absurd cc

    and_true : (b : Bool) → (b && true) ≡ b
    and_true true = refl
    and_true false = refl

    go : (a : Asked) (o b : Bool) → is_of piece a ≡ o → is_open (all_of rules.shape piece before) a ≡ b → Has (asked before) a
        → (is_of piece a && is_open (all_of rules.shape piece (Given event ∷ before)) a) ≡ (is_silent (piece_end rules.shape piece (Given event) before a) && (is_of piece a && is_open (all_of rules.shape piece before) a))
    go a false b e f h =
        ap (λ (t : Bool). t && is_open (all_of rules.shape piece (Given event ∷ before)) a) e
        ∙ sym (ap (λ (t : Bool). is_silent (piece_end rules.shape piece (Given event) before a) && (t && is_open (all_of rules.shape piece before) a)) e ∙ and_false (is_silent (piece_end rules.shape piece (Given event) before a)))
    go a true false e f h =
        let old : list_any (λ (e : Ended). e.asked.correlation == a.correlation) (all_of rules.shape piece before) ≡ true = old_any _ false f in
        let x : Bool = list_any (λ (e : Ended). e.asked.correlation == a.correlation) (filter_map (piece_end rules.shape piece (Given event) before) (open_of rules.shape piece before)) in
        ap (λ (t : Bool). t && is_open (all_of rules.shape piece (Given event ∷ before)) a) e
        ∙ (after a ∙ (ap (λ (t : Bool). not (x || t)) old ∙ (ap not (or_true x)
        ∙ sym (ap (λ (t : Bool). is_silent (piece_end rules.shape piece (Given event) before a) && (is_of piece a && t)) f ∙ (ap (λ (t : Bool). is_silent (piece_end rules.shape piece (Given event) before a) && t) (and_false (is_of piece a)) ∙ and_false (is_silent (piece_end rules.shape piece (Given event) before a)))))))
    go a true true e f h =
        let old : list_any (λ (e : Ended). e.asked.correlation == a.correlation) (all_of rules.shape piece before) ≡ false = old_any _ true f in
        let x : Bool = list_any (λ (e : Ended). e.asked.correlation == a.correlation) (filter_map (piece_end rules.shape piece (Given event) before) (open_of rules.shape piece before)) in
        let s : Bool = is_silent (piece_end rules.shape piece (Given event) before a) in
        let both : (is_of piece a && is_open (all_of rules.shape piece before) a) ≡ true = ap (λ (t : Bool). t && is_open (all_of rules.shape piece before) a) e ∙ f in
        let in_open : Has (open_of rules.shape piece before) a = filter_has (λ (w : Asked). is_of piece w && is_open (all_of rules.shape piece before) w) (asked before) a h both in
        ap (λ (t : Bool). t && is_open (all_of rules.shape piece (Given event ∷ before)) a) e
        ∙ (after a ∙ (ap (λ (t : Bool). not (x || t)) old ∙ (last x s (any_new rules piece event before a kept in_open)
        ∙ sym (ap (λ (t : Bool). s && t) both ∙ and_true s))))
