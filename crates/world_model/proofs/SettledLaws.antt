-- What ended stays ended, and a verdict that isn't Pending stays.
use Rattle.std.proofs.Common.{◌≡◌, ℕ, Bool, true, false, cond, List, [], ◌∷◌, ◌++◌, refl, sym, ap, ◌∙◌, subst, inl, inr, filter, filter_map, append_assoc}
use Rattle.world_model.specs.declared.shape.Shape.{Shape}
use Rattle.quorum_op.specs.declared.cause.TallyKind.{TallyKind}
use Rattle.quorum_op.specs.declared.cause.Verdict.{Verdict}
use Rattle.world_model.specs.Lists.{Has, Earlier}
use Rattle.world_model.specs.Record.{Record}
use Rattle.quorum_op.specs.Tally.{verdict, is_pending}
use Rattle.world_model.specs.Notes.{asked, Ended, Piece, is_of, map_notes, ends_now, is_open, ends, counted, ends_of, need_of, verdict_of}

pub filter_append : {A : Type 0} (p : A → Bool) (xs ys : List A) → filter p (xs ++ ys) ≡ filter p xs ++ filter p ys
filter_append p [] ys = refl
filter_append p (x ∷ xs) ys = go (p x) (filter_append p xs ys)
  where
    go : (b : Bool) → filter p (xs ++ ys) ≡ filter p xs ++ filter p ys → cond b (x ∷ filter p (xs ++ ys)) (filter p (xs ++ ys)) ≡ cond b (x ∷ filter p xs) (filter p xs) ++ filter p ys
    go true ih = ap (λ w. x ∷ w) ih
    go false ih = ih

-- nothing counts behind a verdict that isn't Pending
counted_append : (kind : TallyKind) (replicas need : ℕ) (xs ys : List Ended) → is_pending (verdict kind replicas need (map_notes (counted kind replicas need ys))) ≡ false
    → counted kind replicas need (xs ++ ys) ≡ counted kind replicas need ys
counted_append kind replicas need [] ys h = refl
counted_append kind replicas need (x ∷ xs) ys h =
    let ih : counted kind replicas need (xs ++ ys) ≡ counted kind replicas need ys = counted_append kind replicas need xs ys h in
    let settled : is_pending (verdict kind replicas need (map_notes (counted kind replicas need (xs ++ ys)))) ≡ false = rw ih h in
    rw settled ih

-- what ends later comes before what ended earlier
ends_later : (shape : Shape) (older record' : Record) → Earlier older record' → (newer : List Ended) × (ends shape record' ≡ newer ++ ends shape older)
ends_later shape older [] h = ([], ap (λ (r : Record). ends shape r) (sym h))
ends_later shape older (item ∷ before) h = elim h [
  | inl e ↦ ([], ap (λ (r : Record). ends shape r) (sym e))
  | inr t ↦ (
      let r = ends_later shape older before t in
      let new : List Ended = filter_map (ends_now shape (ends shape before) item before) (filter (is_open (ends shape before)) (asked (item ∷ before))) in
      (new ++ r.0, ap (λ (w : List Ended). new ++ w) r.1 ∙ sym (append_assoc new r.0 (ends shape older))))
]

-- a verdict that isn't Pending stays, and so do the ends that it rests on
pub settled : (shape : Shape) (piece : Piece) (older record' : Record) → Earlier older record' → is_pending (verdict_of shape piece older) ≡ false → ends_of shape piece record' ≡ ends_of shape piece older
settled shape piece older record' h p =
    let r = ends_later shape older record' h in
    let fit : Ended → Bool = λ ended. is_of piece ended.asked in
    ap (λ (w : List Ended). counted piece.kind shape.replicas (need_of shape piece.kind) (filter fit w)) r.1
    ∙ (ap (λ (w : List Ended). counted piece.kind shape.replicas (need_of shape piece.kind) w) (filter_append fit r.0 (ends shape older))
    ∙ counted_append piece.kind shape.replicas (need_of shape piece.kind) (filter fit r.0) (filter fit (ends shape older)) p)

-- a verdict that isn't Pending stays
pub verdict_lasts : (shape : Shape) (piece : Piece) (older record' : Record) (v : Verdict) → Earlier older record' → verdict_of shape piece older ≡ v → is_pending v ≡ false → verdict_of shape piece record' ≡ v
verdict_lasts shape piece older record' v e h p =
    ap (λ (es : List Ended). verdict piece.kind shape.replicas (need_of shape piece.kind) (map_notes es)) (settled shape piece older record' e (ap is_pending h ∙ p)) ∙ h

-- an end that counted counts later too
counted_keeps : (kind : TallyKind) (replicas need : ℕ) (xs ys : List Ended) (ended : Ended) → Has (counted kind replicas need ys) ended → Has (counted kind replicas need (xs ++ ys)) ended
counted_keeps kind replicas need [] ys ended h = h
counted_keeps kind replicas need (x ∷ xs) ys ended h = go (is_pending (verdict kind replicas need (map_notes (counted kind replicas need (xs ++ ys))))) (counted_keeps kind replicas need xs ys ended h)
  where
    go : (b : Bool) → Has (counted kind replicas need (xs ++ ys)) ended → Has (cond b (x ∷ counted kind replicas need (xs ++ ys)) (counted kind replicas need (xs ++ ys))) ended
    go true k = inr k
    go false k = k

pub ends_keep : (shape : Shape) (piece : Piece) (older record' : Record) (ended : Ended) → Earlier older record' → Has (ends_of shape piece older) ended → Has (ends_of shape piece record') ended
ends_keep shape piece older record' ended e h =
    let r = ends_later shape older record' e in
    let fit : Ended → Bool = λ ended. is_of piece ended.asked in
    subst (λ (w : List Ended). Has (counted piece.kind shape.replicas (need_of shape piece.kind) w) ended)
    (sym (ap (λ (w : List Ended). filter fit w) r.1 ∙ filter_append fit r.0 (ends shape older)))
    (counted_keeps piece.kind shape.replicas (need_of shape piece.kind) (filter fit r.0) (filter fit (ends shape older)) ended h)
