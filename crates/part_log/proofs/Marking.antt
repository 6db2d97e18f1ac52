-- Marks of records.
use Rattle.std.proofs.Common.{◌≡◌, inl, inr, ℕ, zero, suc, ◌<◌, List, [], ◌∷◌, ◌++◌, length, get_or, refl, sym, subst, arith, append_assoc}
use Rattle.std.proofs.lemmas.List.{append-nil}
use Rattle.msg_format.specs.declared.record.Record.{Record}
use Rattle.msg_format.specs.Records.{lsn_of}
use Rattle.part_log.specs.declared.marks.Mark.{Mark}
use Rattle.part_log.specs.Marks.{AreMarks, IsMark, IsOneOf, MarksOn, NotesMark}
use Rattle.part_log.specs.Records.{Placed, IsPlaced}

placed-front : (p : Placed) (xs ys : List Placed) → IsPlaced p xs → IsPlaced p (xs ++ ys)
placed-front p [] ys there = absurd there
placed-front p (x ∷ xs) ys (inl same) = inl same
placed-front p (x ∷ xs) ys (inr there) = inr (placed-front p xs ys there)

placed-last : (p : Placed) (xs : List Placed) → IsPlaced p (xs ++ p ∷ [])
placed-last p [] = inl refl
placed-last p (x ∷ xs) = inr (placed-last p xs)

pub marks-front : (marks : List Mark) (xs ys : List Placed) → AreMarks marks xs → AreMarks marks (xs ++ ys)
marks-front [] xs ys are = tt
marks-front (mark ∷ marks) xs ys are =
    let one = are.0 in
    ((one.0, one.1, (one.2.0, placed-front (record { entry = one.0; text = one.2.0; place = mark.place }) xs ys one.2.1)), marks-front marks xs ys are.1)

marks-one : (marks : List Mark) (mark : Mark) (xs : List Placed) → AreMarks marks xs → IsMark mark xs → AreMarks (marks ++ mark ∷ []) xs
marks-one [] mark xs are one = (one, tt)
marks-one (other ∷ marks) mark xs are one = (are.0, marks-one marks mark xs are.1 one)

-- the marks behind one record more
pub noted_on : (old new : List Mark) (p : Placed) → NotesMark (lsn_of p.entry) p.place old new → MarksOn old (p ∷ []) new
noted_on old new p (inl same) before are = subst (λ (l : List Mark). AreMarks l (before ++ p ∷ [])) (sym same) (marks-front old before (p ∷ []) are)
noted_on old new p (inr more) before are = subst (λ (l : List Mark). AreMarks l (before ++ p ∷ [])) (sym more)
    (marks-one old (record { lsn = lsn_of p.entry; place = p.place }) (before ++ p ∷ []) (marks-front old before (p ∷ []) are) (p.entry, refl, (p.text, placed-last p before)))

pub marks_none : (marks : List Mark) → MarksOn marks [] marks
marks_none marks before are = subst (λ (l : List Placed). AreMarks marks l) (sym (append-nil before)) are

pub marks_more : (old mid new : List Mark) (xs ys : List Placed) → MarksOn old xs mid → MarksOn mid ys new → MarksOn old (xs ++ ys) new
marks_more old mid new xs ys first second before are = subst (λ (l : List Placed). AreMarks new l) (append_assoc before xs ys) (second (before ++ xs) (first before are))

pub one_marked : (mark : Mark) (marks : List Mark) (placed : List Placed) → IsOneOf mark marks → AreMarks marks placed → IsMark mark placed
one_marked mark [] placed among are = absurd among
one_marked mark (other ∷ marks) placed (inl same) are = subst (λ (m : Mark). IsMark m placed) (sym same) are.0
one_marked mark (other ∷ marks) placed (inr among) are = one_marked mark marks placed among are.1

pub one_at : (marks : List Mark) (k : ℕ) (d : Mark) → k < length marks → IsOneOf (get_or marks k d) marks
one_at [] k d lt = absurd (omega (arith, lt))
one_at (mark ∷ marks) zero d lt = inl refl
one_at (mark ∷ marks) (suc k) d lt = inr (one_at marks k d (omega (arith, lt)))
