-- What verdicts tell of the notes.
use Rattle.std.proofs.Common.{◌≡◌, ℕ, ◌+◌, ◌-◌, ◌<◌, ◌≤◌, ◌==◌, ◌⊎◌, Bool, true, false, cond, ◌&&◌, ◌||◌, List, [], ◌∷◌, Option, Some, None, refl, sym, ap, ◌∙◌, subst, inl, inr, arith, filter, nat_lt, nat_le}
use Rattle.std.proofs.lemmas.Bool.Decides.{nat_tests}
use Rattle.quorum_op.specs.declared.cause.Finding.{Finding}
use Rattle.quorum_op.specs.declared.cause.Finding.TheVariants.{Yes, State, Absent, Gone, Failed}
use Rattle.quorum_op.specs.declared.cause.TallyKind.{TallyKind}
use Rattle.quorum_op.specs.declared.cause.Verdict.{Verdict}
use Rattle.world_model.specs.declared.shape.Shape.{Shape}
use Rattle.world_model.specs.Lists.{Has}
use Rattle.quorum_op.specs.Counts.{oldest}
use Rattle.world_model.specs.Record.{Record}
use Rattle.quorum_op.specs.Tally.{Note, is_decisive, finding_in, unless_state, standing, is_yes, is_state, is_absent, is_gone, is_failed, is_found, standing_so, verdict, is_pending}
use Rattle.world_model.specs.Notes.{Ended, Piece, is_of, to_note, map_notes, counted, ends, ends_of, need_of}
use Rattle.world_model.proofs.ListLaws.{oldest_has, has_filter, count_union}
use Rattle.world_model.proofs.CellLaws.{number_true}
use Rattle.quorum_op.proofs.CountLaws.{and_left}
use Rattle.world_model.proofs.SourceLaws.{some_same}

note_is : (note : Note) (replica : ℕ) (finding : Finding) → note.replica ≡ replica → note.finding ≡ finding → note ≡ record { replica = replica; finding = finding }
note_is note replica finding r f = ap (λ (k : ℕ). record { replica = k; finding = note.finding }) r ∙ ap (λ (k : Finding). record { replica = replica; finding = k }) f

-- of the first note, and the first decisive one
stands_at : (first later : Option Note) (finding : Finding) → unless_state (finding_in first) (finding_in later) ≡ Some finding
    → ((note : Note) × (first ≡ Some note) × (note.finding ≡ finding)) ⊎ ((note : Note) × (later ≡ Some note) × (note.finding ≡ finding))
stands_at None later finding h = absurd cc
stands_at (Some note) later finding h = go note.finding refl later h
  where
    go : (f : Finding) → note.finding ≡ f → (later : Option Note) → unless_state (Some f) (finding_in later) ≡ Some finding
        → ((n : Note) × (Some note ≡ Some n) × (n.finding ≡ finding)) ⊎ ((n : Note) × (later ≡ Some n) × (n.finding ≡ finding))
    go State e None h = inl (note, refl, e ∙ some_same _ _ h)
    go State e (Some l) h = inr (l, refl, some_same _ _ h)
    go Yes e l h = inl (note, refl, e ∙ some_same _ _ h)
    go Absent e l h = inl (note, refl, e ∙ some_same _ _ h)
    go Gone e l h = inl (note, refl, e ∙ some_same _ _ h)
    go (Failed c) e l h = inl (note, refl, e ∙ some_same _ _ h)

-- where a replica stands, a note says so
pub stands_by : (notes : List Note) (replica : ℕ) (finding : Finding) → standing notes replica ≡ Some finding → Has notes (record { replica = replica; finding = finding })
stands_by notes replica finding h =
    elim (stands_at (oldest (λ note. note.replica == replica) notes) (oldest (λ note. (note.replica == replica) && is_decisive note.finding) notes) finding h) [
      | inl s ↦ (let o = oldest_has (λ note. note.replica == replica) notes s.0 s.1 in
          subst (λ (w : Note). Has notes w) (note_is s.0 replica finding (number_true _ _ o.1) s.2) o.0)
      | inr s ↦ (let o = oldest_has (λ note. (note.replica == replica) && is_decisive note.finding) notes s.0 s.1 in
          subst (λ (w : Note). Has notes w) (note_is s.0 replica finding (number_true _ _ (and_left _ _ o.1)) s.2) o.0)
    ]

pub has_map_notes : (es : List Ended) (note : Note) → Has (map_notes es) note → (ended : Ended) × Has es ended × (to_note ended ≡ note)
has_map_notes [] note h = absurd h
has_map_notes (ended ∷ es) note h = elim h [
  | inl e ↦ (ended, inl refl, sym e)
  | inr t ↦ (let r = has_map_notes es note t in (r.0, inr r.1, r.2))
]

pub has_counted : (kind : TallyKind) (replicas need : ℕ) (es : List Ended) (ended : Ended) → Has (counted kind replicas need es) ended → Has es ended
has_counted kind replicas need [] ended h = h
has_counted kind replicas need (e ∷ es) ended h = go (is_pending (verdict kind replicas need (map_notes (counted kind replicas need es)))) (has_counted kind replicas need es ended) h
  where
    go : (b : Bool) → (Has (counted kind replicas need es) ended → Has es ended) → Has (cond b (e ∷ counted kind replicas need es) (counted kind replicas need es)) ended → Has (e ∷ es) ended
    go true ih h = elim h [ inl q ↦ inl q | inr t ↦ inr (ih t) ]
    go false ih h = inr (ih h)

-- an end that a replica's standing rests on
pub record EndedSo (shape : Shape) (piece : Piece) (record' : Record) (replica : ℕ) (finding : Finding) : Type 0 where
  pub ended : Ended
  pub has : Has (ends shape record') ended
  pub fits : is_of piece ended.asked ≡ true
  pub replica_is : ended.replica ≡ replica
  pub finding_is : ended.finding ≡ finding

pub ended_of : (shape : Shape) (piece : Piece) (record' : Record) (ended : Ended) → Has (ends_of shape piece record') ended → Has (ends shape record') ended × (is_of piece ended.asked ≡ true)
ended_of shape piece record' ended h =
    has_filter (λ (e : Ended). is_of piece e.asked) (ends shape record') ended
    (has_counted piece.kind shape.replicas (need_of shape piece.kind) (filter (λ e. is_of piece e.asked) (ends shape record')) ended h)

pub ended_so : (shape : Shape) (piece : Piece) (record' : Record) (replica : ℕ) (finding : Finding) → standing (map_notes (ends_of shape piece record')) replica ≡ Some finding
    → EndedSo shape piece record' replica finding
ended_so shape piece record' replica finding h =
    let m = has_map_notes (ends_of shape piece record') (record { replica = replica; finding = finding }) (stands_by (map_notes (ends_of shape piece record')) replica finding h) in
    let e = ended_of shape piece record' m.0 m.1 in
    record {
      ended = m.0;
      has = e.0;
      fits = e.1;
      replica_is = ap (λ (n : Note). n.replica) m.2;
      finding_is = ap (λ (n : Note). n.finding) m.2;
    }

-- from a test of a standing to the standing

pub yes_is : (o : Option Finding) → is_yes o ≡ true → o ≡ Some Yes
yes_is None h = absurd cc
yes_is (Some Yes) h = refl
yes_is (Some State) h = absurd cc
yes_is (Some Absent) h = absurd cc
yes_is (Some Gone) h = absurd cc
yes_is (Some (Failed c)) h = absurd cc

pub absent_is : (o : Option Finding) → is_absent o ≡ true → o ≡ Some Absent
absent_is None h = absurd cc
absent_is (Some Yes) h = absurd cc
absent_is (Some State) h = absurd cc
absent_is (Some Absent) h = refl
absent_is (Some Gone) h = absurd cc
absent_is (Some (Failed c)) h = absurd cc

pub gone_is : (o : Option Finding) → is_gone o ≡ true → o ≡ Some Gone
gone_is None h = absurd cc
gone_is (Some Yes) h = absurd cc
gone_is (Some State) h = absurd cc
gone_is (Some Absent) h = absurd cc
gone_is (Some Gone) h = refl
gone_is (Some (Failed c)) h = absurd cc

pub found_is : (o : Option Finding) → is_found o ≡ true → (finding : Finding) × (o ≡ Some finding) × (is_failed (Some finding) ≡ false) × (is_gone (Some finding) ≡ false)
found_is None h = absurd cc
found_is (Some Yes) h = (Yes, refl, refl, refl)
found_is (Some State) h = (State, refl, refl, refl)
found_is (Some Absent) h = (Absent, refl, refl, refl)
found_is (Some Gone) h = absurd cc
found_is (Some (Failed c)) h = absurd cc

-- what the verdicts say of the counts

pub put_ok : (replicas need : ℕ) (notes : List Note) → verdict TallyKind.Put replicas need notes ≡ Verdict.Ok → need ≤ standing_so replicas notes is_yes
put_ok replicas need notes h = go (nat_le need (standing_so replicas notes is_yes)) (nat_lt (replicas - standing_so replicas notes is_failed) need) refl h
  where
    go : (a b : Bool) → nat_le need (standing_so replicas notes is_yes) ≡ a → cond a Verdict.Ok (cond b Verdict.Unavailable Verdict.Pending) ≡ Verdict.Ok → need ≤ standing_so replicas notes is_yes
    go true b e h = grind (arith, nat_tests)
    go false true e h = absurd cc
    go false false e h = absurd cc

pub delete_ok : (replicas need : ℕ) (notes : List Note) → verdict TallyKind.Delete replicas need notes ≡ Verdict.Ok → need ≤ standing_so replicas notes is_yes
delete_ok replicas need notes h = put_ok replicas need notes h

pub get_gone : (replicas need : ℕ) (notes : List Note) → verdict TallyKind.Get replicas need notes ≡ Verdict.Gone → 0 < standing_so replicas notes is_gone
get_gone replicas need notes h =
    go (nat_lt 0 (standing_so replicas notes is_gone)) (nat_lt (replicas - standing_so replicas notes is_failed) need) (nat_lt (standing_so replicas notes is_found) need) (nat_lt 0 (standing_so replicas notes is_yes)) (nat_lt 0 (standing_so replicas notes is_state)) refl h
  where
    go : (a b c d e : Bool) → nat_lt 0 (standing_so replicas notes is_gone) ≡ a
        → cond a Verdict.Gone (cond b Verdict.Unavailable (cond c Verdict.Pending (cond d Verdict.Ok (cond e Verdict.Pending Verdict.NotFound)))) ≡ Verdict.Gone → 0 < standing_so replicas notes is_gone
    go true b c d e q h = grind (arith, nat_tests)
    go false true c d e q h = absurd cc
    go false false true d e q h = absurd cc
    go false false false true e q h = absurd cc
    go false false false false true q h = absurd cc
    go false false false false false q h = absurd cc

pub get_ok : (replicas need : ℕ) (notes : List Note) → verdict TallyKind.Get replicas need notes ≡ Verdict.Ok → need ≤ standing_so replicas notes is_found
get_ok replicas need notes h =
    go (nat_lt 0 (standing_so replicas notes is_gone)) (nat_lt (replicas - standing_so replicas notes is_failed) need) (nat_lt (standing_so replicas notes is_found) need) (nat_lt 0 (standing_so replicas notes is_yes)) (nat_lt 0 (standing_so replicas notes is_state)) refl h
  where
    go : (a b c d e : Bool) → nat_lt (standing_so replicas notes is_found) need ≡ c
        → cond a Verdict.Gone (cond b Verdict.Unavailable (cond c Verdict.Pending (cond d Verdict.Ok (cond e Verdict.Pending Verdict.NotFound)))) ≡ Verdict.Ok → need ≤ standing_so replicas notes is_found
    go true b c d e q h = absurd cc
    go false true c d e q h = absurd cc
    go false false true d e q h = absurd cc
    go false false false d e q h = grind (arith, nat_tests)

pub get_not_found : (replicas need : ℕ) (notes : List Note) → verdict TallyKind.Get replicas need notes ≡ Verdict.NotFound → need ≤ standing_so replicas notes is_absent
get_not_found replicas need notes h =
    go (nat_lt 0 (standing_so replicas notes is_gone)) (nat_lt (replicas - standing_so replicas notes is_failed) need) (nat_lt (standing_so replicas notes is_found) need) (nat_lt 0 (standing_so replicas notes is_yes)) (nat_lt 0 (standing_so replicas notes is_state)) refl refl refl h
  where
    sum : standing_so replicas notes is_found ≤ standing_so replicas notes is_yes + standing_so replicas notes is_state + standing_so replicas notes is_absent
    sum =
        let all = count_union replicas (λ r. is_yes (standing notes r) || is_state (standing notes r)) (λ r. is_absent (standing notes r)) in
        let two = count_union replicas (λ r. is_yes (standing notes r)) (λ r. is_state (standing notes r)) in
        omega (arith, all, two)

    go : (a b c d e : Bool) → nat_lt (standing_so replicas notes is_found) need ≡ c → nat_lt 0 (standing_so replicas notes is_yes) ≡ d → nat_lt 0 (standing_so replicas notes is_state) ≡ e
        → cond a Verdict.Gone (cond b Verdict.Unavailable (cond c Verdict.Pending (cond d Verdict.Ok (cond e Verdict.Pending Verdict.NotFound)))) ≡ Verdict.NotFound → need ≤ standing_so replicas notes is_absent
    go true b c d e q s t h = absurd cc
    go false true c d e q s t h = absurd cc
    go false false true d e q s t h = absurd cc
    go false false false true e q s t h = absurd cc
    go false false false false true q s t h = absurd cc
    go false false false false false q s t h = grind (arith, nat_tests, sum)
