-- What notes on the replicas of a piece of a blob come to. Of notes the newest comes first.
use Rattle.std.specs.Prelude.{ℕ, zero, suc, ◌-◌, ◌==◌, nat_lt, nat_le, Bool, true, false, ◌&&◌, ◌||◌, cond, List, [], ◌∷◌, ◌++◌, Option, Some, None}
use Rattle.quorum_op.specs.declared.cause.Cause.{Cause}
use Rattle.quorum_op.specs.declared.cause.Mark.{Mark}
use Rattle.quorum_op.specs.declared.cause.Finding.{Finding}
use Rattle.quorum_op.specs.declared.cause.Finding.TheVariants.{Yes, State, Absent, Gone, Failed}
use Rattle.quorum_op.specs.declared.cause.TallyKind.{TallyKind}
use Rattle.quorum_op.specs.declared.cause.Verdict.{Verdict}
use Rattle.quorum_op.specs.Counts.{oldest, or_else, count_below}

-- a replica, and what was found of it
pub record Note : Type 0 where
  pub replica : ℕ
  pub finding : Finding

abbrev pub is_decisive : Finding → Bool
is_decisive Yes = true
is_decisive Gone = true
is_decisive (Failed cause) = true
is_decisive _ = false

abbrev pub finding_in : Option Note → Option Finding
finding_in None = None
finding_in (Some note) = Some note.finding

-- State stands until something decisive is noted
abbrev pub unless_state : Option Finding → Option Finding → Option Finding
unless_state (Some State) later = or_else later (Some State)
unless_state first later = first

-- where a replica stands: its oldest note, and where that is State, its oldest decisive one
abbrev pub standing : List Note → ℕ → Option Finding
standing notes replica =
    unless_state
    (finding_in (oldest (λ note. note.replica == replica) notes))
    (finding_in (oldest (λ note. (note.replica == replica) && is_decisive note.finding) notes))

abbrev pub is_yes : Option Finding → Bool
is_yes (Some Yes) = true
is_yes _ = false

abbrev pub is_state : Option Finding → Bool
is_state (Some State) = true
is_state _ = false

abbrev pub is_absent : Option Finding → Bool
is_absent (Some Absent) = true
is_absent _ = false

abbrev pub is_gone : Option Finding → Bool
is_gone (Some Gone) = true
is_gone _ = false

abbrev pub is_failed : Option Finding → Bool
is_failed (Some (Failed cause)) = true
is_failed _ = false

abbrev pub is_found : Option Finding → Bool
is_found finding = is_yes finding || is_state finding || is_absent finding

-- how many of the replicas stand so
abbrev pub standing_so : ℕ → List Note → (Option Finding → Bool) → ℕ
standing_so replicas notes test = count_below replicas (λ replica. test (standing notes replica))

-- what so many standings of a put or delete come to, where so many replicas have not failed
abbrev pub decide_change : (need left yeses : ℕ) → Verdict
decide_change need left yeses = cond (nat_le need yeses) Verdict.Ok (cond (nat_lt left need) Verdict.Unavailable Verdict.Pending)

-- what so many standings of a get come to
abbrev pub decide_get : (need left yeses states found gone : ℕ) → Verdict
decide_get need left yeses states found gone =
    cond (nat_lt 0 gone) Verdict.Gone
    (cond (nat_lt left need) Verdict.Unavailable
    (cond (nat_lt found need) Verdict.Pending
    (cond (nat_lt 0 yeses) Verdict.Ok
    (cond (nat_lt 0 states) Verdict.Pending Verdict.NotFound))))

-- what so many standings come to
abbrev pub decide : TallyKind → (replicas need yeses states found gone failed : ℕ) → Verdict
decide TallyKind.Get replicas need yeses states found gone failed = decide_get need (replicas - failed) yeses states found gone
decide _ replicas need yeses states found gone failed = decide_change need (replicas - failed) yeses

-- what the notes of a piece come to
abbrev pub verdict : TallyKind → ℕ → ℕ → List Note → Verdict
verdict kind replicas need notes =
    decide kind replicas need
    (standing_so replicas notes is_yes)
    (standing_so replicas notes is_state)
    (standing_so replicas notes is_found)
    (standing_so replicas notes is_gone)
    (standing_so replicas notes is_failed)

abbrev pub is_pending : Verdict → Bool
is_pending Verdict.Pending = true
is_pending _ = false

-- a standing after one more finding: the first one stays, but State yields to what decides
abbrev pub settle : Option Finding → Finding → Option Finding
settle None finding = Some finding
settle (Some State) finding = cond (is_decisive finding) (Some finding) (Some State)
settle (Some first) finding = Some first

-- what a mark is as a finding
abbrev pub finding_of : Mark → Finding
finding_of Mark.Yes = Yes
finding_of Mark.State = State
finding_of Mark.Absent = Absent
finding_of Mark.Gone = Gone

-- a replica that stands at a failure, with its cause
abbrev pub failure_at : ℕ → Option Finding → List (ℕ × Cause)
failure_at replica (Some (Failed cause)) = (replica, cause) ∷ []
failure_at replica _ = []

-- the replicas that stand at a failure, in replica order
abbrev pub failed_replicas : ℕ → List Note → List (ℕ × Cause)
failed_replicas zero notes = []
failed_replicas (suc n) notes = failed_replicas n notes ++ failure_at n (standing notes n)
