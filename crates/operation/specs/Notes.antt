-- How notes go on.
use Rattle.std.specs.Prelude.{ℕ, cond, List, ◌∷◌, Option, Some, None}
use Rattle.blob_id.specs.declared.blob.Blob.{Blob}
use Rattle.quorum_op.specs.declared.cause.Finding.{Finding}
use Rattle.quorum_op.specs.declared.cause.TallyKind.{TallyKind}
use Rattle.quorum_op.specs.Tally.{Note, is_pending, is_yes, verdict}
use Rattle.world_model.specs.Notes.{Learnt}

-- what was found, and the blob that came, where something was learnt
abbrev pub learnt_finding : Option Learnt → Option Finding
learnt_finding None = None
learnt_finding (Some said) = Some said.finding

abbrev pub note_by : ℕ → Option Finding → Option Note
note_by replica None = None
note_by replica (Some finding) = Some (record { replica = replica; finding = finding })

-- one more note, where the verdict so far is Pending
abbrev pub count_note : TallyKind → ℕ → ℕ → Option Note → List Note → List Note
count_note kind replicas need None notes = notes
count_note kind replicas need (Some note) notes = cond (is_pending (verdict kind replicas need notes)) (note ∷ notes) notes

-- the blob that a Yes brings
abbrev pub learnt_blob : Option Learnt → Option Blob
learnt_blob None = None
learnt_blob (Some said) = cond (is_yes (Some said.finding)) said.blob None
