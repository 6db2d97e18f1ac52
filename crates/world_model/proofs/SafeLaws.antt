-- A run whose router keeps its rules is safe.
use Rattle.std.proofs.Common.{ℕ, ◌∷◌, inl, inr}
use Rattle.blob_id.specs.declared.blob.Blob.{Blob}
use Rattle.blob_id.specs.declared.id.BlobId.{BlobId}
use Rattle.quorum_op.specs.declared.outcome.Outcome.{Outcome}
use Rattle.world_model.specs.declared.history.HistoryMark.TheVariants.{End}
use Rattle.world_model.specs.Lists.{Has, Earlier, Each}
use Rattle.world_model.specs.Outcomes.{IsWhole}
use Rattle.world_model.specs.Record.{Top, Item, Marked, Drawn, Record}
use Rattle.world_model.specs.Router.{Keeps, IsKept}
use Rattle.world_model.specs.Rules.{Rules}
use Rattle.world_model.specs.Safe.{AnswersDrawn, DrawsNew, EndFollows, IsSound, Kept, Safe}
use Rattle.world_model.specs.World.{Cells, Run}
use Rattle.world_model.proofs.ContentLaws.{content_law}
use Rattle.world_model.proofs.FollowLaws.{follows_later}
use Rattle.world_model.proofs.KeptLaws.{removed_kept, stored_kept}
use Rattle.world_model.proofs.LicenseLaws.{licensed_law}
use Rattle.world_model.proofs.ListLaws.{each_earlier, each_from, earlier_tail, has_later}
use Rattle.world_model.proofs.ReadLaws.{deleted_law, found_law, gone_law}
use Rattle.world_model.proofs.RouterLaws.{began_later, drawn_at, end_decided, put_follows}
use Rattle.world_model.proofs.StoredLaws.{removed_chunks, sound_law}

-- each end follows from the notes at its own place
follows_law : (rules : Rules) (record' : Record) → IsKept rules record' → Each (EndFollows rules) record'
follows_law rules record' kept = each_from (EndFollows rules) record' at
  where
    ends_so : (before : Record) (operation : ℕ) (outcome : Outcome) → Earlier (Marked (End operation outcome) ∷ before) record' → EndFollows rules (Marked (End operation outcome)) before
    ends_so before operation outcome e =
        let d = end_decided rules record' before operation outcome kept e in
        let k : IsKept rules before = each_earlier (Keeps rules) record' before kept (earlier_tail _ before record' e) in
        (d.begun, began_later d.then before operation d.begun (earlier_tail _ d.then before d.at) d.began, follows_later rules d.then before operation d.begun outcome k d.at d.follows)

    at : (item : Item) (before : Record) → Earlier (item ∷ before) record' → EndFollows rules item before
    at (Marked (End operation outcome)) before e = ends_so before operation outcome e
    at _ before e = tt

whole_top : (rules : Rules) (before : Record) (operation attempt : ℕ) (id : BlobId) (blob : Blob) → IsKept rules before → Has before (Drawn operation Top attempt id blob) → IsWhole id
whole_top rules before operation attempt id blob kept h =
    elim (drawn_at rules before operation Top attempt id blob kept h).draws.puts [ inl s ↦ inl s.1 | inr c ↦ inr c.1 ]

-- a put that is ok answers an id that it drew for its whole blob
answers_law : (rules : Rules) (record' : Record) → IsKept rules record' → Each AnswersDrawn record'
answers_law rules record' kept = each_from AnswersDrawn record' at
  where
    put_answers : (before : Record) (operation : ℕ) (id : BlobId) → Earlier (Marked (End operation (Outcome.Put id)) ∷ before) record' → AnswersDrawn (Marked (End operation (Outcome.Put id))) before
    put_answers before operation id e =
        let d = end_decided rules record' before operation (Outcome.Put id) kept e in
        let k : IsKept rules before = each_earlier (Keeps rules) record' before kept (earlier_tail _ before record' e) in
        let f = put_follows rules d.then operation d.begun id d.follows in
        let h : Has before (Drawn operation Top f.0 id f.1) = has_later d.then before _ (earlier_tail _ d.then before d.at) f.2 in
        (whole_top rules before operation f.0 id f.1 k h, (f.0, f.1, h))

    at : (item : Item) (before : Record) → Earlier (item ∷ before) record' → AnswersDrawn item before
    at (Marked (End operation (Outcome.Put id))) before e = put_answers before operation id e
    at _ before e = tt

kept_law : (rules : Rules) (opening : Cells) (record' : Record) → Run opening record' → IsKept rules record' → IsSound opening → DrawsNew opening record' → Kept rules.shape opening record'
kept_law rules opening record' run kept sound new = record {
  stored = stored_kept rules opening record' run kept;
  removed = removed_kept rules opening record' run kept;
  removed_chunks = removed_chunks rules opening record' run kept sound new;
}

-- a run whose router keeps its rules is safe
pub safe_law : (rules : Rules) (opening : Cells) (record' : Record) → IsSound opening → DrawsNew opening record' → Run opening record' → IsKept rules record' → Safe rules opening record'
safe_law rules opening record' sound new run kept = record {
  content = content_law rules opening record' run kept new;
  deleted = deleted_law rules opening record' run kept;
  gone = gone_law rules opening record' run kept;
  found = found_law rules opening record' run kept new;
  licensed = licensed_law rules opening record' run kept new;
  answers = answers_law rules record' kept;
  follows = follows_law rules record' kept;
  kept = kept_law rules opening record' run kept sound new;
  sound = sound_law rules opening record' run kept sound new;
}
