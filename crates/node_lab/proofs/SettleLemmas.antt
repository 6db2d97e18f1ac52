-- What an opening settles: a change in doubt took effect or not, as the cells show.
use Rattle.std.proofs.Common.{◌≡◌, Bool, true, false, Option, Some, None, refl, sym, ◌∙◌, ap, subst}
use Rattle.blob_id.specs.declared.id.BlobId.{BlobId}
use Rattle.cell_model.specs.declared.cell.Cell.{Cell}
use Rattle.cell_model.specs.declared.cell.Cell.TheVariants.{Absent, Held, Gone}
use Rattle.cell_model.specs.Cells.{cell_in, join}
use Rattle.disk_core.specs.Content.{Content}
use Rattle.log_manifest.specs.declared.manifest.LogSettings.{LogSettings}
use Rattle.part_log.specs.Layout.{Layout}
use Rattle.replica_core.specs.State.{ReplicaState}
use Rattle.replica_core.proofs.Maps.{join_absent}
use Rattle.world_model.specs.World.{Change, arriving_change, same_id}
use Rattle.world_model.proofs.CellLaws.{same_id_true, same_id_self}
use Rattle.node_lab.specs.Replicas.{HoldsOpen, IsOpened, settled}
use Rattle.node_lab.specs.Places.{HoldsHere, KnowsLayout, Place, has_brought, has_change, settled_place}
use Rattle.node_lab.proofs.ReplicaLemmas.{held_up, opened_settles}
use Rattle.node_lab.proofs.LayoutLemmas.{opened_log}

-- a cell that has what is brought is joined with it already
has_joined : (brought cell : Cell) → has_brought brought cell ≡ true → join cell brought ≡ cell
has_joined Absent cell has = join_absent cell
has_joined (Held b) Absent has = absurd (cc has)
has_joined (Held b) (Held c) has = refl
has_joined (Held b) Gone has = refl
has_joined Gone Absent has = absurd (cc has)
has_joined Gone (Held c) has = absurd (cc has)
has_joined Gone Gone has = refl

-- and what is joined has it
joined_has : (brought cell : Cell) → has_brought brought (join cell brought) ≡ true
joined_has Absent cell = refl
joined_has (Held b) Absent = refl
joined_has (Held b) (Held c) = refl
joined_has (Held b) Gone = refl
joined_has Gone Absent = refl
joined_has Gone (Held c) = refl
joined_has Gone Gone = refl

here_only : (change : Change) (cells : BlobId → Cell) (b : Bool) (id : BlobId) → same_id id change.id ≡ b → join (cells change.id) change.cell ≡ cells change.id → join (cells id) (arriving_change (Some change) id) ≡ cells id
here_only change cells true id is same =
    let one : id ≡ change.id = same_id_true id change.id is in
    ap (λ (c : Cell). join (cells id) c) (rw is refl) ∙ subst (λ (i : BlobId). join (cells i) change.cell ≡ cells i) (sym one) same
here_only change cells false id is same = ap (λ (c : Cell). join (cells id) c) (rw is refl) ∙ join_absent (cells id)

-- Where the cells of an opened replica are those that were settled one way, they are so by what they show.
settled_as : {D : Type 0} (replica : ReplicaState D) (cells : BlobId → Cell) (doubt : Option Change) (landed : Bool) → ((id : BlobId) → cell_in replica.cells id ≡ settled landed cells doubt id)
    → (id : BlobId) → cell_in replica.cells id ≡ settled (has_change doubt replica) cells doubt id
settled_as replica cells None true held id = held id ∙ join_absent (cells id)
settled_as replica cells None false held id = held id
settled_as {D} replica cells (Some change) landed held id = go landed held (has_change (Some change) replica) refl
  where
    there : join (cells change.id) (arriving_change (Some change) change.id) ≡ join (cells change.id) change.cell
    there = ap (λ (c : Cell). join (cells change.id) c) (rw (same_id_self change.id) refl)

    go : (l : Bool) → ((id : BlobId) → cell_in replica.cells id ≡ settled l cells (Some change) id) → (h : Bool) → has_change (Some change) replica ≡ h → cell_in replica.cells id ≡ settled (has_change (Some change) replica) cells (Some change) id
    go true held true has = held id ∙ ap (λ (b : Bool). settled b cells (Some change) id) (sym has)
    go false held false has = held id ∙ ap (λ (b : Bool). settled b cells (Some change) id) (sym has)
    go true held false has =
        let cell : cell_in replica.cells change.id ≡ join (cells change.id) change.cell = held change.id ∙ there in
        absurd (let no : has_brought change.cell (join (cells change.id) change.cell) ≡ false = subst (λ (c : Cell). has_brought change.cell c ≡ false) cell has in let yes = joined_has change.cell (cells change.id) in cc)
    go false held true has =
        let same : join (cells change.id) change.cell ≡ cells change.id = has_joined change.cell (cells change.id) (subst (λ (c : Cell). has_brought change.cell c ≡ true) (held change.id) has) in
        held id ∙ sym (here_only change cells (same_id id change.id) id refl same) ∙ ap (λ (b : Bool). settled b cells (Some change) id) (sym has)

-- An opening settles what was in doubt, as the opened replica shows, and the layout stays.
pub opening_settles : {D : Type 0} (tells : Type 0) (content : D → Content) (settings : LogSettings) (home new_home : Option D) (replica : ReplicaState D) (place : Place) → tells → IsOpened content tells settings home replica
    → HoldsHere content settings None home place → HoldsHere content settings (Some replica) new_home (settled_place (has_change place.doubt replica) place)
opening_settles {D} tells content settings home new_home replica place t opened holds =
    let by = opened_settles content settings tells home replica place.cells place.doubt t opened holds.cells in
    let up = subst (λ (b : Bool). HoldsOpen content settings b replica (settled by.0 place.cells place.doubt) None) opened.up by.1 in
    record {
      cells = held_up content settings replica (settled (has_change place.doubt replica) place.cells place.doubt) None opened.up (record {
        sure = refl;
        named = opened.named;
        held = settled_as replica place.cells place.doubt by.0 up.held;
      });
      layout = known place.layout holds.layout;
    }
  where
    known : (l : Option Layout) → KnowsLayout content settings None home l → KnowsLayout content settings (Some replica) new_home l
    known None h = tt
    known (Some layout) h = opened_log content settings tells home replica layout t opened h
