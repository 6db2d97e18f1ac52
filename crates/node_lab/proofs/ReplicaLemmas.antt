-- What a place holds, when it is opened and closed.
use Rattle.std.proofs.Common.{◌≡◌, ℕ, List, Bool, true, false, Option, Some, None, replicate, refl, sym, ◌∙◌, subst}
use Rattle.blob_id.specs.declared.id.BlobId.{BlobId}
use Rattle.cell_model.specs.declared.cell.Cell.{Cell}
use Rattle.cell_model.specs.declared.cell.Cell.TheVariants.{Absent}
use Rattle.cell_model.specs.Cells.{cell_in}
use Rattle.disk_core.specs.Content.{Content, ChangesBy, IsNewContent}
use Rattle.disk_core.specs.Homes.{SameContent}
use Rattle.disk_core.proofs.Changes.{image_from}
use Rattle.log_manifest.specs.declared.manifest.LogSettings.{LogSettings}
use Rattle.part_log.specs.Images.{OpensLog}
use Rattle.part_log.specs.Log.{disk_size}
use Rattle.replica_core.specs.Maps.{StandsForCells}
use Rattle.replica_core.specs.State.{ReplicaState}
use Rattle.replica_core.proofs.Maps.{join_absent}
use Rattle.replica_core.proofs.Standing.{same_cells}
use Rattle.world_model.specs.World.{Change}
use Rattle.node_lab.specs.Replicas.{AllRepresentEither, HoldsOpen, HoldsPlace, HoldsUp, IsOpened, Left, found, settled}
use Rattle.node_lab.proofs.FreshLemmas.{empty_cells, new_stands}

pub same_stands : (settings : LogSettings) (bytes : List ℕ) (f h : BlobId → Cell) (end : ℕ) → ((id : BlobId) → h id ≡ f id) → StandsForCells settings bytes f end → StandsForCells settings bytes h end
same_stands settings bytes f h end same stands = record { records = stands.records; stands = stands.stands; give = λ id. same id ∙ stands.give id }

-- what isn't in doubt is settled
pub settled_sure : (landed : Bool) (cells : BlobId → Cell) (id : BlobId) → settled landed cells None id ≡ cells id
settled_sure true cells id = join_absent (cells id)
settled_sure false cells id = refl

-- what stands for the settled cells stands for one of the two
pub either_settled : (settings : LogSettings) (content : Content) (landed : Bool) (cells : BlobId → Cell) (doubt : Option Change) → AllRepresentEither settings content (settled landed cells doubt) None → AllRepresentEither settings content cells doubt
either_settled settings content landed cells doubt all c image =
    let one = all c image in
    record { landed = landed; end = one.end; stands = same_stands settings c (settled one.landed (settled landed cells doubt) None) (settled landed cells doubt) one.end (λ id. sym (settled_sure one.landed (settled landed cells doubt) id)) one.stands }

pub either_same : (settings : LogSettings) (old new : Content) (cells : BlobId → Cell) (doubt : Option Change) → ((c : List ℕ) → new.images c → old.images c) → AllRepresentEither settings old cells doubt → AllRepresentEither settings new cells doubt
either_same settings old new cells doubt from all c image = all c (from c image)

-- the images of the same content, one way and back
pub image_back : (old new : Content) → SameContent old new → (c : List ℕ) → new.images c → old.images c
image_back old new same c image = (same.images c).0 image

-- an opening that ended early
pub either_opened : (settings : LogSettings) (old new : Content) (cells : BlobId → Cell) (doubt : Option Change) → ChangesBy (OpensLog settings) old new → AllRepresentEither settings old cells doubt → AllRepresentEither settings new cells doubt
either_opened settings old new cells doubt changes all c image =
    let from = image_from (OpensLog settings) old new changes c image in
    let was = all from.0 from.1 in
    record { landed = was.landed; end = was.end; stands = record { records = was.stands.records; stands = from.2.stands was.stands.records was.end was.stands.stands; give = was.stands.give } }

-- a new disk holds nothing
pub either_new : (settings : LogSettings) (content : Content) (cells : BlobId → Cell) (doubt : Option Change) → IsNewContent (disk_size settings) content → ((id : BlobId) → cells id ≡ Absent) → AllRepresentEither settings content cells doubt
either_new settings content cells doubt new none c image =
    record { landed = false; end = 0; stands = subst (λ (l : List ℕ). StandsForCells settings l cells 0) (sym (new.only c image ∙ new.zeros)) (empty_cells settings (replicate (disk_size settings) 0) cells (new_stands settings) none) }

module _ {D : Type 0} (content : D → Content) (settings : LogSettings) where
  pub held_up : (replica : ReplicaState D) (cells : BlobId → Cell) (doubt : Option Change) → replica.down ≡ false → HoldsUp settings replica cells doubt → HoldsOpen content settings replica.down replica cells doubt
  held_up replica cells doubt up holds = subst (λ (b : Bool). HoldsOpen content settings b replica cells doubt) (sym up) holds

  -- an opening settles what was in doubt
  pub opened_settles : (tells : Type 0) (home : Option D) (replica : ReplicaState D) (cells : BlobId → Cell) (doubt : Option Change) → tells → IsOpened content tells settings home replica
      → HoldsPlace content settings None home cells doubt → (landed : Bool) × HoldsOpen content settings replica.down replica (settled landed cells doubt) None
  opened_settles tells None replica cells doubt t opened none = (
    false,
    held_up replica cells None opened.up (record {
      sure = refl;
      named = opened.named;
      held = (same_cells settings (found content settings None) (cell_in replica.cells) cells _ 0 (opened.stood t) (empty_cells settings (replicate (disk_size settings) 0) cells (new_stands settings) none)).1;
    }),
  )
  opened_settles tells (Some disk) replica cells doubt t opened all =
      let one = all (content disk).seen (content disk).sees in (
        one.landed,
        held_up replica (settled one.landed cells doubt) None opened.up (record {
          sure = refl;
          named = opened.named;
          held = (same_cells settings (content disk).seen (cell_in replica.cells) (settled one.landed cells doubt) _ one.end (opened.stood t) one.stands).1;
        }),
      )

  -- the disk that is left when a replica goes home
  pub left_stands : (stops : Bool) (old new : D) (cells : BlobId → Cell) (doubt : Option Change) → Left content stops old new → AllRepresentEither settings (content old) cells doubt → AllRepresentEither settings (content new) cells doubt
  left_stands true old new cells doubt stopped all c image = all c (subst (λ (l : List ℕ). (content old).images l) (sym (stopped.only c image)) stopped.left)
  left_stands false old new cells doubt same all c image = all c (image_back (content old) (content new) same c image)

  -- a replica's cells are those of each image of its disk
  pub open_stands : (replica : ReplicaState D) (cells : BlobId → Cell) (doubt : Option Change) (disk : D) → disk ≡ replica.log.disk
      → (replica.down ≡ false → (c : List ℕ) → (content disk).images c → StandsForCells replica.log.table.settings c (cell_in replica.cells) replica.log.table.end)
      → HoldsOpen content settings replica.down replica cells doubt → AllRepresentEither settings (content replica.log.disk) cells doubt
  open_stands replica cells doubt disk is stands = go replica.down refl
    where
      go : (b : Bool) → replica.down ≡ b → HoldsOpen content settings b replica cells doubt → AllRepresentEither settings (content replica.log.disk) cells doubt
      go true down all = λ c image. all.1 c image
      go false up holds = λ c image. record {
        landed = false;
        end = replica.log.table.end;
        stands = same_stands settings c (cell_in replica.cells) cells replica.log.table.end (λ id. sym (holds.held id))
            (subst (λ (s : LogSettings). StandsForCells s c (cell_in replica.cells) replica.log.table.end) holds.named (stands up c (subst (λ (d : D). (content d).images c) (sym is) image)));
      }

  -- a place that is closed
  pub place_kept : (replica : ReplicaState D) (home : Option D) (new_home : Option D) (disk kept : D) (cells : BlobId → Cell) (doubt : Option Change) → new_home ≡ Some kept → ((c : List ℕ) → (content kept).images c → (content disk).images c)
      → (HoldsOpen content settings replica.down replica cells doubt → AllRepresentEither settings (content disk) cells doubt)
      → HoldsPlace content settings (Some replica) home cells doubt → HoldsPlace content settings None new_home cells doubt
  place_kept replica home new_home disk kept cells doubt is from stands holds =
      subst (λ (h : Option D). HoldsPlace content settings None h cells doubt) (sym is) (either_same settings (content disk) (content kept) cells doubt from (stands holds))
