-- The layout of a place, when it is opened and closed.
use Rattle.std.proofs.Common.{◌≡◌, ℕ, List, false, Option, Some, None, sym, subst}
use Rattle.disk_core.specs.Content.{Content}
use Rattle.disk_core.specs.Homes.{Home}
use Rattle.log_manifest.specs.declared.manifest.LogSettings.{LogSettings}
use Rattle.part_log.specs.Images.{IsLaidOut}
use Rattle.part_log.specs.Layout.{Layout}
use Rattle.part_log.specs.Log.{layout_of}
use Rattle.part_log.proofs.Layouts.{one_layout}
use Rattle.replica_core.specs.State.{ReplicaState}
use Rattle.world_model.specs.declared.shape.Shape.{Shape}
use Rattle.lab_nodes.specs.Holding.{LogHasLayout, IsOpened, PlaceHasLayout, found, settings_of}
use Rattle.lab_nodes.specs.Layouts.{HasLayoutAt, HaveLayouts, Layouts}
use Rattle.lab_nodes.specs.Nodes.{has_replica, replica_in}

module _ {D : Type 0} (content : D → Content) (settings : LogSettings) where
  -- a replica's layout is that of each image of its disk
  pub open_laid : (replica : ReplicaState D) (layout : Layout) (disk : D) → (replica.down ≡ false → (c : List ℕ) → (content disk).images c → IsLaidOut replica.log.table.settings c (layout_of replica.log.table))
      → LogHasLayout settings replica layout → (c : List ℕ) → (content disk).images c → IsLaidOut settings c layout
  open_laid replica layout disk laid log c image =
      subst (λ (l : Layout). IsLaidOut settings c l) log.is (subst (λ (s : LogSettings). IsLaidOut s c (layout_of replica.log.table)) log.named (laid log.up c image))

  -- a place whose disk went home
  pub place_laid : (disk kept : D) (new_home : Option D) (layout : Layout) → new_home ≡ Some kept → (content kept).seen ≡ (content disk).seen → IsLaidOut settings (content disk).seen layout → PlaceHasLayout content settings None new_home layout
  place_laid disk kept new_home layout is seen laid =
      subst (λ (h : Option D). PlaceHasLayout content settings None h layout) (sym is) (subst (λ (l : List ℕ). IsLaidOut settings l layout) (sym seen) laid)

  -- a replica that was opened has the layout of its disk
  pub opened_log : (tells : Type 0) (home : Option D) (replica : ReplicaState D) (layout : Layout) → tells → IsOpened content tells settings home replica → PlaceHasLayout content settings None home layout → LogHasLayout settings replica layout
  opened_log tells home replica layout t opened laid = record {
    up = opened.up;
    named = opened.named;
    is = one_layout settings (found content settings home) (layout_of replica.log.table) layout (opened.laid_out t) laid;
  }

module _ {B D : Type 0} (content : D → Content) (home : B → Home D) (shape : Shape) where
  -- the places of open nodes have these layouts
  abbrev pub PlacesHaveLayouts : List ℕ → B → List (Option (ReplicaState D)) → Layouts → Type 0
  PlacesHaveLayouts folder bays slots layouts = (n p : ℕ) → HasLayoutAt content (has_replica shape n p) (settings_of shape) (replica_in (Some shape) slots n p) (home bays folder n p) (layouts n p)

  -- nodes that are open for a shape and a folder have the layouts of their places
  pub layouts_of : (folder : List ℕ) (bays : B) (slots : List (Option (ReplicaState D))) (other : Shape) (place : List ℕ) (layouts : Layouts)
      → HaveLayouts content home other place layouts (record { shape = Some shape; folder = folder; bays = bays; slots = slots }) → PlacesHaveLayouts folder bays slots layouts
  layouts_of folder bays slots other place layouts have =
      let at : Shape → List ℕ → Type 0 = λ s f. (n p : ℕ) → HasLayoutAt content (has_replica s n p) (settings_of s) (replica_in (Some shape) slots n p) (home bays f n p) (layouts n p) in
      subst (λ (f : List ℕ). at shape f) (sym have.named.1) (subst (λ (s : Shape). at s place) (sym have.named.0) have.places)

  -- the layouts of the places are those of the nodes
  pub layouts_for : (folder : List ℕ) (bays new_bays : B) (slots new_slots : List (Option (ReplicaState D))) (other : Shape) (place : List ℕ) (layouts : Layouts) (new_layouts : Shape → Layouts)
      → (PlacesHaveLayouts folder bays slots layouts → PlacesHaveLayouts folder new_bays new_slots (new_layouts shape))
      → HaveLayouts content home other place layouts (record { shape = Some shape; folder = folder; bays = bays; slots = slots }) → HaveLayouts content home other place (new_layouts other) (record { shape = Some shape; folder = folder; bays = new_bays; slots = new_slots })
  layouts_for folder bays new_bays slots new_slots other place layouts new_layouts keeps have =
      let at : Shape → List ℕ → Type 0 = λ s f. (n p : ℕ) → HasLayoutAt content (has_replica s n p) (settings_of s) (replica_in (Some shape) new_slots n p) (home new_bays f n p) (new_layouts s n p) in
      record {
        named = have.named;
        places = subst (λ (s : Shape). at s place) have.named.0 (subst (λ (f : List ℕ). at shape f) have.named.1 (keeps (layouts_of folder bays slots other place layouts have)));
      }
