-- The layout of a place, when it is opened and closed.
use Rattle.std.proofs.Common.{◌≡◌, ℕ, List, false, Option, Some, None, sym, subst}
use Rattle.disk_core.specs.Content.{Content}
use Rattle.log_manifest.specs.declared.manifest.LogSettings.{LogSettings}
use Rattle.part_log.specs.Images.{IsLaidOut}
use Rattle.part_log.specs.Layout.{Layout}
use Rattle.part_log.specs.Log.{layout_of}
use Rattle.part_log.proofs.Layouts.{one_layout}
use Rattle.replica_core.specs.State.{ReplicaState}
use Rattle.node_lab.specs.Replicas.{LogHasLayout, IsOpened, PlaceHasLayout, found}

module _ {D : Type 0} (content : D → Content) (settings : LogSettings) where
  -- a replica's layout is that of each image of its disk
  pub open_laid : (replica : ReplicaState D) (layout : Layout) (disk : D) → (replica.down ≡ false → (c : List ℕ) → (content disk).images c → IsLaidOut replica.log.table.settings c (layout_of replica.log.table))
      → LogHasLayout settings replica layout → (c : List ℕ) → (content disk).images c → IsLaidOut settings c layout
  open_laid replica layout disk laid log c image =
      subst (λ (l : Layout). IsLaidOut settings c l) log.is (subst (λ (s : LogSettings). IsLaidOut s c (layout_of replica.log.table)) log.named (laid log.up c image))

  -- a place whose disk went home
  pub place_laid : (disk kept : D) (new_home : Option D) (layout : Layout) → new_home ≡ Some kept → (content kept).seen ≡ (content disk).seen → IsLaidOut settings (content disk).seen layout → PlaceHasLayout content settings None new_home layout
  place_laid disk kept new_home layout is seen laid =
      subst (λ (h : Option D). PlaceHasLayout content settings None h layout) (sym is) (subst (λ (l : List ℕ). IsLaidOut settings l layout) (sym seen) laid)

  -- a replica that was opened has the layout of its disk
  pub opened_log : (tells : Type 0) (home : Option D) (replica : ReplicaState D) (layout : Layout) → tells → IsOpened content tells settings home replica → PlaceHasLayout content settings None home layout → LogHasLayout settings replica layout
  opened_log tells home replica layout t opened laid = record {
    up = opened.up;
    named = opened.named;
    is = one_layout settings (found content settings home) (layout_of replica.log.table) layout (opened.laid_out t) laid;
  }
