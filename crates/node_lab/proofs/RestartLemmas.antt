-- What stops and restarts do to the places.
use Rattle.std.proofs.Common.{◌≡◌, ℕ, zero, suc, Bool, true, false, ◌&&◌, cond, List, Option, Some, None, refl, sym, ◌∙◌, ap, subst}
use Rattle.disk_core.specs.Content.{Content}
use Rattle.disk_core.specs.Homes.{Home, Out}
use Rattle.log_manifest.specs.declared.manifest.LogSettings.{LogSettings}
use Rattle.part_log.specs.Layout.{Layout}
use Rattle.replica_core.specs.State.{ReplicaState}
use Rattle.world_model.specs.declared.shape.Shape.{Shape}
use Rattle.cell_model.specs.Cells.{join}
use Rattle.world_model.specs.World.{Change, arriving_change}
use Rattle.node_lab.specs.Replicas.{settings_of}
use Rattle.node_lab.specs.Nodes.{Holds, HomeHolds, IsFor, NodesState, never_opened, has_replica, replica_at, settled_places, slot_at}
use Rattle.node_lab.specs.Places.{HoldsAt, HoldsHere, IsBlank, KnowsLayout, Place, Places, landed_at, settled_place}
use Rattle.node_lab.specs.Calls.{ClosesNodes, OpensNodes, StayUnopened}
use Rattle.node_lab.specs.Slots.{GoesHome, ClosesWhere, KeepsLayout, ReplicaSlot, OpensWhere, StaysClosedWhere}
use Rattle.replica_core.proofs.Maps.{join_absent}
use Rattle.node_lab.proofs.SettleLemmas.{opening_settles}

module _ {D : Type 0} (tells : Type 0) (content : D → Content) (size : D → ℕ) (settings : LogSettings) where
  knows_on : (old new : ReplicaSlot D) → KeepsLayout tells content size settings old new → (l : Option Layout) → KnowsLayout content settings old.replica old.home l → KnowsLayout content settings new.replica new.home l
  knows_on old new keeps None h = tt
  knows_on old new keeps (Some layout) h = keeps layout h

  -- a place that is closed
  closes_here : (meant stops : Bool) (due : Bool) (old new : ReplicaSlot D) (place : Place) → tells → ClosesWhere tells content size meant stops old new → HoldsAt content due settings old.replica old.home place → HoldsAt content due settings new.replica new.home place
  closes_here false stops due old new place t closes was = subst (λ (s : ReplicaSlot D). HoldsAt content due settings s.replica s.home place) (sym closes) was
  closes_here true stops due old new place t closes was = go old.replica refl closes
    where
      go : (o : Option (ReplicaState D)) → old.replica ≡ o → GoesHome tells content size stops o old new → HoldsAt content due settings new.replica new.home place
      go None is same = subst (λ (s : ReplicaSlot D). HoldsAt content due settings s.replica s.home place) (sym same) was
      go (Some replica) is goes = kept due was
        where
          kept : (d : Bool) → HoldsAt content d settings old.replica old.home place → HoldsAt content d settings new.replica new.home place
          kept false none = absurd (let no : ◌≡◌ {A = Option (ReplicaState D)} None (Some replica) = sym none.0 ∙ is in cc)
          kept true here =
              let keeps = goes.1 t settings in
              record { cells = keeps.0 place.cells place.doubt here.cells; layout = knows_on old new keeps.1 place.layout here.layout }

  -- a place that isn't opened
  stays_here : (meant : Bool) (due : Bool) (old new : ReplicaSlot D) (place : Place) → tells → StaysClosedWhere tells content size meant settings old new → HoldsAt content due settings old.replica old.home place → HoldsAt content due settings new.replica new.home place
  stays_here false due old new place t same was = subst (λ (s : ReplicaSlot D). HoldsAt content due settings s.replica s.home place) (sym same) was
  stays_here true false old new place t stays was = (stays.replica ∙ was.0, was.1)
  stays_here true true old new place t stays was = record { cells = stays.keeps t place.cells place.doubt was.cells; layout = knows_on old new (stays.layout t) place.layout was.layout }

  -- a place that is opened: what was in doubt is settled
  opens_here : (meant : Bool) (folder : List ℕ) (old new : ReplicaSlot D) (place : Place) → tells → old.replica ≡ None → meant ≡ true → OpensWhere tells content size meant settings folder old new → HoldsHere content settings old.replica old.home place
      → HoldsHere content settings new.replica new.home (settled_place (landed_at place.doubt new.replica) place)
  opens_here false folder old new place t none is starts was = absurd (cc is)
  opens_here true folder old new place t none is starts was =
      let at : new ≡ record { replica = Some starts.replica; home = None; out = Some folder } = starts.is in
      subst (λ (s : ReplicaSlot D). HoldsHere content settings s.replica s.home (settled_place (landed_at place.doubt s.replica) place)) (sym at)
      (opening_settles tells content settings old.home None starts.replica place t starts.opened
      (subst (λ (o : Option (ReplicaState D)). HoldsHere content settings o old.home place) none was))

-- What nodes hold behind a call is said of the shape and the folder that they were opened for.
same_for : {B D : Type 0} (shape : Shape) (folder : List ℕ) (old new : NodesState B D) → new.shape ≡ old.shape → new.folder ≡ old.folder → IsFor shape folder old.shape old.folder → IsFor shape folder new.shape new.folder
same_for shape folder old new one two named =
    subst (λ (f : List ℕ). IsFor shape folder new.shape f) (sym two) (subst (λ (s : Option Shape). IsFor shape folder s old.folder) (sym one) named)

folder_of : (shape : Shape) (folder : List ℕ) (o : Option Shape) (other : List ℕ) → o ≡ Some shape → IsFor shape folder o other → other ≡ folder
folder_of shape folder None other is named = absurd (cc is)
folder_of shape folder (Some s) other is named = named.1

module _ {B D : Type 0} (bays_tell tells : Type 0) (content : D → Content) (size : D → ℕ) (home : B → Home D) (out : B → Out) (shape : Shape) (folder : List ℕ) (places : Places) (old new : NodesState B D)
    (t : tells) (known : tells → bays_tell) (holds : Holds content home shape folder places old) where
  -- nodes that are closed hold what they held
  pub places_closed : old.shape ≡ Some shape → (meant : ℕ → Bool) (stops : Bool) → ClosesNodes bays_tell tells content size home out meant stops old new → Holds content home shape folder places new
  places_closed is meant stops closes = record {
    named = same_for shape folder old new closes.shape closes.same_folder holds.named;
    each = λ n p.
        let here = subst (λ (f : List ℕ). ClosesWhere tells content size (meant n) stops (slot_at home out f old n p) (slot_at home out f new n p)) (folder_of shape folder old.shape old.folder is holds.named) (closes.slots (known t) n p) in
        closes_here tells content size (settings_of shape) (meant n) stops (has_replica shape n p) (slot_at home out folder old n p) (slot_at home out folder new n p) (places n p) t here (holds.each n p);
  }

  -- nodes that aren't opened hold what they held
  pub places_unopened : (due : ℕ → ℕ → Bool) → StayUnopened bays_tell tells content size home out due (settings_of shape) folder old new → Holds content home shape folder places new
  places_unopened due stay = record {
    named = same_for shape folder old new stay.shape stay.same_folder holds.named;
    each = λ n p. stays_here tells content size (settings_of shape) (due n p) (has_replica shape n p) (slot_at home out folder old n p) (slot_at home out folder new n p) (places n p) t (stay.slots (known t) n p) (holds.each n p);
  }

  -- Nodes that are opened hold what they held, and what was in doubt there is settled, as their replicas show. All others stay.
  pub places_opened : IsFor shape folder new.shape new.folder → (meant : ℕ → Bool) → ((n p : ℕ) → meant n ≡ true → replica_at old n p ≡ None)
      → OpensNodes bays_tell tells content size home out (λ n p. meant n && has_replica shape n p) (settings_of shape) folder old new
      → Holds content home shape folder (settled_places meant (λ n p. landed_at (places n p).doubt (replica_at new n p)) places) new
  places_opened named meant stopped opens = record {
    named = named;
    each = λ n p. go n p (meant n) refl (has_replica shape n p) (opens.slots (known t) n p) (holds.each n p);
  }
    where
      blank : (l : Bool) (place : Place) → IsBlank place → IsBlank (settled_place l place)
      blank false place it = (it.0, refl)
      blank true place it = ((λ id. ap (λ (d : Option Change). join (place.cells id) (arriving_change d id)) it.1 ∙ join_absent (place.cells id) ∙ it.0 id), refl)

      go : (n p : ℕ) (here : Bool) → meant n ≡ here → (due : Bool) → OpensWhere tells content size (here && due) (settings_of shape) folder (slot_at home out folder old n p) (slot_at home out folder new n p)
          → HoldsAt content due (settings_of shape) (replica_at old n p) (home old.bays folder n p) (places n p)
          → HoldsAt content due (settings_of shape) (replica_at new n p) (home new.bays folder n p) (cond here (settled_place (landed_at (places n p).doubt (replica_at new n p)) (places n p)) (places n p))
      go n p false other due same was = subst (λ (s : ReplicaSlot D). HoldsAt content due (settings_of shape) s.replica s.home (places n p)) (sym same) was
      go n p true one false stays was =
          let still : replica_at new n p ≡ replica_at old n p = ap (λ (s : ReplicaSlot D). s.replica) stays in
          (still ∙ was.0, blank (landed_at (places n p).doubt (replica_at new n p)) (places n p) was.1)
      go n p true one true opened was =
          opens_here tells content size (settings_of shape) true folder (slot_at home out folder old n p) (slot_at home out folder new n p) (places n p) t (stopped n p one) refl opened was

-- where no replica is open, the disks at home stand for what is held
pub first_held : {B D : Type 0} (content : D → Content) (home : B → Home D) (shape : Shape) (folder : List ℕ) (places : Places) (bays : B) → HomeHolds content home shape folder bays places → Holds content home shape folder places (never_opened bays)
first_held {B} {D} content home shape folder places bays holds = record { named = tt; each = λ n p. at n p (holds n p) }
  where
    at : (n p : ℕ) → HoldsAt content (has_replica shape n p) (settings_of shape) None (home bays folder n p) (places n p) → HoldsAt content (has_replica shape n p) (settings_of shape) (replica_at (never_opened {D = D} bays) n p) (home bays folder n p) (places n p)
    at zero p here = here
    at (suc n) p here = here

pub all_at_home : {B D : Type 0} (content : D → Content) (home : B → Home D) (shape : Shape) (folder : List ℕ) (places : Places) (nodes : NodesState B D) → ((n p : ℕ) → replica_at nodes n p ≡ None) → Holds content home shape folder places nodes → HomeHolds content home shape folder nodes.bays places
all_at_home {B} {D} content home shape folder places nodes none holds n p =
    subst (λ (o : Option (ReplicaState D)). HoldsAt content (has_replica shape n p) (settings_of shape) o (home nodes.bays folder n p) (places n p)) (none n p) (holds.each n p)
