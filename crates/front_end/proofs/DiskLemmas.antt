-- What a network whose nodes were closed leaves of its disks.
use Rattle.std.proofs.Common.{◌≡◌, ℕ, true, false, List, [], Option, None, Some, IsSome, refl, sym, ap, subst}
use Rattle.std.specs.Option.{is_some}
use Rattle.disk_core.specs.Content.{Content}
use Rattle.disk_core.specs.Homes.{Home, Out}
use Rattle.lab_nodes.specs.Holding.{settings_of}
use Rattle.lab_nodes.specs.Layouts.{HomeHasLayouts, Layouts}
use Rattle.lab_nodes.specs.Nodes.{NodesState, HoldsAt, Holds, HomeHolds, IsOutAs, OnlyOwnOut, has_replica, is_up, never_opened, replica_at}
use Rattle.lab_nodes.specs.Spots.{DiskFailed}
use Rattle.mem_fabric.specs.Packing.{KeepsPacking, PacksFrom}
use Rattle.mem_fabric.specs.Runs.{RunsFrom}
use Rattle.mem_fabric.specs.Torn.{has_torn}
use Rattle.mem_fabric.proofs.Goes.{fresh_packs}
use Rattle.front_end.specs.Disks.{Opens, Leaves}
use Rattle.world_model.specs.declared.shape.Shape.{Shape}
use Rattle.world_model.specs.declared.step.Called.{Called}
use Rattle.world_model.specs.Told.{told}
use Rattle.world_model.specs.World.{Cells, Run}

no_some : {A : Type 0} (o : Option A) → is_some o ≡ false → o ≡ None
no_some None e = refl
no_some (Some x) e = absurd cc

module _ {B D : Type 0} (bays_tell tells : Type 0) (content : D → Content) (size faults : D → ℕ) (home : B → Home D) where
  -- what closed nodes hold their disks stand for
  home_holds : (shape : Shape) (folder : List ℕ) (cells : Cells) (nodes : NodesState B D) → ((n p : ℕ) → is_up nodes n p ≡ false) → Holds content home shape folder cells nodes → HomeHolds content home shape folder nodes.bays cells
  home_holds shape folder cells nodes shut holds = λ n p.
      subst (λ r. HoldsAt content home (has_replica shape n p) (settings_of shape) r (home nodes.bays folder n p) (cells n p)) (no_some (replica_at nodes n p) (shut n p)) (holds.places n p)

  -- what was told from the cells that disks stand for
  abbrev pub RunsFromDisks : Shape → List ℕ → B → List Called → NodesState B D → Type 0
  RunsFromDisks shape folder old calls nodes = (opening : Cells) → (tells → HomeHolds content home shape folder old opening) → RunsFrom tells content home calls nodes shape folder opening

  pub runs_on : (shape : Shape) (folder : List ℕ) (old : B) (nodes : NodesState B D) (calls : List Called) → RunsFromDisks shape folder old calls nodes → (opening : Cells) → Opens bays_tell tells content size faults home shape folder old calls opening → Run opening (told calls)
  runs_on shape folder old nodes calls runs opening opens = (runs opening (λ t. opens.2) opens.0 opens.1).run

  -- what was told from the cells that disks stand for, and from the layouts that they have
  abbrev pub PacksFromDisks : Shape → List ℕ → B → List Called → NodesState B D → Type 0
  PacksFromDisks shape folder old calls nodes = (opening : Cells) (first : Layouts) → (tells → HomeHolds content home shape folder old opening) → (tells → HomeHasLayouts content home shape folder old first) → PacksFrom tells content home calls nodes shape folder opening first

  -- nodes that were never opened are opened, and calls that keep what was packed follow
  pub packs_on : (shape : Shape) (folder : List ℕ) (fresh opened end : NodesState B D) (none calls now : List Called) → fresh ≡ never_opened fresh.bays → Some none ≡ Some []
      → ((opening : Cells) (first : Layouts) → PacksFrom tells content home none fresh shape folder opening first → PacksFrom tells content home calls opened shape folder opening first)
      → IsSome opened.shape → KeepsPacking tells content home calls opened now end → PacksFromDisks shape folder fresh.bays now end
  packs_on shape folder fresh opened end none calls now closed empty opens standing keeps = λ opening first held laid.
      let e : [] ≡ none = cc in
      let before = subst (λ l. PacksFrom tells content home l fresh shape folder opening first) e (fresh_packs tells content home fresh fresh.bays shape folder opening first closed held laid) in
      (keeps standing).1 shape folder opening first (opens opening first before)

  pub leaves_of : (shape : Shape) (folder : List ℕ) (old : B) (nodes : NodesState B D) (calls now : List Called) → Some now ≡ Some calls → RunsFromDisks shape folder old now nodes → ((n p : ℕ) → is_up nodes n p ≡ false) → (has_torn now ≡ true → tells → ∥ DiskFailed faults ∥₁)
      → PacksFromDisks shape folder old now nodes → Leaves bays_tell tells content size faults home shape folder old nodes.bays calls
  leaves_of shape folder old nodes calls now same runs shut torn packs =
      let e : now ≡ calls = cc in
      subst (λ l. Leaves bays_tell tells content size faults home shape folder old nodes.bays l) e (
        (λ opening opens. home_holds shape folder _ nodes shut (runs opening (λ t. opens.2) opens.0 opens.1).holds),
        torn,
        (λ opening first opens laid. (packs opening first (λ t. opens.2) (λ t. laid) opens.0 opens.1).packed),
      )

-- Nodes that were never opened have their bays' disks at home or out as they were, and so have nodes that were closed.
pub all_home : {B D : Type 0} (out : B → Out) (old new : NodesState B D) → old ≡ never_opened old.bays → ((n p : ℕ) → is_up new n p ≡ false) → ((before : Out) → OnlyOwnOut out before old → OnlyOwnOut out before new) → (n p : ℕ) → out new.bays n p ≡ out old.bays n p
all_home out old new fresh shut own n p =
    let closed : (m q : ℕ) → is_up old m q ≡ false = λ m q. ap (λ s. is_up s m q) fresh in
    let before : OnlyOwnOut out (out old.bays) old = λ m q. subst (λ b. IsOutAs b old.folder (out old.bays m q) (out old.bays m q)) (sym (closed m q)) refl in
    subst (λ b. IsOutAs b new.folder (out old.bays n p) (out new.bays n p)) (shut n p) (own (out old.bays) before n p)
