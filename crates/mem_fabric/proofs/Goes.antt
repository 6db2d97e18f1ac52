-- What calls make of the nodes and of what was told.
use Rattle.std.proofs.Common.{◌≡◌, ◌⊎◌, ℕ, ◌==◌, Bool, true, false, ◌&&◌, ◌||◌, not, cond, List, [], ◌∷◌, ◌++◌, Option, Some, None, refl, sym, ap, ◌∙◌, subst, inl, inr}
use Rattle.std.specs.Option.{is_some}
use Rattle.std.specs.Prelude.{filter, ◌≢◌, IsSome}
use Rattle.cell_model.specs.declared.ask.Ask.{Ask}
use Rattle.cell_model.specs.declared.ask.Reply.{Reply}
use Rattle.cell_model.specs.Asks.{Answers, CanAnswer, IsRefusal, id_of}
use Rattle.cell_model.specs.Cells.{join}
use Rattle.cell_model.specs.Pages.{PagesCells}
use Rattle.disk_core.specs.Content.{Content}
use Rattle.disk_core.specs.Homes.{Home, Out}
use Rattle.lab_nodes.specs.Holding.{settings_of}
use Rattle.lab_nodes.specs.Layouts.{HaveLayouts, HomeHasLayouts, Layouts, asked_layouts}
use Rattle.lab_nodes.specs.Nodes.{Holds, HomeHolds, IsFor, IsOutAs, NodesState, OnlyOwnOut, asked_cells, has_replica, is_up, never_opened, stands}
use Rattle.lab_nodes.specs.Spots.{DiskFailed}
use Rattle.mem_fabric.specs.Going.{AreNodesOf, GoesOn, HasTornBy, IsStopped, RunsAgain, SameNodes}
use Rattle.mem_fabric.specs.GoingLaws.{bays_stay, packing_stays}
use Rattle.mem_fabric.specs.Network.{MayAnswer, is_fault, run_step}
use Rattle.mem_fabric.specs.Packing.{IsCalledPacked, IsPackedAt, KeepsPacking, PacksFrom, PacksTo, called_layouts, layouts_after}
use Rattle.mem_fabric.specs.Past.{calls_of}
use Rattle.mem_fabric.specs.Runs.{LeadsTo, RunsFrom}
use Rattle.mem_fabric.specs.Sound.{State, KeepsState, fresh_state, is_among, network_of, told_world}
use Rattle.mem_fabric.specs.Torn.{has_torn}
use Rattle.mem_fabric.proofs.Sounds.{fault_is, no_fault_is}
use Rattle.mem_fabric.proofs.Stops.{among_more, among_less}
use Rattle.mem_fabric.proofs.Worlds.{apart, same_cells, none_in_doubt}
use Rattle.replica_core.specs.State.{IsPacked}
use Rattle.world_model.specs.declared.shape.Shape.{Shape}
use Rattle.world_model.specs.declared.step.Called.{Called}
use Rattle.world_model.specs.declared.step.Event.{Event}
use Rattle.world_model.specs.declared.step.Step.{Step}
use Rattle.world_model.specs.Fabric.{KeepsRun}
use Rattle.world_model.specs.Lists.{numbered}
use Rattle.world_model.specs.Record.{Record, Took}
use Rattle.world_model.specs.Told.{told}
use Rattle.world_model.specs.World.{Call, Cells, nothing_held, World, Change, Request, MayReply, MayRun, after, call_at, call_of, arriving_call, world}
use Rattle.world_model.specs.declared.step.Did.{Did}

-- ---- which nodes are up

still_up : (a b : Bool) → ((a && not b) && true) ≡ (a && not b)
still_up true true = refl
still_up true false = refl
still_up false b = refl

pub nodes_stay : {B D : Type 0} (s s' : State) (nodes : NodesState B D) → SameNodes s s' → AreNodesOf s nodes → AreNodesOf s' nodes
nodes_stay s s' nodes same of = record {
  shape = of.shape ∙ sym same.0;
  up = λ n p. of.up n p ∙ ap (λ o. stands o n p && not (is_among s.stopped n)) (sym same.0) ∙ ap (λ l. stands s'.shape n p && not (is_among l n)) (sym same.1);
}

-- a node stopped
without : (a among here : Bool) → ((a && not among) && not here) ≡ (a && not (here || among))
without true true true = refl
without true true false = refl
without true false true = refl
without true false false = refl
without false among here = refl

nodes_stop : {B D : Type 0} (s s' : State) (nodes nodes' : NodesState B D) (node : ℕ) → IsStopped s node s' → nodes'.shape ≡ nodes.shape → ((n p : ℕ) → is_up nodes' n p ≡ (is_up nodes n p && not (n == node)))
    → AreNodesOf s nodes → AreNodesOf s' nodes'
nodes_stop s s' nodes nodes' node stopped named up of = record {
  shape = named ∙ of.shape ∙ sym stopped.0;
  up = λ n p. up n p ∙ ap (λ b. b && not (n == node)) (of.up n p) ∙ without (stands s.shape n p) (is_among s.stopped n) (n == node)
      ∙ ap (λ b. stands s.shape n p && not b) (sym (among_more s.stopped node n))
      ∙ ap (λ o. stands o n p && not (is_among (s.stopped ++ node ∷ []) n)) (sym stopped.0) ∙ ap (λ l. stands s'.shape n p && not (is_among l n)) (sym stopped.1);
}

-- a node runs again
within : (a among here : Bool) → ((a && not among) || (here && a)) ≡ (a && not (not here && among))
within true true true = refl
within true true false = refl
within true false true = refl
within true false false = refl
within false among true = refl
within false among false = refl

nodes_restart : {B D : Type 0} (s s' : State) (nodes nodes' : NodesState B D) (node : ℕ) → RunsAgain s node s' → nodes'.shape ≡ nodes.shape → ((n p : ℕ) → is_up nodes' n p ≡ (is_up nodes n p || ((n == node) && stands nodes.shape n p)))
    → AreNodesOf s nodes → AreNodesOf s' nodes'
nodes_restart s s' nodes nodes' node again named up of = record {
  shape = named ∙ of.shape ∙ sym again.0;
  up = λ n p. up n p ∙ ap (λ b. b || ((n == node) && stands nodes.shape n p)) (of.up n p) ∙ ap (λ o. (stands s.shape n p && not (is_among s.stopped n)) || ((n == node) && stands o n p)) of.shape
      ∙ within (stands s.shape n p) (is_among s.stopped n) (n == node)
      ∙ ap (λ b. stands s.shape n p && not b) (sym (among_less s.stopped node n))
      ∙ ap (λ o. stands o n p && not (is_among (filter (λ other. not (other == node)) s.stopped) n)) (sym again.0) ∙ ap (λ l. stands s'.shape n p && not (is_among l n)) (sym again.1);
}

-- a stopped node has no replica that is open
pub down : {B D : Type 0} (s : State) (nodes : NodesState B D) (node : ℕ) → AreNodesOf s nodes → is_among s.stopped node ≡ true → (p : ℕ) → is_up nodes node p ≡ false
down s nodes node of stopped p = of.up node p ∙ ap (λ b. stands s.shape node p && not b) stopped ∙ never (stands s.shape node p)
  where
    never : (b : Bool) → (b && false) ≡ false
    never true = refl
    never false = refl

-- ---- calls that ask no replica

-- what was told stays
pub keeps_itself : (s : State) → KeepsState s s
keeps_itself s = λ opening. ((λ r. r), refl, refl, λ shape first. ((λ p. p), refl))

module _ {B D : Type 0} (bays_tell disks_tell : Type 0) (content : D → Content) (faults : D → ℕ) (home : B → Home D) (out : B → Out) (same : B → B → Type 0) where
  abbrev Goes : State → NodesState B D → State → NodesState B D → Type 0
  Goes s nodes s' nodes' = GoesOn bays_tell disks_tell content faults home out same s nodes s' nodes'

  abbrev KeepsHeld : NodesState B D → NodesState B D → Type 0
  KeepsHeld nodes nodes' = disks_tell → (shape : Shape) (folder : List ℕ) (cells : Cells) → Holds content home shape folder cells nodes → Holds content home shape folder cells nodes'

  abbrev KeepsLaid : NodesState B D → NodesState B D → Type 0
  KeepsLaid nodes nodes' = disks_tell → (shape : Shape) (folder : List ℕ) (layouts : Layouts) → HaveLayouts content home shape folder layouts nodes → HaveLayouts content home shape folder layouts nodes'

  pub run_at : (s s' : State) (nodes nodes' : NodesState B D) (shape : Shape) (folder : List ℕ) → KeepsState s s' → (disks_tell → (cells : Cells) → Holds content home shape folder cells nodes → Holds content home shape folder cells nodes')
      → KeepsRun (RunsFrom disks_tell content home (calls_of s.past) nodes shape folder) (RunsFrom disks_tell content home (calls_of s'.past) nodes' shape folder)
  run_at s s' nodes nodes' shape folder keeps held = λ opening leads t calm.
      let by = keeps opening in
      let l = leads t (sym by.2 ∙ calm) in
      record {
        run = by.0 l.run;
        holds = subst (λ (c : Cells). Holds content home shape folder c nodes') (sym by.1) (held t (world opening (told (calls_of s.past))).cells l.holds);
      }

  pub run_on : (s s' : State) (nodes nodes' : NodesState B D) → KeepsState s s' → KeepsHeld nodes nodes'
      → (shape : Shape) (folder : List ℕ) → KeepsRun (RunsFrom disks_tell content home (calls_of s.past) nodes shape folder) (RunsFrom disks_tell content home (calls_of s'.past) nodes' shape folder)
  run_on s s' nodes nodes' keeps held shape folder = run_at s s' nodes nodes' shape folder keeps (λ t. held t shape folder)

  pub packs_at : (s s' : State) (nodes nodes' : NodesState B D) (shape : Shape) (folder : List ℕ) → KeepsState s s' → (disks_tell → (cells : Cells) → Holds content home shape folder cells nodes → Holds content home shape folder cells nodes')
      → (disks_tell → (layouts : Layouts) → HaveLayouts content home shape folder layouts nodes → HaveLayouts content home shape folder layouts nodes')
      → (opening : Cells) (first : Layouts) → PacksFrom disks_tell content home (calls_of s.past) nodes shape folder opening first → PacksFrom disks_tell content home (calls_of s'.past) nodes' shape folder opening first
  packs_at s s' nodes nodes' shape folder keeps held laid opening first packs = λ t calm.
      let by = keeps opening in
      let p = packs t (sym by.2 ∙ calm) in
      let stays = by.3 shape first in
      record {
        leads = run_at s s' nodes nodes' shape folder keeps held opening (λ _ _. p.leads) t calm;
        packed = stays.0 p.packed;
        layouts = subst (λ (l : Layouts). HaveLayouts content home shape folder l nodes') (sym stays.1) (laid t (layouts_after (settings_of shape) opening first (told (calls_of s.past))) p.layouts);
      }

  pub packing_by : (s s' : State) (nodes nodes' : NodesState B D) → KeepsState s s' → nodes'.shape ≡ nodes.shape → KeepsHeld nodes nodes' → KeepsLaid nodes nodes' → KeepsPacking disks_tell content home (calls_of s.past) nodes (calls_of s'.past) nodes'
  packing_by s s' nodes nodes' keeps named held laid = λ standing.
      (ap is_some named ∙ standing, λ shape folder. packs_at s s' nodes nodes' shape folder keeps (λ t. held t shape folder) (λ t. laid t shape folder))

  pub packing_kept : (s s' : State) (nodes : NodesState B D) → KeepsState s s' → KeepsPacking disks_tell content home (calls_of s.past) nodes (calls_of s'.past) nodes
  packing_kept s s' nodes keeps = packing_by s s' nodes nodes keeps refl (λ t shape folder cells h. h) (λ t shape folder layouts h. h)

  torn_on : (s s' : State) → KeepsState s s' → HasTornBy disks_tell faults s → HasTornBy disks_tell faults s'
  torn_on s s' keeps before = λ e. before (sym (keeps nothing_held).2 ∙ e)

  -- nothing was done
  pub goes_nowhere : (s : State) (nodes : NodesState B D) → same nodes.bays nodes.bays → AreNodesOf s nodes → Goes s nodes s nodes
  goes_nowhere s nodes e of = record {
    of = of;
    run = λ shape folder opening r. r;
    packing = packing_stays disks_tell content home (calls_of s.past) nodes;
    bays = bays_stay bays_tell out same nodes e;
    torn = λ t. t;
  }

  -- the nodes stay
  pub goes_by : (s s' : State) (nodes : NodesState B D) → same nodes.bays nodes.bays → KeepsState s s' → SameNodes s s' → AreNodesOf s nodes → Goes s nodes s' nodes
  goes_by s s' nodes e keeps stays of = record {
    of = nodes_stay s s' nodes stays of;
    run = run_on s s' nodes nodes keeps (λ t shape folder cells h. h);
    packing = packing_kept s s' nodes keeps;
    bays = bays_stay bays_tell out same nodes e;
    torn = torn_on s s' keeps;
  }

  -- the nodes are others that hold the same
  goes_with : (s s' : State) (nodes nodes' : NodesState B D) → KeepsState s s' → AreNodesOf s' nodes' → nodes'.shape ≡ nodes.shape → KeepsHeld nodes nodes' → KeepsLaid nodes nodes' → same nodes.bays nodes'.bays
      → (bays_tell → (before : Out) → OnlyOwnOut out before nodes → OnlyOwnOut out before nodes') → Goes s nodes s' nodes'
  goes_with s s' nodes nodes' keeps of named held laid e own = record {
    of = of;
    run = run_on s s' nodes nodes' keeps held;
    packing = packing_by s s' nodes nodes' keeps named held laid;
    bays = record { same_bays = e; own = own };
    torn = torn_on s s' keeps;
  }

  -- the same nodes, tried in vain
  pub goes_in_vain : (s s' : State) (nodes nodes' : NodesState B D) → KeepsState s s' → SameNodes s s' → AreNodesOf s nodes → nodes'.shape ≡ nodes.shape → ((n p : ℕ) → is_up nodes' n p ≡ is_up nodes n p) → KeepsHeld nodes nodes' → KeepsLaid nodes nodes' → same nodes.bays nodes'.bays
      → (bays_tell → (before : Out) → OnlyOwnOut out before nodes → OnlyOwnOut out before nodes') → Goes s nodes s' nodes'
  goes_in_vain s s' nodes nodes' keeps stays of named up held laid e own =
      let of' = nodes_stay s s' nodes stays of in
      goes_with s s' nodes nodes' keeps (record { shape = named ∙ of'.shape; up = λ n p. up n p ∙ of'.up n p }) named held laid e own

  pub goes_stopped : (s s' : State) (nodes nodes' : NodesState B D) (node : ℕ) → KeepsState s s' → IsStopped s node s' → AreNodesOf s nodes → nodes'.shape ≡ nodes.shape → ((n p : ℕ) → is_up nodes' n p ≡ (is_up nodes n p && not (n == node))) → KeepsHeld nodes nodes' → KeepsLaid nodes nodes' → same nodes.bays nodes'.bays
      → (bays_tell → (before : Out) → OnlyOwnOut out before nodes → OnlyOwnOut out before nodes') → Goes s nodes s' nodes'
  goes_stopped s s' nodes nodes' node keeps stopped of named up held laid e own = goes_with s s' nodes nodes' keeps (nodes_stop s s' nodes nodes' node stopped named up of) named held laid e own

  pub goes_again : (s s' : State) (nodes nodes' : NodesState B D) (node : ℕ) → KeepsState s s' → RunsAgain s node s' → AreNodesOf s nodes → nodes'.shape ≡ nodes.shape → ((n p : ℕ) → is_up nodes' n p ≡ (is_up nodes n p || ((n == node) && stands nodes.shape n p))) → KeepsHeld nodes nodes' → KeepsLaid nodes nodes' → same nodes.bays nodes'.bays
      → (bays_tell → (before : Out) → OnlyOwnOut out before nodes → OnlyOwnOut out before nodes') → Goes s nodes s' nodes'
  goes_again s s' nodes nodes' node keeps again of named up held laid e own = goes_with s s' nodes nodes' keeps (nodes_restart s s' nodes nodes' node again named up of) named held laid e own

-- ---- an opening

module _ {B D : Type 0} (disks_tell : Type 0) (content : D → Content) (home : B → Home D) where
  -- what was never opened holds what its disks at home stand for
  pub fresh_runs : (s : State) (nodes : NodesState B D) (bays : B) (shape : Shape) (folder : List ℕ) (opening : Cells) → s ≡ fresh_state → nodes ≡ never_opened bays → (disks_tell → HomeHolds content home shape folder bays opening)
      → RunsFrom disks_tell content home (calls_of s.past) nodes shape folder opening
  fresh_runs s nodes bays shape folder opening fresh closed held = λ t calm.
      subst (λ (x : State). LeadsTo disks_tell content home shape folder opening (calls_of x.past) nodes) (sym fresh)
      (subst (λ (x : NodesState B D). LeadsTo disks_tell content home shape folder opening [] x) (sym closed) (record { run = tt; holds = record { named = tt; places = held t } }))

  -- and is laid out as they are
  pub fresh_packs : (nodes : NodesState B D) (bays : B) (shape : Shape) (folder : List ℕ) (opening : Cells) (first : Layouts) → nodes ≡ never_opened bays → (disks_tell → HomeHolds content home shape folder bays opening) → (disks_tell → HomeHasLayouts content home shape folder bays first)
      → PacksFrom disks_tell content home [] nodes shape folder opening first
  fresh_packs nodes bays shape folder opening first closed held laid = λ t calm.
      subst (λ (x : NodesState B D). PacksTo disks_tell content home shape folder opening first [] x) (sym closed) (record {
        leads = record { run = tt; holds = record { named = tt; places = held t } };
        packed = tt;
        layouts = record { named = tt; places = laid t };
      })

  -- nothing is said of how a first opening packs
  pub packing_fresh : (nodes nodes' : NodesState B D) (calls calls' : List Called) → nodes ≡ never_opened nodes.bays → KeepsPacking disks_tell content home calls nodes calls' nodes'
  packing_fresh nodes nodes' calls calls' closed = λ standing. absurd (let none : nodes.shape ≡ None = ap (λ (x : NodesState B D). x.shape) closed in cc)

  -- where no replica was opened, the disks at home stand for what they did
  pub home_stays : (nodes nodes' : NodesState B D) (shape : Shape) (folder : List ℕ) → nodes ≡ never_opened nodes.bays → nodes' ≡ never_opened nodes'.bays
      → (disks_tell → (cells : Cells) → Holds content home shape folder cells nodes → Holds content home shape folder cells nodes')
      → disks_tell → (cells : Cells) → HomeHolds content home shape folder nodes.bays cells → HomeHolds content home shape folder nodes'.bays cells
  home_stays nodes nodes' shape folder closed closed' keeps t cells held =
      let before : Holds content home shape folder cells nodes = subst (λ (x : NodesState B D). Holds content home shape folder cells x) (sym closed) (record { named = tt; places = held }) in
      let after_it : Holds content home shape folder cells (never_opened nodes'.bays) = subst (λ (x : NodesState B D). Holds content home shape folder cells x) closed' (keeps t cells before) in
      after_it.places

-- ---- a replica is asked

and_true : (b : Bool) → (b && true) ≡ b
and_true true = refl
and_true false = refl

-- a call that ran a request leaves nothing in doubt just where the reply is no fault
calm_run : (send : ℕ) (reply : Reply) (before : List Called) → has_torn (record { did = Did.Delivered Event.Quiet; steps = run_step send reply ∷ [] } ∷ before) ≡ false → (is_fault reply ≡ false) × (has_torn before ≡ false)
calm_run send reply before calm = go (is_fault reply) refl calm
  where
    go : (b : Bool) → is_fault reply ≡ b → has_torn (record { did = Did.Delivered Event.Quiet; steps = cond b (Step.Torn send) (Step.Exec send reply) ∷ [] } ∷ before) ≡ false → (is_fault reply ≡ false) × (has_torn before ≡ false)
    go true e calm = absurd cc
    go false e calm = (e, calm)

torn_run : (send : ℕ) (reply : Reply) (before : List Called) → has_torn (record { did = Did.Delivered Event.Quiet; steps = run_step send reply ∷ [] } ∷ before) ≡ true → (is_fault reply ≡ true) ⊎ (has_torn before ≡ true)
torn_run send reply before torn = go (is_fault reply) refl torn
  where
    go : (b : Bool) → is_fault reply ≡ b → has_torn (record { did = Did.Delivered Event.Quiet; steps = cond b (Step.Torn send) (Step.Exec send reply) ∷ [] } ∷ before) ≡ true → (is_fault reply ≡ true) ⊎ (has_torn before ≡ true)
    go true e torn = inl e
    go false e torn = inr torn

-- nodes that are open are so for one shape
open_for : (opened : Option Shape) (shape : Shape) (folder other : List ℕ) → IsSome opened → IsFor shape folder opened other → opened ≡ Some shape
open_for None shape folder other standing named = absurd cc
open_for (Some found) shape folder other standing named = ap (λ s. Some s) named.0

-- what the request of a number asks doesn't depend on what was held
called_in : (opening : Cells) (items : Record) (send : ℕ) (request : Request) (call : Call) → numbered (world nothing_held items).sent send ≡ Some request → call_of (Some request) ≡ Some call → call_at (world opening items) send ≡ Some call
called_in opening items send request call is called = ap (λ (v : World). call_of (numbered v.sent send)) (apart opening nothing_held items) ∙ ap call_of is ∙ called

-- a replica of a node that isn't stopped is up where the shape has one
up_as : {B D : Type 0} (s : State) (nodes : NodesState B D) (node partition : ℕ) → AreNodesOf s nodes → is_among s.stopped node ≡ false → is_up nodes node partition ≡ stands s.shape node partition
up_as s nodes node partition of runs = of.up node partition ∙ ap (λ b. stands s.shape node partition && not b) runs ∙ and_true (stands s.shape node partition)

module _ {B D : Type 0} (bays_tell disks_tell : Type 0) (content : D → Content) (faults : D → ℕ) (home : B → Home D) (out : B → Out) (same : B → B → Type 0) where
  -- what nodes make of an ask
  pub record AskedSo (nodes : NodesState B D) (node partition : ℕ) (ask : Ask) (reply : Reply) (nodes' : NodesState B D) : Type 0 where
    pub none : is_up nodes node partition ≡ false → reply ≡ Reply.NoPartition
    pub some : is_up nodes node partition ≡ true → CanAnswer ask reply × (reply ≢ Reply.NoPartition)
    pub up : (n p : ℕ) → is_up nodes' n p ≡ is_up nodes n p
    pub answered : disks_tell → (shape : Shape) (folder : List ℕ) (cells : Cells) → Holds content home shape folder cells nodes → reply ≢ Reply.Fault → is_up nodes node partition ≡ true → Answers (cells node partition (id_of ask)) ask reply ⊎ IsRefusal ask reply
    pub pages : disks_tell → (shape : Shape) (folder : List ℕ) (cells : Cells) → Holds content home shape folder cells nodes → PagesCells (cells node partition) reply
    pub holds : disks_tell → (shape : Shape) (folder : List ℕ) (cells : Cells) → Holds content home shape folder cells nodes → reply ≢ Reply.Fault → Holds content home shape folder (asked_cells cells node partition ask reply) nodes'
    pub packed : disks_tell → (shape : Shape) (folder : List ℕ) (cells : Cells) (layouts : Layouts) → Holds content home shape folder cells nodes → HaveLayouts content home shape folder layouts nodes → reply ≢ Reply.Fault → is_up nodes node partition ≡ true → IsPacked (settings_of shape) (layouts node partition) (cells node partition (id_of ask)) ask reply
    pub layouts : disks_tell → (shape : Shape) (folder : List ℕ) (cells : Cells) (layouts : Layouts) → Holds content home shape folder cells nodes → HaveLayouts content home shape folder layouts nodes → reply ≢ Reply.Fault → HaveLayouts content home shape folder (asked_layouts (settings_of shape) cells layouts node partition ask reply) nodes'
    pub fault : reply ≡ Reply.Fault → disks_tell → DiskFailed faults
    pub named : (nodes'.shape ≡ nodes.shape) × (nodes'.folder ≡ nodes.folder)
    pub bays : nodes'.bays ≡ nodes.bays

  pub may_answer : (s : State) (nodes nodes' : NodesState B D) (call : Call) (reply : Reply) → AreNodesOf s nodes → is_among s.stopped call.node ≡ false → AskedSo nodes call.node call.partition call.ask reply nodes' → MayAnswer (network_of s) call reply
  may_answer s nodes nodes' call reply of runs a =
      let up : is_up nodes call.node call.partition ≡ stands s.shape call.node call.partition = up_as s nodes call.node call.partition of runs in
      record { none = λ e. a.none (up ∙ e); some = λ e. a.some (up ∙ e) }

  own_asked : (nodes nodes' : NodesState B D) (node partition : ℕ) (ask : Ask) (reply : Reply) → AskedSo nodes node partition ask reply nodes' → (before : Out) → OnlyOwnOut out before nodes → OnlyOwnOut out before nodes'
  own_asked nodes nodes' node partition ask reply a before own = λ n p.
      subst (λ u. IsOutAs u nodes'.folder (before n p) (out nodes'.bays n p)) (sym (a.up n p))
      (subst (λ f. IsOutAs (is_up nodes n p) f (before n p) (out nodes'.bays n p)) (sym a.named.1)
      (subst (λ (b : B). IsOutAs (is_up nodes n p) nodes.folder (before n p) (out b n p)) (sym a.bays) (own n p)))

  -- an ask that is answered leads from what the nodes held to what they hold
  leads_asked : (before : List Called) (nodes nodes' : NodesState B D) (send : ℕ) (request : Request) (call : Call) (reply : Reply)
      → numbered (world nothing_held (told before)).sent send ≡ Some request → call_of (Some request) ≡ Some call → (world nothing_held (told before)).stopped call.node ≡ false
      → AskedSo nodes call.node call.partition call.ask reply nodes' → is_fault reply ≡ false → has_torn before ≡ false → disks_tell
      → (shape : Shape) (folder : List ℕ) (opening : Cells) → LeadsTo disks_tell content home shape folder opening before nodes
      → LeadsTo disks_tell content home shape folder opening (record { did = Did.Delivered Event.Quiet; steps = Step.Exec send reply ∷ [] } ∷ before) nodes'
  leads_asked before nodes nodes' send request call reply is called runs a calm sure t shape folder opening l =
      let w : World = world opening (told before) in
      let same_but : w ≡ record (world nothing_held (told before)) { cells = w.cells } = apart opening nothing_held (told before) in
      let called_at : call_at w send ≡ Some call = called_in opening (told before) send request call is called in
      let not_fault : reply ≢ Reply.Fault = no_fault_is reply calm in
      let cells_are : (world opening (told (record { did = Did.Delivered Event.Quiet; steps = Step.Exec send reply ∷ [] } ∷ before))).cells ≡ asked_cells w.cells call.node call.partition call.ask reply =
      same_cells (after w (Took (Step.Exec send reply))).cells ∙ ap (λ (o : Option Call). λ n p id. join (w.cells n p id) (arriving_call o reply n p id)) called_at in
      let says : MayReply (w.doubts call.node call.partition) (w.cells call.node call.partition (id_of call.ask)) call.ask reply =
      subst (λ (d : Option Change). MayReply d (w.cells call.node call.partition (id_of call.ask)) call.ask reply) (sym (none_in_doubt opening before sure call.node call.partition))
      (reply_by (is_up nodes call.node call.partition) refl w.cells l.holds not_fault) in
      let may : MayRun w send call reply = record { sent = called_at; running = ap (λ (v : World). v.stopped call.node) same_but ∙ runs; says = says; pages = a.pages t shape folder w.cells l.holds } in
      record {
        run = ((l.run, (call, may)), tt);
        holds = subst (λ (c : Cells). Holds content home shape folder c nodes') (sym cells_are) (a.holds t shape folder w.cells l.holds not_fault);
      }
    where
      reply_by : (b : Bool) → is_up nodes call.node call.partition ≡ b → (cells : Cells) → Holds content home shape folder cells nodes → reply ≢ Reply.Fault → MayReply None (cells call.node call.partition (id_of call.ask)) call.ask reply
      reply_by false e cells holds not_fault = inr (inr (a.none e))
      reply_by true e cells holds not_fault = elim (a.answered t shape folder cells holds not_fault e) [
        | inl answers ↦ inl answers
        | inr refused ↦ inr (inl (refused, not_fault))
      ]

  -- and is full by the layout of its replica
  packs_asked : (before : List Called) (nodes nodes' : NodesState B D) (send : ℕ) (request : Request) (call : Call) (reply : Reply)
      → numbered (world nothing_held (told before)).sent send ≡ Some request → call_of (Some request) ≡ Some call → (world nothing_held (told before)).stopped call.node ≡ false
      → AskedSo nodes call.node call.partition call.ask reply nodes' → is_fault reply ≡ false → has_torn before ≡ false → disks_tell
      → (shape : Shape) (folder : List ℕ) (opening : Cells) (first : Layouts) → is_up nodes call.node call.partition ≡ has_replica shape call.node call.partition → PacksTo disks_tell content home shape folder opening first before nodes
      → PacksTo disks_tell content home shape folder opening first (record { did = Did.Delivered Event.Quiet; steps = Step.Exec send reply ∷ [] } ∷ before) nodes'
  packs_asked before nodes nodes' send request call reply is called runs a calm sure t shape folder opening first up p =
      let w : World = world opening (told before) in
      let layouts : Layouts = layouts_after (settings_of shape) opening first (told before) in
      let called_at : call_at w send ≡ Some call = called_in opening (told before) send request call is called in
      let not_fault : reply ≢ Reply.Fault = no_fault_is reply calm in
      let packed : IsPackedAt (has_replica shape call.node call.partition) (settings_of shape) w.cells layouts call reply =
      packed_at (has_replica shape call.node call.partition) up w.cells layouts p.leads.holds p.layouts not_fault in
      record {
        leads = leads_asked before nodes nodes' send request call reply is called runs a calm sure t shape folder opening p.leads;
        packed = ((p.packed, subst (λ (o : Option Call). IsCalledPacked shape w.cells layouts o reply) (sym called_at) packed), tt);
        layouts = subst (λ (o : Option Call). HaveLayouts content home shape folder (called_layouts (settings_of shape) w.cells layouts o reply) nodes') (sym called_at)
            (a.layouts t shape folder w.cells layouts p.leads.holds p.layouts not_fault);
      }
    where
      packed_at : (due : Bool) → is_up nodes call.node call.partition ≡ due → (cells : Cells) (layouts : Layouts) → Holds content home shape folder cells nodes → HaveLayouts content home shape folder layouts nodes → reply ≢ Reply.Fault → IsPackedAt due (settings_of shape) cells layouts call reply
      packed_at false e cells layouts holds laid not_fault = tt
      packed_at true e cells layouts holds laid not_fault = a.packed t shape folder cells layouts holds laid not_fault e

  pub goes_asked : (s s' : State) (nodes nodes' : NodesState B D) (send : ℕ) (request : Request) (call : Call) (reply : Reply) → same nodes.bays nodes.bays → AreNodesOf s nodes → SameNodes s s'
      → calls_of s'.past ≡ record { did = Did.Delivered Event.Quiet; steps = run_step send reply ∷ [] } ∷ calls_of s.past
      → numbered (told_world s.past).sent send ≡ Some request → call_of (Some request) ≡ Some call → (told_world s.past).stopped call.node ≡ false → is_among s.stopped call.node ≡ false
      → AskedSo nodes call.node call.partition call.ask reply nodes' → GoesOn bays_tell disks_tell content faults home out same s nodes s' nodes'
  goes_asked s s' nodes nodes' send request call reply e of stays told_is is called runs running a =
      let of' = nodes_stay s s' nodes stays of in
      record {
        of = record { shape = a.named.0 ∙ of'.shape; up = λ n p. a.up n p ∙ of'.up n p };
        run = λ shape folder opening leads t calm.
            let both = calm_run send reply (calls_of s.past) (ap has_torn (sym told_is) ∙ calm) in
            subst (λ (calls : List Called). LeadsTo disks_tell content home shape folder opening calls nodes') (sym told_is)
            (subst (λ (b : Bool). LeadsTo disks_tell content home shape folder opening (record { did = Did.Delivered Event.Quiet; steps = cond b (Step.Torn send) (Step.Exec send reply) ∷ [] } ∷ calls_of s.past) nodes') (sym both.0)
            (leads_asked (calls_of s.past) nodes nodes' send request call reply is called runs a both.0 both.1 t shape folder opening (leads t both.1)));
        packing = λ standing. (
          ap is_some a.named.0 ∙ standing,
          λ shape folder opening first packs t calm.
              let both = calm_run send reply (calls_of s.past) (ap has_torn (sym told_is) ∙ calm) in
              let p = packs t both.1 in
              let up : is_up nodes call.node call.partition ≡ has_replica shape call.node call.partition =
              up_as s nodes call.node call.partition of running ∙ ap (λ o. stands o call.node call.partition) (sym of.shape ∙ open_for nodes.shape shape folder nodes.folder standing p.leads.holds.named) in
              subst (λ (calls : List Called). PacksTo disks_tell content home shape folder opening first calls nodes') (sym told_is)
              (subst (λ (b : Bool). PacksTo disks_tell content home shape folder opening first (record { did = Did.Delivered Event.Quiet; steps = cond b (Step.Torn send) (Step.Exec send reply) ∷ [] } ∷ calls_of s.past) nodes') (sym both.0)
              (packs_asked (calls_of s.past) nodes nodes' send request call reply is called runs a both.0 both.1 t shape folder opening first up p)),
        );
        bays = record { same_bays = subst (λ (b : B). same nodes.bays b) (sym a.bays) e; own = λ t. own_asked nodes nodes' call.node call.partition call.ask reply a };
        torn = λ before torn t. elim (torn_run send reply (calls_of s.past) (ap has_torn (sym told_is) ∙ torn)) [
          | inl fault ↦ ∣ a.fault (fault_is reply fault) t ∣₁
          | inr earlier ↦ before earlier t
        ];
      }
