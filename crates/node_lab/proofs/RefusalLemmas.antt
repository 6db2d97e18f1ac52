-- A place that was opened once isn't refused.
use Rattle.std.proofs.Common.{◌≡◌, ℕ, ◌==◌, ◌&&◌, Bool, true, false, List, [], Option, Some, None, sym, ◌∙◌, subst}
use Rattle.disk_core.specs.Content.{Content}
use Rattle.disk_core.specs.Homes.{Home, Out}
use Rattle.node_core.specs.Ports.{port_in}
use Rattle.log_manifest.specs.declared.manifest.LogSettings.{LogSettings}
use Rattle.replica_core.specs.State.{ReplicaState}
use Rattle.world_model.specs.declared.order.Refusal.{Refusal}
use Rattle.world_model.specs.declared.order.What.{What}
use Rattle.world_model.specs.declared.shape.Shape.{Shape}
use Rattle.node_lab.specs.declared.state.NodeState.{NodeState}
use Rattle.node_lab.specs.Replicas.{found, settings_of}
use Rattle.node_lab.specs.Nodes.{HoldsSome, IsOpen, has_replica, is_of_node, ports_at}
use Rattle.node_lab.specs.Refusals.{IsFirst}
use Rattle.node_lab.specs.Slots.{IsCause}
use Rattle.node_lab.proofs.FreshLemmas.{new_stands}
use Rattle.part_log.proofs.Damage.{names_its_own, undamaged}

module _ {D : Type 0} (tells : Type 0) (content : D → Content) (size : D → ℕ) (settings : LogSettings) where
  pub never_refused : (home : Option D) (what : What) → tells → HoldsSome content size settings None home → IsCause tells content size settings home what → ⊥
  never_refused None (What.Damaged at) t some cause = undamaged settings (found content settings None) [] 0 at (new_stands settings) (cause t)
  never_refused (Some disk) (What.Damaged at) t some cause = let one = some.holds (content disk).seen (content disk).sees in undamaged settings (content disk).seen one.stands.records one.end at one.stands.stands (cause t)
  never_refused None What.OtherShape t some cause = let names = cause t in names_its_own settings names.0 (found content settings None) [] 0 (new_stands settings) names.1
  never_refused (Some disk) What.OtherShape t some cause = let names = cause t in let one = some.holds (content disk).seen (content disk).sees in names_its_own settings names.0 (content disk).seen one.stands.records one.end one.stands.stands names.1
  never_refused home (What.OtherSize bytes) t some cause = cause.differs (sym cause.bytes ∙ some.home_size cause.disk cause.at_home)

both_true : (a b : Bool) → (a && b) ≡ true → b ≡ true
both_true true b is = is
both_true false b is = absurd (cc is)

-- no place of a node that was open before is refused
pub open_never : {B D : Type 0} (bays_tell tells : Type 0) (content : D → Content) (size : D → ℕ) (home : B → Home D) (out : B → Out) (shape : Shape) (folder : List ℕ) (bays : B) (nodes : List (NodeState (ReplicaState D))) (node : ℕ) (refusal : Refusal) → tells
    → IsOpen bays_tell tells content size home out shape folder bays nodes → ((p : ℕ) → port_in (ports_at nodes node) p ≡ None) → refusal.node ≡ node
    → IsFirst tells content size (is_of_node shape node) (settings_of shape) (home bays folder) refusal → ⊥
open_never {B} {D} bays_tell tells content size home out shape folder bays nodes node refusal t it stopped same first =
    let due = both_true (refusal.node == node) (has_replica shape refusal.node refusal.partition) first.due_there in
    let none : port_in (ports_at nodes refusal.node) refusal.partition ≡ None = subst (λ (n : ℕ). port_in (ports_at nodes n) refusal.partition ≡ None) (sym same) (stopped refusal.partition) in
    never_refused tells content size (settings_of shape) (home bays folder refusal.node refusal.partition) refusal.what t
    (subst (λ (s : Option (ReplicaState D)). HoldsSome content size (settings_of shape) s (home bays folder refusal.node refusal.partition)) none (it.places t refusal.node refusal.partition due)) first.cause
