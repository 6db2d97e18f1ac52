-- How an ask reaches the replica of a node.
use Rattle.std.proofs.Common.{◌≡◌, ◌≢◌, ◌⊎◌, inl, inr, ⊎_elim, ℕ, zero, suc, ◌+◌, ◌<◌, ◌==◌, ◌&&◌, arith, Bool, true, false, cond, List, [], ◌∷◌, length, slice_set, Option, Some, None, refl, sym, ◌∙◌, ap, subst}
use Rattle.std.specs.List.{slice_get}
use Rattle.std.specs.Option.{is_some}
use Rattle.std.proofs.lemmas.Bool.{cases_eq}
use Rattle.cell_model.specs.declared.ask.Ask.{Ask}
use Rattle.cell_model.specs.declared.ask.Reply.{Reply}
use Rattle.cell_model.specs.declared.cell.Cell.{Cell}
use Rattle.cell_model.specs.Asks.{CanAnswer, id_of}
use Rattle.cell_model.specs.Cells.{join}
use Rattle.disk_core.specs.Content.{Content}
use Rattle.disk_core.specs.Homes.{Home, Out}
use Rattle.log_manifest.specs.declared.manifest.LogSettings.{LogSettings}
use Rattle.node_core.specs.Nodes.{FoundAsked, Node, NodeAsked}
use Rattle.node_core.specs.Ports.{port_in, with_port}
use Rattle.node_core.proofs.PortLemmas.{other_found}
use Rattle.node_lab.specs.declared.state.NodeState.{NodeState}
use Rattle.node_lab.specs.Replicas.{settings_of}
use Rattle.node_lab.specs.Nodes.{Holds, HoldsSome, IsFor, IsOpen, NodesState, asked_places, has_replica, is_up, ports_at, ports_of, replica_at}
use Rattle.node_lab.specs.Calls.{AsksNodes, AsksPorts, AsksReplica, FailedIn}
use Rattle.node_lab.specs.Places.{AnswersBy, HoldsAt, IsBlank, Place, Places, asked_place}
use Rattle.node_lab.proofs.AskLemmas.{absent_either, ask_answers, ask_holds, never_none}
use Rattle.part_log.specs.Log.{disk_size}
use Rattle.replica_core.specs.State.{IsAsked, ReplicaState}
use Rattle.replica_core.proofs.Maps.{join_absent}
use Rattle.world_model.specs.declared.shape.Shape.{Shape}
use Rattle.world_model.specs.World.{same_id}
use Rattle.world_model.proofs.CellLaws.{number_true, same_number}

-- the port that was set is found
found_set : {P : Type 0} (ports : List (ℕ × P)) (partition : ℕ) (port w : P) → port_in ports partition ≡ Some port → port_in (with_port ports partition w) partition ≡ Some w
found_set [] partition port w is = absurd (cc is)
found_set {P} (y ∷ ys) partition port w is = go (found_set ys partition port w) (y.0 == partition) refl is
  where
    go : (port_in ys partition ≡ Some port → port_in (with_port ys partition w) partition ≡ Some w) → (b : Bool) → (y.0 == partition) ≡ b → cond b (Some y.1) (port_in ys partition) ≡ Some port → port_in (with_port (y ∷ ys) partition w) partition ≡ Some w
    go rest true test h = rw (test, test) refl
    go rest false test h = rw (test, test) (rest h)

-- the state that was set is the node's
pub ports_set : {P : Type 0} (nodes : List (NodeState P)) (place : ℕ) (x : NodeState P) → place < length nodes → ports_of (slice_get (slice_set nodes place x) place) ≡ ports_of (Some x)
ports_set [] place x within = absurd (omega (arith, within))
ports_set (y ∷ ys) zero x within = refl
ports_set (y ∷ ys) (suc place) x within = ports_set ys place x (omega (arith, within))

pub ports_other : {P : Type 0} (nodes : List (NodeState P)) (place k : ℕ) (x : NodeState P) → k ≢ place → slice_get (slice_set nodes place x) k ≡ slice_get nodes k
ports_other [] place k x other = refl
ports_other (y ∷ ys) zero zero x other = absurd (other refl)
ports_other (y ∷ ys) zero (suc k) x other = refl
ports_other (y ∷ ys) (suc place) zero x other = refl
ports_other (y ∷ ys) (suc place) (suc k) x other = ports_other ys place k x (omega (arith, other))

module _ {D : Type 0} (tells : Type 0) (content : D → Content) (size faults : D → ℕ) (ask : Ask) (reply : Reply) where
  -- an ask of a node that runs
  pub node_asked : (asked : ReplicaState D → Ask → Reply → ReplicaState D → Type 0) → ((a b : ReplicaState D) → asked a ask reply b → IsAsked tells content size faults a ask reply b)
      → (old new : Node (ReplicaState D)) (partition : ℕ) → NodeAsked asked old partition ask reply new → AsksPorts tells content size faults old.ports partition ask reply new.ports
  node_asked asked own old new partition done = go (port_in old.ports partition) refl done
    where
      go : (found : Option (ReplicaState D)) → port_in old.ports partition ≡ found → FoundAsked asked found old partition ask reply new → AsksPorts tells content size faults old.ports partition ask reply new.ports
      go None is h = subst (λ (n : Node (ReplicaState D)). AsksPorts tells content size faults old.ports partition ask reply n.ports) (sym h.1) (record {
        here = subst (λ (o : Option (ReplicaState D)). AsksReplica tells content size faults o ask reply o) (sym is) (h.0, refl);
        others = λ p other. refl;
      })
      go (Some port) is h = subst (λ (n : Node (ReplicaState D)). AsksPorts tells content size faults old.ports partition ask reply n.ports) (sym h.2) (record {
        here = subst (λ (o : Option (ReplicaState D)). AsksReplica tells content size faults o ask reply (port_in (with_port old.ports partition h.0) partition)) (sym is)
            (subst (λ (o : Option (ReplicaState D)). AsksReplica tells content size faults (Some port) ask reply o) (sym (found_set old.ports partition port h.0 is)) (own port h.0 h.1));
        others = λ p other. other_found old.ports partition p h.0 other;
      })

  module _ {B : Type 0} (shape : Option Shape) (folder : List ℕ) (bays : B) (nodes : List (NodeState (ReplicaState D))) (node partition place : ℕ) (x : NodeState (ReplicaState D)) where
    abbrev at_first : NodesState B D
    at_first = record { shape = shape; folder = folder; bays = bays; nodes = nodes }

    abbrev at_last : NodesState B D
    at_last = record { shape = shape; folder = folder; bays = bays; nodes = slice_set nodes place x }

    -- an ask of the node in a place
    pub nodes_asked : node ≡ place + 1 → place < length nodes → AsksPorts tells content size faults (ports_of (slice_get nodes place)) partition ask reply (ports_of (Some x)) → AsksNodes tells content size faults at_first node partition ask reply at_last
    nodes_asked is within asked =
        let next : node ≡ suc place = omega (arith, is) in
        let set = ports_set nodes place x within in
        record {
          here = subst (λ (n : ℕ). AsksReplica tells content size faults (replica_at at_first n partition) ask reply (replica_at at_last n partition)) (sym next)
              (subst (λ (l : List (ℕ × ReplicaState D)). AsksReplica tells content size faults (port_in (ports_of (slice_get nodes place)) partition) ask reply (port_in l partition)) (sym set) asked.here);
          others = others next set asked;
          same_bays = refl;
          shape = refl;
          folder = refl;
        }
      where
        others : node ≡ suc place → ports_of (slice_get (slice_set nodes place x) place) ≡ ports_of (Some x) → AsksPorts tells content size faults (ports_of (slice_get nodes place)) partition ask reply (ports_of (Some x))
            → (n p : ℕ) → (n ≢ node) ⊎ (p ≢ partition) → replica_at at_last n p ≡ replica_at at_first n p
        others next set asked zero p apart = refl
        others next set asked (suc k) p apart = elim (cases_eq k place) [
          | inr other ↦ ap (λ (o : Option (NodeState (ReplicaState D))). port_in (ports_of o) p) (ports_other nodes place k x other)
          | inl same ↦ subst (λ (i : ℕ). port_in (ports_of (slice_get (slice_set nodes place x) i)) p ≡ port_in (ports_of (slice_get nodes i)) p) (sym same)
              (ap (λ (l : List (ℕ × ReplicaState D)). port_in l p) set
              ∙ asked.others p (⊎_elim (λ (other : suc k ≢ node). absurd (other (omega (arith, same, next)))) (λ (other : p ≢ partition). other) apart))
        ]

    -- a node that has no place wasn't asked
    pub nodes_unasked : reply ≡ Reply.NoPartition → ports_at nodes node ≡ [] → AsksNodes tells content size faults at_first node partition ask reply at_first
    nodes_unasked said none = record {
      here = subst (λ (l : List (ℕ × ReplicaState D)). AsksReplica tells content size faults (port_in l partition) ask reply (port_in l partition)) (sym none) (said, refl);
      others = λ n p apart. refl;
      same_bays = refl;
      shape = refl;
      folder = refl;
    }

  -- which places are open stays
  pub asks_up : (old new : Option (ReplicaState D)) → AsksReplica tells content size faults old ask reply new → is_some new ≡ is_some old
  asks_up None new asked = ap is_some asked.1
  asks_up (Some replica) None asked = absurd asked
  asks_up (Some replica) (Some after) asked = refl

  -- some cells are held on
  asks_some : (settings : LogSettings) (old new : Option (ReplicaState D)) (home : Option D) → AsksReplica tells content size faults old ask reply new → tells → HoldsSome content size settings old home → HoldsSome content size settings new home
  asks_some settings old new home asked t some =
      let place : Place = record { cells = some.cells; doubt = some.doubt; layout = None } in
      let held = ask_holds tells content size faults ask reply settings old new home place asked t (record { cells = some.holds; layout = tt }) in
      record {
        cells = (asked_place settings ask reply place).cells;
        doubt = (asked_place settings ask reply place).doubt;
        holds = held.cells;
        open_size = sized old new asked some.open_size;
        home_size = some.home_size;
      }
    where
      sized : (old new : Option (ReplicaState D)) → AsksReplica tells content size faults old ask reply new → ((replica : ReplicaState D) → old ≡ Some replica → size replica.log.disk ≡ disk_size settings)
          → (replica : ReplicaState D) → new ≡ Some replica → size replica.log.disk ≡ disk_size settings
      sized None new asked was replica is = absurd (let no : ◌≡◌ {A = Option (ReplicaState D)} None (Some replica) = sym asked.1 ∙ is in cc)
      sized (Some before) None asked was replica is = absurd asked
      sized (Some before) (Some after) asked was replica is =
          let same : after ≡ replica = cc is in
          subst (λ (r : ReplicaState D). size r.log.disk ≡ disk_size settings) same (asked.disk_size ∙ was before refl)

  -- the place of another node or partition
  same_or_apart : (n p node partition : ℕ) → ((n ≡ node) × (p ≡ partition)) ⊎ ((n ≢ node) ⊎ (p ≢ partition))
  same_or_apart n p node partition = elim (cases_eq n node) [
    | inr other ↦ inr (inl other)
    | inl one ↦ elim (cases_eq p partition) [
      | inl two ↦ inl (one, two)
      | inr other ↦ inr (inr other)
    ]
  ]

  -- which replicas are open stays
  pub asked_up : {B : Type 0} (old new : NodesState B D) (node partition : ℕ) → AsksNodes tells content size faults old node partition ask reply new → (n p : ℕ) → is_up new n p ≡ is_up old n p
  asked_up old new node partition asked n p = ⊎_elim
      (λ (same : (n ≡ node) × (p ≡ partition)).
      subst (λ (i : ℕ). is_up new i p ≡ is_up old i p) (sym same.0)
      (subst (λ (i : ℕ). is_up new node i ≡ is_up old node i) (sym same.1)
      (asks_up (replica_at old node partition) (replica_at new node partition) asked.here)))
      (λ (apart : (n ≢ node) ⊎ (p ≢ partition)). ap is_some (asked.others n p apart))
      (same_or_apart n p node partition)

  -- where none is open, that is said, and only there
  pub asked_none : (old new : Option (ReplicaState D)) → AsksReplica tells content size faults old ask reply new → is_some old ≡ false → reply ≡ Reply.NoPartition
  asked_none None new asked none = asked.0
  asked_none (Some replica) new asked none = absurd (cc none)

  pub asked_some : (old new : Option (ReplicaState D)) → AsksReplica tells content size faults old ask reply new → is_some old ≡ true → CanAnswer ask reply × (reply ≢ Reply.NoPartition)
  asked_some None new asked some = absurd (cc some)
  asked_some (Some replica) None asked some = absurd asked
  asked_some (Some replica) (Some after) asked some = (asked.kind, (λ none. never_none ask (subst (λ (r : Reply). CanAnswer ask r) none asked.kind)))

  -- nodes that are open still are
  pub open_asked : {B : Type 0} (bays_tell : Type 0) (home : B → Home D) (out : B → Out) (shape : Shape) (folder : List ℕ) (bays : B) (nodes new : List (NodeState (ReplicaState D))) (node partition : ℕ)
      → AsksNodes tells content size faults (record { shape = Some shape; folder = folder; bays = bays; nodes = nodes }) node partition ask reply (record { shape = Some shape; folder = folder; bays = bays; nodes = new })
      → length new ≡ length nodes → IsOpen bays_tell tells content size home out shape folder bays nodes → IsOpen bays_tell tells content size home out shape folder bays new
  open_asked {B} bays_tell home out shape folder bays nodes new node partition asked long it = record {
    ranges = it.ranges;
    long = long ∙ it.long;
    due = λ n p some. it.due n p (sym (asked_up (record { shape = Some shape; folder = folder; bays = bays; nodes = nodes }) (record { shape = Some shape; folder = folder; bays = bays; nodes = new }) node partition asked n p) ∙ some);
    outs = λ t n p some. it.outs t n p (sym (asked_up (record { shape = Some shape; folder = folder; bays = bays; nodes = nodes }) (record { shape = Some shape; folder = folder; bays = bays; nodes = new }) node partition asked n p) ∙ some);
    places = λ t n p due. ⊎_elim
        (λ (same : (n ≡ node) × (p ≡ partition)).
        let here = asks_some (settings_of shape) (port_in (ports_at nodes node) partition) (port_in (ports_at new node) partition) (home bays folder node partition) asked.here t in
        let was = it.places t n p due in
        subst (λ (i : ℕ). HoldsSome content size (settings_of shape) (port_in (ports_at new i) p) (home bays folder i p)) (sym same.0)
        (subst (λ (i : ℕ). HoldsSome content size (settings_of shape) (port_in (ports_at new node) i) (home bays folder node i)) (sym same.1)
        (here (subst (λ (i : ℕ). HoldsSome content size (settings_of shape) (port_in (ports_at nodes node) i) (home bays folder node i)) same.1
        (subst (λ (i : ℕ). HoldsSome content size (settings_of shape) (port_in (ports_at nodes i) p) (home bays folder i p)) same.0 was)))))
        (λ (apart : (n ≢ node) ⊎ (p ≢ partition)). subst (λ (s : Option (ReplicaState D)). HoldsSome content size (settings_of shape) s (home bays folder n p)) (sym (asked.others n p apart)) (it.places t n p due))
        (same_or_apart n p node partition);
  }

  module _ {B : Type 0} (home : B → Home D) (old new : NodesState B D) (node partition : ℕ) (asked : AsksNodes tells content size faults old node partition ask reply new) (t : tells) where
    module _ (shape : Shape) (folder : List ℕ) (places : Places) (holds : Holds content home shape folder places old) where
      abbrev settings : LogSettings
      settings = settings_of shape

      -- nothing landed in a place that the shape doesn't have
      still_blank : (place : Place) → reply ≡ Reply.NoPartition → IsBlank place → IsBlank (asked_place settings ask reply place)
      still_blank place said blank =
          subst (λ (r : Reply). IsBlank (asked_place settings ask r place)) (sym said)
          ((λ id. ap (λ (c : Cell). join (place.cells id) c) (absent_either (same_id id (id_of ask))) ∙ join_absent (place.cells id) ∙ blank.0 id), blank.1)

      no_replica : (o n : Option (ReplicaState D)) → o ≡ None → AsksReplica tells content size faults o ask reply n → (reply ≡ Reply.NoPartition) × (n ≡ None)
      no_replica None n is asked = asked
      no_replica (Some replica) n is asked = absurd (cc is)

      at_here : (due : Bool) → HoldsAt content due settings (replica_at old node partition) (home old.bays folder node partition) (places node partition)
          → HoldsAt content due settings (replica_at new node partition) (home old.bays folder node partition) (asked_place settings ask reply (places node partition))
      at_here true was = ask_holds tells content size faults ask reply settings (replica_at old node partition) (replica_at new node partition) (home old.bays folder node partition) (places node partition) asked.here t was
      at_here false was =
          let none = no_replica (replica_at old node partition) (replica_at new node partition) was.0 asked.here in
          (none.1, still_blank (places node partition) none.0 was.1)

      -- the place that is asked, and another one
      place_here : asked_places settings places node partition ask reply node partition ≡ asked_place settings ask reply (places node partition)
      place_here = ap (λ (b : Bool). cond b (asked_place settings ask reply (places node partition)) (places node partition)) both
        where
          both : ((node == node) && (partition == partition)) ≡ true
          both = ap (λ (b : Bool). b && (partition == partition)) (same_number node) ∙ same_number partition

      place_apart : (n p : ℕ) → (n ≢ node) ⊎ (p ≢ partition) → asked_places settings places node partition ask reply n p ≡ places n p
      place_apart n p apart = ap (λ (b : Bool). cond b (asked_place settings ask reply (places n p)) (places n p)) (go (n == node) refl (p == partition) refl)
        where
          go : (a : Bool) → (n == node) ≡ a → (b : Bool) → (p == partition) ≡ b → ((n == node) && (p == partition)) ≡ false
          go false one b two = ap (λ (a : Bool). a && (p == partition)) one
          go true one false two = ap (λ (a : Bool). a && (p == partition)) one ∙ two
          go true one true two = absurd (⊎_elim (λ (other : n ≢ node). other (number_true n node one)) (λ (other : p ≢ partition). other (number_true p partition two)) apart)

      each_place : (n p : ℕ) → HoldsAt content (has_replica shape n p) settings (replica_at new n p) (home old.bays folder n p) (asked_places settings places node partition ask reply n p)
      each_place n p = ⊎_elim
          (λ (same : (n ≡ node) × (p ≡ partition)).
          subst (λ (i : ℕ). HoldsAt content (has_replica shape i p) settings (replica_at new i p) (home old.bays folder i p) (asked_places settings places node partition ask reply i p)) (sym same.0)
          (subst (λ (i : ℕ). HoldsAt content (has_replica shape node i) settings (replica_at new node i) (home old.bays folder node i) (asked_places settings places node partition ask reply node i)) (sym same.1)
          (subst (λ (w : Place). HoldsAt content (has_replica shape node partition) settings (replica_at new node partition) (home old.bays folder node partition) w) (sym place_here)
          (at_here (has_replica shape node partition) (holds.each node partition)))))
          (λ (apart : (n ≢ node) ⊎ (p ≢ partition)).
          subst (λ (w : Place). HoldsAt content (has_replica shape n p) settings (replica_at new n p) (home old.bays folder n p) w) (sym (place_apart n p apart))
          (subst (λ (s : Option (ReplicaState D)). HoldsAt content (has_replica shape n p) settings s (home old.bays folder n p) (places n p)) (sym (asked.others n p apart)) (holds.each n p)))
          (same_or_apart n p node partition)

      -- all places hold what the ask comes to
      pub places_asked : Holds content home shape folder (asked_places settings places node partition ask reply) new
      places_asked = record {
        named = subst (λ (f : List ℕ). IsFor shape folder new.shape f) (sym asked.folder) (subst (λ (s : Option Shape). IsFor shape folder s old.folder) (sym asked.shape) holds.named);
        each = λ n p. subst (λ (b : B). HoldsAt content (has_replica shape n p) settings (replica_at new n p) (home b folder n p) (asked_places settings places node partition ask reply n p)) (sym asked.same_bays) (each_place n p);
      }

      -- and what is answered is said by the place
      pub place_answers : is_some (replica_at old node partition) ≡ true → AnswersBy settings (places node partition) ask reply
      place_answers up = go (has_replica shape node partition) (holds.each node partition)
        where
          go : (due : Bool) → HoldsAt content due settings (replica_at old node partition) (home old.bays folder node partition) (places node partition) → AnswersBy settings (places node partition) ask reply
          go true was = ask_answers tells content size faults ask reply settings (replica_at old node partition) (replica_at new node partition) (home old.bays folder node partition) (places node partition) asked.here t up was
          go false was = absurd (let none : is_some (replica_at old node partition) ≡ false = ap is_some was.0 in cc)

  -- a fault is that of the replica's own disk, in this very call
  pub fault_here : (old new : Option (ReplicaState D)) → AsksReplica tells content size faults old ask reply new → reply ≡ Reply.Fault → tells → FailedIn tells content size faults old new
  fault_here None new asked fault t = absurd (let said = asked.0 in cc)
  fault_here (Some replica) None asked fault t = absurd asked
  fault_here (Some replica) (Some after) asked fault t = asked.fault fault t
