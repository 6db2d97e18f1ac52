-- Asks, stops and restarts lead a record on.
use Rattle.std.proofs.Common.{◌≡◌, ◌≢◌, inr, ℕ, Bool, true, false, ◌==◌, ◌&&◌, cond, List, ◌∷◌, Option, Some, None, refl, sym, ◌∙◌, ap, subst}
use Rattle.std.specs.List.{list_any}
use Rattle.std.specs.Option.{is_some, option_map}
use Rattle.blob_id.specs.declared.id.BlobId.{BlobId}
use Rattle.cell_model.specs.declared.ask.Reply.{Reply}
use Rattle.cell_model.specs.declared.cell.Cell.TheVariants.{Absent}
use Rattle.cell_model.specs.Asks.{brought, id_of, landed}
use Rattle.cell_model.specs.Cells.{join}
use Rattle.cell_model.specs.Pages.{PagesCells}
use Rattle.disk_core.specs.Content.{Content}
use Rattle.disk_core.specs.Homes.{Home}
use Rattle.log_manifest.specs.declared.manifest.LogSettings.{LogSettings}
use Rattle.part_log.specs.Layout.{Layout}
use Rattle.replica_core.specs.State.{ReplicaState, packed_by}
use Rattle.replica_core.proofs.Maps.{join_absent}
use Rattle.world_model.specs.declared.shape.Shape.{Shape}
use Rattle.world_model.specs.declared.step.Step.TheVariants as steps
use Rattle.world_model.specs.Record.{Item, Record, Took}
use Rattle.world_model.specs.World.{Call, Cells, Change, MayReply, MayRun, MayTear, World, after, arriving_call, arriving_change, call_at, doubt_call, is_call_at, same_id, world}
use Rattle.node_lab.specs.Places.{AnswersBy, HoldsAt, KnowsLayout, Place, Places, is_fault, landed_at, landed_cells, settled_place}
use Rattle.node_lab.specs.Replicas.{HoldsPlace, settings_of}
use Rattle.node_lab.specs.RunPlaces.{IsCallPacked, Known, LeadsTo, called_layouts, item_layouts, layouts_after, places_after, places_of}
use Rattle.node_lab.specs.Nodes.{Holds, NodesState, asked_places, has_replica, is_up, replica_at, settled_places}
use Rattle.node_lab.specs.Calls.{AsksNodes, AsksReplica}
use Rattle.world_model.proofs.CellLaws.{number_true}
use Rattle.node_lab.proofs.AskLemmas.{is_fault_true, place_same}
use Rattle.node_lab.proofs.NodeAskLemmas.{place_answers, places_asked}

-- a place under another name
pub record SamePlace (f h : Place) : Type 0 where
  pub cells : (id : BlobId) → h.cells id ≡ f.cells id
  pub doubt : h.doubt ≡ f.doubt
  pub layout : h.layout ≡ f.layout

module _ {D : Type 0} (content : D → Content) (settings : LogSettings) where
  at_same : (due : Bool) (slot : Option (ReplicaState D)) (home : Option D) (f h : Place) → SamePlace f h → HoldsAt content due settings slot home f → HoldsAt content due settings slot home h
  at_same false slot home f h same was = (was.0, ((λ id. same.cells id ∙ was.1.0 id), same.doubt ∙ was.1.1))
  at_same true slot home f h same was = record {
    cells = place_same content settings slot home f.cells h.cells h.doubt same.cells (subst (λ (d : Option Change). HoldsPlace content settings slot home f.cells d) (sym same.doubt) was.cells);
    layout = subst (λ (l : Option Layout). KnowsLayout content settings slot home l) (sym same.layout) was.layout;
  }

module _ {B D : Type 0} (content : D → Content) (home : B → Home D) where
  pub holds_same : (shape : Shape) (folder : List ℕ) (f h : Places) (nodes : NodesState B D) → ((n p : ℕ) → SamePlace (f n p) (h n p)) → Holds content home shape folder f nodes → Holds content home shape folder h nodes
  holds_same shape folder f h nodes same holds = record {
    named = holds.named;
    each = λ n p. at_same content (settings_of shape) (has_replica shape n p) (replica_at nodes n p) (home nodes.bays folder n p) (f n p) (h n p) (same n p) (holds.each n p);
  }

and_assoc : (a b c : Bool) → (a && b && c) ≡ ((a && b) && c)
and_assoc true b c = refl
and_assoc false b c = refl

-- what a request that was run leads to, place by place
module _ (settings : LogSettings) (w : World) (known : Known) (send : ℕ) (call : Call) (reply : Reply) (sent : call_at w send ≡ Some call) (n p : ℕ) where
  abbrev ran_item : Item
  ran_item = Took (steps.Exec send reply)

  abbrev torn_item : Item
  torn_item = Took (steps.Torn send)

  abbrev was : Place
  was = places_of w known n p

  abbrev in_doubt : Place
  in_doubt = record { cells = was.cells; doubt = Some (record { id = id_of call.ask; cell = brought call.ask }); layout = None }

  abbrev joined_place : Place
  joined_place = record { cells = landed_cells was.cells call.ask reply; doubt = was.doubt; layout = option_map (λ layout. packed_by settings layout (was.cells (id_of call.ask)) call.ask reply) was.layout }

  -- the place as the definition chooses it
  chosen : (b f : Bool) → ((n == call.node) && (p == call.partition)) ≡ b → is_fault reply ≡ f → asked_places settings (places_of w known) call.node call.partition call.ask reply n p ≡ cond b (cond f in_doubt joined_place) was
  chosen b f at fault =
      ap (λ (x : Bool). cond x (cond (is_fault reply) in_doubt joined_place) was) at
      ∙ ap (λ (x : Bool). cond b (cond x in_doubt joined_place) was) fault

  arrives : (b : Bool) → ((n == call.node) && (p == call.partition)) ≡ b → (id : BlobId) → (after w ran_item).cells n p id ≡ join (w.cells n p id) (cond (b && same_id id (id_of call.ask)) (landed call.ask reply) Absent)
  arrives b at id =
      ap (λ (c : Option Call). join (w.cells n p id) (arriving_call c reply n p id)) sent
      ∙ ap (λ (x : Bool). join (w.cells n p id) (cond x (landed call.ask reply) Absent)) (and_assoc (n == call.node) (p == call.partition) (same_id id (id_of call.ask)) ∙ ap (λ (x : Bool). x && same_id id (id_of call.ask)) at)

  lays : (b : Bool) → ((n == call.node) && (p == call.partition)) ≡ b → item_layouts settings w known ran_item n p ≡ cond b joined_place.layout was.layout
  lays b at = ap (λ (c : Option Call). called_layouts settings w.cells known c reply n p) sent ∙ ap (λ (x : Bool). cond x joined_place.layout was.layout) at

  -- a reply that is no fault
  ran_same : is_fault reply ≡ false → SamePlace (asked_places settings (places_of w known) call.node call.partition call.ask reply n p) (places_of (after w ran_item) (item_layouts settings w known ran_item) n p)
  ran_same calm = go ((n == call.node) && (p == call.partition)) refl
    where
      go : (b : Bool) → ((n == call.node) && (p == call.partition)) ≡ b → SamePlace (asked_places settings (places_of w known) call.node call.partition call.ask reply n p) (places_of (after w ran_item) (item_layouts settings w known ran_item) n p)
      go true at = subst (λ (x : Place). SamePlace x (places_of (after w ran_item) (item_layouts settings w known ran_item) n p)) (sym (chosen true false at calm)) (record { cells = arrives true at; doubt = refl; layout = lays true at })
      go false at = subst (λ (x : Place). SamePlace x (places_of (after w ran_item) (item_layouts settings w known ran_item) n p)) (sym (chosen false false at calm)) (record { cells = λ id. arrives false at id ∙ join_absent (w.cells n p id); doubt = refl; layout = lays false at })

  doubts : (b : Bool) → ((n == call.node) && (p == call.partition)) ≡ b → (after w torn_item).doubts n p ≡ cond b in_doubt.doubt was.doubt
  doubts b at = ap (λ (c : Option Call). cond (is_call_at c n p) (doubt_call c) (w.doubts n p)) sent ∙ ap (λ (x : Bool). cond x in_doubt.doubt was.doubt) at

  forgets : (b : Bool) → ((n == call.node) && (p == call.partition)) ≡ b → item_layouts settings w known torn_item n p ≡ cond b None was.layout
  forgets b at = ap (λ (c : Option Call). cond (is_call_at c n p) None (known n p)) sent ∙ ap (λ (x : Bool). cond x None was.layout) at

  -- a fault
  torn_same : is_fault reply ≡ true → SamePlace (asked_places settings (places_of w known) call.node call.partition call.ask reply n p) (places_of (after w torn_item) (item_layouts settings w known torn_item) n p)
  torn_same fault = go ((n == call.node) && (p == call.partition)) refl
    where
      go : (b : Bool) → ((n == call.node) && (p == call.partition)) ≡ b → SamePlace (asked_places settings (places_of w known) call.node call.partition call.ask reply n p) (places_of (after w torn_item) (item_layouts settings w known torn_item) n p)
      go true at = subst (λ (x : Place). SamePlace x (places_of (after w torn_item) (item_layouts settings w known torn_item) n p)) (sym (chosen true true at fault)) (record { cells = λ id. join_absent (w.cells n p id); doubt = doubts true at; layout = forgets true at })
      go false at = subst (λ (x : Place). SamePlace x (places_of (after w torn_item) (item_layouts settings w known torn_item) n p)) (sym (chosen false true at fault)) (record { cells = λ id. join_absent (w.cells n p id); doubt = doubts false at; layout = forgets false at })

-- a restart
module _ (settings : LogSettings) (w : World) (known : Known) (node : ℕ) (told : List ℕ) (landed : ℕ → ℕ → Bool) (says : (p : ℕ) → list_any (λ q. q == p) told ≡ landed node p) (n p : ℕ) where
  abbrev again : Item
  again = Took (steps.Restart node told)

  told_here : (n == node) ≡ true → list_any (λ q. q == p) told ≡ landed n p
  told_here at = says p ∙ ap (λ (i : ℕ). landed i p) (sym (number_true n node at))

  comes : (b l : Bool) → (n == node) ≡ b → (b ≡ true → list_any (λ q. q == p) told ≡ l) → (id : BlobId) → (after w again).cells n p id ≡ join (w.cells n p id) (cond (b && l) (arriving_change (w.doubts n p) id) Absent)
  comes b l at is id =
      ap (λ (x : Bool). join (w.cells n p id) (cond (x && list_any (λ q. q == p) told) (arriving_change (w.doubts n p) id) Absent)) at ∙ go b is
    where
      go : (b : Bool) → (b ≡ true → list_any (λ q. q == p) told ≡ l) → join (w.cells n p id) (cond (b && list_any (λ q. q == p) told) (arriving_change (w.doubts n p) id) Absent) ≡ join (w.cells n p id) (cond (b && l) (arriving_change (w.doubts n p) id) Absent)
      go true is = ap (λ (x : Bool). join (w.cells n p id) (cond x (arriving_change (w.doubts n p) id) Absent)) (is refl)
      go false is = refl

  restart_same : SamePlace (settled_places (λ i. i == node) landed (places_of w known) n p) (places_of (after w again) (item_layouts settings w known again) n p)
  restart_same = go (n == node) refl (landed n p) refl
    where
      picked : (b l : Bool) → (n == node) ≡ b → landed n p ≡ l → settled_places (λ i. i == node) landed (places_of w known) n p ≡ cond b (settled_place l (places_of w known n p)) (places_of w known n p)
      picked b l at is =
          ap (λ (x : Bool). cond x (settled_place (landed n p) (places_of w known n p)) (places_of w known n p)) at
          ∙ ap (λ (x : Bool). cond b (settled_place x (places_of w known n p)) (places_of w known n p)) is

      gone : (b : Bool) → (n == node) ≡ b → (after w again).doubts n p ≡ cond b None (w.doubts n p)
      gone b at = ap (λ (x : Bool). cond x None (w.doubts n p)) at

      go : (b : Bool) → (n == node) ≡ b → (l : Bool) → landed n p ≡ l → SamePlace (settled_places (λ i. i == node) landed (places_of w known) n p) (places_of (after w again) (item_layouts settings w known again) n p)
      go true at true is = subst (λ (x : Place). SamePlace x (places_of (after w again) (item_layouts settings w known again) n p)) (sym (picked true true at is)) (record { cells = comes true true at (λ yes. told_here at ∙ is); doubt = gone true at; layout = refl })
      go true at false is = subst (λ (x : Place). SamePlace x (places_of (after w again) (item_layouts settings w known again) n p)) (sym (picked true false at is)) (record { cells = λ id. comes true false at (λ yes. told_here at ∙ is) id ∙ join_absent (w.cells n p id); doubt = gone true at; layout = refl })
      go false at l is = subst (λ (x : Place). SamePlace x (places_of (after w again) (item_layouts settings w known again) n p)) (sym (picked false l at is)) (record { cells = λ id. comes false l at (λ yes. absurd (cc yes)) id ∙ join_absent (w.cells n p id); doubt = gone false at; layout = refl })

-- the step that is told of a request that was run
abbrev pub run_item : ℕ → Reply → Item
run_item send reply = Took (cond (is_fault reply) (steps.Torn send) (steps.Exec send reply))

module _ {B D : Type 0} (tells : Type 0) (content : D → Content) (size faults : D → ℕ) (home : B → Home D) (shape : Shape) (folder : List ℕ) (opening : Cells) (first : Known) (before : Record) (old new : NodesState B D) (t : tells)
    (leads : LeadsTo content home shape folder opening first before old) where
  abbrev settings : LogSettings
  settings = settings_of shape

  abbrev w : World
  w = world opening before

  abbrev known : Known
  known = layouts_after settings opening first before

  abbrev now : Places
  now = places_of w known

  -- A request that was run leads on: told as torn, with what it asked in doubt at that replica alone, or as it was answered.
  module _ (send : ℕ) (call : Call) (reply : Reply) (sent : call_at w send ≡ Some call) (asked : AsksNodes tells content size faults old call.node call.partition call.ask reply new)
      (running : w.stopped call.node ≡ false) (up : has_replica shape call.node call.partition ≡ true → is_up old call.node call.partition ≡ true) where
    held : Holds content home shape folder (asked_places settings now call.node call.partition call.ask reply) new
    held = places_asked tells content size faults call.ask reply home old new call.node call.partition asked t shape folder now leads.holds

    -- a place that the shape doesn't have says so
    says_none : is_some (replica_at old call.node call.partition) ≡ false → reply ≡ Reply.NoPartition
    says_none none = go (replica_at old call.node call.partition) none asked.here
      where
        go : (o : Option (ReplicaState D)) → is_some o ≡ false → AsksReplica tells content size faults o call.ask reply (replica_at new call.node call.partition) → reply ≡ Reply.NoPartition
        go None none h = h.0
        go (Some replica) none h = absurd (cc none)

    answers : has_replica shape call.node call.partition ≡ true → AnswersBy settings (now call.node call.partition) call.ask reply
    answers due = place_answers tells content size faults call.ask reply home old new call.node call.partition asked t shape folder now leads.holds (up due)

    unsaid : has_replica shape call.node call.partition ≡ false → (reply ≡ Reply.NoPartition) × (w.doubts call.node call.partition ≡ None)
    unsaid due =
        let at = subst (λ (b : Bool). HoldsAt content b settings (replica_at old call.node call.partition) (home old.bays folder call.node call.partition) (now call.node call.partition)) due (leads.holds.each call.node call.partition) in
        (says_none (ap is_some at.0), at.1.1)

    may_run : is_fault reply ≡ false → MayRun w send call reply
    may_run calm = go (has_replica shape call.node call.partition) refl
      where
        not_fault : reply ≢ Reply.Fault
        not_fault is = (let no : is_fault Reply.Fault ≡ false = subst (λ (r : Reply). is_fault r ≡ false) is calm in cc)

        go : (b : Bool) → has_replica shape call.node call.partition ≡ b → MayRun w send call reply
        go true due = let by = answers due in record { sent = sent; running = running; says = by.says not_fault; pages = by.pages }
        go false due =
            let by = unsaid due in
            record {
              sent = sent;
              running = running;
              says = subst (λ (d : Option Change). MayReply d (w.cells call.node call.partition (id_of call.ask)) call.ask reply) (sym by.1) (inr (inr by.0));
              pages = subst (λ (r : Reply). PagesCells (w.cells call.node call.partition) r) (sym by.0) tt;
            }

    may_tear : is_fault reply ≡ true → MayTear w send call
    may_tear fault = go (has_replica shape call.node call.partition) refl
      where
        go : (b : Bool) → has_replica shape call.node call.partition ≡ b → MayTear w send call
        go true due = record { sent = sent; running = running; sure = (answers due).sure (is_fault_true reply fault) }
        go false due = absurd (let by = unsaid due in let no : is_fault Reply.NoPartition ≡ true = subst (λ (r : Reply). is_fault r ≡ true) by.0 fault in cc)

    pub ask_leads : LeadsTo content home shape folder opening first (run_item send reply ∷ before) new
    ask_leads = go (is_fault reply) refl
      where
        go : (f : Bool) → is_fault reply ≡ f → LeadsTo content home shape folder opening first (run_item send reply ∷ before) new
        go false calm = subst (λ (f : Bool). LeadsTo content home shape folder opening first (Took (cond f (steps.Torn send) (steps.Exec send reply)) ∷ before) new) (sym calm) (record {
          run = (leads.run, (call, may_run calm));
          packed = (leads.packed, subst (λ (c : Option Call). IsCallPacked shape now c reply) (sym sent) (λ due. (answers due).packed));
          holds = holds_same content home shape folder (asked_places settings now call.node call.partition call.ask reply) (places_after settings opening first (Took (steps.Exec send reply) ∷ before)) new (λ n p. ran_same settings w known send call reply sent n p calm) held;
        })
        go true fault = subst (λ (f : Bool). LeadsTo content home shape folder opening first (Took (cond f (steps.Torn send) (steps.Exec send reply)) ∷ before) new) (sym fault) (record {
          run = (leads.run, (call, may_tear fault));
          packed = (leads.packed, tt);
          holds = holds_same content home shape folder (asked_places settings now call.node call.partition call.ask reply) (places_after settings opening first (Took (steps.Torn send) ∷ before)) new (λ n p. torn_same settings w known send call reply sent n p fault) held;
        })

  -- what a restart settles, as the replicas show
  abbrev pub shown : ℕ → ℕ → Bool
  shown n p = landed_at (w.doubts n p) (replica_at new n p)

  -- A restart leads on: it is told which changes in doubt took effect.
  pub restart_leads : (node : ℕ) (done : List ℕ) → w.stopped node ≡ true → ((p : ℕ) → list_any (λ q. q == p) done ≡ landed_at (w.doubts node p) (replica_at new node p))
      → Holds content home shape folder (settled_places (λ n. n == node) (λ n p. landed_at (w.doubts n p) (replica_at new n p)) now) new
      → LeadsTo content home shape folder opening first (Took (steps.Restart node done) ∷ before) new
  restart_leads node done stopped says held = record {
    run = (leads.run, stopped);
    packed = (leads.packed, tt);
    holds = holds_same content home shape folder (settled_places (λ n. n == node) shown now) (places_after settings opening first (Took (steps.Restart node done) ∷ before)) new
        (restart_same settings w known node done shown says) held;
  }

  -- a stop leads on
  pub stop_leads : (node : ℕ) → Holds content home shape folder now new → LeadsTo content home shape folder opening first (Took (steps.Stop node) ∷ before) new
  stop_leads node held = record {
    run = (leads.run, tt);
    packed = (leads.packed, tt);
    holds = holds_same content home shape folder now (places_after settings opening first (Took (steps.Stop node) ∷ before)) new
        (λ n p. record { cells = λ id. join_absent (w.cells n p id); doubt = refl; layout = refl }) held;
  }
