-- What an ask does to a place.
use Rattle.std.proofs.Common.{◌≡◌, ◌≢◌, inl, inr, ⊎_elim, ℕ, ◌+◌, Bool, true, false, cond, if◌then◌else◌, Option, Some, None, refl, sym, ◌∙◌, ap, subst}
use Rattle.std.specs.Prelude.{IsSome, bytes_eq}
use Rattle.std.specs.Option.{is_some, option_map}
use Rattle.std.proofs.lemmas.List.Elements.{All-weaker}
use Rattle.std.proofs.lemmas.Map.Text.{is_eq-slice_cmp}
use Rattle.std.proofs.lemmas.Slice.Eq.{bytes_eq-Decides}
use Rattle.blob_id.specs.declared.id.BlobId.{BlobId}
use Rattle.cell_model.specs.declared.ask.Ask.{Ask}
use Rattle.cell_model.specs.declared.ask.Reply.{Reply}
use Rattle.cell_model.specs.declared.cell.Cell.{Cell}
use Rattle.cell_model.specs.declared.cell.Cell.TheVariants.{Absent}
use Rattle.cell_model.specs.Asks.{Answers, CanAnswer, IsRefusal, brought, id_of, landed}
use Rattle.cell_model.specs.Cells.{cell_in, join}
use Rattle.cell_model.specs.Pages.{IsEntryOf, PagesCells, SaysGone}
use Rattle.disk_core.specs.Content.{Content}
use Rattle.disk_core.proofs.Changes.{image_from}
use Rattle.log_manifest.specs.declared.manifest.LogSettings.{LogSettings}
use Rattle.part_log.specs.Layout.{Layout}
use Rattle.part_log.specs.Log.{layout_of}
use Rattle.replica_core.specs.Maps.{JoinsCell, StandsForCells, cell_for, is_same, with_joined}
use Rattle.replica_core.specs.State.{GoesDown, IsAsked, IsPacked, ReplicaState, packed_by}
use Rattle.replica_core.proofs.Maps.{join_absent}
use Rattle.replica_core.proofs.Packing.{asked_layout, asked_packed}
use Rattle.world_model.specs.World.{Change, MayReply, arriving_change, same_id}
use Rattle.world_model.proofs.CellLaws.{same_id_true}
use Rattle.node_lab.specs.Replicas.{AllRepresentEither, LogHasLayout, HoldsOpen, HoldsPlace, HoldsUp, PlaceHasLayout, RepresentsEither, settled}
use Rattle.node_lab.specs.Calls.{AsksReplica}
use Rattle.node_lab.specs.Places.{AnswersBy, HoldsHere, KnowsLayout, Place, asked_place, is_fault, landed_cells}
use Rattle.node_lab.proofs.ReplicaLemmas.{same_stands}

-- a replica that is down refuses any ask
down_refuses : (ask : Ask) → IsRefusal ask Reply.Down
down_refuses (Ask.Put id blob) = tt
down_refuses (Ask.Get id) = tt
down_refuses (Ask.Peek id) = tt
down_refuses (Ask.Delete id at) = tt
down_refuses (Ask.Merge id cell) = tt
down_refuses (Ask.Find token max) = tt
down_refuses Ask.End = tt
down_refuses (Ask.Token peer) = tt
down_refuses (Ask.SaveToken peer token) = tt
down_refuses Ask.CompactBegin = tt
down_refuses (Ask.CompactStep records) = tt
down_refuses Ask.CompactCommit = tt

-- no replica says that it isn't there
pub never_none : (ask : Ask) → CanAnswer ask Reply.NoPartition → ⊥
never_none (Ask.Put id blob) can = can
never_none (Ask.Get id) can = can
never_none (Ask.Peek id) can = can
never_none (Ask.Delete id at) can = can
never_none (Ask.Merge id cell) can = can
never_none (Ask.Find token max) can = can
never_none Ask.End can = can
never_none (Ask.Token peer) can = can
never_none (Ask.SaveToken peer token) can = can
never_none Ask.CompactBegin can = can
never_none (Ask.CompactStep records) can = can
never_none Ask.CompactCommit can = can

pub absent_either : (b : Bool) → cond b Absent Absent ≡ Absent
absent_either true = refl
absent_either false = refl

-- what an ask brings, in the words of the world and in those of the replica
brings_same : (id other : BlobId) (cell : Cell) → cell_for other id cell ≡ arriving_change (Some (record { id = id; cell = cell })) other
brings_same id other cell =
    let test : is_same id other ≡ same_id other id = is_eq-slice_cmp id other ∙ turned in
    ap (λ (b : Bool). if b then cell else Absent) test ∙ choice (same_id other id)
  where
    choice : (b : Bool) → (if b then cell else Absent) ≡ cond b cell Absent
    choice true = refl
    choice false = refl

    turned : bytes_eq id other ≡ bytes_eq other id
    turned = go (bytes_eq id other) refl (bytes_eq other id) refl
      where
        go : (a : Bool) → bytes_eq id other ≡ a → (b : Bool) → bytes_eq other id ≡ b → bytes_eq id other ≡ bytes_eq other id
        go true one true two = one ∙ sym two
        go false one false two = one ∙ sym two
        go true one false two = absurd (let same = (bytes_eq-Decides other id).1 (sym ((bytes_eq-Decides id other).0 one)) in cc)
        go false one true two = absurd (let same = (bytes_eq-Decides id other).1 (sym ((bytes_eq-Decides other id).0 two)) in cc)

-- a page of cells is one of the same cells under another name
same_pages : (f h : BlobId → Cell) → ((id : BlobId) → f id ≡ h id) → (reply : Reply) → PagesCells f reply → PagesCells h reply
same_pages f h same (Reply.Page page) pages = All-weaker (IsEntryOf f) (IsEntryOf h) (λ entry one. subst (λ (c : Cell). SaysGone entry.gone c) (same entry.id) one) page.entries pages
same_pages f h same Reply.Stored pages = tt
same_pages f h same Reply.There pages = tt
same_pages f h same Reply.Clash pages = tt
same_pages f h same Reply.Gone pages = tt
same_pages f h same (Reply.Blob blob) pages = tt
same_pages f h same Reply.Absent pages = tt
same_pages f h same Reply.Done pages = tt
same_pages f h same Reply.Full pages = tt
same_pages f h same Reply.Fault pages = tt
same_pages f h same Reply.Down pages = tt
same_pages f h same Reply.Memory pages = tt
same_pages f h same Reply.NoPartition pages = tt
same_pages f h same (Reply.End lsn) pages = tt
same_pages f h same (Reply.Token token) pages = tt
same_pages f h same Reply.Planned pages = tt
same_pages f h same Reply.Nothing pages = tt
same_pages f h same Reply.More pages = tt
same_pages f h same Reply.Copied pages = tt
same_pages f h same (Reply.Reclaimed bytes) pages = tt
same_pages f h same Reply.NoPlan pages = tt

pub is_fault_true : (r : Reply) → is_fault r ≡ true → r ≡ Reply.Fault
is_fault_true Reply.Fault is = refl
is_fault_true Reply.Stored is = absurd (cc is)
is_fault_true Reply.There is = absurd (cc is)
is_fault_true Reply.Clash is = absurd (cc is)
is_fault_true Reply.Gone is = absurd (cc is)
is_fault_true (Reply.Blob blob) is = absurd (cc is)
is_fault_true Reply.Absent is = absurd (cc is)
is_fault_true Reply.Done is = absurd (cc is)
is_fault_true Reply.Full is = absurd (cc is)
is_fault_true Reply.Down is = absurd (cc is)
is_fault_true Reply.Memory is = absurd (cc is)
is_fault_true Reply.NoPartition is = absurd (cc is)
is_fault_true (Reply.Page page) is = absurd (cc is)
is_fault_true (Reply.End lsn) is = absurd (cc is)
is_fault_true (Reply.Token token) is = absurd (cc is)
is_fault_true Reply.Planned is = absurd (cc is)
is_fault_true Reply.Nothing is = absurd (cc is)
is_fault_true Reply.More is = absurd (cc is)
is_fault_true Reply.Copied is = absurd (cc is)
is_fault_true (Reply.Reclaimed bytes) is = absurd (cc is)
is_fault_true Reply.NoPlan is = absurd (cc is)

-- what is settled of the same cells
settled_same : (landed : Bool) (f h : BlobId → Cell) (doubt : Option Change) → ((id : BlobId) → h id ≡ f id) → (id : BlobId) → settled landed h doubt id ≡ settled landed f doubt id
settled_same true f h doubt same id = ap (λ (c : Cell). join c (arriving_change doubt id)) (same id)
settled_same false f h doubt same id = same id

module _ {D : Type 0} (content : D → Content) (settings : LogSettings) where
  either_named : (one : Content) (f h : BlobId → Cell) (doubt : Option Change) → ((id : BlobId) → h id ≡ f id) → AllRepresentEither settings one f doubt → AllRepresentEither settings one h doubt
  either_named one f h doubt same all c image =
      let it = all c image in
      record { landed = it.landed; end = it.end; stands = same_stands settings c (settled it.landed f doubt) (settled it.landed h doubt) it.end (settled_same it.landed f h doubt same) it.stands }

  -- the same cells under another name
  pub place_same : (slot : Option (ReplicaState D)) (home : Option D) (f h : BlobId → Cell) (doubt : Option Change) → ((id : BlobId) → h id ≡ f id) → HoldsPlace content settings slot home f doubt → HoldsPlace content settings slot home h doubt
  place_same (Some replica) home f h doubt same holds = go replica.down holds
    where
      go : (b : Bool) → HoldsOpen content settings b replica f doubt → HoldsOpen content settings b replica h doubt
      go false up = record { sure = up.sure; named = up.named; held = λ id. up.held id ∙ sym (same id) }
      go true all = (all.0, either_named (content replica.log.disk) f h doubt same all.1)
  place_same None (Some disk) f h doubt same holds = either_named (content disk) f h doubt same holds
  place_same None None f h doubt same holds = λ id. same id ∙ holds id

-- nothing is joined where the ask was refused so
nothing_landed : (cells : BlobId → Cell) (ask : Ask) (reply : Reply) (id : BlobId) → landed ask reply ≡ Absent → landed_cells cells ask reply id ≡ cells id
nothing_landed cells ask reply id none = ap (λ (c : Cell). join (cells id) (cond (same_id id (id_of ask)) c Absent)) none ∙ ap (λ (c : Cell). join (cells id) c) (absent_either (same_id id (id_of ask))) ∙ join_absent (cells id)

-- what is said of the settings, the layout and a cell of a replica is said of those of its place
of_place : {D : Type 0} (settings : LogSettings) (replica : ReplicaState D) (cells : BlobId → Cell) (layout : Layout) (id : BlobId) (P : LogSettings → Layout → Cell → Type 0)
    → ((other : BlobId) → cell_in replica.cells other ≡ cells other) → LogHasLayout settings replica layout → P replica.log.table.settings (layout_of replica.log.table) (cell_in replica.cells id) → P settings layout (cells id)
of_place settings replica cells layout id P held log said =
    subst (λ (s : LogSettings). P s layout (cells id)) log.named
    (subst (λ (l : Layout). P replica.log.table.settings l (cells id)) log.is
    (subst (λ (c : Cell). P replica.log.table.settings (layout_of replica.log.table) c) (held id) said))

module _ {D : Type 0} (tells : Type 0) (content : D → Content) (size faults : D → ℕ) (ask : Ask) (reply : Reply) where
  -- a reply that isn't a fault leaves a replica up
  stays_up : (r : Reply) (was now : Bool) → GoesDown r was now → r ≢ Reply.Fault → now ≡ was
  stays_up Reply.Fault was now goes calm = absurd (calm refl)
  stays_up Reply.Stored was now goes calm = goes
  stays_up Reply.There was now goes calm = goes
  stays_up Reply.Clash was now goes calm = goes
  stays_up Reply.Gone was now goes calm = goes
  stays_up (Reply.Blob blob) was now goes calm = goes
  stays_up Reply.Absent was now goes calm = goes
  stays_up Reply.Done was now goes calm = goes
  stays_up Reply.Full was now goes calm = goes
  stays_up Reply.Down was now goes calm = goes
  stays_up Reply.Memory was now goes calm = goes
  stays_up Reply.NoPartition was now goes calm = goes
  stays_up (Reply.Page page) was now goes calm = goes
  stays_up (Reply.End lsn) was now goes calm = goes
  stays_up (Reply.Token token) was now goes calm = goes
  stays_up Reply.Planned was now goes calm = goes
  stays_up Reply.Nothing was now goes calm = goes
  stays_up Reply.More was now goes calm = goes
  stays_up Reply.Copied was now goes calm = goes
  stays_up (Reply.Reclaimed bytes) was now goes calm = goes
  stays_up Reply.NoPlan was now goes calm = goes

  -- after a fault the disk holds the cells from before, or those with what the ask brings
  fault_stands : (settings : LogSettings) (replica after : ReplicaState D) (cells : BlobId → Cell) → IsAsked tells content size faults replica ask reply after → tells → replica.down ≡ false → HoldsUp settings replica cells None
      → AllRepresentEither settings (content after.log.disk) (cell_in replica.cells) (Some (record { id = id_of ask; cell = brought ask }))
  fault_stands settings replica after cells asked t up holds c image =
      let id = id_of ask in
      let cell = brought ask in
      let named = holds.named in
      let from = image_from (JoinsCell replica.log.table.settings (cell_in replica.cells) replica.log.table.end id cell) (content replica.log.disk) (content after.log.disk) (asked.during t up) c image in
      subst (λ (s : LogSettings). RepresentsEither s c (cell_in replica.cells) (Some (record { id = id; cell = cell }))) named
      (⊎_elim
      (λ (stood : StandsForCells replica.log.table.settings c (cell_in replica.cells) replica.log.table.end). record { landed = false; end = replica.log.table.end; stands = stood })
      (λ (stood : StandsForCells replica.log.table.settings c (with_joined (cell_in replica.cells) id cell) (replica.log.table.end + 1)). record {
        landed = true;
        end = replica.log.table.end + 1;
        stands = same_stands replica.log.table.settings c (with_joined (cell_in replica.cells) id cell) (settled true (cell_in replica.cells) (Some (record { id = id; cell = cell }))) (replica.log.table.end + 1)
            (λ other. ap (λ (x : Cell). join (cell_in replica.cells other) x) (sym (brings_same id other cell))) stood;
      })
      from.2)

  -- the ask of an open replica that is up
  module _ (settings : LogSettings) (replica after : ReplicaState D) (home : Option D) (place : Place) (asked : IsAsked tells content size faults replica ask reply after) (t : tells) (is : replica.down ≡ false)
      (up : HoldsUp settings replica place.cells place.doubt) where
    -- each cell is joined with what landed
    landed_held : (id : BlobId) → cell_in after.cells id ≡ landed_cells place.cells ask reply id
    landed_held id = here (same_id id (id_of ask)) refl
      where
        here : (b : Bool) → same_id id (id_of ask) ≡ b → cell_in after.cells id ≡ join (place.cells id) (cond (same_id id (id_of ask)) (landed ask reply) Absent)
        here true test =
            let one : id ≡ id_of ask = same_id_true id (id_of ask) test in
            subst (λ (i : BlobId). cell_in after.cells i ≡ join (place.cells i) (landed ask reply)) (sym one) ((asked.step t).cell ∙ ap (λ (c : Cell). join c (landed ask reply)) (up.held (id_of ask)))
            ∙ ap (λ (b : Bool). join (place.cells id) (cond b (landed ask reply) Absent)) (sym test)
        here false test =
            (asked.step t).others id (λ one. (let self = (bytes_eq-Decides id (id_of ask)).1 one in absurd (cc)))
            ∙ up.held id ∙ sym (join_absent (place.cells id)) ∙ ap (λ (b : Bool). join (place.cells id) (cond b (landed ask reply) Absent)) (sym test)

    -- no fault: it holds what was joined
    calm_cells : reply ≢ Reply.Fault → HoldsPlace content settings (Some after) home (landed_cells place.cells ask reply) place.doubt
    calm_cells calm =
        let still : after.down ≡ false = stays_up reply replica.down after.down asked.down calm ∙ is in
        subst (λ (b : Bool). HoldsOpen content settings b after (landed_cells place.cells ask reply) place.doubt) (sym still) (record { sure = up.sure; named = asked.settings ∙ up.named; held = landed_held })

    calm_layout : reply ≢ Reply.Fault → (layout : Layout) → LogHasLayout settings replica layout → LogHasLayout settings after (packed_by settings layout (place.cells (id_of ask)) ask reply)
    calm_layout calm layout laid = record {
      up = stays_up reply replica.down after.down asked.down calm ∙ laid.up;
      named = asked.settings ∙ laid.named;
      is = of_place settings replica place.cells layout (id_of ask) (λ s l c. layout_of after.log.table ≡ packed_by s l c ask reply) up.held laid (asked_layout tells content size faults replica ask reply after asked t laid.up calm);
    }

    -- a fault: what was asked is in doubt
    fault_cells : after.down ≡ true → HoldsPlace content settings (Some after) home place.cells (Some (record { id = id_of ask; cell = brought ask }))
    fault_cells down =
        let doubt : Option Change = Some (record { id = id_of ask; cell = brought ask }) in
        subst (λ (b : Bool). HoldsOpen content settings b after place.cells doubt) (sym down) (
          refl,
          either_named content settings (content after.log.disk) (cell_in replica.cells) place.cells doubt (λ id. sym (up.held id))
              (fault_stands settings replica after place.cells asked t is (record { sure = refl; named = up.named; held = up.held })),
        )

    -- after a fault it is down
    fault_down : (r : Reply) → r ≡ Reply.Fault → GoesDown r replica.down after.down → after.down ≡ true
    fault_down r said goes = (subst (λ (x : Reply). GoesDown x replica.down after.down) said goes).1

  is_fault_not : is_fault reply ≡ false → reply ≢ Reply.Fault
  is_fault_not is said = (let no : is_fault Reply.Fault ≡ false = subst (λ (r : Reply). is_fault r ≡ false) said is in cc)

  -- a place that nothing landed in keeps what it holds
  unlanded : (settings : LogSettings) (slot : Option (ReplicaState D)) (home : Option D) (place : Place) → is_fault reply ≡ false → landed ask reply ≡ Absent
      → ((layout : Layout) → packed_by settings layout (place.cells (id_of ask)) ask reply ≡ layout)
      → HoldsHere content settings slot home place → HoldsHere content settings slot home (asked_place settings ask reply place)
  unlanded settings slot home place calm none stays holds =
      subst (λ (b : Bool). HoldsHere content settings slot home (cond b (record { cells = place.cells; doubt = Some (record { id = id_of ask; cell = brought ask }); layout = None })
      (record { cells = landed_cells place.cells ask reply; doubt = place.doubt; layout = option_map (λ layout. packed_by settings layout (place.cells (id_of ask)) ask reply) place.layout }))) (sym calm)
      (record {
        cells = place_same content settings slot home place.cells (landed_cells place.cells ask reply) place.doubt (λ id. nothing_landed place.cells ask reply id none) holds.cells;
        layout = known place.layout holds.layout;
      })
    where
      known : (l : Option Layout) → KnowsLayout content settings slot home l → KnowsLayout content settings slot home (option_map (λ layout. packed_by settings layout (place.cells (id_of ask)) ask reply) l)
      known None h = tt
      known (Some layout) h = subst (λ (l : Layout). PlaceHasLayout content settings slot home l) (sym (stays layout)) h

  -- The place holds what the ask comes to: what was joined, or what is in doubt.
  pub ask_holds : (settings : LogSettings) (old new : Option (ReplicaState D)) (home : Option D) (place : Place) → AsksReplica tells content size faults old ask reply new → tells
      → HoldsHere content settings old home place → HoldsHere content settings new home (asked_place settings ask reply place)
  ask_holds settings None new home place asked t holds =
      subst (λ (s : Option (ReplicaState D)). HoldsHere content settings s home (asked_place settings ask reply place)) (sym asked.1)
      (unlanded settings None home place (ap is_fault asked.0) (ap (landed ask) asked.0) (λ layout. ap (packed_by settings layout (place.cells (id_of ask)) ask) asked.0) holds)
  ask_holds settings (Some replica) None home place asked t holds = absurd asked
  ask_holds settings (Some replica) (Some after) home place asked t holds = go replica.down refl holds.cells (is_fault reply) refl
    where
      go : (b : Bool) → replica.down ≡ b → HoldsOpen content settings b replica place.cells place.doubt → (f : Bool) → is_fault reply ≡ f → HoldsHere content settings (Some after) home (asked_place settings ask reply place)
      go true is all f fault =
          let said : reply ≡ Reply.Down = asked.refused.1 is in
          let same : after ≡ replica = asked.unchanged said in
          subst (λ (r : ReplicaState D). HoldsHere content settings (Some r) home (asked_place settings ask reply place)) (sym same)
          (unlanded settings (Some replica) home place (ap is_fault said) (ap (landed ask) said) (λ layout. ap (packed_by settings layout (place.cells (id_of ask)) ask) said) holds)
      go false is up true fault =
          let down = fault_down settings replica after home place asked t is up reply (is_fault_true reply fault) asked.down in
          subst (λ (b : Bool). HoldsHere content settings (Some after) home (cond b (record { cells = place.cells; doubt = Some (record { id = id_of ask; cell = brought ask }); layout = None })
          (record { cells = landed_cells place.cells ask reply; doubt = place.doubt; layout = option_map (λ layout. packed_by settings layout (place.cells (id_of ask)) ask reply) place.layout }))) (sym fault)
          (record { cells = fault_cells settings replica after home place asked t is up down; layout = tt })
      go false is up false fault =
          subst (λ (b : Bool). HoldsHere content settings (Some after) home (cond b (record { cells = place.cells; doubt = Some (record { id = id_of ask; cell = brought ask }); layout = None })
          (record { cells = landed_cells place.cells ask reply; doubt = place.doubt; layout = option_map (λ layout. packed_by settings layout (place.cells (id_of ask)) ask reply) place.layout }))) (sym fault)
          (record {
            cells = calm_cells settings replica after home place asked t is up (is_fault_not fault);
            layout = known place.layout holds.layout;
          })
        where
          known : (l : Option Layout) → KnowsLayout content settings (Some replica) home l → KnowsLayout content settings (Some after) home (option_map (λ layout. packed_by settings layout (place.cells (id_of ask)) ask reply) l)
          known None h = tt
          known (Some layout) h = calm_layout settings replica after home place asked t is up (is_fault_not fault) layout h

  may_down : (doubt : Option Change) (cell : Cell) → IsSome doubt → MayReply doubt cell ask Reply.Down
  may_down None cell some = absurd (cc some)
  may_down (Some change) cell some = refl

  -- What is answered at the place.
  pub ask_answers : (settings : LogSettings) (old new : Option (ReplicaState D)) (home : Option D) (place : Place) → AsksReplica tells content size faults old ask reply new → tells → is_some old ≡ true
      → HoldsHere content settings old home place → AnswersBy settings place ask reply
  ask_answers settings None new home place asked t some holds = absurd (cc some)
  ask_answers settings (Some replica) None home place asked t some holds = absurd asked
  ask_answers settings (Some replica) (Some after) home place asked t some holds = go replica.down refl holds.cells
    where
      go : (b : Bool) → replica.down ≡ b → HoldsOpen content settings b replica place.cells place.doubt → AnswersBy settings place ask reply
      go true is all =
          let said : reply ≡ Reply.Down = asked.refused.1 is in
          record {
            says = λ calm. subst (λ (r : Reply). MayReply place.doubt (place.cells (id_of ask)) ask r) (sym said) (may_down place.doubt (place.cells (id_of ask)) all.0);
            sure = λ fault. absurd (let no : Reply.Down ≡ Reply.Fault = sym said ∙ fault in cc);
            down = λ down. all.0;
            there = λ none. never_none ask (subst (λ (r : Reply). CanAnswer ask r) none asked.kind);
            pages = subst (λ (r : Reply). PagesCells place.cells r) (sym said) tt;
            packed = λ layout known. absurd (let laid = subst (λ (l : Option Layout). KnowsLayout content settings (Some replica) home l) known holds.layout in let no : replica.down ≡ false = laid.up in cc);
          }
      go false is up = record {
        says = λ calm. subst (λ (d : Option Change). MayReply d (place.cells (id_of ask)) ask reply) (sym up.sure)
            (⊎_elim (λ (one : Answers (cell_in replica.cells (id_of ask)) ask reply). inl (subst (λ (c : Cell). Answers c ask reply) (up.held (id_of ask)) one))
            (λ (refusal : IsRefusal ask reply). inr (inl (refusal, calm))) (asked.step t).answered);
        sure = λ fault. up.sure;
        down = λ down. absurd (let no : replica.down ≡ true = asked.refused.0 down in cc);
        there = λ none. never_none ask (subst (λ (r : Reply). CanAnswer ask r) none asked.kind);
        pages = same_pages (cell_in replica.cells) place.cells up.held reply (asked.step t).pages;
        packed = λ layout known.
            let laid = subst (λ (l : Option Layout). KnowsLayout content settings (Some replica) home l) known holds.layout in
            of_place settings replica place.cells layout (id_of ask) (λ s l c. IsPacked s l c ask reply) up.held laid (asked_packed tells content size faults replica ask reply after asked t is);
      }
