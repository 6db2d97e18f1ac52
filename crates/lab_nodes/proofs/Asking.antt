-- What an ask does to a place.
use Rattle.std.proofs.Common.{◌≡◌, ◌≢◌, ◌⊎◌, inr, ⊎_elim, ℕ, ◌+◌, Bool, true, false, cond, if◌then◌else◌, Option, Some, None, refl, sym, ◌∙◌, ap, subst}
use Rattle.std.specs.Prelude.{bytes_eq}
use Rattle.std.specs.Option.{is_some}
use Rattle.std.proofs.lemmas.List.Elements.{All-weaker}
use Rattle.std.proofs.lemmas.Map.Text.{is_eq-slice_cmp}
use Rattle.std.proofs.lemmas.Slice.Eq.{bytes_eq-Decides}
use Rattle.blob_id.specs.declared.id.BlobId.{BlobId}
use Rattle.cell_model.specs.declared.ask.Ask.{Ask}
use Rattle.cell_model.specs.declared.ask.Reply.{Reply}
use Rattle.cell_model.specs.declared.cell.Cell.{Cell}
use Rattle.cell_model.specs.declared.cell.Cell.TheVariants.{Absent}
use Rattle.cell_model.specs.Asks.{Answers, CanAnswer, IsRefusal, brought, id_of, landed}
use Rattle.cell_model.specs.Cells.{cell_in, join}
use Rattle.cell_model.specs.Pages.{IsEntryOf, PagesCells, SaysGone}
use Rattle.disk_core.specs.Content.{Content}
use Rattle.disk_core.proofs.Changes.{image_from}
use Rattle.log_manifest.specs.declared.manifest.LogSettings.{LogSettings}
use Rattle.part_log.specs.Layout.{Layout}
use Rattle.part_log.specs.Log.{layout_of}
use Rattle.replica_core.specs.Maps.{JoinsCell, StandsForCells, cell_for, is_same, with_joined}
use Rattle.replica_core.specs.State.{GoesDown, IsAsked, IsPacked, ReplicaState, packed_by}
use Rattle.replica_core.proofs.Maps.{join_absent}
use Rattle.replica_core.proofs.Packing.{asked_layout, asked_packed}
use Rattle.world_model.specs.World.{arriving_change, same_id}
use Rattle.world_model.proofs.CellLaws.{same_id_true}
use Rattle.lab_nodes.specs.Holding.{AllStandEither, LogHasLayout, HoldsOpen, HoldsPlace, HoldsUp, PlaceHasLayout, StandsEither, settled}
use Rattle.lab_nodes.specs.Nodes.{AsksReplica, HoldsSome}
use Rattle.lab_nodes.specs.Spots.{DiskFailed}
use Rattle.lab_nodes.proofs.Holding.{same_stands, settled_sure}

-- a replica that is down refuses any ask
down_refuses : (ask : Ask) → IsRefusal ask Reply.Down
down_refuses (Ask.Put id blob) = tt
down_refuses (Ask.Get id) = tt
down_refuses (Ask.Peek id) = tt
down_refuses (Ask.Delete id at) = tt
down_refuses (Ask.Merge id cell) = tt
down_refuses (Ask.Find token max) = tt
down_refuses Ask.End = tt
down_refuses (Ask.Token peer) = tt
down_refuses (Ask.SaveToken peer token) = tt
down_refuses Ask.CompactBegin = tt
down_refuses (Ask.CompactStep records) = tt
down_refuses Ask.CompactCommit = tt

-- no replica says that it isn't there
never_none : (ask : Ask) → CanAnswer ask Reply.NoPartition → ⊥
never_none (Ask.Put id blob) can = can
never_none (Ask.Get id) can = can
never_none (Ask.Peek id) can = can
never_none (Ask.Delete id at) can = can
never_none (Ask.Merge id cell) can = can
never_none (Ask.Find token max) can = can
never_none Ask.End can = can
never_none (Ask.Token peer) can = can
never_none (Ask.SaveToken peer token) can = can
never_none Ask.CompactBegin can = can
never_none (Ask.CompactStep records) can = can
never_none Ask.CompactCommit can = can

pub absent_either : (b : Bool) → cond b Absent Absent ≡ Absent
absent_either true = refl
absent_either false = refl

-- what an ask brings, in the words of the world and in those of the replica
brings_same : (id other : BlobId) (cell : Cell) → cell_for other id cell ≡ arriving_change (Some (record { id = id; cell = cell })) other
brings_same id other cell =
    let test : is_same id other ≡ same_id other id = is_eq-slice_cmp id other ∙ turned in
    ap (λ (b : Bool). if b then cell else Absent) test ∙ choice (same_id other id)
  where
    choice : (b : Bool) → (if b then cell else Absent) ≡ cond b cell Absent
    choice true = refl
    choice false = refl

    turned : bytes_eq id other ≡ bytes_eq other id
    turned = go (bytes_eq id other) refl (bytes_eq other id) refl
      where
        go : (a : Bool) → bytes_eq id other ≡ a → (b : Bool) → bytes_eq other id ≡ b → bytes_eq id other ≡ bytes_eq other id
        go true one true two = one ∙ sym two
        go false one false two = one ∙ sym two
        go true one false two = absurd (let same = (bytes_eq-Decides other id).1 (sym ((bytes_eq-Decides id other).0 one)) in cc)
        go false one true two = absurd (let same = (bytes_eq-Decides id other).1 (sym ((bytes_eq-Decides other id).0 two)) in cc)

-- a page of cells is one of the same cells under another name
same_pages : (f h : BlobId → Cell) → ((id : BlobId) → f id ≡ h id) → (reply : Reply) → PagesCells f reply → PagesCells h reply
same_pages f h same (Reply.Page page) pages = All-weaker (IsEntryOf f) (IsEntryOf h) (λ entry one. subst (λ (c : Cell). SaysGone entry.gone c) (same entry.id) one) page.entries pages
same_pages f h same Reply.Stored pages = tt
same_pages f h same Reply.There pages = tt
same_pages f h same Reply.Clash pages = tt
same_pages f h same Reply.Gone pages = tt
same_pages f h same (Reply.Blob blob) pages = tt
same_pages f h same Reply.Absent pages = tt
same_pages f h same Reply.Done pages = tt
same_pages f h same Reply.Full pages = tt
same_pages f h same Reply.Fault pages = tt
same_pages f h same Reply.Down pages = tt
same_pages f h same Reply.Memory pages = tt
same_pages f h same Reply.NoPartition pages = tt
same_pages f h same (Reply.End lsn) pages = tt
same_pages f h same (Reply.Token token) pages = tt
same_pages f h same Reply.Planned pages = tt
same_pages f h same Reply.Nothing pages = tt
same_pages f h same Reply.More pages = tt
same_pages f h same Reply.Copied pages = tt
same_pages f h same (Reply.Reclaimed bytes) pages = tt
same_pages f h same Reply.NoPlan pages = tt

module _ {D : Type 0} (content : D → Content) (settings : LogSettings) where
  -- the same cells under another name
  pub place_same : (slot : Option (ReplicaState D)) (home : Option D) (f h : BlobId → Cell) → ((id : BlobId) → h id ≡ f id) → HoldsPlace content settings slot home f None → HoldsPlace content settings slot home h None
  place_same (Some replica) home f h same holds = go replica.down holds
    where
      go : (b : Bool) → HoldsOpen content settings b replica f None → HoldsOpen content settings b replica h None
      go false up = record { sure = refl; named = up.named; held = λ id. up.held id ∙ sym (same id) }
      go true all = λ c image. (
          let one = all c image in
          record { landed = one.landed; end = one.end; stands = same_stands settings c (settled one.landed f None) (settled one.landed h None) one.end (λ id. settled_sure one.landed h id ∙ same id ∙ sym (settled_sure one.landed f id)) one.stands })
  place_same None (Some disk) f h same holds = λ c image. (
      let one = holds c image in
      record { landed = one.landed; end = one.end; stands = same_stands settings c (settled one.landed f None) (settled one.landed h None) one.end (λ id. settled_sure one.landed h id ∙ same id ∙ sym (settled_sure one.landed f id)) one.stands })
  place_same None None f h same holds = λ id. same id ∙ holds id

-- what is said of the settings, the layout and a cell of a replica is said of those of its place
of_place : {D : Type 0} (content : D → Content) (settings : LogSettings) (replica : ReplicaState D) (cells : BlobId → Cell) (layout : Layout) (id : BlobId) (P : LogSettings → Layout → Cell → Type 0)
    → HoldsOpen content settings replica.down replica cells None → LogHasLayout settings replica layout → P replica.log.table.settings (layout_of replica.log.table) (cell_in replica.cells id) → P settings layout (cells id)
of_place content settings replica cells layout id P holds log said =
    let up = subst (λ (b : Bool). HoldsOpen content settings b replica cells None) log.up holds in
    subst (λ (s : LogSettings). P s layout (cells id)) log.named
    (subst (λ (l : Layout). P replica.log.table.settings l (cells id)) log.is
    (subst (λ (c : Cell). P replica.log.table.settings (layout_of replica.log.table) c) (up.held id) said))

-- what an ask joins to the cells of its place
abbrev pub landed_cells : (BlobId → Cell) → Ask → Reply → BlobId → Cell
landed_cells cells ask reply id = join (cells id) (cond (same_id id (id_of ask)) (landed ask reply) Absent)

-- nothing is joined where the ask was refused so
nothing_landed : (cells : BlobId → Cell) (ask : Ask) (reply : Reply) (id : BlobId) → landed ask reply ≡ Absent → landed_cells cells ask reply id ≡ cells id
nothing_landed cells ask reply id none = ap (λ (c : Cell). join (cells id) (cond (same_id id (id_of ask)) c Absent)) none ∙ ap (λ (c : Cell). join (cells id) c) (absent_either (same_id id (id_of ask))) ∙ join_absent (cells id)

module _ {D : Type 0} (tells : Type 0) (content : D → Content) (size faults : D → ℕ) (ask : Ask) (reply : Reply) where
  pub asks_up : (old new : Option (ReplicaState D)) → AsksReplica tells content size faults old ask reply new → is_some new ≡ is_some old
  asks_up None new asked = ap is_some asked.1
  asks_up (Some replica) None asked = absurd asked
  asks_up (Some replica) (Some after) asked = refl

  pub asks_none : (old new : Option (ReplicaState D)) → AsksReplica tells content size faults old ask reply new → is_some old ≡ false → reply ≡ Reply.NoPartition
  asks_none None new asked none = asked.0
  asks_none (Some replica) new asked none = absurd (cc none)

  pub asks_some : (old new : Option (ReplicaState D)) → AsksReplica tells content size faults old ask reply new → is_some old ≡ true → CanAnswer ask reply × (reply ≢ Reply.NoPartition)
  asks_some None new asked some = absurd (cc some)
  asks_some (Some replica) None asked some = absurd asked
  asks_some (Some replica) (Some after) asked some = (asked.kind, (λ is. never_none ask (subst (λ (r : Reply). CanAnswer ask r) is asked.kind)))

  pub asks_fault : (old new : Option (ReplicaState D)) → AsksReplica tells content size faults old ask reply new → reply ≡ Reply.Fault → tells → DiskFailed faults
  asks_fault None new asked fault t = absurd (let said = asked.0 in cc)
  asks_fault (Some replica) None asked fault t = absurd asked
  asks_fault (Some replica) (Some after) asked fault t = record { before = replica.log.disk; after = after.log.disk; rose = asked.fault fault t }

  pub asks_answered : (settings : LogSettings) (old new : Option (ReplicaState D)) (home : Option D) (cells : BlobId → Cell) → AsksReplica tells content size faults old ask reply new → tells → is_some old ≡ true → HoldsPlace content settings old home cells None → Answers (cells (id_of ask)) ask reply ⊎ IsRefusal ask reply
  asks_answered settings None new home cells asked t some holds = absurd (cc some)
  asks_answered settings (Some replica) None home cells asked t some holds = absurd asked
  asks_answered settings (Some replica) (Some after) home cells asked t some holds = go replica.down refl holds
    where
      go : (b : Bool) → replica.down ≡ b → HoldsOpen content settings b replica cells None → Answers (cells (id_of ask)) ask reply ⊎ IsRefusal ask reply
      go false is up = subst (λ (c : Cell). Answers c ask reply ⊎ IsRefusal ask reply) (up.held (id_of ask)) (asked.step t).answered
      go true is all = inr (subst (λ (r : Reply). IsRefusal ask r) (sym (asked.refused.1 is)) (down_refuses ask))

  -- a page is of the cells that are held
  pub asks_pages : (settings : LogSettings) (old new : Option (ReplicaState D)) (home : Option D) (cells : BlobId → Cell) → AsksReplica tells content size faults old ask reply new → tells → (is_some old ≡ true → HoldsPlace content settings old home cells None) → PagesCells cells reply
  asks_pages settings None new home cells asked t holds = subst (λ (r : Reply). PagesCells cells r) (sym asked.0) tt
  asks_pages settings (Some replica) None home cells asked t holds = absurd asked
  asks_pages settings (Some replica) (Some after) home cells asked t holds = go replica.down refl (holds refl)
    where
      go : (b : Bool) → replica.down ≡ b → HoldsOpen content settings b replica cells None → PagesCells cells reply
      go false is up = same_pages (cell_in replica.cells) cells up.held reply (asked.step t).pages
      go true is all = subst (λ (r : Reply). PagesCells cells r) (sym (asked.refused.1 is)) tt

  -- a reply that isn't a fault leaves a replica up
  stays_up : (r : Reply) (was now : Bool) → GoesDown r was now → r ≢ Reply.Fault → now ≡ was
  stays_up Reply.Fault was now goes calm = absurd (calm refl)
  stays_up Reply.Stored was now goes calm = goes
  stays_up Reply.There was now goes calm = goes
  stays_up Reply.Clash was now goes calm = goes
  stays_up Reply.Gone was now goes calm = goes
  stays_up (Reply.Blob blob) was now goes calm = goes
  stays_up Reply.Absent was now goes calm = goes
  stays_up Reply.Done was now goes calm = goes
  stays_up Reply.Full was now goes calm = goes
  stays_up Reply.Down was now goes calm = goes
  stays_up Reply.Memory was now goes calm = goes
  stays_up Reply.NoPartition was now goes calm = goes
  stays_up (Reply.Page page) was now goes calm = goes
  stays_up (Reply.End lsn) was now goes calm = goes
  stays_up (Reply.Token token) was now goes calm = goes
  stays_up Reply.Planned was now goes calm = goes
  stays_up Reply.Nothing was now goes calm = goes
  stays_up Reply.More was now goes calm = goes
  stays_up Reply.Copied was now goes calm = goes
  stays_up (Reply.Reclaimed bytes) was now goes calm = goes
  stays_up Reply.NoPlan was now goes calm = goes

  -- a place without faults holds what was joined
  pub asks_holds : (settings : LogSettings) (old new : Option (ReplicaState D)) (home : Option D) (cells : BlobId → Cell) → AsksReplica tells content size faults old ask reply new → tells → reply ≢ Reply.Fault
      → HoldsPlace content settings old home cells None → HoldsPlace content settings new home (landed_cells cells ask reply) None
  asks_holds settings None new home cells asked t calm holds =
      subst (λ (s : Option (ReplicaState D)). HoldsPlace content settings s home (landed_cells cells ask reply) None) (sym asked.1)
      (place_same content settings None home cells (landed_cells cells ask reply) (λ id. nothing_landed cells ask reply id (ap (λ (r : Reply). landed ask r) asked.0)) holds)
  asks_holds settings (Some replica) None home cells asked t calm holds = absurd asked
  asks_holds settings (Some replica) (Some after) home cells asked t calm holds = go replica.down refl holds
    where
      go : (b : Bool) → replica.down ≡ b → HoldsOpen content settings b replica cells None → HoldsPlace content settings (Some after) home (landed_cells cells ask reply) None
      go false is up =
          let step = asked.step t in
          let still : after.down ≡ false = stays_up reply replica.down after.down asked.down calm ∙ is in
          subst (λ (b : Bool). HoldsOpen content settings b after (landed_cells cells ask reply) None) (sym still) (record {
            sure = refl;
            named = asked.settings ∙ up.named;
            held = λ id. here id (same_id id (id_of ask)) refl;
          })
        where
          here : (id : BlobId) (b : Bool) → same_id id (id_of ask) ≡ b → cell_in after.cells id ≡ join (cells id) (cond (same_id id (id_of ask)) (landed ask reply) Absent)
          here id true test =
              let one : id ≡ id_of ask = same_id_true id (id_of ask) test in
              subst (λ (i : BlobId). cell_in after.cells i ≡ join (cells i) (landed ask reply)) (sym one) ((asked.step t).cell ∙ ap (λ (c : Cell). join c (landed ask reply)) (up.held (id_of ask)))
              ∙ ap (λ (b : Bool). join (cells id) (cond b (landed ask reply) Absent)) (sym test)
          here id false test =
              (asked.step t).others id (λ one. (let self = (bytes_eq-Decides id (id_of ask)).1 one in absurd (cc)))
              ∙ up.held id ∙ sym (join_absent (cells id)) ∙ ap (λ (b : Bool). join (cells id) (cond b (landed ask reply) Absent)) (sym test)
      go true is all =
          let said : reply ≡ Reply.Down = asked.refused.1 is in
          let same : after ≡ replica = asked.unchanged said in
          place_same content settings (Some after) home cells (landed_cells cells ask reply) (λ id. nothing_landed cells ask reply id (ap (λ (r : Reply). landed ask r) said))
          (subst (λ (r : ReplicaState D). HoldsOpen content settings r.down r cells None) (sym same) (subst (λ (b : Bool). HoldsOpen content settings b replica cells None) (sym is) all))

  -- it is full exactly where its record has no place
  pub asks_packed : (settings : LogSettings) (old new : Option (ReplicaState D)) (home : Option D) (cells : BlobId → Cell) (layout : Layout) → AsksReplica tells content size faults old ask reply new → tells → is_some old ≡ true
      → HoldsPlace content settings old home cells None → PlaceHasLayout content settings old home layout → IsPacked settings layout (cells (id_of ask)) ask reply
  asks_packed settings None new home cells layout asked t some holds laid = absurd (cc some)
  asks_packed settings (Some replica) None home cells layout asked t some holds laid = absurd asked
  asks_packed settings (Some replica) (Some after) home cells layout asked t some holds laid =
      of_place content settings replica cells layout (id_of ask) (λ s l c. IsPacked s l c ask reply) holds laid (asked_packed tells content size faults replica ask reply after asked t laid.up)

  -- a record that is put is packed behind the others
  pub asks_layout : (settings : LogSettings) (old new : Option (ReplicaState D)) (home : Option D) (cells : BlobId → Cell) (layout : Layout) → AsksReplica tells content size faults old ask reply new → tells → reply ≢ Reply.Fault
      → HoldsPlace content settings old home cells None → PlaceHasLayout content settings old home layout → PlaceHasLayout content settings new home (packed_by settings layout (cells (id_of ask)) ask reply)
  asks_layout settings None new home cells layout asked t calm holds laid =
      subst (λ (r : Reply). PlaceHasLayout content settings new home (packed_by settings layout (cells (id_of ask)) ask r)) (sym asked.0)
      (subst (λ (s : Option (ReplicaState D)). PlaceHasLayout content settings s home layout) (sym asked.1) laid)
  asks_layout settings (Some replica) None home cells layout asked t calm holds laid = absurd asked
  asks_layout settings (Some replica) (Some after) home cells layout asked t calm holds laid = record {
    up = stays_up reply replica.down after.down asked.down calm ∙ laid.up;
    named = asked.settings ∙ laid.named;
    is = of_place content settings replica cells layout (id_of ask) (λ s l c. layout_of after.log.table ≡ packed_by s l c ask reply) holds laid (asked_layout tells content size faults replica ask reply after asked t laid.up calm);
  }

  -- after a fault the disk holds the cells from before, or those with what the ask brings
  fault_stands : (settings : LogSettings) (replica after : ReplicaState D) (cells : BlobId → Cell) → IsAsked tells content size faults replica ask reply after → tells → replica.down ≡ false → HoldsUp settings replica cells None
      → AllStandEither settings (content after.log.disk) (cell_in replica.cells) (Some (record { id = id_of ask; cell = brought ask }))
  fault_stands settings replica after cells asked t up holds c image =
      let id = id_of ask in
      let cell = brought ask in
      let named = holds.named in
      let from = image_from (JoinsCell replica.log.table.settings (cell_in replica.cells) replica.log.table.end id cell) (content replica.log.disk) (content after.log.disk) (asked.during t up) c image in
      subst (λ (s : LogSettings). StandsEither s c (cell_in replica.cells) (Some (record { id = id; cell = cell }))) named
      (⊎_elim
      (λ (stood : StandsForCells replica.log.table.settings c (cell_in replica.cells) replica.log.table.end). record { landed = false; end = replica.log.table.end; stands = stood })
      (λ (stood : StandsForCells replica.log.table.settings c (with_joined (cell_in replica.cells) id cell) (replica.log.table.end + 1)). record {
        landed = true;
        end = replica.log.table.end + 1;
        stands = same_stands replica.log.table.settings c (with_joined (cell_in replica.cells) id cell) (settled true (cell_in replica.cells) (Some (record { id = id; cell = cell }))) (replica.log.table.end + 1)
            (λ other. ap (λ (x : Cell). join (cell_in replica.cells other) x) (sym (brings_same id other cell))) stood;
      })
      from.2)

  -- some cells are held, whatever was answered
  pub asks_some_held : (settings : LogSettings) (old new : Option (ReplicaState D)) (home : Option D) → AsksReplica tells content size faults old ask reply new → tells → HoldsSome content settings old home → HoldsSome content settings new home
  asks_some_held settings None new home asked t some = subst (λ (s : Option (ReplicaState D)). HoldsSome content settings s home) (sym asked.1) some
  asks_some_held settings (Some replica) None home asked t some = absurd asked
  asks_some_held settings (Some replica) (Some after) home asked t some = go replica.down refl some.holds after.down refl
    where
      go : (b : Bool) → replica.down ≡ b → HoldsOpen content settings b replica some.cells some.doubt → (d : Bool) → after.down ≡ d → HoldsSome content settings (Some after) home
      go true was all d is =
          let same : after ≡ replica = asked.unchanged (asked.refused.1 was) in
          subst (λ (r : ReplicaState D). HoldsSome content settings (Some r) home) (sym same) some
      go false was up false is = record {
        cells = cell_in after.cells;
        doubt = None;
        holds = subst (λ (b : Bool). HoldsOpen content settings b after (cell_in after.cells) None) (sym is) (record { sure = refl; named = asked.settings ∙ up.named; held = λ id. refl });
      }
      go false was up true is = record {
        cells = cell_in replica.cells;
        doubt = Some (record { id = id_of ask; cell = brought ask });
        holds = subst (λ (b : Bool). HoldsOpen content settings b after (cell_in replica.cells) (Some (record { id = id_of ask; cell = brought ask }))) (sym is)
            (fault_stands settings replica after (cell_in replica.cells) asked t was (record { sure = refl; named = up.named; held = λ id. refl }));
      }
