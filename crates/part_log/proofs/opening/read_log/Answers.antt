use Rattle.std.proofs.Common.{◌≡◌, inl, [], ℕ, ◌<◌, ◌^◌, max, List, Some, sym, ◌∙◌, subst, arith}
use Rattle.gate_slots.specs.Cell.{cell_at}
use Rattle.gate_slots.specs.Slots.{IsLoaded}
use Rattle.log_manifest.specs.Manifests.{manifest_text}
use Rattle.part_log.specs.declared.marks.Mark.{Mark}
use Rattle.part_log.specs.declared.segment.SegmentInfo.{SegmentInfo}
use Rattle.part_log.specs.Marks.{MarksOn}
use Rattle.part_log.specs.Records.{records_of}
use Rattle.part_log.specs.Segments.{lives_of, with_firsts}
use Rattle.part_log.specs.Images.{HasLog, IsLaidOut}
use Rattle.part_log.specs.Log.{IsLog, IsTable, layout_of, placed_in}
use Rattle.part_log.specs.Scan.{AreRead}
use Rattle.part_log.proofs.Scanning.{only_same}
use Rattle.part_log.proofs.Reopening.{table_good, read_laid, read_log, read_stands}
use Rattle.part_log.proofs.Tables.{table_of}
use Rattle.part_log.proofs.opening.read_log.Goals as goal

pub returns-in_err-segments-clause-only : goal.returns-in_err-segments-clause-only
returns-in_err-segments-clause-only g c = λ t.
    only_same (g.D.Disk.content c.args.disk.now) (g.D.Disk.content c.read_lives.new.disk) (c.read_lives.ensures.during t) (c.read_lives.ensures.seen t) (c.requires.only t)

pub returns-clause-only : goal.returns-clause-only
returns-clause-only g c = λ t.
    only_same (g.D.Disk.content c.args.disk.now) (g.D.Disk.content c.read_lives.new.disk) (c.read_lives.ensures.during t) (c.read_lives.ensures.seen t) (c.requires.only t)

pub returns-clause-table : goal.returns-clause-table
returns-clause-table g c =
    let manifest = c.args.manifest.now in
    let slots = c.args.slots in
    let tokens = c.args.tokens in
    let infos = c.in_ok-segments.segments.items in
    let next = c.read_lives.new.scan.next in
    let end = c.max-end.result in
    let lives : lives_of infos ≡ manifest.live = c.in_ok-segments.ensures.lives ∙ c.as_slice-lives.ensures in
    let below : slots.sequence < 2 ^ 63 = omega (arith, c.sequence-below.ensures.sequence, c.sequence-below.ensures.below) in
    let end_is : end ≡ max manifest.floor next = omega (arith, c.max-end.ensures) in
    subst (λ (l : List SegmentInfo). IsTable (table_of manifest.settings l manifest.next_generation end slots tokens)) (sym c.set_firsts.ensures)
    (table_good manifest c.requires.good c.requires.ranges infos lives c.in_ok-segments.ensures.fit slots c.requires.base below tokens c.requires.tokens next end end_is c.read_lives.ensures.next)

pub returns-clause-opened : goal.returns-clause-opened
returns-clause-opened g c = λ t.
    let manifest = c.args.manifest.now in
    let slots = c.args.slots in
    let tokens = c.args.tokens in
    let infos = c.in_ok-segments.segments.items in
    let next = c.read_lives.new.scan.next in
    let end = c.max-end.result in
    let lives : lives_of infos ≡ manifest.live = c.in_ok-segments.ensures.lives ∙ c.as_slice-lives.ensures in
    let below : slots.sequence < 2 ^ 63 = omega (arith, c.sequence-below.ensures.sequence, c.sequence-below.ensures.below) in
    let end_is : end ≡ max manifest.floor next = omega (arith, c.max-end.ensures) in
    let old = g.D.Disk.content c.args.disk.now in
    let new = g.D.Disk.content c.read_lives.new.disk in
    let seen = c.read_lives.ensures.seen t in
    let only = only_same old new (c.read_lives.ensures.during t) seen (c.requires.only t) in
    let parts = c.in_ok-segments.ensures.read t in
    let read = subst (λ (l : List ℕ). AreRead manifest.settings.segment l infos next parts.0) (sym seen) parts.1 in
    let value = subst (λ (l : List ℕ). (cell_at 0 l).value ≡ Some (manifest_text manifest)) (sym seen) (c.requires.value t) in
    let loaded = subst (λ (l : List ℕ). IsLoaded slots l) (sym seen) (c.requires.loaded t) in
    let tokens_loaded = subst (λ (l : List ℕ). IsLoaded tokens l) (sym seen) (c.requires.tokens_loaded t) in
    let placed = placed_in manifest.settings.segment infos parts.0 in (
      placed,
      record {
        log = subst (λ (l : List SegmentInfo). IsLog (table_of manifest.settings l manifest.next_generation end slots tokens) new placed) (sym c.set_firsts.ensures)
            (read_log manifest c.requires.good c.requires.ranges infos lives c.in_ok-segments.ensures.fit slots c.requires.base below tokens c.requires.tokens next end end_is c.read_lives.ensures.next new parts.0 read value loaded tokens_loaded only);
        stands = inl (subst (λ (l : List ℕ). HasLog manifest.settings l (records_of placed) end) seen
            (read_stands manifest c.requires.good c.requires.ranges infos lives c.in_ok-segments.ensures.fit slots c.requires.base below tokens c.requires.tokens next end end_is c.read_lives.ensures.next new parts.0 read value));
        laid_out = subst (λ (l : List SegmentInfo). IsLaidOut manifest.settings old.seen (layout_of (table_of manifest.settings l manifest.next_generation end slots tokens))) (sym c.set_firsts.ensures)
            (subst (λ (l : List ℕ). IsLaidOut manifest.settings l (layout_of (table_of manifest.settings (with_firsts infos end) manifest.next_generation end slots tokens))) seen
            (read_laid manifest c.requires.good c.requires.ranges infos lives c.in_ok-segments.ensures.fit slots c.requires.base below tokens c.requires.tokens next end end_is c.read_lives.ensures.next new parts.0 read value loaded tokens_loaded only));
        marks = subst (λ (l : List Mark). MarksOn l placed c.read_lives.new.scan.marks.list.items) c.new-scan.ensures.marks parts.3 [] tt;
      },
      parts.2,
    )
