use Rattle.std.proofs.Common.{◌≡◌, ℕ, ◌+◌, ◌≤◌, arith, List, [], ◌∷◌, ◌++◌, length, false, not, sym, ◌∙◌, ap, subst}
use Rattle.disk_core.specs.Content.{ChangesBy}
use Rattle.gate_slots.specs.Gate.{IsZeroed}
use Rattle.gate_slots.specs.Slots.{CurrentSlot}
use Rattle.log_manifest.specs.Manifests.{IsManifest, manifest_text}
use Rattle.part_log.specs.declared.segment.SegmentInfo.{SegmentInfo}
use Rattle.part_log.specs.Records.{Placed, records_of}
use Rattle.part_log.specs.Images.{KeepsLog}
use Rattle.part_log.specs.Segments.{place_of, is_among, free_from, lives_of}
use Rattle.part_log.specs.Log.{LogState, LogTable, IsTable, IsLog, IsRolling, is_worn, is_packed, layout_of, least_free, manifest_of, new_info, rolled_table, with_segment}
use Rattle.part_log.proofs.Fronts.{both_same}
use Rattle.part_log.proofs.Layouts.{rolled_layout}
use Rattle.part_log.proofs.Staying.{visible_there, visible_elsewhere}
use Rattle.part_log.proofs.Room.{next_manifest, rolling_from, short_text, rolled_is_good, nothing_kept}
use Rattle.part_log.proofs.Tables.{table_of}
use Rattle.part_log.proofs.log.PartLog.add_segment.Goals as goal
use Rattle.part_log.proofs.log.PartLog.add_segment.Goals.{After-as_slice}

-- What a roll of this table does: a free segment is the last one in these segments, which the manifest with this text names.
record Rolls (table : LogTable) (target : ℕ) (segments : List SegmentInfo) (text : List ℕ) : Type 0 where
  good : IsTable table
  target_is : target ≡ least_free table
  free : is_among target table.segments ≡ false
  segments_are : segments ≡ table.segments ++ new_info table target ∷ []
  manifest : IsManifest (manifest_of (with_segment table target) table.end)
  rolling : IsRolling table table.slots target text
  short : length text ≤ 1011
  after : (slots : CurrentSlot) → slots ≡ record { base = 0; sequence = table.slots.sequence + 1; second = not table.slots.second } → IsTable (rolled_table table target slots)

rolls : (g : _) (c : After-as_slice g) → (let s = c.self.inside in Rolls (table_of s.settings s.segments.items s.next_generation s.end s.slots s.tokens) c.least_free-target.result c.in_ok-segments.segments.items c.as_slice.result.now)
rolls g c =
    let s = c.self.inside in
    let table = table_of s.settings s.segments.items s.next_generation s.end s.slots s.tokens in
    let good : IsTable table = c.self.invariant.0 in
    let fresh = subst (λ (v : LogState g.row.D.Denot). is_worn v.table ≡ false) (sym c.self.view_is) c.requires.fresh in
    let packed = subst (λ (v : LogState g.row.D.Denot). is_packed v.table ≡ false) (sym c.self.view_is) c.requires.room in
    let target : ℕ = c.least_free-target.result in
    let small = c.least_free-target.ensures.small in
    let free : is_among target s.segments.items ≡ false = ap (λ (l : List SegmentInfo). is_among target l) (sym c.deref.ensures.value) ∙ c.least_free-target.ensures.free in
    let segments_are : c.in_ok-segments.segments.items ≡ s.segments.items ++ new_info table target ∷ [] = c.in_ok-segments.ensures ∙ ap (λ (l : List SegmentInfo). l ++ new_info table target ∷ []) c.deref-2.ensures.value in
    let text_is : c.as_slice.result.now ≡ manifest_text (manifest_of (with_segment table target) table.end) =
    c.as_slice.ensures ∙ c.in_ok-text.ensures
    ∙ ap (λ (l : List SegmentInfo). manifest_text (record { settings = s.settings; next_generation = s.next_generation + 1; floor = s.end; live = lives_of l })) (c.deref-3.ensures.value ∙ segments_are) in
    record {
      good = good;
      target_is = c.least_free-target.ensures.least ∙ ap (λ (l : List SegmentInfo). free_from s.settings.segments 0 l) c.deref.ensures.value;
      free = free;
      segments_are = segments_are;
      manifest = next_manifest table good fresh packed target small free;
      rolling = rolling_from table good fresh packed target small free c.as_slice.result.now text_is;
      short = short_text table good fresh packed target small free c.as_slice.result.now text_is;
      after = rolled_is_good table good fresh packed target small free c.as_slice.result.now text_is;
    }

pub returns-in_err-segments-clause-during : goal.returns-in_err-segments-clause-during
returns-in_err-segments-clause-during g c =
    let s = c.self.inside in
    let table = table_of s.settings s.segments.items s.next_generation s.end s.slots s.tokens in
    rw (← c.self.view_is) (λ t placed log. nothing_kept table (least_free table) (g.D.Disk.content s.disk) placed c.self.invariant.0 log)

pub returns-in_err-text-clause-during : goal.returns-in_err-text-clause-during
returns-in_err-text-clause-during g c =
    let s = c.self.inside in
    let table = table_of s.settings s.segments.items s.next_generation s.end s.slots s.tokens in
    rw (← c.self.view_is) (λ t placed log. nothing_kept table (least_free table) (g.D.Disk.content s.disk) placed c.self.invariant.0 log)

pub returns-in_err-segments-clause-visible : goal.returns-in_err-segments-clause-visible
returns-in_err-segments-clause-visible g c =
    let s = c.self.inside in
    let table = table_of s.settings s.segments.items s.next_generation s.end s.slots s.tokens in
    rw (← c.self.view_is) (λ t placed log. visible_there table c.self.invariant.0 (g.D.Disk.content s.disk) placed log)

pub returns-in_err-text-clause-visible : goal.returns-in_err-text-clause-visible
returns-in_err-text-clause-visible g c =
    let s = c.self.inside in
    let table = table_of s.settings s.segments.items s.next_generation s.end s.slots s.tokens in
    rw (← c.self.view_is) (λ t placed log. visible_there table c.self.invariant.0 (g.D.Disk.content s.disk) placed log)

pub manifest_bytes-requires : goal.manifest_bytes-requires
manifest_bytes-requires g c =
    let s = c.self.inside in
    let table = table_of s.settings s.segments.items s.next_generation s.end s.slots s.tokens in
    let fresh = subst (λ (v : LogState g.row.D.Denot). is_worn v.table ≡ false) (sym c.self.view_is) c.requires.fresh in
    let packed = subst (λ (v : LogState g.row.D.Denot). is_packed v.table ≡ false) (sym c.self.view_is) c.requires.room in
    let target : ℕ = c.least_free-target.result in
    let free : is_among target s.segments.items ≡ false = ap (λ (l : List SegmentInfo). is_among target l) (sym c.deref.ensures.value) ∙ c.least_free-target.ensures.free in
    let segments_are : c.deref-3.result.now ≡ s.segments.items ++ new_info table target ∷ [] = c.deref-3.ensures.value ∙ c.in_ok-segments.ensures ∙ ap (λ (l : List SegmentInfo). l ++ new_info table target ∷ []) c.deref-2.ensures.value in
    subst (λ (l : List SegmentInfo). IsManifest (record { settings = s.settings; next_generation = s.next_generation + 1; floor = s.end; live = lives_of l })) (sym segments_are)
    (next_manifest table c.self.invariant.0 fresh packed target c.least_free-target.ensures.small free)

pub name_segment-requires-clause-short : goal.name_segment-requires-clause-short
name_segment-requires-clause-short g c =
    (rolls g (goal.at.name_segment-requires-clause-short g c).After-as_slice).short

pub name_segment-requires-clause-settled : goal.name_segment-requires-clause-settled
name_segment-requires-clause-settled g c =
    let s = c.self.inside in λ t.
    let standing = c.self.invariant.2 t (ap (λ (v : LogState g.row.D.Denot). v.down) c.self.view_is ∙ c.requires.up) in λ bytes image.
    (both_same (g.D.Disk.content s.disk).seen bytes ((standing.1).settled bytes image)).manifest

pub invariant_of-self : goal.invariant_of-self
invariant_of-self g c =
    let s = c.self.inside in
    let table = table_of s.settings s.segments.items s.next_generation s.end s.slots s.tokens in
    let it = rolls g (goal.at.invariant_of-self g c).After-as_slice in
    let slots = c.name_segment.new.slots in
    let new = g.D.Disk.content c.name_segment.new.disk in (
      subst (λ (l : List SegmentInfo). IsTable (table_of s.settings l (s.next_generation + 1) s.end slots s.tokens)) (sym it.segments_are) (it.after slots c.in-Ok.ensures.slots),
      c.name_segment.ensures.size ∙ c.self.invariant.1,
      λ t up. let standing = c.self.invariant.2 t up in (
        standing.0,
        subst (λ (l : List SegmentInfo). IsLog (table_of s.settings l (s.next_generation + 1) s.end slots s.tokens) new standing.0) (sym it.segments_are)
            (c.in-Ok.ensures.rolled t table c.least_free-target.result standing.0 it.rolling c.place_of-place.ensures.place standing.1),
        standing.2,
      ),
    )

pub returns-in-Ok-clause-during : goal.returns-in-Ok-clause-during
returns-in-Ok-clause-during g c =
    let s = c.self.inside in
    let table = table_of s.settings s.segments.items s.next_generation s.end s.slots s.tokens in
    let it = rolls g (goal.at.returns-in-Ok-clause-during g c).After-as_slice in
    rw (← c.self.view_is) (λ t placed log.
    subst (λ (f : ℕ). ChangesBy (KeepsLog s.settings f (records_of placed) s.end) (g.D.Disk.content s.disk) (g.D.Disk.content c.name_segment.new.disk)) it.target_is
    (c.name_segment.ensures.during t table c.least_free-target.result placed it.rolling c.place_of-place.ensures.place log))

pub returns-in-Err-clause-during : goal.returns-in-Err-clause-during
returns-in-Err-clause-during g c =
    let s = c.self.inside in
    let table = table_of s.settings s.segments.items s.next_generation s.end s.slots s.tokens in
    let it = rolls g (goal.at.returns-in-Err-clause-during g c).After-as_slice in
    rw (← c.self.view_is) (λ t placed log.
    subst (λ (f : ℕ). ChangesBy (KeepsLog s.settings f (records_of placed) s.end) (g.D.Disk.content s.disk) (g.D.Disk.content c.name_segment.new.disk)) it.target_is
    (c.name_segment.ensures.during t table c.least_free-target.result placed it.rolling c.place_of-place.ensures.place log))

pub returns-in-Ok-clause-rolled : goal.returns-in-Ok-clause-rolled
returns-in-Ok-clause-rolled g c =
    let s = c.self.inside in
    let table = table_of s.settings s.segments.items s.next_generation s.end s.slots s.tokens in
    let it = rolls g (goal.at.returns-in-Ok-clause-rolled g c).After-as_slice in
    let slots = c.name_segment.new.slots in
    let new = g.D.Disk.content c.name_segment.new.disk in
    let rolled : (t : g.D.Disk.tells) → (placed : List Placed) → IsLog table (g.D.Disk.content s.disk) placed → IsLog (table_of s.settings c.in_ok-segments.segments.items (s.next_generation + 1) s.end slots s.tokens) new placed = λ t placed log.
    subst (λ (l : List SegmentInfo). IsLog (table_of s.settings l (s.next_generation + 1) s.end slots s.tokens) new placed) (sym it.segments_are)
    (c.in-Ok.ensures.rolled t table c.least_free-target.result placed it.rolling c.place_of-place.ensures.place log) in
    rw (← c.self.view_is) rolled

pub returns-in-Ok-clause-visible : goal.returns-in-Ok-clause-visible
returns-in-Ok-clause-visible g c =
    let s = c.self.inside in
    let table = table_of s.settings s.segments.items s.next_generation s.end s.slots s.tokens in
    let it = rolls g (goal.at.returns-in-Ok-clause-visible g c).After-as_slice in
    let target : ℕ = c.least_free-target.result in
    let some : 1 ≤ s.settings.segment = omega (arith, it.good.settings.least) in
    rw (← c.self.view_is) (λ t placed log. visible_elsewhere table it.good (g.D.Disk.content s.disk) placed log target (g.D.Disk.content c.name_segment.new.disk).seen it.free (c.name_segment.ensures.outside t s.settings.segment target some c.place_of-place.ensures.place))

pub returns-in-Err-clause-visible : goal.returns-in-Err-clause-visible
returns-in-Err-clause-visible g c =
    let s = c.self.inside in
    let table = table_of s.settings s.segments.items s.next_generation s.end s.slots s.tokens in
    let it = rolls g (goal.at.returns-in-Err-clause-visible g c).After-as_slice in
    let target : ℕ = c.least_free-target.result in
    let some : 1 ≤ s.settings.segment = omega (arith, it.good.settings.least) in
    rw (← c.self.view_is) (λ t placed log. visible_elsewhere table it.good (g.D.Disk.content s.disk) placed log target (g.D.Disk.content c.name_segment.new.disk).seen it.free (c.name_segment.ensures.outside t s.settings.segment target some c.place_of-place.ensures.place))

pub returns-in-Ok-clause-layout : goal.returns-in-Ok-clause-layout
returns-in-Ok-clause-layout g c =
    let s = c.self.inside in
    let table = table_of s.settings s.segments.items s.next_generation s.end s.slots s.tokens in
    let it = rolls g (goal.at.returns-in-Ok-clause-layout g c).After-as_slice in
    rw (← c.self.view_is)
    (ap (λ (l : List SegmentInfo). layout_of (table_of s.settings l (s.next_generation + 1) s.end c.name_segment.new.slots s.tokens)) it.segments_are
    ∙ rolled_layout table c.least_free-target.result c.name_segment.new.slots (ap (λ (slots : CurrentSlot). slots.sequence) c.in-Ok.ensures.slots))

pub returns-in-Ok-clause-zero : goal.returns-in-Ok-clause-zero
returns-in-Ok-clause-zero g c =
    let s = c.self.inside in
    let table = table_of s.settings s.segments.items s.next_generation s.end s.slots s.tokens in
    let it = rolls g (goal.at.returns-in-Ok-clause-zero g c).After-as_slice in
    let new = g.D.Disk.content c.name_segment.new.disk in
    let zero : (t : g.D.Disk.tells) → IsZeroed (place_of s.settings.segment (least_free table)) new = λ t.
    subst (λ (k : ℕ). IsZeroed k new) (c.place_of-place.ensures.place ∙ ap (λ (k : ℕ). place_of s.settings.segment k) it.target_is) (c.in-Ok.ensures.zero t) in
    rw (← c.self.view_is) zero
