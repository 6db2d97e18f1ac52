-- The layout that bytes have, and how it grows.
use Rattle.std.proofs.Common.{◌≡◌, inl, inr, ℕ, suc, ◌+◌, ◌≤◌, max, List, [], ◌∷◌, length, None, refl, sym, ◌∙◌, ap, subst, arith, length-append}
use Rattle.disk_core.specs.Content.{Content, range}
use Rattle.gate_slots.specs.Cell.{Cell, cell_at}
use Rattle.gate_slots.specs.Slots.{CurrentSlot, IsLoaded}
use Rattle.gate_slots.proofs.OtherSlot.{cell_same}
use Rattle.log_manifest.specs.declared.manifest.LogSettings.{LogSettings}
use Rattle.log_manifest.specs.declared.manifest.Manifest.{Manifest}
use Rattle.msg_format.specs.declared.record.Record.{Record}
use Rattle.part_log.specs.declared.segment.SegmentInfo.{SegmentInfo}
use Rattle.part_log.specs.Records.{Written, entries_of, RisesFrom, next_after, Placed}
use Rattle.part_log.specs.Segments.{last_used, with_more}
use Rattle.part_log.specs.Images.{AllHold, joined, last_size, HasLayout, IsLaidOut, StandsFor}
use Rattle.part_log.specs.Layout.{Layout, first_layout, with_new_segment, with_size}
use Rattle.part_log.specs.Log.{LogTable, AllSized, IsLog, IsShown, IsTable, grown, layout_of, manifest_of, new_info, rolled_table}
use Rattle.part_log.proofs.Fronts.{all_hold, both_same}
use Rattle.part_log.proofs.Manifests.{length-lives_of, lower_floor}
use Rattle.part_log.proofs.Meaning.{both_logs, not_new, one_manifest, one_parts}
use Rattle.part_log.proofs.Room.{last_used-append}

-- layouts with the same six numbers are the same
same_layout : (k l : Layout) → k.in_use ≡ l.in_use → k.used ≡ l.used → k.end ≡ l.end → k.next_generation ≡ l.next_generation → k.sequence ≡ l.sequence → k.tokens ≡ l.tokens → k ≡ l
same_layout k l in_use used end next sequence tokens = λ i. record { in_use = in_use i; used = used i; end = end i; next_generation = next i; sequence = sequence i; tokens = tokens i }

both_layouts : (settings : LogSettings) (bytes : List ℕ) (k l : Layout) → HasLayout settings bytes k → HasLayout settings bytes l → k ≡ l
both_layouts settings bytes k l one two =
    let manifest : one.log.manifest ≡ two.log.manifest = one_manifest one.log.manifest two.log.manifest bytes one.log.has two.log.has in
    let parts : one.log.parts ≡ two.log.parts = one_parts settings.segment bytes two.log.manifest.live one.log.parts two.log.parts (subst (λ (x : Manifest). AllHold settings.segment bytes x.live one.log.parts) manifest one.log.hold) two.log.hold in
    same_layout k l
    (one.in_use ∙ ap (λ (x : Manifest). length x.live) manifest ∙ sym two.in_use)
    (one.used ∙ ap last_size parts ∙ sym two.used)
    (both_logs settings bytes one.records two.records k.end l.end one.log two.log).end
    (one.next_generation ∙ ap (λ (x : Manifest). x.next_generation) manifest ∙ sym two.next_generation)
    (one.sequence ∙ sym two.sequence)
    (one.tokens ∙ sym two.tokens)

not_both : (settings : LogSettings) (bytes : List ℕ) (k : Layout) → HasLayout settings bytes k → (cell_at 0 bytes).value ≡ None → ⊥
not_both settings bytes k one none = not_new settings bytes one.records [] k.end 0 one.log (record { none = none; empty = refl; first = refl })

-- bytes have one layout
pub one_layout : (settings : LogSettings) (bytes : List ℕ) (k l : Layout) → IsLaidOut settings bytes k → IsLaidOut settings bytes l → k ≡ l
one_layout settings bytes k l (inl one) (inl two) = both_layouts settings bytes k l one two
one_layout settings bytes k l (inl one) (inr two) = absurd (not_both settings bytes k one two.0)
one_layout settings bytes k l (inr one) (inl two) = absurd (not_both settings bytes l two one.0)
one_layout settings bytes k l (inr one) (inr two) = one.1 ∙ sym two.1

-- and where they stand for records they have one
pub some_layout : (settings : LogSettings) (bytes : List ℕ) (xs : List Record) (n : ℕ) → StandsFor settings bytes xs n → (layout : Layout) × IsLaidOut settings bytes layout
some_layout settings bytes xs n (inl log) = (
  record { in_use = length log.manifest.live; used = last_size log.parts; end = n; next_generation = log.manifest.next_generation; sequence = (cell_at 0 bytes).sequence; tokens = (cell_at 2048 bytes).sequence },
  inl (record { records = xs; log = log; in_use = refl; used = refl; next_generation = refl; sequence = refl; tokens = refl }),
)
some_layout settings bytes xs n (inr new) = (first_layout (cell_at 2048 bytes).sequence, inr (new.none, refl))

-- the used bytes of the last segment are those of its records
sized_last : (infos : List SegmentInfo) (parts : List (List Written)) → AllSized infos parts → last_used infos ≡ last_size parts
sized_last [] [] sized = refl
sized_last [] (part ∷ parts) sized = absurd sized
sized_last (info ∷ infos) [] sized = absurd sized
sized_last (info ∷ []) (part ∷ []) sized = sized.0
sized_last (info ∷ []) (part ∷ p ∷ parts) sized = absurd sized.2
sized_last (info ∷ other ∷ infos) (part ∷ []) sized = absurd sized.2
sized_last (info ∷ other ∷ infos) (part ∷ p ∷ parts) sized = sized_last (other ∷ infos) (p ∷ parts) sized.2

-- bytes that show a table's records have its layout
pub shown_layout : (table : LogTable) (floor : ℕ) (parts : List (List Written)) (c : List ℕ) → IsTable table → AllSized table.segments parts → RisesFrom 0 (joined parts)
    → table.end ≡ max floor (next_after 0 (joined parts)) → IsShown table floor parts c → table.slots.sequence ≡ (cell_at 0 c).sequence → table.tokens.sequence ≡ (cell_at 2048 c).sequence → HasLayout table.settings c (layout_of table)
shown_layout table floor parts c good sized rises ends shown sequence tokens = record {
  records = entries_of (joined parts);
  log = record {
    manifest = manifest_of table floor;
    has = record { value = shown.value; good = lower_floor table table.end floor (omega (arith, ends)) good.manifest };
    same = refl;
    parts = parts;
    hold = all_hold table.settings.segment table.segments parts c good.fit sized shown.fronts;
    all = refl;
    rises = rises;
    ends = ends;
  };
  in_use = sym (length-lives_of table.segments);
  used = sized_last table.segments parts sized;
  next_generation = refl;
  sequence = sequence;
  tokens = tokens;
}

-- the sequence of a cell that was loaded and is still the same
pub sequence_same : (place : ℕ) (slots : CurrentSlot) (c seen : List ℕ) → slots.base ≡ place → range place 2048 c ≡ range place 2048 seen → IsLoaded slots seen → slots.sequence ≡ (cell_at place c).sequence
sequence_same place slots c seen base same loaded = sym (ap (λ (x : Cell). x.sequence) (cell_same place c seen same) ∙ subst (λ (b : ℕ). (cell_at b seen).sequence ≡ slots.sequence) base loaded.sequence)

-- whatever a crash leaves of a log has its layout
pub log_layout : (table : LogTable) (content : Content) (placed : List Placed) → IsTable table → IsLog table content placed → (c : List ℕ) → content.images c → IsLaidOut table.settings c (layout_of table)
log_layout table content placed good log c image =
    let same = both_same content.seen c (log.settled c image) in
    inl (shown_layout table log.floor log.parts c good log.sized log.rises log.ends (log.shown c image)
    (sequence_same 0 table.slots c content.seen good.base same.manifest log.loaded)
    (sequence_same 2048 table.tokens c content.seen good.tokens.base same.tokens log.tokens))

-- the layout after a roll
pub rolled_layout : (table : LogTable) (target : ℕ) (slots : CurrentSlot) → slots.sequence ≡ table.slots.sequence + 1 → layout_of (rolled_table table target slots) ≡ with_new_segment (layout_of table)
rolled_layout table target slots sequence = same_layout (layout_of (rolled_table table target slots)) (with_new_segment (layout_of table))
    (length-append table.segments (new_info table target ∷ []))
    (last_used-append table.segments (new_info table target))
    refl
    refl
    sequence
    refl

length-with_more : (infos : List SegmentInfo) (size : ℕ) → length (with_more infos size) ≡ length infos
length-with_more [] size = refl
length-with_more (info ∷ []) size = refl
length-with_more (info ∷ other ∷ infos) size = ap (λ (n : ℕ). suc n) (length-with_more (other ∷ infos) size)

last_used-with_more : (infos : List SegmentInfo) (size : ℕ) → 1 ≤ length infos → last_used (with_more infos size) ≡ last_used infos + size
last_used-with_more [] size some = absurd (omega (arith, some))
last_used-with_more (info ∷ []) size some = refl
last_used-with_more (info ∷ x ∷ []) size some = refl
last_used-with_more (info ∷ x ∷ y ∷ infos) size some = last_used-with_more (x ∷ y ∷ infos) size (omega arith)

-- the layout with a record more
pub grown_layout : (table : LogTable) (size : ℕ) → IsTable table → layout_of (grown table size) ≡ with_size (layout_of table) size
grown_layout table size good = same_layout (layout_of (grown table size)) (with_size (layout_of table) size)
    (length-with_more table.segments size)
    (last_used-with_more table.segments size (omega (arith, good.manifest.some, length-lives_of table.segments)))
    refl
    refl
    refl
    refl
