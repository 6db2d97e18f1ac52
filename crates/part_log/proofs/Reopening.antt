-- A log that was read from its disk.
use Rattle.std.proofs.Common.{◌≡◌, ℕ, ◌+◌, ◌*◌, ◌<◌, ◌≤◌, ◌^◌, max, List, Some, All, Bool, if◌then◌else◌, get_or, sym, ◌∙◌, ap, subst, arith, mul-le-mul_right}
use Rattle.disk_core.specs.Content.{Content, ChangesBy, Only, Same, range}
use Rattle.disk_core.proofs.Changes.{chain, widen, same_image}
use Rattle.gate_slots.specs.Cell.{cell_at, current_place}
use Rattle.gate_slots.specs.Slots.{CurrentSlot, IsLoaded}
use Rattle.log_manifest.specs.declared.manifest.LogSettings.{LogSettings}
use Rattle.log_manifest.specs.declared.manifest.Live.{Live}
use Rattle.log_manifest.specs.declared.manifest.Manifest.{Manifest}
use Rattle.log_manifest.specs.Manifests.{IsManifest, manifest_text}
use Rattle.msg_format.specs.declared.record.Record.{Record}
use Rattle.part_log.specs.declared.segment.SegmentInfo.{SegmentInfo}
use Rattle.part_log.specs.Records.{Written, next_after, records_of}
use Rattle.part_log.specs.Segments.{place_of, lives_of, with_firsts}
use Rattle.part_log.specs.Images.{joined, HasLog, HasBadRecord, EndBadly, IsLaidOut, OpensLog, manifest_gate}
use Rattle.part_log.specs.Log.{LogTable, AreInRange, AllFit, IsLog, IsShown, IsTable, IsTokenSlot, layout_of, manifest_of, placed_in, disk_size}
use Rattle.part_log.specs.Scan.{AreRead}
use Rattle.part_log.proofs.Manifests.{higher_floor}
use Rattle.part_log.proofs.Segments.{no_write}
use Rattle.part_log.proofs.Fronts.{shown_stands, records_of-placed_in}
use Rattle.part_log.proofs.Layouts.{log_layout}
use Rattle.part_log.proofs.Lives.{lives_filled, sized_filled, fit_filled, fronts_filled, placed_filled, firsts_filled}
use Rattle.part_log.proofs.Tables.{table_of}

module _ (manifest : Manifest) (good : IsManifest manifest) (ranges : AreInRange manifest.settings) (infos : List SegmentInfo) (lives : lives_of infos ≡ manifest.live) (fit : AllFit manifest.settings.segment infos)
    (slots : CurrentSlot) (base : slots.base ≡ 0) (sequence : slots.sequence < 2 ^ 63) (tokens : CurrentSlot) (tokens_good : IsTokenSlot tokens) (next end : ℕ) (end_is : end ≡ max manifest.floor next) (most : next ≤ 2 ^ 63) where
  abbrev pub read_table : LogTable
  read_table = table_of manifest.settings (with_firsts infos end) manifest.next_generation end slots tokens

  manifest_is : manifest ≡ record { settings = manifest.settings; next_generation = manifest.next_generation; floor = manifest.floor; live = lives_of (with_firsts infos end) }
  manifest_is = ap (λ (l : List Live). record { settings = manifest.settings; next_generation = manifest.next_generation; floor = manifest.floor; live = l }) (sym (lives_filled infos end ∙ lives))

  named : IsManifest (manifest_of (table_of manifest.settings (with_firsts infos end) manifest.next_generation end slots tokens) manifest.floor)
  named = subst (λ (m : Manifest). IsManifest m) manifest_is good

  pub table_good : IsTable (table_of manifest.settings (with_firsts infos end) manifest.next_generation end slots tokens)
  table_good = record {
    settings = ranges;
    manifest = higher_floor (table_of manifest.settings (with_firsts infos end) manifest.next_generation end slots tokens) manifest.floor end (omega (arith, end_is, most, good.floor)) named;
    fit = fit_filled manifest.settings.segment infos end fit;
    base = base;
    sequence = sequence;
    tokens = tokens_good;
  }

  module _ (content : Content) (parts : List (List Written)) (read : AreRead manifest.settings.segment content.seen infos next parts) (value : (cell_at 0 content.seen).value ≡ Some (manifest_text manifest)) where
    its_end : end ≡ max manifest.floor (next_after 0 (joined parts))
    its_end = end_is ∙ ap (λ (n : ℕ). max manifest.floor n) read.next_is

    shown : IsShown (table_of manifest.settings (with_firsts infos end) manifest.next_generation end slots tokens) manifest.floor parts content.seen
    shown = record {
      value = value ∙ ap (λ (m : Manifest). Some (manifest_text m)) manifest_is;
      fronts = fronts_filled manifest.settings.segment infos parts end content.seen read.fronts;
    }

    pub read_log : IsLoaded slots content.seen → IsLoaded tokens content.seen → Only content → IsLog (table_of manifest.settings (with_firsts infos end) manifest.next_generation end slots tokens) content (placed_in manifest.settings.segment infos parts)
    read_log loaded tokens_loaded only = record {
      floor = manifest.floor;
      parts = parts;
      sized = sized_filled infos parts end read.sized;
      all = sym (placed_filled manifest.settings.segment infos parts end);
      rises = read.rises;
      firsts = firsts_filled infos parts end read.sized read.known;
      ends = its_end;
      shown = λ c image. subst (λ (l : List ℕ). IsShown (table_of manifest.settings (with_firsts infos end) manifest.next_generation end slots tokens) manifest.floor parts l) (sym (only c image)) shown;
      loaded = loaded;
      tokens = tokens_loaded;
      settled = λ c image. ap (range 0 4096) (only c image);
    }

    pub read_laid : IsLoaded slots content.seen → IsLoaded tokens content.seen → Only content → IsLaidOut manifest.settings content.seen (layout_of (table_of manifest.settings (with_firsts infos end) manifest.next_generation end slots tokens))
    read_laid loaded tokens_loaded only =
        log_layout (table_of manifest.settings (with_firsts infos end) manifest.next_generation end slots tokens) content (placed_in manifest.settings.segment infos parts) table_good (read_log loaded tokens_loaded only) content.seen content.sees

    pub read_stands : HasLog manifest.settings content.seen (records_of (placed_in manifest.settings.segment infos parts)) end
    read_stands = subst (λ (l : List Record). HasLog manifest.settings content.seen l end) (sym (records_of-placed_in manifest.settings.segment infos parts read.sized))
        (shown_stands (table_of manifest.settings (with_firsts infos end) manifest.next_generation end slots tokens) manifest.floor parts content.seen table_good (sized_filled infos parts end read.sized) read.rises its_end shown)

-- each live segment lies on the disk
pub lives_inside : (manifest : Manifest) (size : ℕ) → IsManifest manifest → size ≡ disk_size manifest.settings → All (λ (live : Live). place_of manifest.settings.segment live.segment + manifest.settings.segment ≤ size) manifest.live
lives_inside manifest size good is = λ k d lt.
    let small = (good.each k d lt).segment in
    let more : ((get_or manifest.live k d).segment + 1) * manifest.settings.segment ≤ manifest.settings.segments * manifest.settings.segment = mul-le-mul_right manifest.settings.segment (omega (arith, small)) in
    omega (arith, more, is)

-- what stood for the records still does where nothing changed
pub opens_none : (settings : LogSettings) (d : List ℕ) → OpensLog settings d d
opens_none settings d = record { changes = no_write settings.segment 0 d; stands = λ records end stands. stands; layout = λ layout laid. laid }

pub opens_same : (settings : LogSettings) (old new : Content) → ChangesBy Same old new → ChangesBy (OpensLog settings) old new
opens_same settings old new changes = widen Same (OpensLog settings) old new changes (λ d c image same. subst (λ (l : List ℕ). OpensLog settings d l) (sym same) (opens_none settings d))

pub opens_after : (settings : LogSettings) (old mid new : Content) → ChangesBy Same old mid → ChangesBy (OpensLog settings) mid new → ChangesBy (OpensLog settings) old new
opens_after settings old mid new first second = chain Same (OpensLog settings) (OpensLog settings) old mid new first second
    (λ d c image same. subst (λ (l : List ℕ). OpensLog settings d l) (sym same) (opens_none settings d))
    (λ e c image by. (e, same_image old mid first e image, by))

pub damaged_named : (settings : LogSettings) (bytes : List ℕ) (manifest : Manifest) (text : List ℕ) (at : ℕ) → (cell_at 0 bytes).value ≡ Some text → text ≡ manifest_text manifest → IsManifest manifest → manifest.settings ≡ settings → EndBadly manifest.settings.segment bytes manifest.live at → HasBadRecord settings bytes at
damaged_named settings bytes manifest text at value is good same bad = record {
  manifest = manifest;
  has = record { value = value ∙ ap (λ (l : List ℕ). Some l) is; good = good };
  same = same;
  bad = subst (λ (s : LogSettings). EndBadly s.segment bytes manifest.live at) same bad;
}

-- the place of the gate of the manifest's current slot
pub gate_is : (slots : CurrentSlot) (seen : List ℕ) (place : ℕ) → slots.base ≡ 0 → IsLoaded slots seen → place ≡ current_place slots.base slots.second → place ≡ manifest_gate seen
gate_is slots seen place base loaded is =
    let second_is : (cell_at 0 seen).second ≡ slots.second = subst (λ (b : ℕ). (cell_at b seen).second ≡ slots.second) base loaded.second in
    is ∙ ap (λ (b : ℕ). current_place b slots.second) base ∙ ap (λ (s : Bool). if s then 1024 else 0) (sym second_is)
