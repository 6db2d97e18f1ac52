-- A new disk is given its first manifest.
use Rattle.std.proofs.Common.{◌≡◌, inl, inr, ⊎_elim, ℕ, ◌+◌, ◌<◌, ◌^◌, List, [], ◌∷◌, get_or, Option, Some, None, false, refl, sym, ◌∙◌, ap, subst, arith, lit≤}
use Rattle.disk_core.specs.Content.{Content, ChangesBy, Only, Holds, Torn, range}
use Rattle.disk_core.proofs.Ranges.{range-torn}
use Rattle.disk_core.proofs.Changes.{widen, chain, image_from}
use Rattle.gate_slots.specs.Cell.{Cell, cell_at, ReplacesCell}
use Rattle.gate_slots.specs.Slots.{CurrentSlot, IsLoaded}
use Rattle.gate_slots.proofs.Cells.{none_sequence}
use Rattle.gate_slots.proofs.Gates.{byte_at}
use Rattle.gate_slots.proofs.OtherSlot.{cell_same}
use Rattle.log_manifest.specs.declared.manifest.LogSettings.{LogSettings}
use Rattle.log_manifest.specs.Manifests.{IsManifest, IsLive, manifest_text}
use Rattle.msg_format.specs.declared.record.Record.{Record}
use Rattle.part_log.specs.Segments.{place_of, ChangesIn}
use Rattle.part_log.specs.Images.{HasLayout, HasLog, IsLaidOut, StandsFor, OpensLog}
use Rattle.part_log.specs.Layout.{Layout, first_layout}
use Rattle.part_log.specs.Log.{AreInRange, IsLog, IsShown, IsTable, IsTokenSlot, first_table, layout_of, manifest_of}
use Rattle.part_log.proofs.Fronts.{shown_stands, value_same, loaded_same}
use Rattle.part_log.proofs.Layouts.{shown_layout, sequence_same}
use Rattle.part_log.proofs.Segments.{write_first, write_cell, writes_twice}

none_or_some : (v : Option (List ℕ)) (bytes : List ℕ) → v ≡ None → v ≡ Some bytes → ⊥
none_or_some v bytes none some = let both : None ≡ Some bytes = sym none ∙ some in absurd (cc both)

-- what stands for a new disk still does when its manifest's cell has no value
still_new : (settings : LogSettings) (d c : List ℕ) (records : List Record) (end : ℕ) → (cell_at 0 d).value ≡ None → (cell_at 0 c).value ≡ None → StandsFor settings d records end → StandsFor settings c records end
still_new settings d c records end none still (inl log) = absurd (none_or_some (cell_at 0 d).value (manifest_text log.manifest) none log.has.value)
still_new settings d c records end none still (inr new) = inr (record { none = still; empty = new.empty; first = new.first })

-- a change in one segment and the manifest's cell leaves the token cell
tokens_stay : (segment : ℕ) (d c : List ℕ) → ChangesIn segment 0 d c → (cell_at 2048 c).sequence ≡ (cell_at 2048 d).sequence
tokens_stay segment d c changes = ap (λ (x : Cell). x.sequence) (cell_same 2048 c d changes.token_cell)

-- and so does its layout, where the token cell stays
still_laid : (settings : LogSettings) (d c : List ℕ) (layout : Layout) → (cell_at 2048 c).sequence ≡ (cell_at 2048 d).sequence → (cell_at 0 d).value ≡ None → (cell_at 0 c).value ≡ None → IsLaidOut settings d layout → IsLaidOut settings c layout
still_laid settings d c layout tokens none still (inl was) = absurd (none_or_some (cell_at 0 d).value (manifest_text was.log.manifest) none was.log.has.value)
still_laid settings d c layout tokens none still (inr new) = inr (still, new.1 ∙ ap (λ (n : ℕ). first_layout n) (sym tokens))

-- and a disk that was new stands for the empty log
named_new : (settings : LogSettings) (records : List Record) (end : ℕ) (d c : List ℕ) → (cell_at 0 d).value ≡ None → HasLog settings c [] 0 → StandsFor settings d records end → StandsFor settings c records end
named_new settings records end d c none log (inl was) = absurd (none_or_some (cell_at 0 d).value (manifest_text was.manifest) none was.has.value)
named_new settings records end d c none log (inr new) = inl (subst (λ (n : ℕ). HasLog settings c records n) (sym new.first) (subst (λ (l : List Record). HasLog settings c l 0) (sym new.empty) log))

-- and has the first layout
named_laid : (settings : LogSettings) (d c : List ℕ) (layout : Layout) → (cell_at 0 d).value ≡ None → HasLayout settings c (first_layout (cell_at 2048 d).sequence) → IsLaidOut settings d layout → IsLaidOut settings c layout
named_laid settings d c layout none laid (inl was) = absurd (none_or_some (cell_at 0 d).value (manifest_text was.log.manifest) none was.log.has.value)
named_laid settings d c layout none laid (inr new) = inl (subst (λ (l : Layout). HasLayout settings c l) (sym new.1) laid)

pub first_manifest : (settings : LogSettings) (slots tokens : CurrentSlot) → AreInRange settings → IsManifest (manifest_of (first_table settings slots tokens) 0)
first_manifest settings slots tokens ranges = record {
  segment = omega (arith, ranges.greatest);
  segments = omega (arith, ranges.most);
  index = omega (arith, ranges.index_most);
  next_generation = lit≤ tt;
  floor = lit≤ tt;
  some = omega arith;
  few = omega (arith, ranges.fewest);
  each = λ k d lt. let first : k ≡ 0 = omega (arith, lt) in subst (λ (j : ℕ). IsLive (manifest_of (first_table settings slots tokens) 0) (get_or (record { segment = 0; generation = 0 } ∷ []) j d)) (sym first) (record { segment = omega (arith, ranges.fewest); generation = omega arith });
  segments_apart = λ i j d lt short. absurd (omega (arith, lt, short));
  generations_apart = λ i j d lt short. absurd (omega (arith, lt, short));
}

pub first_good : (settings : LogSettings) (slots tokens : CurrentSlot) → AreInRange settings → slots.base ≡ 0 → slots.sequence < 2 ^ 63 → IsTokenSlot tokens → IsTable (first_table settings slots tokens)
first_good settings slots tokens ranges base below tokens_good = record {
  settings = ranges;
  manifest = first_manifest settings slots tokens ranges;
  fit = (omega arith, tt);
  base = base;
  sequence = below;
  tokens = tokens_good;
}

pub first_layout_is : (settings : LogSettings) (slots tokens : CurrentSlot) → slots.sequence ≡ 1 → layout_of (first_table settings slots tokens) ≡ first_layout tokens.sequence
first_layout_is settings slots tokens first = ap (λ (n : ℕ). record { in_use = 1; used = 0; end = 0; next_generation = 1; sequence = n; tokens = tokens.sequence }) first

-- what holds of each image holds of the bytes that are seen
pub opens_seen : (settings : LogSettings) (old new : Content) → Only old → ChangesBy (OpensLog settings) old new → OpensLog settings old.seen new.seen
opens_seen settings old new only opens = let from = image_from (OpensLog settings) old new opens new.seen new.sees in subst (λ (l : List ℕ). OpensLog settings l new.seen) (only from.0 from.1) from.2

module _ (settings : LogSettings) (ranges : AreInRange settings) (place : ℕ) (is : place ≡ 4096) (old mid : Content) (only : Only old) (none : (cell_at 0 old.seen).value ≡ None) (write : ChangesBy (Torn place 1) old mid) where
  at_first : place ≡ place_of settings.segment 0
  at_first = omega (arith, is)

  still_none : (d c : List ℕ) → old.images d → Torn place 1 d c → (cell_at 0 c).value ≡ None
  still_none d c image torn = value_same c d None (range-torn place 1 0 2048 d c torn (inl (omega (arith, is)))) (ap (λ (l : List ℕ). (cell_at 0 l).value) (only d image) ∙ none)

  first_byte : (d c : List ℕ) → Torn place 1 d c → ChangesIn settings.segment 0 d c
  first_byte d c torn = write_first settings.segment 0 place d c (omega (arith, ranges.least)) at_first torn

  pub opens_blank : ChangesBy (OpensLog settings) old mid
  opens_blank = widen (Torn place 1) (OpensLog settings) old mid write (λ d c image torn. record {
    changes = first_byte d c torn;
    stands = λ records end stands. still_new settings d c records end (ap (λ (l : List ℕ). (cell_at 0 l).value) (only d image) ∙ none) (still_none d c image torn) stands;
    layout = λ layout laid. still_laid settings d c layout (tokens_stay settings.segment d c (first_byte d c torn)) (ap (λ (l : List ℕ). (cell_at 0 l).value) (only d image) ∙ none) (still_none d c image torn) laid;
  })

  module _ (new : Content) (slots tokens : CurrentSlot) (tokens_good : IsTokenSlot tokens) (tokens_loaded : IsLoaded tokens old.seen) (text : List ℕ) (text_is : text ≡ manifest_text (manifest_of (first_table settings slots tokens) 0)) (base : slots.base ≡ 0) (below : slots.sequence < 2 ^ 63)
      (holds : Holds place (0 ∷ []) old.seen mid.seen) (only_mid : Only mid) (replaces : ChangesBy (ReplacesCell 0 text) mid new) where
    first_shown : (e c : List ℕ) → mid.images e → ReplacesCell 0 text e c → (cell_at 0 c).value ≡ Some text → IsShown (first_table settings slots tokens) 0 ([] ∷ []) c
    first_shown e c image by value =
        let byte : get_or c (place_of settings.segment 0 + 0) 0 ≡ 0 =
        ap (λ (k : ℕ). get_or c k 0) (let p : place_of settings.segment 0 + 0 ≡ place = omega (arith, is) in p)
        ∙ by.torn.others place (inr (omega (arith, is)))
        ∙ ap (λ (l : List ℕ). get_or l place 0) (only_mid e image)
        ∙ sym (byte_at place mid.seen)
        ∙ ap (λ (l : List ℕ). get_or l 0 0) holds.here in
        record {
          value = value ∙ ap (λ (l : List ℕ). Some l) text_is;
          fronts = (record { front = refl; shut = λ room at. omega (arith, byte, at) }, tt);
        }

    first_stands : (e c : List ℕ) → mid.images e → ReplacesCell 0 text e c → (cell_at 0 c).value ≡ Some text → HasLog settings c [] 0
    first_stands e c image by value = shown_stands (first_table settings slots tokens) 0 ([] ∷ []) c (first_good settings slots tokens ranges base below tokens_good) (refl, tt, tt) tt refl (first_shown e c image by value)

    -- the first table with the sequences that the cells have then
    first_laid : (e c : List ℕ) → mid.images e → ReplacesCell 0 text e c → (cell_at 0 c).value ≡ Some text → (cell_at 0 c).sequence ≡ (cell_at 0 e).sequence + 1 → (cell_at 0 e).value ≡ None → tokens.sequence ≡ (cell_at 2048 c).sequence
        → HasLayout settings c (first_layout tokens.sequence)
    first_laid e c image by value sequence none used =
        let named : CurrentSlot = record { base = 0; sequence = 1; second = false } in
        let shown = first_shown e c image by value in
        shown_layout (first_table settings named tokens) 0 ([] ∷ []) c (first_good settings named tokens ranges refl (lit≤ tt) tokens_good) (refl, tt, tt) tt refl (record { value = shown.value; fronts = shown.fronts }) (sym (sequence ∙ ap (λ (n : ℕ). n + 1) (none_sequence 0 e none))) used

    none_mid : (e : List ℕ) → mid.images e → (cell_at 0 e).value ≡ None
    none_mid e image = let from = image_from (Torn place 1) old mid write e image in still_none from.0 e from.1 from.2

    pub opens_format : ChangesBy (OpensLog settings) old new
    opens_format = chain (OpensLog settings) (ReplacesCell 0 text) (OpensLog settings) old mid new opens_blank replaces
        (λ d c image by. by)
        (λ e c image by.
        let from = image_from (Torn place 1) old mid write e image in
        let none_old : (cell_at 0 from.0).value ≡ None = ap (λ (l : List ℕ). (cell_at 0 l).value) (only from.0 from.1) ∙ none in
        let changes = writes_twice settings.segment 0 from.0 e c (first_byte from.0 e from.2) (write_cell settings.segment 0 e c by.torn) in
        let used : tokens.sequence ≡ (cell_at 2048 c).sequence = sequence_same 2048 tokens c old.seen tokens_good.base (changes.token_cell ∙ ap (range 2048 2048) (only from.0 from.1)) tokens_loaded in (
          from.0,
          from.1,
          record {
            changes = changes;
            stands = λ records end stands. ⊎_elim
                (λ same. still_new settings from.0 c records end none_old (same ∙ none_mid e image) stands)
                (λ named. named_new settings records end from.0 c none_old (first_stands e c image by named.0) stands)
                by.value;
            layout = λ layout laid. ⊎_elim
                (λ same. still_laid settings from.0 c layout (tokens_stay settings.segment from.0 c changes) none_old (same ∙ none_mid e image) laid)
                (λ named. named_laid settings from.0 c layout none_old
                (subst (λ (n : ℕ). HasLayout settings c (first_layout n)) (used ∙ tokens_stay settings.segment from.0 c changes) (first_laid e c image by named.0 named.1 (none_mid e image) used))
                laid)
                by.value;
          },
        ))

    pub first_log : (cell_at 0 new.seen).value ≡ Some text → IsLoaded slots new.seen → Only new → IsLog (first_table settings slots tokens) new []
    first_log value loaded only_new =
        let from = image_from (ReplacesCell 0 text) mid new replaces new.seen new.sees in
        let first = image_from (Torn place 1) old mid write from.0 from.1 in
        let changes = writes_twice settings.segment 0 first.0 from.0 new.seen (first_byte first.0 from.0 first.2) (write_cell settings.segment 0 from.0 new.seen from.2.torn) in
        record {
          floor = 0;
          parts = [] ∷ [];
          sized = (refl, tt, tt);
          all = refl;
          rises = tt;
          firsts = (refl, tt);
          ends = refl;
          shown = λ c image. subst (λ (l : List ℕ). IsShown (first_table settings slots tokens) 0 ([] ∷ []) l) (sym (only_new c image)) (first_shown from.0 new.seen from.1 from.2 value);
          loaded = loaded;
          tokens = loaded_same 2048 tokens old.seen new.seen tokens_good.base (changes.token_cell ∙ ap (range 2048 2048) (only first.0 first.1)) tokens_loaded;
          settled = λ c image. ap (range 0 4096) (only_new c image);
        }
