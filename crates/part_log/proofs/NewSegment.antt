-- A segment more, in which no record stands yet.
use Rattle.std.proofs.Common.{◌≡◌, ◌≢◌, inl, inr, ⊎_elim, ℕ, zero, suc, ◌+◌, ◌<◌, ◌≤◌, ◌^◌, max, List, [], ◌∷◌, ◌++◌, length, get_or, All, Some, refl, sym, ◌∙◌, ap, subst, arith, length-append, add-zero}
use Rattle.std.proofs.lemmas.List.{map-append}
use Rattle.std.proofs.lemmas.List.Elements.{All-push}
use Rattle.std.proofs.lemmas.List.Quantifiers.{all_pairs_push}
use Rattle.disk_core.specs.Content.{Content, ChangesBy, Only, Holds, Torn, range}
use Rattle.disk_core.proofs.Ranges.{range-torn}
use Rattle.disk_core.proofs.Changes.{widen, chain, image_from}
use Rattle.gate_slots.specs.Cell.{cell_at, ReplacesCell}
use Rattle.gate_slots.specs.Slots.{CurrentSlot, IsLoaded}
use Rattle.gate_slots.proofs.Gates.{byte_at}
use Rattle.log_manifest.specs.declared.manifest.Live.{Live}
use Rattle.log_manifest.specs.Manifests.{IsManifest, IsLive, manifest_text, segments_of, generations_of, AreApart}
use Rattle.msg_format.specs.declared.record.Record.{Record}
use Rattle.part_log.specs.declared.segment.SegmentInfo.{SegmentInfo}
use Rattle.part_log.specs.Records.{Written, entries_of, RisesFrom, next_after, first_lsn, Placed, placed_from, records_of}
use Rattle.part_log.specs.Segments.{place_of, lives_of}
use Rattle.part_log.specs.Images.{joined, HasLog, KeepsLog}
use Rattle.part_log.specs.Log.{LogTable, manifest_of, AllFit, IsTable, IsFront, AllFront, AllSized, AllFirst, placed_in, IsShown, IsLog, new_info, with_segment, rolled_table}
use Rattle.part_log.proofs.Segments.{write_in, write_cell, writes_twice}
use Rattle.part_log.proofs.Manifests.{Without, length-lives_of}
use Rattle.part_log.proofs.Fronts.{fronts_stay, shown_stands, value_same, loaded_same, both_same, its_records}

pub lives_of-append : (xs ys : List SegmentInfo) → lives_of (xs ++ ys) ≡ lives_of xs ++ lives_of ys
lives_of-append [] ys = refl
lives_of-append (x ∷ xs) ys = ap (λ (l : List Live). record { segment = x.segment; generation = x.generation } ∷ l) (lives_of-append xs ys)

fit-append : (segment : ℕ) (infos : List SegmentInfo) (info : SegmentInfo) → info.used ≤ segment → AllFit segment infos → AllFit segment (infos ++ info ∷ [])
fit-append segment [] info small fit = (small, tt)
fit-append segment (x ∷ xs) info small fit = (fit.0, fit-append segment xs info small fit.1)

sized-append : (infos : List SegmentInfo) (parts : List (List Written)) (info : SegmentInfo) → info.used ≡ 0 → AllSized infos parts → AllSized (infos ++ info ∷ []) (parts ++ [] ∷ [])
sized-append [] [] info none sized = (none, tt, tt)
sized-append [] (part ∷ parts) info none sized = absurd sized
sized-append (x ∷ xs) [] info none sized = absurd sized
sized-append (x ∷ xs) (part ∷ parts) info none sized = (sized.0, sized.1, sized-append xs parts info none sized.2)

joined-more : (parts : List (List Written)) → joined (parts ++ [] ∷ []) ≡ joined parts
joined-more [] = refl
joined-more (part ∷ parts) = ap (λ (l : List Written). part ++ l) (joined-more parts)

first-append : (infos : List SegmentInfo) (parts : List (List Written)) (info : SegmentInfo) (end : ℕ) → info.first ≡ end → AllSized infos parts → AllFirst infos parts end → AllFirst (infos ++ info ∷ []) (parts ++ [] ∷ []) end
first-append [] [] info end is sized firsts = (is, tt)
first-append [] (part ∷ parts) info end is sized firsts = absurd sized
first-append (x ∷ xs) [] info end is sized firsts = absurd sized
first-append (x ∷ xs) (part ∷ parts) info end is sized firsts = (firsts.0 ∙ ap (λ (l : List Written). first_lsn (part ++ l) end) (sym (joined-more parts)), first-append xs parts info end is sized.2 firsts.1)

placed-append : (segment : ℕ) (infos : List SegmentInfo) (parts : List (List Written)) (info : SegmentInfo) → AllSized infos parts → placed_in segment (infos ++ info ∷ []) (parts ++ [] ∷ []) ≡ placed_in segment infos parts
placed-append segment [] [] info sized = refl
placed-append segment [] (part ∷ parts) info sized = absurd sized
placed-append segment (x ∷ xs) [] info sized = absurd sized
placed-append segment (x ∷ xs) (part ∷ parts) info sized = ap (λ (l : List Placed). placed_from (place_of segment x.segment) part ++ l) (placed-append segment xs parts info sized.2)

front-append : (segment : ℕ) (infos : List SegmentInfo) (parts : List (List Written)) (info : SegmentInfo) (c : List ℕ) → IsFront segment info [] c → AllFront segment infos parts c → AllFront segment (infos ++ info ∷ []) (parts ++ [] ∷ []) c
front-append segment [] [] info c front fronts = (front, tt)
front-append segment [] (part ∷ parts) info c front fronts = absurd fronts
front-append segment (x ∷ xs) [] info c front fronts = absurd fronts
front-append segment (x ∷ xs) (part ∷ parts) info c front fronts = (fronts.0, front-append segment xs parts info c front fronts.1)

-- at each place of the segments' numbers stands the number of one of them
without_each : (i : ℕ) (infos : List SegmentInfo) → Without i infos → (k : ℕ) (d : ℕ) → k < length (segments_of (lives_of infos)) → get_or (segments_of (lives_of infos)) k d ≢ i
without_each i [] apart k d lt = absurd (omega (arith, lt))
without_each i (x ∷ xs) apart zero d lt = λ same. apart.0 (sym same)
without_each i (x ∷ xs) apart (suc k) d lt = without_each i xs apart.1 k d (omega arith)

below_each : (next segments : ℕ) (table : LogTable) (floor : ℕ) → (live : List Live) → All (IsLive (manifest_of table floor)) live → (k : ℕ) (d : ℕ) → k < length (generations_of live) → get_or (generations_of live) k d ≢ table.next_generation
below_each next segments table floor [] each k d lt = absurd (omega (arith, lt))
below_each next segments table floor (x ∷ xs) each zero d lt = λ same. omega (arith, (each 0 x (omega arith)).generation, same)
below_each next segments table floor (x ∷ xs) each (suc k) d lt = below_each next segments table floor xs (λ k d lt. each (suc k) d (omega arith)) k d (omega arith)

-- the manifest that names it too
pub still_manifest : (table : LogTable) (target : ℕ) → IsManifest (manifest_of table table.end) → target < table.settings.segments → Without target table.segments → table.next_generation < 2 ^ 63 → length table.segments + 1 < table.settings.segments
    → IsManifest (manifest_of (with_segment table target) table.end)
still_manifest table target good small apart below room =
    let lives : lives_of (with_segment table target).segments ≡ lives_of table.segments ++ record { segment = target; generation = table.next_generation } ∷ [] = lives_of-append table.segments (new_info table target ∷ []) in
    let long : length (lives_of (with_segment table target).segments) ≡ length table.segments + 1 = length-lives_of (with_segment table target).segments ∙ length-append table.segments (new_info table target ∷ []) in
    let each : All (IsLive (manifest_of (with_segment table target) table.end)) (lives_of table.segments) = λ k d lt. record { segment = (good.each k d lt).segment; generation = omega (arith, (good.each k d lt).generation) } in
    record {
      segment = good.segment;
      segments = good.segments;
      index = good.index;
      next_generation = omega (arith, below);
      floor = good.floor;
      some = omega (arith, long);
      few = omega (arith, long, room);
      each = subst (λ (l : List Live). All (IsLive (manifest_of (with_segment table target) table.end)) l) (sym lives)
          (All-push (IsLive (manifest_of (with_segment table target) table.end)) (lives_of table.segments) (record { segment = target; generation = table.next_generation }) each (record { segment = small; generation = omega arith }));
      segments_apart = subst (λ (l : List ℕ). AreApart l) (sym (ap segments_of lives ∙ map-append (λ (l : Live). l.segment) (lives_of table.segments) (record { segment = target; generation = table.next_generation } ∷ [])))
          (all_pairs_push (λ a b. a ≢ b) (segments_of (lives_of table.segments)) target good.segments_apart (without_each target table.segments apart));
      generations_apart = subst (λ (l : List ℕ). AreApart l) (sym (ap generations_of lives ∙ map-append (λ (l : Live). l.generation) (lives_of table.segments) (record { segment = target; generation = table.next_generation } ∷ [])))
          (all_pairs_push (λ a b. a ≢ b) (generations_of (lives_of table.segments)) table.next_generation good.generations_apart (below_each 0 0 table table.end (lives_of table.segments) good.each));
    }

-- A write in a segment that isn't live leaves a log as it is.
module _ (table : LogTable) (target at n : ℕ) (good : IsTable table) (apart : Without target table.segments) (fits : at + n ≤ table.settings.segment) where
  abbrev place : ℕ
  place = place_of table.settings.segment target + at

  cells_stay : (d c : List ℕ) → Torn (place_of table.settings.segment target + at) n d c → range 0 4096 c ≡ range 0 4096 d
  cells_stay d c torn = range-torn place n 0 4096 d c torn (inl (omega arith))

  stays_shown : (floor : ℕ) (parts : List (List Written)) (d c : List ℕ) → Torn (place_of table.settings.segment target + at) n d c → IsShown table floor parts d → IsShown table floor parts c
  stays_shown floor parts d c torn shown = record {
    value = value_same c d (Some (manifest_text (manifest_of table floor))) (both_same d c (cells_stay d c torn)).manifest shown.value;
    fronts = fronts_stay table.settings.segment target table.segments parts d c (write_in table.settings.segment target at n d c fits torn) apart good.fit shown.fronts;
  }

  module _ (old new : Content) (placed : List Placed) (log : IsLog table old placed) (write : ChangesBy (Torn (place_of table.settings.segment target + at) n) old new) where
    pub free_write : ChangesBy (KeepsLog table.settings target (records_of placed) table.end) old new
    free_write = widen (Torn place n) (KeepsLog table.settings target (records_of placed) table.end) old new write (λ d c image torn. record {
      changes = write_in table.settings.segment target at n d c fits torn;
      stands = inl (subst (λ (l : List Record). HasLog table.settings c l table.end) (sym (its_records table log.parts placed log.sized log.all))
          (shown_stands table log.floor log.parts c good log.sized log.rises log.ends (stays_shown log.floor log.parts d c torn (log.shown d image))));
    })

    pub log_stays : Torn (place_of table.settings.segment target + at) n old.seen new.seen → IsLog table new placed
    log_stays seen = record {
      floor = log.floor;
      parts = log.parts;
      sized = log.sized;
      all = log.all;
      rises = log.rises;
      firsts = log.firsts;
      ends = log.ends;
      shown = λ c image. let from = image_from (Torn place n) old new write c image in stays_shown log.floor log.parts from.0 c from.2 (log.shown from.0 from.1);
      loaded = loaded_same 0 table.slots old.seen new.seen good.base (both_same old.seen new.seen (cells_stay old.seen new.seen seen)).manifest log.loaded;
      tokens = loaded_same 2048 table.tokens old.seen new.seen good.tokens.base (both_same old.seen new.seen (cells_stay old.seen new.seen seen)).tokens log.tokens;
      settled = λ c image. let from = image_from (Torn place n) old new write c image in cells_stay from.0 c from.2 ∙ log.settled from.0 from.1 ∙ sym (cells_stay old.seen new.seen seen);
    }

-- The manifest's cell is replaced by one that names a new segment too, in which no record stands.
module _ (table : LogTable) (target : ℕ) (slots : CurrentSlot) (text : List ℕ) (is : text ≡ manifest_text (manifest_of (with_segment table target) table.end)) (good : IsTable table) (small : target < table.settings.segments) (apart : Without target table.segments)
    (below : table.next_generation < 2 ^ 63) (room : length table.segments + 1 < table.settings.segments) (base : slots.base ≡ 0) (sequence : slots.sequence < 2 ^ 63) where
  pub rolled_good : IsTable (rolled_table table target slots)
  rolled_good = record {
    settings = good.settings;
    manifest = still_manifest table target good.manifest small apart below room;
    fit = fit-append table.settings.segment table.segments (new_info table target) (omega arith) good.fit;
    base = base;
    sequence = sequence;
    tokens = good.tokens;
  }

  named_too : (floor : ℕ) (parts : List (List Written)) (d c : List ℕ) → get_or d (place_of table.settings.segment target) 0 ≢ 79 → ReplacesCell 0 text d c → (cell_at 0 c).value ≡ Some text → IsShown table floor parts d
      → IsShown (rolled_table table target slots) table.end (parts ++ [] ∷ []) c
  named_too floor parts d c shut by new shown = record {
    value = new ∙ ap (λ (l : List ℕ). Some l) is;
    fronts = front-append table.settings.segment table.segments parts (new_info table target) c
        (record { front = refl; shut = λ more at. shut (sym (by.torn.others (place_of table.settings.segment target) (inr (omega arith))) ∙ ap (λ (k : ℕ). get_or c k 0) (sym (add-zero (place_of table.settings.segment target))) ∙ at) })
        (fronts_stay table.settings.segment target table.segments parts d c (write_cell table.settings.segment target d c by.torn) apart good.fit shown.fronts);
  }

  still_named : (floor : ℕ) (parts : List (List Written)) (d c : List ℕ) → ReplacesCell 0 text d c → (cell_at 0 c).value ≡ (cell_at 0 d).value → IsShown table floor parts d → IsShown table floor parts c
  still_named floor parts d c by same shown = record {
    value = same ∙ shown.value;
    fronts = fronts_stay table.settings.segment target table.segments parts d c (write_cell table.settings.segment target d c by.torn) apart good.fit shown.fronts;
  }

  module _ (old mid new : Content) (placed : List Placed) (log : IsLog table old placed) (blanks : ChangesBy (Torn (place_of table.settings.segment target) 1) old mid) where
    at_start : (d c : List ℕ) → Torn (place_of table.settings.segment target) 1 d c → Torn (place_of table.settings.segment target + 0) 1 d c
    at_start d c torn = subst (λ (k : ℕ). Torn k 1 d c) (sym (add-zero (place_of table.settings.segment target))) torn

    blanks_start : ChangesBy (Torn (place_of table.settings.segment target + 0) 1) old mid
    blanks_start = subst (λ (k : ℕ). ChangesBy (Torn k 1) old mid) (sym (add-zero (place_of table.settings.segment target))) blanks

    one_byte : 0 + 1 ≤ table.settings.segment
    one_byte = omega (arith, good.settings.least)

    pub keeps_blank : ChangesBy (KeepsLog table.settings target (records_of placed) table.end) old mid
    keeps_blank = free_write table target 0 1 good apart one_byte old mid placed log blanks_start

    module _ (torn : Torn (place_of table.settings.segment target) 1 old.seen mid.seen) where
      pub blank_log : IsLog table mid placed
      blank_log = log_stays table target 0 1 good apart one_byte old mid placed log blanks_start (at_start old.seen mid.seen torn)

      module _ (holds : Holds (place_of table.settings.segment target) (0 ∷ []) old.seen mid.seen) (only : Only mid) (replaces : ChangesBy (ReplacesCell 0 text) mid new) where
        shut : (e : List ℕ) → mid.images e → get_or e (place_of table.settings.segment target) 0 ≢ 79
        shut e image at =
            let zero_byte : get_or e (place_of table.settings.segment target) 0 ≡ 0 =
            ap (λ (l : List ℕ). get_or l (place_of table.settings.segment target) 0) (only e image) ∙ sym (byte_at (place_of table.settings.segment target) mid.seen) ∙ ap (λ (l : List ℕ). get_or l 0 0) holds.here in
            omega (arith, zero_byte, at)

        no_more : (parts : List (List Written)) → joined (parts ++ [] ∷ []) ≡ joined parts
        no_more parts = joined-more parts

        rolled_rises : RisesFrom 0 (joined (log.parts ++ [] ∷ []))
        rolled_rises = subst (λ (l : List Written). RisesFrom 0 l) (sym (no_more log.parts)) log.rises

        rolled_ends : table.end ≡ max table.end (next_after 0 (joined (log.parts ++ [] ∷ [])))
        rolled_ends = omega (arith, log.ends, ap (λ (l : List Written). next_after 0 l) (no_more log.parts))

        rolled_sized : AllSized (rolled_table table target slots).segments (log.parts ++ [] ∷ [])
        rolled_sized = sized-append table.segments log.parts (new_info table target) refl log.sized

        records_are : records_of placed ≡ entries_of (joined log.parts)
        records_are = its_records table log.parts placed log.sized log.all

        stands_after : (e c : List ℕ) → mid.images e → ReplacesCell 0 text e c → HasLog table.settings c (records_of placed) table.end
        unfolding blank_log log_stays
        stands_after e c image by = ⊎_elim
            (λ same. subst (λ (l : List Record). HasLog table.settings c l table.end) (sym records_are)
            (shown_stands table log.floor log.parts c good log.sized log.rises log.ends (still_named log.floor log.parts e c by same (blank_log.shown e image))))
            (λ named. subst (λ (l : List Record). HasLog table.settings c l table.end) (ap entries_of (no_more log.parts) ∙ sym records_are)
            (shown_stands (rolled_table table target slots) table.end (log.parts ++ [] ∷ []) c rolled_good rolled_sized rolled_rises rolled_ends (named_too log.floor log.parts e c (shut e image) by named.0 (blank_log.shown e image))))
            by.value

        pub keeps_roll : ChangesBy (KeepsLog table.settings target (records_of placed) table.end) old new
        keeps_roll = chain (KeepsLog table.settings target (records_of placed) table.end) (ReplacesCell 0 text) (KeepsLog table.settings target (records_of placed) table.end) old mid new keeps_blank replaces
            (λ d c image by. by)
            (λ e c image by.
            let from = image_from (KeepsLog table.settings target (records_of placed) table.end) old mid keeps_blank e image in (
              from.0,
              from.1,
              record {
                changes = writes_twice table.settings.segment target from.0 e c from.2.changes (write_cell table.settings.segment target e c by.torn);
                stands = inl (stands_after e c image by);
              },
            ))

        pub rolled_log : (cell_at 0 new.seen).value ≡ Some text → IsLoaded slots new.seen → Only new → IsLog (rolled_table table target slots) new placed
        unfolding blank_log log_stays
        rolled_log value loaded only_new =
            let from = image_from (ReplacesCell 0 text) mid new replaces new.seen new.sees in
            let shown = named_too log.floor log.parts from.0 new.seen (shut from.0 from.1) from.2 value (blank_log.shown from.0 from.1) in
            let same_tokens : range 2048 2048 new.seen ≡ range 2048 2048 old.seen =
            range-torn 0 2048 2048 2048 from.0 new.seen from.2.torn (inr (omega arith))
            ∙ ap (range 2048 2048) (only from.0 from.1)
            ∙ range-torn (place_of table.settings.segment target) 1 2048 2048 old.seen mid.seen torn (inl (omega arith)) in
            record {
              floor = table.end;
              parts = log.parts ++ [] ∷ [];
              sized = rolled_sized;
              all = log.all ∙ sym (placed-append table.settings.segment table.segments log.parts (new_info table target) log.sized);
              rises = rolled_rises;
              firsts = first-append table.segments log.parts (new_info table target) table.end refl log.sized log.firsts;
              ends = rolled_ends;
              shown = λ c image. subst (λ (l : List ℕ). IsShown (rolled_table table target slots) table.end (log.parts ++ [] ∷ []) l) (sym (only_new c image)) shown;
              loaded = loaded;
              tokens = loaded_same 2048 table.tokens old.seen new.seen good.tokens.base same_tokens log.tokens;
              settled = λ c image. ap (range 0 4096) (only_new c image);
            }
