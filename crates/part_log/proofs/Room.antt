-- A segment more, for a log that isn't packed.
use Rattle.std.proofs.Common.{◌≡◌, inl, ℕ, ◌+◌, ◌*◌, ◌<◌, ◌≤◌, ◌^◌, List, [], ◌∷◌, ◌++◌, length, Bool, true, false, ◌||◌, ◌&&◌, not, nat_le, nat_lt, refl, sym, ◌∙◌, ap, subst, arith, Result, Ok, Err, IfOk, if◌then◌else◌, mul-le-mul_right}
use Rattle.std.proofs.lemmas.Bool.Decides.{nat_tests}
use Rattle.disk_core.specs.Content.{Content, ChangesBy}
use Rattle.disk_core.proofs.Changes.{no_change}
use Rattle.gate_slots.specs.Slots.{CurrentSlot}
use Rattle.msg_format.specs.declared.record.Record.{Record}
use Rattle.log_manifest.specs.declared.manifest.LogSettings.{LogSettings}
use Rattle.log_manifest.specs.Manifests.{IsManifest, manifest_text}
use Rattle.part_log.specs.declared.segment.SegmentInfo.{SegmentInfo}
use Rattle.part_log.specs.Segments.{place_of, is_among, last_segment, last_used, ChangesIn}
use Rattle.part_log.specs.Log.{LogTable, IsTable, IsRolling, manifest_of, is_worn, is_packed, least_free, fits_last, with_segment, new_info, disk_size, rolled_table, roomy_table, target_of, is_full, IsLog}
use Rattle.part_log.specs.Records.{Placed, records_of}
use Rattle.part_log.specs.Images.{KeepsLog, HasLog, PutsLast}
use Rattle.part_log.proofs.Texts.{size_of_manifest}
use Rattle.part_log.proofs.NewSegment.{still_manifest, rolled_good}
use Rattle.part_log.proofs.Segments.{no_write}
use Rattle.part_log.proofs.Fronts.{its_records, shown_stands}
use Rattle.part_log.proofs.Free.{without_from}

pub record IsFresh (table : LogTable) : Type 0 where
  pub end : table.end < 2 ^ 62
  pub next : table.next_generation < 2 ^ 62
  pub sequence : table.slots.sequence < 2 ^ 62
  pub tokens : table.tokens.sequence < 2 ^ 62

or_false : (a b : Bool) → (a || b) ≡ false → (a ≡ false) × (b ≡ false)
or_false true b is = absurd (cc is)
or_false false b is = (refl, is)

not_le : (m n : ℕ) → nat_le m n ≡ false → n < m
not_le m n is = grind (arith, nat_tests)

pub le_true : (m n : ℕ) → nat_le m n ≡ true → m ≤ n
le_true m n is = grind (arith, nat_tests)

pub fresh_from : (table : LogTable) → is_worn table ≡ false → IsFresh table
fresh_from table is =
    let last = or_false (nat_le (2 ^ 62) table.end || nat_le (2 ^ 62) table.next_generation || nat_le (2 ^ 62) table.slots.sequence) (nat_le (2 ^ 62) table.tokens.sequence) is in
    let both = or_false (nat_le (2 ^ 62) table.end || nat_le (2 ^ 62) table.next_generation) (nat_le (2 ^ 62) table.slots.sequence) last.0 in
    let first = or_false (nat_le (2 ^ 62) table.end) (nat_le (2 ^ 62) table.next_generation) both.0 in
    record {
      end = not_le (2 ^ 62) table.end first.0;
      next = not_le (2 ^ 62) table.next_generation first.1;
      sequence = not_le (2 ^ 62) table.slots.sequence both.1;
      tokens = not_le (2 ^ 62) table.tokens.sequence last.1;
    }

pub room_from : (table : LogTable) → is_packed table ≡ false → length table.segments + 1 < table.settings.segments
room_from table is = not_le table.settings.segments (length table.segments + 1) is

pub inside_from : (table : LogTable) (target : ℕ) → target < table.settings.segments → place_of table.settings.segment target + table.settings.segment ≤ disk_size table.settings
inside_from table target small = let more : (target + 1) * table.settings.segment ≤ table.settings.segments * table.settings.segment = mul-le-mul_right table.settings.segment (omega (arith, small)) in omega (arith, more)

module _ (table : LogTable) (good : IsTable table) (fresh : is_worn table ≡ false) (packed : is_packed table ≡ false) (target : ℕ) (small : target < table.settings.segments) (free : is_among target table.segments ≡ false) where
  pub next_manifest : IsManifest (manifest_of (with_segment table target) table.end)
  next_manifest = still_manifest table target good.manifest small (without_from target table.segments free) (omega (arith, (fresh_from table fresh).next)) (room_from table packed)

  pub rolling_from : (text : List ℕ) → text ≡ manifest_text (manifest_of (with_segment table target) table.end) → IsRolling table table.slots target text
  rolling_from text is = record {
    slots_are = refl;
    good = good;
    small = small;
    apart = free;
    below = omega (arith, (fresh_from table fresh).next);
    room = room_from table packed;
    text_is = is;
  }

  pub short_text : (text : List ℕ) → text ≡ manifest_text (manifest_of (with_segment table target) table.end) → length text ≤ 1011
  short_text text is = omega (arith, ap (λ (l : List ℕ). length l) is, size_of_manifest (manifest_of (with_segment table target) table.end), next_manifest.few, good.settings.most)

  pub rolled_is_good : (text : List ℕ) → text ≡ manifest_text (manifest_of (with_segment table target) table.end) → (after : CurrentSlot) → after ≡ record { base = 0; sequence = table.slots.sequence + 1; second = not table.slots.second } → IsTable (rolled_table table target after)
  rolled_is_good text is after after_is = rolled_good table target after text is good small (without_from target table.segments free) (omega (arith, (fresh_from table fresh).next)) (room_from table packed)
      (ap (λ (s : CurrentSlot). s.base) after_is) (omega (arith, (fresh_from table fresh).sequence, ap (λ (s : CurrentSlot). s.sequence) after_is))

-- nothing was done
pub nothing_kept : (table : LogTable) (target : ℕ) (content : Content) (placed : List Placed) → IsTable table → IsLog table content placed → ChangesBy (KeepsLog table.settings target (records_of placed) table.end) content content
nothing_kept table target content placed good log = no_change (KeepsLog table.settings target (records_of placed) table.end) content (λ c image. record {
  changes = no_write table.settings.segment target c;
  stands = inl (subst (λ (l : List Record). HasLog table.settings c l table.end) (sym (its_records table log.parts placed log.sized log.all)) (shown_stands table log.floor log.parts c good log.sized log.rises log.ends (log.shown c image)));
})

-- the table when there is room
last_segment-append : (xs : List SegmentInfo) (x : SegmentInfo) → last_segment (xs ++ x ∷ []) ≡ x.segment
last_segment-append [] x = refl
last_segment-append (y ∷ []) x = refl
last_segment-append (y ∷ z ∷ zs) x = last_segment-append (z ∷ zs) x

pub last_used-append : (xs : List SegmentInfo) (x : SegmentInfo) → last_used (xs ++ x ∷ []) ≡ x.used
last_used-append [] x = refl
last_used-append (y ∷ []) x = refl
last_used-append (y ∷ z ∷ zs) x = last_used-append (z ∷ zs) x

module _ (table : LogTable) (slots : CurrentSlot) where
  abbrev picked : Bool → LogTable
  picked fits = if fits then table else rolled_table table (least_free table) slots

  settings_of : (fits : Bool) → (if fits then table else rolled_table table (least_free table) slots).settings ≡ table.settings
  settings_of true = refl
  settings_of false = refl

  end_of : (fits : Bool) → (if fits then table else rolled_table table (least_free table) slots).end ≡ table.end
  end_of true = refl
  end_of false = refl

  last_of : (fits : Bool) → last_segment (if fits then table else rolled_table table (least_free table) slots).segments ≡ (if fits then last_segment table.segments else least_free table)
  last_of true = refl
  last_of false = last_segment-append table.segments (new_info table (least_free table))

  used_of : (fits : Bool) (size : ℕ) → (fits ≡ true → last_used table.segments + size + 1 ≤ table.settings.segment) → size + 1 ≤ table.settings.segment
      → last_used (if fits then table else rolled_table table (least_free table) slots).segments + size + 1 ≤ table.settings.segment
  used_of true size room small = room refl
  used_of false size room small = omega (arith, small, last_used-append table.segments (new_info table (least_free table)))

  pub roomy_settings : (size : ℕ) → (roomy_table table size slots).settings ≡ table.settings
  roomy_settings size = settings_of (fits_last table size)

  pub roomy_end : (size : ℕ) → (roomy_table table size slots).end ≡ table.end
  roomy_end size = end_of (fits_last table size)

  pub roomy_last : (size : ℕ) → last_segment (roomy_table table size slots).segments ≡ target_of table size
  roomy_last size = last_of (fits_last table size)

  not_lt : (m n : ℕ) → nat_lt m n ≡ false → n ≤ m
  not_lt m n is = grind (arith, nat_tests)

  pub roomy_used : (size : ℕ) → is_full table size ≡ false → last_used (roomy_table table size slots).segments + size + 1 ≤ table.settings.segment
  roomy_used size is =
      let first = or_false (nat_lt table.settings.segment (size + 1) || (not (fits_last table size) && is_packed table)) (is_worn table) is in
      let long = or_false (nat_lt table.settings.segment (size + 1)) (not (fits_last table size) && is_packed table) first.0 in
      used_of (fits_last table size) size (λ fits. le_true (last_used table.segments + size + 1) table.settings.segment fits) (not_lt table.settings.segment (size + 1) long.0)

-- what is not full isn't worn, and has a free segment where one is wanted
pub full_parts : (table : LogTable) (size : ℕ) → is_full table size ≡ false → (is_worn table ≡ false) × (fits_last table size ≡ false → is_packed table ≡ false)
full_parts table size is =
    let first = or_false (nat_lt table.settings.segment (size + 1) || (not (fits_last table size) && is_packed table)) (is_worn table) is in
    let long = or_false (nat_lt table.settings.segment (size + 1)) (not (fits_last table size) && is_packed table) first.0 in
    (first.1, λ fits. sym (ap (λ (b : Bool). not b && is_packed table) fits) ∙ long.1)

-- what is said of the table with room, said of the table before
module _ (table after : LogTable) (slots : CurrentSlot) (size : ℕ) (is : after ≡ roomy_table table size slots) where
  settings_there : after.settings ≡ table.settings
  settings_there = ap (λ (t : LogTable). t.settings) is ∙ roomy_settings table slots size

  last_there : last_segment after.segments ≡ target_of table size
  last_there = ap (λ (t : LogTable). last_segment t.segments) is ∙ roomy_last table slots size

  pub room_there : is_full table size ≡ false → last_used after.segments + size + 1 ≤ after.settings.segment
  room_there full = omega (arith, roomy_used table slots size full, ap (λ (t : LogTable). last_used t.segments) is, ap (λ (s : LogSettings). s.segment) settings_there)

  pub changes_there : (old new : List ℕ) → ChangesIn after.settings.segment (last_segment after.segments) old new → ChangesIn table.settings.segment (target_of table size) old new
  changes_there old new changes = subst (λ (s : LogSettings). ChangesIn s.segment (target_of table size) old new) settings_there (subst (λ (f : ℕ). ChangesIn after.settings.segment f old new) last_there changes)

  pub put_there : (entry : Record) (records : List Record) (mid new : Content) → ChangesBy (PutsLast after.settings (last_segment after.segments) records after.end entry) mid new → ChangesBy (PutsLast table.settings (target_of table size) records table.end entry) mid new
  put_there entry records mid new puts =
      subst (λ (n : ℕ). ChangesBy (PutsLast table.settings (target_of table size) records n entry) mid new) (ap (λ (t : LogTable). t.end) is ∙ roomy_end table slots size)
      (subst (λ (s : LogSettings). ChangesBy (PutsLast s (target_of table size) records after.end entry) mid new) settings_there
      (subst (λ (f : ℕ). ChangesBy (PutsLast after.settings f records after.end entry) mid new) last_there puts))

pub if_ok_map : {T E : Type 0} (result : Result T E) (P Q : T → Type 0) → IfOk result P → ((v : T) → P v → Q v) → IfOk result Q
if_ok_map (Ok v) P Q p map = map v p
if_ok_map (Err e) P Q p map = tt
