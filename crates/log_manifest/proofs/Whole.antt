-- A manifest is read exactly where it is spelled.
use Rattle.std.proofs.Common.{◌≡◌, ◌∙◌, ℕ, ◌^◌, ◌<◌, ◌≤◌, nat_eq, ◌&&◌, Bool, true, List, ◌∷◌, ◌++◌, length, Option, Some, refl, sym, ap, append_assoc, arith, eqb-true}
use Rattle.std.proofs.lemmas.List.{length-append}
use Rattle.std.proofs.lemmas.List.Elements.{All-weaker}
use Rattle.std.specs.List.{flat_map, All}
use Rattle.std.specs.Option.{IfSome}
use Rattle.byteorder.specs.Endian.{big_bytes}
use Rattle.field_codec.specs.Spelling.{IsBytes}
use Rattle.std.proofs.lemmas.Bool.{and_parts}
use Rattle.field_codec.proofs.Spells.{Spells, number, field, last, guard, restated, apart, whole_is_spelled, whole_is_read}
use Rattle.field_codec.proofs.CountedLists.{times, length-times}
use Rattle.log_manifest.specs.declared.manifest.LogSettings.{LogSettings}
use Rattle.log_manifest.specs.declared.manifest.Live.{Live}
use Rattle.log_manifest.specs.declared.manifest.Manifest.{Manifest}
use Rattle.log_manifest.specs.declared.reading.Numbers.{Numbers}
use Rattle.log_manifest.specs.Manifests.{IsLive, IsManifest, live_text, settings_text, manifest_text, manifest_size}
use Rattle.log_manifest.specs.Reading.{settings_at, live_at, is_ranged, is_apart, numbers_at, manifest_of, fields_at, manifest_at}
use Rattle.log_manifest.proofs.Distinct.{ranged_told, ranged_again, apart_parts, apart_is}

abbrev settings : ℕ → ℕ → ℕ → LogSettings
settings segment segments index = record { segment = segment; segments = segments; index = index }

record IsSettings (s : LogSettings) : Type 0 where
  segment : s.segment < 256 ^ 4
  segments : s.segments < 256 ^ 2
  index : s.index < 256 ^ 2

settings_spelled : Spells settings_text settings_at IsSettings
unfolding settings_at
settings_spelled = restated (λ s. refl) (λ s is. record { segment = is.0; segments = is.1.0; index = is.1.1.0 }) (λ s is. (is.segment, (is.segments, (is.index, refl))))
    (field (λ s. s.segment) (number 4) (λ a. field (λ s. s.segments) (number 2) (λ b. last (λ s. s.index) (settings a b) (number 2) (λ c. refl))
    (λ b s is. cc)) (λ a s is. cc))

abbrev live : ℕ → ℕ → Live
live segment generation = record { segment = segment; generation = generation }

abbrev HasWidth : Live → Type 0
HasWidth l = (l.segment < 256 ^ 2) × (l.generation < 256 ^ 8)

live_spelled : Spells live_text live_at HasWidth
unfolding live_at
live_spelled = restated (λ l. refl) (λ l is. (is.0, is.1.0)) (λ l is. (is.0, (is.1, refl)))
    (field (λ l. l.segment) (number 2) (λ a. last (λ l. l.generation) (live a) (number 8) (λ c. refl)) (λ a l is. cc))

-- ---- the fields in front of the live segments

abbrev numbers_text : Numbers → List ℕ
numbers_text n = 1 ∷ (settings_text n.settings ++ (big_bytes 8 n.next_generation ++ (big_bytes 8 n.floor ++ big_bytes 2 n.count)))

record IsNumbers (n : Numbers) : Type 0 where
  settings : IsSettings n.settings
  next_generation : n.next_generation < 256 ^ 8
  floor : n.floor < 256 ^ 8
  count : n.count < 256 ^ 2

abbrev numbers : LogSettings → ℕ → ℕ → ℕ → Numbers
numbers settings next floor count = record { settings = settings; next_generation = next; floor = floor; count = count }

numbers_spelled : Spells numbers_text numbers_at IsNumbers
unfolding numbers_at
numbers_spelled = restated (λ n. refl) (λ n is. record { settings = is.1.0.1; next_generation = is.1.1.0; floor = is.1.1.1.0; count = is.1.1.1.1.0 })
    (λ n is. (omega arith, ((refl, is.settings), (is.next_generation, (is.floor, (is.count, refl))))))
    (field (λ n. 1) (number 1) (λ v. field (λ n. n.settings) (guard (nat_eq v 1) settings_spelled) (λ s. field (λ n. n.next_generation) (number 8)
    (λ g. field (λ n. n.floor) (number 8) (λ f. last (λ n. n.count) (numbers s g f) (number 2) (λ c. refl))
    (λ f n is. cc)) (λ g n is. cc))
    (λ s n is. cc)) (λ v n is. sym (eqb-true _ _ is.0.0)))

-- ---- all fields

abbrev numbers_of : Manifest → Numbers
numbers_of manifest = record { settings = manifest.settings; next_generation = manifest.next_generation; floor = manifest.floor; count = length manifest.live }

manifest_text-parts : (manifest : Manifest) → numbers_text (numbers_of manifest) ++ flat_map live_text manifest.live ≡ manifest_text manifest
manifest_text-parts manifest = parts (settings_text manifest.settings) (big_bytes 8 manifest.next_generation) (big_bytes 8 manifest.floor) (big_bytes 2 (length manifest.live)) (flat_map live_text manifest.live)
  where
    parts : (a b c d e : List ℕ) → (1 ∷ (a ++ (b ++ (c ++ d)))) ++ e ≡ 1 ∷ (a ++ (b ++ (c ++ (d ++ e))))
    parts a b c d e = simp append_assoc

record HasFields (manifest : Manifest) : Type 0 where
  numbers : IsNumbers (numbers_of manifest)
  widths : All HasWidth manifest.live

fields_spelled : Spells manifest_text fields_at HasFields
unfolding fields_at
fields_spelled = restated manifest_text-parts (λ m is. record { numbers = is.0; widths = is.1.0.1 }) (λ m is. (is.numbers, ((refl, is.widths), refl)))
    (field numbers_of numbers_spelled (λ n. last (λ m. m.live) (manifest_of n) (times n.count live_spelled) (λ c. refl))
    (λ n m is. ap numbers_of (sym is.1) ∙ ap (λ (k : ℕ). numbers n.settings n.next_generation n.floor k) is.0.0))

-- ---- manifests

widths_of : (manifest : Manifest) (lives : List Live) → manifest.settings.segments < 256 ^ 2 → manifest.next_generation ≤ 2 ^ 63 → All (IsLive manifest) lives → All HasWidth lives
widths_of manifest lives few next = All-weaker (IsLive manifest) HasWidth (λ l h. (omega (arith, h.segment), omega (arith, h.generation))) lives

fields_fit : (manifest : Manifest) → IsManifest manifest → HasFields manifest
fields_fit m is = record {
  numbers = record {
    settings = record { segment = is.segment; segments = is.segments; index = is.index };
    next_generation = omega (arith, is.next_generation);
    floor = omega (arith, is.floor);
    count = omega (arith, is.few, is.segments);
  };
  widths = widths_of m m.live is.segments is.next_generation is.each;
}

abbrev is_sound : Manifest → Bool
is_sound m = is_ranged m && is_apart m

sound : (m : Manifest) → HasFields m → is_sound m ≡ true → IsManifest m
sound m has e =
    let b = and_parts (is_ranged m) (is_apart m) e in
    let r = ranged_told m b.0 in
    let apart = apart_parts m b.1 in
    let s = has.numbers.settings in
    record {
      segment = s.segment;
      segments = s.segments;
      index = s.index;
      next_generation = r.next_generation;
      floor = r.floor;
      some = r.some;
      few = r.few;
      each = r.each;
      segments_apart = apart.0;
      generations_apart = apart.1;
    }

pub manifests_apart : (m n : Manifest) (x y : List ℕ) → IsManifest m → IsManifest n → manifest_text m ++ x ≡ manifest_text n ++ y → (m ≡ n) × (x ≡ y)
manifests_apart m n x y hm hn = apart fields_spelled m n x y (fields_fit m hm) (fields_fit n hn)

pub length-manifest_text : (manifest : Manifest) → length (manifest_text manifest) ≡ manifest_size manifest
length-manifest_text m = let l = length-times live_text 10 (λ l. length-append (big_bytes 2 l.segment) (big_bytes 8 l.generation)) m.live in omega arith

pub found_manifest : (bytes : List ℕ) (told : Option Manifest) → IsBytes bytes → told ≡ manifest_at bytes → IfSome told (λ m. IsManifest m × (bytes ≡ manifest_text m))
unfolding manifest_at
found_manifest = whole_is_spelled IsManifest is_sound sound fields_spelled

pub only_manifest : (bytes : List ℕ) (told : Option Manifest) (m : Manifest) → IsManifest m → bytes ≡ manifest_text m → told ≡ manifest_at bytes → told ≡ Some m
unfolding manifest_at
only_manifest bytes told m is =
    let a : is_ranged m ≡ true = ranged_again m is in
    let b : is_apart m ≡ true = apart_is m is in
    whole_is_read is_sound fields_spelled bytes told m (fields_fit m is) (rw (a, b) refl)
