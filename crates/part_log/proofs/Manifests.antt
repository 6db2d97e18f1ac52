-- What a manifest says of the segments that it names.
use Rattle.std.proofs.Common.{◌≡◌, ◌≢◌, ℕ, suc, ◌<◌, ◌≤◌, ◌^◌, List, [], ◌∷◌, length, get_or, refl, ap, arith}
use Rattle.log_manifest.specs.Manifests.{IsManifest, segments_of, AreApart}
use Rattle.part_log.specs.declared.segment.SegmentInfo.{SegmentInfo}
use Rattle.part_log.specs.Segments.{lives_of}
use Rattle.part_log.specs.Log.{LogTable, manifest_of}

-- this segment is none of these
abbrev pub Without : ℕ → List SegmentInfo → Type 0
Without i [] = Unit {0}
Without i (info ∷ infos) = (i ≢ info.segment) × Without i infos

-- no segment stands among them twice
abbrev pub AllApart : List SegmentInfo → Type 0
AllApart [] = Unit {0}
AllApart (info ∷ infos) = Without info.segment infos × AllApart infos

pairs_head : (x : ℕ) (xs : List ℕ) → AreApart (x ∷ xs) → (k : ℕ) (d : ℕ) → k < length xs → x ≢ get_or xs k d
pairs_head x xs apart k d lt = apart 0 (suc k) d (omega arith) (omega arith)

pairs_tail : (x : ℕ) (xs : List ℕ) → AreApart (x ∷ xs) → AreApart xs
pairs_tail x xs apart i j d lt short = apart (suc i) (suc j) d (omega arith) (omega arith)

without : (i : ℕ) (infos : List SegmentInfo) → ((k : ℕ) (d : ℕ) → k < length (segments_of (lives_of infos)) → i ≢ get_or (segments_of (lives_of infos)) k d) → Without i infos
without i [] none = tt
without i (info ∷ infos) none = (none 0 0 (omega arith), without i infos (λ k d lt. none (suc k) d (omega arith)))

all_apart : (infos : List SegmentInfo) → AreApart (segments_of (lives_of infos)) → AllApart infos
all_apart [] apart = tt
all_apart (info ∷ infos) apart = (
  without info.segment infos (pairs_head info.segment (segments_of (lives_of infos)) apart),
  all_apart infos (pairs_tail info.segment (segments_of (lives_of infos)) apart),
)

-- the segments of a manifest are apart
pub named_apart : (table : LogTable) (floor : ℕ) → IsManifest (manifest_of table floor) → AllApart table.segments
named_apart table floor good = all_apart table.segments good.segments_apart

-- with another floor it is a manifest too
other_floor : (table : LogTable) (floor low : ℕ) → low ≤ 2 ^ 63 → IsManifest (manifest_of table floor) → IsManifest (manifest_of table low)
other_floor table floor low le good = record {
  segment = good.segment;
  segments = good.segments;
  index = good.index;
  next_generation = good.next_generation;
  floor = le;
  some = good.some;
  few = good.few;
  each = λ k d lt. record { segment = (good.each k d lt).segment; generation = (good.each k d lt).generation };
  segments_apart = good.segments_apart;
  generations_apart = good.generations_apart;
}

pub lower_floor : (table : LogTable) (floor low : ℕ) → low ≤ floor → IsManifest (manifest_of table floor) → IsManifest (manifest_of table low)
lower_floor table floor low le good = other_floor table floor low (omega (arith, good.floor, le)) good

pub higher_floor : (table : LogTable) (floor high : ℕ) → high ≤ 2 ^ 63 → IsManifest (manifest_of table floor) → IsManifest (manifest_of table high)
higher_floor table floor high le good = other_floor table floor high le good

pub length-lives_of : (infos : List SegmentInfo) → length (lives_of infos) ≡ length infos
length-lives_of [] = refl
length-lives_of (info ∷ infos) = ap (λ (n : ℕ). suc n) (length-lives_of infos)
