-- Where a log's bytes stand on its disk, and which of them stay.
use Rattle.std.specs.Prelude.{◌≡◌, ◌≢◌, ℕ, zero, suc, ◌+◌, ◌*◌, List, [], ◌∷◌, length, Bool, ◌==◌, map, if◌then◌else◌}
use Rattle.std.specs.List.{list_any}
use Rattle.disk_core.specs.Content.{range}
use Rattle.log_manifest.specs.declared.manifest.Live.{Live}
use Rattle.part_log.specs.declared.segment.SegmentInfo.{SegmentInfo}

-- where segment i begins; the manifest's cell and the token cell stand in front of the segments
abbrev pub place_of : ℕ → ℕ → ℕ
place_of segment i = 4096 + i * segment

-- Changed in the manifest's cell and in this segment alone.
pub record ChangesIn (segment target : ℕ) (old new : List ℕ) : Type 0 where
  pub size : length new ≡ length old
  pub token_cell : range 2048 2048 new ≡ range 2048 2048 old
  pub others : (i : ℕ) → i ≢ target → range (place_of segment i) segment new ≡ range (place_of segment i) segment old

-- whether a segment is one of these
abbrev pub is_among : ℕ → List SegmentInfo → Bool
is_among i infos = list_any (λ info. i == info.segment) infos

-- the first segment from i on that is none of these, looking at k of them
abbrev pub free_from : ℕ → ℕ → List SegmentInfo → ℕ
free_from zero i infos = i
free_from (suc k) i infos = if is_among i infos then free_from k (suc i) infos else i

-- what the manifest names of a segment, and of these segments
abbrev pub live_of : SegmentInfo → Live
live_of info = record { segment = info.segment; generation = info.generation }

abbrev pub lives_of : List SegmentInfo → List Live
lives_of infos = map live_of infos

-- the last of these segments, and the bytes in it that hold records
abbrev pub last_segment : List SegmentInfo → ℕ
last_segment [] = 0
last_segment (info ∷ []) = info.segment
last_segment (info ∷ other ∷ infos) = last_segment (other ∷ infos)

abbrev pub last_used : List SegmentInfo → ℕ
last_used [] = 0
last_used (info ∷ []) = info.used
last_used (info ∷ other ∷ infos) = last_used (other ∷ infos)

-- the last of these segments has so many bytes more that hold records
abbrev pub with_more : List SegmentInfo → ℕ → List SegmentInfo
with_more [] size = []
with_more (info ∷ []) size = record info { used = info.used + size } ∷ []
with_more (info ∷ other ∷ infos) size = info ∷ with_more (other ∷ infos) size

-- The first lsn of the segment that stands first, where the first lsns of segments without records aren't known.
abbrev pub next_first : List SegmentInfo → ℕ → ℕ
next_first [] end = end
next_first (info ∷ infos) end = if info.used == 0 then next_first infos end else info.first

-- these segments with the first lsns of those that have no record
abbrev pub with_firsts : List SegmentInfo → ℕ → List SegmentInfo
with_firsts [] end = []
with_firsts (info ∷ infos) end = record info { first = next_first (info ∷ infos) end } ∷ with_firsts infos end
