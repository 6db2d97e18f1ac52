-- Pages of a log: some of its records, in log order.
use Rattle.std.specs.Prelude.{◌≡◌, ℕ, ◌≤◌, List, [], ◌∷◌, ◌++◌, ◌+◌, ◌-◌, ◌&&◌, length, take, drop, nat_le, nat_lt, Bool, if◌then◌else◌, All}
use Rattle.disk_core.specs.Content.{range}
use Rattle.part_log.specs.declared.paging.Page.{Page}
use Rattle.part_log.specs.declared.paging.Start.{Start}
use Rattle.part_log.specs.declared.segment.Found.{Found}
use Rattle.part_log.specs.declared.segment.SegmentInfo.{SegmentInfo}
use Rattle.part_log.specs.Images.{joined}
use Rattle.part_log.specs.Log.{AllFront, AllSized, placed_in}
use Rattle.part_log.specs.Records.{Written, laid, AreWritten, RisesFrom, next_after, placed_from}
use Rattle.part_log.specs.Scan.{found_of}
use Rattle.part_log.specs.Segments.{place_of}

-- those of the records that have this lsn or a later one
abbrev pub from_lsn : ℕ → List Found → List Found
from_lsn lsn [] = []
from_lsn lsn (one ∷ found) = if nat_le lsn one.head.lsn then one ∷ from_lsn lsn found else from_lsn lsn found

-- the first ones of these, so many at most
abbrev pub page_of : ℕ → ℕ → List Found → List Found
page_of lsn most found = take most (from_lsn lsn found)

-- A page has no more records than it may have, and none below its lsn.
pub record IsPage (page : Page) : Type 0 where
  pub short : length page.found.items ≤ page.most
  pub above : All (λ one. page.least ≤ one.head.lsn) page.found.items

-- what a page has behind these records
abbrev pub filled : Page → List Found → List Found
filled page found = take page.most (page.found.items ++ from_lsn page.least found)

-- These records stand at a place and fill so many bytes, with lsns that rise from this one on.
pub record StandsAt (place size low : ℕ) (seen : List ℕ) (written : List Written) : Type 0 where
  pub good : AreWritten written
  pub rises : RisesFrom low written
  pub here : range place size seen ≡ laid written

-- These segments have these records, with lsns that rise from this one on.
pub record StandIn (segment : ℕ) (infos : List SegmentInfo) (low : ℕ) (seen : List ℕ) (parts : List (List Written)) : Type 0 where
  pub sized : AllSized infos parts
  pub fronts : AllFront segment infos parts seen
  pub rises : RisesFrom low (joined parts)

-- where reading begins with the first live segment
abbrev pub first_start : Start
first_start = record { place = 4096; left = 0; next = 0 }

-- a place stands among the records of a segment
abbrev pub is_within : ℕ → ℕ → SegmentInfo → Bool
is_within segment place info = nat_le (place_of segment info.segment) place && nat_lt place (place_of segment info.segment + info.used)

-- where reading begins with what stands at a place: in the first of these segments that has it, and then in those behind; the number is that of
-- the segments in front of these
abbrev pub start_from : ℕ → ℕ → ℕ → List SegmentInfo → Start
start_from segment place k [] = first_start
start_from segment place k (info ∷ infos) = if is_within segment place info then record { place = place; left = place_of segment info.segment + info.used - place; next = k + 1 } else start_from segment place (k + 1) infos

-- From a start on these records stand: first those in its segment, and then those of the segments behind.
pub record IsStart (segment : ℕ) (infos : List SegmentInfo) (start : Start) (seen : List ℕ) (written : List Written) (parts : List (List Written)) : Type 0 where
  pub stands : StandsAt start.place start.left 0 seen written
  pub stand : StandIn segment (drop start.next infos) (next_after 0 written) seen parts

-- what is found from a start on
abbrev pub found_from : ℕ → List SegmentInfo → Start → List Written → List (List Written) → List Found
found_from segment infos start written parts = found_of (placed_from start.place written ++ placed_in segment (drop start.next infos) parts)
