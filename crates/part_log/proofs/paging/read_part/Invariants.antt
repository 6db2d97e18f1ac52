use Rattle.std.proofs.Common.{◌≡◌, ◌≤◌, ◌-◌, ◌^◌, List}
use Rattle.disk_core.specs.Content.{ChangesBy, Same}
use Rattle.part_log.specs.Pages.{IsPage, StandsAt, filled}
use Rattle.part_log.specs.Records.{Written, placed_from}
use Rattle.part_log.specs.Scan.{IsHeld, found_of}
use Rattle.part_log.proofs.Pages.{IsAlong}
use Rattle.part_log.proofs.paging.read_part.Given as goal

abbrev pub invariant-loop-alloc : goal.invariant-loop-alloc
invariant-loop-alloc g l = record {
  used : l.used ≤ l.left;
  next : l.scan.next ≤ 2 ^ 63;
  page : IsPage l.page;
  least : l.page.least ≡ l.fn.page.least;
  most : l.page.most ≡ l.fn.page.most;
  size : g.D.Disk.size l.disk ≡ g.D.Disk.size l.fn.disk;
  later : g.D.Disk.faults l.fn.disk ≤ g.D.Disk.faults l.disk;
  during : g.D.Disk.tells → ChangesBy Same (g.D.Disk.content l.fn.disk) (g.D.Disk.content l.disk);
  seen : g.D.Disk.tells → (g.D.Disk.content l.disk).seen ≡ (g.D.Disk.content l.fn.disk).seen;
  held : g.D.Disk.tells → IsHeld l.scan.piece.from l.scan.piece.bytes.items (g.D.Disk.content l.fn.disk).seen;
  read : g.D.Disk.tells → (written : List Written) → StandsAt l.place l.left l.fn.scan.next (g.D.Disk.content l.fn.disk).seen written
      → (done : List Written) × (rest : List Written) × IsAlong l.place l.fn.scan.next l.used l.scan.next written done rest × (l.page.found.items ≡ filled l.fn.page (found_of (placed_from l.place done)));
}

abbrev pub decreases-loop-alloc : goal.decreases-loop-alloc
decreases-loop-alloc g l = l.left - l.used
