use Rattle.std.proofs.Common.{◌≡◌, ◌≤◌, ◌^◌, List, take}
use Rattle.disk_core.specs.Content.{ChangesBy, Same}
use Rattle.part_log.specs.Images.{joined}
use Rattle.part_log.specs.Log.{placed_in}
use Rattle.part_log.specs.Pages.{IsPage, StandIn, filled}
use Rattle.part_log.specs.Records.{Written, next_after}
use Rattle.part_log.specs.Scan.{IsHeld, found_of}
use Rattle.part_log.proofs.paging.read_parts.Given as goal

abbrev pub invariant-loop-info : goal.invariant-loop-info
invariant-loop-info g l = record {
  next : l.scan.next ≤ 2 ^ 63;
  page : IsPage l.page;
  least : l.page.least ≡ l.fn.page.least;
  most : l.page.most ≡ l.fn.page.most;
  size : g.D.Disk.size l.disk ≡ g.D.Disk.size l.fn.disk;
  later : g.D.Disk.faults l.fn.disk ≤ g.D.Disk.faults l.disk;
  during : g.D.Disk.tells → ChangesBy Same (g.D.Disk.content l.fn.disk) (g.D.Disk.content l.disk);
  seen : g.D.Disk.tells → (g.D.Disk.content l.disk).seen ≡ (g.D.Disk.content l.fn.disk).seen;
  held : g.D.Disk.tells → IsHeld l.scan.piece.from l.scan.piece.bytes.items (g.D.Disk.content l.fn.disk).seen;
  read : g.D.Disk.tells → (parts : List (List Written)) → StandIn l.settings.segment l.segments l.fn.scan.next (g.D.Disk.content l.fn.disk).seen parts
      → (l.scan.next ≤ next_after l.fn.scan.next (joined (take l.info-index parts))) × (l.page.found.items ≡ filled l.fn.page (found_of (placed_in l.settings.segment (take l.info-index l.segments) (take l.info-index parts))));
}
