use Rattle.std.proofs.Common.{◌≡◌, ◌≤◌, ◌-◌, ◌^◌, List}
use Rattle.disk_core.specs.Content.{ChangesBy, Same}
use Rattle.part_log.specs.Marks.{MarksOn}
use Rattle.part_log.specs.Records.{Written, placed_from}
use Rattle.part_log.specs.Scan.{found_of, IsHeld, IsRead, TakesAll}
use Rattle.part_log.proofs.scan.read_segment.Given as goal

abbrev pub invariant-loop-found : goal.invariant-loop-found
invariant-loop-found g l = record {
  used : l.extent.used ≤ l.segment;
  next : l.scan.next ≤ 2 ^ 63;
  size : g.D.Disk.size l.disk ≡ g.D.Disk.size l.fn.disk;
  later : g.D.Disk.faults l.fn.disk ≤ g.D.Disk.faults l.disk;
  during : g.D.Disk.tells → ChangesBy Same (g.D.Disk.content l.fn.disk) (g.D.Disk.content l.disk);
  seen : g.D.Disk.tells → (g.D.Disk.content l.disk).seen ≡ (g.D.Disk.content l.fn.disk).seen;
  held : g.D.Disk.tells → IsHeld l.scan.piece.from l.scan.piece.bytes.items (g.D.Disk.content l.fn.disk).seen;
  read : g.D.Disk.tells → (written : List Written) × IsRead l.start l.fn.scan.next (g.D.Disk.content l.fn.disk).seen l.extent l.scan.next written
      × TakesAll g.C.Collect.takes l.fn.collector (found_of (placed_from l.start written)) l.collector × MarksOn l.fn.scan.marks.list.items (placed_from l.start written) l.scan.marks.list.items;
}

abbrev pub decreases-loop-found : goal.decreases-loop-found
decreases-loop-found g l = l.segment - l.extent.used
