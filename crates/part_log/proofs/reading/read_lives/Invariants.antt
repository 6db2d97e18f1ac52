use Rattle.std.proofs.Common.{◌≡◌, ◌≤◌, ◌^◌, List, take}
use Rattle.disk_core.specs.Content.{ChangesBy, Same}
use Rattle.part_log.specs.Segments.{lives_of}
use Rattle.part_log.specs.Log.{AllFit, placed_in}
use Rattle.part_log.specs.Marks.{MarksOn}
use Rattle.part_log.specs.Records.{Written}
use Rattle.part_log.specs.Scan.{found_of, AreRead, IsHeld, TakesAll}
use Rattle.part_log.proofs.reading.read_lives.Given as goal

abbrev pub invariant-loop-live : goal.invariant-loop-live
invariant-loop-live g l = record {
  fit : AllFit l.settings.segment l.segments.items;
  lives : lives_of l.segments.items ≡ take l.live-index l.lives;
  next : l.scan.next ≤ 2 ^ 63;
  size : g.D.Disk.size l.disk ≡ g.D.Disk.size l.fn.disk;
  later : g.D.Disk.faults l.fn.disk ≤ g.D.Disk.faults l.disk;
  during : g.D.Disk.tells → ChangesBy Same (g.D.Disk.content l.fn.disk) (g.D.Disk.content l.disk);
  seen : g.D.Disk.tells → (g.D.Disk.content l.disk).seen ≡ (g.D.Disk.content l.fn.disk).seen;
  held : g.D.Disk.tells → IsHeld l.scan.piece.from l.scan.piece.bytes.items (g.D.Disk.content l.fn.disk).seen;
  read : g.D.Disk.tells → (parts : List (List Written)) × AreRead l.settings.segment (g.D.Disk.content l.fn.disk).seen l.segments.items l.scan.next parts
      × TakesAll g.C.Collect.takes l.fn.collector (found_of (placed_in l.settings.segment l.segments.items parts)) l.collector
      × MarksOn l.fn.scan.marks.list.items (placed_in l.settings.segment l.segments.items parts) l.scan.marks.list.items;
}
