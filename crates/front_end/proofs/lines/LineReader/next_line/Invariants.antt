use Rattle.std.proofs.Common.{◌≤◌, ◌+◌, ◌-◌, length}
use Rattle.front_end.specs.Lines.{HasNoEnd, TakesPart, ReadsBytes, budget}
use Rattle.front_end.proofs.lines.LineReader.next_line.Given as goal

abbrev pub invariant-reading : goal.invariant-reading
invariant-reading g l =
    let left = g.S.Source.left in
    record {
      none : HasNoEnd l.line.items;
      part : TakesPart (left l.fn.input) (left l.input) l.fn.self.waiting l.line.items l.self.waiting;
      read : ReadsBytes (left l.fn.input) (left l.input) l.fn.self.total l.self.total;
      used : budget l.self.total l.self.waiting + length l.line.items ≤ budget l.fn.self.total l.fn.self.waiting;
      limit : l.self.total ≤ 67108864;
      later : g.S.Source.faults l.fn.input ≤ g.S.Source.faults l.input;
    }

abbrev pub decreases-reading : goal.decreases-reading
decreases-reading g l = 67108865 - l.self.total
