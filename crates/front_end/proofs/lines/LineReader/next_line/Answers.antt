use Rattle.std.proofs.Common.{◌∷◌, [], ap, ◌∙◌, arith, length, length-append}
use Rattle.front_end.specs.Lines.{HasNoEnd}
use Rattle.front_end.proofs.PastLemmas.{all_append}
use Rattle.front_end.proofs.LineLemmas.{reads_more, part_more, part_filled, part_past}
use Rattle.front_end.proofs.lines.LineReader.next_line.Goals as goal

pub returns-in_err-fill-clause-gone : goal.returns-in_err-fill-clause-gone
returns-in_err-fill-clause-gone g c =
    let gone = c.fill.ensures.gone in
    let read = reads_more _ _ _ _ _ gone.0 c.reading.invariant.read gone.1 in
    (read.0, read.1, omega (arith, read.2, gone.2, c.take_line.ensures.total))

pub reading-preserved : goal.reading-preserved
reading-preserved g c =
    let i = c.reading.invariant in
    let f = rw c.if-found.false at c.in_ok-found.ensures.found in
    let came = rw c.in-More.is at c.in_ok-fill.ensures.came in
    let line = c.take_line.new.line.items in
    let waiting = c.fill.new.self.waiting in
    let grown = ap length f.1 ∙ length-append c.reading.line.items c.reading.self.waiting in
    let read = reads_more _ _ _ _ _ waiting i.read came.0 in
    let part = part_more _ _ _ c.reading.line.items line _ _ i.part f.1 f.2 in
    record {
      none = rw f.1 (all_append _ c.reading.line.items _ i.none f.0);
      part = part_filled _ _ _ _ line _ waiting part f.2 came.0;
      read = (read.0, read.1, omega (arith, read.2, came.2, c.take_line.ensures.total));
      used = omega (arith, grown, came.2, i.used, c.take_line.ensures.total, came.3);
      limit = came.3;
      later = omega (arith, i.later, c.fill.ensures.later);
    }

pub returns-in-PastLimit-clause-next : goal.returns-in-PastLimit-clause-next
returns-in-PastLimit-clause-next g c =
    let i = c.reading.invariant in
    let f = rw c.if-found.false at c.in_ok-found.ensures.found in
    let came = rw c.in-PastLimit.is at c.in_ok-fill.ensures.came in
    let line = c.take_line.new.line.items in
    let part = part_more _ _ _ c.reading.line.items line _ _ i.part f.1 f.2 in
    let none : HasNoEnd line = rw f.1 (all_append _ c.reading.line.items _ i.none f.0) in
    (line, came.0, none, part_past _ _ _ _ line _ c.fill.new.self.waiting came.0 part f.2 came.1 came.2, came.2)

pub returns-in-PastLimit-clause-read : goal.returns-in-PastLimit-clause-read
returns-in-PastLimit-clause-read g c =
    let came = rw c.in-PastLimit.is at c.in_ok-fill.ensures.came in
    let read = reads_more _ _ _ _ _ (came.0 ∷ []) c.reading.invariant.read came.1 in
    (read.0, read.1, omega (arith, read.2, came.3, came.4, c.take_line.ensures.total))

pub returns-in-PastLimit-clause-gone : goal.returns-in-PastLimit-clause-gone
returns-in-PastLimit-clause-gone g c =
    let came = rw c.in-PastLimit.is at c.in_ok-fill.ensures.came in
    let read = reads_more _ _ _ _ _ (came.0 ∷ []) c.reading.invariant.read came.1 in
    (read.0, read.1, omega (arith, read.2, came.3, c.take_line.ensures.total))
