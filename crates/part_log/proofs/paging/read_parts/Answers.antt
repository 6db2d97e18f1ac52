use Rattle.std.proofs.Common.{◌≡◌, ℕ, ◌≤◌, List, length, get_or, ◌∙◌, sym, ap, subst, arith}
use Rattle.std.proofs.lemmas.Result.{err_from_is_err_and}
use Rattle.part_log.specs.declared.fault.OpenFault.TheVariants.{Damaged}
use Rattle.part_log.specs.declared.segment.Found.{Found}
use Rattle.part_log.specs.declared.segment.SegmentInfo.{SegmentInfo}
use Rattle.part_log.specs.Pages.{StandsAt, filled}
use Rattle.part_log.specs.Records.{placed_from}
use Rattle.part_log.specs.Scan.{IsHeld, found_of}
use Rattle.part_log.specs.Segments.{place_of}
use Rattle.part_log.proofs.Pages.{filled_last, next_filled, next_one, next_passed, next_stands}
use Rattle.part_log.proofs.Scanning.{same_twice, err_over}
use Rattle.part_log.proofs.paging.read_parts.Goals as goal

pub returns-in_err-read_part-clause-during : goal.returns-in_err-read_part-clause-during
returns-in_err-read_part-clause-during g c = λ t.
    same_twice (g.D.Disk.content c.args.disk.now) (g.D.Disk.content c.loop-info.disk) (g.D.Disk.content c.read_part.new.disk) (c.loop-info.invariant.during t) (c.read_part.ensures.during t)

pub returns-in_err-read_part-clause-damaged : goal.returns-in_err-read_part-clause-damaged
returns-in_err-read_part-clause-damaged g c =
    let p = err_from_is_err_and c.from_residual.result c.from_residual.ensures.1 in
    rw (p.1, p.2) (λ at is t parts stand.
    let inv = c.loop-info.invariant in
    let seen = (g.D.Disk.content c.args.disk.now).seen in
    let segment = c.args.settings.now.segment in
    let infos = c.args.segments.now in
    let k = c.loop-info.info-index in
    let none : SegmentInfo = record { segment = 0; generation = 0; used = 0; first = 0 } in
    let info : SegmentInfo = get_or infos k none in
    let low = c.args.scan.now.next in
    let one = next_one segment infos parts low seen k none c.loop-info-test.true stand in
    let stands = next_stands segment infos parts low seen k info one c.loop-info.scan.next (inv.read t parts stand).0 in
    let there = subst (λ (n : ℕ). StandsAt n info.used c.loop-info.scan.next seen one.part) (sym c.place_of-place.ensures.place) stands in
    c.in_err-read_part.ensures.damaged at (err_over {T = Unit {0}} {U = Unit {0}} c.in_err-read_part.field-0.0 (Damaged at) is) t one.part (subst (λ (l : List ℕ). StandsAt c.place_of-place.result info.used c.loop-info.scan.next l one.part) (sym (inv.seen t)) there))

pub loop-info-preserved : goal.loop-info-preserved
loop-info-preserved g c =
    let inv = c.loop-info.invariant in
    let seen = (g.D.Disk.content c.args.disk.now).seen in
    let segment = c.args.settings.now.segment in
    let infos = c.args.segments.now in
    let k = c.loop-info.info-index in
    let none : SegmentInfo = record { segment = 0; generation = 0; used = 0; first = 0 } in
    let info : SegmentInfo = get_or infos k none in
    let low = c.args.scan.now.next in
    let after = c.read_part.new.scan in
    let page = c.read_part.new.page in
    record {
      next = c.read_part.ensures.next;
      page = c.read_part.ensures.page;
      least = c.read_part.ensures.least ∙ inv.least;
      most = c.read_part.ensures.most ∙ inv.most;
      size = c.read_part.ensures.disk_size ∙ inv.size;
      later = omega (arith, c.read_part.ensures.later, inv.later);
      during = λ t. same_twice (g.D.Disk.content c.args.disk.now) (g.D.Disk.content c.loop-info.disk) (g.D.Disk.content c.read_part.new.disk) (inv.during t) (c.read_part.ensures.during t);
      seen = λ t. c.read_part.ensures.seen t ∙ inv.seen t;
      held = λ t. subst (λ (l : List ℕ). IsHeld after.piece.from after.piece.bytes.items l) (inv.seen t) (c.read_part.ensures.held t);
      read = λ t parts stand.
          let read = inv.read t parts stand in
          let one = next_one segment infos parts low seen k none c.loop-info-test.true stand in
          let stands = next_stands segment infos parts low seen k info one c.loop-info.scan.next read.0 in
          let at = subst (λ (n : ℕ). StandsAt n info.used c.loop-info.scan.next seen one.part) (sym c.place_of-place.ensures.place) stands in
          let there = subst (λ (l : List ℕ). StandsAt c.place_of-place.result info.used c.loop-info.scan.next l one.part) (sym (inv.seen t)) at in
          let given = subst (λ (n : ℕ). page.found.items ≡ filled c.loop-info.page (found_of (placed_from n one.part))) c.place_of-place.ensures.place (c.in_ok-read_part.ensures.read t one.part there) in (
            next_passed segment infos parts low seen k info one c.loop-info.scan.next after.next read.0 (c.in_ok-read_part.ensures.passed t one.part there),
            next_filled segment infos parts low seen k info one c.args.page.now c.loop-info.page page.found.items inv.least inv.most read.1 given,
          );
    }

pub returns-clause-read : goal.returns-clause-read
returns-clause-read g c = λ t parts stand.
    let read = c.loop-info.invariant.read t parts stand in
    let all : length c.args.segments.now ≤ c.loop-info.info-index = omega (arith, c.loop-info-test.false) in
    filled_last c.args.settings.now.segment c.args.page.now c.args.segments.now parts c.loop-info.page.found.items c.loop-info.info-index all stand.sized read.1
