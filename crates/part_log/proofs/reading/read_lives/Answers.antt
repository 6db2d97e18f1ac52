use Rattle.std.proofs.Common.{◌≡◌, ℕ, ◌+◌, List, [], ◌∷◌, ◌++◌, take, drop, get_or, sym, ◌∙◌, ap, subst, arith, take-append-drop, Vec}
use Rattle.std.specs.declared.alloc.Global.{Global}
use Rattle.std.proofs.lemmas.Result.{err_from_is_err_and}
use Rattle.std.proofs.lemmas.List.{take_more, drop_more}
use Rattle.disk_core.specs.Content.{range}
use Rattle.log_manifest.specs.declared.manifest.Live.{Live}
use Rattle.part_log.specs.declared.fault.OpenFault.TheVariants.{Damaged}
use Rattle.part_log.specs.declared.segment.SegmentInfo.{SegmentInfo}
use Rattle.part_log.specs.Segments.{place_of, lives_of}
use Rattle.part_log.specs.Log.{placed_in}
use Rattle.part_log.specs.Marks.{MarksOn}
use Rattle.part_log.specs.Images.{EndsBadly}
use Rattle.part_log.specs.Scan.{AreRead, IsHeld, TakesAll, found_of}
use Rattle.part_log.proofs.Scanning.{same_twice, err_over}
use Rattle.part_log.proofs.Lives.{badly_among, lives-more, marked_more, taken_more}
use Rattle.part_log.proofs.reading.read_lives.Goals as goal

pub returns-in_err-read_live-clause-during : goal.returns-in_err-read_live-clause-during
returns-in_err-read_live-clause-during g c = λ t.
    same_twice (g.D.Disk.content c.args.disk.now) (g.D.Disk.content c.loop-live.disk) (g.D.Disk.content c.read_live.new.disk) (c.loop-live.invariant.during t) (c.read_live.ensures.during t)

pub returns-in_err-read_live-clause-damaged : goal.returns-in_err-read_live-clause-damaged
returns-in_err-read_live-clause-damaged g c =
    let p = err_from_is_err_and c.from_residual.result c.from_residual.ensures.1 in
    rw (p.1, p.2) (λ at is t.
    let inv = c.loop-live.invariant in
    let seen = (g.D.Disk.content c.args.disk.now).seen in
    let segment = c.args.settings.now.segment in
    let lives = c.args.lives.now in
    let k = c.loop-live.live-index in
    let none : Live = record { segment = 0; generation = 0 } in
    let live : Live = get_or lives k none in
    let read = inv.read t in
    let given = c.in_err-read_live.ensures.damaged at (err_over {T = Vec SegmentInfo Global} {U = Unit {0}} c.in_err-read_live.field-0.0 (Damaged at) is) t in
    let split : lives ≡ take k lives ++ live ∷ drop (k + 1) lives = sym (take-append-drop k lives) ∙ ap (λ (l : List Live). take k lives ++ l) (drop_more lives k none c.loop-live-test.true) in
    let bad = subst (λ (l : List ℕ). EndsBadly c.loop-live.scan.next (range (place_of segment live.segment) segment l) given.0) (inv.seen t) given.2 in
    badly_among segment seen lives (take k lives) live (drop (k + 1) lives) c.loop-live.segments.items c.loop-live.scan.next read.0 at given.0 split inv.lives inv.fit read.1 bad given.1)

pub loop-live-preserved : goal.loop-live-preserved
loop-live-preserved g c =
    let inv = c.loop-live.invariant in
    let old = g.D.Disk.content c.args.disk.now in
    let seen = old.seen in
    let segment = c.args.settings.now.segment in
    let lives = c.args.lives.now in
    let k = c.loop-live.live-index in
    let none : Live = record { segment = 0; generation = 0 } in
    let live : Live = get_or lives k none in
    let after = c.read_live.new.scan in
    let made = c.in_ok-read_live.ensures.more in
    let info : SegmentInfo = made.0 in
    record {
      fit = c.in_ok-read_live.ensures.fit inv.fit;
      lives = ap lives_of made.2 ∙ lives-more c.loop-live.segments.items info ∙ ap (λ (l : Live). lives_of c.loop-live.segments.items ++ l ∷ []) made.1 ∙ ap (λ (l : List Live). l ++ live ∷ []) inv.lives ∙ sym (take_more lives k none c.loop-live-test.true);
      next = c.read_live.ensures.next;
      size = c.read_live.ensures.disk_size ∙ inv.size;
      later = omega (arith, c.read_live.ensures.later, inv.later);
      during = λ t. same_twice old (g.D.Disk.content c.loop-live.disk) (g.D.Disk.content c.read_live.new.disk) (inv.during t) (c.read_live.ensures.during t);
      seen = λ t. c.read_live.ensures.seen t ∙ inv.seen t;
      held = λ t. subst (λ (l : List ℕ). IsHeld after.piece.from after.piece.bytes.items l) (inv.seen t) (c.read_live.ensures.held t);
      read = λ t.
          let read = inv.read t in
          let there = subst (λ (l : List ℕ). AreRead segment l c.loop-live.segments.items c.loop-live.scan.next read.0) (sym (inv.seen t)) read.1 in
          let more = c.in_ok-read_live.ensures.read t read.0 there in (
            read.0 ++ more.0 ∷ [],
            subst (λ (l : List ℕ). AreRead segment l c.read_live.new.segments.items after.next (read.0 ++ more.0 ∷ [])) (inv.seen t) more.1,
            subst (λ (l : List SegmentInfo). TakesAll g.C.Collect.takes c.args.collector.now (found_of (placed_in segment l (read.0 ++ more.0 ∷ []))) c.read_live.new.collector) (sym made.2)
                (taken_more segment seen c.loop-live.segments.items c.loop-live.scan.next read.0 read.1 info after.next more.0 g.C.Collect.takes c.args.collector.now c.loop-live.collector c.read_live.new.collector
                (place_of segment live.segment) (ap (λ (l : Live). place_of segment l.segment) (sym made.1)) read.2 more.2),
            subst (λ (l : List SegmentInfo). MarksOn c.args.scan.now.marks.list.items (placed_in segment l (read.0 ++ more.0 ∷ [])) after.marks.list.items) (sym made.2)
                (marked_more segment seen c.loop-live.segments.items c.loop-live.scan.next read.0 read.1 info after.next more.0 c.args.scan.now.marks.list.items c.loop-live.scan.marks.list.items after.marks.list.items
                (place_of segment live.segment) (ap (λ (l : Live). place_of segment l.segment) (sym made.1)) read.3 more.3),
          );
    }
