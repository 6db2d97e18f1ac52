use Rattle.std.proofs.Common.{◌≡◌, ◌∙◌, ap, sym, arith, Err, refl}
use Rattle.front_end.specs.declared.lines.Stop.TheVariants as stop
use Rattle.front_end.specs.Running.{IsAll, IsSome}
use Rattle.front_end.specs.Session.{ties_of}
use Rattle.front_end.proofs.RunLemmas.{known_error, stopped_between, cut_in_line, runs_on, ran_end, ran_last, ran_limit, read_now, read_line, read_all}
use Rattle.front_end.proofs.RunOnLemmas.{runs_over}
use Rattle.front_end.proofs.WriteLemmas.{appends_nothing}
use Rattle.front_end.proofs.run.run_lines.Goals as goal

pub returns-in_err-line-clause-stopped : goal.returns-in_err-line-clause-stopped
returns-in_err-line-clause-stopped g c = λ q.
    let i = c.lines.invariant in
    let P = c.args.session.now.router.shape in
    let gone = c.next_line.ensures.gone in
    let tie = ties_of c.lines.session.router (g.F.Fabric.told c.lines.fabric) in
    record { router = c.lines.session.router; shaped = i.shape; so = stopped_between P _ _ _ _ _ _ _ gone.0 _ c.lines.session tie _ _ _ refl refl refl refl refl i.running gone.1 gone.2 (appends_nothing _) }

pub returns-in_err-line-clause-refused : goal.returns-in_err-line-clause-refused
returns-in_err-line-clause-refused g c = λ q.
    let i = c.lines.invariant in
    let P = c.args.session.now.router.shape in
    let gone = c.next_line.ensures.gone in
    let tie = ties_of c.lines.session.router (g.F.Fabric.told c.lines.fabric) in
    (g.U.Random.ahead c.lines.random, record { between = c.lines.fabric; went = i.net; was = record { router = c.lines.session.router; shaped = i.shape; so = stopped_between P _ _ _ _ _ _ _ gone.0 _ c.lines.session tie _ _ _ refl refl refl refl refl i.running gone.1 gone.2 (appends_nothing _) }; fell = g.met.F.Fabric.net_nowhere c.lines.fabric _ })

pub returns-in_err-more-in-Line-clause-cut : goal.returns-in_err-more-in-Line-clause-cut
returns-in_err-more-in-Line-clause-cut g c = λ q.
    let i = c.lines.invariant in
    let r = i.running in
    let P = c.args.session.now.router.shape in
    let e = sym (known_error _ stop.Sink c.in_err-more-in-Line.field-0.0 c.from_residual-in_err-more-in-Line.ensures q) in
    let parts : c.lines.session.router.shape ≡ P = i.shape in
    let tie = ties_of c.lines.session.router (g.F.Fabric.told c.lines.fabric) in
    let tie' = ties_of c.run_line.new.session.router (g.F.Fabric.told c.run_line.new.fabric) in
    let runs = runs_over _ P _ c.lines.session c.run_line.new.session tie tie' _ _ _ _ IsSome parts (c.in_err-more-in-Line.ensures.cut (ap Err e)) in
    let ran = runs r.lines r.state (g.U.Random.ahead c.args.random.now) r.keeps r.stands r.counted in
    let next = rw c.in-Line.is at c.in_ok-line.ensures.next in
    let small = rw c.in-Line.is at c.in_ok-line.ensures.limit in
    let read = read_now _ _ _ _ _ (read_line _ _ _ _ c.next_line.new.self.waiting _ _ r.lines c.as_slice.result.now r.read (next.0, next.1, c.as_slice.ensures ∙ next.2, next.3) c.in_ok-line.ensures.read) (omega (arith, small)) in
    record {
      router = c.run_line.new.session.router;
      shaped = c.in_err-more-in-Line.ensures.shape ∙ i.shape;
      so = cut_in_line P _ _ _ _ _ r.lines c.as_slice.result.now r.state c.run_line.new.session tie' _ _ _ refl refl refl refl refl refl r.unended r.wrote read ran;
    }

pub returns-in_err-more-in-Line-clause-refused : goal.returns-in_err-more-in-Line-clause-refused
returns-in_err-more-in-Line-clause-refused g c = λ q.
    let i = c.lines.invariant in
    let P = c.args.session.now.router.shape in
    let gone = c.next_line.ensures.gone in
    let tie = ties_of c.lines.session.router (g.F.Fabric.told c.lines.fabric) in
    let e = sym (known_error _ stop.Memory c.in_err-more-in-Line.field-0.0 c.from_residual-in_err-more-in-Line.ensures q) in
    (g.U.Random.ahead c.lines.random, record { between = c.lines.fabric; went = i.net; was = record { router = c.lines.session.router; shaped = i.shape; so = stopped_between P _ _ _ _ _ _ _ gone.0 _ c.lines.session tie _ _ _ refl refl refl refl refl i.running gone.1 gone.2 (c.in_err-more-in-Line.ensures.memory (ap Err e)) }; fell = rw e at c.in_err-more-in-Line.ensures.net })

pub returns-in_err-run_line-in-Last-clause-cut : goal.returns-in_err-run_line-in-Last-clause-cut
returns-in_err-run_line-in-Last-clause-cut g c = λ q.
    let i = c.lines.invariant in
    let r = i.running in
    let P = c.args.session.now.router.shape in
    let e = sym (known_error _ stop.Sink c.in_err-run_line-in-Last.field-0.0 c.from_residual-in_err-run_line-in-Last.ensures q) in
    let parts : c.lines.session.router.shape ≡ P = i.shape in
    let tie = ties_of c.lines.session.router (g.F.Fabric.told c.lines.fabric) in
    let tie' = ties_of c.run_line-in-Last.new.session.router (g.F.Fabric.told c.run_line-in-Last.new.fabric) in
    let runs = runs_over _ P _ c.lines.session c.run_line-in-Last.new.session tie tie' _ _ _ _ IsSome parts (c.in_err-run_line-in-Last.ensures.cut (ap Err e)) in
    let ran = runs r.lines r.state (g.U.Random.ahead c.args.random.now) r.keeps r.stands r.counted in
    let next = rw (c.in-Last.is, sym c.as_slice-in-Last.ensures) at c.in_ok-line.ensures.next in
    let small = rw c.in-Last.is at c.in_ok-line.ensures.limit in
    let read = read_all _ _ _ _ c.next_line.new.self.waiting _ _ r.lines c.as_slice-in-Last.result.now r.read next c.in_ok-line.ensures.read (omega (arith, small)) in
    record {
      router = c.run_line-in-Last.new.session.router;
      shaped = c.in_err-run_line-in-Last.ensures.shape ∙ i.shape;
      so = cut_in_line P _ _ _ _ _ r.lines c.as_slice-in-Last.result.now r.state c.run_line-in-Last.new.session tie' _ _ _ refl refl refl refl refl refl r.unended r.wrote read ran;
    }

pub returns-in_err-run_line-in-Last-clause-refused : goal.returns-in_err-run_line-in-Last-clause-refused
returns-in_err-run_line-in-Last-clause-refused g c = λ q.
    let i = c.lines.invariant in
    let P = c.args.session.now.router.shape in
    let gone = c.next_line.ensures.gone in
    let tie = ties_of c.lines.session.router (g.F.Fabric.told c.lines.fabric) in
    let e = sym (known_error _ stop.Memory c.in_err-run_line-in-Last.field-0.0 c.from_residual-in_err-run_line-in-Last.ensures q) in
    (g.U.Random.ahead c.lines.random, record { between = c.lines.fabric; went = i.net; was = record { router = c.lines.session.router; shaped = i.shape; so = stopped_between P _ _ _ _ _ _ _ gone.0 _ c.lines.session tie _ _ _ refl refl refl refl refl i.running gone.1 gone.2 (c.in_err-run_line-in-Last.ensures.memory (ap Err e)) }; fell = rw e at c.in_err-run_line-in-Last.ensures.net })

pub returns-then-not-more-clause-ran : goal.returns-then-not-more-clause-ran
returns-then-not-more-clause-ran g c =
    let r = c.lines.invariant.running in
    let P = c.args.session.now.router.shape in
    let parts : c.lines.session.router.shape ≡ P = c.lines.invariant.shape in
    let tie = ties_of c.lines.session.router (g.F.Fabric.told c.lines.fabric) in
    let tie' = ties_of c.run_line.new.session.router (g.F.Fabric.told c.run_line.new.fabric) in
    let runs = runs_over _ P _ c.lines.session c.run_line.new.session tie tie' _ _ _ _ IsAll parts c.in_ok-more-in-Line.ensures.carried in
    let next = rw c.in-Line.is at c.in_ok-line.ensures.next in
    let small = rw c.in-Line.is at c.in_ok-line.ensures.limit in
    let ends = rw c.if-not-more.true at c.in_ok-more-in-Line.ensures.goes_on in
    ran_end P _ _ _ _ _ _ _ c.next_line.new.self.waiting _ _ c.as_slice.result.now c.lines.session c.run_line.new.session tie tie' _ _ _ r
    (next.0, next.1, c.as_slice.ensures ∙ next.2, next.3) c.in_ok-line.ensures.read small runs ends

pub lines-preserved : goal.lines-preserved
lines-preserved g c =
    let i = c.lines.invariant in
    let P = c.args.session.now.router.shape in
    let parts : c.lines.session.router.shape ≡ P = c.lines.invariant.shape in
    let tie = ties_of c.lines.session.router (g.F.Fabric.told c.lines.fabric) in
    let tie' = ties_of c.run_line.new.session.router (g.F.Fabric.told c.run_line.new.fabric) in
    let runs = runs_over _ P _ c.lines.session c.run_line.new.session tie tie' _ _ _ _ IsAll parts c.in_ok-more-in-Line.ensures.carried in
    let next = rw c.in-Line.is at c.in_ok-line.ensures.next in
    let used = rw c.in-Line.is at c.in_ok-line.ensures.budget in
    let small = rw c.in-Line.is at c.in_ok-line.ensures.limit in
    let e = c.in_ok-more-in-Line.ensures in
    let l = c.in_ok-line.ensures in
    let more = rw c.if-not-more.false at e.goes_on in
    record {
      running = runs_on P _ _ _ _ _ _ _ c.next_line.new.self.waiting _ _ c.as_slice.result.now c.lines.session c.run_line.new.session tie tie' _ _ _ i.running
          (next.0, next.1, c.as_slice.ensures ∙ next.2, next.3) l.read runs e.lines more;
      shape = e.shape ∙ i.shape;
      net = g.met.F.Fabric.net_and_then c.args.fabric.now c.lines.fabric c.run_line.new.fabric _ i.net e.net;
      turns = omega (arith, i.turns, used, e.lines);
      limit = small;
      tags = e.tags;
      ready = e.ready;
      source = omega (arith, i.source, l.later);
      sink = omega (arith, i.sink, e.later);
    }

pub returns-in-Last-clause-ran : goal.returns-in-Last-clause-ran
returns-in-Last-clause-ran g c =
    let r = c.lines.invariant.running in
    let P = c.args.session.now.router.shape in
    let parts : c.lines.session.router.shape ≡ P = c.lines.invariant.shape in
    let tie = ties_of c.lines.session.router (g.F.Fabric.told c.lines.fabric) in
    let tie' = ties_of c.run_line-in-Last.new.session.router (g.F.Fabric.told c.run_line-in-Last.new.fabric) in
    let runs = runs_over _ P _ c.lines.session c.run_line-in-Last.new.session tie tie' _ _ _ _ IsAll parts c.in_ok-run_line-in-Last.ensures.carried in
    let next = rw (c.in-Last.is, sym c.as_slice-in-Last.ensures) at c.in_ok-line.ensures.next in
    let small = rw c.in-Last.is at c.in_ok-line.ensures.limit in
    ran_last P _ _ _ _ _ _ _ c.next_line.new.self.waiting _ _ c.as_slice-in-Last.result.now c.lines.session c.run_line-in-Last.new.session tie tie' _ _ _ r
    next c.in_ok-line.ensures.read small runs

pub returns-in-Limit-clause-ran : goal.returns-in-Limit-clause-ran
returns-in-Limit-clause-ran g c =
    let next = rw c.in-Limit.is at c.in_ok-line.ensures.next in
    ran_limit _ _ _ _ _ _ _ c.next_line.new.self.waiting _ _ c.lines.session _ _ _ c.lines.invariant.running next c.in_ok-line.ensures.read (rw c.in-Limit.is at c.in_ok-line.ensures.limit)
