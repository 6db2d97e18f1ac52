use Rattle.std.proofs.Common.{◌≡◌, ◌⊎◌, ◌∙◌, ap, sym, subst, Err, refl}
use Rattle.front_end.specs.declared.lines.Stop.TheVariants as stop
use Rattle.front_end.specs.Session.{ties_of}
use Rattle.front_end.proofs.RunLemmas.{known_error}
use Rattle.front_end.proofs.RunOnLemmas.{finished_over, stopped_over, cut_over, on_map, was_map}
use Rattle.front_end.proofs.EndLemmas.{new_running, run_finished, end_stopped, end_cut, status_cases}
use Rattle.front_end.proofs.run.run_script.Goals as goal

pub run_lines-requires-clause-fresh : goal.run_lines-requires-clause-fresh
run_lines-requires-clause-fresh g c = new_running _ _ _ c.new-session.result _ _ c.new-session.ensures.keeps (c.requires.quiet c.new-session.result.router c.new-session.ensures.stands)

pub returns-in_err-ending-clause-stopped : goal.returns-in_err-ending-clause-stopped
returns-in_err-ending-clause-stopped g c = λ q.
    on_map _ _ _ _ _ _ c.new-session.ensures.shape (λ tie h. stopped_over _ _ tie _ _ c.new-session.ensures.shape h)
    (c.in_err-ending.ensures.stopped (ap Err (sym (known_error _ stop.Source c.in_err-ending.field-0.0 c.from_residual.ensures q))))

pub returns-in_err-ending-clause-cut : goal.returns-in_err-ending-clause-cut
returns-in_err-ending-clause-cut g c = λ q.
    on_map _ _ _ _ _ _ c.new-session.ensures.shape (λ tie h. cut_over _ _ tie _ c.new-session.ensures.shape h)
    (c.in_err-ending.ensures.cut (ap Err (sym (known_error _ stop.Sink c.in_err-ending.field-0.0 c.from_residual.ensures q))))

pub returns-in_err-ending-clause-refused : goal.returns-in_err-ending-clause-refused
returns-in_err-ending-clause-refused g c = λ q.
    let was = c.in_err-ending.ensures.refused (ap Err (sym (known_error _ stop.Memory c.in_err-ending.field-0.0 c.from_residual.ensures q))) in
    (was.0, was_map _ _ _ _ _ _ _ _ _ _ _ c.new-session.ensures.shape (λ tie h. stopped_over _ _ tie _ was.0 c.new-session.ensures.shape h) was.1)

pub returns-in_err-finish-clause-stopped : goal.returns-in_err-finish-clause-stopped
returns-in_err-finish-clause-stopped g c = λ q. absurd (c.in_err-finish.ensures.source (sym (known_error _ stop.Source c.in_err-finish.field-0.0 c.from_residual-in_err-finish.ensures q)))

pub returns-in_err-finish-clause-cut : goal.returns-in_err-finish-clause-cut
returns-in_err-finish-clause-cut g c = λ q.
    let e = sym (known_error _ stop.Sink c.in_err-finish.field-0.0 c.from_residual-in_err-finish.ensures q) in
    let P = c.new-session.result.router.shape in
    let tie = ties_of c.run_lines.new.session.router (g.F.Fabric.told c.run_lines.new.fabric) in
    let tie' = ties_of c.finish.new.session.router (g.F.Fabric.told c.finish.new.fabric) in
    let parts : P ≡ c.args.shape.now = c.new-session.ensures.shape in
    let cut = end_cut P _ _ _ _ _ c.run_lines.new.session c.finish.new.session tie tie' _ _ c.in_ok-ending.ending _ refl refl refl refl refl refl c.in_ok-ending.ensures.ran (c.in_err-finish.ensures.cut (ap Err e)) in
    record {
      router = c.finish.new.session.router;
      shaped = c.in_err-finish.ensures.shape ∙ c.in_ok-ending.ensures.shape ∙ c.new-session.ensures.shape;
      so = cut_over _ _ tie' _ parts cut;
    }

pub returns-in_err-finish-clause-refused : goal.returns-in_err-finish-clause-refused
returns-in_err-finish-clause-refused g c = λ q.
    let e = sym (known_error _ stop.Memory c.in_err-finish.field-0.0 c.from_residual-in_err-finish.ensures q) in
    let P = c.new-session.result.router.shape in
    let tie = ties_of c.run_lines.new.session.router (g.F.Fabric.told c.run_lines.new.fabric) in
    let parts : P ≡ c.args.shape.now = c.new-session.ensures.shape in
    let stopped = end_stopped P _ _ _ _ _ c.run_lines.new.session tie _ _ c.in_ok-ending.ending _ refl refl refl refl refl c.in_ok-ending.ensures.ran (c.in_err-finish.ensures.memory (ap Err e)) in (
      g.U.Random.ahead c.run_lines.new.random,
      record {
        between = c.run_lines.new.fabric;
        went = c.in_ok-ending.ensures.net;
        was = record {
          router = c.run_lines.new.session.router;
          shaped = c.in_ok-ending.ensures.shape ∙ c.new-session.ensures.shape;
          so = stopped_over _ _ tie _ _ parts stopped;
        };
        fell = rw e at c.in_err-finish.ensures.net;
      },
    )

pub returns-clause-finished : goal.returns-clause-finished
returns-clause-finished g c =
    let P = c.new-session.result.router.shape in
    let tie = ties_of c.run_lines.new.session.router (g.F.Fabric.told c.run_lines.new.fabric) in
    let tie' = ties_of c.finish.new.session.router (g.F.Fabric.told c.finish.new.fabric) in
    let parts : P ≡ c.args.shape.now = c.new-session.ensures.shape in
    let finished = run_finished P _ _ _ _ _ c.run_lines.new.session c.finish.new.session tie tie' _ _ c.in_ok-ending.ending _ refl refl refl refl refl refl c.in_ok-ending.ensures.ran c.in_ok-finish.ensures.ok in
    record {
      router = c.finish.new.session.router;
      shaped = c.in_ok-finish.ensures.shape ∙ c.in_ok-ending.ensures.shape ∙ c.new-session.ensures.shape;
      so = finished_over _ _ tie' _ _ _ parts (sym c.status_of.ensures) finished;
    }

pub returns-clause-status : goal.returns-clause-status
returns-clause-status g c = subst (λ n. (n ≡ 0) ⊎ ((n ≡ 2) ⊎ (n ≡ 8))) (sym c.status_of.ensures) (status_cases c.in_ok-ending.ending c.finish.new.session.bad)
