use Rattle.std.proofs.Common.{◌++◌, sym, ◌∙◌, ap, arith, take, drop, append_assoc, List, ℕ}
use Rattle.std.proofs.lemmas.List.{take-append-drop}
use Rattle.front_end.proofs.WriteLemmas.{appends_both}
use Rattle.front_end.proofs.run.write_all.Goals as goal

pub writing-preserved : goal.writing-preserved
writing-preserved g c =
    let w = c.writing.invariant.written in
    let e = c.in_ok-count.ensures in
    let n = c.in_ok-count.count in
    let rest = c.writing.rest.now in
    record {
      written = (
        w.0 ++ take n rest,
        w.1 ∙ ap (λ (t : List ℕ). w.0 ++ t) (sym (take-append-drop n rest)) ∙ sym (append_assoc w.0 (take n rest) (drop n rest)) ∙ ap (λ (t : List ℕ). (w.0 ++ take n rest) ++ t) (sym c.split_at.ensures.back),
        appends_both _ _ _ w.0 (take n rest) w.2 e.bytes,
      );
      later = omega (arith, c.writing.invariant.later, e.cause.later);
    }
