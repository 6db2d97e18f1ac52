use Rattle.std.proofs.Common.{◌≡◌, ◌∙◌, ◌++◌, ap, sym, List, ℕ}
use Rattle.front_end.proofs.run.run_line.Goals as goal

pub returns-in-Ok-clause-carried : goal.returns-in-Ok-clause-carried
returns-in-Ok-clause-carried g c = λ lines state first k stands counted.
    let h = c.in_ok-goes_on.ensures.carried lines state first k stands counted in
    record {
      state = h.state;
      keeps = h.keeps;
      stands = h.stands;
      added = h.adds.0;
      bytes = c.as_slice.result.now;
      part = c.as_slice.ensures.value ∙ h.adds.1 ∙ ap (λ (x : List ℕ). x ++ h.adds.0) c.new-out.ensures.items;
      wrote = c.in-Ok.ensures.ok;
      transcript = h.adds.2;
    }

pub returns-clause-cut : goal.returns-clause-cut
returns-clause-cut g c = λ q lines state first k stands counted.
    let h = c.in_ok-goes_on.ensures.carried lines state first k stands counted in
    let err = c.in-Err.ensures.err in
    let all : c.as_slice.result.now ≡ h.adds.0 = c.as_slice.ensures.value ∙ h.adds.1 ∙ ap (λ (x : List ℕ). x ++ h.adds.0) c.new-out.ensures.items in
    record {
      state = h.state;
      keeps = h.keeps;
      stands = h.stands;
      added = h.adds.0;
      bytes = err.0;
      part = (err.1.0, sym all ∙ err.1.1);
      wrote = err.2;
      transcript = h.adds.2;
    }
