use Rattle.std.proofs.Common.{◌≡◌, ◌∙◌, ap, arith, rules, refl, ◌+◌, ◌-◌, ℕ, take, drop}
use Rattle.disk_core.proofs.unsynced.keep_range.Goals as goal

pub returns-clause-ok : goal.returns-clause-ok
returns-clause-ok c = record {
  write = record { at = c.args.at; bytes = c.in_ok-kept.kept };
  added = c.in_ok-push.ensures.items;
  place = refl;
  kept =
      let same : c.in_ok-kept.kept.items ≡ take (c.args.at + c.args.count - c.args.at) (drop c.args.at c.args.bytes.now) = search rules in
      let long : c.args.at + c.args.count - c.args.at ≡ c.args.count = omega arith in
      same ∙ ap (λ (n : ℕ). take n (drop c.args.at c.args.bytes.now)) long;
}
