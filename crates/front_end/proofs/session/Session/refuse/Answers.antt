use Rattle.std.proofs.Common.{ℕ, refl, subst, true}
use Rattle.front_end.specs.declared.history.Entry.TheVariants.{Bad}
use Rattle.front_end.specs.Session.{Keeps, settled_by}
use Rattle.front_end.proofs.KeepLemmas.{on_ok_map}
use Rattle.front_end.proofs.session.Session.refuse.Goals as goal

pub add-requires-clause-plain : goal.add-requires-clause-plain
add-requires-clause-plain c = record { outlined = refl; silent = λ before n. refl }

pub returns-clause-state : goal.returns-clause-state
returns-clause-state c =
    let self = c.args.self.now in
    on_ok_map c.add.result
    (λ becomes. λ state k.
    let bad : Keeps (record self { bad = true }) (record state { bad = true }) = record {
      tags = k.tags;
      busy = k.busy;
      some = k.some;
      lines = k.lines;
      bad = refl;
      settled = k.settled;
      later = k.later;
      count = k.count;
      answers = k.answers;
    } in
    subst (λ (n : ℕ). Keeps c.add.new.self (settled_by (record state { bad = true }) (Bad n))) k.lines (becomes (record state { bad = true }) bad))
    c.add.ensures.state
