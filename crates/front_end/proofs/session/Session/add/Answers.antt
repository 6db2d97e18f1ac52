use Rattle.std.proofs.Common.{◌∙◌, ◌++◌, ◌∷◌, [], ap, sym, length}
use Rattle.router_core.specs.Stands.{is_idle, live_in}
use Rattle.front_end.specs.declared.history.Entry.{Entry}
use Rattle.front_end.specs.Past.{answer_of}
use Rattle.front_end.specs.Session.{answer_at, entries_of}
use Rattle.front_end.proofs.KeepLemmas.{settled_outline, answers_own}
use Rattle.front_end.proofs.session.Session.add.Goals as goal

pub returns-clause-state : goal.returns-clause-state
returns-clause-state c = λ state k.
    let self = c.args.self.now in
    let e = c.in_ok-settle.ensures in
    let plain = c.requires.plain in
    record {
      tags = e.tags ∙ k.tags;
      busy = ap (λ r. is_idle (live_in r.stages)) e.router ∙ k.busy;
      some = k.some;
      lines = e.lines ∙ k.lines;
      bad = e.bad ∙ k.bad;
      settled = e.settled ∙ ap (λ (x : Entry). (self.settled ++ self.later) ++ x ∷ []) (sym plain.outlined)
          ∙ settled_outline state.settled state.later self.settled self.later c.args.entry k.settled k.later;
      later = e.later;
      count = ap (λ a. length a.items) e.answers ∙ k.count;
      answers = λ n pos. ap (λ a. answer_at a.items n) e.answers ∙ k.answers n pos ∙ answers_own state c.args.entry n (plain.silent (answer_of (entries_of state) n) n);
    }
