use Rattle.std.proofs.Common.{◌≡◌, ◌∙◌, ◌++◌, ◌∷◌, [], List, ℕ, ap, sym, Option, length, arith, append_assoc}
use Rattle.front_end.specs.declared.tags.Tag.{Tag}
use Rattle.front_end.specs.declared.history.Entry.{Entry}
use Rattle.front_end.specs.declared.history.Entry.TheVariants.{Mark}
use Rattle.world_model.specs.declared.history.HistoryMark.TheVariants.{End}
use Rattle.front_end.specs.Outline.{outline_entry}
use Rattle.front_end.specs.Past.{answer_in, answer_of}
use Rattle.front_end.specs.Session.{entries_of, answer_at, answered}
use Rattle.front_end.proofs.KeepLemmas.{outline_more, length_answered, answers_end}
use Rattle.front_end.proofs.session.Session.end.Goals as goal

pub returns-clause-state : goal.returns-clause-state
returns-clause-state c = λ state pos k.
    let self = c.args.self.now in
    let n = length state.tags in
    let o = c.args.ended.outcome in
    let e = Mark (End n o) in
    let number : c.args.ended.operation ≡ n = c.requires.last ∙ ap (λ (t : List Tag). length t) k.tags in
    let items : c.answer_with.new.answers.items ≡ answered self.answers.items n (answer_in o) =
    c.answer_with.ensures.set ∙ ap (λ m. answered self.answers.items m c.answer_in-answer.result) number ∙ ap (answered self.answers.items n) c.answer_in-answer.ensures in
    record {
      tags = k.tags;
      busy = k.busy;
      some = k.some;
      lines = k.lines;
      bad = k.bad;
      settled = k.settled;
      later = c.in_ok-push.ensures.ok ∙ ap (λ (x : Entry). self.later ++ x ∷ []) c.outline_of.ensures ∙ ap (λ m. self.later ++ outline_entry (Mark (End m o)) ∷ []) number ∙ ap (λ (t : List Entry). t ++ outline_entry e ∷ []) k.later ∙ sym (outline_more state.later e);
      count = ap length items ∙ length_answered self.answers.items n (answer_in o) ∙ k.count;
      answers = λ m m_pos. ap (λ (xs : List (Option (List ℕ))). answer_at xs m) items
          ∙ answers_end self.answers.items (entries_of state) n o pos (omega (arith, k.count)) k.answers m m_pos
          ∙ ap (λ (es : List Entry). answer_of es m) (append_assoc state.settled state.later (e ∷ []));
    }
