use Rattle.std.proofs.Common.{◌≡◌, ◌∙◌, ◌++◌, ◌∷◌, [], ◌+◌, List, ℕ, ap, sym, refl, None, Option, length, length-append, arith}
use Rattle.router_core.specs.Stands.{is_idle, live_in}
use Rattle.front_end.specs.declared.history.Entry.{Entry}
use Rattle.front_end.specs.declared.history.Entry.TheVariants.{Mark}
use Rattle.world_model.specs.declared.history.HistoryMark.TheVariants.{Begin}
use Rattle.world_model.specs.declared.history.Begun.{Begun}
use Rattle.front_end.specs.declared.tags.Tag.{Tag}
use Rattle.front_end.specs.Outline.{outline_entry}
use Rattle.front_end.specs.Session.{answer_at}
use Rattle.front_end.proofs.KeepLemmas.{answers_begin, settled_outline, answers_own}
use Rattle.front_end.proofs.session.Session.begin.Goals as goal

pub returns-clause-state : goal.returns-clause-state
returns-clause-state c = λ state request k outline.
    let self = c.args.self.now in
    let e = c.in_ok-settle.ensures in
    let t : Tag = record { name = c.args.name; is_put = c.args.is_put } in
    let mark = Mark (Begin (length state.tags + 1) request) in
    let entry : Mark (Begin (length self.tags + 1) c.args.begun) ≡ outline_entry mark =
    ap (λ (tags : List Tag). Mark (Begin (length tags + 1) c.args.begun)) k.tags ∙ ap (λ (r : Begun). Mark (Begin (length state.tags + 1) r)) (sym outline) in
    let size = length-append state.tags (t ∷ []) in
    let places = length-append self.answers.items (None ∷ []) in
    record {
      tags = e.tags ∙ c.in_ok-push.ensures.ok ∙ ap (λ (tags : List Tag). tags ++ t ∷ []) k.tags;
      busy = ap (λ r. is_idle (live_in r.stages)) e.router ∙ k.busy;
      some = λ busy. omega (arith, size);
      lines = e.lines ∙ k.lines;
      bad = e.bad ∙ k.bad;
      settled = e.settled ∙ ap (λ n. (self.settled ++ self.later) ++ Mark (Begin (n + 1) c.args.begun) ∷ []) c.len.ensures ∙ ap (λ (x : Entry). (self.settled ++ self.later) ++ x ∷ []) entry
          ∙ settled_outline state.settled state.later self.settled self.later mark k.settled k.later;
      later = e.later;
      count = ap (λ a. length a.items) e.answers ∙ ap length c.in_ok-push-2.ensures.items ∙ omega (arith, places, size, k.count);
      answers = λ n pos. ap (λ a. answer_at a.items n) e.answers ∙ ap (λ (xs : List (Option (List ℕ))). answer_at xs n) c.in_ok-push-2.ensures.items
          ∙ answers_begin self.answers.items n ∙ k.answers n pos ∙ answers_own state mark n refl;
    }
