use Rattle.std.proofs.Common.{◌≡◌, ◌∙◌, ◌++◌, ◌∷◌, [], ◌+◌, ◌-◌, ◌%◌, List, ℕ, ap, sym, subst, refl, length, arith}
use Rattle.blob_id.specs.Id.{drawn_id}
use Rattle.blob_id.specs.declared.id.Kind.TheVariants.{Simple}
use Rattle.world_model.specs.declared.history.HistoryMark.TheVariants.{Begin, Drew}
use Rattle.front_end.specs.declared.history.Entry.{Entry}
use Rattle.front_end.specs.declared.history.Entry.TheVariants.{Mark}
use Rattle.front_end.specs.Transcript.{entry_line}
use Rattle.front_end.specs.Session.{put_of, ties_of}
use Rattle.front_end.proofs.KeepLemmas.{outline_more, answers_later}
use Rattle.router_core.specs.Stands.{live_in}
use Rattle.front_end.proofs.AloneLemmas.{next_is_live}
use Rattle.front_end.proofs.session.Session.store.Goals as goal

pub returns-clause-stored : goal.returns-clause-stored
returns-clause-stored g c =
    let self = c.args.self.now in
    let id = c.draw-id.result in
    let n = length self.tags in
    let e = Mark (Drew n id) in
    let before = g.F.Fabric.told c.args.fabric.now in
    let now = g.F.Fabric.told c.put.new.fabric in
    let counted : self.router.begun + 1 ≡ n = c.requires.begun in
    let turn : c.partition.result ≡ (n - 1) % self.router.shape.partitions = c.partition.ensures.value ∙ ap (λ m. m % self.router.shape.partitions) (omega (arith, counted)) in
    record {
      id = id;
      draws = (c.word-high.result, c.word-low.result, (_, c.word-high.ensures.given, c.word-low.ensures.given), c.draw-id.ensures ∙ ap (λ p. drawn_id Simple p c.word-high.result c.word-low.result) turn);
      drew = λ state k. record {
        tags = k.tags;
        busy = next_is_live (self.router.begun + 1) (live_in self.router.stages) (live_in c.put.new.self.stages) c.requires.idle c.in_ok-put.ensures.live;
        some = λ b. omega (arith, counted, ap length k.tags);
        lines = k.lines;
        bad = k.bad;
        settled = k.settled;
        later = c.in_ok-push.ensures.ok ∙ ap (λ (m : ℕ). self.later ++ Mark (Drew m id) ∷ []) c.len.ensures ∙ ap (λ (t : List Entry). t ++ e ∷ []) k.later ∙ sym (outline_more state.later e);
        count = k.count;
        answers = λ m pos. k.answers m pos ∙ answers_later state e m refl;
      };
      ties = λ marks t. subst (λ (m : ℕ). ties_of c.put.new.self now (Drew m id ∷ Begin m (put_of c.args.body) ∷ marks)) counted (c.in_ok-put.ensures.ties marks t);
      told = c.in_ok-write_entry.ensures.ok ∙ ap (λ (m : ℕ). c.args.out.now.items ++ entry_line self.tags (Mark (Drew m id))) c.len.ensures;
    }
