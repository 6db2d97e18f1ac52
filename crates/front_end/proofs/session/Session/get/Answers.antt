use Rattle.std.proofs.Common.{◌≡◌, ◌∙◌, ◌++◌, ◌∷◌, [], ◌+◌, List, ℕ, ap, sym, subst, refl, Some, length, length-append, false, arith}
use Rattle.front_end.specs.declared.history.Entry.TheVariants.{Mark}
use Rattle.world_model.specs.declared.history.HistoryMark.TheVariants.{Begin}
use Rattle.world_model.specs.declared.history.Begun.{Begun}
use Rattle.router_core.specs.Fits.{RouterView}
use Rattle.front_end.specs.declared.tags.Tag.{Tag}
use Rattle.front_end.specs.declared.script.Command.TheVariants as command
use Rattle.front_end.specs.Script.{command_of}
use Rattle.front_end.specs.Transcript.{entry_line}
use Rattle.front_end.specs.Past.{meant_by}
use Rattle.front_end.specs.Session.{Keeps, Adds, Starts, entries_of, finished_by, begun_by, ending_of, get_of, ties_of}
use Rattle.front_end.proofs.CarryLemmas.{IsGoing, begin_whole, finish_tags}
use Rattle.front_end.proofs.LineStepLemmas.{finishes_state, begun_told, starts_on}
use Rattle.router_core.specs.Stands.{is_idle, live_in}
use Rattle.front_end.proofs.AloneLemmas.{next_is_live}
use Rattle.front_end.proofs.session.Session.get.Goals as goal

pub returns-clause-carried : goal.returns-clause-carried
returns-clause-carried g c = λ line words asks lines state first k stands number.
    let self = c.args.self.now in
    let out = c.args.out.now.items in
    let shape = self.router.shape in
    let t : Tag = record { name = c.args.name; is_put = false } in
    let tie = ties_of self.router (g.F.Fabric.told c.args.fabric.now) in
    let tie1 = ties_of c.finish.new.self.router (g.F.Fabric.told c.finish.new.fabric) in
    let f = c.in_ok-finish.ensures.finished in
    let h = finishes_state self c.finish.new.self state tie tie1 out c.finish.new.out.items f k in
    let s1 = finished_by state f.outcome in
    let id = c.meant-id.result in
    let r = get_of id in
    let n = length state.tags + 1 in
    let asks' : command_of state.tags line ≡ Some (command.Get c.args.name c.args.of) = ap (λ (x : List Tag). command_of x line) (sym k.tags) ∙ asks in
    let named : id ≡ meant_by state.tags (entries_of s1) c.args.of = subst (λ (x : List Tag). id ≡ meant_by x (entries_of s1) c.args.of) (finish_tags state f.outcome) (c.meant-id.ensures.meant s1 h.keeps) in
    let whole = begin_whole shape lines line state tie tie1 first words f.outcome t r (command.Get c.args.name c.args.of) out stands h.ends k.some h.ties asks' (λ known. refl) (λ known. refl) (c.args.name, c.args.of, refl, refl, named, refl, refl) in
    let coded : Begun = c.begun_get-begun.result in
    let none : get_of id ≡ coded = sym c.begun_get-begun.ensures in
    let k2 : Keeps c.begin.new.self (begun_by s1 t r) = c.in_ok-_number.ensures.state s1 r h.keeps none in
    let tags : c.finish.new.self.tags ≡ state.tags = c.in_ok-finish.ensures.tags ∙ k.tags in
    let size = length-append c.finish.new.self.tags (t ∷ []) in
    let counted : length c.begin.new.self.tags ≡ n = ap length c.in_ok-_number.ensures.tags ∙ omega (arith, size, ap length tags) in
    let told : c.begin.new.out.items ≡ (out ++ ending_of state.tags f.outcome) ++ entry_line (state.tags ++ t ∷ []) (Mark (Begin n r)) =
    begun_told c.begin.new.out.items c.finish.new.out.items out c.finish.new.self.tags state.tags (ending_of state.tags f.outcome) t coded r tags c.in_ok-_number.ensures.told h.told in
    let same : c.begin.new.self.router ≡ c.finish.new.self.router = c.in_ok-_number.ensures.router in
    let now = g.F.Fabric.told c.finish.new.fabric in
    let going = subst (λ (x : RouterView). IsGoing shape (lines ++ line ∷ []) (begun_by s1 t r) (ties_of x now) first words n r []) (sym same) whole.0 in
    let m = length c.begin.new.self.tags in
    let e = c.in_ok-get.ensures in
    let begun : c.begin.new.self.router.begun + 1 ≡ m =
    ap (λ (x : RouterView). x.begun + 1) same ∙ omega (arith, c.in_ok-finish.ensures.ready.begun, size, ap length c.in_ok-_number.ensures.tags) in
    let new = record c.begin.new.self { router = c.get.new.self } in
    let tie' = ties_of c.get.new.self (g.F.Fabric.told c.get.new.fabric) in
    let starts : Starts m r c.begin.new.self new (ties_of c.begin.new.self.router now) tie' words words c.begin.new.out.items c.begin.new.out.items = record {
      becomes = λ s k. record {
        tags = k.tags;
        busy = next_is_live (c.begin.new.self.router.begun + 1) (live_in c.begin.new.self.router.stages) (live_in c.get.new.self.stages) (ap (λ (x : RouterView). is_idle (live_in x.stages)) same ∙ c.in_ok-finish.ensures.idle) e.live;
        some = λ b. omega (arith, counted, ap length k.tags);
        lines = k.lines;
        bad = k.bad;
        settled = k.settled;
        later = k.later;
        count = k.count;
        answers = k.answers;
      };
      ties = λ marks tied. subst (λ (q : ℕ). tie' (Begin q r ∷ marks)) begun (e.ties marks tied);
      same_words = refl;
      same_out = refl;
    } in
    starts_on shape line lines state (begun_by s1 t r) c.begin.new.self new (ties_of c.begin.new.self.router now) tie' first words words n r out c.begin.new.out.items c.begin.new.out.items
    k2 counted going (subst (λ (x : List ℕ). Adds out x state (begun_by s1 t r)) (sym told) whole.1) starts
