use Rattle.std.proofs.Common.{◌≡◌, ◌∙◌, ◌++◌, ◌∷◌, [], ◌+◌, List, ℕ, ap, sym, subst, refl, Some, length, length-append, true, arith}
use Rattle.front_end.specs.declared.history.Entry.TheVariants.{Mark}
use Rattle.world_model.specs.declared.history.HistoryMark.TheVariants.{Begin}
use Rattle.world_model.specs.declared.history.Begun.{Begun}
use Rattle.world_model.specs.declared.shape.Shape.{Shape}
use Rattle.router_core.specs.Fits.{RouterView}
use Rattle.front_end.specs.declared.tags.Tag.{Tag}
use Rattle.front_end.specs.declared.script.Command.TheVariants as command
use Rattle.front_end.specs.Script.{command_of}
use Rattle.front_end.specs.Transcript.{entry_line}
use Rattle.front_end.specs.Session.{Keeps, Adds, Stores, finished_by, begun_by, ending_of, put_of, ties_of}
use Rattle.front_end.proofs.CarryLemmas.{IsGoing, begin_whole, to_draw_of}
use Rattle.front_end.proofs.LineStepLemmas.{finishes_state, begun_told, put_goes_on}
use Rattle.front_end.proofs.session.Session.put.Goals as goal

pub returns-clause-carried : goal.returns-clause-carried
returns-clause-carried g c = λ line asks lines state first k stands number.
    let self = c.args.self.now in
    let out = c.args.out.now.items in
    let body = c.args.body in
    let shape = self.router.shape in
    let t : Tag = record { name = c.args.name; is_put = true } in
    let tie = ties_of self.router (g.F.Fabric.told c.args.fabric.now) in
    let tie1 = ties_of c.finish.new.self.router (g.F.Fabric.told c.finish.new.fabric) in
    let tie2 = ties_of c.put_body.new.self.router (g.F.Fabric.told c.put_body.new.fabric) in
    let f = c.in_ok-finish.ensures.finished in
    let h = finishes_state self c.finish.new.self state tie tie1 out c.finish.new.out.items f k in
    let s1 = finished_by state f.outcome in
    let r = put_of body in
    let n = length state.tags + 1 in
    let words = g.U.Random.ahead c.args.random.now in
    let asks' : command_of state.tags line ≡ Some (command.Put c.args.name body) = ap (λ (x : List Tag). command_of x line) (sym k.tags) ∙ asks in
    let whole = begin_whole shape lines line state tie tie1 first words f.outcome t r (command.Put c.args.name body) out stands h.ends k.some h.ties asks' (λ known. refl) (λ known. refl) (c.args.name, refl, refl, refl, refl, refl, refl) in
    let coded : Begun = Begun.Put c.new.result c.new-2.result 0 c.new-3.result c.new-4.result in
    let none : Begun.Put [] [] 0 [] [] ≡ coded = λ i. Begun.Put (sym c.new.ensures i) (sym c.new-2.ensures i) 0 (sym c.new-3.ensures i) (sym c.new-4.ensures i) in
    let k2 : Keeps c.begin.new.self (begun_by s1 t r) = c.in_ok-_number.ensures.state s1 r h.keeps none in
    let tags : c.finish.new.self.tags ≡ state.tags = c.in_ok-finish.ensures.tags ∙ k.tags in
    let size = length-append c.finish.new.self.tags (t ∷ []) in
    let counted : length c.begin.new.self.tags ≡ n = ap length c.in_ok-_number.ensures.tags ∙ omega (arith, size, ap length tags) in
    let told : c.begin.new.out.items ≡ (out ++ ending_of state.tags f.outcome) ++ entry_line (state.tags ++ t ∷ []) (Mark (Begin n r)) =
    begun_told c.begin.new.out.items c.finish.new.out.items out c.finish.new.self.tags state.tags (ending_of state.tags f.outcome) t coded r tags c.in_ok-_number.ensures.told h.told in
    let same : c.begin.new.self.router ≡ c.finish.new.self.router = c.in_ok-_number.ensures.router in
    let parts : c.begin.new.self.router.shape.partitions ≡ shape.partitions = ap (λ (x : RouterView). x.shape.partitions) same ∙ ap (λ (x : Shape). x.partitions) c.in_ok-finish.ensures.shape in
    let now = g.F.Fabric.told c.finish.new.fabric in
    let going = subst (λ (x : RouterView). IsGoing shape (lines ++ line ∷ []) (begun_by s1 t r) (ties_of x now) first words n r (to_draw_of n r)) (sym same) whole.0 in
    let m = length c.begin.new.self.tags in
    let next = g.U.Random.ahead c.put_body.new.random in
    let out1 = c.begin.new.out.items in
    let out2 = c.put_body.new.out.items in
    let tie1' = ties_of c.begin.new.self.router now in
    put_goes_on shape line lines state (begun_by s1 t r) c.begin.new.self c.put_body.new.self tie1' tie2 first words next n body out out1 out2
    k2 counted (omega arith) going (subst (λ (x : List ℕ). Adds out x state (begun_by s1 t r)) (sym told) whole.1)
    (λ small. subst (λ (q : ℕ). Stores q m body c.begin.new.self c.put_body.new.self tie1' tie2 words next out1 out2) parts (c.in_ok-put_body.ensures.stored small))
    c.in_ok-put_body.ensures.refused
