use Rattle.std.proofs.Common.{ℕ, List, get_or, take, ◌∙◌, subst, arith}
use Rattle.std.specs.Option.{option_to_list}
use Rattle.operation.specs.declared.sending.Errand.{Errand}
use Rattle.operation.specs.Calls.{Call, sent_all}
use Rattle.operation.specs.Wants.{HasSent, asked_if, sends_along}
use Rattle.operation.proofs.AskingLaws.{asked_more}
use Rattle.operation.proofs.asking.send_along.Goals as goal

pub loop-replica-preserved : goal.loop-replica-preserved
loop-replica-preserved g c =
    let asker = g.A.Asker in
    let errand = asker.errand c.args.asker.now in
    let i = c.loop-replica.invariant in
    let e = c.ask_one-request.ensures in
    let k : ℕ = c.loop-replica.replica-index in
    let xs : List ℕ = c.args.order.now in
    let x : ℕ = get_or xs k 0 in
    let next : ℕ = c.loop-replica.request in
    let out = c.loop-replica.out.items in
    let out' = c.ask_one-request.new.out.items in
    let next' : ℕ = c.ask_one-request.result in
    record {
      same = e.same ∙ i.same;
      sent = λ t calls h n.
          let so = i.sent t calls h n in
          let new = asker.stands c.ask_one-request.new.asker t in
          let now : List Call = sent_all (sends_along (asker.passes t) (asker.purpose t) errand calls (take k xs)) calls in
          asked_more (asker.passes t) (asker.purpose t) errand xs k 0 calls (asker.stands c.loop-replica.asker t) new c.args.out.now.items out out' next next' c.loop-replica-test.true so
          (subst (λ (d : Errand). HasSent new (option_to_list (asked_if (asker.passes t now x) (record { request = next; replica = x; purpose = asker.purpose t; errand = d }))) now out out' next') i.same
          (e.sent t now so.knows so.numbers));
      room = (let a = e.len in let b = e.room in let d = i.room in let l = c.loop-replica-test.true in omega arith);
      few = (let a = e.few in let b = i.few in omega arith);
      len = (let a = e.len in let b = i.len in omega arith);
      capacity = (let a = e.room in let b = i.capacity in omega arith);
    }
