use Rattle.std.proofs.Common.{◌≡◌, ℕ, ◌+◌, ◌-◌, ◌≤◌, List, [], ◌∷◌, ◌++◌, length, take, Option, None, IfSome, sym, ◌∙◌, ap, subst, arith, rules}
use Rattle.std.proofs.lemmas.Result.{err_from_is_err_and}
use Rattle.disk_core.specs.Content.{range}
use Rattle.part_log.specs.declared.fault.OpenFault.TheVariants.{Damaged}
use Rattle.part_log.specs.declared.segment.Found.{Found}
use Rattle.part_log.specs.Pages.{filled, from_lsn}
use Rattle.part_log.specs.Records.{Written, EndsHere, next_after, placed_from}
use Rattle.part_log.specs.Scan.{IsBroken, IsHeld, ReadsOn, found_of}
use Rattle.part_log.proofs.Pages.{along_one, filled_one, full_all, none_broken, none_left, passed_at_most}
use Rattle.part_log.proofs.Scanning.{same_twice, err_over}
use Rattle.part_log.proofs.paging.read_part.Goals as goal

pub returns-in_err-found-clause-damaged : goal.returns-in_err-found-clause-damaged
returns-in_err-found-clause-damaged g c =
    let p = err_from_is_err_and c.from_residual.result c.from_residual.ensures.1 in
    rw (p.1, p.2) (λ at is t written stands.
    let inv = c.loop-alloc.invariant in
    let seen = (g.D.Disk.content c.args.disk.now).seen in
    let used = c.loop-alloc.used in
    let given = c.in_err-found.ensures.damaged at (err_over {T = Unit {0}} {U = Option Found} c.in_err-found.field-0.0 (Damaged at) is) in
    let broken = subst (λ (k : ℕ). IsBroken c.loop-alloc.scan.next (range (c.args.place + k) (c.args.left - used) (g.D.Disk.content c.loop-alloc.disk).seen)) c.from.ensures (given.1 t) in
    let read = inv.read t written stands in
    none_broken c.args.place c.args.left c.args.scan.now.next seen written stands (omega (arith, g.met.D.Disk.whole c.args.disk.now t, c.requires.inside)) used c.loop-alloc.scan.next inv.used read.0 read.1 read.2
    (subst (λ (l : List ℕ). IsBroken c.loop-alloc.scan.next (range (c.args.place + used) (c.args.left - used) l)) (inv.seen t) broken))

pub returns-in_default-clause-read : goal.returns-in_default-clause-read
returns-in_default-clause-read g c = λ t written stands.
    let inv = c.loop-alloc.invariant in
    let seen = (g.D.Disk.content c.args.disk.now).seen in
    let used = c.loop-alloc.used in
    let read = inv.read t written stands in
    let ended = c.in_ok-found.ensures.ended c.in_default.is in
    let ends = subst (λ (k : ℕ). EndsHere (range (c.args.place + k) (c.args.left - used) (g.D.Disk.content c.loop-alloc.disk).seen)) c.from.ensures (ended.1 t) in
    let whole : written ≡ read.0 =
    none_left c.args.place c.args.left c.args.scan.now.next seen written stands (omega (arith, g.met.D.Disk.whole c.args.disk.now t, c.requires.inside)) used c.loop-alloc.scan.next inv.used read.0 read.1 read.2
    (subst (λ (l : List ℕ). EndsHere (range (c.args.place + used) (c.args.left - used) l)) (inv.seen t) ends) in
    read.3 ∙ ap (λ (l : List Written). filled c.args.page.now (found_of (placed_from c.args.place l))) (sym whole)

pub returns-in_default-clause-passed : goal.returns-in_default-clause-passed
returns-in_default-clause-passed g c = λ t written stands.
    let inv = c.loop-alloc.invariant in
    let seen = (g.D.Disk.content c.args.disk.now).seen in
    let read = inv.read t written stands in
    let ended = c.in_ok-found.ensures.ended c.in_default.is in
    omega (
      arith,
      ended.0,
      passed_at_most c.args.place c.args.left c.args.scan.now.next seen written stands (omega (arith, g.met.D.Disk.whole c.args.disk.now t, c.requires.inside)) c.loop-alloc.used c.loop-alloc.scan.next inv.used read.0 read.1 read.2,
    )

pub loop-alloc-preserved : goal.loop-alloc-preserved
loop-alloc-preserved g c =
    let inv = c.loop-alloc.invariant in
    let seen = (g.D.Disk.content c.args.disk.now).seen in
    let scan = c.loop-alloc.scan in
    let after = c.read_next.new.scan in
    let used = c.loop-alloc.used in
    let one : Found = c.in-Some.found in
    let left : ℕ = c.args.left - used in
    let bounds = subst (λ (o : Option Found). IfSome o (λ f. (38 ≤ f.head.len) × (f.head.len ≤ left))) c.in-Some.is c.in_ok-found.ensures.size in
    record {
      used = omega (arith, bounds.1, inv.used);
      next = c.read_next.ensures.next;
      page = c.take.ensures.page;
      least = c.take.ensures.least ∙ inv.least;
      most = c.take.ensures.most ∙ inv.most;
      size = c.read_next.ensures.disk_size ∙ inv.size;
      later = omega (arith, c.read_next.ensures.later, inv.later);
      during = λ t. same_twice (g.D.Disk.content c.args.disk.now) (g.D.Disk.content c.loop-alloc.disk) (g.D.Disk.content c.read_next.new.disk) (inv.during t) (c.read_next.ensures.during t);
      seen = λ t. c.read_next.ensures.seen t ∙ inv.seen t;
      held = λ t. subst (λ (l : List ℕ). IsHeld after.piece.from after.piece.bytes.items l) (inv.seen t) (c.read_next.ensures.held t);
      read = λ t written stands.
          let read = inv.read t written stands in
          let on = subst (λ (o : Option Found). IfSome o (λ f. g.D.Disk.tells → ReadsOn (range (c.args.place + c.from.result) left (g.D.Disk.content c.loop-alloc.disk).seen) (c.args.place + c.from.result) scan.next f after.next)) c.in-Some.is c.in_ok-found.ensures.read t in
          let at_used = subst (λ (k : ℕ). ReadsOn (range (c.args.place + k) left (g.D.Disk.content c.loop-alloc.disk).seen) (c.args.place + k) scan.next one after.next) c.from.ensures on in
          let there = subst (λ (l : List ℕ). ReadsOn (range (c.args.place + used) left l) (c.args.place + used) scan.next one after.next) (inv.seen t) at_used in
          let more = along_one c.args.place c.args.left c.args.scan.now.next seen written stands (omega (arith, g.met.D.Disk.whole c.args.disk.now t, c.requires.inside)) used scan.next inv.used one after.next there read.0 read.1 read.2 in
          let page = c.args.page.now in
          let taken = c.in_ok-take.ensures.taken ∙ ap (λ (k : ℕ). c.loop-alloc.page.found.items ++ from_lsn k (one ∷ [])) inv.least in
          let short : length c.take.new.self.found.items ≤ page.most = omega (arith, c.take.ensures.page.short, c.take.ensures.most, inv.most) in (
            read.0 ++ more.0 ∷ [],
            more.1,
            more.2,
            filled_one page.most page.least page.found.items (found_of (placed_from c.args.place read.0)) c.loop-alloc.page.found.items one c.take.new.self.found.items read.3 taken short
                ∙ ap (λ (l : List Found). filled page l) (sym more.3),
          );
    }

pub returns-in_err-take-clause-during : goal.returns-in_err-take-clause-during
returns-in_err-take-clause-during g c = λ t.
    same_twice (g.D.Disk.content c.args.disk.now) (g.D.Disk.content c.loop-alloc.disk) (g.D.Disk.content c.read_next.new.disk) (c.loop-alloc.invariant.during t) (c.read_next.ensures.during t)

pub returns-clause-read : goal.returns-clause-read
returns-clause-read g c = λ t written stands.
    let inv = c.loop-alloc.invariant in
    let read = inv.read t written stands in
    let full : c.loop-alloc.page.most ≤ length c.loop-alloc.page.found.items = search rules in
    full_all c.args.page.now c.args.place read.0 read.1 c.loop-alloc.page.found.items read.3 (omega (arith, full, inv.most))
    ∙ ap (λ (l : List Written). filled c.args.page.now (found_of (placed_from c.args.place l))) (sym read.2.split)

pub returns-clause-passed : goal.returns-clause-passed
returns-clause-passed g c = λ t written stands.
    let inv = c.loop-alloc.invariant in
    let seen = (g.D.Disk.content c.args.disk.now).seen in
    let read = inv.read t written stands in
    passed_at_most c.args.place c.args.left c.args.scan.now.next seen written stands (omega (arith, g.met.D.Disk.whole c.args.disk.now t, c.requires.inside)) c.loop-alloc.used c.loop-alloc.scan.next inv.used read.0 read.1 read.2
