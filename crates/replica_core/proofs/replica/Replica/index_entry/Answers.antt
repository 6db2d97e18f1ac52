use Rattle.std.proofs.Common.{sym, ◌∙◌, [], ◌∷◌}
use Rattle.replica_core.proofs.IndexLemmas.{entry_in-one}
use Rattle.replica_core.proofs.Noting.{noted_at}
use Rattle.replica_core.proofs.Standing.{all_stand}
use Rattle.replica_core.proofs.replica.Replica.index_entry.Goals as goal

pub returns-clause-noted : goal.returns-clause-noted
returns-clause-noted g c =
    let s = c.self.inside in
    rw (← c.self.view_is) (λ t up. let ready = (c.self.invariant up).1 in noted_at s.log.table (g.D.Disk.content s.log.disk) (s.index.entries ∷ []) ready.good (ready.indexed t) c.args.id.now c.copied.result (entry_in-one s.index.entries c.args.id.now ∙ sym (c.copied.ensures ∙ c.get.ensures.value)))

pub returns-clause-stands : goal.returns-clause-stands
returns-clause-stands g c =
    let s = c.self.inside in
    rw (← c.self.view_is) (λ t up. let ready = (c.self.invariant up).1 in all_stand s.log.table (g.D.Disk.content s.log.disk) (s.index.entries ∷ []) ready.good (ready.indexed t))
