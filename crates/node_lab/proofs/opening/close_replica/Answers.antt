use Rattle.std.proofs.Common.{true, sym, subst}
use Rattle.node_lab.specs.Replicas.{AllRepresentEither}
use Rattle.node_lab.proofs.ReplicaLemmas.{left_stands, open_stands}
use Rattle.node_lab.proofs.LayoutLemmas.{open_laid}
use Rattle.node_lab.proofs.opening.close_replica.Goals as goal

pub returns-then-stops-clause-stands : goal.returns-then-stops-clause-stands
returns-then-stops-clause-stands g c = λ t settings cells doubt holds.
    let disk = c.close-disk.result in
    left_stands g.D.Disk.content settings true disk c.stopped.new.self cells doubt (c.stopped.ensures.told t)
    (subst (λ (d : g.row.D.Denot). AllRepresentEither settings (g.D.Disk.content d) cells doubt) (sym c.close-disk.ensures.disk)
    (open_stands g.D.Disk.content settings c.args.replica cells doubt disk c.close-disk.ensures.disk (c.close-disk.ensures.stands t) holds))

pub returns-else-stops-clause-stands : goal.returns-else-stops-clause-stands
returns-else-stops-clause-stands g c = λ t settings cells doubt holds.
    let disk = c.close-disk.result in
    subst (λ (d : g.row.D.Denot). AllRepresentEither settings (g.D.Disk.content d) cells doubt) (sym c.close-disk.ensures.disk)
    (open_stands g.D.Disk.content settings c.args.replica cells doubt disk c.close-disk.ensures.disk (c.close-disk.ensures.stands t) holds)

pub returns-then-stops-clause-laid_out : goal.returns-then-stops-clause-laid_out
returns-then-stops-clause-laid_out g c = λ t settings layout log.
    open_laid g.D.Disk.content settings c.args.replica layout c.close-disk.result (c.close-disk.ensures.laid_out t) log (g.D.Disk.content c.stopped.new.self).seen (c.stopped.ensures.told t).left

pub returns-else-stops-clause-laid_out : goal.returns-else-stops-clause-laid_out
returns-else-stops-clause-laid_out g c = λ t settings layout log.
    open_laid g.D.Disk.content settings c.args.replica layout c.close-disk.result (c.close-disk.ensures.laid_out t) log (g.D.Disk.content c.close-disk.result).seen (g.D.Disk.content c.close-disk.result).sees
