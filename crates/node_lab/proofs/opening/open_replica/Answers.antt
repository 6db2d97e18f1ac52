use Rattle.std.proofs.Common.{◌≡◌, inr, ℕ, List, sym, ◌∙◌, subst}
use Rattle.part_log.specs.Images.{IsDamaged, IsLaidOut, NamesOther}
use Rattle.part_log.specs.Log.{disk_size, layout_of}
use Rattle.cell_model.specs.Cells.{cell_in}
use Rattle.disk_core.specs.Homes.{TakesOut}
use Rattle.replica_core.specs.Maps.{StandsForCells}
use Rattle.node_lab.specs.declared.fault.NodesFault.{NodesFault}
use Rattle.node_lab.specs.Replicas.{IsOpened, found}
use Rattle.node_lab.proofs.OpenLemmas.{cause_of, failed_by, goes_back, opens, others_on, refused_stays, taken_found}
use Rattle.node_lab.proofs.opening.open_replica.Goals as goal
use Rattle.node_lab.proofs.opening.open_replica.Goals.{In-Ok}

takes : (g : _) (c : In-Ok g) → g.B.Bays.tells → TakesOut g.B.Disk.Disk.tells g.B.Disk.Disk.content g.B.Disk.Disk.size c.args.folder.now c.args.node c.args.partition (disk_size c.args.settings) c.in-Ok.disk (g.B.Bays.home c.args.bays.now) (g.B.Bays.out c.args.bays.now) (g.B.Bays.home c.open.new.self) (g.B.Bays.out c.open.new.self)
takes g c t = subst (λ (n : ℕ). TakesOut g.B.Disk.Disk.tells g.B.Disk.Disk.content g.B.Disk.Disk.size c.args.folder.now c.args.node c.args.partition n c.in-Ok.disk (g.B.Bays.home c.args.bays.now) (g.B.Bays.out c.args.bays.now) (g.B.Bays.home c.open.new.self) (g.B.Bays.out c.open.new.self))
    c.disk_size-size.ensures (c.in-Ok.ensures.taken t)

sized : (g : _) (c : In-Ok g) → g.B.Disk.Disk.size c.in-Ok.disk ≡ disk_size c.args.settings
sized g c = c.in-Ok.ensures.size ∙ c.disk_size-size.ensures

seen : (g : _) (c : In-Ok g) → g.B.Disk.Disk.tells → (g.B.Disk.Disk.content c.in-Ok.disk).seen ≡ found g.B.Disk.Disk.content c.args.settings (g.B.Bays.home c.args.bays.now c.args.folder.now c.args.node c.args.partition)
seen g c t = taken_found g.B.Disk.Disk.tells g.B.Disk.Disk.content g.B.Disk.Disk.size c.args.settings c.args.folder.now c.args.node c.args.partition c.in-Ok.disk _ _ _ _ (takes g c (g.met.B.Bays.known t)) t

pub returns-in-Ok-open-clause-opened : goal.returns-in-Ok-open-clause-opened
returns-in-Ok-open-clause-opened g c = λ t.
    let it = (goal.at.returns-in-Ok-open-clause-opened g c).In-Ok in
    let opened : IsOpened g.B.Disk.Disk.content g.B.Disk.Disk.tells c.args.settings (g.B.Bays.home c.args.bays.now c.args.folder.now c.args.node c.args.partition) c.in-Ok-open.replica = record {
      up = c.in-Ok-open.ensures.up;
      named = c.in-Ok-open.ensures.settings;
      stood = λ t. subst (λ (l : List ℕ). StandsForCells c.args.settings l (cell_in c.in-Ok-open.replica.cells) c.in-Ok-open.replica.log.table.end) (seen g it t) (c.in-Ok-open.ensures.cells t);
      laid_out = λ t. subst (λ (l : List ℕ). IsLaidOut c.args.settings l (layout_of c.in-Ok-open.replica.log.table)) (seen g it t) (c.in-Ok-open.ensures.laid_out t);
    } in
    opens g.B.Disk.Disk.tells g.B.Disk.Disk.content g.B.Disk.Disk.size c.args.settings c.args.folder.now c.args.node c.args.partition c.in-Ok.disk _ _ _ _ (takes g it t) (sized g it)
    c.in-Ok-open.replica (c.in-Ok-open.ensures.disk_size ∙ sized g it) opened

pub returns-in-Err-clause-closed : goal.returns-in-Err-clause-closed
returns-in-Err-clause-closed g c = λ t.
    refused_stays g.B.Disk.Disk.tells g.B.Disk.Disk.content g.B.Disk.Disk.size c.args.settings c.args.folder.now c.args.node c.args.partition _ _ _ _ (c.in-Err.ensures.refused t)

pub returns-in-Err-open-clause-closed : goal.returns-in-Err-open-clause-closed
returns-in-Err-open-clause-closed g c = λ t.
    let it = (goal.at.returns-in-Err-open-clause-closed g c).In-Ok in
    let taken = takes g it t in
    goes_back g.B.Disk.Disk.tells g.B.Disk.Disk.content g.B.Disk.Disk.size c.args.settings c.args.folder.now c.args.node c.args.partition c.in-Ok.disk _ _ _ _ taken c.in-Err-open.disk (c.in-Err-open.ensures.disk_size_err ∙ sized g it) _ _
    (c.give_back.ensures.home t c.args.folder.now taken.is_out) c.in-Err-open.ensures.during_err c.in-Err-open.ensures.opens_err

pub returns-in-Err-open-clause-others : goal.returns-in-Err-open-clause-others
returns-in-Err-open-clause-others g c = λ t.
    let it = (goal.at.returns-in-Err-open-clause-others g c).In-Ok in
    let taken = takes g it t in
    others_on c.args.folder.now c.args.node c.args.partition _ _ _ _ _ _ taken.others (c.give_back.ensures.home t c.args.folder.now taken.is_out).others

pub returns-in-Err-open-clause-refused : goal.returns-in-Err-open-clause-refused
returns-in-Err-open-clause-refused g c = λ refusal is.
    let it = (goal.at.returns-in-Err-open-clause-refused g c).In-Ok in
    let home = g.B.Bays.home c.args.bays.now c.args.folder.now c.args.node c.args.partition in
    let refused : c.open_fault.result ≡ NodesFault.Refused refusal = cc is in
    let cause = cause_of g.B.Disk.Disk.tells g.B.Disk.Disk.content g.B.Disk.Disk.size c.args.settings home c.in-Err-open.fault c.args.node c.args.partition refusal (sym c.open_fault.ensures ∙ refused)
    (λ at same t. subst (λ (l : List ℕ). IsDamaged c.args.settings l at) (seen g it t) (c.in-Err-open.ensures.damaged at same t))
    (λ other same t. subst (λ (l : List ℕ). NamesOther c.args.settings other l) (seen g it t) (c.in-Err-open.ensures.other other same t)) in
    (cause.0, cause.1, (λ t. cause.2))

pub returns-in-Err-open-clause-failed : goal.returns-in-Err-open-clause-failed
returns-in-Err-open-clause-failed g c = λ is. inr (λ t.
    let it = (goal.at.returns-in-Err-open-clause-failed g c).In-Ok in
    let taken = takes g it t in
    let puts = c.give_back.ensures.home t c.args.folder.now taken.is_out in
    record {
      taken = c.in-Ok.disk;
      was = λ kept at. taken.same kept at;
      failed = c.in-Err-open.disk;
      rose = c.in-Err-open.ensures.failed (failed_by c.in-Err-open.fault c.args.node c.args.partition (sym c.open_fault.ensures ∙ cc is));
      kept = puts.kept;
      at_home = puts.at_home;
      is = puts.same;
    })
