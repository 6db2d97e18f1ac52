use Rattle.std.proofs.Common.{◌≡◌, ◌≤◌, List, take, refl, sym, ◌∙◌, ap, subst, arith}
use Rattle.outside.specs.Causes.{Rose}
use Rattle.part_log.specs.declared.segment.Found.{Found}
use Rattle.part_log.specs.declared.segment.SegmentInfo.{SegmentInfo}
use Rattle.part_log.specs.Records.{Placed}
use Rattle.part_log.specs.Pages.{IsStart, filled, found_from, page_of}
use Rattle.part_log.specs.Scan.{found_of}
use Rattle.part_log.proofs.Tables.{table_of}
use Rattle.part_log.proofs.Visible.{log_same}
use Rattle.part_log.proofs.Pages.{page_filled, table_inside}
use Rattle.part_log.proofs.Starts.{GivenStart, one_placed, start_inside, start_next, start_serves}
use Rattle.part_log.proofs.log.PartLog.heads_from.Goals as goal

pub read_page-requires-clause-inside : goal.read_page-requires-clause-inside
read_page-requires-clause-inside g c =
    let s = c.self.inside in
    let table = table_of s.settings s.segments.items s.next_generation s.end s.slots s.tokens in
    rw c.deref-2.ensures.value (table_inside table (g.D.Disk.size s.disk) c.self.invariant.0 c.self.invariant.1)

pub read_page-requires-clause-start : goal.read_page-requires-clause-start
read_page-requires-clause-start g c =
    let s = c.self.inside in
    let table = table_of s.settings s.segments.items s.next_generation s.end s.slots s.tokens in
    let given = subst (λ (l : List SegmentInfo). GivenStart s.settings.segment l s.marks.list.items c.args.lsn c.start_for-start.result) c.deref.ensures.value c.start_for-start.ensures in
    start_inside s.settings.segment s.segments.items s.marks.list.items c.args.lsn c.start_for-start.result (g.D.Disk.size s.disk) given (omega (arith, c.self.invariant.1)) (table_inside table (g.D.Disk.size s.disk) c.self.invariant.0 c.self.invariant.1)

pub read_page-requires-clause-next : goal.read_page-requires-clause-next
read_page-requires-clause-next g c =
    let s = c.self.inside in
    let given = subst (λ (l : List SegmentInfo). GivenStart s.settings.segment l s.marks.list.items c.args.lsn c.start_for-start.result) c.deref.ensures.value c.start_for-start.ensures in
    rw c.deref-2.ensures.value (start_next s.settings.segment s.segments.items s.marks.list.items c.args.lsn c.start_for-start.result given)

pub invariant_of-self : goal.invariant_of-self
invariant_of-self g c =
    let s = c.self.inside in
    let table = table_of s.settings s.segments.items s.next_generation s.end s.slots s.tokens in
    let old = g.D.Disk.content s.disk in
    let new = g.D.Disk.content c.read_page.new.disk in (
      c.self.invariant.0,
      c.read_page.ensures.disk_size ∙ c.self.invariant.1,
      λ t up. let standing = c.self.invariant.2 t up in (standing.0, log_same table old new standing.0 (c.read_page.ensures.during t) (c.read_page.ensures.seen t) standing.1, standing.2),
    )

pub invariant_of-self-in-Err-Memory : goal.invariant_of-self-in-Err-Memory
invariant_of-self-in-Err-Memory g c =
    let s = c.self.inside in
    let table = table_of s.settings s.segments.items s.next_generation s.end s.slots s.tokens in
    let old = g.D.Disk.content s.disk in
    let new = g.D.Disk.content c.read_page.new.disk in (
      c.self.invariant.0,
      c.read_page.ensures.disk_size ∙ c.self.invariant.1,
      λ t up. let standing = c.self.invariant.2 t up in (standing.0, log_same table old new standing.0 (c.read_page.ensures.during t) (c.read_page.ensures.seen t) standing.1, standing.2),
    )

pub returns-in-Ok-clause-found : goal.returns-in-Ok-clause-found
returns-in-Ok-clause-found g c =
    let s = c.self.inside in
    let table = table_of s.settings s.segments.items s.next_generation s.end s.slots s.tokens in
    let content = g.D.Disk.content s.disk in
    let segment = s.settings.segment in
    let start = c.start_for-start.result in
    let given = subst (λ (l : List SegmentInfo). GivenStart segment l s.marks.list.items c.args.lsn start) c.deref.ensures.value c.start_for-start.ensures in
    rw (← c.self.view_is) (λ t placed log.
    let standing = c.self.invariant.2 t c.if-self.false in
    let serves = start_serves table content standing.0 s.marks.list.items c.args.lsn start c.self.invariant.0 standing.1 standing.2 given in
    let start_is = subst (λ (l : List SegmentInfo). IsStart segment l start content.seen serves.written serves.parts) (sym c.deref-2.ensures.value) serves.start_is in
    c.in-Ok.ensures.read t serves.written serves.parts start_is
    ∙ ap (λ (l : List SegmentInfo). filled c.new-page.result (found_from segment l start serves.written serves.parts)) c.deref-2.ensures.value
    ∙ page_filled c.new-page.result c.args.lsn c.args.max (found_from segment s.segments.items start serves.written serves.parts) c.new-page.ensures.least c.new-page.ensures.most c.new-page.ensures.none
    ∙ ap (λ (l : List Found). take c.args.max l) serves.found_is
    ∙ ap (λ (l : List Placed). page_of c.args.lsn c.args.max (found_of l)) (one_placed table content standing.0 placed c.self.invariant.0 standing.1 log))

pub returns-in-Ok-clause-kept : goal.returns-in-Ok-clause-kept
returns-in-Ok-clause-kept g c =
    let s = c.self.inside in
    let table = table_of s.settings s.segments.items s.next_generation s.end s.slots s.tokens in
    rw (← c.self.view_is) (λ t placed log. log_same table (g.D.Disk.content s.disk) (g.D.Disk.content c.read_page.new.disk) placed (c.read_page.ensures.during t) (c.read_page.ensures.seen t) log)

pub returns-in-Err-Failed-clause-kept : goal.returns-in-Err-Failed-clause-kept
returns-in-Err-Failed-clause-kept g c =
    let s = c.self.inside in
    let table = table_of s.settings s.segments.items s.next_generation s.end s.slots s.tokens in
    rw (← c.self.view_is) (λ t placed log. log_same table (g.D.Disk.content s.disk) (g.D.Disk.content c.read_page.new.disk) placed (c.read_page.ensures.during t) (c.read_page.ensures.seen t) log)

pub returns-in-Err-Memory-clause-kept : goal.returns-in-Err-Memory-clause-kept
returns-in-Err-Memory-clause-kept g c =
    let s = c.self.inside in
    let table = table_of s.settings s.segments.items s.next_generation s.end s.slots s.tokens in
    rw (← c.self.view_is) (λ t placed log. log_same table (g.D.Disk.content s.disk) (g.D.Disk.content c.read_page.new.disk) placed (c.read_page.ensures.during t) (c.read_page.ensures.seen t) log)

pub returns-in-Err-Failed-clause-failed : goal.returns-in-Err-Failed-clause-failed
returns-in-Err-Failed-clause-failed g c =
    let s = c.self.inside in
    let table = table_of s.settings s.segments.items s.next_generation s.end s.slots s.tokens in
    let content = g.D.Disk.content s.disk in
    let rose : g.D.Disk.tells → Rose (g.D.Disk.faults s.disk) (g.D.Disk.faults c.read_page.new.disk) = λ t.
    let standing = c.self.invariant.2 t c.if-self.false in
    let start = c.start_for-start.result in
    let given = subst (λ (l : List SegmentInfo). GivenStart s.settings.segment l s.marks.list.items c.args.lsn start) c.deref.ensures.value c.start_for-start.ensures in
    let serves = start_serves table content standing.0 s.marks.list.items c.args.lsn start c.self.invariant.0 standing.1 standing.2 given in
    let start_is = subst (λ (l : List SegmentInfo). IsStart s.settings.segment l start content.seen serves.written serves.parts) (sym c.deref-2.ensures.value) serves.start_is in
    let failed = rw c.in-Err-Failed.field-0-is at c.in-Err-Failed.ensures.failed in
    failed refl t serves.written serves.parts start_is in
    rw (← c.self.view_is) (λ is. (refl, rose))
