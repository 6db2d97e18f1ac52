use Rattle.std.proofs.Common.{◌≡◌, ℕ, ◌+◌, ◌-◌, ◌≤◌, List, [], ◌∷◌, ◌++◌, Option, IfSome, sym, ◌∙◌, ap, subst, arith}
use Rattle.std.proofs.lemmas.Result.{err_from_is_err_and}
use Rattle.disk_core.specs.Content.{range}
use Rattle.part_log.specs.declared.fault.OpenFault.TheVariants.{Damaged}
use Rattle.msg_format.specs.Records.{lsn_of}
use Rattle.part_log.specs.declared.marks.Marks.{Marks}
use Rattle.part_log.specs.declared.scan.Extent.{Extent}
use Rattle.part_log.specs.declared.segment.Found.{Found}
use Rattle.part_log.specs.Records.{Written, Placed, placed_from}
use Rattle.part_log.specs.Marks.{MarksOn, NotesMark}
use Rattle.part_log.specs.Scan.{IsBroken, IsHeld, IsRead, ReadsOn, TakesAll, found_of, with_found}
use Rattle.part_log.proofs.Scanning.{read_more, found_more, placed_more, takes_one, ends_badly, same_twice, err_over}
use Rattle.part_log.proofs.Marking.{marks_more, noted_on}
use Rattle.part_log.proofs.scan.read_segment.Goals as goal

pub returns-clause-during : goal.returns-clause-during
returns-clause-during g c = λ t.
    same_twice (g.D.Disk.content c.args.disk.now) (g.D.Disk.content c.loop-found.disk) (g.D.Disk.content c.read_next.new.disk) (c.loop-found.invariant.during t) (c.read_next.ensures.during t)

pub returns-in_err-note-clause-during : goal.returns-in_err-note-clause-during
returns-in_err-note-clause-during g c = λ t.
    same_twice (g.D.Disk.content c.args.disk.now) (g.D.Disk.content c.loop-found.disk) (g.D.Disk.content c.read_next.new.disk) (c.loop-found.invariant.during t) (c.read_next.ensures.during t)

pub returns-in_err-take-clause-during : goal.returns-in_err-take-clause-during
returns-in_err-take-clause-during g c = λ t.
    same_twice (g.D.Disk.content c.args.disk.now) (g.D.Disk.content c.loop-found.disk) (g.D.Disk.content c.read_next.new.disk) (c.loop-found.invariant.during t) (c.read_next.ensures.during t)

pub returns-in_err-found-clause-damaged : goal.returns-in_err-found-clause-damaged
returns-in_err-found-clause-damaged g c =
    let p = err_from_is_err_and c.from_residual.result c.from_residual.ensures.1 in
    rw (p.1, p.2) (λ at is t.
    let inv = c.loop-found.invariant in
    let seen = (g.D.Disk.content c.args.disk.now).seen in
    let extent = c.loop-found.extent in
    let read = inv.read t in
    let given = c.in_err-found.ensures.damaged at (err_over {T = Extent} {U = Option Found} c.in_err-found.field-0.0 (Damaged at) is) in
    let broken = subst (λ (k : ℕ). IsBroken c.loop-found.scan.next (range (c.args.start + k) (c.args.segment - extent.used) (g.D.Disk.content c.loop-found.disk).seen)) c.from.ensures (given.1 t) in (
      extent.used,
      given.0 ∙ ap (λ (k : ℕ). c.args.start + k) c.from.ensures,
      ends_badly c.args.start c.args.segment c.args.scan.now.next seen extent c.loop-found.scan.next read.0 inv.used read.1
          (subst (λ (l : List ℕ). IsBroken c.loop-found.scan.next (range (c.args.start + extent.used) (c.args.segment - extent.used) l)) (inv.seen t) broken),
    ))

pub loop-found-preserved : goal.loop-found-preserved
loop-found-preserved g c =
    let inv = c.loop-found.invariant in
    let seen = (g.D.Disk.content c.args.disk.now).seen in
    let scan = c.loop-found.scan in
    let after = c.read_next.new.scan in
    let extent = c.loop-found.extent in
    let one : Found = c.in-Some.found in
    let left : ℕ = c.args.segment - extent.used in
    let bounds = subst (λ (o : Option Found). IfSome o (λ f. (38 ≤ f.head.len) × (f.head.len ≤ left))) c.in-Some.is c.in_ok-found.ensures.size in
    let grown : c.with_found-extent.result ≡ with_found extent one = c.with_found-extent.ensures in
    record {
      used = omega (arith, bounds.1, inv.used, ap (λ (e : Extent). e.used) grown);
      next = c.read_next.ensures.next;
      size = c.read_next.ensures.disk_size ∙ inv.size;
      later = omega (arith, c.read_next.ensures.later, inv.later);
      during = λ t. same_twice (g.D.Disk.content c.args.disk.now) (g.D.Disk.content c.loop-found.disk) (g.D.Disk.content c.read_next.new.disk) (inv.during t) (c.read_next.ensures.during t);
      seen = λ t. c.read_next.ensures.seen t ∙ inv.seen t;
      held = λ t. subst (λ (l : List ℕ). IsHeld after.piece.from after.piece.bytes.items l) (inv.seen t) (c.read_next.ensures.held t);
      read = λ t.
          let read = inv.read t in
          let on = subst (λ (o : Option Found). IfSome o (λ f. g.D.Disk.tells → ReadsOn (range (c.args.start + c.from.result) left (g.D.Disk.content c.loop-found.disk).seen) (c.args.start + c.from.result) scan.next f after.next)) c.in-Some.is c.in_ok-found.ensures.read t in
          let at_used = subst (λ (k : ℕ). ReadsOn (range (c.args.start + k) left (g.D.Disk.content c.loop-found.disk).seen) (c.args.start + k) scan.next one after.next) c.from.ensures on in
          let there = subst (λ (l : List ℕ). ReadsOn (range (c.args.start + extent.used) left l) (c.args.start + extent.used) scan.next one after.next) (inv.seen t) at_used in
          let w : Written = record { entry = there.entry; text = there.begins.text } in
          let p : Placed = record { entry = there.entry; text = there.begins.text; place = one.place } in
          let note : NotesMark one.head.lsn one.place scan.marks.list.items c.note.new.self.list.items = subst (λ (m : Marks). NotesMark one.head.lsn one.place m.list.items c.note.new.self.list.items) c.read_next.ensures.marks c.note.ensures in
          let noted : NotesMark (lsn_of there.entry) one.place scan.marks.list.items c.note.new.self.list.items =
          subst (λ (n : ℕ). NotesMark n one.place scan.marks.list.items c.note.new.self.list.items) (ap (λ (f : Found). f.head.lsn) there.one_is) note in (
            read.0 ++ w ∷ [],
            subst (λ (e : Extent). IsRead c.args.start c.args.scan.now.next seen e after.next (read.0 ++ w ∷ [])) (sym grown)
                (read_more c.args.start c.args.segment c.args.scan.now.next seen extent scan.next read.0 inv.used read.1 one after.next there bounds.1),
            subst (λ (l : List Found). TakesAll g.C.Collect.takes c.args.collector.now l c.take.new.self)
                (sym (found_more c.args.start c.args.segment c.args.scan.now.next seen extent scan.next read.0 inv.used read.1 one after.next there))
                (takes_one g.C.Collect.takes c.args.collector.now (found_of (placed_from c.args.start read.0)) c.loop-found.collector one c.take.new.self read.2 c.in_ok-take.ensures.taken),
            subst (λ (l : List Placed). MarksOn c.args.scan.now.marks.list.items l c.note.new.self.list.items)
                (sym (placed_more c.args.start c.args.segment c.args.scan.now.next seen extent scan.next read.0 inv.used read.1 one after.next there))
                (marks_more c.args.scan.now.marks.list.items scan.marks.list.items c.note.new.self.list.items (placed_from c.args.start read.0) (p ∷ []) read.3 (noted_on scan.marks.list.items c.note.new.self.list.items p noted)),
          );
    }
