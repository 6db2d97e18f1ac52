use Rattle.std.proofs.Common.{◌+◌, ◌∙◌, ap, subst, arith}
use Rattle.disk_core.specs.Content.{range}
use Rattle.msg_format.specs.declared.record.Head.{Head}
use Rattle.part_log.specs.declared.piece.Beginning.{Beginning}
use Rattle.part_log.specs.Scan.{BeginsAs}
use Rattle.part_log.proofs.Scanning.{damaged_there}
use Rattle.part_log.proofs.scan.read_next.Goals as goal

pub returns-else-lsn-scan-clause-read : goal.returns-else-lsn-scan-clause-read
returns-else-lsn-scan-clause-read g c = λ t.
    let bytes = range c.args.place c.args.left (g.D.Disk.content c.args.disk.now).seen in
    let begins = subst (λ (b : Beginning). BeginsAs bytes b) c.in-Entry.is (c.in_ok-beginning.ensures.begins t) in
    let head_is = begins.2 in
    record {
      entry = begins.0;
      begins = begins.1;
      rises = omega (arith, c.if-lsn-scan.false, ap (λ (h : Head). h.lsn) head_is);
      next_is = ap (λ (h : Head). h.lsn + 1) head_is;
      one_is = ap (λ (h : Head). record { place = c.args.place; head = h }) head_is;
    }

pub returns-in-Broken-clause-damaged : goal.returns-in-Broken-clause-damaged
returns-in-Broken-clause-damaged g c = λ at is. (
  damaged_there c.args.place at is,
  λ t.
      let bytes = range c.args.place c.args.left (g.D.Disk.content c.args.disk.now).seen in
      let begins = subst (λ (b : Beginning). BeginsAs bytes b) c.in-Broken.is (c.in_ok-beginning.ensures.begins t) in
      record { goes_on = begins.0; none = λ entry there rises. begins.1 entry there },
)
