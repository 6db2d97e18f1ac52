use Rattle.operation.proofs.saying.reply_finding.Goals as goal

pub returns-in-Put : goal.returns-in-Put
returns-in-Put c = rw c.in-Put.is (c.put_finding.ensures c.args.stated)

pub returns-in-Delete : goal.returns-in-Delete
returns-in-Delete c = rw c.in-Delete.is (c.delete_finding.ensures c.args.stated)

pub returns-in-Other : goal.returns-in-Other
returns-in-Other c = rw c.in-Other.is (c.other_finding.ensures c.args.stated)
