use Rattle.std.proofs.Common.{ℕ, length, Option, Some, None, sym, ◌∙◌, ap, arith}
use Rattle.msg_format.specs.declared.record.Record.{Record}
use Rattle.part_log.proofs.Wholes.{same_some, not_both, whole_spells, begins_whole}
use Rattle.part_log.proofs.reading_at.record_of.Goals as goal

-- what was read, without its size
entry_of : Option (Record × ℕ) → Option Record
entry_of (Some read) = Some read.0
entry_of None = None

pub returns-then-len-bytes-clause-spelled : goal.returns-then-len-bytes-clause-spelled
returns-then-len-bytes-clause-spelled c =
    let found = rw c.in-Some.is at c.in_ok-entry.ensures.found in
    whole_spells c.args.bytes.now c.in-Some.entry found.0 (omega (arith, found.1, c.if-len-bytes.true))

pub returns-then-len-bytes-clause-only : goal.returns-then-len-bytes-clause-only
unfolding entry_of
returns-then-len-bytes-clause-only c = λ entry spelled. ap entry_of (sym c.in-Some.is ∙ c.in_ok-entry.ensures.only entry (begins_whole c.args.bytes.now entry spelled))

pub returns-else-len-bytes-clause-only : goal.returns-else-len-bytes-clause-only
returns-else-len-bytes-clause-only c = λ entry spelled.
    let same = same_some (c.in-Some.entry, c.in-Some.len) (entry, length c.args.bytes.now) (sym c.in-Some.is ∙ c.in_ok-entry.ensures.only entry (begins_whole c.args.bytes.now entry spelled)) in
    let len_is = ap (λ (read : Record × ℕ). read.1) same in
    absurd (c.if-len-bytes.false len_is)

pub returns-in-None-clause-only : goal.returns-in-None-clause-only
returns-in-None-clause-only c = λ entry spelled.
    absurd (not_both c.in_ok-entry.field-0 (entry, length c.args.bytes.now) (c.in_ok-entry.ensures.only entry (begins_whole c.args.bytes.now entry spelled)) c.in-None.is)
