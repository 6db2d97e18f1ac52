use Rattle.std.proofs.Common.{◌≡◌, ℕ, Some, ap, subst, arith}
use Rattle.disk_core.specs.Content.{ChangesBy}
use Rattle.gate_slots.specs.Cell.{cell_at, ReplacesCell}
use Rattle.gate_slots.specs.Slots.{CurrentSlot}
use Rattle.part_log.proofs.Formatting.{opens_blank, opens_format, first_log}
use Rattle.part_log.proofs.Segments.{write_first}
use Rattle.part_log.proofs.Naming.{named_blank, named_roll, named_log, named_outside, still_loaded, still_zeroed, first_base}
use Rattle.part_log.proofs.rolling.name_segment.Goals as goal

pub returns-in_err-write_synced-clause-during : goal.returns-in_err-write_synced-clause-during
returns-in_err-write_synced-clause-during g c = λ t table target placed rolling is log.
    named_blank table c.args.slots.now target c.args.text.now rolling placed (g.D.Disk.content c.args.disk.now) (g.D.Disk.content c.write_synced.new.disk) c.args.place is log (c.write_synced.ensures.told t).during

pub returns-in_err-write_synced-clause-outside : goal.returns-in_err-write_synced-clause-outside
returns-in_err-write_synced-clause-outside g c = λ t segment target some is. write_first segment target c.args.place _ _ some is (c.write_synced.ensures.outside t)

pub replace-requires-clause-loaded : goal.replace-requires-clause-loaded
replace-requires-clause-loaded g c = λ t.
    still_loaded c.args.slots.now c.args.place 1 (g.D.Disk.content c.args.disk.now).seen (g.D.Disk.content c.write_synced.new.disk).seen c.requires.base c.requires.behind (c.write_synced.ensures.outside t) (c.requires.loaded t)

pub returns-in-Ok-clause-during : goal.returns-in-Ok-clause-during
returns-in-Ok-clause-during g c = λ t table target placed rolling is log.
    let told = c.in_ok-write_synced.ensures.told t in
    named_roll table c.args.slots.now target c.args.text.now rolling placed (g.D.Disk.content c.args.disk.now) (g.D.Disk.content c.write_synced.new.disk) c.args.place is log told.during
    (g.D.Disk.content c.replace.new.disk) told.written told.only (c.replace.ensures.during t)

pub returns-in-Ok-clause-rolled : goal.returns-in-Ok-clause-rolled
returns-in-Ok-clause-rolled g c = λ t table target placed rolling is log.
    let told = c.in_ok-write_synced.ensures.told t in
    named_log table c.args.slots.now target c.args.text.now rolling placed (g.D.Disk.content c.args.disk.now) (g.D.Disk.content c.write_synced.new.disk) c.args.place is log told.during
    (g.D.Disk.content c.replace.new.disk) told.written told.only (c.replace.ensures.during t) c.replace.new.self (first_base c.args.slots.now c.replace.new.self c.requires.base c.in-Ok.ensures.slots) c.requires.sequence (c.in-Ok.ensures.value t) (c.in-Ok.ensures.loaded t) (c.in-Ok.ensures.only t)

pub returns-in-Ok-clause-outside : goal.returns-in-Ok-clause-outside
returns-in-Ok-clause-outside g c = λ t segment target some is.
    named_outside segment target c.args.place c.args.slots.now.base _ (g.D.Disk.content c.write_synced.new.disk).seen _ c.requires.base some is (c.write_synced.ensures.outside t) (c.replace.ensures.outside t)

pub returns-in-Err-clause-during : goal.returns-in-Err-clause-during
returns-in-Err-clause-during g c = λ t table target placed rolling is log.
    let told = c.in_ok-write_synced.ensures.told t in
    named_roll table c.args.slots.now target c.args.text.now rolling placed (g.D.Disk.content c.args.disk.now) (g.D.Disk.content c.write_synced.new.disk) c.args.place is log told.during
    (g.D.Disk.content c.replace.new.disk) told.written told.only (c.replace.ensures.during t)

pub returns-in-Err-clause-outside : goal.returns-in-Err-clause-outside
returns-in-Err-clause-outside g c = λ t segment target some is.
    named_outside segment target c.args.place c.args.slots.now.base _ (g.D.Disk.content c.write_synced.new.disk).seen _ c.requires.base some is (c.write_synced.ensures.outside t) (c.replace.ensures.outside t)

pub returns-in_err-write_synced-clause-formats : goal.returns-in_err-write_synced-clause-formats
returns-in_err-write_synced-clause-formats g c = λ t settings tokens ranges tokens_good tokens_loaded is text_is only none.
    opens_blank settings ranges c.args.place is (g.D.Disk.content c.args.disk.now) (g.D.Disk.content c.write_synced.new.disk) only none (c.write_synced.ensures.told t).during

pub returns-in-Ok-clause-formats : goal.returns-in-Ok-clause-formats
returns-in-Ok-clause-formats g c = λ t settings tokens ranges tokens_good tokens_loaded is text_is only none.
    let told = c.in_ok-write_synced.ensures.told t in
    let mid = g.D.Disk.content c.write_synced.new.disk in
    let new = g.D.Disk.content c.replace.new.disk in
    opens_format settings ranges c.args.place is (g.D.Disk.content c.args.disk.now) mid only none told.during new c.args.slots.now tokens tokens_good tokens_loaded c.args.text.now text_is c.requires.base (omega (arith, c.requires.sequence))
    told.written told.only (subst (λ (b : ℕ). ChangesBy (ReplacesCell b c.args.text.now) mid new) c.requires.base (c.replace.ensures.during t))

pub returns-in-Err-clause-formats : goal.returns-in-Err-clause-formats
returns-in-Err-clause-formats g c = λ t settings tokens ranges tokens_good tokens_loaded is text_is only none.
    let told = c.in_ok-write_synced.ensures.told t in
    let mid = g.D.Disk.content c.write_synced.new.disk in
    let new = g.D.Disk.content c.replace.new.disk in
    opens_format settings ranges c.args.place is (g.D.Disk.content c.args.disk.now) mid only none told.during new c.args.slots.now tokens tokens_good tokens_loaded c.args.text.now text_is c.requires.base (omega (arith, c.requires.sequence))
    told.written told.only (subst (λ (b : ℕ). ChangesBy (ReplacesCell b c.args.text.now) mid new) c.requires.base (c.replace.ensures.during t))

pub returns-in-Ok-clause-formatted : goal.returns-in-Ok-clause-formatted
returns-in-Ok-clause-formatted g c = λ t settings tokens ranges tokens_good tokens_loaded is text_is only none.
    let told = c.in_ok-write_synced.ensures.told t in
    let mid = g.D.Disk.content c.write_synced.new.disk in
    let new = g.D.Disk.content c.replace.new.disk in
    let after_is = first_base c.args.slots.now c.replace.new.self c.requires.base c.in-Ok.ensures.slots in
    first_log settings ranges c.args.place is (g.D.Disk.content c.args.disk.now) mid only none told.during new c.replace.new.self tokens tokens_good tokens_loaded c.args.text.now text_is
    (ap (λ (s : CurrentSlot). s.base) after_is) (omega (arith, c.requires.sequence, ap (λ (s : CurrentSlot). s.sequence) after_is))
    told.written told.only (subst (λ (b : ℕ). ChangesBy (ReplacesCell b c.args.text.now) mid new) c.requires.base (c.replace.ensures.during t))
    (subst (λ (b : ℕ). (cell_at b new.seen).value ≡ Some c.args.text.now) c.requires.base (c.in-Ok.ensures.value t)) (c.in-Ok.ensures.loaded t) (c.in-Ok.ensures.only t)

pub returns-in-Ok-clause-zero : goal.returns-in-Ok-clause-zero
returns-in-Ok-clause-zero g c = λ t.
    still_zeroed c.args.slots.now.base c.args.place (g.D.Disk.content c.args.disk.now) (g.D.Disk.content c.write_synced.new.disk) (g.D.Disk.content c.replace.new.disk) c.requires.base c.requires.behind (c.in_ok-write_synced.ensures.told t).written (c.replace.ensures.outside t) (c.in-Ok.ensures.only t)
