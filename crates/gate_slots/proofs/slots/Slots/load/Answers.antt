use Rattle.std.proofs.Common.{ℕ, List, Some, sym, ◌∙◌, ap, subst}
use Rattle.gate_slots.specs.Cell.{Cell, now_of}
use Rattle.gate_slots.specs.Slots.{IsLoaded}
use Rattle.gate_slots.proofs.Loading.{read_cell, loaded_from, stays_settled}
use Rattle.gate_slots.proofs.slots.Slots.load.Goals as goal

pub returns-in_default-clause-value : goal.returns-in_default-clause-value
returns-in_default-clause-value g c = λ t.
    let cell_is = read_cell c.args.base c.read.new.buf (g.D.Disk.content c.args.disk.now).seen (c.in_ok-read.ensures.told t).given c.read.auto.buf in
    sym (ap now_of c.in_default.is) ∙ c.current-slots.ensures.value ∙ ap (λ (x : Cell). x.value) cell_is

pub returns-in_default-clause-loaded : goal.returns-in_default-clause-loaded
returns-in_default-clause-loaded g c = λ t.
    let cell_is = read_cell c.args.base c.read.new.buf (g.D.Disk.content c.args.disk.now).seen (c.in_ok-read.ensures.told t).given c.read.auto.buf in
    let current = c.current-slots.ensures in
    subst (IsLoaded c.current-slots.result.0) (sym (c.read.ensures.told t).seen)
    (loaded_from c.current-slots.result.0 c.args.base _ (g.D.Disk.content c.args.disk.now).seen current.base current.sequence current.second cell_is)

pub returns-clause-value : goal.returns-clause-value
returns-clause-value g c = λ t.
    let cell_is = read_cell c.args.base c.read.new.buf (g.D.Disk.content c.args.disk.now).seen (c.in_ok-read.ensures.told t).given c.read.auto.buf in
    ap (λ (l : List ℕ). Some l) c.in_ok-kept.ensures ∙ sym (ap now_of c.in-Some.is) ∙ c.current-slots.ensures.value ∙ ap (λ (x : Cell). x.value) cell_is

pub returns-clause-loaded : goal.returns-clause-loaded
returns-clause-loaded g c = λ t.
    let cell_is = read_cell c.args.base c.read.new.buf (g.D.Disk.content c.args.disk.now).seen (c.in_ok-read.ensures.told t).given c.read.auto.buf in
    let current = c.current-slots.ensures in
    subst (IsLoaded c.current-slots.result.0) (sym (c.read.ensures.told t).seen)
    (loaded_from c.current-slots.result.0 c.args.base _ (g.D.Disk.content c.args.disk.now).seen current.base current.sequence current.second cell_is)

pub returns-in_err-read-clause-settled : goal.returns-in_err-read-clause-settled
returns-in_err-read-clause-settled g c = λ t. let read = c.read.ensures.told t in stays_settled (g.D.Disk.content c.args.disk.now) (g.D.Disk.content c.read.new.self) read.during read.seen

pub returns-in_default-clause-settled : goal.returns-in_default-clause-settled
returns-in_default-clause-settled g c = λ t. let read = c.read.ensures.told t in stays_settled (g.D.Disk.content c.args.disk.now) (g.D.Disk.content c.read.new.self) read.during read.seen

pub returns-in_err-kept-clause-settled : goal.returns-in_err-kept-clause-settled
returns-in_err-kept-clause-settled g c = λ t. let read = c.read.ensures.told t in stays_settled (g.D.Disk.content c.args.disk.now) (g.D.Disk.content c.read.new.self) read.during read.seen

pub returns-clause-settled : goal.returns-clause-settled
returns-clause-settled g c = λ t. let read = c.read.ensures.told t in stays_settled (g.D.Disk.content c.args.disk.now) (g.D.Disk.content c.read.new.self) read.during read.seen
