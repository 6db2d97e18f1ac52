use Rattle.std.proofs.Common.{◌+◌, List, length, sym, ap, ◌∙◌}
use Rattle.std.proofs.lemmas.List.{length-map}
use Rattle.quorum_op.specs.Slots.{slots_so}
use Rattle.quorum_op.specs.Tally.{is_found, standing_so}
use Rattle.quorum_op.proofs.SlotLaws.{slots_count}
use Rattle.operation.specs.declared.piece.Open.{Open}
use Rattle.operation.specs.Pieces.{PieceView, Target, notes_at, open_for, open_of}
use Rattle.operation.proofs.piece.Piece.busy.Goals as goal

pub returns : goal.returns
returns c = λ t calls h.
    let now = c.args.self.now in
    let requests =
    c.len.ensures.value
    ∙ (ap (λ (v : PieceView). length v.requests) c.self.view_is ∙ (ap (λ (l : List Open). length l) h.requests ∙ length-map (open_for t calls) open_of)) in
    let found =
    c.found.ensures.value
    ∙ (ap (λ (v : PieceView). slots_so v.tally.slots is_found v.tally.replicas) c.self.view_is
    ∙ (slots_count now.tally (notes_at t calls) is_found h.notes ∙ ap (λ (u : Target). standing_so u.replicas (notes_at t calls) is_found) (sym h.target))) in
    λ i. requests i + found i
