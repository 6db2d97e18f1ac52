use Rattle.std.proofs.Common.{refl}
use Rattle.operation.proofs.PieceLaws.{none_asked, piece_new}
use Rattle.operation.proofs.piece.Piece.new.Goals as goal

pub returns-clause-fresh : goal.returns-clause-fresh
returns-clause-fresh c = λ t calls nothing target kind. piece_new t _ calls nothing target kind c.new.ensures (λ r l. none_asked 9 r) c.new-2.ensures.empty refl
