use Rattle.std.proofs.Common.{◌≡◌, ◌++◌, drop, flat_map}
use Rattle.session_text.specs.Pieces.{piece_text, BeginsWith}
use Rattle.session_text.proofs.writing.add_pieces.Given as goal

-- what is there with the pieces that are left, and what was there before
abbrev pub invariant-loop-piece : goal.invariant-loop-piece
invariant-loop-piece l = record {
  text : l.out.items ++ flat_map piece_text (drop l.piece-index l.pieces) ≡ l.initial.out.items ++ flat_map piece_text l.pieces;
  kept : BeginsWith l.initial.out.items l.out.items;
}
