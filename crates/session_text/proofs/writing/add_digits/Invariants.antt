use Rattle.std.proofs.Common.{◌≡◌, ◌++◌, drop}
use Rattle.hex.specs.Hex.{encode_lower}
use Rattle.session_text.specs.Pieces.{BeginsWith}
use Rattle.session_text.proofs.writing.add_digits.Given as goal

-- what is there with the digits of the bytes that are left, and what was there before
abbrev pub invariant-loop-byte : goal.invariant-loop-byte
invariant-loop-byte l = record {
  text : l.out.items ++ encode_lower (drop l.byte-index l.bytes) ≡ l.initial.out.items ++ encode_lower l.bytes;
  kept : BeginsWith l.initial.out.items l.out.items;
}
