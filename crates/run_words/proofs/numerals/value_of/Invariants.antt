use Rattle.std.proofs.Common.{◌≡◌, ◌<◌, ◌^◌, take}
use Rattle.std.specs.Str.Parse.{digits_value}
use Rattle.run_words.proofs.numerals.value_of.Given as goal

-- the value of the digits so far, which has 64 bits
abbrev pub invariant-loop-byte : goal.invariant-loop-byte
invariant-loop-byte l = record {
  so_far : l.value ≡ digits_value 10 (take l.byte-index l.digits);
  within : l.value < 2 ^ 64;
}
