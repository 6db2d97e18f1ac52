use Rattle.std.proofs.Common.{◌≤◌, ◌+◌, arith, rules, take}
use Rattle.std.specs.Str.Parse.{digits_value}
use Rattle.std.proofs.lemmas.Str.Parse.{digits_value-take-le}
use Rattle.std.proofs.lemmas.Bool.Decides.{nat_tests}
use Rattle.run_words.proofs.NumberLemmas.{one_digit_more}
use Rattle.run_words.proofs.numerals.value_of.Goals as goal

pub returns-then-next-from : goal.returns-then-next-from
returns-then-next-from c =
    let ds = c.args.digits.now in
    let more = one_digit_more ds c.loop-byte.byte-index c.requires c.loop-byte-test.true in
    let le : digits_value 10 (take (c.loop-byte.byte-index + 1) ds) ≤ digits_value 10 ds = digits_value-take-le 10 ds (c.loop-byte.byte-index + 1) (omega arith) in
    let so_far = c.loop-byte.invariant.so_far in
    grind (arith, nat_tests)

pub loop-byte-preserved : goal.loop-byte-preserved
loop-byte-preserved c =
    let ds = c.args.digits.now in
    let more = one_digit_more ds c.loop-byte.byte-index c.requires c.loop-byte-test.true in
    let so_far = c.loop-byte.invariant.so_far in
    record {
      so_far = grind (arith, nat_tests);
      within = search rules;
    }
