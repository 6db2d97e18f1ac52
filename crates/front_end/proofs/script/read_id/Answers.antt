use Rattle.std.proofs.Common.{◌∙◌, ap}
use Rattle.front_end.specs.Script.{id_of_digits}
use Rattle.front_end.proofs.DigitLemmas.{digits_are_text, reads_digits, unspelled}
use Rattle.front_end.proofs.script.read_id.Goals as goal

pub returns-in-Ok : goal.returns-in-Ok
returns-in-Ok c =
    c.ok.ensures.value ∙ reads_digits c.parse_hex.result c.in-Ok.text.now c.parse_hex.ensures.ok c.parse_hex.ensures.found
    ∙ ap id_of_digits c.in-Ok.ensures.cases.0

pub returns-in-Err : goal.returns-in-Err
returns-in-Err c = unspelled c.args.digits.now (λ id spelled is. c.in-Err.ensures.cases.0 (digits_are_text c.args.digits.now id spelled))
