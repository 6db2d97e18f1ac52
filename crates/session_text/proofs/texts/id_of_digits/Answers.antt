use Rattle.std.proofs.Common.{◌∙◌, ap}
use Rattle.session_text.specs.Texts.{id_of_digits}
use Rattle.session_text.proofs.DigitLemmas.{digits_are_text, reads_digits, unspelled}
use Rattle.session_text.proofs.texts.id_of_digits.Goals as goal

pub returns-in-Ok : goal.returns-in-Ok
returns-in-Ok c =
    c.ok.ensures.value ∙ reads_digits c.parse_hex.result c.in-Ok.text.now c.parse_hex.ensures.ok c.parse_hex.ensures.found
    ∙ ap id_of_digits c.in-Ok.ensures.cases.0

pub returns-in-Err : goal.returns-in-Err
returns-in-Err c = unspelled c.args.digits.now (λ id spelled is. c.in-Err.ensures.cases.0 (digits_are_text c.args.digits.now id spelled))
