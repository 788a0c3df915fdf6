use Rattle.std.proofs.Common.{◌≡◌, Ok, sym}
use Rattle.std.specs.Str.Parse.{digits_value}
use Rattle.sf_words.proofs.Numbers.{numeral-parse}
use Rattle.sf_words.proofs.number.number.Goals as goal

pub returns-in_default-3-clause-number : goal.returns-in_default-3-clause-number
returns-in_default-3-clause-number c =
    let read : c.parse.result ≡ Ok (digits_value 10 c.args.text.now) = numeral-parse c.args.text.now c.parse.result c.parse.ensures.value.0 (sym c.if-not-is_numeral.ensures) in
    cc
