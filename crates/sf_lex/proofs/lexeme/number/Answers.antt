use Rattle.std.proofs.Common.{take, sym, subst, ◌∙◌, refl, rules}
use Rattle.std.proofs.lemmas.Int.{to_z-of_z}
use Rattle.std.specs.List.{slice_index}
use Rattle.std.specs.Str.{IsAscii}
use Rattle.std.specs.Str.Parse.{IsNumeral, without_leading_sign, signed_digits_value}
use mir.Syntax.{w64}
use mir.Val.{SFits, to_z, of_z}
use Rattle.sf_lex.specs.declared.token.Kind.TheVariants.{Number}
use Rattle.sf_lex.specs.Lexeme.{is_word_byte}
use Rattle.sf_lex.specs.Piece.{fits}
use Rattle.sf_lex.proofs.Ascii.{number_ascii}
use Rattle.sf_lex.proofs.Numerals.{number_numeral}
use Rattle.sf_lex.proofs.WordLexemes.{number_lexeme_at, token_stands, bad_number, bad_number_at, none_is_bad, some_is_good}
use Rattle.sf_lex.proofs.lexeme.number.Goals as goal

pub good_number-requires-clause-ascii : goal.good_number-requires-clause-ascii
good_number-requires-clause-ascii c = subst (λ n. IsAscii (take n c.args.bytes.now)) (sym c.number_length-length.ensures.length) (number_ascii c.args.bytes.now)

pub good_number-requires-clause-numeral : goal.good_number-requires-clause-numeral
good_number-requires-clause-numeral c =
    subst (λ n. IsNumeral 10 (without_leading_sign (take n c.args.bytes.now))) (sym c.number_length-length.ensures.length)
    (number_numeral c.args.bytes.now c.requires)

pub returns-in-Some : goal.returns-in-Some
returns-in-Some c =
    let n = c.number_length-length.result in
    let lexeme = number_lexeme_at c.args.bytes.now n c.requires c.number_length-length.ensures.length in
    let good = some_is_good (fits (signed_digits_value 10 (take n c.args.bytes.now))) (is_word_byte (slice_index c.args.bytes.now n)) (signed_digits_value 10 (take n c.args.bytes.now)) c.in-Some.value (sym c.good_number.ensures ∙ c.in-Some.is) in
    let within : SFits w64 c.in-Some.value = search rules in
    token_stands Number c.args.bytes.now n (to_z w64 (of_z w64 c.in-Some.value)) c.number_length-length.ensures.within lexeme refl
    (bad_number_at c.args.bytes.now n ∙ good.0) (to_z-of_z w64 c.in-Some.value within ∙ good.1)

pub returns-in-None : goal.returns-in-None
returns-in-None c =
    let n = c.number_length-length.result in
    let lexeme = number_lexeme_at c.args.bytes.now n c.requires c.number_length-length.ensures.length in
    let bad = none_is_bad (fits (signed_digits_value 10 (take n c.args.bytes.now))) (is_word_byte (slice_index c.args.bytes.now n)) (signed_digits_value 10 (take n c.args.bytes.now)) (sym c.good_number.ensures ∙ c.in-None.is) in
    (refl, bad_number Number c.args.bytes.now n lexeme (bad_number_at c.args.bytes.now n ∙ bad))
