use Rattle.std.proofs.Common.{sym, ◌∙◌}
use Rattle.sf_lex.proofs.Wholes.{number-numeral}
use Rattle.sf_lex.proofs.whole.number.Goals as goal

pub value-requires-clause-numeral : goal.value-requires-clause-numeral
value-requires-clause-numeral c = number-numeral c.args.text.now (sym c.is_number.ensures ∙ c.if-is_number.true)
