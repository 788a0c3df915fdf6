use Rattle.std.proofs.Common.{sym, ◌∙◌, refl}
use Rattle.std.proofs.lemmas.Bool.{ne_eqb}
use Rattle.std.specs.List.{slice_index}
use Rattle.sf_lex.proofs.SymbolLexemes.{blank_stands, symbol_some, symbol_none}
use Rattle.sf_lex.proofs.lexeme.next_lexeme.Goals as goal

pub returns-then-is_blank : goal.returns-then-is_blank
returns-then-is_blank c = blank_stands c.args.bytes.now c.requires (sym c.is_blank.ensures ∙ c.if-is_blank.true)

pub returns-in-Some : goal.returns-in-Some
returns-in-Some c =
    symbol_some c.args.bytes.now c.in-Some.kind c.in-Some.length (sym c.is_ascii_alphabetic.ensures.value ∙ c.if-is_ascii_alphabetic.false) (ne_eqb (slice_index c.args.bytes.now 0) 95 c.if-bytes-eq95.false)
    (sym c.begins_number.ensures ∙ c.if-begins_number.false) (sym c.symbol.ensures ∙ c.in-Some.is)

pub returns-in-None : goal.returns-in-None
returns-in-None c = (
  refl,
  symbol_none c.args.bytes.now c.requires (sym c.is_blank.ensures ∙ c.if-is_blank.false) (sym c.begins_comment.ensures ∙ c.if-begins_comment.false)
      (sym c.is_ascii_alphabetic.ensures.value ∙ c.if-is_ascii_alphabetic.false) (ne_eqb (slice_index c.args.bytes.now 0) 95 c.if-bytes-eq95.false)
      (sym c.begins_number.ensures ∙ c.if-begins_number.false) (sym c.symbol.ensures ∙ c.in-None.is),
)
