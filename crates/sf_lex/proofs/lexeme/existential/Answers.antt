use Rattle.std.proofs.Common.{◌<◌, sym, ◌∙◌, refl, subst, pos}
use Rattle.sf_lex.specs.declared.token.Kind.TheVariants.{Existential}
use Rattle.sf_lex.proofs.WordLexemes.{existential_lexeme_at, token_stands, long_word, lone_underscore}
use Rattle.sf_lex.proofs.lexeme.existential.Goals as goal

pub returns-then-length-lt2 : goal.returns-then-length-lt2
returns-then-length-lt2 c =
    (refl, lone_underscore c.args.bytes.now c.requires.some c.requires.underscore (subst (λ n. n < 2) c.word_length-length.ensures.length c.if-length-lt2.true))

pub returns-then-is_long_word : goal.returns-then-is_long_word
returns-then-is_long_word c =
    let lexeme = existential_lexeme_at c.args.bytes.now c.word_length-length.result c.requires.some c.requires.underscore c.word_length-length.ensures.length c.if-length-lt2.false in
    (refl, long_word Existential c.args.bytes.now c.word_length-length.result c.word_length-length.ensures.within lexeme (sym c.is_long_word.ensures ∙ c.if-is_long_word.true))

pub returns : goal.returns
returns c =
    let lexeme = existential_lexeme_at c.args.bytes.now c.word_length-length.result c.requires.some c.requires.underscore c.word_length-length.ensures.length c.if-length-lt2.false in
    token_stands Existential c.args.bytes.now c.word_length-length.result (pos 0) c.word_length-length.ensures.within lexeme (sym c.is_long_word.ensures ∙ c.if-is_long_word.false) refl refl
