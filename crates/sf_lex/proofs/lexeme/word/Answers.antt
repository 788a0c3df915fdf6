use Rattle.std.proofs.Common.{sym, ◌∙◌, refl, take, drop, pos}
use Rattle.sf_lex.proofs.WordLexemes.{word_lexeme_at, token_stands, long_word, no_number_no_bad, no_number_no_value}
use Rattle.sf_lex.proofs.lexeme.word.Goals as goal

pub returns-then-is_long_word : goal.returns-then-is_long_word
returns-then-is_long_word c =
    let lexeme = word_lexeme_at c.args.bytes.now c.word_length-length.result c.word_kind-kind.result c.requires.some c.requires.letter c.word_length-length.ensures.length c.word_kind-kind.ensures.kind in
    (refl, long_word c.word_kind-kind.result c.args.bytes.now c.word_length-length.result c.word_length-length.ensures.within lexeme (sym c.is_long_word.ensures ∙ c.if-is_long_word.true))

pub returns : goal.returns
returns c =
    let lexeme = word_lexeme_at c.args.bytes.now c.word_length-length.result c.word_kind-kind.result c.requires.some c.requires.letter c.word_length-length.ensures.length c.word_kind-kind.ensures.kind in
    token_stands c.word_kind-kind.result c.args.bytes.now c.word_length-length.result (pos 0) c.word_length-length.ensures.within lexeme (sym c.is_long_word.ensures ∙ c.if-is_long_word.false)
    (no_number_no_bad c.word_kind-kind.result (take c.word_length-length.result c.args.bytes.now) (drop c.word_length-length.result c.args.bytes.now) c.word_kind-kind.ensures.no_number)
    (no_number_no_value c.word_kind-kind.result (take c.word_length-length.result c.args.bytes.now) c.word_kind-kind.ensures.no_number)
