use Rattle.sf_lines.proofs.Splitting.{no_word_at, word_at}
use Rattle.sf_lines.proofs.words.next_word.Goals as goal

pub returns-then-end-eq0-clause-words : goal.returns-then-end-eq0-clause-words
returns-then-end-eq0-clause-words c =
    no_word_at c.args.line.now c.from_index-rest.result.now c.spaces.result c.word_length-end.result
    c.spaces.ensures.length c.from_index-rest.ensures c.word_length-end.ensures.length c.if-end-eq0.true

pub returns-clause-words : goal.returns-clause-words
returns-clause-words c =
    word_at c.args.line.now c.from_index-rest.result.now c.from_index.result.now c.spaces.result
    c.word_length-end.result
    c.spaces.ensures.length c.from_index-rest.ensures c.word_length-end.ensures.length
    c.word_length-end.ensures.within c.if-end-eq0.false c.from_index.ensures
