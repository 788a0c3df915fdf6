use Rattle.std.proofs.Common.{◌≡◌, ℕ, List, ap, sym, codes, length, rules, arith}
use Rattle.std.proofs.lemmas.Slice.Eq.{HasBytesAt, text_from_reads}
use Rattle.sf_proof.specs.Words.{tag_alone}
use Rattle.sf_proof.proofs.words.tag_alone.Goals as goal

-- a word that reads byte by byte as the text says the same tag
said-same : (word text : List ℕ) → length word ≡ length text → HasBytesAt word 0 text
    → tag_alone text ≡ tag_alone word
said-same word text count bytes = ap tag_alone (sym (text_from_reads word text count bytes))

pub returns-in-apart : goal.returns-in-apart
unfolding tag_alone
returns-in-apart c = said-same c.args.word.now (codes "apart") (omega arith) (search rules)

pub returns-in-enter : goal.returns-in-enter
unfolding tag_alone
returns-in-enter c = said-same c.args.word.now (codes "enter") (omega arith) (search rules)

pub returns-in-empty : goal.returns-in-empty
unfolding tag_alone
returns-in-empty c = said-same c.args.word.now (codes "empty") (omega arith) (search rules)

pub returns-in-absurd : goal.returns-in-absurd
unfolding tag_alone
returns-in-absurd c = said-same c.args.word.now (codes "absurd") (omega arith) (search rules)

pub returns-in-assign : goal.returns-in-assign
unfolding tag_alone
returns-in-assign c = said-same c.args.word.now (codes "assign") (omega arith) (search rules)

pub returns-in-around : goal.returns-in-around
unfolding tag_alone
returns-in-around c = said-same c.args.word.now (codes "around") (omega arith) (search rules)

pub returns-in-return : goal.returns-in-return
unfolding tag_alone
returns-in-return c = said-same c.args.word.now (codes "return") (omega arith) (search rules)
