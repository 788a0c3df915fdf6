use Rattle.std.proofs.Common.{ap, sym, codes, rules, arith}
use Rattle.std.proofs.lemmas.Slice.Eq.{text_from_reads}
use Rattle.sf_proof.specs.Words.{tag_with_atom}
use Rattle.sf_proof.proofs.words.tag_with_atom.Goals as goal

pub returns-in-unroll : goal.returns-in-unroll
unfolding tag_with_atom
returns-in-unroll c = ap (λ word. tag_with_atom word c.args.atom)
    (sym (text_from_reads c.args.word.now (codes "unroll") (omega arith) (search rules)))

pub returns-in-mutate : goal.returns-in-mutate
unfolding tag_with_atom
returns-in-mutate c = ap (λ word. tag_with_atom word c.args.atom)
    (sym (text_from_reads c.args.word.now (codes "mutate") (omega arith) (search rules)))

pub returns-in-dispose : goal.returns-in-dispose
unfolding tag_with_atom
returns-in-dispose c = ap (λ word. tag_with_atom word c.args.atom)
    (sym (text_from_reads c.args.word.now (codes "dispose") (omega arith) (search rules)))
