use Rattle.std.proofs.Common.{◌≡◌, ap, sym, codes}
use Rattle.sf_lex.specs.Lexeme.{word_kind}
use Rattle.sf_lex.proofs.Spelled.{spells_five, spells_seven, spells_eight}
use Rattle.sf_lex.proofs.words.word_kind.Goals as goal

pub returns-in-while-clause-kind : goal.returns-in-while-clause-kind
returns-in-while-clause-kind c =
    let e = spells_five c.args.text.now c.in-while.len_at_least c.in-while.len_below in
    let is : c.args.text.now ≡ codes "while" = cc e in
    ap word_kind (sym is)

pub returns-in-dispose-clause-kind : goal.returns-in-dispose-clause-kind
returns-in-dispose-clause-kind c =
    let e = spells_seven c.args.text.now c.in-dispose.len_at_least c.in-dispose.len_below in
    let is : c.args.text.now ≡ codes "dispose" = cc e in
    ap word_kind (sym is)

pub returns-in-resource-clause-kind : goal.returns-in-resource-clause-kind
returns-in-resource-clause-kind c =
    let e = spells_eight c.args.text.now c.in-resource.len_at_least c.in-resource.len_below in
    let is : c.args.text.now ≡ codes "resource" = cc e in
    ap word_kind (sym is)
