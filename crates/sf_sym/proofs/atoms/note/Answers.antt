use Rattle.std.proofs.Common.{◌++◌, ◌∷◌, [], cond, sym, ap, ◌∙◌}
use Rattle.sf_sym.proofs.EmptyNumbers.{key-last}
use Rattle.sf_sym.proofs.atoms.note.Goals as goal

pub returns-in_ok-insert-clause-ok : goal.returns-in_ok-insert-clause-ok
returns-in_ok-insert-clause-ok c =
    let ks = c.args.empty.now.keys in
    c.in_ok-insert.ensures.keys ∙ key-last ks c.args.row.number c.requires
    ∙ ap (λ b. ks ++ cond b (c.args.row.number ∷ []) []) (sym (sym c.is_nothing.ensures ∙ c.if-is_nothing.true))
