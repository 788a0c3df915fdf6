use Rattle.std.proofs.Common.{sym, subst, ◌∙◌}
use Rattle.std.proofs.lemmas.Option.{none-some, same_Some}
use Rattle.sf_sym.specs.Checked.Keeping.{In}
use Rattle.sf_sym.proofs.TermSets.{more, more-still, more-there}
use Rattle.sf_sym.proofs.index.note_other.Goals as goal

pub returns-in_default-clause-ok : goal.returns-in_default-clause-ok
returns-in_default-clause-ok c = λ t e. absurd (none-some t (c.in_default.ensures ∙ e))

pub returns-clause-still : goal.returns-clause-still
returns-clause-still c = λ t h.
    subst (In t) (sym c.in_ok-insert.ensures.keys) (more-still c.in-Some.other t c.args.others.now.keys h)

pub returns-clause-ok : goal.returns-clause-ok
returns-clause-ok c = λ t e.
    subst (In t) (sym c.in_ok-insert.ensures.keys)
    (subst (λ z. In z (more c.in-Some.other c.args.others.now.keys)) (same_Some c.in-Some.other t (c.in-Some.ensures ∙ e))
    (more-there c.in-Some.other c.args.others.now.keys))
