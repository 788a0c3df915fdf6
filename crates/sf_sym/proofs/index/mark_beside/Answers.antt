use Rattle.std.proofs.Common.{sym, subst, ◌∙◌}
use Rattle.std.proofs.lemmas.Option.{none-some, same_Some}
use Rattle.sf_sym.specs.Checked.Keeping.{AreMarksWith, In}
use Rattle.sf_sym.specs.Checked.Rows.{rows_at}
use Rattle.sf_sym.proofs.Entering.{marks-also}
use Rattle.sf_sym.proofs.index.mark_beside.Goals as goal

pub returns-in_default-clause-ok : goal.returns-in_default-clause-ok
returns-in_default-clause-ok c = λ u e r h. absurd (none-some u (c.in_default.ensures ∙ e))

pub returns-in_err-add_all-clause-only : goal.returns-in_err-add_all-clause-only
returns-in_err-add_all-clause-only c =
    marks-also c.args.roots.now c.in-Some.other c.args.marks.now c.add_all.new.self
    (subst (λ rows. AreMarksWith rows c.args.marks.now c.add_all.new.self) c.at.ensures c.add_all.ensures.only)

pub returns-clause-only : goal.returns-clause-only
returns-clause-only c =
    marks-also c.args.roots.now c.in-Some.other c.args.marks.now c.add_all.new.self
    (subst (λ rows. AreMarksWith rows c.args.marks.now c.add_all.new.self) c.at.ensures c.add_all.ensures.only)

pub returns-clause-ok : goal.returns-clause-ok
returns-clause-ok c = λ u e r h.
    c.in_ok-add_all.ensures.ok r
    (subst (In r) (sym c.at.ensures)
    (subst (λ z. In r (rows_at c.args.roots.now z)) (sym (same_Some c.in-Some.other u (c.in-Some.ensures ∙ e))) h))
