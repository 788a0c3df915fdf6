use Rattle.std.proofs.Common.{sym, ap, subst, ◌∙◌}
use Rattle.sf_sym.specs.Checked.Keeping.{AreMarksWith, In, IsMarkedBeside}
use Rattle.sf_sym.specs.Checked.Rows.{rows_at}
use Rattle.sf_sym.proofs.Entering.{also-both, marked-roots, marks-also}
use Rattle.sf_sym.proofs.index.mark_roots.Goals as goal

pub returns-in_err-add_all-clause-only : goal.returns-in_err-add_all-clause-only
returns-in_err-add_all-clause-only c =
    marks-also c.args.roots.now c.root-first.result c.args.marks.now c.add_all.new.self
    (subst (λ rows. AreMarksWith rows c.args.marks.now c.add_all.new.self) c.at.ensures c.add_all.ensures.only)

pub returns-in_err-mark_beside-clause-still : goal.returns-in_err-mark_beside-clause-still
returns-in_err-mark_beside-clause-still c = λ r h. c.mark_beside.ensures.still r (c.add_all.ensures.still r h)

pub returns-in_err-mark_beside-clause-only : goal.returns-in_err-mark_beside-clause-only
returns-in_err-mark_beside-clause-only c =
    also-both c.args.roots.now c.args.marks.now c.add_all.new.self c.mark_beside.new.marks
    (marks-also c.args.roots.now c.root-first.result c.args.marks.now c.add_all.new.self
    (subst (λ rows. AreMarksWith rows c.args.marks.now c.add_all.new.self) c.at.ensures c.add_all.ensures.only))
    c.mark_beside.ensures.only

pub returns-clause-still : goal.returns-clause-still
returns-clause-still c = λ r h. c.mark_beside.ensures.still r (c.add_all.ensures.still r h)

pub returns-clause-only : goal.returns-clause-only
returns-clause-only c =
    also-both c.args.roots.now c.args.marks.now c.add_all.new.self c.mark_beside.new.marks
    (marks-also c.args.roots.now c.root-first.result c.args.marks.now c.add_all.new.self
    (subst (λ rows. AreMarksWith rows c.args.marks.now c.add_all.new.self) c.at.ensures c.add_all.ensures.only))
    c.mark_beside.ensures.only

pub returns-clause-ok : goal.returns-clause-ok
returns-clause-ok c =
    marked-roots c.args.roots.now c.args.row c.mark_beside.new.marks
    (λ r h. c.mark_beside.ensures.still r
    (c.in_ok-add_all.ensures.ok r (subst (In r) (sym (c.at.ensures ∙ ap (rows_at c.args.roots.now) c.root-first.ensures)) h)))
    (subst (λ z. IsMarkedBeside c.args.roots.now z c.args.row c.mark_beside.new.marks) c.root-first.ensures
    c.in_ok-mark_beside.ensures.ok)
