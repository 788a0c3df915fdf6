use Rattle.std.proofs.Common.{inl, inr, ◌∙◌, sym, subst}
use Rattle.std.proofs.lemmas.Bool.{or_cases, or_left, or_right}
use Rattle.sf_sym.specs.Checked.Keeping.{HasMark}
use Rattle.sf_sym.specs.Checked.Rows.{is_marked, same_row}
use Rattle.sf_sym.proofs.Members.{clash}
use Rattle.sf_sym.proofs.SameRows.{same_row_is, same_row_self}
use Rattle.sf_sym.proofs.index.mark.Goals as goal
use Rattle.sf_sym.proofs.index.mark.Goals.{then-is_cell+in_ok-mark_roots, else-is_cell}

pub returns-clause-only : goal.returns-clause-only
returns-clause-only c = λ r h.
    elim (or_cases (same_row r c.args.row) (is_marked c.if-is_cell.marks r) (sym (c.in_ok-add.ensures.ok r) ∙ h)) [
      | inl e ↦ inr (same_row_is r c.args.row e)
      | inr g ↦ inl (elim c.if-is_cell.branch [
        | then-is_cell+in_ok-mark_roots w ↦ w.mark_roots.ensures.only r (subst (λ m. HasMark m r) w.marks-is g)
        | else-is_cell w ↦ inl (subst (λ m. HasMark m r) w.marks-is g)
      ])
    ]

pub returns-clause-row : goal.returns-clause-row
returns-clause-row c =
    c.in_ok-add.ensures.ok c.args.row
    ∙ or_left (same_row c.args.row c.args.row) (is_marked c.if-is_cell.marks c.args.row) (same_row_self c.args.row)

pub returns-clause-beside : goal.returns-clause-beside
returns-clause-beside c = λ e t b r h.
    c.in_ok-add.ensures.ok r
    ∙ or_right (same_row r c.args.row) (is_marked c.if-is_cell.marks r)
    (elim c.if-is_cell.branch [
      | then-is_cell+in_ok-mark_roots w ↦ subst (λ m. HasMark m r) (sym w.marks-is) (w.in_ok-mark_roots.ensures.ok t b r h)
      | else-is_cell w ↦ absurd (clash c.args.is_cell e w.if-is_cell.false)
    ])
