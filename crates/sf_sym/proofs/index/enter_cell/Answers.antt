use Rattle.std.proofs.Common.{inl, inr, ap, ◌∙◌}
use Rattle.sf_sym.specs.Checked.Keeping.{row_begins}
use Rattle.sf_sym.proofs.index.enter_cell.Goals as goal

pub returns-in_err-enter-clause-still : goal.returns-in_err-enter-clause-still
returns-in_err-enter-clause-still c = c.in_err-enter.ensures.err.still

pub returns-in_err-enter-clause-only : goal.returns-in_err-enter-clause-only
returns-in_err-enter-clause-only c = λ t r h. elim (c.in_err-enter.ensures.err.only t r h) [
  | inl g ↦ inl g
  | inr g ↦ inr (inl g.0, ap (row_begins t) g.0 ∙ g.1)
]

pub returns-in_ok-enter-clause-only : goal.returns-in_ok-enter-clause-only
returns-in_ok-enter-clause-only c = λ t r h. elim (c.in_ok-enter.ensures.ok.only t r h) [
  | inl g ↦ inl g
  | inr g ↦ inr (inl g.0, ap (row_begins t) g.0 ∙ g.1)
]
