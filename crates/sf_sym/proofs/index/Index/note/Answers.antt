use Rattle.std.proofs.Common.{inl, inr, not, sym, ap, ◌∙◌}
use Rattle.std.proofs.lemmas.Bool.{and_from}
use Rattle.sf_base.proofs.Bools.{and-left, and-right, not-both}
use Rattle.sf_sym.specs.declared.outline.Row.{Row}
use Rattle.sf_sym.specs.Checked.Rows.{is_marked, same_row}
use Rattle.sf_sym.proofs.Entering.{cells-only, cells-still}
use Rattle.sf_sym.proofs.Indexed.{at-err}
use Rattle.sf_sym.proofs.Kept.{kept-same}
use Rattle.sf_sym.proofs.Members.{not-true}
use Rattle.sf_sym.proofs.SameRows.{same_row_is, same_row_self}
use Rattle.sf_sym.proofs.index.Index.note.Goals as goal

pub returns-in_err-mark-clause-err : goal.returns-in_err-mark-clause-err
returns-in_err-mark-clause-err c =
    let s = c.args.self.now in
    at-err c.from_residual.result
    (λ apart rows atoms parts new kept.
    kept-same apart rows atoms s.roots s.cells s.marks kept parts s.roots s.cells c.mark.new.marks
    (λ t r h. h) (λ t r h. h) (λ t r h. h) kept.cells_of_rows c.mark.ensures.still
    (λ r h. elim (c.in_err-mark.ensures.err r h) [
      | inl k ↦ kept.marked r k
      | inr k ↦ (kept.of_rows k.0 r k.1).0
    ]))

pub returns-in-Ok-clause-ok : goal.returns-in-Ok-clause-ok
returns-in-Ok-clause-ok c =
    let s = c.args.self.now in
    let row = c.args.row in
    λ apart rows atoms cell kept. record {
      enters = c.in-Ok.ensures.roots;
      cells_only = cells-only c.args.is_cell row s.cells c.enter.new.cells c.in-Ok.ensures.cells c.in-Ok.ensures.without;
      cells_still = cells-still c.args.is_cell row s.cells c.enter.new.cells c.in-Ok.ensures.cells c.in-Ok.ensures.without;
      marks_only = λ r h. elim (c.in_ok-mark.ensures.only r h) [
        | inl k ↦ inl (elim k [
          | inl m ↦ kept.marked r m
          | inr m ↦ (kept.of_rows m.0 r m.1).0
        ])
        | inr k ↦ inr k
      ];
      marks_still = c.mark.ensures.still;
      has_mark = c.in_ok-mark.ensures.row;
      cell = λ e t b.
          let is = cell ∙ e in ((c.in-Ok.ensures.cells is).there t b, c.in_ok-mark.ensures.beside is t b);
    }

pub returns-in-Err-clause-err : goal.returns-in-Err-clause-err
returns-in-Err-clause-err c =
    let s = c.args.self.now in
    let row = c.args.row in
    let undone = c.in-Err.ensures.err in
    let marked = c.mark.new.marks in
    λ apart rows atoms parts new kept.
    kept-same apart rows atoms s.roots s.cells s.marks kept parts c.enter.new.roots c.enter.new.cells
    c.remove.new.self
    (λ t r h. undone.0.others t r h (new r (kept.of_rows t r h).0)) undone.0.only
    (λ t r h. undone.1.others t r h (new r (kept.cells_of_rows t r h).0))
    (λ t r h. kept.cells_of_rows t r (undone.1.only t r h))
    (λ r h. c.remove.ensures r
    ∙ and_from (not (same_row r row)) (is_marked marked r)
    (ap not (not-true (same_row r row)
    (λ e. new r (kept.marked r h) (ap (λ (x : Row). x.number) (same_row_is r row e)))))
    (c.mark.ensures.still r h))
    (λ r h.
    let both = sym (c.remove.ensures r) ∙ h in
    let one = and-left (not (same_row r row)) (is_marked marked r) both in
    elim (c.in_ok-mark.ensures.only r (and-right (not (same_row r row)) (is_marked marked r) both)) [
      | inl k ↦ elim k [
        | inl m ↦ kept.marked r m
        | inr m ↦ (kept.of_rows m.0 r m.1).0
      ]
      | inr e ↦ absurd (not-both (same_row r row) (ap (λ x. same_row x row) e ∙ same_row_self row) one)
    ])
