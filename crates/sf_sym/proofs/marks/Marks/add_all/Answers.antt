use Rattle.std.proofs.Common.{inl, inr, ◌∙◌, refl, sym, ap, subst}
use Rattle.std.proofs.lemmas.Bool.{or_cases, or_left, or_right}
use Rattle.sf_sym.specs.declared.outline.Row.{Row}
use Rattle.sf_sym.specs.Checked.Keeping.{In}
use Rattle.sf_sym.specs.Checked.Rows.{is_marked, same_row}
use Rattle.sf_sym.proofs.SameRows.{same_row_is, same_row_self}
use Rattle.sf_sym.proofs.marks.Marks.add_all.Goals as goal

pub loop-row-preserved : goal.loop-row-preserved
loop-row-preserved c =
    let row = c.in-Some.row.now in
    let marks = c.loop-row.self in
    let ok = c.in_ok-add.ensures.ok in
    let cases = c.in-Some.ensures.cases.0 in
    record {
      left = λ r h. c.loop-row.invariant.left r (subst (In r) (sym cases) (inr h));
      done = λ r h. elim (c.loop-row.invariant.done r h) [
        | inl g ↦ elim (subst (In r) cases g) [
          | inl same ↦ inr (ok r ∙ or_left (same_row r row) (is_marked marks r)
              (ap (λ x. same_row x row) same ∙ same_row_self row))
          | inr k ↦ inl k
        ]
        | inr g ↦ inr (ok r ∙ or_right (same_row r row) (is_marked marks r) g)
      ];
      still = λ r h. ok r ∙ or_right (same_row r row) (is_marked marks r) (c.loop-row.invariant.still r h);
      only = λ r h. elim (or_cases (same_row r row) (is_marked marks r) (sym (ok r) ∙ h)) [
        | inl e ↦ inr (subst (λ (x : Row). In x c.args.rows.now) (sym (same_row_is r row e))
            (c.loop-row.invariant.left row (subst (In row) (sym cases) (inl refl))))
        | inr g ↦ c.loop-row.invariant.only r g
      ];
    }
