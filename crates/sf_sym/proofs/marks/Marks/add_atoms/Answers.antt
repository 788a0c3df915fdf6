use Rattle.std.proofs.Common.{inl, inr, map, ◌∙◌, sym, ap, subst}
use Rattle.std.proofs.lemmas.Bool.{or_cases, or_left, or_right}
use Rattle.sf_sym.specs.Checked.Keeping.{In, rows_of}
use Rattle.sf_sym.specs.Checked.Rows.{is_marked, same_row}
use Rattle.sf_sym.specs.Equalities.{numbered_with, put_for}
use Rattle.sf_sym.proofs.SameRows.{same_row_is, same_row_self}
use Rattle.sf_sym.proofs.marks.Marks.add_atoms.Goals as goal

pub loop-a-preserved : goal.loop-a-preserved
loop-a-preserved c =
    let to = numbered_with (put_for c.args.r.symbol c.args.r.by) in
    let row = c.row_with.result in
    let is = c.row_with.ensures in
    let marks = c.loop-a.self in
    let ok = c.in_ok-add.ensures.ok in
    let cases = ap (λ xs. rows_of (map to xs)) c.in-Some.ensures.cases.0 in
    record {
      left = λ r h. c.loop-a.invariant.left r (subst (In r) (sym cases) (inr h));
      done = λ r h. elim (c.loop-a.invariant.done r h) [
        | inl g ↦ elim (subst (In r) cases g) [
          | inl same ↦ inr (ok r ∙ or_left (same_row r row) (is_marked marks r)
              (ap (λ x. same_row x row) (same ∙ sym is) ∙ same_row_self row))
          | inr k ↦ inl k
        ]
        | inr g ↦ inr (ok r ∙ or_right (same_row r row) (is_marked marks r) g)
      ];
      still = λ r h. ok r ∙ or_right (same_row r row) (is_marked marks r) (c.loop-a.invariant.still r h);
      only = λ r h. elim (or_cases (same_row r row) (is_marked marks r) (sym (ok r) ∙ h)) [
        | inl e ↦ inr (c.loop-a.invariant.left r (subst (In r) (sym cases) (inl (same_row_is r row e ∙ is))))
        | inr g ↦ c.loop-a.invariant.only r g
      ];
    }
