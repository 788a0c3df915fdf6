use Rattle.std.proofs.Common.{◌≡◌, inl, inr, true, refl, sym, subst}
use Rattle.sf_sym.specs.declared.outline.Row.{Row}
use Rattle.sf_sym.specs.Checked.Keeping.{In, IsThere, gets_cell}
use Rattle.sf_sym.proofs.Entering.{enters-also}
use Rattle.sf_sym.proofs.index.enter_new.Goals as goal

pub loop-row-preserved : goal.loop-row-preserved
loop-row-preserved c =
    let row = c.in-Some.row.now in
    let inv = c.loop-row.invariant in
    let cases = c.in-Some.ensures.cases.0 in
    let told = c.enter_cell.ensures in
    let ok = c.in_ok-enter_cell.ensures.ok in
    record {
      left = λ r h. inv.left r (subst (In r) (sym cases) (inr h));
      done = λ r h. elim (inv.done r h) [
        | inl g ↦ elim (subst (In r) cases g) [
          | inl same ↦ inr (λ j. subst (IsThere c.enter_cell.new.cells) (sym same)
              (ok (subst (λ (x : Row). gets_cell c.args.apart.now c.args.pair x ≡ true) same j)))
          | inr k ↦ inl k
        ]
        | inr g ↦ inr (λ j t b. told.still t r (g j t b))
      ];
      still = λ t r h. told.still t r (inv.still t r h);
      only = enters-also c.args.rows.now row c.args.cells.now c.loop-row.cells c.enter_cell.new.cells
          (inv.left row (subst (In row) (sym cases) (inl refl))) inv.only told.only;
    }

pub returns-in_err-enter_cell-clause-still : goal.returns-in_err-enter_cell-clause-still
returns-in_err-enter_cell-clause-still c = λ t r h. c.enter_cell.ensures.still t r (c.loop-row.invariant.still t r h)

pub returns-in_err-enter_cell-clause-only : goal.returns-in_err-enter_cell-clause-only
returns-in_err-enter_cell-clause-only c =
    let row = c.in-Some.row.now in
    enters-also c.args.rows.now row c.args.cells.now c.loop-row.cells c.enter_cell.new.cells
    (c.loop-row.invariant.left row (subst (In row) (sym c.in-Some.ensures.cases.0) (inl refl))) c.loop-row.invariant.only
    c.enter_cell.ensures.only
