use Rattle.std.proofs.Common.{◌≡◌, inl, inr, Some, subst}
use Rattle.sf_sym.specs.declared.outline.Row.{Row}
use Rattle.sf_sym.specs.Checked.Keeping.{In, other_root}
use Rattle.sf_sym.specs.Checked.Rows.{bare}
use Rattle.sf_sym.proofs.Indexed.{none-left}
use Rattle.sf_sym.proofs.index.others_of.Goals as goal

pub loop-row-preserved : goal.loop-row-preserved
loop-row-preserved c =
    let cases = c.in-Some.ensures.cases.0 in
    let told = c.note_other.ensures in λ r h.
    elim (c.loop-row.invariant r h) [
      | inl g ↦ elim (subst (In r) cases g) [
        | inl same ↦ inr (λ t e. c.in_ok-note_other.ensures.ok t
            (subst (λ (x : Row). other_root c.args.at (bare x.outline) ≡ Some t) same e))
        | inr k ↦ inl k
      ]
      | inr g ↦ inr (λ t e. told.still t (g t e))
    ]

pub returns : goal.returns
returns c = λ r t h e.
    elim (c.loop-row.invariant r h) [
      | inl g ↦ absurd (subst (In r) (none-left c.loop-row.left.now c.in_default.ensures.cases) g)
      | inr g ↦ g t e
    ]
