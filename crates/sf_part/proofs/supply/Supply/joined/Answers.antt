use Rattle.std.proofs.Common.{◌+◌, ◌∙◌, ◌≡◌, ◌++◌, ap, ap₂, length, subst, sym, arith}
use Rattle.sf_base.proofs.Elements.{all_by-append}
use Rattle.sf_core.specs.Machine.Whole.{numbers}
use Rattle.sf_part.specs.Checked.Ranges.{AreFit, ranges_of}
use Rattle.sf_part.proofs.Ranges.{numbers_both, ranges_append}
use Rattle.sf_part.proofs.supply.Supply.joined.Goals as goal

pub invariant_of-result : goal.invariant_of-result
invariant_of-result c =
    let all : c.extend_from_slice-2.new.self.items
    ≡ c.second.inside.ranges.items ++ c.first.inside.ranges.items =
    c.in_ok-extend_from_slice-2.ensures.items
    ∙ ap₂ (λ x y. x ++ y) (c.in_ok-extend_from_slice.ensures.items
    ∙ ap₂ (λ x y. x ++ y) c.in_ok-ranges.ensures.items c.as_slice.ensures.value)
    c.as_slice-2.ensures.value in
    let count : length (numbers (ranges_of c.extend_from_slice-2.new.self.items))
    ≡ length (numbers (ranges_of c.first.inside.ranges.items))
    + length (numbers (ranges_of c.second.inside.ranges.items)) =
    ap (λ z. length (numbers (ranges_of z))) all
    ∙ numbers_both c.second.inside.ranges.items c.first.inside.ranges.items in
    let one = c.first.invariant.1 in
    let two = c.second.invariant.1 in (
      subst AreFit (sym all) (all_by-append _ c.second.inside.ranges.items
          c.first.inside.ranges.items c.second.invariant.0 c.first.invariant.0),
      omega arith,
    )

pub returns : goal.returns
returns c =
    let all : c.extend_from_slice-2.new.self.items
    ≡ c.second.inside.ranges.items ++ c.first.inside.ranges.items =
    c.in_ok-extend_from_slice-2.ensures.items
    ∙ ap₂ (λ x y. x ++ y) (c.in_ok-extend_from_slice.ensures.items
    ∙ ap₂ (λ x y. x ++ y) c.in_ok-ranges.ensures.items c.as_slice.ensures.value)
    c.as_slice-2.ensures.value in
    ap ranges_of all ∙ ranges_append c.second.inside.ranges.items c.first.inside.ranges.items
    ∙ ap₂ (λ x y. x ++ y) c.first.view_is c.second.view_is
