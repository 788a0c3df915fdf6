use Rattle.std.proofs.Common.{◌+◌, ◌-◌, ◌++◌, ap, ◌∙◌, sym, subst, length, arith, append_assoc}
use Rattle.sf_core.specs.Machine.Supplies.{units}
use Rattle.sf_core.specs.Machine.Whole.{numbers}
use Rattle.sf_part.specs.Checked.Halving.{in_list}
use Rattle.sf_part.specs.Checked.Ranges.{AreFit, ranges_of}
use Rattle.sf_part.specs.declared.supply.Units.{Units}
use Rattle.std.specs.Prelude.{List}
use Rattle.sf_part.proofs.Ranges.{fit_last, numbers_snoc}
use Rattle.sf_part.proofs.Halves.{halves-fit, halves-front, halves-many, halves-moved, halves-units}
use Rattle.sf_part.proofs.halving.move_some.Goals.{After-push_reserved}
use Rattle.sf_part.proofs.halving.move_some.Goals as goal

pub returns-then-units-count-clause-moved : goal.returns-then-units-count-clause-moved
returns-then-units-count-clause-moved c =
    ap (λ (z : List Units). numbers (in_list z) ++ numbers (ranges_of c.pop.new.self.items))
    c.in_ok-push.ensures.items
    ∙ halves-moved c.args.first.now.items c.args.ranges.now.items c.pop.new.self.items
    c.in-Some.units
    (ap (λ z. numbers (ranges_of z)) c.in-Some.ensures.items
    ∙ numbers_snoc c.pop.new.self.items c.in-Some.units)

pub returns-then-units-count-clause-many : goal.returns-then-units-count-clause-many
returns-then-units-count-clause-many c =
    let e = ap (λ (z : List Units). length (numbers (in_list z))) c.in_ok-push.ensures.items in
    let m = halves-many c.args.first.now.items c.in-Some.units in
    omega arith

pub overflow_add-units : goal.overflow_add-units
overflow_add-units c =
    let fit = fit_last c.args.ranges.now.items c.pop.new.self.items c.in-Some.units
    c.in-Some.ensures.items c.requires.fit in
    omega arith

-- what is left of the units fits, with those that were cut off its front gone
rest-fit : (c : After-push_reserved) → AreFit c.push_reserved.new.self.items
rest-fit c =
    let fit = fit_last c.args.ranges.now.items c.pop.new.self.items c.in-Some.units
    c.in-Some.ensures.items c.requires.fit in
    subst AreFit (sym c.push_reserved.ensures.items) (halves-fit c.pop.new.self.items
    (record {
      first = c.in-Some.units.first + c.args.count;
      count = c.in-Some.units.count - c.args.count;
    })
    (halves-front c.args.ranges.now.items c.pop.new.self.items c.in-Some.units
    c.in-Some.ensures.items c.requires.fit) (omega arith) (omega arith))

pub returns-in_err-push-2-clause-fit : goal.returns-in_err-push-2-clause-fit
returns-in_err-push-2-clause-fit c =
    rest-fit (goal.at.returns-in_err-push-2-clause-fit c).After-push_reserved

pub returns-clause-fit : goal.returns-clause-fit
returns-clause-fit c = rest-fit (goal.at.returns-clause-fit c).After-push_reserved

pub returns-clause-first_fit : goal.returns-clause-first_fit
returns-clause-first_fit c =
    let fit = fit_last c.args.ranges.now.items c.pop.new.self.items c.in-Some.units
    c.in-Some.ensures.items c.requires.fit in
    subst AreFit (sym c.in_ok-push-2.ensures.items) (halves-fit c.args.first.now.items
    (record { first = c.in-Some.units.first; count = c.args.count }) c.requires.first_fit
    c.requires.some (omega arith))

pub returns-clause-moved : goal.returns-clause-moved
returns-clause-moved c =
    let less : Units = record {
      first = c.in-Some.units.first + c.args.count;
      count = c.in-Some.units.count - c.args.count;
    } in
    let one : Units = record { first = c.in-Some.units.first; count = c.args.count } in
    ap (λ (z : List Units). numbers (in_list z)
    ++ numbers (ranges_of c.push_reserved.new.self.items))
    c.in_ok-push-2.ensures.items
    ∙ halves-moved c.args.first.now.items c.args.ranges.now.items
    c.push_reserved.new.self.items one
    (ap (λ z. numbers (ranges_of z)) c.in-Some.ensures.items
    ∙ numbers_snoc c.pop.new.self.items c.in-Some.units
    ∙ ap (λ z. z ++ numbers (ranges_of c.pop.new.self.items))
    (halves-units c.in-Some.units.first c.in-Some.units.count c.args.count (omega arith))
    ∙ append_assoc (units one.first one.count) (units less.first less.count)
    (numbers (ranges_of c.pop.new.self.items))
    ∙ ap (λ z. units one.first one.count ++ z)
    (sym (ap (λ z. numbers (ranges_of z)) c.push_reserved.ensures.items
    ∙ numbers_snoc c.pop.new.self.items less)))

pub returns-clause-many : goal.returns-clause-many
returns-clause-many c =
    let one : Units = record { first = c.in-Some.units.first; count = c.args.count } in
    let e = ap (λ (z : List Units). length (numbers (in_list z))) c.in_ok-push-2.ensures.items in
    let m = halves-many c.args.first.now.items one in
    omega arith
