use Rattle.std.proofs.Common.{◌++◌, ap, ◌∙◌, sym, subst, length, arith, length-append}
use Rattle.sf_core.specs.Machine.Whole.{numbers}
use Rattle.sf_part.specs.Checked.Halving.{in_list}
use Rattle.sf_part.specs.Checked.Ranges.{AreFit, ranges_of}
use Rattle.sf_part.proofs.Halves.{halves-drop, halves-take, halves-turned, halves-turned_fit}
use Rattle.sf_part.proofs.halving.take_first.Goals as goal

pub loop-left-init : goal.loop-left-init
loop-left-init c =
    let none = c.new-first.ensures.items in
    record {
      fit = c.requires.fit;
      first_fit = subst AreFit (sym none) tt;
      moved = ap (λ z. numbers (in_list z) ++ numbers (ranges_of c.args.ranges.now.items)) none;
      many = let e = ap (λ z. length (numbers (in_list z))) none in omega arith;
      enough = c.requires.enough;
    }

pub move_some-requires-clause-fit : goal.move_some-requires-clause-fit
move_some-requires-clause-fit c = c.loop-left.invariant.fit

pub move_some-requires-clause-first_fit : goal.move_some-requires-clause-first_fit
move_some-requires-clause-first_fit c = c.loop-left.invariant.first_fit

pub move_some-requires-clause-enough : goal.move_some-requires-clause-enough
move_some-requires-clause-enough c =
    let i = c.loop-left.invariant in
    let e = ap length i.moved in
    let l = length-append (numbers (in_list c.loop-left.first.items))
    (numbers (ranges_of c.loop-left.ranges.items)) in
    let m = i.many in
    let n = i.enough in
    omega arith

pub loop-left-preserved : goal.loop-left-preserved
loop-left-preserved c =
    let i = c.loop-left.invariant in
    let e = c.in_ok-left.ensures in
    record {
      fit = e.fit;
      first_fit = e.first_fit;
      moved = e.moved ∙ i.moved;
      many = e.many ∙ i.many;
      enough = i.enough;
    }

pub returns-clause-fit : goal.returns-clause-fit
returns-clause-fit c = subst AreFit (sym c.reverse.ensures.items)
    (halves-turned_fit c.loop-left.first.items c.loop-left.invariant.first_fit)

pub returns-clause-rest_fit : goal.returns-clause-rest_fit
returns-clause-rest_fit c = c.loop-left.invariant.fit

pub returns-clause-first : goal.returns-clause-first
returns-clause-first c =
    let i = c.loop-left.invariant in
    let none = c.loop-left-test.false in
    let m = i.many in
    ap (λ z. numbers (ranges_of z)) c.reverse.ensures.items
    ∙ ap numbers (halves-turned c.loop-left.first.items)
    ∙ halves-take (numbers (in_list c.loop-left.first.items))
    (numbers (ranges_of c.loop-left.ranges.items)) (numbers (ranges_of c.args.ranges.now.items))
    c.args.count i.moved (omega arith)

pub returns-clause-rest : goal.returns-clause-rest
returns-clause-rest c =
    let i = c.loop-left.invariant in
    let none = c.loop-left-test.false in
    let m = i.many in
    halves-drop (numbers (in_list c.loop-left.first.items))
    (numbers (ranges_of c.loop-left.ranges.items)) (numbers (ranges_of c.args.ranges.now.items))
    c.args.count i.moved (omega arith)
