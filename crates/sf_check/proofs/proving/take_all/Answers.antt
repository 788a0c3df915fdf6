use Rattle.std.proofs.Common.{◌≡◌, ◌∙◌, true, false, ap, None, Some, cond}
use Rattle.sf_sym.specs.declared.tag.Tag.TheVariants.{Absurd}
use Rattle.sf_check.specs.Checked.Stands.{stand_of}
use Rattle.sf_check.specs.Stand.{is_finished}
use Rattle.sf_check.proofs.Walking.{end-open, end-proves, finished-none, tag-leads, tag-stops}
use Rattle.sf_check.proofs.proving.take_all.Goals as goal

pub returns-then-is_finished-clause-err : goal.returns-then-is_finished-clause-err
returns-then-is_finished-clause-err g c =
    let is : is_finished g.d (stand_of c.loop-number.stand) ≡ true = cc in
    tag-stops g.d c.args.tags.now c.loop-number.number (stand_of c.loop-number.stand) Absurd true
    c.loop-number-test.true c.loop-number.invariant
    (finished-none g.d (stand_of c.loop-number.stand) _ is) is

pub returns-then-not-branch-clause-err : goal.returns-then-not-branch-clause-err
returns-then-not-branch-clause-err g c =
    let is : is_finished g.d (stand_of c.loop-number.stand) ≡ false = cc in
    tag-stops g.d c.args.tags.now c.loop-number.number (stand_of c.loop-number.stand) _ false
    c.loop-number-test.true c.loop-number.invariant
    (c.in_ok-take.ensures
    ∙ ap (λ b. cond b (Some (stand_of c.take.new.self)) None) c.if-not-branch.true) is

pub loop-number-preserved : goal.loop-number-preserved
loop-number-preserved g c =
    tag-leads g.d c.args.tags.now c.loop-number.number (stand_of c.loop-number.stand)
    (stand_of c.take.new.self) _ c.loop-number-test.true c.loop-number.invariant
    (c.in_ok-take.ensures
    ∙ ap (λ b. cond b (Some (stand_of c.take.new.self)) None) c.if-not-branch.false)

pub returns-then-not-is_finished-clause-err : goal.returns-then-not-is_finished-clause-err
returns-then-not-is_finished-clause-err g c =
    let is : is_finished g.d (stand_of c.loop-number.stand) ≡ false = cc in
    end-open g.d c.args.tags.now c.loop-number.number (stand_of c.loop-number.stand) c.loop-number-test.false
    c.loop-number.invariant is

pub returns-clause-ok : goal.returns-clause-ok
returns-clause-ok g c =
    let is : is_finished g.d (stand_of c.loop-number.stand) ≡ true = cc in
    end-proves g.d c.args.tags.now c.loop-number.number (stand_of c.loop-number.stand) c.loop-number-test.false
    c.loop-number.invariant is
