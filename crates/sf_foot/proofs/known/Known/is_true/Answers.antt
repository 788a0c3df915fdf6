use Rattle.std.proofs.Common.{◌∙◌, inl, inr, refl}
use Rattle.sf_core.specs.Assertions.Sat.{value}
use Rattle.sf_foot.specs.Variables.{value_of}
use Rattle.sf_foot.proofs.Knowing.{not-both, test-equal}
use Rattle.sf_foot.proofs.known.Known.is_true.Goals as goal

pub returns-in-Equal : goal.returns-in-Equal
returns-in-Equal c =
    let known = rw c.in-Equal.is at c.requires in
    rw c.in-Equal.is (test-equal (value (value_of c.args.vars.now)) c.args.self.now c.in-Equal.x c.in-Equal.y
    c.is_one.result (known c.in-Equal.x (inl refl)) (known c.in-Equal.y (inr refl))
    (λ v w e f. c.is_one.ensures v w (c.value.ensures ∙ e) (c.value-in-Equal.ensures ∙ f)))

pub returns-in-Differ : goal.returns-in-Differ
returns-in-Differ c =
    let known = rw c.in-Differ.is at c.requires in
    rw c.in-Differ.is (λ some h. not-both c.is_one-in-Differ.result (test-equal (value (value_of c.args.vars.now))
    c.args.self.now c.in-Differ.x c.in-Differ.y c.is_one-in-Differ.result (known c.in-Differ.x (inl refl))
    (known c.in-Differ.y (inr refl)) (λ v w e f. c.is_one-in-Differ.ensures v w (c.value-in-Differ.ensures ∙ e)
    (c.value-in-Differ-2.ensures ∙ f)) some h))
