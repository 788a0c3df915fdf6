use Rattle.std.proofs.Common.{◌∙◌, sym}
use Rattle.std.proofs.lemmas.Result.{IfOk-weaker}
use Rattle.sf_core.specs.Assertions.Sat.{value}
use Rattle.sf_foot.specs.Variables.{value_of}
use Rattle.sf_foot.proofs.Knowing.{equal-known, equal-left, equal-right}
use Rattle.sf_foot.proofs.Ready.{ready-left, ready-other, ready-right, somewhere}
use Rattle.sf_foot.proofs.taking.take_test.Goals as goal

-- the right side may become known
pub meet-requires : goal.meet-requires
meet-requires c = ready-right c.args.known.now somewhere c.in-Equal.x c.in-Equal.y
    (rw c.in-Equal.is at (c.requires somewhere))

pub returns-in-Some-clause-yes : goal.returns-in-Some-clause-yes
returns-in-Some-clause-yes c = IfOk-weaker c.meet.result _ _
    (λ b f i p. rw c.in-Equal.is (equal-left (value (value_of c.args.vars.now)) c.args.known.now c.meet.new.self c.in-Equal.x c.in-Equal.y
    c.in-Some.v (sym c.value.ensures ∙ c.in-Some.is) (f i)))
    c.meet.ensures.yes

-- the left side may become known
pub meet-requires-in-Some-value : goal.meet-requires-in-Some-value
meet-requires-in-Some-value c = ready-left c.args.known.now somewhere c.in-Equal.x c.in-Equal.y
    (rw c.in-Equal.is at (c.requires somewhere))

pub returns-in-Some-value-clause-yes : goal.returns-in-Some-value-clause-yes
returns-in-Some-value-clause-yes c = IfOk-weaker c.meet-in-Some-value.result _ _
    (λ b f i p. rw c.in-Equal.is (equal-right (value (value_of c.args.vars.now)) c.args.known.now c.meet-in-Some-value.new.self
    c.in-Equal.x c.in-Equal.y c.in-Some-value.v (sym c.value-in-Equal.ensures ∙ c.in-Some-value.is) (f i)))
    c.meet-in-Some-value.ensures.yes

-- one side is known
pub returns-in-Equal-clause-no : goal.returns-in-Equal-clause-no
returns-in-Equal-clause-no c = absurd (equal-known (value (value_of c.args.vars.now)) c.args.known.now c.in-Equal.x c.in-Equal.y
    (rw c.in-Equal.is at (c.requires somewhere)).next (sym c.value.ensures ∙ c.in_default-value.is)
    (sym c.value-in-Equal.ensures ∙ c.in_default-value-2.is))

-- the sides of other tests are known
pub is_true-requires : goal.is_true-requires
is_true-requires c = ready-other c.args.known.now somewhere c.args.test.now c.in_default.not-Equal (c.requires somewhere)
