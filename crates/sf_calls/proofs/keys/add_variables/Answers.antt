use Rattle.std.proofs.Common.{◌≡◌, ℕ, subst, arith}
use Rattle.sf_calls.specs.Checked.Gathers.{IsUpTo}
use Rattle.sf_calls.specs.Sets.{IsSetOf, IsEarlier}
use Rattle.sf_calls.specs.Checked.Lemmas.InOrder.{next_variable}
use Rattle.sf_calls.proofs.keys.add_variables.Goals as goal

pub loop-i-preserved : goal.loop-i-preserved
loop-i-preserved c =
    λ counts s. rw c.in_ok-push.ensures.items
    (next_variable counts c.args.r c.loop-i.i c.loop-i.found.items (c.loop-i.invariant counts s))

pub returns : goal.returns
returns c = λ counts s.
    let all : c.loop-i.i ≡ c.args.count = omega arith in
    subst (λ (n : ℕ). IsSetOf IsEarlier (IsUpTo counts c.args.r.0 n) c.loop-i.found.items) all
    (c.loop-i.invariant counts s)
