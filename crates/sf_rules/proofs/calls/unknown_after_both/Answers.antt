use Rattle.std.proofs.Common.{◌≡◌, ◌+◌, ◌<◌, ◌≤◌, ap, length, arith, rules}
use Rattle.std.proofs.lemmas.Bool.Decides.{nat_tests}
use Rattle.sf_core.specs.Program.View.{call_of}
use Rattle.sf_calls.specs.Changes.{changed}
use Rattle.sf_rules.specs.declared.few.TheConstants.{TOO_MANY}
use Rattle.sf_rules.proofs.CallRows.{both_few, both_many}
use Rattle.sf_rules.proofs.calls.unknown_after_both.Goals.{then-len-ge-TOO_MANY-via-then-len-ge-TOO_MANY, then-len-ge-TOO_MANY-via-else-len-ge-TOO_MANY+then-len}
use Rattle.sf_rules.proofs.calls.unknown_after_both.Goals as goal

pub returns-then-len-ge-TOO_MANY-clause-none : goal.returns-then-len-ge-TOO_MANY-clause-none
returns-then-len-ge-TOO_MANY-clause-none c =
    let one : c.len.result ≡ length c.in_ok-one.one.items = search rules in
    let first = ap length c.in_ok-one.ensures in
    let second = ap length c.in_ok-two.ensures in
    let many : TOO_MANY ≤ length (changed c.args.calls.now (call_of c.args.left.now))
    + length (changed c.args.calls.now (call_of c.args.right.now)) = elim c.then-len-ge-TOO_MANY.branch [
      | then-len-ge-TOO_MANY-via-then-len-ge-TOO_MANY w ↦ let all = w.if-len-ge-TOO_MANY.true in grind (arith, nat_tests)
      | then-len-ge-TOO_MANY-via-else-len-ge-TOO_MANY+then-len w ↦
          let few = w.if-len-ge-TOO_MANY.false in
          let all = w.if-len.true in
          let two : w.len-else-len-ge-TOO_MANY.result ≡ length c.in_ok-two.two.items = search rules in
          let too : w.len-else-len-ge-TOO_MANY-2.result ≡ length c.in_ok-one.one.items = search rules in
          grind (arith, nat_tests)
    ] in
    both_many c.args.from (changed c.args.calls.now (call_of c.args.left.now))
    (changed c.args.calls.now (call_of c.args.right.now)) many

pub returns-clause-some : goal.returns-clause-some
returns-clause-some c =
    let one : c.len.result ≡ length c.in_ok-one.one.items = search rules in
    let two : c.len-else-len-ge-TOO_MANY.result ≡ length c.in_ok-two.two.items = search rules in
    let again : c.len-else-len-ge-TOO_MANY-2.result ≡ length c.in_ok-one.one.items = search rules in
    let three : c.len-2.result ≡ length c.in_ok-one.one.items = search rules in
    let few = c.if-len-ge-TOO_MANY.false in
    let fewer = c.if-len.false in
    let all : length c.in_ok-one.one.items + length c.in_ok-two.two.items < TOO_MANY = grind (arith, nat_tests) in
    both_few c.args.from (c.args.from + c.len-2.result) (changed c.args.calls.now (call_of c.args.left.now))
    (changed c.args.calls.now (call_of c.args.right.now)) c.in_ok-one.one.items c.in_ok-two.two.items
    c.deref.result.now c.deref-2.result.now c.in_ok-first.first.items c.in_ok-second.second.items
    c.in_ok-first.ensures c.deref.ensures.value c.in_ok-one.ensures (ap (λ k. c.args.from + k) three)
    c.in_ok-second.ensures c.deref-2.ensures.value c.in_ok-two.ensures all
