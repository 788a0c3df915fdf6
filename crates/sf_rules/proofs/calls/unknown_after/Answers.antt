use Rattle.std.proofs.Common.{◌≡◌, length, rules}
use Rattle.sf_core.specs.Program.View.{call_of}
use Rattle.sf_calls.specs.Changes.{changed}
use Rattle.sf_rules.proofs.CallRows.{fresh_few, fresh_many}
use Rattle.sf_rules.proofs.calls.unknown_after.Goals as goal

pub returns-then-len-ge-TOO_MANY-clause-none : goal.returns-then-len-ge-TOO_MANY-clause-none
returns-then-len-ge-TOO_MANY-clause-none c =
    let count : c.len.result ≡ length c.in_ok-changed.changed.items = search rules in
    fresh_many c.args.from (changed c.args.calls.now (call_of c.args.call.now)) c.in_ok-changed.changed.items
    c.in_ok-changed.changed.items c.len.result c.in_ok-changed.ensures count c.if-len-ge-TOO_MANY.true

pub returns-clause-some : goal.returns-clause-some
returns-clause-some c =
    let count : c.len.result ≡ length c.in_ok-changed.changed.items = search rules in
    fresh_few c.args.from (changed c.args.calls.now (call_of c.args.call.now)) c.in_ok-changed.changed.items
    c.deref.result.now c.len.result c.in_ok-changed.ensures count c.in_ok-set.set.items c.if-len-ge-TOO_MANY.false
    c.in_ok-set.ensures c.deref.ensures.value
