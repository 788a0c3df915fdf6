-- How the code's one thing to do is read.
-- Ordinary: one case a case.
use Rattle.std.specs.Prelude.{map}
use Rattle.sf_core.specs.Program.View.{assertion_of, block_of, command_of}
use Rattle.sf_sym.specs.Goal.{Item, run, add, take, gave, head, again, exit, return, end}
use Rattle.sf_sym.specs.Pending.{pending_of}
use Rattle.sf_rules.specs.declared.front.Front.{Front}
use Rattle.sf_rules.specs.declared.front.Front.TheVariants as front

-- one thing to do
abbrev pub thing_of : Front → Item
thing_of (front.Command c) = run (command_of c.now)
thing_of (front.Add p given) = add p (pending_of given)
thing_of (front.Take p want names) = take p (pending_of want) names.now
thing_of (front.Gave p set removed) = gave p set.items removed.items
thing_of (front.Head p test invariant body) = head p test.now (assertion_of invariant.now) (block_of body.now)
thing_of (front.Again p invariant) = again p (assertion_of invariant.now)
thing_of (front.Exit p r) = exit p r
thing_of (front.Return p owed) = return p (map (λ o. assertion_of o.assertion) owed.now)
thing_of (front.End p) = end p
