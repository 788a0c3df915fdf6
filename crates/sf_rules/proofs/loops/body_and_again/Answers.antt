use Rattle.std.proofs.Common.{rules}
use Rattle.sf_rules.proofs.Looping.{body_todo}
use Rattle.sf_rules.proofs.loops.body_and_again.Goals as goal

pub returns : goal.returns
returns c =
    body_todo c.args.l.now.place c.args.l.now.invariant c.args.l.now.body c.in_ok-todo.todo.items
    c.push.new.self.items c.push-2.new.self.items (search rules) c.in_ok-push.ensures.items
    c.in_ok-push-2.ensures.items
