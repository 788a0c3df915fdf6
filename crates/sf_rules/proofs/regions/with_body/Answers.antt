use Rattle.sf_rules.proofs.RegionRows.{inside_todo}
use Rattle.sf_rules.proofs.regions.with_body.Goals as goal

pub returns : goal.returns
returns c =
    inside_todo c.args.place c.args.r c.args.body c.args.todo.items c.push.new.self.items c.push-2.new.self.items
    c.in_ok-push.ensures.items c.in_ok-push-2.ensures.items
