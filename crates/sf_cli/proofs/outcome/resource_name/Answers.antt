use Rattle.std.proofs.Common.{◌∙◌}
use Rattle.sf_base.proofs.Lookup.{get-read}
use Rattle.sf_cli.proofs.RunReplies.{name-there}
use Rattle.sf_cli.proofs.outcome.resource_name.Goals as goal

pub returns-in-Some : goal.returns-in-Some
returns-in-Some c = c.as_bytes.ensures
    ∙ name-there c.args.p.now c.args.r c.in-Some.resource.now
    (get-read c.args.p.now.resources.items c.deref.result.now c.args.r.0 c.in-Some.resource.now c.deref.ensures.value
    c.in-Some.ensures.lookup.3.0 c.in-Some.ensures.lookup.1)
