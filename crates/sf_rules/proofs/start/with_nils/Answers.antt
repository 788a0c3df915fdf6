use Rattle.std.proofs.Common.{rules}
use Rattle.sf_rules.proofs.Firsts.{nils_after}
use Rattle.sf_rules.proofs.start.with_nils.Goals as goal

pub loop-i-preserved : goal.loop-i-preserved
loop-i-preserved c =
    search (
      rules,
      nils_after c.args.from c.loop-i.i c.args.vars.items c.loop-i.vars.items c.loop-i.auto.i
          c.loop-i.invariant,
    )
