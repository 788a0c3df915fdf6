use Rattle.std.proofs.Common.{ap, arith, get_or}
use Rattle.sf_base.specs.declared.ids.Var.TheVariants.{Own}
use Rattle.sf_sym.specs.Equalities.{put_for}
use Rattle.sf_sym.specs.declared.term.Term.TheVariants.{Nil}
use Rattle.sf_sym.proofs.InPlace.{map_next}
use Rattle.sf_sym.proofs.replace.Replacement.in_vars.Goals as goal

pub loop-x-preserved : goal.loop-x-preserved
loop-x-preserved c =
    map_next (λ x. (x.0, put_for c.args.self.symbol c.args.self.by x.1))
    c.args.vars.now c.loop-x.vars c.loop-x.x-index (Own 0, Nil) _ (omega arith) (omega arith)
    c.loop-x.invariant (ap (λ t. ((get_or c.loop-x.vars c.loop-x.x-index (Own 0, Nil)).0, t)) c.in_term.ensures)
