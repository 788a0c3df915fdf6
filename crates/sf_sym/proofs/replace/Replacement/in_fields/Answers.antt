use Rattle.std.proofs.Common.{ap, arith, get_or}
use Rattle.sf_sym.specs.Equalities.{put_for}
use Rattle.sf_sym.specs.declared.term.Term.TheVariants.{Nil}
use Rattle.sf_sym.proofs.InPlace.{map_next}
use Rattle.sf_sym.proofs.replace.Replacement.in_fields.Goals as goal

pub loop-f-preserved : goal.loop-f-preserved
loop-f-preserved c =
    map_next (λ f. (f.0, put_for c.args.self.symbol c.args.self.by f.1))
    c.args.fields.now c.loop-f.fields c.loop-f.f-index (record { 0 = 0 }, Nil) _ (omega arith) (omega arith)
    c.loop-f.invariant (ap (λ t. ((get_or c.loop-f.fields c.loop-f.f-index (record { 0 = 0 }, Nil)).0, t)) c.in_term.ensures)
