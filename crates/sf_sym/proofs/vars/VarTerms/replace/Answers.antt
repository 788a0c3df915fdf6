use Rattle.std.proofs.Common.{length, map, sym, ap, ◌∙◌, subst, arith}
use Rattle.sf_sym.specs.Equalities.{put_for}
use Rattle.sf_sym.specs.Variables.{AreInOrder}
use Rattle.sf_sym.proofs.InPlace.{vec-whole}
use Rattle.sf_sym.proofs.VariableLists.{map-order}
use Rattle.sf_sym.proofs.vars.VarTerms.replace.Goals as goal

pub invariant_of-self : goal.invariant_of-self
invariant_of-self c =
    let to = put_for c.args.r.symbol c.args.r.by in
    subst AreInOrder (sym (vec-whole c.self.inside.items c.in_vars.new.vars
    (omega (arith, c.in_vars.auto.vars, ap length c.deref_mut.ensures.value))
    ∙ c.in_vars.ensures ∙ ap (map (λ v. (v.0, to v.1))) c.deref_mut.ensures.value))
    (map-order to c.self.inside.items.items c.self.invariant)
