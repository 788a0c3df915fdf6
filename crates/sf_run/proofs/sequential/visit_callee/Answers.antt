use Rattle.std.proofs.Common.{◌∙◌, List, [], Contains, ap, inl, refl, subst, sym}
use Rattle.sf_base.proofs.Elements.{contains-cons}
use Rattle.sf_base.specs.declared.ids.ProcId.{ProcId}
use Rattle.sf_run.specs.Checked.Searches.{listed}
use Rattle.sf_run.proofs.sequential.visit_callee.Goals as goal

pub visit-requires : goal.visit-requires
visit-requires c = c.requires.within c.in-Some.g
    (subst (λ (xs : List ProcId). Contains xs c.in-Some.g)
    (sym (c.callee_of.ensures c.requires.one ∙ ap listed c.in-Some.is))
    ((contains-cons c.in-Some.g [] c.in-Some.g).1 (inl refl)))
