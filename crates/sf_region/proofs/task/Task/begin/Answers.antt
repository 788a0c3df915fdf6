use Rattle.sf_region.specs.Keys.{begun_with}
use Rattle.sf_region.specs.Rule.{opening_view}
use Rattle.std.proofs.Common.{sym, ap, ◌∙◌, subst}
use Rattle.sf_region.specs.Checked.Seated.{IsSeated}
use Rattle.sf_region.specs.declared.views.Begun.{Begun}
use Rattle.sf_region.proofs.Seating.{seated-begun}
use Rattle.sf_region.proofs.task.Task.begin.Goals as goal

-- src/task.rt:73:12
pub invariant_of-result : goal.invariant_of-result
invariant_of-result c =
    let e = c.in_ok-regions.ensures in
    let about : Begun = begun_with c.args.p.now.program c.args.part c.args.contents.items in
    subst (λ z. IsSeated z c.args.part) (sym (e.2 ∙ ap opening_view e.0))
    (seated-begun about c.requires)
