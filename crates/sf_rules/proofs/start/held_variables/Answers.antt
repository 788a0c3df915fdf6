use Rattle.std.proofs.Common.{◌≡◌, ◌<◌, All, List, [], get_or, length, sym, ap, ◌∙◌, subst}
use Rattle.std.proofs.lemmas.Option.{get_or_from_slice_get}
use Rattle.std.proofs.lemmas.Result.{IfOk-weaker}
use Rattle.std.specs.List.{flat_map}
use Rattle.sf_base.specs.declared.ids.ResId.{ResId}
use Rattle.sf_core.specs.Program.ProgramView.{program_of}
use Rattle.sf_rules.specs.Resources.{variables_of}
use Rattle.sf_rules.proofs.FirstRows.{held_there}
use Rattle.sf_rules.proofs.start.held_variables.Goals as goal

pub variables_of_all-requires-clause-there : goal.variables_of_all-requires-clause-there
variables_of_all-requires-clause-there c =
    let p = program_of c.args.arranged.now.program in
    subst (λ (rs : List ResId). All (λ r. r.0 < length p.resources) rs) (sym c.as_slice.ensures)
    (held_there p c.args.arranged.now.calls c.args.f c.holds.result.now c.args.arranged.now.program.formed
    (c.sets_from_truncation.ensures _ _ c.args.arranged.now.sets) c.held_resources_are_there.ensures
    c.holds.ensures)

pub returns-clause-variables : goal.returns-clause-variables
returns-clause-variables c =
    let p = program_of c.args.arranged.now.program in
    let here : get_or c.args.arranged.now.calls.holds c.args.f.0 [] ≡ c.as_slice.result.now =
    get_or_from_slice_get c.args.arranged.now.calls.holds c.args.f.0 c.holds.result.now [] c.holds.ensures
    ∙ sym c.as_slice.ensures in
    IfOk-weaker c.variables_of_all.result _ _ (λ xs e. e ∙ ap (flat_map (variables_of p)) (sym here))
    c.variables_of_all.ensures.variables
