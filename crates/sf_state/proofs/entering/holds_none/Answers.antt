use Rattle.std.proofs.Common.{◌≡◌, ◌==◌, arith, ap, sym, ◌∙◌, length, map, List}
use Rattle.std.proofs.lemmas.List.{length-map}
use Rattle.sf_base.specs.declared.ids.ResId.{ResId}
use Rattle.sf_core.specs.Machine.HasThroughout.{HasThroughout}
use Rattle.sf_core.specs.Program.ProgramView.{program_of}
use Rattle.sf_core.specs.Program.View.{procedure_of}
use Rattle.sf_calls.specs.Sets.{IsResSet}
use Rattle.sf_state.proofs.FirstNamed.{holds-none, holds-one}
use Rattle.sf_state.proofs.entering.holds_none.Goals as goal

pub holds-requires : goal.holds-requires
holds-requires c =
    let sets = c.sets_from_truncation.ensures (program_of c.args.p.now.program) c.args.p.now.calls c.args.p.now.sets in
    let each : length c.args.p.now.calls.holds ≡ length (map procedure_of c.args.p.now.program.procedures.items) =
    sets.holds.each in
    let same : length (map procedure_of c.args.p.now.program.procedures.items)
    ≡ length c.args.p.now.program.procedures.items = simp length-map in
    omega (arith, each, same)

pub returns : goal.returns
returns c =
    let sets = c.sets_from_truncation.ensures (program_of c.args.p.now.program) c.args.p.now.calls c.args.p.now.sets in
    let xs : List ResId = c.holds.result.now in
    let held : IsResSet (HasThroughout (program_of c.args.p.now.program) c.args.f) xs =
    sets.holds.is c.args.f xs c.holds.ensures in
    let empty : c.is_empty.result ≡ (length xs == 0) =
    c.is_empty.ensures ∙ ap (λ (rs : List ResId). length rs == 0) c.as_slice.ensures in
    record {
      free = λ e. holds-none (program_of c.args.p.now.program) c.args.f xs held (sym empty ∙ e);
      held = λ e. holds-one (program_of c.args.p.now.program) c.args.f xs held (sym empty ∙ e);
    }
