use Rattle.std.proofs.Common.{◌≡◌, ◌<◌, length, map, slice_get, Some, ap, arith}
use Rattle.std.proofs.lemmas.List.{length-map}
use Rattle.sf_base.proofs.Lookup.{get-read_map}
use Rattle.sf_core.specs.Program.View.{procedure_of}
use Rattle.sf_core.specs.Program.ProgramView.{program_of}
use Rattle.sf_vars.proofs.Fits.{block_fits, held_fit}
use Rattle.sf_vars.proofs.condition.first_breach.Goals as goal

pub in_procedure-requires-clause-held : goal.in_procedure-requires-clause-held
in_procedure-requires-clause-held c =
    let there : c.loop-i.i < length (program_of c.args.p.now).procedures = omega (
      arith,
      c.loop-i-test.true,
      ap length c.deref-procedure-items.ensures.value,
      length-map
          c.args.p.now.procedures.items procedure_of,
    ) in
    held_fit (program_of c.args.p.now) c.args.calls.now (record { 0 = c.loop-i.i }) c.args.p.now.formed
    c.requires there

pub in_procedure-requires-clause-fits : goal.in_procedure-requires-clause-fits
in_procedure-requires-clause-fits c =
    let at : slice_get (map procedure_of c.args.p.now.procedures.items) c.loop-i.i
    ≡ Some (procedure_of c.procedure-item.result) =
    get-read_map procedure_of c.args.p.now.procedures.items c.deref-procedure-items.result.now c.loop-i.i
    c.procedure-item.result c.deref-procedure-items.ensures.value c.loop-i-test.true
    c.procedure-item.is in
    block_fits (program_of c.args.p.now) c.args.calls.now
    (procedure_of c.procedure-item.result) c.args.p.now.formed c.requires
    (procedure_of c.procedure-item.result).body
    (c.args.p.now.formed.procedures c.loop-i.i (procedure_of c.procedure-item.result) at).body
