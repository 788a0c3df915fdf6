use Rattle.std.proofs.Common.{map, sym, ◌∙◌}
use Rattle.sf_ast.specs.View.{item_of}
use Rattle.sf_base.proofs.Decisions.{decides}
use Rattle.sf_core.specs.Program.ProgramView.{program_of}
use Rattle.sf_elab.specs.declared.fault.NameFault.TheVariants.{OutOfMemory}
use Rattle.sf_elab.specs.Files.Elaborated.{Elaborates, FirstFault}
use Rattle.sf_elab.proofs.Files.FirstFaults.{never_both, same_faults}
use Rattle.sf_elab.proofs.elaboration.elaborate.Goals as goal

pub returns : goal.returns
returns c =
    let bytes = c.args.bytes.now in
    let items = map item_of c.args.file.items.items in
    decides c.resolve.result program_of (Elaborates bytes items) (FirstFault bytes items) OutOfMemory
    (λ p q f g. f.same ∙ sym g.same) (same_faults bytes items) (never_both bytes items)
    c.resolve.ensures.found c.resolve.ensures.refused
