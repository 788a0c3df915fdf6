use Rattle.std.proofs.Common.{ap, ◌∙◌, subst}
use Rattle.std.specs.FinMap.{get}
use Rattle.sf_base.specs.Results.{Appends}
use Rattle.sf_core.specs.Program.ProgramView.{program_of}
use Rattle.sf_proof.specs.ProofText.{Text}
use Rattle.sf_state.specs.StateText.{cell_lines}
use Rattle.sf_witness.proofs.Texts.{cells_written}
use Rattle.sf_witness.proofs.text.put_heap.Goals as goal

pub returns : goal.returns
returns c =
    subst (λ (t : Text). Appends c.put_cells.result c.args.text.now.items c.put_cells.new.text.items t)
    (ap (λ names. cell_lines names (get c.args.heap.now) c.args.at.now) c.deref.ensures.value
    ∙ cells_written (program_of c.args.p.now).fields c.args.heap.now c.args.at.now) c.put_cells.ensures
