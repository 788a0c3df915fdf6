use Rattle.std.proofs.Common.{sym, ap, ◌∙◌}
use Rattle.sf_heap.specs.Cells.{heap_of}
use Rattle.sf_witness.specs.WitnessState.{beside, heap_of_atoms}
use Rattle.sf_witness.proofs.Heaps.{atoms-next, atoms-none}
use Rattle.sf_witness.proofs.cells.add_atoms.Goals as goal

pub loop-first-preserved : goal.loop-first-preserved
loop-first-preserved c =
    atoms-next c.args.links (heap_of c.loop-first.heap) (heap_of c.add_atom.new.heap) c.in-Some.first.now
    c.in-Some.rest.now c.in_ok-add_atom.ensures
    ∙ ap (λ xs. beside (heap_of c.loop-first.heap) (heap_of_atoms c.args.links xs)) (sym c.in-Some.ensures.cases.0)
    ∙ c.loop-first.invariant

pub returns : goal.returns
returns c =
    atoms-none c.args.links (heap_of c.loop-first.heap) c.loop-first.left.now c.in_default.ensures.cases
    ∙ c.loop-first.invariant
