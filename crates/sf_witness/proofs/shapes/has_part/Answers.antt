use Rattle.std.proofs.Common.{◌↔◌, Bool, IsTrue, sym, subst}
use Rattle.sf_base.specs.declared.value.Value.TheVariants.{Nil as nil}
use Rattle.sf_core.specs.Assertions.Sat.{SatOne, value}
use Rattle.sf_core.specs.Program.View.{conjunct_of}
use Rattle.sf_foot.specs.Variables.{value_of}
use Rattle.sf_heap.specs.Cells.{heap_of}
use Rattle.sf_witness.specs.Checked.Shapes.{HasPart}
use Rattle.sf_witness.proofs.HeapParts.{found-part, one-in_order}
use Rattle.sf_witness.proofs.shapes.has_part.Goals as goal

pub invariant_of-assertion : goal.invariant_of-assertion
invariant_of-assertion c =
    record { in_order = one-in_order c.args.conjunct c.in_ok-vec.field-0 c.in_ok-vec.ensures.items c.requires }

pub returns : goal.returns
returns c =
    subst (λ (b : Bool). IsTrue b ↔ HasPart
    (SatOne (conjunct_of c.args.conjunct) (value (value_of c.args.vars.now)) (λ n. nil)) (heap_of c.args.heap.now))
    (sym c.is_some.ensures)
    (found-part c.args.conjunct c.in_ok-vec.field-0 c.in_ok-vec.ensures.items (value_of c.args.vars.now)
    (heap_of c.args.heap.now) c.in_ok-found.found c.in_ok-found.ensures.found c.in_ok-found.ensures.none)
