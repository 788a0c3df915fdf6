use Rattle.std.proofs.Common.{◌∙◌, ap, get_or, length, sym}
use Rattle.std.proofs.lemmas.List.{length-set}
use Rattle.sf_base.specs.declared.value.Value.TheVariants.{Nil as nil}
use Rattle.sf_heap.specs.Cells.{FieldValues}
use Rattle.sf_frame.proofs.HeapChanges.{field_at, put_at, width_insert}
use Rattle.sf_frame.proofs.cells.put_field.Goals as goal

-- the cell that is there has the field
pub put-requires : goal.put-requires
put-requires c = c.requires c.in-Some.cell.now (sym c.in-Some.ensures.value)

pub returns-in-Some-clause-cells : goal.returns-in-Some-clause-cells
returns-in-Some-clause-cells c =
    put_at c.args.heap.now c.args.at c.args.field.0 c.args.value c.in-Some.cell.now c.put.new.self
    c.in-Some.ensures.value
    (λ other. ap (λ (xs : FieldValues). get_or xs other nil) c.put.ensures
    ∙ field_at c.in-Some.cell.now c.args.field.0 c.args.value other
    (c.requires c.in-Some.cell.now (sym c.in-Some.ensures.value)))

pub returns-in-Some-clause-width : goal.returns-in-Some-clause-width
returns-in-Some-clause-width c = λ count w.
    width_insert c.args.heap.now c.args.at c.put.new.self count
    (ap (λ (xs : FieldValues). length xs) c.put.ensures
    ∙ length-set c.in-Some.cell.now c.args.field.0 c.args.value
    ∙ w c.args.at c.in-Some.cell.now (sym c.in-Some.ensures.value)) w
