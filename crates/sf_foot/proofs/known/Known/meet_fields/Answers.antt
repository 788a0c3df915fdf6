use Rattle.sf_core.specs.Assertions.Sat.{value}
use Rattle.sf_heap.specs.Cells.{cell_of}
use Rattle.sf_foot.specs.Variables.{value_of}
use Rattle.sf_foot.specs.Checked.Known.{FieldsLeft}
use Rattle.sf_foot.proofs.Drops.{drop-next, drop-none}
use Rattle.sf_foot.proofs.Knowing.{fields-end, fields-more, fields-stop, fields-within}
use Rattle.sf_foot.proofs.known.Known.meet_fields.Goals as goal

-- the next field's value may be an existential that becomes known
pub meet-requires : goal.meet-requires
meet-requires c = fields-within (value (value_of c.args.vars.now)) (cell_of c.args.cell.now) _ _ _ _ _
    (drop-next (FieldsLeft (value (value_of c.args.vars.now)) (cell_of c.args.cell.now) c.args.self.now
    c.args.fields.now c.loop-field.self) c.args.fields.now c.loop-field.field-index _ c.loop-field-test.true
    c.loop-field.invariant)

-- another value is in the field
pub returns-then-not-branch-clause-no : goal.returns-then-not-branch-clause-no
returns-then-not-branch-clause-no c = λ _.
    fields-stop (value (value_of c.args.vars.now)) (cell_of c.args.cell.now) _ _ _ _ _
    (drop-next (FieldsLeft (value (value_of c.args.vars.now)) (cell_of c.args.cell.now) c.args.self.now
    c.args.fields.now c.loop-field.self) c.args.fields.now c.loop-field.field-index _ c.loop-field-test.true
    c.loop-field.invariant)
    (rw c.get.ensures at (c.in_ok-meet.ensures.no c.if-not-branch.true))

-- one field more
pub loop-field-preserved : goal.loop-field-preserved
loop-field-preserved c =
    fields-more (value (value_of c.args.vars.now)) (cell_of c.args.cell.now) _ _ _ _ _ _
    (drop-next (FieldsLeft (value (value_of c.args.vars.now)) (cell_of c.args.cell.now) c.args.self.now
    c.args.fields.now c.loop-field.self) c.args.fields.now c.loop-field.field-index _ c.loop-field-test.true
    c.loop-field.invariant)
    (rw c.get.ensures at (c.in_ok-meet.ensures.yes c.if-not-branch.false))

-- no field is left
pub returns-clause-yes : goal.returns-clause-yes
returns-clause-yes c = λ _.
    fields-end (value (value_of c.args.vars.now)) (cell_of c.args.cell.now) _ _ _
    (drop-none (FieldsLeft (value (value_of c.args.vars.now)) (cell_of c.args.cell.now) c.args.self.now
    c.args.fields.now c.loop-field.self) c.args.fields.now c.loop-field.field-index c.loop-field-test.false
    c.loop-field.invariant)
