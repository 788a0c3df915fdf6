use Rattle.std.proofs.Common.{Some, ◌∙◌, ap, sym}
use Rattle.sf_core.specs.Assertions.Sat.{value}
use Rattle.sf_foot.specs.Variables.{value_of}
use Rattle.sf_foot.proofs.Knowing.{told-known}
use Rattle.sf_foot.proofs.Ready.{ready-fields, somewhere}
use Rattle.sf_foot.proofs.Takings.{takes-cell}
use Rattle.sf_foot.proofs.taking.take_cell.Goals as goal

-- the root is known
pub returns-in_default-2-clause-no : goal.returns-in_default-2-clause-no
returns-in_default-2-clause-no c = absurd (told-known (value (value_of c.args.vars.now)) c.args.known.now
    c.args.root (c.requires somewhere).next (sym c.value.ensures ∙ c.in_default.is))

-- existentials in the fields become known here
pub meet_fields-requires : goal.meet_fields-requires
meet_fields-requires c = ready-fields c.args.known.now somewhere c.args.root c.args.fields.now (c.requires somewhere)

-- one cell is taken
pub returns-clause-yes : goal.returns-clause-yes
returns-clause-yes c = λ _ p. takes-cell c.args.heap.now (value (value_of c.args.vars.now)) p c.args.root c.args.fields.now
    c.in-Some-Loc.l c.in-Some.cell.now c.args.known.now c.meet_fields.new.self _ _
    (sym c.value.ensures ∙ c.in-Some-Loc.is ∙ ap Some c.in-Some-Loc.field-0-is) (sym c.in-Some.ensures)
    (c.in_ok-meet_fields.ensures.yes c.if-not-branch.false) c.in_ok-push.ensures.items
