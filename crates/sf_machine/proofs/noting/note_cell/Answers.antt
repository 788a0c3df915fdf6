use Rattle.std.proofs.Common.{refl}
use Rattle.sf_base.specs.declared.ids.Thing.TheVariants.{At}
use Rattle.sf_core.specs.Machine.Enabled.{cell}
use Rattle.sf_machine.proofs.Notes.{noted_at}
use Rattle.sf_machine.proofs.noting.note_cell.Goals as goal

pub returns-in_ok-push : goal.returns-in_ok-push
returns-in_ok-push c = rw c.in-Loc.is (noted_at c.args.things.now.items c.push.new.self.items (At c.in-Loc.at)
    (cell c.in-Loc.at) c.in_ok-push.ensures.items refl)
