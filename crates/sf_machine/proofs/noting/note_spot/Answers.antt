use Rattle.std.proofs.Common.{◌∙◌, ap, sym}
use Rattle.sf_core.specs.Machine.Enabled.{variable}
use Rattle.sf_machine.specs.Accessing.{thing_of}
use Rattle.sf_frame.specs.declared.spot.Spot.{Spot}
use Rattle.sf_frame.specs.Spots.{slot_of}
use Rattle.sf_machine.proofs.Notes.{noted_at}
use Rattle.sf_machine.proofs.noting.note_spot.Goals as goal
use Rattle.sf_machine.proofs.noting.note_spot.Goals.{in-Shared, in-Own}

pub returns : goal.returns
returns c = noted_at c.args.things.now.items c.push.new.self.items c.match-spot.thing
    (variable (slot_of c.args.spot)) c.in_ok-push.ensures.items (elim c.match-spot.branch [
      | in-Shared w ↦ ap thing_of w.thing-is ∙ sym (ap (λ (s : Spot). variable (slot_of s)) w.in-Shared.is)
      | in-Own w ↦ ap thing_of w.thing-is ∙ sym (ap (λ (s : Spot). variable (slot_of s)) w.in-Own.is)
    ])
