use Rattle.sf_core.specs.Program.ProgramView.{program_of}
use Rattle.sf_part.specs.Checked.Stepping.{own_event}
use Rattle.sf_part.proofs.HandedOut.{either-of, if-ok, settled-contents, settled-gives, settled-init, settled-of, settled-runs, settled-variables, unsettled-of}
use Rattle.sf_part.proofs.part.Part.settle.Goals as goal

pub settled-requires-clause-runs : goal.settled-requires-clause-runs
settled-requires-clause-runs c =
    settled-runs c.args.self.now c.settling_room-room.result c.settling_room-room.ensures

pub settled-requires-clause-there : goal.settled-requires-clause-there
settled-requires-clause-there c = settled-variables (program_of c.args.p.now.program)
    c.args.p.now.program.formed
    (c.conditions_from_truncation.ensures (program_of c.args.p.now.program)
    c.args.p.now.conditions) c.args.self.now c.requires.of c.settling_room-room.result
    c.settling_room-room.ensures
    (settled-init (program_of c.args.p.now.program) c.args.self.now c.settling_room-room.result
    c.requires.init c.settling_room-room.ensures)

pub returns-clause-ok : goal.returns-clause-ok
returns-clause-ok c =
    let p = program_of c.args.p.now.program in
    if-ok c.settled.result c.settled.ensures.ok (λ contents h. (
      own_event c.args.self.now h.0,
      settled-gives p c.args.p.now.program.formed
          (c.conditions_from_truncation.ensures p c.args.p.now.conditions) c.args.self.now
          c.requires.of c.settling_room-room.result c.settling_room-room.ensures
          (settled-init p c.args.self.now c.settling_room-room.result c.requires.init
          c.settling_room-room.ensures) c.settled.new.self h.0 contents.items h.1 h.2,
    ))

pub returns-clause-contents : goal.returns-clause-contents
returns-clause-contents c =
    let p = program_of c.args.p.now.program in
    if-ok c.settled.result c.settled.ensures.ok (λ contents h.
    settled-contents p c.args.p.now.program.formed
    (c.conditions_from_truncation.ensures p c.args.p.now.conditions) c.args.self.now
    c.requires.of c.settling_room-room.result c.settling_room-room.ensures
    (settled-init p c.args.self.now c.settling_room-room.result c.requires.init
    c.settling_room-room.ensures) c.settled.new.self h.0 contents.items h.1 h.2)

pub returns-clause-of : goal.returns-clause-of
returns-clause-of c =
    let p = program_of c.args.p.now.program in
    either-of c.settled.result c.settled.ensures.ok
    (λ contents h. settled-of p c.args.p.now.program.formed
    (c.conditions_from_truncation.ensures p c.args.p.now.conditions) c.args.self.now
    c.requires.of c.settling_room-room.result c.settling_room-room.ensures
    (settled-init p c.args.self.now c.settling_room-room.result c.requires.init
    c.settling_room-room.ensures) c.settled.new.self h.0 contents.items h.1 h.2)
    (unsettled-of p c.args.self.now c.settled.new.self c.requires.of c.settled.result
    c.settled.ensures.err c.settled.ensures.heap c.settled.ensures.blank)
