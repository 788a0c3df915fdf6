use Rattle.std.proofs.Common.{◌≡◌, ◌⊎◌, subst}
use Rattle.std.proofs.lemmas.Result.{IfOk-weaker}
use Rattle.sf_core.specs.Program.ProgramView.{program_of}
use Rattle.sf_replay.specs.declared.found.ReplayFault.{ReplayFault}
use Rattle.sf_replay.specs.declared.found.ReplayFault.TheVariants.{OutOfMemory}
use Rattle.sf_replay.specs.Replays.{FromStart, Stops}
use Rattle.sf_replay.specs.ScheduleText.{events_of}
use Rattle.sf_cli.specs.Replayed.{no_event, replayed}
use Rattle.sf_cli.proofs.ReplayReplies.{stops-there}
use Rattle.sf_cli.proofs.replay.answer_to_events.Goals as goal

pub returns-in-Ok : goal.returns-in-Ok
returns-in-Ok c =
    IfOk-weaker c.say_found.result _ _
    (λ said k. replayed c.args.schedule.now c.in-Ok.found c.requires.gives c.in-Ok.ensures k.0 k.1) c.say_found.ensures

pub returns-in-Err-NotAnEvent : goal.returns-in-Err-NotAnEvent
returns-in-Err-NotAnEvent c =
    let p = program_of c.args.arranged.now.program in
    let start = c.args.start in
    let stops = subst (λ (z : ReplayFault). (z ≡ OutOfMemory)
    ⊎ FromStart p c.args.f start.fresh start.vars start.heap (λ d. Stops p d (events_of c.args.schedule.now) z))
    c.in-Err-NotAnEvent.field-0-is c.in-Err-NotAnEvent.ensures in
    IfOk-weaker c.say_no_event.result _ _
    (λ said k. no_event c.args.schedule.now c.in-Err-NotAnEvent.number c.in-Err-NotAnEvent.why c.requires.gives
    (stops-there p c.args.f start.fresh start.vars start.heap c.args.schedule.now c.in-Err-NotAnEvent.number
    c.in-Err-NotAnEvent.why stops) k.0 k.1) c.say_no_event.ensures
