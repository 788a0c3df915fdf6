use Rattle.std.proofs.Common.{◌≡◌}
use Rattle.std.proofs.lemmas.Result.{IfOk-weaker}
use Rattle.sf_base.proofs.Results.{ok-both}
use Rattle.sf_core.specs.Program.ProgramView.{program_of}
use Rattle.sf_cli.proofs.ReplayReplies.{answering-five, replay-same}
use Rattle.sf_cli.proofs.RunReplies.{entry-there, ran-refused, ran-started}
use Rattle.sf_cli.specs.Checked.Stages.{says}
use Rattle.sf_cli.specs.Replayed.{BegunAnswer, ComesByState, IsStartOf, ScheduleFileAnswer, begun, not_begun}
use Rattle.sf_cli.proofs.replay.replay_state.Goals as goal

pub replay_start-requires : goal.replay_start-requires
replay_start-requires g c =
    let p = program_of c.args.arranged.now.program in
    let found = entry-there c.args.arranged.now c.args.f c.requires.there in
    record { starts = (ran-started p c.args.f c.args.given.now c.in-Ok.start found.0 found.1 c.in-Ok.ensures).starts }

pub returns-in-Ok-clause-said : goal.returns-in-Ok-clause-said
returns-in-Ok-clause-said g c =
    let p = program_of c.args.arranged.now.program in
    let told = g.S.Shelf.files c.args.shelf.now in
    let f = c.args.f in
    let given = c.args.given.now in
    let name = c.args.words.now.schedule.now in
    let start = c.in-Ok.start in
    let found = entry-there c.args.arranged.now f c.requires.there in
    let starts = ran-started p f given start found.0 found.1 c.in-Ok.ensures in
    let is : IsStartOf p f given = record {
      procedure = found.0;
      there = found.1;
      vars = start.vars;
      heap = start.heap;
      parts = start.parts.items;
      unit = start.unit;
      fresh = start.fresh;
      starts = starts;
    } in
    IfOk-weaker c.replay_start.result _ _
    (λ said k. replay-same (ScheduleFileAnswer told p f start.fresh start.vars start.heap name)
    (BegunAnswer told p f given name) (λ other. other ≡ name) (ComesByState p f given name)
    (g.S.Shelf.faults c.args.shelf.now) (g.S.Shelf.faults c.replay_start.new.shelf) said.text.items said.status
    (λ a. begun found.0 start.vars start.heap start.parts.items start.unit start.fresh found.1 starts a)
    (λ other e. (e, is)) k) c.replay_start.ensures.said

pub returns-in-Ok-clause-others : goal.returns-in-Ok-clause-others
returns-in-Ok-clause-others g c = λ other h.
    let p = program_of c.args.arranged.now.program in
    let start = c.in-Ok.start in
    let found = entry-there c.args.arranged.now c.args.f c.requires.there in
    let is : IsStartOf p c.args.f c.args.given.now = record {
      procedure = found.0;
      there = found.1;
      vars = start.vars;
      heap = start.heap;
      parts = start.parts.items;
      unit = start.unit;
      fresh = start.fresh;
      starts = ran-started p c.args.f c.args.given.now start found.0 found.1 c.in-Ok.ensures;
    } in
    c.replay_start.ensures.others other (λ e. h (e, is))

pub returns-in-Err-clause-said : goal.returns-in-Err-clause-said
returns-in-Err-clause-said g c =
    let p = program_of c.args.arranged.now.program in
    let found = entry-there c.args.arranged.now c.args.f c.requires.there in
    ok-both c.say_no_start.result _ _ _
    (λ said s n. says (answering-five said.status s.1) (not_begun found.0 c.in-Err.fault found.1
    (ran-refused p c.args.f c.args.given.now c.in-Err.fault found.0 found.1 c.in-Err.ensures n) s.0 s.1))
    c.say_no_start.ensures.said c.say_no_start.ensures.cause
