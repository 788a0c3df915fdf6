use Rattle.std.proofs.Common.{◌∙◌, refl}
use Rattle.sf_replay.specs.ScheduleText.{path_within, turns_from}
use Rattle.sf_replay.proofs.TurnsRead.{turns-next, turns-start, turns-stop}
use Rattle.sf_replay.proofs.naming.path_from.Goals as goal

pub turns-init : goal.turns-init
turns-init c = turns-start c.entry-path.result c.args.turns.now c.entry-path.ensures

pub returns-in_err-path : goal.returns-in_err-path
returns-in_err-path c = c.from_residual-in_err-path.ensures
    ∙ turns-stop c.turns.path c.in-Some.dot.now c.in_ok-digit.digit.now
    c.in_ok-turn.turn c.turns.left.now c.in-Some.after.now c.in_ok-digit.rest.now
    (path_within (turns_from c.args.turns.now)) c.in-Some.ensures.cases.0 c.in_ok-digit.ensures.cases.0
    c.in_ok-turn.ensures c.in_err-path.ensures c.turns.invariant.0

pub turns-preserved : goal.turns-preserved
turns-preserved c = turns-next c.turns.path c.in_ok-path.path c.in-Some.dot.now c.in_ok-digit.digit.now
    c.in_ok-turn.turn c.args.turns.now c.turns.left.now c.in-Some.after.now c.in_ok-digit.rest.now
    (path_within (turns_from c.args.turns.now)) c.in-Some.ensures.cases.0 c.in_ok-digit.ensures.cases.0 refl
    c.in_ok-turn.ensures c.in_ok-path.ensures c.turns.invariant.0
