use Rattle.sf_machine.proofs.Performed.{common_same, used_again}
use Rattle.sf_machine.proofs.performing.act.Goals as goal

pub returns-in-Err-clause-err : goal.returns-in-Err-clause-err
returns-in-Err-clause-err c = common_same _ _ c.in-Err.ensures.err

pub returns-in-Err-clause-err_used : goal.returns-in-Err-clause-err_used
returns-in-Err-clause-err_used c =
    used_again c.args.used.now c.insert.new.self c.remove.new.self c.args.event.now.number c.requires.fresh
    c.in_ok-insert.ensures.updates.0 c.remove.ensures.updates.0
