use Rattle.sf_frame.proofs.stack.Stack.changed.Goals as goal

pub returns-in-GoOn : goal.returns-in-GoOn
returns-in-GoOn c = rw c.in-GoOn.is c.advanced.ensures

pub returns-in-Call : goal.returns-in-Call
returns-in-Call c = rw c.in-Call.is c.called.ensures
