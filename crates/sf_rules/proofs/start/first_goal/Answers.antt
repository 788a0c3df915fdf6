use Rattle.std.proofs.Common.{map}
use Rattle.sf_core.specs.Program.View.{assertion_of, procedure_of}
use Rattle.sf_sym.specs.Goal.{todo_of}
use Rattle.sf_rules.proofs.FirstRows.{first_left}
use Rattle.sf_rules.proofs.Items.{run_and_return}
use Rattle.sf_rules.proofs.start.first_goal.Goals as goal

pub first_state-requires : goal.first_state-requires
first_state-requires g c =
    record {
      there = c.requires.1.1;
      own = c.proc-procedure.ensures.meaning;
      formed = c.args.arranged.now.program.formed.procedures c.args.f.0 _ c.proc-procedure.ensures.meaning;
    }

pub returns : goal.returns
returns g c =
    first_left g.d c.args.arranged.now c.args.f (procedure_of c.proc-procedure.result.now) c.in_ok-state.state
    c.vars.result.now (assertion_of c.pre.result.now.assertion) (map (λ o. assertion_of o.assertion) c.owed.result.now)
    (todo_of c.push-2.new.self.items) (todo_of c.in_ok-todo-2.todo.items) c.requires.0 c.requires.1.0
    c.proc-procedure.ensures.meaning c.in_ok-state.ensures c.vars.ensures c.pre.ensures c.owed.ensures
    (run_and_return _ _ _ _ _ _ _ c.in_ok-todo.ensures.items c.in_ok-push.ensures.items
    c.in_ok-push-2.ensures.items c.deref.ensures.value) c.in_ok-todo-2.ensures
