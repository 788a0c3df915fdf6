use Rattle.std.proofs.Common.{rules, ◌∷◌, sym, ap, ◌∙◌}
use Rattle.sf_core.specs.Program.Syntax.{Command}
use Rattle.sf_core.specs.Program.View.{command_of}
use Rattle.sf_sym.specs.Goal.{run, todo_of}
use Rattle.sf_rules.specs.Checked.Rows.Branches.{branch_row}
use Rattle.sf_rules.proofs.Branching.{choice_view, command_is}
use Rattle.sf_rules.proofs.Looping.{pushed}
use Rattle.sf_rules.proofs.branches.branch_of_command.Goals as goal

pub returns : goal.returns
returns c =
    command_is c.args.so c.args.state c.in-If.field-0 c.in-If.test c.in-If.this.items c.in-If.that.items
    c.block.result.now (todo_of c.args.todo.items) (todo_of c.push.new.self.items) (search rules) (search rules)
    (pushed _ _ _ c.in_ok-push.ensures.items)
    ∙ ap (λ (x : Command). branch_row c.args.so c.args.state (run x ∷ todo_of c.args.todo.items))
    (sym (ap command_of c.in-If.is ∙ choice_view c.in-If.field-0 c.in-If.test c.in-If.this c.in-If.that))
