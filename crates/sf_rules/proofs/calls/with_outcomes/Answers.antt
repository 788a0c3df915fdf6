use Rattle.std.proofs.Common.{[], ◌∷◌, ◌++◌, ◌∙◌}
use Rattle.sf_core.specs.Program.View.{assertion_of, call_of}
use Rattle.sf_sym.specs.Goal.{gave, todo_of}
use Rattle.sf_rules.specs.Callee.{term_after}
use Rattle.sf_rules.specs.Words.{to_add}
use Rattle.sf_rules.proofs.calls.with_outcomes.Goals as goal

pub returns : goal.returns
returns c =
    let s = c.args.state.now in
    c.in_ok-todo-3.ensures
    ∙ (λ i. gave c.args.place (c.args.set.0.items ++ c.deref-3.ensures.value i) [] ∷ (c.in_ok-todo-2.ensures
    ∙ (λ j. to_add c.args.place (term_after s (c.deref-2.ensures.value j) (call_of c.args.left.0.now))
    (assertion_of c.args.left.1.post.now) ++ (c.in_ok-todo.ensures
    ∙ (λ k. to_add c.args.place (term_after s (c.deref.ensures.value k) (call_of c.args.right.0.now))
    (assertion_of c.args.right.1.post.now) ++ todo_of c.args.todo.items)) j)) i)
