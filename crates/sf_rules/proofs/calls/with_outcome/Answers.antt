use Rattle.std.proofs.Common.{List, ◌∷◌, ◌++◌, ap, ◌∙◌}
use Rattle.sf_base.specs.declared.ids.Var.{Var}
use Rattle.sf_core.specs.Program.View.{assertion_of, call_of}
use Rattle.sf_sym.specs.declared.term.Term.{Term}
use Rattle.sf_sym.specs.Goal.{gave, todo_of}
use Rattle.sf_rules.specs.Callee.{term_after}
use Rattle.sf_rules.specs.Words.{to_add}
use Rattle.sf_rules.proofs.Looping.{pushed}
use Rattle.sf_rules.proofs.calls.with_outcome.Goals as goal

pub returns : goal.returns
returns c =
    pushed _ _ _ c.in_ok-push.ensures.items
    ∙ (λ i. gave c.args.place c.args.set.items (c.new.ensures.items i) ∷ (c.in_ok-todo.ensures
    ∙ ap (λ (xs : List (Var × Term)). to_add c.args.place (term_after c.args.state.now xs (call_of c.args.call.now))
    (assertion_of c.args.post.now) ++ todo_of c.args.todo.items) c.deref.ensures.value) i)
