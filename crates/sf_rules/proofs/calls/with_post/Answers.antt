use Rattle.std.proofs.Common.{◌≡◌, ◌++◌, map, ◌∙◌}
use Rattle.sf_core.specs.Program.View.{assertion_of, call_of}
use Rattle.sf_sym.specs.Goal.{todo_of}
use Rattle.sf_sym.specs.State.{term, term_at}
use Rattle.sf_sym.specs.Variables.{set_vars}
use Rattle.sf_rules.specs.Callee.{callee_term, term_by}
use Rattle.sf_rules.specs.Words.{to_add}
use Rattle.sf_rules.proofs.calls.with_post.Goals as goal

pub returns : goal.returns
returns c =
    let call = call_of c.args.call.now in
    let vars : c.deref-2.result.now ≡ set_vars c.args.set.now c.args.state.now.vars =
    c.deref-2.ensures.value ∙ c.in_ok-after.ensures in
    let values : c.deref-3.result.now ≡ map (term c.args.state.now.vars) call.values =
    c.deref-3.ensures.value ∙ c.in_ok-values.ensures
    ∙ (λ i. map (term (c.vars.ensures i)) (c.deref.ensures.value i)) in
    c.in_ok-todo.ensures
    ∙ (λ i. to_add c.args.place (term_by (callee_term (term_at (vars i)) call (values i)))
    (assertion_of c.args.post.now) ++ todo_of c.args.todo.items)
