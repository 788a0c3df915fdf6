use Rattle.std.proofs.Common.{◌≡◌, length, map}
use Rattle.sf_core.specs.Program.View.{assertion_of}
use Rattle.sf_rules.specs.Checked.Terms.{terms_of}
use Rattle.sf_rules.specs.Words.{to_take_each}
use Rattle.sf_sym.specs.Goal.{todo_of}
use Rattle.sf_rules.proofs.words.with_each_wanted.Given as goal

abbrev pub invariant-loop-last : goal.invariant-loop-last
invariant-loop-last l =
    to_take_each l.place (terms_of l.terms) (map (λ o. assertion_of o.assertion) l.owed) (todo_of l.fn.todo.items)
    ≡ to_take_each l.place (terms_of l.terms) (map (λ o. assertion_of o.assertion) l.left) (todo_of l.todo.items)

abbrev pub decreases-loop-last : goal.decreases-loop-last
decreases-loop-last l = length l.left
