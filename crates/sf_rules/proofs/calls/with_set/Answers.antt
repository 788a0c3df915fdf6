use Rattle.std.proofs.Common.{◌≡◌, ◌∷◌, ◌++◌, ◌∙◌, rules}
use Rattle.sf_sym.specs.Goal.{gave, todo_of}
use Rattle.sf_rules.proofs.Looping.{pushed}
use Rattle.sf_rules.proofs.calls.with_set.Goals as goal

pub returns : goal.returns
returns c =
    let all : c.extend_from_slice.new.self.items ≡ c.args.set.items ++ c.args.more.now = search rules in
    pushed _ _ _ c.in_ok-push.ensures.items
    ∙ (λ i. gave c.args.place (all i) (c.new.ensures.items i) ∷ todo_of c.args.todo.items)
