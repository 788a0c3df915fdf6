use Rattle.std.proofs.Common.{◌∷◌, ◌∙◌}
use Rattle.sf_sym.specs.Goal.{gave, todo_of}
use Rattle.sf_rules.proofs.Looping.{pushed}
use Rattle.sf_rules.proofs.regions.with_removed.Goals as goal

pub returns : goal.returns
returns c =
    pushed _ _ _ c.in_ok-push.ensures.items
    ∙ (λ i. gave c.args.place (c.new.ensures.items i) (c.in_ok-xs.ensures i) ∷ todo_of c.args.todo.items)
