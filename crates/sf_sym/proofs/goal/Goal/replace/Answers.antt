use Rattle.std.proofs.Common.{ap, ◌∙◌, length, map, arith}
use Rattle.sf_sym.specs.Equalities.{item_with, put_for}
use Rattle.sf_sym.specs.Goal.{items_of}
use Rattle.sf_sym.proofs.InPlace.{vec-whole}
use Rattle.sf_sym.proofs.Replaced.{reversed_items}
use Rattle.sf_sym.proofs.goal.Goal.replace.Goals as goal

pub returns-clause-ok : goal.returns-clause-ok
returns-clause-ok c =
    let to = put_for c.args.r.symbol c.args.r.by in
    let todo = reversed_items to c.args.self.now.todo.items _
    (ap (map items_of) (vec-whole c.args.self.now.todo c.in_items.new.todo
    (omega (arith, c.in_items.auto.todo, ap length c.deref_mut.ensures.value)))
    ∙ c.in_items.ensures
    ∙ ap (λ xs. map (map (item_with to)) (map items_of xs)) c.deref_mut.ensures.value) in
    (λ i. record { state = c.in_ok-replace.ensures.ok i; todo = todo i })
