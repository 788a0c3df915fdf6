use Rattle.std.proofs.Common.{ap, ◌∙◌, map}
use Rattle.std.proofs.lemmas.List.{take_all}
use Rattle.sf_sym.specs.Goal.{items_of}
use Rattle.sf_sym.proofs.Replaced.{reversed_same}
use Rattle.sf_sym.proofs.copy.copy_items.Goals as goal

pub returns : goal.returns
returns c =
    reversed_same c.args.todo.now c.loop-item.copies.items
    (c.loop-item.invariant
    ∙ ap (map items_of) (take_all c.loop-item.item-index c.args.todo.now c.loop-item-test.false))
