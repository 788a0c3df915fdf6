use Rattle.std.proofs.Common.{◌≡◌, ◌++◌, map, take, drop}
use Rattle.sf_sym.specs.Equalities.{item_with, put_for}
use Rattle.sf_sym.specs.Goal.{items_of}
use Rattle.sf_sym.proofs.replace.Replacement.in_items.Given as goal

abbrev pub invariant-loop-i : goal.invariant-loop-i
invariant-loop-i l = map items_of l.todo
    ≡ map (map (item_with (put_for l.self.symbol l.self.by))) (take l.i (map items_of l.initial.todo))
    ++ drop l.i (map items_of l.initial.todo)
