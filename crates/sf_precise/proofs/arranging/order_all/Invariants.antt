use Rattle.std.proofs.Common.{map, take}
use Rattle.sf_core.specs.Program.View.{assertion_of}
use Rattle.sf_precise.specs.Checked.Lemmas.Annotated.{IsNoted}
use Rattle.sf_precise.proofs.arranging.order_all.Given as goal

-- the first place so far, and the orders so far where there is none
abbrev pub invariant-loop-a : goal.invariant-loop-a
invariant-loop-a l =
    IsNoted (map (λ a. assertion_of a.now) (take l.a-index l.notes)) l.first
    (map (λ o. assertion_of o.assertion) l.orders.items)
