use Rattle.std.proofs.Common.{◌≡◌, take, option_map}
use Rattle.std.specs.List.{AllZip}
use Rattle.sf_core.specs.Program.View.{conjunct_of}
use Rattle.sf_precise.specs.Checked.Outer.{outer_of}
use Rattle.sf_precise.specs.Checked.Prepared.{IsPrepared}
use Rattle.sf_precise.proofs.ordering.+levels.Given as goal

-- those so far are prepared, and their existentials are listed
abbrev pub invariant-prepare_all-loop-c : goal.invariant-prepare_all-loop-c
invariant-prepare_all-loop-c l = record {
  prepared : AllZip (λ c o. IsPrepared (conjunct_of c) (option_map conjunct_of o))
      (take l.c-index l.cs) l.orders.items;
  outer : AllZip (λ c ns. ns.items ≡ outer_of (conjunct_of c)) (take l.c-index l.cs) l.outers.items;
}
