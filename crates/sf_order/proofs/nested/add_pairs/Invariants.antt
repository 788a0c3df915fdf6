use Rattle.std.proofs.Common.{◌≡◌, ◌<◌, ◌↔◌, ◌⊎◌, AllPairs, Contains}
use Rattle.sf_base.specs.declared.ids.ResId.{ResId}
use Rattle.sf_order.specs.Nests.{IsEarlierPair}
use Rattle.sf_order.specs.Checked.Rows.{IsMarked}
use Rattle.sf_order.proofs.nested.add_pairs.Given as goal

-- the pairs with those so far
abbrev pub invariant-loop-q : goal.invariant-loop-q
invariant-loop-q l = record {
  ordered : AllPairs IsEarlierPair l.pairs.items;
  members : (e : ResId × ResId) → Contains l.pairs.items e
      ↔ (Contains l.initial.pairs.items e ⊎ ((e.0 ≡ l.r) × IsMarked l.row e.1 × (e.1.0 < l.q)));
}
