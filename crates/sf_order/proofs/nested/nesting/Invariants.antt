use Rattle.std.proofs.Common.{◌<◌, ◌↔◌, AllPairs, Contains}
use Rattle.sf_base.specs.declared.ids.ResId.{ResId}
use Rattle.sf_core.specs.Program.ProgramView.{program_of}
use Rattle.sf_order.specs.Nests.{IsEarlierPair, Nests}
use Rattle.sf_order.proofs.nested.nesting.Given as goal

-- the pairs of those so far
abbrev pub invariant-loop-r : goal.invariant-loop-r
invariant-loop-r l = record {
  ordered : AllPairs IsEarlierPair l.pairs.items;
  members : (e : ResId × ResId) → Contains l.pairs.items e ↔ ((e.0.0 < l.r) × Nests (program_of l.p) e.0 e.1);
}
