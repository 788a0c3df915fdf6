-- Conjuncts that were taken fix the values of what became known by them.
-- Names: `takes-LAW` speaks of sequences of takings.
use Rattle.std.proofs.Common.{ℕ, Bool}
use Rattle.sf_base.specs.declared.value.Value.{Value}
use Rattle.sf_core.specs.Assertions.Determined.{known_after}
use Rattle.sf_base.specs.HeapStore.{Heap, Splits}
use Rattle.sf_core.specs.Assertions.Sat.{SatAll}
use Rattle.sf_core.specs.Program.Syntax.{Conjuncts, none, also}
use Rattle.sf_core.proofs.Assertions.Determined.{Agree, after-agree, leaves-focus, taken-same}
use Rattle.sf_base.proofs.MapSplits.{splits-assoc_right, splits-comm}
use Rattle.sf_precise.specs.Taken.{Takes, known_by}

module _ {E : Type 0} (v : E → Value) where
  -- two choices of values that agree on what is known agree on what becomes known by the takings
  pub takes-agree : (known : ℕ → Bool) (cs taken rest : Conjuncts E) (s t : ℕ → Value)
      (heap one two other another : Heap)
      → Takes known cs taken rest → Agree v known s t → Splits heap one other → Splits heap two another
      → SatAll cs v s one → SatAll cs v t two → Agree v (known_by taken known) s t
  takes-agree known cs none rest s t h g k q r l a m n d e = a
  takes-agree known cs (also c taken) rest s t h g k q r l a m n d e =
      let x = leaves-focus v cs c l.0 s g l.1 d in
      let y = leaves-focus v cs c l.0 t k l.1 e in
      let first = taken-same v known c l.2 s t h x.left y.left _ _ a (splits-assoc_right x.splits m).1
      (splits-assoc_right y.splits n).1 x.first y.first in
      takes-agree (known_after c known) l.0 taken rest s t h x.right y.right _ _ l.3
      (after-agree v known c s t a first.learned) (splits-assoc_right (splits-comm x.splits) m).1
      (splits-assoc_right (splits-comm y.splits) n).1 x.second y.second
