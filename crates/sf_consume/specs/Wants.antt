-- What a subtraction under way wants of a heap, and which subtractions speak only of what there is.
-- Berdine, Calcagno, O'Hearn, "Symbolic Execution with Separation Logic" (2005), section 5.
use Rattle.std.specs.Prelude.{ℕ, length}
use Rattle.sf_base.specs.declared.value.Value.{Value}
use Rattle.sf_base.specs.HeapStore.{Heap}
use Rattle.sf_consume.specs.Subtract.{Want}
use Rattle.sf_core.specs.Assertions.Sat.{SatAll}
use Rattle.sf_sym.specs.Below.{AllInPending, AllInState, IsBelow}
use Rattle.sf_sym.specs.Formed.{AllFormed}
use Rattle.sf_sym.specs.Holds.{term_value, IsBound}
use Rattle.sf_sym.specs.Pending.{Pending}
use Rattle.sf_sym.specs.State.{State}

-- Wants: the heap is one that is wanted: with these values of the symbols and of the existentials
-- the conjuncts that are still to be shown hold on exactly that heap, and each existential that has
-- a term has that term's value
pub record Wants (w some : ℕ → Value) (want : Want) (heap : Heap) : Type 0 where
  pub bound : IsBound w want.bindings some
  pub satisfied : SatAll want.conjuncts (term_value w) some heap

-- what is to be shown of a state, as a subtraction under way
abbrev pub wanting : State → Pending → Want
wanting s want = record { state = s; bindings = want.bindings; conjuncts = want.conjuncts }

-- what is wanted, as conjuncts that are still to be shown
abbrev pub still_wanted : Want → Pending
still_wanted want = record { conjuncts = want.conjuncts; bindings = want.bindings }

-- IsFormed: a subtraction speaks of symbols below its state's next one only, and of existentials
-- that it counts; what it wants goes along its state's links
pub record IsFormed (want : Want) : Type 0 where
  pub state : AllInState (IsBelow want.state.next_sym) want.state
  pub terms : AllInPending (IsBelow want.state.next_sym) (still_wanted want)
  pub conjuncts : AllFormed want.state.links (length want.bindings) want.conjuncts
