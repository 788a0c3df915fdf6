-- Wanted: whether what a goal is stuck at is so in its witness, by the kind of the failure.
-- Berdine, Calcagno, O'Hearn, "Symbolic Execution with Separation Logic" (2005), section 5: what is left to show.
use Rattle.std.specs.Prelude.{◌≡◌, ◌≢◌, ℕ, cond, Option, Some, None, List, ◌∷◌}
use Rattle.std.specs.Option.{option_map}
use Rattle.sf_base.specs.declared.value.Value.{Value}
use Rattle.sf_base.specs.declared.value.Value.TheVariants.{Nil as nil, Loc as loc}
use Rattle.sf_base.specs.HeapStore.{Heap, IsEmpty, Splits}
use Rattle.sf_core.specs.Assertions.Sat.{SatOne}
use Rattle.sf_consume.specs.Subtract.{four}
use Rattle.sf_core.specs.Program.Syntax.{Conjunct, points, doubly, choose, Conjuncts, none, also}
use Rattle.sf_sym.specs.declared.stuck.Stuck.{Stuck}
use Rattle.sf_sym.specs.declared.stuck.Stuck.TheVariants.{NoCell, NotEqual, NotDifferent, NoAtom, Leak, EndNotAllocated}
use Rattle.sf_report.specs.Wanted.{address, double_misfit, misfit_at}
use Rattle.sf_sym.specs.declared.term.Term.{Term}
use Rattle.sf_sym.specs.Below.{is_below}
use Rattle.sf_sym.specs.Goal.{Goal, Item, run, take}
use Rattle.sf_sym.specs.Holds.{IsBound, term_value}
use Rattle.sf_sym.specs.State.{State, term}
use Rattle.sf_sym.specs.Tests.{parts}
use Rattle.sf_witness.specs.Located.{located, value_at}
use Rattle.sf_witness.specs.WitnessState.{heap_of_atoms}

-- A CELL the term at which a command wants a cell
abbrev pub wanted_cell : State → List Item → Option Term
wanted_cell s (run c ∷ todo) = option_map (term s.vars) (address c)
wanted_cell s _ = None

-- the heap has a cell there
abbrev pub IsThere : Heap → Option Term → Type 0
IsThere heap None = ⊥
IsThere heap (Some t) = (location : ℕ) × (value_at t ≡ loc location) × (heap location ≢ None)

-- A CONJUNCT that is wanted, and what its existentials stand for
pub record Want : Type 0 where
  pub bindings : List (Option Term)
  pub conjunct : Conjunct Term

-- the conjunct, if it is no choice, and no doubly linked segment of which an operand has no term: no search for a proof
-- of a program is stuck at one
abbrev pub plain : List (Option Term) → Conjunct Term → Option Want
plain bindings (choose p t this that) = None
plain bindings (doubly p next back x b l y) =
    option_map (λ d. record { bindings = bindings; conjunct = doubly p next back x b l y }) (four bindings x b l y)
plain bindings c = Some (record { bindings = bindings; conjunct = c })

-- the first conjunct
abbrev pub first_of : List (Option Term) → Conjuncts Term → Option Want
first_of bindings none = None
first_of bindings (also c cs) = plain bindings c

-- the conjunct that is wanted first
abbrev pub wanted : List Item → Option Want
wanted (take p want names ∷ todo) = first_of want.bindings want.conjuncts
wanted _ = None

-- a part of the heap satisfies the conjunct, with some values of the existentials that have no term
pub record IsSatisfied (heap : Heap) (want : Want) : Type 0 where
  pub some : ℕ → Value
  pub bound : IsBound located want.bindings some
  pub part : Heap
  pub rest : Heap
  pub splits : Splits heap part rest
  pub sat : SatOne want.conjunct (term_value located) some part

-- a part of the heap satisfies what is wanted
abbrev pub IsIn : Heap → Option Want → Type 0
IsIn heap None = ⊥
IsIn heap (Some want) = IsSatisfied heap want

-- the value of a term in the line of what is wanted: a symbol that the state doesn't have stands for a field that isn't
-- known, which is nil
abbrev pub printed_value : (next_sym : ℕ) → Term → Value
printed_value next t = cond (is_below next t) (value_at t) nil

-- the value of what is in a field: nil where it isn't known
abbrev pub there_value : (next_sym : ℕ) → Option Term → Value
there_value next None = nil
there_value next (Some t) = printed_value next t

-- AN EQUALITY where a wanted cell doesn't fit the cell that is there, the two terms that meet in its first such field; the
-- two that should be one for a doubly linked segment
abbrev pub misfit : State → List (Option Term) → Conjunct Term → Option (Option Term × Term)
misfit s bindings (points p x fs) = misfit_at s bindings x fs
misfit s bindings (doubly p next back x b l y) = double_misfit s bindings back x b l y
misfit s bindings _ = None

-- the two are the same; without such a field, a part of the heap satisfies the conjunct
abbrev pub AreEqual : State → Heap → Want → Option (Option Term × Term) → Type 0
AreEqual s heap want None = IsSatisfied heap want
AreEqual s heap want (Some m) = there_value s.next_sym m.0 ≡ printed_value s.next_sym m.1

-- the equality that is wanted is true
abbrev pub IsTrueEquality : State → Heap → Option Want → Type 0
IsTrueEquality s heap None = ⊥
IsTrueEquality s heap (Some want) = AreEqual s heap want (misfit s want.bindings want.conjunct)

-- the heap of what was not handed over, and all of it
abbrev pub left_heap : State → Heap
left_heap s = heap_of_atoms s.links s.atoms

abbrev pub whole_heap : State → Heap
whole_heap s = heap_of_atoms s.links (parts s)

-- WantHolds: what the goal is stuck at is so in its witness
abbrev pub WantHolds : Goal → Stuck → Type 0
WantHolds goal NoCell = IsThere (whole_heap goal.state) (wanted_cell goal.state goal.todo)
WantHolds goal NotEqual = IsTrueEquality goal.state (left_heap goal.state) (wanted goal.todo)
WantHolds goal NotDifferent = IsIn (left_heap goal.state) (wanted goal.todo)
WantHolds goal NoAtom = IsIn (left_heap goal.state) (wanted goal.todo)
WantHolds goal EndNotAllocated = IsIn (left_heap goal.state) (wanted goal.todo)
WantHolds goal Leak = IsEmpty (left_heap goal.state)
