-- What each row of subtraction keeps: what it hands over is what it takes off what is wanted.
-- Berdine, Calcagno, O'Hearn, "Symbolic Execution with Separation Logic" (2005), section 5.
use Rattle.std.specs.Prelude.{◌≡◌, ◌↔◌, ℕ, ◌≤◌, Bool, true, cond, List, [], Option, Some, None, replicate}
use Rattle.sf_base.specs.declared.ids.Var.{Var}
use Rattle.sf_base.specs.declared.place.Place.{Place}
use Rattle.sf_base.specs.declared.value.Value.{Value}
use Rattle.sf_base.specs.HeapStore.{Heap, IsEmpty, Splits}
use Rattle.sf_consume.specs.Subtract.{Step, Want, removed, stepped, subtracted, bind_step, same_step, apart_step, cell_step, empty_step, exact_step, head_step, join_step, node_step}
use Rattle.sf_consume.specs.Wants.{IsFormed, Wants, wanting}
use Rattle.sf_core.specs.Assertions.Occurs.{OccursIn}
use Rattle.sf_core.specs.Assertions.Sat.{SameOutside, Sat, SatAll}
use Rattle.sf_core.specs.declared.assertion.Operand.{Operand}
use Rattle.sf_core.specs.declared.assertion.Operand.TheVariants.{Exists}
use Rattle.sf_core.specs.declared.assertion.Scope.{Scope}
use Rattle.sf_core.specs.declared.assertion.Test.{Test}
use Rattle.sf_core.specs.declared.command.Expr.{Expr}
use Rattle.sf_core.specs.Program.Syntax.{Conjuncts, none, also, choose, Level, level}
use Rattle.sf_sym.specs.Below.{AllInPending, IsBelow, SameBelow}
use Rattle.sf_sym.specs.Decided.{is_decided, test_of_terms}
use Rattle.sf_sym.specs.declared.tag.Tag.{Tag}
use Rattle.sf_sym.specs.declared.term.Term.{Term}
use Rattle.sf_sym.specs.Equalities.{pending_with}
use Rattle.sf_sym.specs.Goal.{Goal}
use Rattle.sf_sym.specs.Holds.{term_value, IsBound}
use Rattle.sf_sym.specs.HoldsIn.{HoldsIn}
use Rattle.sf_sym.specs.Mapped.{conjuncts_with}
use Rattle.sf_sym.specs.Pending.{Pending, before, conjuncts_of}
use Rattle.sf_sym.specs.State.{State, term}

-- a state alone, with nothing to do
abbrev pub alone : State → Goal
alone s = record { state = s; todo = [] }

-- a part of what is there is handed over, and with the same values of the old symbols the state
-- that is left holds on the rest and on all that was handed over; whatever heap is still wanted
-- then, together with the part it is one that was wanted before, with the same values of the
-- existentials
pub record HandsOver (w : ℕ → Value) (want after : Want) (e : Var → Option Value)
    (free taken : Heap) : Type 0 where
  pub part : Heap
  pub rest : Heap
  pub gone : Heap
  pub splits : Splits free part rest
  pub joins : Splits gone taken part
  pub values : ℕ → Value
  pub same : SameBelow want.state.next_sym values w
  pub holds : HoldsIn values (alone after.state) e rest gone
  pub wants : (some : ℕ → Value) (more whole : Heap) → Splits whole part more
      → Wants values some after more → Wants w some want whole

-- one subtraction comes to be another: it still speaks only of what there is, symbols are never
-- fewer, links are the same, and wherever its state holds, a part is handed over
pub record Subtracts (want after : Want) : Type 0 where
  pub formed : IsFormed after
  pub symbols : want.state.next_sym ≤ after.state.next_sym
  pub links : after.state.links ≡ want.state.links
  pub hands : (w : ℕ → Value) (e : Var → Option Value) (free taken : Heap)
      → HoldsIn w (alone want.state) e free taken → HandsOver w want after e free taken

-- a row of subtraction keeps what is wanted
abbrev pub KeepsWants : Step → Type 0
KeepsWants step =
    (want after : Want) → IsFormed want → stepped step want ≡ Some after → Subtracts want after

-- bind: the existential has the value of the other side
unfoldable pub BindKeepsWants : Type 0
BindKeepsWants = KeepsWants bind_step

-- same: a term has its own value
unfoldable pub SameKeepsWants : Type 0
SameKeepsWants = KeepsWants same_step

-- apart: the terms have different values
unfoldable pub ApartKeepsWants : Type 0
ApartKeepsWants = KeepsWants apart_step

-- cell: that cell is the one that is wanted
unfoldable pub CellKeepsWants : Type 0
CellKeepsWants = (atom : ℕ) → KeepsWants (cell_step atom)

-- empty: a segment from a term to itself, and the tree of nil, need no heap; a doubly linked segment needs none where
-- its last cell is what stands before it, too
unfoldable pub EmptyKeepsWants : Type 0
EmptyKeepsWants = KeepsWants empty_step

-- exact: that segment or tree is the one that is wanted
unfoldable pub ExactKeepsWants : Type 0
ExactKeepsWants = (atom : ℕ) → KeepsWants (exact_step atom)

-- head: a cell and a segment from its link on are a segment; a doubly linked one where the cell leads back to what
-- stands before it, and stands before the rest
unfoldable pub HeadKeepsWants : Type 0
HeadKeepsWants = (atom : ℕ) → KeepsWants (head_step atom)

-- join: a segment and one from its end on are a segment, where the end of both isn't inside the
-- first; of doubly linked ones the last cell of the first stands before the second
unfoldable pub JoinKeepsWants : Type 0
JoinKeepsWants = (atom : ℕ) → KeepsWants (join_step atom)

-- node: a cell and the trees of its links are a tree
unfoldable pub NodeKeepsWants : Type 0
NodeKeepsWants = (atom : ℕ) → KeepsWants (node_step atom)

-- all of them, by their tags
unfoldable pub SubtractionKeepsWants : Type 0
SubtractionKeepsWants =
    (tag : Tag) (want after : Want) → IsFormed want → subtracted tag want ≡ Some after
    → Subtracts want after

-- a choice whose test is decided: its branch for that is wanted in its place
unfoldable pub BranchKeepsWants : Type 0
BranchKeepsWants =
    (so : Bool) (s : State) (bindings : List (Option Term)) (place : Place)
    (test : Test (Operand Term)) (this that : Level Term) (cs : Conjuncts Term) (terms : Test Term)
    → IsFormed (removed s bindings (also (choose place test this that) cs))
    → test_of_terms bindings test ≡ Some terms → is_decided so s terms ≡ true
    → Subtracts (removed s bindings (also (choose place test this that) cs))
    (removed s bindings (before (conjuncts_of (cond so this that)) cs))

-- what is to be shown is wanted of the same heaps, in whatever state, with other terms of the same values
unfoldable pub RestatedTermsAreWanted : Type 0
RestatedTermsAreWanted =
    (below : ℕ) (earlier later : ℕ → Value) (to : Term → Term) (s after : State) (want : Pending)
    → ((t : Term) → IsBelow below t → term_value later (to t) ≡ term_value earlier t)
    → AllInPending (IsBelow below) want → (some : ℕ → Value) (heap : Heap)
    → Wants later some (wanting after (pending_with to want)) heap ↔ Wants earlier some (wanting s want) heap

-- From the first row to the last what is wanted of a state where an assertion is to be shown: its
-- conjuncts, with the terms that the variables have, and none of that many existentials has a term
abbrev pub all_wanted : State → (count : ℕ) → Conjuncts Expr → Want
all_wanted s count cs = record {
  state = s;
  bindings = replicate count None;
  conjuncts = conjuncts_with (term s.vars) cs;
}

-- the first: the heaps that are wanted are those that satisfy the assertion
unfoldable pub AssertionIsWanted : Type 0
AssertionIsWanted =
    (w outside : ℕ → Value) (s : State) (count : ℕ) (made : Scope) (cs : Conjuncts Expr)
    (heap : Heap)
    → Sat (level made cs) (λ x. term_value w (term s.vars x)) outside heap
    ↔ ((some : ℕ → Value) × SameOutside made outside some
    × Wants w some (all_wanted s count cs) heap)

-- one after another: what two subtractions hand over is handed over
unfoldable pub SubtractionsChain : Type 0
SubtractionsChain =
    (one two three : Want) → Subtracts one two → Subtracts two three → Subtracts one three

-- the last: where no conjunct is left, just the empty heap is wanted
unfoldable pub NothingIsWanted : Type 0
NothingIsWanted =
    (w some : ℕ → Value) (want : Want) (heap : Heap) → want.conjuncts ≡ none
    → Wants w some want heap ↔ (IsBound w want.bindings some × IsEmpty heap)

-- an assertion is shown: wherever the state holds, the part that is handed over satisfies it, with
-- the terms that its existentials were bound to
pub record Shows (w outside : ℕ → Value) (s : State) (made : Scope) (cs : Conjuncts Expr)
    (first last : Want) (e : Var → Option Value) (free taken : Heap) : Type 0 where
  pub hands : HandsOver w first last e free taken
  pub bound : (some : ℕ → Value) → IsBound hands.values last.bindings some
      → SatAll cs (λ x. term_value w (term s.vars x)) some hands.part
  pub satisfied : Sat (level made cs) (λ x. term_value w (term s.vars x)) outside hands.part

-- from the first to the last: where an assertion is to be shown, which has no existential of
-- another one, and no conjunct of it is left, it is shown
unfoldable pub AssertionIsShown : Type 0
AssertionIsShown =
    (s : State) (count : ℕ) (made : Scope) (cs : Conjuncts Expr) (last : Want)
    → ((n : ℕ) → OccursIn (level made cs) (Exists n) → ⊥) → Subtracts (all_wanted s count cs) last
    → last.conjuncts ≡ none
    → (w outside : ℕ → Value) (e : Var → Option Value) (free taken : Heap)
    → HoldsIn w (alone s) e free taken
    → Shows w outside s made cs (all_wanted s count cs) last e free taken
