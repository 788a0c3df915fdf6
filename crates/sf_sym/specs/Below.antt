-- Which symbols a goal speaks of: those below its next one. What it stands for rests on no other symbol's value.
-- Ordinary: a fresh symbol is one that occurs nowhere yet.
use Rattle.std.specs.Prelude.{◌≡◌, ℕ, ◌<◌, Bool, true, nat_lt, List, Some, None, get_or}
use Rattle.std.specs.List.{AllByRecursion}
use Rattle.sf_base.specs.declared.value.Value.{Value}
use Rattle.sf_core.specs.Assertions.Occurs.{OccursInAll}
use Rattle.sf_core.specs.declared.assertion.Operand.TheVariants.{Known}
use Rattle.sf_sym.specs.declared.atom.Atom.{Atom}
use Rattle.sf_sym.specs.declared.atom.Atom.TheVariants.{Points, Ls, Tree, Dll}
use Rattle.sf_sym.specs.declared.atom.Numbered.{Numbered}
use Rattle.sf_sym.specs.declared.term.Term.{Term}
use Rattle.sf_sym.specs.declared.term.Term.TheVariants.{Nil, Int, Sym}
use Rattle.sf_sym.specs.Goal.{Item, run, add, take, gave, head, again, exit, return, end, Goal}
use Rattle.sf_sym.specs.Pending.{Pending}
use Rattle.sf_sym.specs.State.{State}

-- Every term has the property:
-- the terms that some things are paired with, such as variables or fields
abbrev pub AllPaired : {K : Type 0} → (Term → Type 0) → List (K × Term) → Type 0
AllPaired {K} P xs = AllByRecursion (λ (x : K × Term). P x.1) xs

-- those of an atom
abbrev pub AllInAtom : (Term → Type 0) → Atom → Type 0
AllInAtom P (Points t fields) = P t × AllPaired P fields
AllInAtom P (Ls t u) = P t × P u
AllInAtom P (Tree t) = P t
AllInAtom P (Dll v p l u) = P v × P p × P l × P u

-- those of atoms
abbrev pub AllInAtoms : (Term → Type 0) → List Numbered → Type 0
AllInAtoms P xs = AllByRecursion (λ (a : Numbered). AllInAtom P a.atom) xs

-- those of pairs
abbrev pub AllInPairs : (Term → Type 0) → List (Term × Term) → Type 0
AllInPairs P ps = AllByRecursion (λ (p : Term × Term). P p.0 × P p.1) ps

-- those of a state
pub record AllInState (P : Term → Type 0) (s : State) : Type 0 where
  pub vars : AllPaired P s.vars
  pub apart : AllInPairs P s.apart
  pub atoms : AllInAtoms P s.atoms
  pub taken : AllInAtoms P s.taken

-- those of conjuncts, nested branches too, and those that existentials stand for
pub record AllInPending (P : Term → Type 0) (p : Pending) : Type 0 where
  pub conjuncts : (t : Term) → OccursInAll p.conjuncts (Known t) → P t
  pub bindings : (n : ℕ) (t : Term) → get_or p.bindings n None ≡ Some t → P t

-- those of an item that is still to do
abbrev pub AllInItem : (Term → Type 0) → Item → Type 0
AllInItem P (run c) = Unit {0}
AllInItem P (add p given) = AllInPending P given
AllInItem P (take p want names) = AllInPending P want
AllInItem P (gave p set removed) = AllPaired P set
AllInItem P (head p test invariant body) = Unit {0}
AllInItem P (again p invariant) = Unit {0}
AllInItem P (exit p r) = Unit {0}
AllInItem P (return p post) = Unit {0}
AllInItem P (end p) = Unit {0}

-- those of a goal
pub record AllInGoal (P : Term → Type 0) (goal : Goal) : Type 0 where
  pub state : AllInState P goal.state
  pub todo : AllByRecursion (AllInItem P) goal.todo

-- the term is a constant, or a symbol below that number
abbrev pub is_below : ℕ → Term → Bool
is_below n Nil = true
is_below n (Int i) = true
is_below n (Sym m) = nat_lt m n

abbrev pub IsBelow : ℕ → Term → Type 0
IsBelow n t = is_below n t ≡ true

-- a goal speaks of symbols below its next one only
abbrev pub AreBelow : Goal → Type 0
AreBelow goal = AllInGoal (IsBelow goal.state.next_sym) goal

-- the symbols below that number have the same values
abbrev pub SameBelow : ℕ → (ℕ → Value) → (ℕ → Value) → Type 0
SameBelow n v w = (m : ℕ) → m < n → v m ≡ w m
