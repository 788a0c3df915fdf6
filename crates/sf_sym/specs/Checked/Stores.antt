-- Stores: the parts of a heap and the pairs of terms that differ, with what is kept beside them.
-- Ordinary: lists with their indices.
use Rattle.std.specs.Prelude.{◌≡◌, ℕ, Bool, true, ◌||◌, List, ◌++◌}
use Rattle.std.specs.List.{list_any}
use Rattle.sf_base.specs.declared.ids.Var.{Var}
use Rattle.sf_core.specs.declared.fields.Links.{Links}
use Rattle.sf_sym.specs.declared.atom.Numbered.{Numbered}
use Rattle.sf_sym.specs.declared.outline.Row.{Row}
use Rattle.sf_sym.specs.declared.store.Store.{Store}
use Rattle.sf_sym.specs.declared.term.Term.{Term}
use Rattle.sf_sym.specs.Below.{AllInAtoms, AllInPairs, IsBelow}
use Rattle.sf_sym.specs.Checked.Keeping.{AreMarksOf, AreOf, HasMark, In, IsIndexed, row_allocates, row_begins, rows_of}
use Rattle.sf_sym.specs.Checked.Rows.{has_term, is_marked, rows_at}
use Rattle.sf_sym.specs.Numbers.{AreNumbered, numbers}
use Rattle.sf_sym.specs.Tests.{same_term}
use Rattle.sf_sym.specs.State.{State, state_of}

-- Heap: what a state knows of the heap
pub record Heap : Type 0 where
  pub apart : List (Term × Term)
  pub atoms : List Numbered
  pub taken : List Numbered
  pub next_atom : ℕ

-- of a store
abbrev pub heap : Store → Heap
heap s = record { apart = s.apart; atoms = s.atoms; taken = s.taken.items; next_atom = s.next_atom }

-- the state that knows it, and these terms of the variables
abbrev pub state_in : Links → List (Var × Term) → (next_sym : ℕ) → Heap → State
state_in links vars next_sym h = state_of links vars h.apart h.atoms h.taken next_sym h.next_atom

-- a term is in one of the pairs, or in the outline of a part
abbrev pub is_outside_fields : Term → Heap → Bool
is_outside_fields s h =
    list_any (λ p. same_term p.0 s || same_term p.1 s) h.apart || list_any (λ a. has_term s a.atom) h.atoms
    || list_any (λ a. has_term s a.atom) h.taken

-- IsBounded: all symbols of it are below that number
pub record IsBounded (above : ℕ) (h : Heap) : Type 0 where
  pub pairs : AllInPairs (IsBelow above) h.apart
  pub atoms : AllInAtoms (IsBelow above) h.atoms
  pub taken : AllInAtoms (IsBelow above) h.taken

-- IsKept: the numbers are in order, all symbols are below the one that is kept, and the indices and marks are those of the
-- parts
pub record IsKept (h : Heap) (above : ℕ) (roots cells : List (Term × List Row)) (marks : List Row) : Type 0 where
  pub numbered : AreNumbered (numbers h.atoms) (numbers h.taken) h.next_atom
  pub bounded : IsBounded above h
  pub indexed : IsIndexed h.apart (rows_of (h.atoms ++ h.taken)) (rows_of h.atoms) roots cells marks

-- Kept: a store has what it is to keep
abbrev pub Kept : Store → Type 0
Kept s = IsKept (heap s) s.above s.index.roots s.index.cells s.index.marks

-- IsMade: both indices have just these rows
pub record IsMade (apart : List (Term × Term)) (rows : List Row) (roots cells : List (Term × List Row)) : Type 0 where
  pub listed : (r : Row) → In r rows → (t : Term) → row_begins t r ≡ true → In r (rows_at roots t)
  pub of_rows : AreOf rows roots
  pub cells_listed : (r : Row) → In r rows → (t : Term) → row_allocates apart t r ≡ true → In r (rows_at cells t)
  pub cells_of_rows : AreOf rows cells

-- MakesOf: what has just some rows gets these too
abbrev pub MakesOf : List (Term × Term) → List Row → (roots cells now more : List (Term × List Row)) → Type 0
MakesOf apart rows roots cells now more =
    (had : List Row) → IsMade apart had roots cells → IsMade apart (had ++ rows) now more

-- AreAllMarked: all of the rows are marked, and no others
abbrev pub AreAllMarked : List Row → List Row → Type 0
AreAllMarked rows marks = ((r : Row) → In r rows → HasMark marks r) × AreMarksOf rows marks

-- AreSameMarks: both mark the same rows
abbrev pub AreSameMarks : (marks marked : List Row) → Type 0
AreSameMarks marks marked = (r : Row) → is_marked marked r ≡ is_marked marks r
