-- Which atoms of a state can only be empty, and which of them is the first, having the lowest number.
-- Berdine, Calcagno, O'Hearn, "Symbolic Execution with Separation Logic" (2005), section 4: normalization.
use Rattle.std.specs.Prelude.{◌≡◌, ◌≤◌, ℕ, Bool, true, false, Contains, ◌&&◌, ◌||◌, not, cond, Option, Some, None, List, [], ◌∷◌}
use Rattle.std.specs.Option.{option_map}
use Rattle.sf_sym.specs.declared.atom.Atom.{Atom}
use Rattle.sf_sym.specs.declared.atom.Atom.TheVariants.{Points, Ls, Tree, Dll}
use Rattle.sf_sym.specs.declared.atom.Numbered.{Numbered}
use Rattle.sf_sym.specs.declared.term.Term.{Term}
use Rattle.sf_sym.specs.declared.term.Term.TheVariants.{Nil}
use Rattle.sf_sym.specs.State.{State}
use Rattle.sf_sym.specs.Tests.{allocated, is_constant, root, same_term}

-- an empty segment or tree: from a term to itself, or from nil; of a doubly linked one the last cell is what
-- stands before it
abbrev pub is_nothing : Atom → Bool
is_nothing (Points t fields) = false
is_nothing (Ls t u) = same_term t u
is_nothing (Tree t) = same_term t Nil
is_nothing (Dll v p l u) = same_term v u && same_term p l

-- the ends of a segment or a tree: its root, and where it ends
abbrev pub ends : Atom → Option (Term × Term)
ends (Points t fields) = None
ends (Ls t u) = Some (t, u)
ends (Tree t) = Some (t, Nil)
ends (Dll v p l u) = Some (v, u)

-- the term is no cell of atom a: it is a constant, or a cell of another atom
abbrev pub is_elsewhere : State → (a : ℕ) → Term → Bool
is_elsewhere s a t = is_constant t || allocated s t (Some a)

-- two terms of a doubly linked segment: where it ends where it begins, its last cell is what stands before it;
-- else, where its root is elsewhere, its ends are the same
abbrev pub forced_double : (elsewhere : Bool) → (v p l u : Term) → Option (Term × Term)
forced_double elsewhere v p l u =
    cond (same_term v u) (cond (same_term p l) None (Some (p, l))) (cond elsewhere (Some (v, u)) None)

-- two terms that aren't one yet, but are the same since the atom can only be empty: where its root
-- is elsewhere, its ends are the same
abbrev pub forced_by : (elsewhere : Bool) → Atom → Option (Term × Term)
forced_by elsewhere (Points t fields) = None
forced_by elsewhere (Ls t u) = cond (not (same_term t u) && elsewhere) (Some (t, u)) None
forced_by elsewhere (Tree t) = cond (not (same_term t Nil) && elsewhere) (Some (t, Nil)) None
forced_by elsewhere (Dll v p l u) = forced_double elsewhere v p l u

-- such terms of the atom of that number
abbrev pub forced_pair : State → (a : ℕ) → Atom → Option (Term × Term)
forced_pair s a x = forced_by (is_elsewhere s a (root x)) x

-- the number of the first atom that is nothing
abbrev pub first_nothing : List Numbered → Option ℕ
first_nothing [] = None
first_nothing (a ∷ rest) = cond (is_nothing a.atom) (Some a.number) (first_nothing rest)

-- the first of two options that is there
abbrev pub or_else : {X : Type 0} → Option X → Option X → Option X
or_else (Some x) y = Some x
or_else None y = y

-- the number of the first atom that is forced, and the two terms
abbrev pub first_forced : State → List Numbered → Option (ℕ × Term × Term)
first_forced s [] = None
first_forced s (a ∷ rest) =
    or_else (option_map (λ e. (a.number, e.0, e.1)) (forced_pair s a.number a.atom)) (first_forced s rest)

-- IsLowest: that is the lowest number of an atom that passes the test, and None exactly where none passes it
abbrev pub IsLowest : (Numbered → Bool) → List Numbered → Option ℕ → Type 0
IsLowest test atoms (Some n) =
    ((a : Numbered) × Contains atoms a × (a.number ≡ n) × (test a ≡ true))
    × ((a : Numbered) → Contains atoms a → test a ≡ true → n ≤ a.number)
IsLowest test atoms None = (a : Numbered) → Contains atoms a → test a ≡ false
