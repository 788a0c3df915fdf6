-- The tests of a state: which terms surely differ, which are surely locations, and whether the state can
-- be at all.
-- Berdine, Calcagno, O'Hearn, "Symbolic Execution with Separation Logic" (2005), section 4, in this
-- project's own profile.
use Rattle.std.specs.Prelude.{ℕ, ◌==◌, Bool, true, false, ◌&&◌, ◌||◌, not, List, [], ◌∷◌, ◌++◌, Option, Some, None}
use Rattle.std.specs.List.{list_any}
use Rattle.std.specs.Ordering.{int_eq}
use Rattle.sf_sym.specs.declared.atom.Atom.{Atom}
use Rattle.sf_sym.specs.declared.atom.Atom.TheVariants.{Points, Ls, Tree, Dll}
use Rattle.sf_sym.specs.declared.atom.Numbered.{Numbered}
use Rattle.sf_sym.specs.State.{State}
use Rattle.sf_sym.specs.declared.term.Term.{Term}
use Rattle.sf_sym.specs.declared.term.Term.TheVariants.{Nil, Int, Sym}

-- whether two terms are one
abbrev pub same_term : Term → Term → Bool
same_term Nil Nil = true
same_term Nil (Int j) = false
same_term Nil (Sym n) = false
same_term (Int i) Nil = false
same_term (Int i) (Int j) = int_eq i j
same_term (Int i) (Sym n) = false
same_term (Sym m) Nil = false
same_term (Sym m) (Int j) = false
same_term (Sym m) (Sym n) = m == n

-- nil and the integers are constants
abbrev pub is_constant : Term → Bool
is_constant Nil = true
is_constant (Int i) = true
is_constant (Sym n) = false

-- whether the pair is of these two terms, in either order
abbrev pub is_pair : Term → Term → Term × Term → Bool
is_pair t u p = same_term p.0 t && same_term p.1 u || same_term p.0 u && same_term p.1 t

-- two terms differ at once: they are different constants, or one of the pairs that differ
abbrev pub differs_at_once : List (Term × Term) → Term → Term → Bool
differs_at_once apart t u =
    is_constant t && is_constant u && not (same_term t u) || list_any (is_pair t u) apart

-- the terms at which an atom begins; a doubly linked segment begins at its first and at its last cell
abbrev pub roots : Atom → List Term
roots (Points t fields) = t ∷ []
roots (Ls t u) = t ∷ []
roots (Tree t) = t ∷ []
roots (Dll v p l u) = v ∷ l ∷ []

-- the first of them
abbrev pub root : Atom → Term
root (Points t fields) = t
root (Ls t u) = t
root (Tree t) = t
root (Dll v p l u) = v

-- an atom begins at the term
abbrev pub begins : Term → Atom → Bool
begins t a = list_any (λ r. same_term r t) (roots a)

-- an atom has a cell at each of its roots: it is a cell, or a segment or a tree that isn't empty
abbrev pub has_cell : List (Term × Term) → Atom → Bool
has_cell apart (Points t fields) = true
has_cell apart (Ls t u) = differs_at_once apart t u
has_cell apart (Tree t) = differs_at_once apart t Nil
has_cell apart (Dll v p l u) = differs_at_once apart v u

-- an atom allocates a term: it has a cell there
abbrev pub allocates : List (Term × Term) → Term → Atom → Bool
allocates apart t a = begins t a && has_cell apart a

-- whether a number is the one that is left out
abbrev pub is_left_out : Option ℕ → ℕ → Bool
is_left_out None n = false
is_left_out (Some m) n = n == m

-- the atoms and the taken atoms
abbrev pub parts : State → List Numbered
parts s = s.atoms ++ s.taken

-- some atom or taken atom, other than the one that is left out, allocates the term
abbrev pub allocated : State → Term → Option ℕ → Bool
allocated s t except =
    list_any (λ a. not (is_left_out except a.number) && allocates s.apart t a.atom) (parts s)

-- two different atoms allocate the two terms
abbrev pub are_both_allocated : State → Term → Term → Bool
are_both_allocated s t u =
    list_any (λ a. allocates s.apart t a.atom && allocated s u (Some a.number)) (parts s)

-- two terms surely differ: at once, or as a constant and a location, or as the locations of two cells
abbrev pub differs : State → Term → Term → Bool
differs s t u =
    differs_at_once s.apart t u || is_constant t && allocated s u None || is_constant u
    && allocated s t None || are_both_allocated s t u

-- an atom has a cell at a constant
abbrev pub is_at_constant : List (Term × Term) → Atom → Bool
is_at_constant apart a = list_any is_constant (roots a) && has_cell apart a

-- an atom is the tree of an integer
abbrev pub is_integer_tree : Atom → Bool
is_integer_tree (Points t fields) = false
is_integer_tree (Ls t u) = false
is_integer_tree (Tree Nil) = false
is_integer_tree (Tree (Int i)) = true
is_integer_tree (Tree (Sym n)) = false
is_integer_tree (Dll v p l u) = false

-- no heap has the atom
abbrev pub is_impossible : List (Term × Term) → Atom → Bool
is_impossible apart a = is_at_constant apart a || is_integer_tree a

-- one of these atoms allocates the term
abbrev pub is_allocated_in : List (Term × Term) → List Numbered → Term → Bool
is_allocated_in apart atoms t = list_any (λ b. allocates apart t b.atom) atoms

-- two atoms of the list allocate one term
abbrev pub has_repeat : List (Term × Term) → List Numbered → Bool
has_repeat apart [] = false
has_repeat apart (a ∷ rest) =
    list_any (is_allocated_in apart rest) (roots a.atom) && has_cell apart a.atom
    || has_repeat apart rest

-- no store and heap have the state: a term would differ from itself, or a constant would be a location,
-- or an integer a tree,
-- or two cells would be one
abbrev pub is_absurd : State → Bool
is_absurd s =
    list_any (λ p. same_term p.0 p.1) s.apart || list_any (λ a. is_impossible s.apart a.atom) (parts s)
    || has_repeat s.apart (parts s)
