-- Normal: the states that have a witness in which each atom has a cell of its own or none.
-- Berdine, Calcagno, O'Hearn, "Symbolic Execution with Separation Logic" (2005), section 4: normal forms.
use Rattle.std.specs.Prelude.{◌≡◌, Bool, true, false, ◌||◌, not, cond, List, [], ◌∷◌}
use Rattle.std.specs.List.{AllByRecursion, IsDistinct, flat_map, list_all}
use Rattle.sf_sym.specs.declared.atom.Atom.{Atom}
use Rattle.sf_sym.specs.declared.atom.Atom.TheVariants.{Points, Ls, Tree, Dll}
use Rattle.sf_sym.specs.declared.atom.Numbered.{Numbered}
use Rattle.sf_sym.specs.declared.term.Term.{Term}
use Rattle.sf_sym.specs.Known.{is_nothing}
use Rattle.sf_sym.specs.State.{State}
use Rattle.sf_sym.specs.Tests.{is_absurd, is_constant, parts, same_term}

-- where an atom that isn't empty has its cells: at its root, and a doubly linked segment at its last cell too, which may
-- be the first
abbrev pub cell_terms : Atom → List Term
cell_terms (Points t fields) = t ∷ []
cell_terms (Ls t u) = t ∷ []
cell_terms (Tree t) = t ∷ []
cell_terms (Dll v p l u) = v ∷ cond (same_term l v) [] (l ∷ [])

-- where an atom has its cells: an empty segment or tree nowhere
abbrev pub roots : Atom → List Term
roots a = cond (is_nothing a) [] (cell_terms a)

-- an atom with cells doesn't end at one of them, as one cannot that isn't doubly linked
abbrev pub is_open : Atom → Bool
is_open (Points t fields) = true
is_open (Ls t u) = true
is_open (Tree t) = true
is_open (Dll v p l u) = is_nothing (Dll v p l u) || not (same_term v u || same_term l u)

-- where these atoms have their cells
abbrev pub all_roots : List Numbered → List Term
all_roots xs = flat_map (λ a. roots a.atom) xs

-- Normal: the state isn't absurd, and its atoms, taken ones among them, have their cells at symbols, no two at one, and
-- don't end there
pub record Normal (s : State) : Type 0 where
  pub possible : is_absurd s ≡ false
  pub symbols : AllByRecursion (λ t. is_constant t ≡ false) (all_roots (parts s))
  pub own : IsDistinct same_term (all_roots (parts s))
  pub ends : list_all (λ a. is_open a.atom) (parts s) ≡ true
