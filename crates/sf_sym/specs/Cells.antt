-- The atoms of a state: how one is found by its number, written, handed over, and how one more comes.
-- Berdine, Calcagno, O'Hearn, "Symbolic Execution with Separation Logic" (2005), section 4.
use Rattle.std.specs.Prelude.{ℕ, ◌+◌, ◌==◌, cond, Option, Some, None, List, [], ◌∷◌, ◌++◌}
use Rattle.std.specs.Option.{option_map}
use Rattle.sf_base.specs.declared.ids.FieldId.{FieldId}
use Rattle.sf_sym.specs.declared.atom.Atom.{Atom}
use Rattle.sf_sym.specs.declared.atom.Atom.TheVariants.{Points, Ls, Tree, Dll}
use Rattle.sf_sym.specs.declared.atom.Numbered.{Numbered}
use Rattle.sf_sym.specs.declared.term.Term.{Term}
use Rattle.sf_sym.specs.declared.term.Term.TheVariants.{Nil, Int, Sym}
use Rattle.sf_sym.specs.Fields.{put_term}
use Rattle.sf_sym.specs.State.{State}
use Rattle.sf_sym.specs.Tests.{same_term}

-- the fields of an atom that is a cell at that term
abbrev pub fields_at : Atom → Term → Option (List (FieldId × Term))
fields_at (Points root fields) t = cond (same_term root t) (Some fields) None
fields_at (Ls u v) t = None
fields_at (Tree u) t = None
fields_at (Dll v p l u) t = None

-- the fields of the atom of that number, where it is a cell at that term
abbrev pub cell_at : List Numbered → ℕ → Term → Option (List (FieldId × Term))
cell_at [] a t = None
cell_at (x ∷ xs) a t = cond (x.number == a) (fields_at x.atom t) (cell_at xs a t)

-- the atoms, that of the number being this cell
abbrev pub with_fields : List Numbered → ℕ → Term → List (FieldId × Term) → List Numbered
with_fields [] a root fields = []
with_fields (x ∷ xs) a root fields =
    cond (x.number == a) (record { number = a; atom = Points root fields } ∷ xs)
    (x ∷ with_fields xs a root fields)

-- the atom of that number
abbrev pub atom_at : List Numbered → ℕ → Option Atom
atom_at [] a = None
atom_at (x ∷ xs) a = cond (x.number == a) (Some x.atom) (atom_at xs a)

-- the atoms without that of the number
abbrev pub without : List Numbered → ℕ → List Numbered
without [] a = []
without (x ∷ xs) a = cond (x.number == a) xs (x ∷ without xs a)

-- the symbol of a cell differs from nil
abbrev pub apart_from_nil : Term → List (Term × Term)
apart_from_nil Nil = []
apart_from_nil (Int i) = []
apart_from_nil (Sym n) = (Sym n, Nil) ∷ []

-- the state with one more cell
abbrev pub with_cell : State → Term → List (FieldId × Term) → State
with_cell s root fields = record s {
  apart = s.apart ++ apart_from_nil root;
  atoms = s.atoms ++ (record { number = s.next_atom; atom = Points root fields } ∷ []);
  next_atom = s.next_atom + 1;
}

-- a field of a cell is written
abbrev pub state_after_write : State → (root : Term) → FieldId → Term → (atom : ℕ) → Option State
state_after_write s root f u a =
    option_map (λ fields. record s { atoms = with_fields s.atoms a root (put_term f u fields) })
    (cell_at s.atoms a root)

-- the cell of that number, with these fields, goes from the atoms to the taken ones
abbrev pub after_hand_over : State → (root : Term) → List (FieldId × Term) → (atom : ℕ) → State
after_hand_over s root fields a = record s {
  atoms = without s.atoms a;
  taken = s.taken
      ++ (record { number = a; atom = Points root fields } ∷ []);
}

-- that atom goes to the taken ones
abbrev pub handed : State → (a : ℕ) → Atom → State
handed s a x = record s {
  atoms = without s.atoms a;
  taken = s.taken ++ (record { number = a; atom = x } ∷ []);
}

-- the state with one more segment or tree, which has the next number
abbrev pub with_atom : Atom → State → State
with_atom x s = record s {
  atoms = s.atoms ++ (record { number = s.next_atom; atom = x } ∷ []);
  next_atom = s.next_atom + 1;
}
