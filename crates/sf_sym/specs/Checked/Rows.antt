-- Rows: what a state keeps beside its atoms, so that its tests needn't walk over them: outlines of atoms by the terms at
-- which these begin, and by the terms at which they have cells.
-- Ordinary: an index of a list by a key.
use Rattle.std.specs.Prelude.{◌≡◌, Bool, false, ◌&&◌, ◌||◌, cond, nat_eq, not, List, [], ◌∷◌}
use Rattle.std.specs.List.{list_any}
use Rattle.sf_sym.specs.declared.atom.Atom.{Atom}
use Rattle.sf_sym.specs.declared.atom.Atom.TheVariants.{Points, Ls, Tree, Dll}
use Rattle.sf_sym.specs.declared.atom.Numbered.{Numbered}
use Rattle.sf_sym.specs.declared.outline.Outline.{Outline}
use Rattle.sf_sym.specs.declared.outline.Outline.TheVariants.{Cell, Segment, Tree as Wood, Double}
use Rattle.sf_sym.specs.declared.outline.Row.{Row}
use Rattle.sf_sym.specs.declared.term.Term.{Term}
use Rattle.sf_sym.specs.Tests.{same_term}

-- the outline of an atom
abbrev pub outline : Atom → Outline
outline (Points t fields) = Cell t
outline (Ls t u) = Segment t u
outline (Tree t) = Wood t
outline (Dll v p l u) = Double v p l u

-- an atom of that outline, of which no field is known
abbrev pub bare : Outline → Atom
bare (Cell t) = Points t []
bare (Segment t u) = Ls t u
bare (Wood t) = Tree t
bare (Double v p l u) = Dll v p l u

-- the outline of an atom has the term
abbrev pub has_term : Term → Atom → Bool
has_term s (Points t fields) = same_term t s
has_term s (Ls t u) = same_term t s || same_term u s
has_term s (Tree t) = same_term t s
has_term s (Dll v p l u) = same_term v s || same_term p s || same_term l s || same_term u s

-- the row of an atom
abbrev pub row_of : Numbered → Row
row_of a = record { number = a.number; outline = outline a.atom }

-- the rows at a term
abbrev pub rows_at : List (Term × List Row) → Term → List Row
rows_at [] t = []
rows_at (e ∷ es) t = cond (same_term t e.0) e.1 (rows_at es t)

-- whether two outlines are one
abbrev pub same_outline : Outline → Outline → Bool
same_outline (Cell t) (Cell u) = same_term t u
same_outline (Cell t) (Segment u v) = false
same_outline (Cell t) (Wood u) = false
same_outline (Cell t) (Double v p l u) = false
same_outline (Segment t u) (Cell v) = false
same_outline (Segment t u) (Segment v w) = same_term t v && same_term u w
same_outline (Segment t u) (Wood v) = false
same_outline (Segment t u) (Double v p l w) = false
same_outline (Wood t) (Cell u) = false
same_outline (Wood t) (Segment u v) = false
same_outline (Wood t) (Wood u) = same_term t u
same_outline (Wood t) (Double v p l u) = false
same_outline (Double v p l u) (Cell t) = false
same_outline (Double v p l u) (Segment t w) = false
same_outline (Double v p l u) (Wood t) = false
same_outline (Double v p l u) (Double w q m x) =
    same_term v w && (same_term p q && (same_term l m && same_term u x))

-- whether two rows are one
abbrev pub same_row : Row → Row → Bool
same_row r s = nat_eq r.number s.number && same_outline r.outline s.outline

-- whether the row is among the marks
abbrev pub is_marked : List Row → Row → Bool
is_marked marks r = list_any (same_row r) marks

-- a row comes to those at a term
abbrev pub IsPut : Term → Row → (old now : List (Term × List Row)) → Type 0
IsPut t row old now = (u : Term) (r : Row)
    → is_marked (rows_at now u) r ≡ (same_term u t && same_row r row || is_marked (rows_at old u) r)

-- a row goes from those at a term
abbrev pub IsOut : Term → Row → (old now : List (Term × List Row)) → Type 0
IsOut t row old now = (u : Term) (r : Row)
    → is_marked (rows_at now u) r ≡ (not (same_term u t && same_row r row) && is_marked (rows_at old u) r)
