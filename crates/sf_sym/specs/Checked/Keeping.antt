-- Keeping: what a state keeps beside its atoms: their rows by the terms at which they begin and at which they have cells, and
-- marks of those that are still to be tested.
-- Ordinary: indices of a list, and a work list.
use Rattle.std.specs.Prelude.{◌≡◌, ◌⊎◌, ℕ, Bool, true, false, ◌&&◌, ◌||◌, not, cond, Option, Some, None, List, [], ◌∷◌, map, is_some}
use Rattle.std.specs.List.{list_any}
use Rattle.sf_sym.specs.declared.atom.Atom.{Atom}
use Rattle.sf_sym.specs.declared.atom.Atom.TheVariants.{Points, Ls, Tree, Dll}
use Rattle.sf_sym.specs.declared.atom.Numbered.{Numbered}
use Rattle.sf_sym.specs.declared.outline.Row.{Row}
use Rattle.sf_sym.specs.declared.term.Term.{Term}
use Rattle.sf_sym.specs.declared.term.Term.TheVariants.{Nil}
use Rattle.sf_sym.specs.Checked.Rows.{bare, is_marked, row_of, rows_at, same_row}
use Rattle.sf_sym.specs.Known.{forced_by, is_nothing}
use Rattle.sf_sym.specs.Tests.{allocates, begins, has_cell, is_constant, is_integer_tree, is_left_out, is_pair, root, roots, same_term}

-- it is among them
abbrev pub In : {A : Type 0} → A → List A → Type 0
In x [] = ⊥
In x (y ∷ ys) = (x ≡ y) ⊎ In x ys

-- the rows of atoms
abbrev pub rows_of : List Numbered → List Row
rows_of xs = map row_of xs

-- an atom has a cell where these two terms differ
abbrev pub joins : Term × Term → Atom → Bool
joins p (Points t fields) = false
joins p (Ls t u) = is_pair t u p
joins p (Tree t) = is_pair t Nil p
joins p (Dll v q l u) = is_pair v u p

-- where an atom begins at a term, the other term at which it begins, if there is one
abbrev pub other_root : Term → Atom → Option Term
other_root t (Points r fields) = None
other_root t (Ls r u) = None
other_root t (Tree r) = None
other_root t (Dll v p l u) = cond (same_term v l) None (Some (cond (same_term v t) l v))

-- a part has a cell once the two terms differ, and has none before
abbrev pub gets_cell : List (Term × Term) → Term × Term → Row → Bool
gets_cell apart p r = joins p (bare r.outline) && not (has_cell apart (bare r.outline))

-- the tests of a state, by the rows of its parts: a part begins at a term; it has a cell there; another one than that of a
-- number has a cell there; nothing of the part of that number is there
abbrev pub row_begins : Term → Row → Bool
row_begins t r = begins t (bare r.outline)

abbrev pub row_allocates : List (Term × Term) → Term → Row → Bool
row_allocates apart t r = allocates apart t (bare r.outline)

abbrev pub row_beside : List (Term × Term) → Term → Option ℕ → Row → Bool
row_beside apart t except r = not (is_left_out except r.number) && row_allocates apart t r

abbrev pub are_allocated : List (Term × Term) → List Row → Term → Option ℕ → Bool
are_allocated apart rows t except = list_any (row_beside apart t except) rows

abbrev pub is_closed : List (Term × Term) → List Row → ℕ → Term → Bool
is_closed apart rows n t = is_constant t || are_allocated apart rows t (Some n)

-- no heap has the part beside the others: it is the tree of an integer, or it has a cell at a constant or at a term at which
-- another one has a cell
abbrev pub is_hopeless : List (Term × Term) → List Row → Row → Bool
is_hopeless apart rows r =
    is_integer_tree (bare r.outline)
    || has_cell apart (bare r.outline) && list_any (is_closed apart rows r.number) (roots (bare r.outline))

-- a part can only be empty, though two terms aren't one yet
abbrev pub is_forced : List (Term × Term) → List Row → Row → Bool
is_forced apart rows r = is_some (forced_by (is_closed apart rows r.number (root (bare r.outline))) (bare r.outline))

-- it is empty as it stands
abbrev pub is_empty : Row → Bool
is_empty r = is_nothing (bare r.outline)

-- the index has only these rows, at terms where their atoms begin
abbrev pub AreOf : List Row → List (Term × List Row) → Type 0
AreOf rows index = (t : Term) (r : Row) → In r (rows_at index t) → In r rows × (row_begins t r ≡ true)

-- a row has a mark, or none
abbrev pub HasMark : List Row → Row → Type 0
HasMark marks r = is_marked marks r ≡ true

abbrev pub IsUnmarked : List Row → Row → Type 0
IsUnmarked marks r = is_marked marks r ≡ false

-- of the parts without a mark none is hopeless, and of the atoms none is forced
pub record IsQuiet (apart : List (Term × Term)) (rows atoms : List Row) (marks : List Row) : Type 0 where
  pub hopeful : (r : Row) → In r rows → IsUnmarked marks r → is_hopeless apart rows r ≡ false
  pub free : (r : Row) → In r atoms → IsUnmarked marks r → is_forced apart rows r ≡ false

-- each mark is one of the rows
abbrev pub AreMarksOf : List Row → List Row → Type 0
AreMarksOf rows marks = (r : Row) → HasMark marks r → In r rows

-- IsIndexed: both indices are of the rows and have what they are for, and what has no mark is quiet
pub record IsIndexed (apart : List (Term × Term)) (rows atoms : List Row) (roots cells : List (Term × List Row))
    (marks : List Row) : Type 0 where
  pub listed : (r : Row) → In r rows → (t : Term) → row_begins t r ≡ true → In r (rows_at roots t)
  pub of_rows : AreOf rows roots
  pub cells_listed : (r : Row) → In r rows → (t : Term) → row_allocates apart t r ≡ true → In r (rows_at cells t)
  pub cells_of_rows : AreOf rows cells
  pub marked : AreMarksOf rows marks
  pub quiet : IsQuiet apart rows atoms marks

-- all rows that are at a term in the one index are there in the other
abbrev pub Has : (old now : List (Term × List Row)) → Type 0
Has old now = (t : Term) (r : Row) → In r (rows_at old t) → In r (rows_at now t)

-- one row more, at the terms where its atom begins
pub record Enters (row : Row) (old now : List (Term × List Row)) : Type 0 where
  pub only : (t : Term) (r : Row) → In r (rows_at now t)
      → In r (rows_at old t) ⊎ ((r ≡ row) × (row_begins t row ≡ true))
  pub still : Has old now
  pub there : (t : Term) → row_begins t row ≡ true → In row (rows_at now t)

-- each row of the index was there, or is one of these at a term where its atom begins
abbrev pub EntersOf : List Row → (old now : List (Term × List Row)) → Type 0
EntersOf rows old now =
    (t : Term) (r : Row) → In r (rows_at now t) → In r (rows_at old t) ⊎ (In r rows × (row_begins t r ≡ true))

-- MayEnter: all that was there still is, and no more but this row, at terms where its atom begins
pub record MayEnter (row : Row) (old now : List (Term × List Row)) : Type 0 where
  pub only : (t : Term) (r : Row) → In r (rows_at now t)
      → In r (rows_at old t) ⊎ ((r ≡ row) × (row_begins t row ≡ true))
  pub still : Has old now

-- the row is in the index at each term where its atom begins
abbrev pub IsThere : List (Term × List Row) → Row → Type 0
IsThere index r = (t : Term) → row_begins t r ≡ true → In r (rows_at index t)

-- one row less, at the terms where its atom begins
pub record Leaves (row : Row) (old now : List (Term × List Row)) : Type 0 where
  pub only : (t : Term) (r : Row) → In r (rows_at now t)
      → In r (rows_at old t) × (row_begins t row ≡ true → r ≡ row → ⊥)
  pub others : (t : Term) (r : Row) → In r (rows_at old t) → (r ≡ row → ⊥) → In r (rows_at now t)

-- the same rows, as far as they have other numbers
pub record IsUndone (n : ℕ) (old now : List (Term × List Row)) : Type 0 where
  pub only : Has now old
  pub others : (t : Term) (r : Row) → In r (rows_at old t) → (r.number ≡ n → ⊥) → In r (rows_at now t)

-- all that have a mark in the one list have one in the other
abbrev pub StillMarked : (old now : List Row) → Type 0
StillMarked old now = (r : Row) → HasMark old r → HasMark now r

-- each mark was there, or is one of these rows
abbrev pub AreMarksWith : List Row → (old now : List Row) → Type 0
AreMarksWith rows old now = (r : Row) → HasMark now r → HasMark old r ⊎ In r rows

-- IsNoted: indices and marks are ready for one part more: its row is in both as far as it belongs there, and it and all that
-- begin where it has a cell are marked
pub record IsNoted (apart : List (Term × Term)) (rows : List Row) (roots cells : List (Term × List Row)) (marks : List Row)
    (row : Row) (now more : List (Term × List Row)) (marked : List Row) : Type 0 where
  pub enters : Enters row roots now
  pub cells_only : (t : Term) (r : Row) → In r (rows_at more t)
      → In r (rows_at cells t) ⊎ ((r ≡ row) × (row_begins t row ≡ true))
  pub cells_still : Has cells more
  pub marks_only : (r : Row) → HasMark marked r → In r rows ⊎ (r ≡ row)
  pub marks_still : StillMarked marks marked
  pub has_mark : HasMark marked row
  pub cell : has_cell apart (bare row.outline) ≡ true → (t : Term) → row_begins t row ≡ true
      → In row (rows_at more t) × ((r : Row) → In r (rows_at roots t) → HasMark marked r)

-- IsReady: the index of cells and the marks are ready for what has a cell once the two terms differ
abbrev pub IsReady : List (Term × Term) → List Row → (roots cells : List (Term × List Row)) → (marks : List Row)
    → (t u : Term) → Type 0
IsReady apart rows roots cells marks t u =
    (c : Row) → In c rows → joins (t, u) (bare c.outline) ≡ true → has_cell apart (bare c.outline) ≡ false
    → (v : Term) → row_begins v c ≡ true
    → In c (rows_at cells v) × ((r : Row) → In r (rows_at roots v) → HasMark marks r)

-- IsCovered: the row is in the index of cells wherever its atom begins, and all rows there are marked
abbrev pub IsCovered : (roots cells : List (Term × List Row)) → (marks : List Row) → Row → Type 0
IsCovered roots cells marks c =
    (t : Term) → row_begins t c ≡ true
    → In c (rows_at cells t) × ((r : Row) → In r (rows_at roots t) → HasMark marks r)

-- each row of the index was there, or is in that of roots, at a term where its atom begins
abbrev pub AreAlso : (roots old now : List (Term × List Row)) → Type 0
AreAlso roots old now = (t : Term) (r : Row) → In r (rows_at now t)
    → In r (rows_at old t) ⊎ (((u : Term) × In r (rows_at roots u)) × (row_begins t r ≡ true))

-- all rows that begin at the other term at which an atom does are marked
abbrev pub IsMarkedBeside : (roots : List (Term × List Row)) → (at : Term) → Row → (marks : List Row) → Type 0
IsMarkedBeside roots at row marks = (u : Term) → other_root at (bare row.outline) ≡ Some u
    → (r : Row) → In r (rows_at roots u) → HasMark marks r

-- each mark was there, or is of a row of the index of roots
abbrev pub AreMarksAlso : (roots : List (Term × List Row)) → (old now : List Row) → Type 0
AreMarksAlso roots old now = (r : Row) → HasMark now r → HasMark old r ⊎ ((t : Term) × In r (rows_at roots t))

-- RemainsIndexed: what both indices and the marks were kept for, they are kept for now
abbrev pub RemainsIndexed : (roots cells : List (Term × List Row)) → (marks : List Row)
    → (now more : List (Term × List Row)) → (marked : List Row) → Type 0
RemainsIndexed roots cells marks now more marked =
    (apart : List (Term × Term)) (rows atoms : List Row) → ((r : Row) → In r atoms → In r rows)
    → IsIndexed apart rows atoms roots cells marks → IsIndexed apart rows atoms now more marked

-- RemainsWithout: the same where no part has that number
abbrev pub RemainsWithout : ℕ → (roots cells : List (Term × List Row)) → (marks : List Row)
    → (now more : List (Term × List Row)) → (marked : List Row) → Type 0
RemainsWithout n roots cells marks now more marked =
    (apart : List (Term × Term)) (rows atoms : List Row) → ((r : Row) → In r atoms → In r rows)
    → ((r : Row) → In r rows → r.number ≡ n → ⊥)
    → IsIndexed apart rows atoms roots cells marks → IsIndexed apart rows atoms now more marked

-- GetsReadyFor: what was kept for some parts is ready for one more, of which this says whether it has a cell
abbrev pub GetsReadyFor : (row : Row) → (is_cell : Bool) → (roots cells : List (Term × List Row)) → (marks : List Row)
    → (now more : List (Term × List Row)) → (marked : List Row) → Type 0
GetsReadyFor row is_cell roots cells marks now more marked =
    (apart : List (Term × Term)) (rows atoms : List Row) → is_cell ≡ has_cell apart (bare row.outline)
    → IsIndexed apart rows atoms roots cells marks → IsNoted apart rows roots cells marks row now more marked

-- GetsReady: what was kept for some parts is ready for what has a cell once the two terms differ
abbrev pub GetsReady : List (Term × Term) → (t u : Term) → (roots cells : List (Term × List Row)) → (marks : List Row)
    → (now more : List (Term × List Row)) → (marked : List Row) → Type 0
GetsReady apart t u roots cells marks now more marked =
    (rows atoms : List Row) → IsIndexed apart rows atoms roots cells marks → IsReady apart rows now more marked t u

-- Forgets: the row isn't there any more, nor a mark of it
pub record Forgets (row : Row) (roots cells : List (Term × List Row)) (marks : List Row)
    (now more : List (Term × List Row)) (marked : List Row) : Type 0 where
  pub roots_leave : Leaves row roots now
  pub cells_leave : Leaves row cells more
  pub unmarks : (r : Row) → is_marked marked r ≡ (not (same_row r row) && is_marked marks r)
