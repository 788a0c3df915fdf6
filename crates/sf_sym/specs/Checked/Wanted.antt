-- Wanted: what the tests of a store look for among the rows of its parts.
-- Ordinary: a search in an index, and in a work list.
use Rattle.std.specs.Prelude.{nat_lt, Bool, ◌&&◌, ◌||◌, cond, Option, Some, None, List, [], ◌∷◌, ◌++◌, is_some}
use Rattle.std.specs.List.{list_any}
use Rattle.sf_sym.specs.declared.found.Wanted.{Wanted}
use Rattle.sf_sym.specs.declared.found.Wanted.TheVariants.{Forced, At}
use Rattle.sf_sym.specs.declared.outline.Row.{Row}
use Rattle.sf_sym.specs.declared.store.Store.{Store}
use Rattle.sf_sym.specs.declared.term.Term.{Term}
use Rattle.sf_sym.specs.Cells.{atom_at}
use Rattle.sf_sym.specs.Checked.Keeping.{are_allocated, is_forced, is_hopeless, row_allocates, rows_of}
use Rattle.sf_sym.specs.Checked.Rows.{bare}
use Rattle.sf_sym.specs.Checked.Stores.{heap, state_in}
use Rattle.sf_sym.specs.Kinds.{is_kind}
use Rattle.sf_sym.specs.State.{State}

-- what a store knows, as a state without variables
abbrev pub known : Store → State
known s = state_in (record { tl = None; pv = None; l = None; r = None }) [] 0 (heap s)

-- the rows of its parts
abbrev pub all_rows : Store → List Row
all_rows s = rows_of (s.atoms ++ s.taken.items)

-- a part has a cell at the first term, and another one at the second
abbrev pub is_first : Store → (t u : Term) → Row → Bool
is_first s t u r = row_allocates s.apart t r && are_allocated s.apart (all_rows s) u (Some r.number)

abbrev pub are_first : Store → (t u : Term) → Bool
are_first s t u = list_any (is_first s t u) (all_rows s)

-- a part is what is looked for
abbrev pub fits : Store → Wanted → Row → Bool
fits s Forced r = is_forced s.apart (all_rows s) r
fits s (At t kind) r = is_kind kind t (bare r.outline)

-- and it is one of the atoms
abbrev pub is_wanted : Store → Wanted → Row → Bool
is_wanted s wanted r = fits s wanted r && is_some (atom_at s.atoms r.number)

-- the tests find something of a part
abbrev pub is_found : Store → Row → Bool
is_found s r = is_hopeless s.apart (all_rows s) r || is_wanted s Forced r

-- the row of the lower number, of two of which the first may be there
abbrev pub lower : Option Row → Row → Option Row
lower None r = Some r
lower (Some q) r = cond (nat_lt r.number q.number) (Some r) (Some q)

-- the row of the lowest number that passes, of these and the best so far
abbrev pub lowest_of : (Row → Bool) → Option Row → List Row → Option Row
lowest_of test best [] = best
lowest_of test best (r ∷ rows) = lowest_of test (cond (test r) (lower best r) best) rows
