-- Empties: the numbers of the parts that are empty as they stand.
-- Ordinary: an index of a list by a test.
use Rattle.std.specs.Prelude.{ℕ, cond, List, [], ◌∷◌}
use Rattle.sf_sym.specs.declared.atom.Numbered.{Numbered}
use Rattle.sf_sym.specs.declared.outline.Row.{Row}
use Rattle.sf_sym.specs.Checked.Keeping.{is_empty, rows_of}

-- of those rows the numbers, in order
abbrev pub empty_numbers : List Row → List ℕ
empty_numbers [] = []
empty_numbers (r ∷ rows) = cond (is_empty r) (r.number ∷ empty_numbers rows) (empty_numbers rows)

-- of those atoms the numbers, in order
abbrev pub empties : List Numbered → List ℕ
empties xs = empty_numbers (rows_of xs)
