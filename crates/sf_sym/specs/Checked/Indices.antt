-- The index of an atom by its number.
-- An ordinary search of a list; no source.
use Rattle.std.specs.Prelude.{ℕ, suc, ◌==◌, cond, Option, Some, None, List, [], ◌∷◌}
use Rattle.sf_sym.specs.declared.atom.Numbered.{Numbered}

-- the index of the first atom of that number, where they are counted from i on
abbrev pub index_from : (i : ℕ) → List Numbered → (number : ℕ) → Option ℕ
index_from i [] a = None
index_from i (x ∷ xs) a = cond (x.number == a) (Some i) (index_from (suc i) xs a)
