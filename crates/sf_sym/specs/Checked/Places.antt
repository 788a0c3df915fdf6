-- The place of a field among the fields of a cell.
-- An ordinary search of a list; no source.
use Rattle.std.specs.Prelude.{ℕ, suc, ◌==◌, Bool, false, cond, nat_lt, Option, Some, None, List, [], ◌∷◌}
use Rattle.sf_base.specs.declared.ids.FieldId.{FieldId}
use Rattle.sf_sym.specs.declared.term.Term.{Term}

-- how many of the fields come before that one, up to the first that doesn't
abbrev pub place_of : FieldId → List (FieldId × Term) → ℕ
place_of f [] = 0
place_of f (g ∷ gs) = cond (nat_lt g.0.0 f.0) (suc (place_of f gs)) 0

-- whether there is such a field, and it is that one
abbrev pub is_field : FieldId → Option (FieldId × Term) → Bool
is_field f None = false
is_field f (Some g) = g.0.0 == f.0
