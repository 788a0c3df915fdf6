-- Whether two resources are one of some pairs, as a test.
-- Ordinary: a search of a list.
use Rattle.std.specs.Prelude.{◌==◌, ◌&&◌, ◌||◌, Bool, false, List, [], ◌∷◌}
use Rattle.sf_base.specs.declared.ids.ResId.{ResId}

-- the two are one of the pairs
abbrev pub has_pair : ResId → ResId → List (ResId × ResId) → Bool
has_pair r s [] = false
has_pair r s (e ∷ es) = ((e.0.0 == r.0) && (e.1.0 == s.0)) || has_pair r s es
