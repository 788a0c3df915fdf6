-- Sets: the pairs of a list as a set.
-- Ordinary: an index of a list.
use Rattle.std.specs.Prelude.{◌≡◌, ◌&&◌, Bool, List}
use Rattle.std.specs.List.{list_any}
use Rattle.sf_sym.specs.declared.term.Term.{Term}
use Rattle.sf_sym.specs.Tests.{same_term}

-- the pair is of these terms, in this order
abbrev pub is_ordered : Term → Term → Term × Term → Bool
is_ordered t u p = same_term p.0 t && same_term p.1 u

-- AreSame: both have the same pairs
abbrev pub AreSame : (list set : List (Term × Term)) → Type 0
AreSame list set = (t u : Term) → list_any (is_ordered t u) set ≡ list_any (is_ordered t u) list
