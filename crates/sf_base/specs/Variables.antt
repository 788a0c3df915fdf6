-- Variables: the test whether two are one.
-- Ordinary: variables by number.
use Rattle.std.specs.Prelude.{◌==◌, Bool, false, ◌&&◌}
use Rattle.sf_base.specs.declared.ids.Var.{Var}
use Rattle.sf_base.specs.declared.ids.Var.TheVariants.{Own, Shared}

-- whether two variables are one
abbrev pub same_var : Var → Var → Bool
same_var (Own i) (Own j) = i == j
same_var (Shared r i) (Shared s j) = (r.0 == s.0) && (i == j)
same_var (Own i) (Shared s j) = false
same_var (Shared r i) (Own j) = false
