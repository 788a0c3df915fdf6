-- Resources: the variables of a resource.
-- O'Hearn, "Resources, Concurrency and Local Reasoning" (2007): a resource declares its variables.
use Rattle.std.specs.Prelude.{ℕ, suc, List, [], ◌∷◌}
use Rattle.std.specs.List.{slice_get}
use Rattle.std.specs.Option.{option_map, unwrap_or}
use Rattle.sf_base.specs.declared.ids.ResId.{ResId}
use Rattle.sf_base.specs.declared.ids.Var.{Var}
use Rattle.sf_base.specs.declared.ids.Var.TheVariants.{Shared}
use Rattle.sf_core.specs.Program.Syntax.{Program, Resource}

-- the variables of a resource, which has these names, from that number on
abbrev pub variables_from : ResId → ℕ → List (List ℕ) → List Var
variables_from r i [] = []
variables_from r i (name ∷ names) = Shared r i ∷ variables_from r (suc i) names

-- the variables of a resource of the program
abbrev pub variables_of : Program → ResId → List Var
variables_of p r =
    unwrap_or
    (option_map (λ (of : Resource). variables_from r 0 of.variables) (slice_get p.resources r.0)) []
