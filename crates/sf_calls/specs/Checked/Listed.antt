-- What occurs in commands and assertions, as lists in text order: variables of resources outside the
-- regions of their resources, regions, and the resources around calls.
-- Ordinary: each relation has the list of what it holds of.
use Rattle.std.specs.Prelude.{◌==◌, Bool, true, false, cond, ◌||◌, List, [], ◌∷◌, ◌++◌}
use Rattle.std.specs.List.{flat_map}
use Rattle.sf_base.specs.declared.ids.ResId.{ResId}
use Rattle.sf_base.specs.declared.ids.Var.{Var}
use Rattle.sf_base.specs.declared.ids.Var.TheVariants.{Own, Shared}
use Rattle.sf_core.specs.declared.command.Expr.{Expr}
use Rattle.sf_core.specs.declared.command.Occurrence.{Occurrence}
use Rattle.sf_core.specs.Program.Heads.{Site, head_calls, head_regions, level_occurrences, occurrences_at}
use Rattle.sf_core.specs.Program.Syntax.{Call, Level}

-- the resource is one of those
abbrev pub is_entered : ResId → List ResId → Bool
is_entered r [] = false
is_entered r (q ∷ qs) = (q.0 == r.0) || is_entered r qs

-- the variable, if it is one of a resource that is not entered
abbrev pub kept : List ResId → Var → List Var
kept es (Own n) = []
kept es (Shared r i) = cond (is_entered r es) [] (Shared r i ∷ [])

-- those of the variables that occur there
abbrev pub kept_of : List ResId → List Occurrence → List Var
kept_of es = flat_map (λ y. kept es y.var)

-- those in two levels
abbrev pub shared_in_levels : (a b : Level Expr) → List Var
shared_in_levels a b = kept_of [] (level_occurrences a ++ level_occurrences b)

-- those in a command itself and in its calls
abbrev pub shared_at : Site → List Var
shared_at s = kept_of (head_regions s.command ++ s.entered) (occurrences_at s.command)

-- those at all of these sites
abbrev pub shared_in : List Site → List Var
shared_in = flat_map shared_at

-- the resources of the regions
abbrev pub entered_in : List Site → List ResId
entered_in = flat_map (λ s. head_regions s.command)

-- there is a call
abbrev pub any_call : List Call → Bool
any_call [] = false
any_call (c ∷ cs) = true

-- the resources of the regions around calls
abbrev pub with_calls_in : List Site → List ResId
with_calls_in = flat_map (λ s. cond (any_call (head_calls s.command)) s.entered [])
