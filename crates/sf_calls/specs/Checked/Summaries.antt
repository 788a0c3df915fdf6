-- Summaries: what occurs in each procedure's text, and what is read off it.
-- Ordinary: a set as the list of its members; a test of a list by cases on it.
use Rattle.std.specs.Prelude.{◌≡◌, ◌⊎◌, ◌↔◌, ◌==◌, Bool, false, ◌||◌, List, [], ◌∷◌, Option, Some, None, Contains}
use Rattle.std.specs.List.{AllZip}
use Rattle.sf_base.specs.declared.ids.ProcId.{ProcId}
use Rattle.sf_base.specs.declared.ids.ResId.{ResId}
use Rattle.sf_base.specs.declared.ids.Var.{Var}
use Rattle.sf_base.specs.declared.ids.Var.TheVariants.{Own, Shared}
use Rattle.sf_core.specs.Assertions.Occurs.{VarOccursIn}
use Rattle.sf_core.specs.Program.Init.{is_init}
use Rattle.sf_core.specs.Program.Syntax.{Procedure, Program}
use Rattle.sf_calls.specs.declared.summary.Summary.{Summary}
use Rattle.sf_calls.specs.Conditions.{IsShared}
use Rattle.sf_calls.specs.Checked.Listed.{is_entered}
use Rattle.sf_calls.specs.Outside.{OccursOutside, CallsIn, EntersIn}
use Rattle.sf_calls.specs.Sets.{IsVarSet}
use Rattle.sf_base.specs.Variables.{same_var}

-- what occurs in the procedure's text, and whether it sets the resources up. Where no call is inside a region of r,
-- each is outside
pub record IsSummaryOf (h : Procedure) (t : Summary) : Type 0 where
  pub sets_up : t.sets_up ≡ is_init h
  pub in_contract : IsVarSet (λ x. IsShared x × (VarOccursIn h.pre.level x ⊎ VarOccursIn h.post.level x))
      t.in_contract
  pub mentioned : IsVarSet
      (λ x. IsShared x × (VarOccursIn h.pre.level x
      ⊎ (VarOccursIn h.post.level x ⊎ OccursOutside x h.body))) t.mentioned
  pub entered : (r : ResId) → Contains t.entered.items r ↔ EntersIn r h.body
  pub with_calls : (r : ResId) → (Contains t.with_calls.items r → ⊥) → (g : ProcId) → CallsIn None g h.body
      → CallsIn (Some r) g h.body

-- for each procedure what occurs in its text
abbrev pub AreSummaries : Program → List Summary → Type 0
AreSummaries p summaries = AllZip IsSummaryOf p.procedures summaries

-- the resource has a region with a call inside
abbrev pub has_calls_inside : ResId → List Summary → Bool
has_calls_inside r [] = false
has_calls_inside r (t ∷ ts) = is_entered r t.with_calls.items || has_calls_inside r ts

-- the same of the resource that is left out, if any
abbrev pub left_out_has_calls_inside : Option ResId → List Summary → Bool
left_out_has_calls_inside None ts = false
left_out_has_calls_inside (Some r) ts = has_calls_inside r ts

-- the list has a variable of the resource
abbrev pub speaks_of : ResId → List Var → Bool
speaks_of r [] = false
speaks_of r (Own n ∷ xs) = speaks_of r xs
speaks_of r (Shared q i ∷ xs) = (q.0 == r.0) || speaks_of r xs

-- the list has the variable
abbrev pub has : Var → List Var → Bool
has x [] = false
has x (y ∷ ys) = same_var y x || has x ys
