-- A program breaks no condition or has one first fault, and not both.
use Rattle.std.proofs.Common.{◌≡◌, ◌∙◌, ℕ, List, Some, None, slice_get, ap, sym, subst}
use Rattle.std.proofs.lemmas.Option.{none-some, same_Some}
use Rattle.sf_base.specs.declared.ids.ProcId.{ProcId}
use Rattle.sf_base.specs.declared.ids.Var.{Var}
use Rattle.sf_base.specs.declared.ids.Var.TheVariants.{Own, Shared}
use Rattle.sf_core.specs.Program.Syntax.{Procedure, Program, Resource}
use Rattle.sf_calls.specs.declared.breach.Breach.{Breach}
use Rattle.sf_calls.specs.declared.breach.Breach.TheVariants.{NotHeld, Reentered, SameReference, ReferenceIsFree, ParallelShares}
use Rattle.sf_calls.specs.FirstBreach.{Conditions}
use Rattle.sf_calls.specs.Checked.Lemmas.OneBreach.{one_breach}
use Rattle.sf_vars.specs.declared.fault.VarFault.{VarFault}
use Rattle.sf_vars.specs.Faults.{IsVariableName, IsBreachName, IsFirstFault, told_by}

variable_name-once : (p : Program) (f : ProcId) (x : Var) (m n : List ℕ) → IsVariableName p f x m
    → IsVariableName p f x n → m ≡ n
variable_name-once p f (Own k) m n (g, at, is) (h, there, named) =
    let same : g ≡ h = same_Some g h (sym at ∙ there) in
    same_Some m n (sym is ∙ ap (λ (z : Procedure). slice_get z.names k) same ∙ named)
variable_name-once p f (Shared r i) m n (g, at, is) (h, there, named) =
    let same : g ≡ h = same_Some g h (sym at ∙ there) in
    same_Some m n (sym is ∙ ap (λ (z : Resource). slice_get z.variables i) same ∙ named)

breach_name-once : (p : Program) (f : ProcId) (b : Breach) (m n : List ℕ) → IsBreachName p f b m
    → IsBreachName p f b n → m ≡ n
breach_name-once p f (NotHeld place x) m n h k = variable_name-once p f x m n h k
breach_name-once p f (Reentered place r) m n (g, at, is) (h, there, named) =
    let same : g ≡ h = same_Some g h (sym at ∙ there) in
    sym is ∙ ap (λ (z : Resource). z.name) same ∙ named
breach_name-once p f (SameReference place x) m n h k = variable_name-once p f x m n h k
breach_name-once p f (ReferenceIsFree place x) m n h k = variable_name-once p f x m n h k
breach_name-once p f (ParallelShares place x) m n h k = variable_name-once p f x m n h k

-- a program has one first fault at most
pub fault-once : (p : Program) (e d : VarFault) → IsFirstFault p e → IsFirstFault p d → e ≡ d
fault-once p e d h k =
    let same : (h.procedure, h.breach) ≡ (k.procedure, k.breach) =
    same_Some (h.procedure, h.breach) (k.procedure, k.breach)
    (one_breach p (Some (h.procedure, h.breach)) (Some (k.procedure, k.breach)) h.first k.first) in
    let named : IsBreachName p k.procedure k.breach h.name =
    subst (λ (z : ProcId × Breach). IsBreachName p z.0 z.1 h.name) same h.named in
    h.told ∙ ap (λ (z : ProcId × Breach). told_by z.1 h.name) same
    ∙ ap (told_by k.breach) (breach_name-once p k.procedure k.breach h.name k.name named k.named)
    ∙ sym k.told

-- and none where no condition is broken
pub conditions-apart : (p : Program) (e : VarFault) → Conditions p → IsFirstFault p e → ⊥
conditions-apart p e c h =
    none-some (h.procedure, h.breach) (one_breach p None (Some (h.procedure, h.breach)) c h.first)
