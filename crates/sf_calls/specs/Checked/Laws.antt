-- The sets are least: closed under their rules, and contained in every family that is; and they are
-- there. And what a type keeps truncated follows from its truncation.
-- What an inductive definition states, after Tarski, "A lattice-theoretical fixpoint theorem" (1955).
-- Families are given by tests.
use Rattle.std.specs.Prelude.{◌≡◌, ◌<◌, Bool, IsTrue, Option, Some, None, length}
use Rattle.sf_base.specs.declared.ids.ProcId.{ProcId}
use Rattle.sf_base.specs.declared.ids.ResId.{ResId}
use Rattle.sf_base.specs.declared.ids.Var.{Var}
use Rattle.sf_core.specs.Machine.HasThroughout.{HasThroughout}
use Rattle.sf_core.specs.Program.Formed.{IsFormed}
use Rattle.sf_core.specs.Program.Syntax.{Block, Program}
use Rattle.sf_calls.specs.Assigned.{AreInOrderIn, Assigned}
use Rattle.sf_calls.specs.Changes.{changes_in}
use Rattle.sf_calls.specs.Conditions.{Calls, Enters, Mentions, Takes, Free, IsShared}
use Rattle.sf_calls.specs.declared.breach.Breach.{Breach}
use Rattle.sf_calls.specs.Breaks.{Breaks}
use Rattle.sf_calls.specs.FirstBreach.{FirstBreach, Conditions}
use Rattle.sf_calls.specs.Outside.{owner}
use Rattle.sf_calls.specs.Sets.{Sets, AreSetsOf, IsVarSet}

-- the rules of Takes, for a family of sets
pub record IsTakesClosed (p : Program) (T : ProcId → ResId → Type 0) : Type 0 where
  pub enters : (f : ProcId) (r : ResId) → Enters p r f → T f r
  pub calls : (f g : ProcId) (r : ResId) → Calls p None f g → T g r → T f r

-- the rules of Free, for a family of sets
pub record IsFreeClosed (p : Program) (T : ProcId → Var → Type 0) : Type 0 where
  pub mentions : (f : ProcId) (x : Var) → IsShared x → Mentions p x f → T f x
  pub calls : (f g : ProcId) (x : Var) → IsShared x → Calls p (owner x) f g → T g x → T f x

-- Takes is closed, and contained in every closed family
pub record TakesIsLeast : Type 0 where
  pub closed : (p : Program) → IsTakesClosed p (Takes p)
  pub least : (p : Program) (T : ProcId → ResId → Bool) → IsTakesClosed p (λ f r. IsTrue (T f r))
      → (f : ProcId) (r : ResId) → Takes p f r → IsTrue (T f r)

-- Free is closed, and contained in every closed family
pub record FreeIsLeast : Type 0 where
  pub closed : (p : Program) → IsFreeClosed p (Free p)
  pub least : (p : Program) (T : ProcId → Var → Bool) → IsFreeClosed p (λ f x. IsTrue (T f x))
      → (f : ProcId) (x : Var) → Free p f x → IsTrue (T f x)

-- a program that is in order has its sets
abbrev pub SetsExist : Type 0
SetsExist = (p : Program) → IsFormed p → (sets : Sets) × AreSetsOf p sets

-- a program has one first breach, or none
abbrev pub FirstBreachIsUnique : Type 0
FirstBreachIsUnique =
    (p : Program) (r q : Option (ProcId × Breach)) → FirstBreach p r → FirstBreach p q → r ≡ q

-- of a program that is in order: what comes first is broken, and no condition is broken exactly where
-- none comes first
pub record BreachesAreFound (p : Program) : Type 0 where
  pub found : (f : ProcId) (b : Breach) → FirstBreach p (Some (f, b)) → Breaks p f b
  pub kept : Conditions p → (f : ProcId) (b : Breach) → Breaks p f b → ⊥
  pub unbroken : ((f : ProcId) (b : Breach) → Breaks p f b → ⊥) → Conditions p

abbrev pub FirstBreachIsBroken : Type 0
FirstBreachIsBroken = (p : Program) → IsFormed p → BreachesAreFound p

-- that sets are the program's follows from its truncation
abbrev pub SetsFromTruncation : Type 0
SetsFromTruncation = (p : Program) (sets : Sets) → ∥ AreSetsOf p sets ∥₁ → AreSetsOf p sets

-- that no condition is broken follows from its truncation
abbrev pub ConditionsFromTruncation : Type 0
ConditionsFromTruncation = (p : Program) → ∥ Conditions p ∥₁ → Conditions p

-- of a program's sets, in one of its blocks, what the commands may change is what is assigned
abbrev pub ChangesAreAssigned : Type 0
ChangesAreAssigned = (p : Program) (sets : Sets) (b : Block) → AreSetsOf p sets → AreInOrderIn p b
    → IsVarSet (Assigned p b) (changes_in sets b)

-- what a procedure of a program that is in order holds is a resource of the program
abbrev pub HeldResourcesAreThere : Type 0
HeldResourcesAreThere = (p : Program) → IsFormed p → (f : ProcId) (r : ResId) → HasThroughout p f r
    → r.0 < length p.resources
