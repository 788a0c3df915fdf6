-- Invariant: how a configuration is owned: by a tree of tasks, each a stack of frames, and by free resources.
-- After Vafeiadis (2011), with procedures and nested parallel calls.
use Rattle.std.specs.Prelude.{◌≡◌, ◌≢◌, ℕ, suc, List, [], ◌∷◌, Option, Some, None, true, false}
use Rattle.sf_base.specs.declared.ids.ResId.{ResId}
use Rattle.sf_base.specs.declared.value.Value.{Value}
use Rattle.sf_base.specs.HeapStore.{Slot, shared, own}
use Rattle.sf_core.specs.Machine.Config.{Item, Frame, Task, runs, waits, Path, Config}
use Rattle.sf_core.specs.Program.Init.{sets_up}
use Rattle.sf_core.specs.Program.Syntax.{Program, Resource}
use Rattle.sf_safe.specs.Checked.Own.{Own, Parts, nothing, everything, ◌⋆◌}
use Rattle.sf_safe.specs.Checked.Contract.{Known, Returned, FreeShare}
use Rattle.sf_safe.specs.Checked.Safe.{Safe}

-- the frame with those values at its start
abbrev pub known : Frame → (ℕ → Value) → Known
known f values = record { fixed = f.fixed; values = values }

-- the share of a suspended caller: with whatever the callee gives back beside it the frame is safe
abbrev pub AwaitsReturn : Program → ℕ → (callee caller : Known) → List Item → Own → Type 0
AwaitsReturn p n callee caller todo kept = (back after : Own) → Returned p callee back → Parts after back kept
    → Safe p n caller todo after

-- the share of a parent that waits at a fork: with whatever its two children give back it is safe
abbrev pub AwaitsChildren : Program → ℕ → (left right parent : Known) → List Item → Own → Type 0
AwaitsChildren p n left right parent todo kept = (one two back after : Own) → Returned p left one
    → Returned p right two → Parts back one two → Parts after back kept → Safe p n parent todo after

-- the shares of the callers below a frame; the lowest frame of the task is the one whose end the task owes
abbrev pub Callers : Program → ℕ → (callee : Known) → List Frame → (owed : Known) → Own → Type 0
Callers p n callee [] owed w = (callee ≡ owed) × (w ≡ nothing)
Callers p n callee (f ∷ below) owed w = (values : ℕ → Value)
    × (AwaitsReturn p n callee (known f values) f.todo ⋆ Callers p n (known f values) below owed) w

-- the shares of a task that runs: its innermost frame is safe, and its callers wait; a task that has ended
-- has the share that it gives back
abbrev pub Running : Program → ℕ → (owed : Known) → List Frame → Own → Type 0
Running p n owed [] w = Returned p owed w
Running p n owed (f ∷ below) w = (values : ℕ → Value)
    × (Safe p n (known f values) f.todo ⋆ Callers p n (known f values) below owed) w

-- the shares of a parent that waits at a fork, and of its callers
abbrev pub Waiting : Program → ℕ → (owed : Known) → List Frame → (left right : Known) → Own → Type 0
Waiting p n owed [] left right w = ⊥
Waiting p n owed (f ∷ below) left right w = (values : ℕ → Value)
    × (AwaitsChildren p n left right (known f values) f.todo ⋆ Callers p n (known f values) below owed) w

-- the shares of the tasks of a tree
abbrev pub Tree : Program → ℕ → (owed : Known) → Task → Own → Type 0
Tree p n owed (runs frames) w = Running p n owed frames w
Tree p n owed (waits frames one two) w = (left : Known) × (right : Known)
    × (Waiting p n owed frames left right ⋆ (Tree p n left one ⋆ Tree p n right two)) w

-- the share of a resource: what it has while it is free, and nothing while it is held
abbrev pub ShareOf : Program → (holder : Option Path) → ResId → Own → Type 0
ShareOf p None r w = FreeShare p r w
ShareOf p (Some path) r w = w ≡ nothing

-- the shares of the resources of a list whose numbers begin there
abbrev pub Resources : Program → (ResId → Option Path) → (number : ℕ) → List Resource → Own → Type 0
Resources p held number [] w = w ≡ nothing
Resources p held number (r ∷ rs) w = (ShareOf p (held (record { 0 = number })) (record { 0 = number })
    ⋆ Resources p held (suc number) rs) w

-- the number of each slot that an event made has been used
abbrev pub IsMadeBefore : Config → Slot → Type 0
IsMadeBefore c (shared r i) = Unit {0}
IsMadeBefore c (own event i) = c.used event ≡ true

-- the task has a frame, or waits with one
abbrev pub HasFrame : Task → Type 0
HasFrame (runs []) = ⊥
HasFrame (runs (f ∷ below)) = Unit {0}
HasFrame (waits frames one two) = Unit {0}

-- IsOwned: the shares of the tasks, which are safe for that many events, and those of the resources are
-- disjoint and together all that there is; `entry` is the frame of the procedure that began
pub record IsOwned (p : Program) (n : ℕ) (entry : Known) (c : Config) : Type 0 where
  pub tasks : Own
  pub free : Own
  pub parts : Parts (everything p c.common) tasks free
  pub tree : Tree p n entry c.tasks tasks
  pub resources : Resources p c.common.held 0 p.resources free
  pub made : (slot : Slot) → c.common.store slot ≢ None → IsMadeBefore c slot
  -- the entry isn't returned from
  pub stays : HasFrame c.tasks
  -- it doesn't set the resources up
  pub plain : sets_up p entry.fixed.procedure ≡ false
