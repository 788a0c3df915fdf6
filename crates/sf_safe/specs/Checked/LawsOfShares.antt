-- Laws of shares, for whoever runs tasks apart from one another: what is reached is owned, an event of one task leaves
-- the others' shares as they are, and what the procedure that sets the resources up leaves is their shares.
-- The rules of framing and of parallel composition: O'Hearn (2007), Brookes (2007), Vafeiadis (2011).
use Rattle.std.specs.Prelude.{◌≡◌, ℕ, suc, true, List, [], ◌∷◌, None, ◌+◌}
use Rattle.std.specs.Option.{unwrap_or}
use Rattle.sf_base.specs.declared.ids.ProcId.{ProcId}
use Rattle.sf_base.specs.declared.value.Value.TheVariants.{Nil as nil}
use Rattle.sf_base.specs.HeapStore.{Heap, Store, own}
use Rattle.sf_calls.specs.FirstBreach.{Conditions}
use Rattle.sf_core.specs.Machine.Config.{Task, Common, Config}
use Rattle.sf_core.specs.Machine.Reach.{Reach}
use Rattle.sf_core.specs.Machine.Start.{Start, entry_frame}
use Rattle.sf_core.specs.Machine.Step.{Event, TaskStep}
use Rattle.sf_core.specs.Program.Formed.{IsFormed}
use Rattle.sf_core.specs.Program.Init.{is_init}
use Rattle.sf_core.specs.Program.Syntax.{Procedure, Program}
use Rattle.sf_safe.specs.Checked.Own.{Own, everything, without_room}
use Rattle.sf_safe.specs.Checked.Contract.{Known, Ended}
use Rattle.sf_safe.specs.Checked.Invariant.{IsOwned, Resources, Tree}
use Rattle.sf_safe.specs.Checked.Law.{BodiesAreSafe}
use Rattle.sf_safe.specs.Checked.Owns.{Sums}

-- after an event: the task's new share and that of the free resources, beside the same share of the other tasks, with
-- what they are safe for
pub record After (p : Program) (n : ℕ) (owed : Known) (t : Common) (u : Task) (others : Own) : Type 0 where
  pub part : Own
  pub free : Own
  pub sums : Sums (everything p t) (part ∷ others ∷ free ∷ [])
  pub tree : Tree p n owed u part
  pub resources : Resources p t.held 0 p.resources free

-- where all that there is is the share of a task, that of the other tasks and those of the free resources, an event of
-- the task, whose number no slot has, leaves the share of the others as it is; and the task is safe for one event less
unfoldable pub EventsKeepShares : Type 0
EventsKeepShares = (p : Program) → IsFormed p → BodiesAreSafe p → (n : ℕ) (owed : Known) (event : Event)
    (before after : Task) (s t : Common) (mine others free : Own)
    → ((index : ℕ) → s.store (own event.number index) ≡ None)
    → Sums (everything p s) (mine ∷ others ∷ free ∷ []) → Tree p (suc n) owed before mine
    → Resources p s.held 0 p.resources free → TaskStep p event s before t after → After p n owed t after others

-- the entry's frame, with the values that its value parameters have at the start
abbrev pub entry_of : ProcId → Procedure → Store → Known
entry_of f g store = record {
  fixed = (entry_frame f g).fixed;
  values = λ i. unwrap_or (store (own 0 (g.references + i))) nil;
}

-- what is reached from a start, the start itself among it, is owned by tasks that are safe, for every number of events
unfoldable pub ReachedIsOwned : Type 0
ReachedIsOwned = (p : Program) → IsFormed p → Conditions p → BodiesAreSafe p → (f : ProcId) (store : Store)
    (heap : Heap) (start reached : Config) (events : List Event) → (s : Start p f store heap start)
    → Reach p start events reached → (n : ℕ) → IsOwned p n (entry_of f s.procedure store) reached

-- what a frame that has set the resources up owns at its end is the share of each of them, but for the slots of its room
unfoldable pub InitLeavesShares : Type 0
InitLeavesShares = (p : Program) → IsFormed p → (k : Known) (w : Own) (e : Ended p k w)
    → is_init e.procedure ≡ true → Resources p (λ r. None) 0 p.resources (without_room k.fixed.room w)
