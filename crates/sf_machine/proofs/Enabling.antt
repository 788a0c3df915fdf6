-- Which tasks are enabled, and what the code says of their next steps.
-- Names: `accesses_KIND` for each kind of next step; `in_order`, `used_fits` from the laws of the machine.
use Rattle.std.specs.Prelude.{◌≡◌, ◌≢◌, ◌⊎◌, ◌↔◌, ℕ, ◌==◌, true, List, [], ◌∷◌, length, Some, None, is_some}
use Rattle.std.proofs.Common.{sym, ap, ◌∙◌, refl, subst, inl, inr, arith}
use Rattle.std.proofs.lemmas.Bool.Decides.{nat_tests}
use Rattle.sf_base.proofs.Options.{some-none, some-once}
use Rattle.sf_base.specs.declared.ids.ResId.{ResId}
use Rattle.sf_base.specs.declared.ids.Thing.{Thing as CodeThing}
use Rattle.sf_base.specs.declared.value.Value.{Value}
use Rattle.sf_base.specs.HeapStore.{Slot, shared, own}
use Rattle.sf_core.specs.Machine.Config.{Item, command, leave, Room, Fixed, Frame, Task, runs, waits, Path, Config, task_at, IsOver}
use Rattle.sf_core.specs.Machine.Enabled.{Thing, variable, CommandReads, CommandWrites, HasEnded, IsShut, IsInRoom, IsEnabled, Reads, Writes}
use Rattle.sf_core.specs.Checked.Machine.InOrder.{IsInOrder}
use Rattle.sf_core.specs.Checked.Machine.Laws.{ReachedConfigsAreInOrder, UsedSlotsAreThere}
use Rattle.sf_core.specs.Machine.Next.{next}
use Rattle.sf_core.specs.Machine.Step.{task_with}
use Rattle.sf_core.specs.Program.Formed.{IsFormed}
use Rattle.sf_core.specs.Program.Syntax.{Command, Program}
use Rattle.sf_core.proofs.Machine.Laws.{reached_configs_are_in_order, used_slots_are_there}
use Rattle.sf_machine.specs.Accessing.{AreAccesses, IsListed}
use Rattle.sf_machine.specs.Reached.{IsReached}
use Rattle.sf_machine.specs.Checked.Nexts.{IsIdle}
use Rattle.sf_machine.specs.Checked.Noting.{Notes}
use Rattle.sf_frame.specs.Checked.Spots.{SlotFits}
use Rattle.sf_frame.specs.declared.store.Store.{Store as CodeStore}
use Rattle.sf_frame.specs.Stores.{store_of}

-- a configuration that is reached is in order
pub in_order : (p : Program) (c : Config) → IsFormed p → (r : IsReached p c) → IsInOrder p r.starts.procedure c
unfolding ReachedConfigsAreInOrder
in_order p c formed r =
    reached_configs_are_in_order p r.procedure r.store r.heap r.start c r.events formed r.starts r.reached

-- a slot that is there has an index that fits
pub there_fits : (store : CodeStore) (slot : Slot) (v : Value) → store_of store slot ≡ Some v → SlotFits slot
there_fits store (shared r i) v e = tt
there_fits store (own n i) v e = store.fit n i (ap is_some e)

-- the slots that a task's next step uses have indices that fit
pub used_fits : (p : Program) (c : Config) (store : CodeStore) (path : Path) (task : Task) (slot : Slot)
    → IsFormed p → IsReached p c → c.common.store ≡ store_of store → task_at path c.tasks ≡ Some task
    → Reads c.common.store (next task) (variable slot) ⊎ Writes c.common.store (next task) (variable slot)
    → SlotFits slot
unfolding UsedSlotsAreThere
used_fits p c store path task slot formed r same e h =
    let there = used_slots_are_there p r.starts.procedure c path task slot (in_order p c formed r) e h in
    there_fits store slot there.0 (ap (λ z. z slot) (sym same) ∙ there.1)

-- the task that was found is the one at the path
pub there_is : (found task : Task) (path turns : Path) (t : Task) → Some found ≡ task_at turns t
    → turns ≡ path → found ≡ task → task_at path t ≡ Some task
there_is found task path turns t e f g = ap (λ z. task_at z t) (sym f) ∙ sym e ∙ ap Some g

-- a frame with something to do hasn't ended
pub busy_goes : (path : Path) (f : Fixed) (i : Item) (rest : List Item) (below : List Frame)
    → HasEnded path (task_with f (i ∷ rest) below) → ⊥
busy_goes [] f i rest [] h = cc
busy_goes [] f i rest (g ∷ below) h = h
busy_goes (turn ∷ path) f i rest below h = h

-- nor has one that is done, unless it is alone in the entry's task
pub done_goes : (path : Path) (f : Fixed) (below : List Frame) (n : ℕ) → n ≡ length path
    → ((n == 0) ≡ true → below ≢ []) → HasEnded path (task_with f [] below) → ⊥
done_goes [] f [] n e k h = k (ap (λ z. z == 0) e) refl
done_goes [] f (g ∷ below) n e k h = h
done_goes (turn ∷ path) f below n e k h = h

-- a task that is idle isn't enabled
pub idle_stays : (c : Config) (path : Path) (t task : Task) (n : ℕ) → n ≡ length path → IsIdle (n == 0) t
    → task_at path c.tasks ≡ Some t → IsEnabled c path task → ⊥
idle_stays c path t task n e i there en =
    go t path n e i (subst (IsEnabled c path) (some-once (task_at path c.tasks) task t en.there there) en)
  where
    go : (t : Task) (path : Path) (n : ℕ) → n ≡ length path → IsIdle (n == 0) t → IsEnabled c path t → ⊥
    go (runs []) path n e i en = en.going tt
    go (runs (f ∷ [])) [] n e i en = en.going i.1
    go (runs (f ∷ [])) (turn ∷ path) n e i en =
        let zero : n ≡ 0 = grind (arith, nat_tests) in
        absurd (omega (arith, zero, e))
    go (runs (f ∷ g ∷ below)) path n e i en = i
    go (waits frames one two) path n e i en = en.free i

-- the accesses of a task that is enabled
pub accesses_of : (c : Config) (path : Path) (t : Task) (reads writes : List CodeThing) → IsEnabled c path t
    → ((thing : Thing) → IsListed reads thing ↔ Reads c.common.store (next t) thing)
    → ((thing : Thing) → IsListed writes thing ↔ Writes c.common.store (next t) thing)
    → AreAccesses c path reads writes
accesses_of c path t reads writes en r w = record {
  read = λ task e thing. subst (λ (z : Task). IsListed reads thing ↔ Reads c.common.store (next z) thing)
      (some-once (task_at path c.tasks) t task en.there e.there) (r thing);
  written = λ task e thing. subst (λ (z : Task). IsListed writes thing ↔ Writes c.common.store (next z) thing)
      (some-once (task_at path c.tasks) t task en.there e.there) (w thing);
  neither = λ none. absurd (none t en);
}

-- where no task is enabled there are none
pub accesses_none : (c : Config) (path : Path) (reads writes : List CodeThing)
    → ((task : Task) → IsEnabled c path task → ⊥) → reads ≡ [] → writes ≡ [] → AreAccesses c path reads writes
accesses_none c path reads writes none r w = record {
  read = λ task e thing. absurd (none task e);
  written = λ task e thing. absurd (none task e);
  neither = λ k. (r, w);
}

-- what was noted in an empty list
pub noted_all : (old new : List CodeThing) (P : Thing → Type 0) → old ≡ [] → Notes old new P → (thing : Thing)
    → IsListed new thing ↔ P thing
noted_all old new P e n thing =
    let k : IsListed new thing ↔ (IsListed [] thing ⊎ P thing) =
    subst (λ (z : List CodeThing). IsListed new thing ↔ (IsListed z thing ⊎ P thing)) e (n thing) in
    (λ h. elim (k.0 h) [ inl a ↦ absurd a | inr q ↦ q ], λ q. k.1 (inr q))

-- an empty list has nothing
pub listed_none : (xs : List CodeThing) (P : Thing → Type 0) → xs ≡ [] → ((thing : Thing) → P thing → ⊥)
    → (thing : Thing) → IsListed xs thing ↔ P thing
listed_none xs P e n thing = (
  λ h. absurd (subst (λ (z : List CodeThing). IsListed z thing) e h),
  λ q. absurd (n thing q),
)

-- a command that isn't at a shut region
pub accesses_does : (c : Config) (path : Path) (f : Fixed) (below : List Frame) (one : Command)
    (rest : List Item) (none reads nothing writes : List CodeThing)
    → task_at path c.tasks ≡ Some (task_with f (command one ∷ rest) below)
    → (IsShut c.common.held one → ⊥) → none ≡ [] → nothing ≡ []
    → Notes none reads (CommandReads f.slots c.common.store one)
    → Notes nothing writes (CommandWrites f.slots c.common.store one) → AreAccesses c path reads writes
accesses_does c path f below one rest none reads nothing writes there free e h r w =
    accesses_of c path (task_with f (command one ∷ rest) below) reads writes
    (record { there = there; going = busy_goes path f (command one) rest below; free = free })
    (noted_all none reads (CommandReads f.slots c.common.store one) e r)
    (noted_all nothing writes (CommandWrites f.slots c.common.store one) h w)

-- a region whose resource is held
pub accesses_shut : (c : Config) (path : Path) (f : Fixed) (below : List Frame) (one : Command)
    (rest : List Item) (reads writes : List CodeThing)
    → task_at path c.tasks ≡ Some (task_with f (command one ∷ rest) below) → IsShut c.common.held one
    → reads ≡ [] → writes ≡ [] → AreAccesses c path reads writes
accesses_shut c path f below one rest reads writes there shut e h =
    accesses_none c path reads writes (λ task en.
    let t = task_with f (command one ∷ rest) below in
    let same : task ≡ t = some-once (task_at path c.tasks) task t en.there there in
    let here : IsEnabled c path t = subst (IsEnabled c path) same en in
    here.free shut) e h

-- an exit
pub accesses_leaves : (c : Config) (path : Path) (f : Fixed) (below : List Frame) (r : ResId)
    (rest : List Item) (reads writes : List CodeThing)
    → task_at path c.tasks ≡ Some (task_with f (leave r ∷ rest) below) → reads ≡ [] → writes ≡ []
    → AreAccesses c path reads writes
accesses_leaves c path f below r rest reads writes there e h =
    accesses_of c path (task_with f (leave r ∷ rest) below) reads writes
    (record { there = there; going = busy_goes path f (leave r) rest below; free = λ k. k })
    (listed_none reads _ e (λ thing k. k)) (listed_none writes _ h (λ thing k. k))

-- a return
pub accesses_returns : (c : Config) (path : Path) (f : Fixed) (below : List Frame) (room : Room) (n : ℕ)
    (reads nothing writes : List CodeThing)
    → task_at path c.tasks ≡ Some (task_with f [] below) → f.room ≡ room → n ≡ length path
    → ((n == 0) ≡ true → below ≢ []) → reads ≡ [] → nothing ≡ [] → Notes nothing writes (IsInRoom room)
    → AreAccesses c path reads writes
accesses_returns c path f below room n reads nothing writes there is e k r h w =
    accesses_of c path (task_with f [] below) reads writes
    (record { there = there; going = done_goes path f below n e k; free = λ z. z })
    (listed_none reads _ r (λ thing z. z))
    (noted_all nothing writes (IsInRoom f.room) h
    (subst (λ (z : Room). Notes nothing writes (IsInRoom z)) (sym is) w))

-- a join
pub accesses_joins : (c : Config) (path : Path) (frames : List Frame) (one two : Task)
    (reads writes : List CodeThing) → task_at path c.tasks ≡ Some (waits frames one two) → IsOver one → IsOver two
    → reads ≡ [] → writes ≡ [] → AreAccesses c path reads writes
accesses_joins c path frames one two reads writes there a b e h =
    accesses_of c path (waits frames one two) reads writes
    (record { there = there; going = waits_goes path frames one two; free = λ k. k (a, b) })
    (listed_none reads _ e (λ thing k. k)) (listed_none writes _ h (λ thing k. k))
  where
    waits_goes : (path : Path) (frames : List Frame) (one two : Task) → HasEnded path (waits frames one two) → ⊥
    waits_goes [] frames one two h = h
    waits_goes (turn ∷ path) frames one two h = h

-- where no task was found there is none
pub none_there : (path turns : Path) (t u : Task) → None ≡ task_at turns t → turns ≡ path → task_at path t ≡ Some u → ⊥
none_there path turns t u e f h = some-none u (sym h ∙ ap (λ z. task_at z t) (sym f) ∙ sym e)
