-- That the store has exactly the rooms and the slots outside them, each once, after each kind of event.
-- Names: `counts-WHAT` speaks of how often a slot is there, `fresh-WHAT` of slots of a number that isn't used,
-- `names-WHAT` of the slots that frames name.
use Rattle.std.specs.Prelude.{◌≡◌, ℕ, zero, suc, ◌+◌, ◌==◌, ◌≤◌, Bool, true, false, cond, ◌&&◌, ltb, leb, Option, Some, None, List, [], ◌∷◌, ◌⊎◌, is_some}
use Rattle.std.specs.List.{AllByRecursion}
use Rattle.std.proofs.Common.{true≢false, sym, ap, ◌∙◌, refl, subst, inl, inr, arith}
use Rattle.std.proofs.lemmas.Bool.{and_parts, or_cases}
use Rattle.std.proofs.lemmas.Option.{same_Some}
use Rattle.sf_base.proofs.HeapSplits.{at-same}
use Rattle.sf_base.proofs.StoreSplits.{slot-same}
use Rattle.sf_base.specs.declared.path.Turn.TheVariants.{Left as left, Right as right}
use Rattle.sf_base.specs.declared.value.Value.{Value}
use Rattle.sf_base.specs.HeapStore.{Slot, shared, own, same_slot, Store}
use Rattle.sf_core.specs.Machine.Config.{Room, in_room, Fixed, Frame, Item, Task, runs, waits, Path, Common, task_at, put_task}
use Rattle.sf_core.specs.Checked.Machine.InOrder.{EachStack, is_outer, rooms_in, rooms_with, times_there, with_rooms, NamesInTree}
use Rattle.sf_core.specs.Machine.Step.{set_slot}
use Rattle.sf_core.specs.Program.Syntax.{Procedure, Program}
use Rattle.sf_core.proofs.Machine.InOrder.Trees.{rooms-put}

-- a number by a test
abbrev pub one_if : Bool → ℕ
one_if b = cond b 1 0

-- what is there is a value
pub is-there : (o : Option Value) → is_some o ≡ true → (v : Value) × (o ≡ Some v)
is-there None h = absurd (true≢false (sym h))
is-there (Some v) h = (v, refl)

-- how often each slot is there: once where the store has it, and else not at all
abbrev pub Counts : Program → Procedure → Store → Task → Type 0
Counts p g store t = (slot : Slot) → times_there p g t slot ≡ one_if (is_some (store slot))

-- from what is said of a configuration in order to the count
pub counts-of : (n : ℕ) (b : Bool) → n ≤ 1 → b ≡ ltb 0 n → n ≡ one_if b
counts-of zero b l e = ap one_if (sym e)
counts-of (suc zero) b l e = ap one_if (sym e)
counts-of (suc (suc n)) b l e = absurd (omega (arith, l))

-- and back
pub counts-disjoint : (n : ℕ) (b : Bool) → n ≡ one_if b → n ≤ 1
counts-disjoint n true e = omega (arith, e)
counts-disjoint n false e = omega (arith, e)

pub counts-store : (n : ℕ) (b : Bool) → n ≡ one_if b → b ≡ ltb 0 n
counts-store n true e = ap (ltb 0) (sym e)
counts-store n false e = ap (ltb 0) (sym e)

-- what is there is in the store
pub counts-there : (n : ℕ) (b : Bool) → n ≡ one_if b → 1 ≤ n → b ≡ true
counts-there n true e l = refl
counts-there n false e l = absurd (omega (arith, e, l))

-- Slots of a number that isn't used
fresh-room : (used : ℕ → Bool) (n i : ℕ) (room : Room) → used n ≡ false → used room.event ≡ true
    → in_room room (own n i) ≡ false
fresh-room used n i room e u = go (n == room.event) refl
  where
    go : (b : Bool) → n == room.event ≡ b
        → (b && (leb room.first i && ltb i (room.first + room.count))) ≡ false
    go true h = absurd (true≢false (sym u ∙ ap used (sym (at-same room.event n h)) ∙ e))
    go false h = refl

fresh-stack : (used : ℕ → Bool) (n i : ℕ) (frames : List Frame) → used n ≡ false
    → AllByRecursion (λ f. used f.fixed.room.event ≡ true) frames → rooms_in (own n i) frames ≡ 0
fresh-stack used n i [] e h = refl
fresh-stack used n i (f ∷ frames) e h =
    let first : one_if (in_room f.fixed.room (own n i)) ≡ 0 =
    ap one_if (fresh-room used n i f.fixed.room e h.0) in
    let rest : rooms_in (own n i) frames ≡ 0 = fresh-stack used n i frames e h.1 in
    omega arith

-- they are in no room of the tree
pub fresh-tree : (used : ℕ → Bool) (n i : ℕ) (t : Task) → used n ≡ false
    → EachStack (AllByRecursion (λ f. used f.fixed.room.event ≡ true)) t → rooms_with (own n i) t ≡ 0
fresh-tree used n i (runs frames) e h = fresh-stack used n i frames e h
fresh-tree used n i (waits frames one two) e h =
    let first : rooms_in (own n i) frames ≡ 0 = fresh-stack used n i frames e h.0 in
    let left : rooms_with (own n i) one ≡ 0 = fresh-tree used n i one e h.1 in
    let right : rooms_with (own n i) two ≡ 0 = fresh-tree used n i two e h.2 in
    omega arith

fresh-outer : (p : Program) (g : Procedure) (used : ℕ → Bool) (n i : ℕ) → used n ≡ false → used 0 ≡ true
    → is_outer p g (own n i) ≡ false
fresh-outer p g used n i e z = go (n == 0) refl
  where
    go : (b : Bool) → n == 0 ≡ b → (b && ltb i g.references) ≡ false
    go true h = absurd (true≢false (sym z ∙ ap used (sym (at-same 0 n h)) ∙ e))
    go false h = refl

-- so a slot of a new room isn't there
pub fresh-slot : (p : Program) (g : Procedure) (used : ℕ → Bool) (t : Task) (room : Room) (slot : Slot)
    → used room.event ≡ false → used 0 ≡ true
    → EachStack (AllByRecursion (λ f. used f.fixed.room.event ≡ true)) t → in_room room slot ≡ true
    → times_there p g t slot ≡ 0
fresh-slot p g used t room (shared r i) e z h q = absurd (true≢false (sym q))
fresh-slot p g used t room (own n i) e z h q =
    let number : n ≡ room.event = at-same room.event n (and_parts (n == room.event) _ q).0 in
    let new : used n ≡ false = ap used number ∙ e in
    let kept : one_if (is_outer p g (own n i)) ≡ 0 = ap one_if (fresh-outer p g used n i new z) in
    let rooms : rooms_with (own n i) t ≡ 0 = fresh-tree used n i t new h in
    omega arith

-- The count after an event
-- what the new task has more than the old one the new store has more
counts-put : (p : Program) (g : Procedure) (path : Path) (t from u : Task) (slot : Slot) (before after : ℕ)
    → task_at path t ≡ Some from → times_there p g t slot ≡ before
    → before + rooms_with slot u ≡ after + rooms_with slot from
    → times_there p g (put_task path u t) slot ≡ after
counts-put p g path t from u slot before after there e k =
    let rooms : rooms_with slot (put_task path u t) + rooms_with slot from
    ≡ rooms_with slot t + rooms_with slot u = rooms-put slot path t from u there in
    let old : one_if (is_outer p g slot) + rooms_with slot t ≡ before = e in
    let goal : one_if (is_outer p g slot) + rooms_with slot (put_task path u t) ≡ after = omega arith in
    goal

-- where the rooms stay, and what the store has
pub counts-same : (p : Program) (g : Procedure) (s w : Store) (path : Path) (t from u : Task)
    → task_at path t ≡ Some from → Counts p g s t
    → ((slot : Slot) → rooms_with slot u ≡ rooms_with slot from)
    → ((slot : Slot) → is_some (w slot) ≡ is_some (s slot)) → Counts p g w (put_task path u t)
counts-same p g s w path t from u there c r i slot =
    counts-put p g path t from u slot (one_if (is_some (s slot))) (one_if (is_some (w slot))) there (c slot)
    (let rooms : rooms_with slot u ≡ rooms_with slot from = r slot in
    let stores : one_if (is_some (w slot)) ≡ one_if (is_some (s slot)) = ap one_if (i slot) in
    omega arith)

-- a room that comes up: its slots are there from now on
opened : (b : Bool) (old : Option Value) (v : Value) → (b ≡ true → is_some old ≡ false)
    → one_if (is_some (cond b (Some v) old)) ≡ one_if b + one_if (is_some old)
opened true old v h =
    let none : one_if (is_some old) ≡ 0 = ap one_if (h refl) in
    omega arith
opened false old v h = omega arith

-- a slot that isn't there isn't in the store
pub not-there : (n : ℕ) (b : Bool) → n ≡ one_if b → n ≡ 0 → b ≡ false
not-there n true e z = absurd (omega (arith, e, z))
not-there n false e z = refl

-- where one room comes up
pub counts-opened : (p : Program) (g : Procedure) (s w : Store) (path : Path) (t from u : Task) (room : Room)
    (v : Slot → Value) → task_at path t ≡ Some from → Counts p g s t
    → ((slot : Slot) → in_room room slot ≡ true → times_there p g t slot ≡ 0)
    → ((slot : Slot) → rooms_with slot u ≡ one_if (in_room room slot) + rooms_with slot from)
    → ((slot : Slot) → w slot ≡ cond (in_room room slot) (Some (v slot)) (s slot))
    → Counts p g w (put_task path u t)
counts-opened p g s w path t from u room v there c new r i slot =
    counts-put p g path t from u slot (one_if (is_some (s slot))) (one_if (is_some (w slot))) there (c slot)
    (let rooms : rooms_with slot u ≡ one_if (in_room room slot) + rooms_with slot from = r slot in
    let stores : one_if (is_some (w slot)) ≡ one_if (in_room room slot) + one_if (is_some (s slot)) =
    ap (λ z. one_if (is_some z)) (i slot) ∙ opened (in_room room slot) (s slot) (v slot)
    (λ h. not-there (times_there p g t slot) (is_some (s slot)) (c slot) (new slot h)) in
    omega arith)

-- where two rooms come up, of which no slot is in both
pub counts-opened_two : (p : Program) (g : Procedure) (s w : Store) (path : Path) (t from u : Task)
    (one two : Room) (v x : Slot → Value) → task_at path t ≡ Some from → Counts p g s t
    → ((slot : Slot) → in_room one slot ≡ true → times_there p g t slot ≡ 0)
    → ((slot : Slot) → in_room two slot ≡ true → times_there p g t slot ≡ 0)
    → ((slot : Slot) → in_room two slot ≡ true → in_room one slot ≡ false)
    → ((slot : Slot) → rooms_with slot u
    ≡ one_if (in_room one slot) + (one_if (in_room two slot) + rooms_with slot from))
    → ((slot : Slot) → w slot ≡ cond (in_room two slot) (Some (x slot))
    (cond (in_room one slot) (Some (v slot)) (s slot)))
    → Counts p g w (put_task path u t)
counts-opened_two p g s w path t from u one two v x there c new also apart r i slot =
    counts-put p g path t from u slot (one_if (is_some (s slot))) (one_if (is_some (w slot))) there (c slot)
    (let rooms : rooms_with slot u
    ≡ one_if (in_room one slot) + (one_if (in_room two slot) + rooms_with slot from) = r slot in
    let first : one_if (is_some (cond (in_room one slot) (Some (v slot)) (s slot)))
    ≡ one_if (in_room one slot) + one_if (is_some (s slot)) =
    opened (in_room one slot) (s slot) (v slot)
    (λ h. not-there (times_there p g t slot) (is_some (s slot)) (c slot) (new slot h)) in
    let stores : one_if (is_some (w slot)) ≡ one_if (in_room two slot)
    + one_if (is_some (cond (in_room one slot) (Some (v slot)) (s slot))) =
    ap (λ z. one_if (is_some z)) (i slot)
    ∙ opened (in_room two slot) (cond (in_room one slot) (Some (v slot)) (s slot)) (x slot)
    (λ h. ap (λ z. is_some (cond z (Some (v slot)) (s slot))) (apart slot h)
    ∙ not-there (times_there p g t slot) (is_some (s slot)) (c slot) (also slot h)) in
    omega arith)

closed : (b : Bool) (old : Option Value) (n m : ℕ) → n ≡ one_if (is_some old) → one_if b + m ≡ n
    → one_if b + one_if (is_some (cond b None old)) ≡ one_if (is_some old)
closed true None n m e k = absurd (omega (arith, e, k))
closed true (Some v) n m e k = refl
closed false old n m e k = omega arith

-- where a room vanishes
pub counts-closed : (p : Program) (g : Procedure) (s w : Store) (path : Path) (t from u : Task) (room : Room)
    → task_at path t ≡ Some from → Counts p g s t
    → ((slot : Slot) → rooms_with slot from ≡ one_if (in_room room slot) + rooms_with slot u)
    → ((slot : Slot) → w slot ≡ cond (in_room room slot) None (s slot)) → Counts p g w (put_task path u t)
counts-closed p g s w path t from u room there c r i slot =
    let rooms : rooms_with slot from ≡ one_if (in_room room slot) + rooms_with slot u = r slot in
    let tree : rooms_with slot (put_task path u t) + rooms_with slot from
    ≡ rooms_with slot t + rooms_with slot u = rooms-put slot path t from u there in
    let some : one_if (in_room room slot) + (one_if (is_outer p g slot) + rooms_with slot (put_task path u t))
    ≡ times_there p g t slot = omega arith in
    let stores : one_if (in_room room slot) + one_if (is_some (w slot)) ≡ one_if (is_some (s slot)) =
    ap (λ z. one_if (in_room room slot) + one_if (is_some z)) (i slot)
    ∙ closed (in_room room slot) (s slot) (times_there p g t slot)
    (one_if (is_outer p g slot) + rooms_with slot (put_task path u t)) (c slot) some in
    counts-put p g path t from u slot (one_if (is_some (s slot))) (one_if (is_some (w slot))) there (c slot)
    (omega arith)

-- a variable that is there gets a value
pub is_some-set : (slot : Slot) (v : Value) (s : Common) → is_some (s.store slot) ≡ true → (other : Slot)
    → is_some ((set_slot slot v s).store other) ≡ is_some (s.store other)
is_some-set slot v s h other = go (same_slot other slot) refl
  where
    go : (b : Bool) → same_slot other slot ≡ b → is_some (cond b (Some v) (s.store other))
        ≡ is_some (s.store other)
    go true e = sym (ap (λ z. is_some (s.store z)) (slot-same slot other e) ∙ h)
    go false e = refl

-- The slots that frames name
-- a slot of the scope with rooms is in a room or of the scope
names-cases : (frames : List Frame) (scope : Slot → Bool) (slot : Slot) → with_rooms frames scope slot ≡ true
    → (1 ≤ rooms_in slot frames) ⊎ (scope slot ≡ true)
names-cases [] scope slot h = inr h
names-cases (f ∷ frames) scope slot h =
    elim (or_cases (in_room f.fixed.room slot) (with_rooms frames scope slot) h) [
      | inl i ↦ inl (let one : one_if (in_room f.fixed.room slot) ≡ 1 = ap one_if i in omega arith)
      | inr i ↦ elim (names-cases frames scope slot i) [
        | inl l ↦ inl (let more : 1 ≤ rooms_in slot frames = l in omega arith)
        | inr k ↦ inr k
      ]
    ]

-- the task at a path names slots of a scope whose slots are all there
pub record NamesAt (p : Program) (There : Slot → Type 0) (from : Task) : Type 0 where
  pub scope : Slot → Bool
  pub names : NamesInTree p scope from
  pub kept : (slot : Slot) → scope slot ≡ true → There slot
  pub rooms : (slot : Slot) → 1 ≤ rooms_with slot from → There slot

pub names-at : (p : Program) (There : Slot → Type 0) (scope : Slot → Bool) (path : Path) (t from : Task)
    → task_at path t ≡ Some from → NamesInTree p scope t → ((slot : Slot) → scope slot ≡ true → There slot)
    → ((slot : Slot) → 1 ≤ rooms_with slot t → There slot) → NamesAt p There from
names-at p There scope [] t from e n k r =
    subst (NamesAt p There) (same_Some t from e) (record { scope = scope; names = n; kept = k; rooms = r })
names-at p There scope (left ∷ path) (runs frames) from e n k r = absurd (cc)
names-at p There scope (right ∷ path) (runs frames) from e n k r = absurd (cc)
names-at p There scope (left ∷ path) (waits frames one two) from e n k r =
    names-at p There (with_rooms frames scope) path one from e n.1
    (λ slot h. elim (names-cases frames scope slot h) [
      | inl l ↦ r slot (let some : 1 ≤ rooms_in slot frames = l in omega arith)
      | inr i ↦ k slot i
    ])
    (λ slot l. r slot (let some : 1 ≤ rooms_with slot one = l in omega arith))
names-at p There scope (right ∷ path) (waits frames one two) from e n k r =
    names-at p There (with_rooms frames scope) path two from e n.2
    (λ slot h. elim (names-cases frames scope slot h) [
      | inl l ↦ r slot (let some : 1 ≤ rooms_in slot frames = l in omega arith)
      | inr i ↦ k slot i
    ])
    (λ slot l. r slot (let some : 1 ≤ rooms_with slot two = l in omega arith))

-- a slot that a frame of a task that runs names is there
pub names-there : (p : Program) (There : Slot → Type 0) (f : Fixed) (todo : List Item) (below : List Frame)
    → (n : NamesAt p There (runs (record { fixed = f; todo = todo } ∷ below))) → (slot : Slot)
    → with_rooms (record { fixed = f; todo = todo } ∷ below) n.scope slot ≡ true → There slot
names-there p There f todo below n slot h =
    elim (names-cases (record { fixed = f; todo = todo } ∷ below) n.scope slot h)
    [ inl l ↦ n.rooms slot l | inr k ↦ n.kept slot k ]
