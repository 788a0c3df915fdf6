-- The slots that an event makes for the values and locals of a frame: the frame owns them, and they weren't there.
-- Names: `room-LAW`, `owned-room`.
use Rattle.std.specs.Prelude.{◌≡◌, ◌≢◌, ℕ, Bool, true, false, Option, Some, None, ◌==◌, ◌&&◌, ◌+◌, ◌-◌, ◌<◌, ◌≤◌, leb, ltb, length}
use Rattle.std.proofs.Common.{sym, ap₂, ◌∙◌, refl, subst, arith}
use Rattle.std.proofs.lemmas.Bool.Decides.{nat_tests}
use Rattle.sf_base.specs.declared.ids.Var.TheVariants.{Own as OwnVar}
use Rattle.sf_base.specs.declared.value.Value.{Value}
use Rattle.sf_base.specs.HeapStore.{Slot, shared, own}
use Rattle.sf_core.specs.Machine.Config.{Common, Room, in_room}
use Rattle.sf_core.specs.Machine.Step.{room_count, room_for}
use Rattle.sf_core.specs.Program.Syntax.{Procedure, Program}
use Rattle.sf_safe.specs.Checked.Own.{Own, HasSlot}
use Rattle.sf_safe.specs.Checked.Contract.{Known, OwnsVariables}

-- a slot of a room, by its number in it
pub room-index : (d e i first count references names : ℕ)
    → (d == e) && (leb first i && ltb i (first + count)) ≡ true
    → count ≡ names - references
    → (d ≡ e) × (references ≤ references + (i - first)) × (references + (i - first) < names)
    × (first + (references + (i - first) - references) ≡ i)
room-index d e i first count references names h c = (
  grind (arith, nat_tests, h),
  omega arith,
  let a : leb first i ≡ true = grind (arith, nat_tests, h) in
      let b : ltb i (first + count) ≡ true = grind (arith, nat_tests, h) in
      let l : first ≤ i = grind (arith, nat_tests, a) in
      let m : i < first + count = grind (arith, nat_tests, b) in
      omega (arith, l, m, c),
  let a : leb first i ≡ true = grind (arith, nat_tests, h) in
      let l : first ≤ i = grind (arith, nat_tests, a) in
      omega (arith, l),
)

-- a frame owns the slots of its room
pub owned-room : (p : Program) (k : Known) (g : Procedure) (w : Own) → OwnsVariables p k g w → (slot : Slot)
    → in_room k.fixed.room slot ≡ true → HasSlot w slot
owned-room p k g w o (shared r i) h = absurd (cc)
owned-room p k g w o (own e i) h =
    let room = k.fixed.room in
    let a = room-index e room.event i room.first room.count g.references (length g.names) h o.frame.count in
    let j = g.references + (i - room.first) in
    subst (HasSlot w) (o.frame.own_slots j a.1 a.2 ∙ ap₂ own (sym a.0) a.3) (o.variables.each (OwnVar j) a.2)

-- the number of each slot that an event made has been used
abbrev pub AllMade : (ℕ → Type 0) → Slot → Type 0
AllMade used (shared r i) = Unit {0}
AllMade used (own event i) = used event

pub first-true : (a b : ℕ) (t : Bool) → (a == b) && t ≡ true → a ≡ b
first-true a b t h = grind (arith, nat_tests)

apart-ranges : (g e k a b : ℕ) → (g == e) && (leb a k && ltb k (a + b)) ≡ true
    → (g == e) && (leb 0 k && ltb k (0 + a)) ≡ false
apart-ranges g e k a b h = grind (arith, nat_tests)

-- the slots of a room of a number that wasn't used aren't there
pub room-fresh : (s : Common) (used : ℕ → Type 0) (room : Room)
    → ((slot : Slot) → s.store slot ≢ None → AllMade used slot) → (used room.event → ⊥) → (slot : Slot)
    → in_room room slot ≡ true → s.store slot ≡ None
room-fresh s used room a n (shared q k) i = absurd (cc)
room-fresh s used room a n (own e k) i = go (s.store (own e k)) refl
  where
    go : (v : Option Value) → s.store (own e k) ≡ v → v ≡ None
    go None j = refl
    go (Some v) j =
        let there : s.store (own e k) ≢ None = λ z. let y : Some v ≡ None = sym j ∙ z in absurd (cc) in
        absurd (n (subst used (first-true e room.event _ i) (a (own e k) there)))

-- the two rooms of a fork have different slots
pub room-apart : (g h : Procedure) (event : ℕ) (slot : Slot)
    → in_room (room_for h event (room_count g)) slot ≡ true
    → in_room (room_for g event 0) slot ≡ false
room-apart g h e (shared q k) i = refl
room-apart g h e (own d k) i = apart-ranges d e k (room_count g) (room_count h) i
