-- That the frames of calls name slots of their callers and of their own rooms.
-- Names: `callee-WHAT`.
use Rattle.std.specs.Prelude.{◌≡◌, ℕ, zero, suc, ◌+◌, ◌-◌, ◌<◌, Bool, true, ◌&&◌, ◌||◌, leb, ltb, List, [], ◌∷◌, All, Some, length}
use Rattle.std.proofs.Common.{sym, ap, ap₂, ◌∙◌, refl, subst, arith}
use Rattle.std.proofs.lemmas.Bool.{or_left, or_right}
use Rattle.std.proofs.lemmas.Bool.Decides.{nat_tests}
use Rattle.std.proofs.lemmas.List.Elements.{All-head, All-tail}
use Rattle.sf_base.proofs.HeapSplits.{at-self}
use Rattle.sf_base.proofs.Options.{some-once}
use Rattle.sf_base.specs.declared.ids.Var.{Var}
use Rattle.sf_base.specs.declared.ids.Var.TheVariants.{Own, Shared}
use Rattle.sf_base.specs.HeapStore.{Slot, own}
use Rattle.sf_core.specs.declared.command.Occurrence.{Occurrence}
use Rattle.sf_core.specs.Machine.Config.{Room, in_room, Fixed}
use Rattle.sf_core.specs.Checked.Machine.InOrder.{NamesOf}
use Rattle.sf_core.specs.Machine.Step.{own_slot, slots_of, room_for, callee_frame, procedure_at}
use Rattle.sf_core.specs.Program.Formed.{IsInBody, IsSettable, HasCounts, CallWithin}
use Rattle.sf_core.specs.Program.Syntax.{Call, Procedure, Program}
use Rattle.sf_core.proofs.Machine.InOrder.Shapes.{settable-in}

-- the slots of a room
pub in_room-own : (event first count i : ℕ) → i < count
    → in_room (record { event = event; first = first; count = count }) (own event (first + i)) ≡ true
in_room-own event first count i l =
    let low : leb first (first + i) ≡ true = grind (arith, nat_tests) in
    let high : ltb (first + i) (first + count) ≡ true = grind (arith, nat_tests) in
    ap₂ (λ a b. a && b) (at-self event) (ap₂ (λ a b. a && b) low high)

module _ (p : Program) (g : Procedure) (scope : Slot → Bool) (caller : Var → Slot)
    (named : (x : Var) → IsInBody p g x → scope (caller x) ≡ true) (room : Room) where
  -- a reference names a slot of the caller's scope, and the other variables are in the room
  own_slot-in : (xs : List Occurrence) (i : ℕ) → All (λ x. IsSettable p g x.var) xs
      → i < length xs + room.count
      → (in_room room (own_slot caller xs room i) || scope (own_slot caller xs room i)) ≡ true
  own_slot-in [] i h l =
      let below : i < room.count = omega (arith, l) in
      or_left (in_room room (own room.event (room.first + i))) (scope (own room.event (room.first + i)))
      (in_room-own room.event room.first room.count i below)
  own_slot-in (x ∷ xs) zero h l =
      or_right (in_room room (caller x.var)) (scope (caller x.var))
      (named x.var (settable-in p g x.var (All-head (λ (y : Occurrence). IsSettable p g y.var) x xs h)))
  own_slot-in (x ∷ xs) (suc i) h l =
      own_slot-in xs i (All-tail (λ (y : Occurrence). IsSettable p g y.var) x xs h) (omega (arith, l))

-- the frame of a call names slots of its room and of the caller's scope
pub callee-names : (p : Program) (g : Procedure) (scope : Slot → Bool) (f : Fixed) (c : Call) (h : Procedure)
    (n first : ℕ)
    → NamesOf p scope f → procedure_at p f.procedure ≡ Some g → CallWithin p g c
    → procedure_at p c.callee ≡ Some h
    → NamesOf p (λ slot. in_room (room_for h n first) slot || scope slot)
    (callee_frame f.slots c h (room_for h n first)).fixed
callee-names p g scope f c h n first names mine within there =
    record { resources = λ r i. refl; within = λ k e x b. go x (subst (λ z. IsInBody p z x) (same k e) b) }
  where
    same : (k : Procedure) → procedure_at p c.callee ≡ Some k → k ≡ h
    same k e = some-once (procedure_at p c.callee) k h e there

    counts : length c.references ≡ h.references
    counts = (subst (λ z. HasCounts z c) there within.callee).0

    go : (x : Var) → IsInBody p h x
        → (in_room (room_for h n first) (slots_of f.slots c (room_for h n first) x)
        || scope (slots_of f.slots c (room_for h n first) x)) ≡ true
    go (Shared r i) b =
        ap scope (sym (names.resources r i)) ∙ names.within g mine (Shared r i) b
    go (Own i) b =
        let enough : i < length c.references + (length h.names - h.references) = omega (arith, b, counts) in
        own_slot-in p g scope f.slots (λ x k. names.within g mine x k) (room_for h n first) c.references i
        within.references enough
