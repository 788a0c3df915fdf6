-- The parts of the children of a fork are of the program.
-- Names: `child-LAW` of one child, `fork-LAW` of what is planned for both.
use Rattle.std.specs.Prelude.{◌≡◌, ◌==◌, ◌&&◌, ◌+◌, ◌-◌, ◌<◌, ◌≤◌, ℕ, zero, suc, Bool, true, false, cond, leb, ltb, List, [], ◌∷◌, length, Some, Contains, is_some}
use Rattle.std.proofs.Common.{true≢false, sym, ap, ap₂, ◌∙◌, refl, subst, inl, inr, arith}
use Rattle.std.proofs.lemmas.Bool.Decides.{nat_tests}
use Rattle.sf_base.proofs.Bools.{and-left, and-right}
use Rattle.sf_base.proofs.Elements.{contains-cons}
use Rattle.sf_base.proofs.HeapSplits.{at-same}
use Rattle.sf_base.specs.declared.ids.ResId.{ResId}
use Rattle.sf_base.specs.declared.ids.Var.{Var}
use Rattle.sf_base.specs.declared.ids.Var.TheVariants.{Own}
use Rattle.sf_base.specs.HeapStore.{Slot, Store, own, shared}
use Rattle.sf_core.specs.Checked.Machine.InOrder.{exits, regions, throughout}
use Rattle.sf_core.specs.declared.command.Occurrence.{Occurrence}
use Rattle.sf_core.specs.Machine.Config.{Item, command, items, Room, in_room, Fixed, Frame, runs, waits, Common}
use Rattle.sf_core.specs.Machine.Step.{arguments, callee_frame, open_room, own_slot, procedure_at, room_count, room_for}
use Rattle.sf_core.specs.Machine.Whole.{Part, running}
use Rattle.sf_core.specs.Program.Formed.{IsFormed}
use Rattle.sf_core.specs.Program.Heads.{head_calls, head_regions}
use Rattle.sf_core.specs.Program.Init.{sets_up}
use Rattle.sf_core.specs.Program.Syntax.{Call, Command, fork, Procedure, Program}
use Rattle.sf_core.proofs.Machine.InOrder.Shapes.{block-exits}
use Rattle.sf_frame.specs.Checked.Nexts.{frames_with}
use Rattle.sf_frame.specs.Commons.{common_of}
use Rattle.sf_frame.specs.Frames.{frame_of}
use Rattle.sf_part.specs.Checked.Children.{HasJust, HasVariablesOf, IsFirstOf}
use Rattle.sf_part.specs.Checked.Splitting.{AreFirst, IsForked, forked_of}
use Rattle.sf_part.specs.declared.part.Part.{Part as CodePart}
use Rattle.sf_part.specs.declared.splitting.Forked.{Forked}
use Rattle.sf_part.specs.Lent.{IsNamed}
use Rattle.sf_part.specs.Of.{AreInOrder, FrameIsOf, FramesAreOf, HasEntered, IsOf, StandIsOf, frames_in, times_held}
use Rattle.sf_part.specs.PartView.{IsPartOf}
use Rattle.sf_part.proofs.Held.{times-regions}
use Rattle.sf_part.proofs.Orders.{order-callee}
use Rattle.sf_part.proofs.Owned.{Grows, callee-counts, callee-no_init, callee-variables, opened-grows, opened-there}
use Rattle.sf_part.proofs.Sites.{inside-block, sites-block}

-- an own variable after the references is in the room
own-past : (caller : Var → Slot) (xs : List Occurrence) (room : Room) (j : ℕ)
    → own_slot caller xs room (length xs + j) ≡ own room.event (room.first + j)
own-past caller [] room j =
    let e : zero + j ≡ j = omega arith in ap (λ n. own room.event (room.first + n)) e
own-past caller (x ∷ xs) room j =
    let e : suc (length xs) + j ≡ suc (length xs + j) = omega arith in
    ap (own_slot caller (x ∷ xs) room) e ∙ own-past caller xs room j

-- One child
module _ (p : Program) (formed : IsFormed p) (store : Store) (f : Fixed) (rest : List Item)
    (c : Command) (d : Call) (h : Procedure) (none : head_regions c ≡ [])
    (call : Contains (head_calls c) d)
    (caller : FrameIsOf p store (record { fixed = f; todo = command c ∷ rest }))
    (there : procedure_at p d.callee ≡ Some h) (room : Room) (many : room.count ≡ room_count h)
    (after : Store) (grows : Grows store after)
    (opens : (slot : Slot) → in_room room slot ≡ true → is_some (after slot) ≡ true) where
  abbrev frame : Frame
  frame = callee_frame f.slots d h room

  -- a slot of the room is that of a variable
  room-named : (slot : Slot) → in_room room slot ≡ true → IsNamed p frame h slot
  room-named (shared r i) e = absurd (true≢false (sym e))
  room-named (own n i) e =
      let event : n ≡ room.event = at-same room.event n (and-left (n == room.event) _ e) in
      let both : leb room.first i && ltb i (room.first + room.count) ≡ true =
      and-right (n == room.event) _ e in
      let low : leb room.first i ≡ true = and-left (leb room.first i) _ both in
      let high : ltb i (room.first + room.count) ≡ true = and-right (leb room.first i) _ both in
      let above : room.first ≤ i = grind (arith, nat_tests) in
      let below : i < room.first + room.count = grind (arith, nat_tests) in
      let refs = callee-counts p formed store f rest c d h none call caller there room many after
      grows opens in
      let place : i ≡ room.first + (i - room.first) = omega arith in (
        Own (length d.references + (i - room.first)),
        omega (arith, many, refs),
        ap₂ own event place ∙ sym (own-past f.slots d.references room (i - room.first)),
      )

  pub child-frame : (whole part : Store) → HasJust p frame h whole part → FrameIsOf p part frame
  child-frame whole part just = record {
    procedure = h;
    there = there;
    todo = λ z k. subst (λ w. Contains w z) (sites-block h.body) k;
    names = λ r i. refl;
    variables = λ v k. (just.variables (frame.fixed.slots v)).1 (v, k, refl);
    room = λ slot k. (just.variables slot).1 (room-named slot k);
  }

  -- it holds nothing
  child-regions : (r : ResId) → regions p r (frame ∷ []) ≡ 0
  child-regions r =
      let no_init = callee-no_init p formed store f rest c d h none call caller there room many
      after
      grows opens in
      let none_through : throughout p r frame.fixed ≡ 0 =
      ap (λ z. cond (z && ltb r.0 (length p.resources)) 1 0) no_init in
      let block : exits r (items h.body) ≡ 0 = block-exits r h.body in
      omega arith

  pub child-of : HasEntered p (record { fixed = f; todo = command c ∷ rest }) → (whole : Store)
      (a : Part) → HasJust p frame h whole a.store → a.stand ≡ running (frame ∷ [])
      → a.holds ≡ (λ r. false) → IsOf p a
  child-of entered whole a just stand holds = record {
    stands = subst (StandIsOf p a.store) (sym stand) (child-frame whole a.store just, tt);
    inside = λ r. ap (λ z. times_held p r (frames_in z)) stand ∙ times-regions p r (frame ∷ [])
        ∙ child-regions r ∙ sym (ap (λ (k : ResId → Bool). cond (k r) 1 0) holds);
    order = subst (λ z. AreInOrder p (frames_in z)) (sym stand) (
      order-callee p store f c d h room rest call caller entered,
      callee-no_init p formed store f rest c d h none call caller there room many after grows opens,
      tt,
    );
  }

-- What is planned for both
module _ (p : Program) (formed : IsFormed p) (a : CodePart) (of : IsPartOf p a) (number : ℕ)
    (x : Forked) (s : IsForked p a number x) where
  abbrev before : Common
  before = common_of a.shared

  abbrev both_calls : Command
  both_calls = fork s.place s.one s.two

  abbrev old : List Frame
  old = frames_with s.fixed (command both_calls ∷ s.rest) s.below

  pub fork-frames : FramesAreOf p before.store old
  fork-frames = subst (StandIsOf p before.store) s.stand of.is.stands

  pub fork-order : AreInOrder p old
  fork-order = subst (λ z. AreInOrder p (frames_in z)) s.stand of.is.order

  abbrev left : Procedure
  left = s.does.1

  abbrev right : Procedure
  right = s.does.2

  abbrev left_room : Room
  left_room = room_for left number 0

  abbrev right_room : Room
  right_room = room_for right number (room_count left)

  abbrev between : Common
  between = open_room left_room (arguments s.fixed.slots before.store s.one) before

  abbrev after : Common
  after = open_room right_room (arguments s.fixed.slots before.store s.two) between

  pub fork-after : forked_of x before ≡ after
  fork-after = s.does.5

  abbrev left_frame : Frame
  left_frame = callee_frame s.fixed.slots s.one left left_room

  abbrev right_frame : Frame
  right_frame = callee_frame s.fixed.slots s.two right right_room

  tasks : waits (frames_with s.fixed s.rest s.below) (runs (frame_of x.left.frame ∷ []))
      (runs (frame_of x.right.frame ∷ []))
      ≡ waits (frames_with s.fixed s.rest s.below) (runs (left_frame ∷ []))
      (runs (right_frame ∷ []))
  tasks = s.does.6

  pub fork-left : frame_of x.left.frame ≡ left_frame
  fork-left = let e = tasks in cc

  pub fork-right : frame_of x.right.frame ≡ right_frame
  fork-right = let e = tasks in cc

  grows : Grows before.store after.store
  grows slot e = opened-grows right_room (arguments s.fixed.slots before.store s.two) between slot
      (opened-grows left_room (arguments s.fixed.slots before.store s.one) before slot e)

  left_opens : (slot : Slot) → in_room left_room slot ≡ true → is_some (after.store slot) ≡ true
  left_opens slot e = opened-grows right_room (arguments s.fixed.slots before.store s.two) between
      slot (opened-there left_room (arguments s.fixed.slots before.store s.one) before slot e)

  right_opens : (slot : Slot) → in_room right_room slot ≡ true
      → is_some (after.store slot) ≡ true
  right_opens = opened-there right_room (arguments s.fixed.slots before.store s.two) between

  left_call : Contains (head_calls both_calls) s.one
  left_call = (contains-cons s.one (s.two ∷ []) s.one).1 (inl refl)

  right_call : Contains (head_calls both_calls) s.two
  right_call = (contains-cons s.one (s.two ∷ []) s.two).1
      (inr ((contains-cons s.two [] s.two).1 (inl refl)))

  first : (callee : _) (d : Call) (h : Procedure) (room : Room) → callee ≡ d.callee
      → procedure_at p d.callee ≡ Some h → sets_up p d.callee ≡ false
      → IsFirstOf p callee (callee_frame s.fixed.slots d h room) h
  first callee d h room e there no_init = record {
    there = ap (procedure_at p) e ∙ there;
    callee_is = sym e;
    names = λ r i. refl;
    outside = inside-block h.body;
    no_init = ap (sets_up p) e ∙ no_init;
  }

  -- each is the first frame of its procedure, with its variables
  pub fork-first : AreFirst p before x
  fork-first = record {
    left = left;
    right = right;
    left_first = subst (λ z. IsFirstOf p x.callees.0 z left) (sym fork-left)
        (first x.callees.0 s.one left left_room s.left_is s.does.3
        (callee-no_init p formed before.store s.fixed s.rest both_calls s.one left refl left_call
        fork-frames.0 s.does.3 left_room refl after.store grows left_opens));
    right_first = subst (λ z. IsFirstOf p x.callees.1 z right) (sym fork-right)
        (first x.callees.1 s.two right right_room s.right_is s.does.4
        (callee-no_init p formed before.store s.fixed s.rest both_calls s.two right refl right_call
        fork-frames.0 s.does.4 right_room refl after.store grows right_opens));
    left_there = subst (λ z. HasVariablesOf p z left (forked_of x before).store) (sym fork-left)
        (subst (λ (z : Common). HasVariablesOf p left_frame left z.store) (sym fork-after)
        (callee-variables p formed before.store s.fixed s.rest both_calls s.one left refl left_call
        fork-frames.0 s.does.3 left_room refl after.store grows left_opens));
    right_there = subst (λ z. HasVariablesOf p z right (forked_of x before).store) (sym fork-right)
        (subst (λ (z : Common). HasVariablesOf p right_frame right z.store) (sym fork-after)
        (callee-variables p formed before.store s.fixed s.rest both_calls s.two right refl
        right_call fork-frames.0 s.does.4 right_room refl after.store grows right_opens));
  }

  -- what was there is there once both rooms are
  pub fork-grows : Grows before.store (forked_of x before).store
  fork-grows = subst (λ (z : Common). Grows before.store z.store) (sym fork-after) grows

  -- a child with the frame that was planned is the program's where it is with the frame of the step
  as-planned : {f g : Frame} (h : Procedure) → f ≡ g → (whole : Store) (b : Part)
      → (HasJust p g h whole b.store → b.stand ≡ running (g ∷ []) → b.holds ≡ (λ r. false) → IsOf p b)
      → HasJust p f h whole b.store → b.stand ≡ running (f ∷ []) → b.holds ≡ (λ r. false) → IsOf p b
  as-planned h e whole b of just stand holds =
      of (subst (λ z. HasJust p z h whole b.store) e just) (stand ∙ ap (λ z. running (z ∷ [])) e) holds

  pub fork-left_of : (whole : Store) (b : Part)
      → HasJust p (frame_of x.left.frame) left whole b.store
      → b.stand ≡ running (frame_of x.left.frame ∷ []) → b.holds ≡ (λ r. false) → IsOf p b
  fork-left_of whole b = as-planned left fork-left whole b
      (child-of p formed before.store s.fixed s.rest both_calls s.one left refl left_call
      fork-frames.0 s.does.3 left_room refl after.store grows left_opens fork-order.0 whole b)

  pub fork-right_of : (whole : Store) (b : Part)
      → HasJust p (frame_of x.right.frame) right whole b.store
      → b.stand ≡ running (frame_of x.right.frame ∷ []) → b.holds ≡ (λ r. false) → IsOf p b
  fork-right_of whole b = as-planned right fork-right whole b
      (child-of p formed before.store s.fixed s.rest both_calls s.two right refl right_call
      fork-frames.0 s.does.4 right_room refl after.store grows right_opens fork-order.0 whole b)
