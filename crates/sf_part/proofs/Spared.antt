-- Frames that name none of the slots that a part gives up are the program's in what is left.
-- Names: `spare-LAW`.
use Rattle.std.specs.Prelude.{◌≡◌, ◌==◌, ◌&&◌, ◌<◌, ℕ, true, cond, ltb, List, [], ◌∷◌, length, Contains, is_some}
use Rattle.std.specs.List.{AllByRecursion}
use Rattle.std.proofs.Common.{true≢false, sym, ap, ap₂, ◌∙◌, subst, inl, inr, arith}
use Rattle.std.proofs.lemmas.Bool.Decides.{nat_tests}
use Rattle.sf_base.proofs.Elements.{contains-cons, contains-nil}
use Rattle.sf_base.proofs.HeapSplits.{at-self}
use Rattle.sf_base.specs.declared.ids.ResId.{ResId}
use Rattle.sf_base.specs.declared.ids.Var.{Var}
use Rattle.sf_base.specs.declared.ids.Var.TheVariants.{Own, Shared}
use Rattle.sf_base.specs.HeapStore.{Slot, Store, shared}
use Rattle.sf_calls.specs.Conditions.{Enters, Free, Takes}
use Rattle.sf_calls.specs.FirstBreach.{Conditions}
use Rattle.sf_calls.specs.Reaches.{directly}
use Rattle.sf_core.specs.Checked.Machine.InOrder.{exits, regions, throughout}
use Rattle.sf_core.specs.Machine.Config.{Item, command, leave, Frame, in_room}
use Rattle.sf_core.specs.Machine.HasThroughout.{HasThroughout}
use Rattle.sf_core.specs.Program.Formed.{IsFormed}
use Rattle.sf_core.specs.Program.Syntax.{Procedure, Program}
use Rattle.sf_part.specs.Of.{AreInOrder, FrameIsOf, FramesAreOf, IsAbove, IsVariable, inside, without}
use Rattle.sf_part.proofs.Orders.{has-called}
use Rattle.sf_part.proofs.Owned.{grows-cond}
use Rattle.sf_part.proofs.Supplies.{one_if}
use Rattle.sf_part.proofs.Unheld.{free-unheld, held-called, held-entered, held-takes, passed-not_taken}

-- no variable of the frame names a slot that goes
abbrev pub Spares : Program → (Slot → Type 0) → Frame → Type 0
Spares p gone f = (g : Procedure) (x : Var) → IsVariable p f g x → gone (f.fixed.slots x) → ⊥

-- what doesn't go stays
abbrev pub Stays : (Slot → Type 0) → (before after : Store) → Type 0
Stays gone before after = (slot : Slot) → (gone slot → ⊥) → is_some (before slot) ≡ true
    → is_some (after slot) ≡ true

module _ (p : Program) (gone : Slot → Type 0)
    (outside : (slot : Slot) → gone slot → (r : ResId) × (i : ℕ) × (slot ≡ shared r i)) where
  -- no slot of a room goes
  not-in_room : (f : Frame) (slot : Slot) → in_room f.fixed.room slot ≡ true → gone slot → ⊥
  not-in_room f slot h g =
      let (r, i, e) = outside slot g in
      true≢false (sym h ∙ ap (in_room f.fixed.room) e)

  spare-frame : (s t : Store) (f : Frame) → Stays gone s t → Spares p gone f → FrameIsOf p s f
      → FrameIsOf p t f
  spare-frame s t f stays spares h = record {
    procedure = h.procedure;
    there = h.there;
    todo = h.todo;
    names = h.names;
    variables = λ x v. stays (f.fixed.slots x) (spares h.procedure x v) (h.variables x v);
    room = λ slot i. stays slot (not-in_room f slot i) (h.room slot i);
  }

  pub spare-frames : (s t : Store) (fs : List Frame) → Stays gone s t
      → AllByRecursion (Spares p gone) fs → FramesAreOf p s fs → FramesAreOf p t fs
  spare-frames s t [] stays spares h = tt
  spare-frames s t (f ∷ fs) stays spares h = (
    spare-frame s t f stays spares.0 h.0,
    spare-frames (without f.fixed.room s) (without f.fixed.room t) fs
        (λ slot n. grows-cond (in_room f.fixed.room slot) (s slot) (t slot) (stays slot n))
        spares.1 h.1,
  )

-- what isn't to be left has no exit
pub exits-inside : (r : ResId) (todo : List Item) → exits r todo ≡ 0 → Contains (inside todo) r → ⊥
exits-inside r [] e m = contains-nil r m
exits-inside r (command c ∷ todo) e m = exits-inside r todo e m
exits-inside r (leave q ∷ todo) e m = elim ((contains-cons q (inside todo) r).0 m) [
  | inl same ↦
      let one : one_if (q.0 == r.0) ≡ 1 =
      ap one_if (ap (λ (z : ResId). z.0 == r.0) same ∙ at-self r.0) in
      absurd (omega arith)
  | inr k ↦ exits-inside r todo (omega arith) k
]

-- the slots of a resource's variables
abbrev pub GoneOf : ResId → Slot → Type 0
GoneOf r slot = (i : ℕ) × (slot ≡ shared r i)

module _ (p : Program) (formed : IsFormed p) (conditions : Conditions p) (r : ResId)
    (known : r.0 < length p.resources) where
  -- a frame that doesn't have the resource
  pub spares : (store : Store) (f : Frame) → (HasThroughout p f.fixed.procedure r → ⊥)
      → ((n i : ℕ) → f.fixed.slots (Own n) ≡ shared r i → ⊥) → exits r f.todo ≡ 0
      → throughout p r f.fixed ≡ 0 → FrameIsOf p store f → Spares p (GoneOf r) f
  spares store f unheld names exits_none none of g (Own n) v (i, e) = names n i e
  spares store f unheld names exits_none none of g (Shared q j) v (i, e) =
      let slot : shared q j ≡ shared r i = sym (of.names q j) ∙ e in
      let same : q ≡ r = cc in
      elim v.1 [
        | inl free ↦ free-unheld p formed conditions r j f.fixed.procedure unheld
            (subst (λ z. Free p f.fixed.procedure (Shared z j)) same free)
        | inr h ↦ elim h [
          | inl m ↦ exits-inside r f.todo exits_none (subst (Contains (inside f.todo)) same m)
          | inr m ↦
              let below : ltb r.0 (length p.resources) ≡ true = grind (arith, nat_tests) in
              let one : throughout p r f.fixed ≡ 1 =
              ap₂ (λ a b. cond {A = ℕ} (a && b) 1 0) m below in
              absurd (omega arith)
        ]
      ]

  -- the frames below one that takes it don't have it
  pub spare-below : (store : Store) (f : Frame) (below : List Frame)
      → Takes p f.fixed.procedure r → throughout p r f.fixed ≡ 0 → regions p r below ≡ 0
      → IsAbove p f.fixed.procedure below → AreInOrder p below → FramesAreOf p store below
      → AllByRecursion (Spares p (GoneOf r)) below
  spare-below store f [] takes none zero above order of = tt
  spare-below store f (g ∷ below) takes none zero (inl called) order of =
      let calls = has-called p g f.fixed.procedure called in
      let also = held-takes p formed conditions r g.fixed.procedure f.fixed.procedure calls takes
      in (
        spares store g
            (held-called p formed conditions r g.fixed.procedure f.fixed.procedure calls takes)
            (λ n i e. passed-not_taken p formed conditions r i g.fixed.procedure
            ((order.0).passed n r i e) also) (omega arith) (omega arith) of.0,
        spare-below (without g.fixed.room store) g below also (omega arith) (omega arith) order.1
            order.2 of.1,
      )
  spare-below store f (g ∷ below) takes none zero (inr sets) order of =
      let under : ltb r.0 (length p.resources) ≡ true = grind (arith, nat_tests) in
      let one : throughout p r f.fixed ≡ 1 =
      ap₂ (λ a b. cond {A = ℕ} (a && b) 1 0) sets.0 under in
      absurd (omega arith)

  -- nor does one that entered it and has left it, and those below that
  pub spare-left : (store : Store) (f : Frame) (below : List Frame)
      → Enters p r f.fixed.procedure → regions p r (f ∷ below) ≡ 0 → AreInOrder p (f ∷ below)
      → FramesAreOf p store (f ∷ below) → AllByRecursion (Spares p (GoneOf r)) (f ∷ below)
  spare-left store f below enters zero order of =
      let takes : Takes p f.fixed.procedure r = directly enters in (
        spares store f (held-entered p formed conditions r f.fixed.procedure enters)
            (λ n i e. passed-not_taken p formed conditions r i f.fixed.procedure
            ((order.0).passed n r i e) takes) (omega arith) (omega arith) of.0,
        spare-below (without f.fixed.room store) f below takes (omega arith) (omega arith) order.1
            order.2 of.1,
      )
