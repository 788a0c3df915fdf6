-- The frames of a part have called one another, and entered what they are inside of.
-- Names: `order-LAW`.
use Rattle.std.specs.Prelude.{◌≡◌, ◌++◌, ℕ, zero, suc, List, [], ◌∷◌, None, Contains}
use Rattle.std.proofs.Common.{sym, ap, ◌∙◌, refl, subst, inl, inr}
use Rattle.sf_base.proofs.Elements.{contains-cons, contains-nil, contains-rest, contains-single_of}
use Rattle.sf_base.specs.declared.ids.ProcId.{ProcId}
use Rattle.sf_base.specs.declared.ids.ResId.{ResId}
use Rattle.sf_base.specs.declared.ids.Var.{Var}
use Rattle.sf_base.specs.declared.ids.Var.TheVariants.{Own, Shared}
use Rattle.sf_base.specs.declared.place.Place.{Place}
use Rattle.sf_base.specs.HeapStore.{Slot, Store, shared}
use Rattle.sf_calls.specs.Conditions.{Calls}
use Rattle.sf_calls.specs.Outside.{IsAmong}
use Rattle.sf_calls.specs.Reaches.{directly, through}
use Rattle.sf_core.specs.declared.assertion.Test.{Test}
use Rattle.sf_core.specs.declared.command.Expr.{Expr}
use Rattle.sf_core.specs.declared.command.Occurrence.{Occurrence}
use Rattle.sf_core.specs.Machine.Config.{Item, command, leave, items, Room, Fixed, Frame, Task, runs, Common}
use Rattle.sf_core.specs.Machine.Next.{next}
use Rattle.sf_core.specs.Machine.Step.{Event, Does, TaskStep, callee_frame, own_slot, room_for, slots_of, task_with}
use Rattle.sf_core.specs.Program.Heads.{head_calls, sites}
use Rattle.sf_core.specs.Program.Syntax.{Block, Call, Command, assign, look_up, mutate, new, dispose, if, while, call, fork, with, Procedure, Program}
use Rattle.sf_frame.specs.Checked.Nexts.{frames_with}
use Rattle.sf_part.specs.Of.{AreInOrder, FrameIsOf, FramesAreOf, HasCalled, HasEntered, IsPassed, inside}
use Rattle.sf_part.specs.Steps.{IsLocal, IsPrivate}
use Rattle.sf_part.proofs.Sites.{inside-block, inside-items, sites-first}

-- What a frame has called its procedure calls
pub has-called : (p : Program) (g : Frame) (f : ProcId) → HasCalled p g f
    → Calls p None g.fixed.procedure f
has-called p g f (h, there, (s, m, (e, makes))) = (h, there, (s, m, (tt, makes)))

-- Whatever else a frame has to do inside of the same regions
pub order-on : (p : Program) (f : Fixed) (old todo : List Item) (below : List Frame)
    → inside todo ≡ inside old → AreInOrder p (record { fixed = f; todo = old } ∷ below)
    → AreInOrder p (record { fixed = f; todo = todo } ∷ below)
order-on p f old todo below e h = (
  record {
    regions = λ r m. (h.0).regions r (subst (λ z. Contains z r) e m);
    passed = (h.0).passed;
  },
  h.1,
  h.2,
)

-- in the body of a region that it enters
pub order-enter : (p : Program) (store : Store) (f : Fixed) (place : Place) (r : ResId)
    (test : Test Expr) (body : Block) (rest : List Item) (below : List Frame)
    → FrameIsOf p store (record { fixed = f; todo = command (with place r test body) ∷ rest })
    → AreInOrder p (frames_with f (command (with place r test body) ∷ rest) below)
    → AreInOrder p (frames_with f (items body ++ (leave r ∷ rest)) below)
order-enter p store f place r test body rest below of h = (
  record {
    regions = λ q m. elim ((contains-cons r (inside rest) q).0
        (subst (λ z. Contains z q) (inside-items body (leave r ∷ rest)) m)) [
          | inl e ↦ (
            of.procedure,
            of.there,
            (
              record { entered = inside rest; command = with place r test body },
              of.todo _ (sites-first (with place r test body) rest),
              contains-single_of r q e,
            ),
          )
          | inr k ↦ (h.0).regions q k
        ];
    passed = (h.0).passed;
  },
  h.1,
  h.2,
)

-- after a region that it leaves
pub order-leave : (p : Program) (f : Fixed) (r : ResId) (rest : List Item) (below : List Frame)
    → AreInOrder p (frames_with f (leave r ∷ rest) below) → AreInOrder p (frames_with f rest below)
order-leave p f r rest below h = (
  record {
    regions = λ q m. (h.0).regions q (contains-rest r (inside rest) q m);
    passed = (h.0).passed;
  },
  h.1,
  h.2,
)

-- The frame of a call
-- an own variable of a callee names one of a resource only where a reference of the call does
named-by : (caller : Var → Slot) (room : Room) (xs : List Occurrence) (n : ℕ) (r : ResId) (i : ℕ)
    → own_slot caller xs room n ≡ shared r i
    → (x : Occurrence) × Contains xs x × (caller x.var ≡ shared r i)
named-by caller room [] n r i e = absurd (cc)
named-by caller room (x ∷ xs) zero r i e = (x, (contains-cons x xs x).1 (inl refl), e)
named-by caller room (x ∷ xs) (suc n) r i e =
    let (y, m, k) = named-by caller room xs n r i e in (y, (contains-cons x xs y).1 (inr m), k)

among-of : (x : Var) (ys : List Occurrence) (y : Occurrence) → Contains ys y → y.var ≡ x
    → IsAmong x ys
among-of x [] y c e = absurd (contains-nil y c)
among-of x (z ∷ zs) y c e = elim ((contains-cons z zs y).0 c) [
  | inl s ↦ inl (ap (λ (t : Occurrence). t.var) s ∙ e)
  | inr k ↦ inr (among-of x zs y k e)
]

module _ (p : Program) (store : Store) (f : Fixed) (c : Command) (d : Call) (h : Procedure)
    (room : Room) (rest : List Item)
    (call : Contains (head_calls c) d)
    (of : FrameIsOf p store (record { fixed = f; todo = command c ∷ rest }))
    (entered : HasEntered p (record { fixed = f; todo = command c ∷ rest })) where
  here : Contains (sites [] (of.procedure).body) (record { entered = inside rest; command = c })
  here = of.todo (record { entered = inside rest; command = c }) (sites-first c rest)

  pub order-calls : Calls p None f.procedure d.callee
  order-calls = (of.procedure, of.there, (_, here, (tt, (d, call, refl))))

  -- the call is made inside of the regions that the caller still has to leave
  pub order-called : HasCalled p (record { fixed = f; todo = rest }) d.callee
  order-called = (of.procedure, of.there, (_, here, (refl, (d, call, refl))))

  passed : (n : ℕ) (r : ResId) (i : ℕ) → slots_of f.slots d room (Own n) ≡ shared r i
      → IsPassed p (Shared r i) d.callee
  passed n r i e =
      let (x, m, k) = named-by f.slots room d.references n r i e in go x m x.var refl k
    where
      go : (x : Occurrence) → Contains d.references x → (y : Var) → x.var ≡ y
          → f.slots x.var ≡ shared r i → IsPassed p (Shared r i) d.callee
      go x m (Own j) is k =
          through f.procedure order-calls (entered.passed j r i (sym (ap f.slots is) ∙ k))
      go x m (Shared q j) is k =
          let same : shared q j ≡ shared r i = sym (of.names q j) ∙ sym (ap f.slots is) ∙ k in
          let var : x.var ≡ Shared r i = is ∙ (let a : q ≡ r = cc in let b : j ≡ i = cc in
          λ l. Shared (a l) (b l)) in
          directly (
            f.procedure,
            (
              of.procedure,
              of.there,
              (_, here, (d, call, (refl, among-of (Shared r i) d.references x m var))),
            ),
          )

  -- the callee's frame is in order
  pub order-callee : HasEntered p (callee_frame f.slots d h room)
  order-callee = record {
    regions = λ r m. absurd (contains-nil r (subst (λ z. Contains z r) (inside-block h.body) m));
    passed = passed;
  }

-- The frames of a task after an event are in order
pub record Orders (p : Program) (u : Task) : Type 0 where
  pub frames : List Frame
  pub is : u ≡ runs frames
  pub order : AreInOrder p frames

module _ (p : Program) (f : Fixed) (below : List Frame) (c : Command) (rest : List Item) (u : Task)
    (h : AreInOrder p (record { fixed = f; todo = command c ∷ rest } ∷ below)) where
  goes-on : (todo : List Item) → u ≡ task_with f todo below → inside todo ≡ inside rest → Orders p u
  goes-on todo is e = record {
    frames = record { fixed = f; todo = todo } ∷ below;
    is = is;
    order = order-on p f (command c ∷ rest) todo below e h;
  }

-- of a command that is the task's own affair
order-local : (p : Program) (ev : Event) (s : Common) (f : Fixed) (below : List Frame)
    (c : Command) (rest : List Item) (t : Common) (u : Task) → IsLocal c
    → FrameIsOf p s.store (record { fixed = f; todo = command c ∷ rest })
    → AreInOrder p (record { fixed = f; todo = command c ∷ rest } ∷ below)
    → Does p ev s f below c rest t u → Orders p u
order-local p ev s f below (assign q x e) rest t u l of h d =
    goes-on p f below (assign q x e) rest u h rest d.1 refl
order-local p ev s f below (look_up q x e k) rest t u l of h d =
    goes-on p f below (look_up q x e k) rest u h rest d.4 refl
order-local p ev s f below (mutate q e k v) rest t u l of h d =
    goes-on p f below (mutate q e k v) rest u h rest d.4 refl
order-local p ev s f below (new q x) rest t u l of h d =
    goes-on p f below (new q x) rest u h rest d.3 refl
order-local p ev s f below (dispose q e) rest t u l of h d =
    goes-on p f below (dispose q e) rest u h rest d.4 refl
order-local p ev s f below (if q test this that) rest t u l of h d = elim d.1 [
  | inl y ↦ goes-on p f below (if q test this that) rest u h (items this ++ rest) y.1
      (inside-items this rest)
  | inr m ↦ goes-on p f below (if q test this that) rest u h (items that ++ rest) m.1
      (inside-items that rest)
]
order-local p ev s f below (while q test kept body) rest t u l of h d = elim d.1 [
  | inl y ↦ goes-on p f below (while q test kept body) rest u h
      (items body ++ command (while q test kept body) ∷ rest) y.1
      (inside-items body (command (while q test kept body) ∷ rest))
  | inr m ↦ goes-on p f below (while q test kept body) rest u h rest m.1 refl
]
order-local p ev s f below (call q c) rest t u l of h d =
    let made = contains-single_of c c refl in
    record {
      frames = callee_frame f.slots c d.0 (room_for d.0 ev.number 0)
          ∷ record { fixed = f; todo = rest } ∷ below;
      is = d.3;
      order = (
        order-callee p s.store f (call q c) c d.0 (room_for d.0 ev.number 0) rest made of h.0,
        inl (order-called p s.store f (call q c) c d.0 (room_for d.0 ev.number 0) rest made of h.0),
        order-on p f (command (call q c) ∷ rest) rest below refl h,
      );
    }
order-local p ev s f below (fork q c e) rest t u l of h d = absurd l
order-local p ev s f below (with q r test body) rest t u l of h d = absurd l

-- of whatever is its own affair
pub order-private : (p : Program) (ev : Event) (s t : Common) (frames : List Frame) (u : Task)
    → IsPrivate p (next (runs frames)) → FramesAreOf p s.store frames → AreInOrder p frames
    → TaskStep p ev s (runs frames) t u → Orders p u
order-private p ev s t [] u l of h d = absurd l
order-private p ev s t (f ∷ below) u l of h d = go f.todo refl
  where
    go : (todo : List Item) → f.todo ≡ todo → Orders p u
    go [] e =
        let step = subst (λ z. TaskStep p ev s
        (runs (record { fixed = f.fixed; todo = z } ∷ below)) t u) e d in
        record { frames = below; is = step.2; order = h.2 }
    go (leave r ∷ todo) e = absurd (subst
        (λ z. IsPrivate p (next (runs (record { fixed = f.fixed; todo = z } ∷ below)))) e l)
    go (command c ∷ todo) e =
        order-local p ev s f.fixed below c todo t u
        (subst (λ z. IsPrivate p (next (runs (record { fixed = f.fixed; todo = z } ∷ below)))) e l)
        (subst (λ z. FrameIsOf p s.store (record { fixed = f.fixed; todo = z })) e of.0)
        (subst (λ z. AreInOrder p (record { fixed = f.fixed; todo = z } ∷ below)) e h)
        (subst (λ z. TaskStep p ev s (runs (record { fixed = f.fixed; todo = z } ∷ below)) t u) e d)
