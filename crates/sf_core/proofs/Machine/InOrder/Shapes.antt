-- The events of a frame by what they do to its stack: most go on with other things to do; calls and forks open
-- rooms.
-- Names: `WHAT-within` says what is well formed, `WHAT-shape` gives the shape.
use Rattle.std.specs.Prelude.{◌≡◌, ◌+◌, ◌==◌, ◌<◌, cond, List, ◌∷◌, ◌++◌, Some, None, ◌⊎◌, length}
use Rattle.std.specs.List.{AllByRecursion}
use Rattle.std.proofs.Common.{ap, refl, inl, inr}
use Rattle.sf_base.specs.declared.ids.ResId.{ResId}
use Rattle.sf_base.specs.declared.ids.Var.{Var}
use Rattle.sf_base.specs.declared.ids.Var.TheVariants.{Own, Shared}
use Rattle.sf_base.specs.declared.limits.TheConstants.{TURNS}
use Rattle.sf_base.specs.declared.value.Value.{Value}
use Rattle.sf_core.specs.Machine.Config.{Item, command, leave, items, Fixed, Frame, Task, runs, Path, Common}
use Rattle.sf_core.specs.Checked.Machine.InOrder.{ItemWithin, exits}
use Rattle.sf_core.specs.Machine.Step.{Event, set_slot, set_holder, open_room, room_count, room_for, arguments, callee_frame, fork_task, task_with, procedure_at, Does}
use Rattle.sf_core.specs.Program.Formed.{IsInBody, IsSettable, CommandWithin, BlockWithin, CallWithin}
use Rattle.sf_core.specs.Program.Syntax.{Block, done, then, Call, Command, assign, look_up, mutate, new, dispose, if, while, call, fork, with, Procedure, Program}

-- the store stays, or a variable of the procedure gets a value
abbrev pub SetsVariable : Program → Procedure → Fixed → Common → Common → Type 0
SetsVariable p g f s t = (t.store ≡ s.store)
    ⊎ ((x : Var) × (v : Value) × IsInBody p g x × (t.store ≡ (set_slot (f.slots x) v s).store))

-- who holds which resource, and the regions that are still to leave: as before, or one region is entered, or left
pub data Hands (path : Path) (s t : Common) (old todo : List Item) : Type 0 where
  same : t.held ≡ s.held → ((r : ResId) → exits r todo ≡ exits r old) → Hands path s t old todo
  enters : (q : ResId) → s.held q ≡ None → t.held ≡ (set_holder q (Some path) s).held
      → ((r : ResId) → exits r todo ≡ cond (q.0 == r.0) 1 0 + exits r old) → Hands path s t old todo
  exits_one : (q : ResId) → s.held q ≡ Some path → t.held ≡ (set_holder q None s).held
      → ((r : ResId) → exits r old ≡ cond (q.0 == r.0) 1 0 + exits r todo) → Hands path s t old todo

-- the frame goes on with that to do
pub record GoesOn (p : Program) (g : Procedure) (path : Path) (s : Common) (f : Fixed) (below : List Frame)
    (old : List Item) (t : Common) (u : Task) : Type 0 where
  pub todo : List Item
  pub is : u ≡ task_with f todo below
  pub within : AllByRecursion (ItemWithin p g) todo
  pub sets : SetsVariable p g f s t
  pub hands : Hands path s t old todo

-- the frame calls a procedure that is there
pub record CallsOne (p : Program) (g : Procedure) (ev : Event) (s : Common) (f : Fixed) (below : List Frame)
    (rest : List Item) (t : Common) (u : Task) : Type 0 where
  pub c : Call
  pub h : Procedure
  pub within : CallWithin p g c
  pub there : procedure_at p c.callee ≡ Some h
  pub common : t ≡ open_room (room_for h ev.number 0) (arguments f.slots s.store c) s
  pub is : u ≡ runs (callee_frame f.slots c h (room_for h ev.number 0) ∷ record { fixed = f; todo = rest } ∷ below)

-- the frame forks
pub record CallsTwo (p : Program) (g : Procedure) (ev : Event) (s : Common) (f : Fixed) (below : List Frame)
    (rest : List Item) (t : Common) (u : Task) : Type 0 where
  pub c : Call
  pub d : Call
  pub h : Procedure
  pub k : Procedure
  pub turns : length ev.task < TURNS
  pub within : CallWithin p g c
  pub within_right : CallWithin p g d
  pub there : procedure_at p c.callee ≡ Some h
  pub there_right : procedure_at p d.callee ≡ Some k
  pub common : t ≡ open_room (room_for k ev.number (room_count h)) (arguments f.slots s.store d)
      (open_room (room_for h ev.number 0) (arguments f.slots s.store c) s)
  pub is : u ≡ fork_task f.slots c h d k ev.number (record { fixed = f; todo = rest } ∷ below)

-- one of these
abbrev pub Shape : Program → Procedure → Event → Common → Fixed → List Frame → (rest : List Item) → Common → Task
    → Type 0
Shape p g ev s f below rest t u = GoesOn p g ev.task s f below rest t u
    ⊎ (CallsOne p g ev s f below rest t u ⊎ CallsTwo p g ev s f below rest t u)

-- a variable that may be set may be read
pub settable-in : (p : Program) (g : Procedure) (x : Var) → IsSettable p g x → IsInBody p g x
settable-in p g (Own i) h = h.0
settable-in p g (Shared r i) h = h

-- the commands of a well-formed block, before well-formed items
pub items-within : (p : Program) (g : Procedure) (b : Block) (rest : List Item) → BlockWithin p g b
    → AllByRecursion (ItemWithin p g) rest → AllByRecursion (ItemWithin p g) (items b ++ rest)
items-within p g done rest h k = k
items-within p g (then c b) rest h k = (h.0, items-within p g b rest h.1 k)

-- a block leaves no regions
pub items-exits : (r : ResId) (b : Block) (rest : List Item) → exits r (items b ++ rest) ≡ exits r rest
items-exits r done rest = refl
items-exits r (then c b) rest = items-exits r b rest

-- nor does it alone
pub block-exits : (r : ResId) (b : Block) → exits r (items b) ≡ 0
block-exits r done = refl
block-exits r (then c b) = block-exits r b

-- and it is well formed alone
pub block-within : (p : Program) (g : Procedure) (b : Block) → BlockWithin p g b
    → AllByRecursion (ItemWithin p g) (items b)
block-within p g done h = tt
block-within p g (then c b) h = (h.0, block-within p g b h.1)

module _ (p : Program) (g : Procedure) (ev : Event) (s : Common) (f : Fixed) (below : List Frame)
    (rest : List Item) (t : Common) (u : Task) (k : AllByRecursion (ItemWithin p g) rest) where
  -- a variable is set
  sets-shape : (x : Var) (v : Value) → IsSettable p g x → t.store ≡ (set_slot (f.slots x) v s).store
      → t.held ≡ s.held → u ≡ task_with f rest below → Shape p g ev s f below rest t u
  sets-shape x v h e i j = inl (record {
    todo = rest;
    is = j;
    within = k;
    sets = inr (x, v, settable-in p g x h, e);
    hands = same i (λ r. refl);
  })

  -- the store stays
  stays-shape : t.store ≡ s.store → t.held ≡ s.held → u ≡ task_with f rest below → Shape p g ev s f below rest t u
  stays-shape e i j = inl (record { todo = rest; is = j; within = k; sets = inl e; hands = same i (λ r. refl) })

  -- the one or the other block comes next
  turns-shape : (todo : List Item) → AllByRecursion (ItemWithin p g) todo → ((r : ResId) → exits r todo ≡ exits r rest)
      → t ≡ s → u ≡ task_with f todo below → Shape p g ev s f below rest t u
  turns-shape todo h n e j = inl (record {
    todo = todo;
    is = j;
    within = h;
    sets = inl (ap (λ (z : Common). z.store) e);
    hands = same (ap (λ (z : Common). z.held) e) n;
  })

  -- a command's event
  pub command-shape : (c : Command) → CommandWithin p g c → Does p ev s f below c rest t u
      → Shape p g ev s f below rest t u
  command-shape (assign place x e) h d =
      sets-shape x.var _ h.0 (ap (λ (z : Common). z.store) d.0) (ap (λ (z : Common). z.held) d.0) d.1
  command-shape (look_up place x e field) h d =
      sets-shape x.var _ h.0 (ap (λ (z : Common). z.store) d.3) (ap (λ (z : Common). z.held) d.3) d.4
  command-shape (mutate place e field v) h d =
      stays-shape (ap (λ (z : Common). z.store) d.3) (ap (λ (z : Common). z.held) d.3) d.4
  command-shape (new place x) h d =
      sets-shape x.var _ h (ap (λ (z : Common). z.store) d.2) (ap (λ (z : Common). z.held) d.2) d.3
  command-shape (dispose place e) h d =
      stays-shape (ap (λ (z : Common). z.store) d.3) (ap (λ (z : Common). z.held) d.3) d.4
  command-shape (if place test this that) h d = elim d.1 [
    | inl y ↦ turns-shape _ (items-within p g this rest h.1 k) (λ r. items-exits r this rest) d.0 y.1
    | inr n ↦ turns-shape _ (items-within p g that rest h.2 k) (λ r. items-exits r that rest) d.0 n.1
  ]
  command-shape (while place test kept body) h d = elim d.1 [
    | inl y ↦ turns-shape _ (items-within p g body (command (while place test kept body) ∷ rest) h.2 (h, k))
        (λ r. items-exits r body (command (while place test kept body) ∷ rest)) d.0 y.1
    | inr n ↦ turns-shape rest k (λ r. refl) d.0 n.1
  ]
  command-shape (call place c) h d = inr (inl (record {
    c = c;
    h = d.0;
    within = h;
    there = d.1;
    common = d.2;
    is = d.3;
  }))
  command-shape (fork place c e) h d = inr (inr (record {
    c = c;
    d = e;
    h = d.1;
    k = d.2;
    turns = d.0;
    within = h.0;
    within_right = h.1;
    there = d.3;
    there_right = d.4;
    common = d.5;
    is = d.6;
  }))
  command-shape (with place q test body) h d = inl (record {
    todo = items body ++ (leave q ∷ rest);
    is = d.3;
    within = items-within p g body (leave q ∷ rest) h.2 (h.0, k);
    sets = inl (ap (λ (z : Common). z.store) d.2);
    hands = enters q d.0 (ap (λ (z : Common). z.held) d.2) (λ r. items-exits r body (leave q ∷ rest));
  })

  -- the exit from a region
  pub exit-shape : (q : ResId) → s.held q ≡ Some ev.task → t ≡ set_holder q None s → u ≡ task_with f rest below
      → GoesOn p g ev.task s f below (leave q ∷ rest) t u
  exit-shape q h e j = record {
    todo = rest;
    is = j;
    within = k;
    sets = inl (ap (λ (z : Common). z.store) e);
    hands = exits_one q h (ap (λ (z : Common). z.held) e) (λ r. refl);
  }
