-- What a configuration in order never meets: absent slots, exits from regions that a task isn't inside of, and
-- callees that aren't there.
-- Names: `WHAT-there`.
use Rattle.std.specs.Prelude.{◌≡◌, ◌+◌, ◌==◌, true, Some, None, List, [], ◌∷◌, ◌⊎◌, All, is_some}
use Rattle.std.proofs.Common.{ap, ◌∙◌, subst, inl, inr, arith}
use Rattle.std.proofs.lemmas.List.Elements.{All-head, All-tail}
use Rattle.sf_base.proofs.HeapSplits.{at-self}
use Rattle.sf_base.specs.declared.ids.ResId.{ResId}
use Rattle.sf_base.specs.declared.ids.Var.{Var}
use Rattle.sf_base.specs.declared.value.Value.{Value}
use Rattle.sf_base.specs.declared.value.Value.TheVariants.{Nil as nil, Int as int, Loc as loc}
use Rattle.sf_core.specs.declared.assertion.Test.{Test}
use Rattle.sf_core.specs.declared.assertion.Test.TheVariants.{True, Equal, Differ}
use Rattle.sf_core.specs.declared.command.Expr.{Expr}
use Rattle.sf_core.specs.declared.command.Expr.TheVariants.{Var as Variable, Nil, Int}
use Rattle.sf_base.specs.HeapStore.{Slot, Store}
use Rattle.sf_core.specs.Machine.Config.{Item, command, leave, in_room, Fixed, Frame, Task, runs, waits, Path, Config, task_at}
use Rattle.sf_core.specs.Machine.Enabled.{variable, ReadsExpr, ReadsTest, ReadsAll, IsCellAt, CommandReads, CommandWrites, Reads, Writes}
use Rattle.sf_core.specs.Checked.Machine.InOrder.{exits, regions, throughout, stack_of, IsInOrder}
use Rattle.sf_core.specs.Checked.Machine.Laws.{CommandStops, Stops, CommandMayStop, MayStop}
use Rattle.sf_core.specs.Machine.Next.{frame_next, next}
use Rattle.sf_core.specs.Machine.Step.{procedure_at, task_with}
use Rattle.sf_core.specs.Program.Formed.{IsInBody, ExprWithin, TestWithin, HasCounts, CallWithin, CommandWithin}
use Rattle.sf_core.specs.Program.Syntax.{Call, Command, assign, look_up, mutate, new, dispose, if, while, call, fork, with, Procedure, Program}
use Rattle.sf_core.proofs.Machine.InOrder.Kept.{There, names-now, formed-now}
use Rattle.sf_core.proofs.Machine.InOrder.Shapes.{settable-in}
use Rattle.sf_core.proofs.Machine.InOrder.Slots.{is-there, one_if, names-there}
use Rattle.sf_core.proofs.Machine.Progress.{holder-or_not}

no-cell : (v : Value) (slot : Slot) → IsCellAt v (variable slot) → ⊥
no-cell nil slot h = h
no-cell (int i) slot h = h
no-cell (loc a) slot h = absurd (cc)

module _ (p : Program) (g : Procedure) (slots : Var → Slot) (store : Store)
    (there : (x : Var) → IsInBody p g x → is_some (store (slots x)) ≡ true) where
  expr-there : (e : Expr) (slot : Slot) → ExprWithin (IsInBody p g) e → ReadsExpr slots e (variable slot)
      → is_some (store slot) ≡ true
  expr-there (Variable x) slot h r = let same : slot ≡ slots x.var = cc in
      ap (λ z. is_some (store z)) same ∙ there x.var h
  expr-there Nil slot h r = absurd r
  expr-there (Int i) slot h r = absurd r

  test-there : (test : Test Expr) (slot : Slot) → TestWithin (ExprWithin (IsInBody p g)) test
      → ReadsTest slots test (variable slot) → is_some (store slot) ≡ true
  test-there True slot h r = absurd r
  test-there (Equal x y) slot h r =
      elim r [ inl i ↦ expr-there x slot h.0 i | inr i ↦ expr-there y slot h.1 i ]
  test-there (Differ x y) slot h r =
      elim r [ inl i ↦ expr-there x slot h.0 i | inr i ↦ expr-there y slot h.1 i ]

  all-there : (es : List Expr) (slot : Slot) → All (ExprWithin (IsInBody p g)) es
      → ReadsAll slots es (variable slot) → is_some (store slot) ≡ true
  all-there [] slot h r = absurd r
  all-there (e ∷ es) slot h (inl r) = expr-there e slot (All-head (ExprWithin (IsInBody p g)) e es h) r
  all-there (e ∷ es) slot h (inr r) = all-there es slot (All-tail (ExprWithin (IsInBody p g)) e es h) r

  -- what a well-formed command reads is there
  reads-there : (c : Command) (slot : Slot) → CommandWithin p g c → CommandReads slots store c (variable slot)
      → is_some (store slot) ≡ true
  reads-there (assign place x e) slot h r = expr-there e slot h.1 r
  reads-there (look_up place x e field) slot h (inl r) = expr-there e slot h.1 r
  reads-there (look_up place x e field) slot h (inr r) = absurd (no-cell _ slot r)
  reads-there (mutate place e field v) slot h (inl r) = expr-there e slot h.0 r
  reads-there (mutate place e field v) slot h (inr r) = expr-there v slot h.2 r
  reads-there (new place x) slot h r = absurd r
  reads-there (dispose place e) slot h r = expr-there e slot h r
  reads-there (if place test this that) slot h r = test-there test slot h.0 r
  reads-there (while place test kept body) slot h r = test-there test slot h.0 r
  reads-there (call place c) slot h r = all-there c.values slot h.values r
  reads-there (fork place c d) slot h (inl r) = all-there c.values slot (h.0).values r
  reads-there (fork place c d) slot h (inr r) = all-there d.values slot (h.1).values r
  reads-there (with place r test body) slot h i = test-there test slot h.1 i

  set-there : (x : Var) (slot : Slot) → IsInBody p g x → variable slot ≡ variable (slots x)
      → is_some (store slot) ≡ true
  set-there x slot h e = let same : slot ≡ slots x = cc in ap (λ z. is_some (store z)) same ∙ there x h

  -- what it writes was there
  writes-there : (c : Command) (slot : Slot) → CommandWithin p g c → CommandWrites slots store c (variable slot)
      → is_some (store slot) ≡ true
  writes-there (assign place x e) slot h w = set-there x.var slot (settable-in p g x.var h.0) w
  writes-there (look_up place x e field) slot h w = set-there x.var slot (settable-in p g x.var h.0) w
  writes-there (mutate place e field v) slot h w = absurd (no-cell _ slot w)
  writes-there (new place x) slot h w = set-there x.var slot (settable-in p g x.var h) w
  writes-there (dispose place e) slot h w = absurd (no-cell _ slot w)
  writes-there (if place test this that) slot h w = absurd w
  writes-there (while place test kept body) slot h w = absurd w
  writes-there (call place c) slot h w = absurd w
  writes-there (fork place c d) slot h w = absurd w
  writes-there (with place r test body) slot h w = absurd w

-- a callee of a well-formed call is there
callee-there : (p : Program) (g : Procedure) (c : Call) → CallWithin p g c → procedure_at p c.callee ≡ None → ⊥
callee-there p g c h e = subst (λ z. HasCounts z c) e h.callee

command-may_stop : (p : Program) (g : Procedure) (path : Path) (c : Config) (f : Fixed) (cmd : Command)
    → CommandWithin p g cmd → CommandStops p path c.common f cmd → CommandMayStop path c.common f cmd
command-may_stop p g path c f (assign place x e) h s = s
command-may_stop p g path c f (look_up place x e field) h s = s
command-may_stop p g path c f (mutate place e field v) h s = s
command-may_stop p g path c f (new place x) h s = s
command-may_stop p g path c f (dispose place e) h s = s
command-may_stop p g path c f (if place test this that) h s = s
command-may_stop p g path c f (while place test kept body) h s = s
command-may_stop p g path c f (call place one) h s = absurd (callee-there p g one h s)
command-may_stop p g path c f (fork place one two) h (inl s) = s
command-may_stop p g path c f (fork place one two) h (inr (inl s)) = absurd (callee-there p g one h.0 s)
command-may_stop p g path c f (fork place one two) h (inr (inr s)) = absurd (callee-there p g two h.1 s)
command-may_stop p g path c f (with place r test body) h s = s

module _ (p : Program) (g0 : Procedure) (c : Config) (path : Path) (o : IsInOrder p g0 c) where
  -- the variables of a frame of a task that runs
  variables-there : (f : Fixed) (todo : List Item) (below : List Frame) (g : Procedure)
      → task_at path c.tasks ≡ Some (runs (record { fixed = f; todo = todo } ∷ below))
      → procedure_at p f.procedure ≡ Some g → (x : Var) → IsInBody p g x
      → is_some (c.common.store (f.slots x)) ≡ true
  variables-there f todo below g e i x h =
      let n = names-now p g0 c o path (runs (record { fixed = f; todo = todo } ∷ below)) e in
      names-there p (There p g0 c o) f todo below n (f.slots x) ((n.names.0).within g i x h)

  -- the slots of its room
  room-there : (f : Fixed) (todo : List Item) (below : List Frame) (slot : Slot)
      → task_at path c.tasks ≡ Some (runs (record { fixed = f; todo = todo } ∷ below))
      → in_room f.room slot ≡ true → is_some (c.common.store slot) ≡ true
  room-there f todo below slot e h =
      let n = names-now p g0 c o path (runs (record { fixed = f; todo = todo } ∷ below)) e in
      n.rooms slot (let one : one_if (in_room f.room slot) ≡ 1 = ap one_if h in omega arith)

  stack-there : (f : Fixed) (todo : List Item) (below : List Frame) (slot : Slot)
      → task_at path c.tasks ≡ Some (runs (record { fixed = f; todo = todo } ∷ below))
      → Reads c.common.store (frame_next f below todo) (variable slot)
      ⊎ Writes c.common.store (frame_next f below todo) (variable slot)
      → is_some (c.common.store slot) ≡ true
  stack-there f [] below slot e (inl r) = absurd r
  stack-there f [] below slot e (inr w) = room-there f [] below slot e w
  stack-there f (command cmd ∷ rest) below slot e h =
      let mine = (formed-now p g0 c o path (runs (record { fixed = f; todo = command cmd ∷ rest } ∷ below)) e).0 in
      let vars = variables-there f (command cmd ∷ rest) below mine.procedure e mine.there in
      elim h [
        | inl r ↦ reads-there p mine.procedure f.slots c.common.store vars cmd slot (mine.todo).0 r
        | inr w ↦ writes-there p mine.procedure f.slots c.common.store vars cmd slot (mine.todo).0 w
      ]
  stack-there f (leave q ∷ rest) below slot e h = elim h [ inl r ↦ absurd r | inr w ↦ absurd w ]

  -- the variables that a task's step reads or writes are there
  pub used-there : (task : Task) (slot : Slot) → task_at path c.tasks ≡ Some task
      → Reads c.common.store (next task) (variable slot) ⊎ Writes c.common.store (next task) (variable slot)
      → (v : Value) × (c.common.store slot ≡ Some v)
  used-there (runs []) slot e h = elim h [ inl r ↦ absurd r | inr w ↦ absurd w ]
  used-there (runs (f ∷ below)) slot e h =
      is-there (c.common.store slot) (stack-there f.fixed f.todo below slot e h)
  used-there (waits frames one two) slot e h = elim h [ inl r ↦ absurd r | inr w ↦ absurd w ]

  -- a region that is left is of a resource that is held
  pub exit-held : (f : Fixed) (below : List Frame) (r : ResId) (rest : List Item)
      → task_at path c.tasks ≡ Some (task_with f (leave r ∷ rest) below) → c.common.held r ≡ Some path
  exit-held f below r rest e = elim (holder-or_not (c.common.held r) path) [
    | inl h ↦ h
    | inr n ↦
        let none : regions p r (stack_of (task_at path c.tasks)) ≡ 0 = o.outside r path n in
        let some : regions p r (stack_of (task_at path c.tasks))
        ≡ (throughout p r f + (one_if (r.0 == r.0) + exits r rest)) + regions p r below = ap (λ z. regions p r (stack_of z)) e in
        let one : one_if (r.0 == r.0) ≡ 1 = ap one_if (at-self r.0) in
        absurd (omega (arith, none, some, one))
  ]

  stack-may_stop : (f : Fixed) (todo : List Item) (below : List Frame)
      → task_at path c.tasks ≡ Some (runs (record { fixed = f; todo = todo } ∷ below))
      → Stops p path c.common (frame_next f below todo) → MayStop path c.common (frame_next f below todo)
  stack-may_stop f [] below e s = s
  stack-may_stop f (command cmd ∷ rest) below e s =
      let mine = (formed-now p g0 c o path (runs (record { fixed = f; todo = command cmd ∷ rest } ∷ below)) e).0 in
      command-may_stop p mine.procedure path c f cmd (mine.todo).0 s
  stack-may_stop f (leave q ∷ rest) below e s = s (exit-held f below q rest e)

  -- nothing else keeps a task
  pub task-may_stop : (task : Task) → task_at path c.tasks ≡ Some task → Stops p path c.common (next task)
      → MayStop path c.common (next task)
  task-may_stop (runs []) e s = s
  task-may_stop (runs (f ∷ below)) e s = stack-may_stop f.fixed f.todo below e s
  task-may_stop (waits frames one two) e s = s
