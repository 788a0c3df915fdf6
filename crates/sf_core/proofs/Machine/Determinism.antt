-- That an event leads to one configuration alone.
-- Names: `WHAT-unique`.
use Rattle.std.specs.Prelude.{◌≡◌, ℕ, List, ◌∷◌, Some, None}
use Rattle.std.proofs.Common.{sym, ap, ap₂, ◌∙◌, subst, inl, inr}
use Rattle.sf_base.proofs.Options.{some-once}
use Rattle.sf_base.proofs.Equality.{same-by}
use Rattle.sf_base.specs.declared.value.Value.{Value}
use Rattle.sf_core.specs.declared.assertion.Test.{Test}
use Rattle.sf_core.specs.declared.command.Expr.{Expr}
use Rattle.sf_core.specs.Machine.Config.{Item, Fixed, Frame, Task, runs, Common, Config, evaluate, put_task}
use Rattle.sf_core.specs.Machine.Next.{Next, does, leaves, returns, joins, nothing, next}
use Rattle.sf_base.specs.HeapStore.{Cell, put_field, Heap}
use Rattle.sf_core.specs.Machine.Step.{Event, set_slot, set_cell, open_room, room_count, room_for, arguments, callee_frame, fork_task, Finds, Chooses, Does, Goes, TaskStep, Step}
use Rattle.sf_core.specs.Program.Syntax.{Command, assign, look_up, mutate, new, dispose, if, while, call, fork, with, Procedure, Program}

-- what is found at an expression is one thing
location-unique : (see : Expr → Value) (heap : Heap) (root : Expr) (a b : ℕ) (k l : Cell)
    → Finds see heap root a k → Finds see heap root b l → a ≡ b
location-unique see heap root a b k l f g = cc (f.is, g.is)

cell-unique : (see : Expr → Value) (heap : Heap) (root : Expr) (a b : ℕ) (k l : Cell)
    → Finds see heap root a k → Finds see heap root b l → k ≡ l
cell-unique see heap root a b k l f g = let same : a ≡ b =
    location-unique see heap root a b k l f g in cc (f.there, g.there)

chooses-unique : (see : Expr → Value) (test : Test Expr) (this that u v : Task) → Chooses see test this that u
    → Chooses see test this that v → u ≡ v
chooses-unique see test this that u v (inl a) (inl b) = a.1 ∙ sym b.1
chooses-unique see test this that u v (inl a) (inr b) = absurd (b.0 a.0)
chooses-unique see test this that u v (inr a) (inl b) = absurd (a.0 b.0)
chooses-unique see test this that u v (inr a) (inr b) = a.1 ∙ sym b.1

does-unique : (p : Program) (ev : Event) (s t w : Common) (f : Fixed) (below : List Frame) (c : Command)
    (rest : List Item) (u v : Task)
    → Does p ev s f below c rest t u → Does p ev s f below c rest w v → (t ≡ w) × (u ≡ v)
does-unique p ev s t w f below (assign place x e) rest u v d h = (d.0 ∙ sym h.0, d.1 ∙ sym h.1)
does-unique p ev s t w f below (look_up place x e g) rest u v d h =
    let same : d.1 ≡ h.1 = cell-unique (evaluate f.slots s.store) s.heap e d.0 h.0 d.1 h.1 d.2 h.2 in
    (same-by d.3 h.3 (ap (λ (z : Cell). set_slot (f.slots x.var) (z g.0) s) same), d.4 ∙ sym h.4)
does-unique p ev s t w f below (mutate place e g x) rest u v d h =
    let there : d.0 ≡ h.0 = location-unique (evaluate f.slots s.store) s.heap e d.0 h.0 d.1 h.1 d.2 h.2 in
    let same : d.1 ≡ h.1 = cell-unique (evaluate f.slots s.store) s.heap e d.0 h.0 d.1 h.1 d.2 h.2 in (
      same-by d.3 h.3 (ap₂ (λ (a : ℕ) (z : Cell). set_cell a
          (Some (put_field z g.0 (evaluate f.slots s.store x))) s) there same),
      d.4 ∙ sym h.4,
    )
does-unique p ev s t w f below (new place x) rest u v d h = (d.2 ∙ sym h.2, d.3 ∙ sym h.3)
does-unique p ev s t w f below (dispose place e) rest u v d h =
    let there : d.0 ≡ h.0 = location-unique (evaluate f.slots s.store) s.heap e d.0 h.0 d.1 h.1 d.2 h.2 in
    (same-by d.3 h.3 (ap (λ (a : ℕ). set_cell a None s) there), d.4 ∙ sym h.4)
does-unique p ev s t w f below (if place test this that) rest u v d h =
    (d.0 ∙ sym h.0, chooses-unique (evaluate f.slots s.store) test _ _ u v d.1 h.1)
does-unique p ev s t w f below (while place test kept body) rest u v d h =
    (d.0 ∙ sym h.0, chooses-unique (evaluate f.slots s.store) test _ _ u v d.1 h.1)
does-unique p ev s t w f below (call place c) rest u v d h =
    let same : d.0 ≡ h.0 = some-once _ d.0 h.0 d.1 h.1 in (
      same-by d.2 h.2 (ap (λ (g : Procedure). open_room (room_for g ev.number 0) (arguments f.slots s.store c)
          s) same),
      same-by d.3 h.3 (ap (λ (g : Procedure). runs
          (callee_frame f.slots c g (room_for g ev.number 0) ∷ record { fixed = f; todo = rest } ∷ below))
          same),
    )
does-unique p ev s t w f below (fork place c e) rest u v d h =
    let one : d.1 ≡ h.1 = some-once _ d.1 h.1 d.3 h.3 in
    let two : d.2 ≡ h.2 = some-once _ d.2 h.2 d.4 h.4 in (
      same-by d.5 h.5 (ap₂ (λ (g k : Procedure). open_room (room_for k ev.number (room_count g))
          (arguments f.slots s.store e) (open_room (room_for g ev.number 0) (arguments f.slots s.store c) s))
          one two),
      same-by d.6 h.6 (ap₂ (λ (g k : Procedure). fork_task f.slots c g e k ev.number
          (record { fixed = f; todo = rest } ∷ below)) one two),
    )
does-unique p ev s t w f below (with place r test body) rest u v d h = (d.2 ∙ sym h.2, d.3 ∙ sym h.3)

-- an event of what comes next leads to one state and one task
pub goes-unique : (p : Program) (ev : Event) (s t w : Common) (n : Next) (u v : Task) → Goes p ev s n t u
    → Goes p ev s n w v → (t ≡ w) × (u ≡ v)
goes-unique p ev s t w (does f below c rest) u v d h = does-unique p ev s t w f below c rest u v d h
goes-unique p ev s t w (leaves f below r rest) u v d h = (d.1 ∙ sym h.1, d.2 ∙ sym h.2)
goes-unique p ev s t w (returns f below) u v d h = (d.1 ∙ sym h.1, d.2 ∙ sym h.2)
goes-unique p ev s t w (joins frames one two) u v d h = (d.2 ∙ sym h.2, d.3 ∙ sym h.3)
goes-unique p ev s t w nothing u v d h = absurd d

-- an event leads to at most one configuration
pub step-unique : (p : Program) (event : Event) (c d e : Config) → Step p event c d → Step p event c e → d ≡ e
step-unique p event c d e s r =
    let same : r.from ≡ s.from = some-once _ r.from s.from r.there s.there in
    let steps : TaskStep p event c.common s.from e.common r.to =
    subst (λ z. TaskStep p event c.common z e.common r.to) same r.steps in
    let both = goes-unique p event c.common d.common e.common (next s.from) s.to r.to s.steps steps in
    let used : d.used ≡ e.used = s.used ∙ sym r.used in
    let tasks : d.tasks ≡ e.tasks =
    same-by s.tasks r.tasks (ap (λ z. put_task event.task z c.tasks) both.1) in
    λ i. record { common = both.0 i; used = used i; tasks = tasks i }
