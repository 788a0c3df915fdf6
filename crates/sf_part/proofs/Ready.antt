-- What the event of a command of a part rests on, and why it may be none.
-- Names: `ready-LAW` of a command that stands in a body of the program, `local-LAW` of one that is
-- the task's own
-- affair.
use Rattle.std.specs.Prelude.{◌≡◌, ◌≢◌, ◌<◌, ℕ, List, [], ◌∷◌, length, None, is_some}
use Rattle.std.specs.List.{slice_get}
use Rattle.std.proofs.Common.{ap, sym, refl, subst, inl, inr}
use Rattle.std.proofs.lemmas.Option.{slice_get_cases}
use Rattle.sf_base.specs.declared.value.Value.{Value}
use Rattle.sf_base.specs.declared.value.Value.TheVariants.{Nil as nil}
use Rattle.sf_base.specs.HeapStore.{own}
use Rattle.sf_core.specs.declared.command.Expr.{Expr}
use Rattle.sf_core.specs.Machine.Config.{Item, command, Fixed, Frame, Task, waits, Common, evaluate}
use Rattle.sf_core.specs.Machine.Step.{Event, Does}
use Rattle.sf_core.specs.Machine.Supplies.{has, CommandTakes}
use Rattle.sf_core.specs.Program.Formed.{HasCounts, CommandWithin, IsFormed}
use Rattle.sf_core.specs.Program.Heads.{head_regions}
use Rattle.sf_core.specs.Program.Syntax.{Call, Command, assign, look_up, mutate, new, dispose, if, while, call, fork, with, Procedure, Program}
use Rattle.sf_frame.specs.Checked.Plans.{HasCallees, IsReady, SetsField}
use Rattle.sf_frame.specs.declared.refusal.Refusal.{Refusal}
use Rattle.sf_frame.specs.declared.refusal.Refusal.TheVariants.{Absent as absent, Waiting, Stale, TooDeep}
use Rattle.sf_frame.specs.Refusals.{FindsNone, Refuses}
use Rattle.sf_part.specs.Answers.{CommandMisses, IsMissed}
use Rattle.sf_part.specs.Of.{FrameIsOf, inside}
use Rattle.sf_part.specs.Steps.{IsLocal}
use Rattle.sf_part.proofs.Owned.{command-there, command-within}
use Rattle.sf_part.proofs.Sites.{sites-first}

-- the callee of a call that fits is there
callee-there : (p : Program) (c : Call) → HasCounts (slice_get p.procedures c.callee.0) c
    → c.callee.0 < length p.procedures
callee-there p c h = elim (slice_get_cases p.procedures c.callee.0).1 [
  | inl k ↦ k.1
  | inr k ↦ absurd (subst (λ z. HasCounts z c) k.1 h)
]

-- the procedures are there that a well-formed command calls
pub ready-callees : (p : Program) (g : Procedure) (c : Command) → CommandWithin p g c
    → HasCallees p c
ready-callees p g (call place c) h = callee-there p c h.callee
ready-callees p g (fork place c d) h =
    (callee-there p c (h.0).callee, callee-there p d (h.1).callee)
ready-callees p g (assign place x e) h = tt
ready-callees p g (look_up place x e field) h = tt
ready-callees p g (mutate place e field v) h = tt
ready-callees p g (new place x) h = tt
ready-callees p g (dispose place e) h = tt
ready-callees p g (if place test this that) h = tt
ready-callees p g (while place test kept body) h = tt
ready-callees p g (with place r test body) h = tt

-- the field that it sets is there
pub ready-field : (p : Program) (g : Procedure) (c : Command) → CommandWithin p g c → SetsField p c
ready-field p g (mutate place e field v) h = h.1
ready-field p g (assign place x e) h = tt
ready-field p g (look_up place x e field) h = tt
ready-field p g (new place x) h = tt
ready-field p g (dispose place e) h = tt
ready-field p g (if place test this that) h = tt
ready-field p g (while place test kept body) h = tt
ready-field p g (call place c) h = tt
ready-field p g (fork place c d) h = tt
ready-field p g (with place r test body) h = tt

-- it enters no region
pub local-outside : (c : Command) → IsLocal c → head_regions c ≡ []
local-outside (with place r test body) h = absurd h
local-outside (assign place x e) h = refl
local-outside (look_up place x e field) h = refl
local-outside (mutate place e field v) h = refl
local-outside (new place x) h = refl
local-outside (dispose place e) h = refl
local-outside (if place test this that) h = refl
local-outside (while place test kept body) h = refl
local-outside (call place c) h = refl
local-outside (fork place c d) h = refl

-- the event of the next command of a frame has what it rests on
pub ready : (p : Program) (formed : IsFormed p) (s : Common) (f : Fixed) (c : Command)
    (rest : List Item)
    (n : ℕ) → FrameIsOf p s.store (record { fixed = f; todo = command c ∷ rest }) → IsLocal c
    → ((i : ℕ) → s.store (own n i) ≡ None) → IsReady p n s f c
ready p formed s f c rest n of l fresh =
    let within = command-within p formed f c rest of.procedure of.there
    (of.todo (record { entered = inside rest; command = c }) (sites-first c rest)) in
    record {
      written = λ slot w.
          let (v, e) = command-there p formed s.store f c rest of (local-outside c l) slot
          (inr w) in
          ap is_some e;
      callees = ready-callees p of.procedure c within;
      field = ready-field p of.procedure c within;
      fresh = fresh;
    }

-- it takes the next unit as its number
pub local-takes : (ev : Event) (c : Command) (us rest : List ℕ) → IsLocal c → us ≡ ev.number ∷ rest
    → ev.at ≡ ev.number → ev.fields ≡ (λ f. nil) → CommandTakes ev c (has us) (has rest)
local-takes ev c us rest l e at fields =
    subst (λ z. CommandTakes ev c (has z) (has rest)) (sym e) (go c l)
  where
    go : (c : Command) → IsLocal c → CommandTakes ev c (has (ev.number ∷ rest)) (has rest)
    go (new place x) h = (rest, (refl, refl), refl, at, fields)
    go (assign place x e) h = (rest, (refl, refl), refl)
    go (look_up place x e field) h = (rest, (refl, refl), refl)
    go (mutate place e field v) h = (rest, (refl, refl), refl)
    go (dispose place e) h = (rest, (refl, refl), refl)
    go (if place test this that) h = (rest, (refl, refl), refl)
    go (while place test kept body) h = (rest, (refl, refl), refl)
    go (call place c) h = (rest, (refl, refl), refl)
    go (fork place c d) h = absurd h
    go (with place r test body) h = absurd h

-- what refuses it is that a cell is absent
pub record IsMissing (s : Common) (f : Fixed) (c : Command) (why : Refusal) : Type 0 where
  pub root : Value
  pub is : why ≡ absent root
  pub misses : CommandMisses (evaluate f.slots s.store) s.heap c root

finds-none : (s : Common) (f : Fixed) (c : Command) (why : Refusal)
    (e : Expr)
    → FindsNone (evaluate f.slots s.store) s.heap e why
    → ((v : Value) → IsMissed (evaluate f.slots s.store) s.heap e v
    → CommandMisses (evaluate f.slots s.store) s.heap c v) → IsMissing s f c why
finds-none s f c (absent v) e h k = record { root = v; is = refl; misses = k v h }
finds-none s f c (Waiting r) e h k = absurd h
finds-none s f c Stale e h k = absurd h
finds-none s f c TooDeep e h k = absurd h

pub local-refused : (ev : Event) (s : Common) (f : Fixed) (c : Command) (why : Refusal) → IsLocal c
    → ev.at ≢ 0 → s.heap ev.at ≡ None → Refuses ev s f c why → IsMissing s f c why
local-refused ev s f (look_up place x e field) why l a n h =
    finds-none s f (look_up place x e field) why e h (λ v m. m)
local-refused ev s f (mutate place e field d) why l a n h =
    finds-none s f (mutate place e field d) why e h (λ v m. m)
local-refused ev s f (dispose place e) why l a n h =
    finds-none s f (dispose place e) why e h (λ v m. m)
local-refused ev s f (new place x) why l a n h =
    elim h.1 [ inl z ↦ absurd (a z) | inr k ↦ absurd (k n) ]
local-refused ev s f (assign place x e) why l a n h = absurd h
local-refused ev s f (if place test this that) why l a n h = absurd h
local-refused ev s f (while place test kept body) why l a n h = absurd h
local-refused ev s f (call place c) why l a n h = absurd h
local-refused ev s f (fork place c d) why l a n h = absurd l
local-refused ev s f (with place r test body) why l a n h = absurd l

-- after it the task runs
pub local-runs : (p : Program) (ev : Event) (s t : Common) (f : Fixed) (below : List Frame)
    (c : Command)
    (rest : List Item) (frames : List Frame) (one two : Task) → IsLocal c
    → Does p ev s f below c rest t (waits frames one two) → ⊥
local-runs p ev s t f below (assign place x e) rest frames one two l d = absurd (let h = d.1 in cc)
local-runs p ev s t f below (look_up place x e field) rest frames one two l d =
    absurd (let h = d.4 in cc)
local-runs p ev s t f below (mutate place e field v) rest frames one two l d =
    absurd (let h = d.4 in cc)
local-runs p ev s t f below (new place x) rest frames one two l d = absurd (let h = d.3 in cc)
local-runs p ev s t f below (dispose place e) rest frames one two l d = absurd (let h = d.4 in cc)
local-runs p ev s t f below (if place test this that) rest frames one two l d =
    elim d.1 [ inl y ↦ absurd (let h = y.1 in cc) | inr n ↦ absurd (let h = n.1 in cc) ]
local-runs p ev s t f below (while place test kept body) rest frames one two l d =
    elim d.1 [ inl y ↦ absurd (let h = y.1 in cc) | inr n ↦ absurd (let h = n.1 in cc) ]
local-runs p ev s t f below (call place c) rest frames one two l d = absurd (let h = d.3 in cc)
local-runs p ev s t f below (fork place c e) rest frames one two l d = absurd l
local-runs p ev s t f below (with place r test body) rest frames one two l d = absurd l
