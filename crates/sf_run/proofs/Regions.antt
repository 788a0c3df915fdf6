-- That a lone task holds no resource that its innermost frames may still enter.
-- Names: `WHAT-apart`.
use Rattle.std.specs.Prelude.{◌≡◌, ℕ, ◌+◌, ◌==◌, ◌&&◌, Bool, true, false, cond, length, ltb, List, [], ◌∷◌, Option, Some, None, Contains}
use Rattle.std.specs.List.{AllByRecursion}
use Rattle.std.proofs.Common.{sym, ap, ◌∙◌, refl, subst, inl, inr, arith}
use Rattle.std.proofs.lemmas.Bool.{ltb-true}
use Rattle.sf_base.proofs.Elements.{contains-cons, contains-rest}
use Rattle.sf_base.proofs.StoreSplits.{resource-same}
use Rattle.sf_base.specs.declared.ids.ProcId.{ProcId}
use Rattle.sf_base.specs.declared.ids.ResId.{ResId}
use Rattle.sf_base.specs.declared.path.Turn.TheVariants.{Left as left, Right as right}
use Rattle.sf_base.specs.declared.place.Place.{Place}
use Rattle.sf_base.specs.HeapStore.{Heap, Store}
use Rattle.sf_core.specs.declared.assertion.Test.{Test}
use Rattle.sf_core.specs.declared.command.Expr.{Expr}
use Rattle.sf_core.specs.Machine.Config.{Item, command, leave, items, Fixed, Frame, Task, runs, Path, Config, task_at}
use Rattle.sf_core.specs.Checked.Machine.InOrder.{stack_of, exits, throughout, regions, IsInOrder}
use Rattle.sf_core.specs.Machine.Reach.{Reach}
use Rattle.sf_core.specs.Machine.SpentWaits.{IsAtRegion}
use Rattle.sf_core.specs.Machine.HasThroughout.{HasThroughout}
use Rattle.sf_core.specs.Machine.Start.{Beginning, settled, fresh, entry_frame, first_frames, Start}
use Rattle.sf_core.specs.Machine.Step.{Event, task_with, procedure_at, Step}
use Rattle.sf_core.specs.Program.Heads.{sites}
use Rattle.sf_core.specs.Program.Syntax.{Block, Call, call, with, Procedure, Program}
use Rattle.sf_calls.specs.declared.breach.Breach.TheVariants.{Reentered}
use Rattle.sf_calls.specs.Breaks.{Breaks}
use Rattle.sf_calls.specs.Conditions.{Takes}
use Rattle.sf_calls.specs.Reaches.{directly, through}
use Rattle.sf_run.specs.Checked.Lone.{inside, IsLoneFrame, IsLone}
use Rattle.sf_run.proofs.Bodies.{site-here}
use Rattle.sf_run.proofs.Lone.{Shape, at-calls, frames_of, lone-step, after-lone, start-lone}
use Rattle.sf_core.specs.Program.Init.{sets_up}
use Rattle.sf_core.proofs.Inits.{sets_up-is}
use Rattle.sf_core.proofs.Machine.InOrder.Shapes.{block-exits}
use Rattle.sf_run.specs.Sequential.{BeginsSequentially}

-- a region of another resource is no exit of this one
exits-first : (r q : ResId) (todo : List Item) → (Contains (q ∷ inside todo) r → ⊥) → exits r todo ≡ 0
    → exits r (leave q ∷ todo) ≡ 0
exits-first r q todo n later = go (q.0 == r.0) refl
  where
    go : (b : Bool) → q.0 == r.0 ≡ b → exits r (leave q ∷ todo) ≡ 0
    go true e = absurd (n ((contains-cons q (inside todo) r).1 (inl (resource-same q r e))))
    go false e =
        let first : exits r (leave q ∷ todo) ≡ 0 + exits r todo = ap (λ b. cond b 1 0 + exits r todo) e in
        omega (arith, first, later)

-- what is not to leave has no exit
exits-none : (r : ResId) (todo : List Item) → (Contains (inside todo) r → ⊥) → exits r todo ≡ 0
exits-none r [] n = refl
exits-none r (command c ∷ todo) n = exits-none r todo n
exits-none r (leave q ∷ todo) n =
    exits-first r q todo n (exits-none r todo (λ m. n (contains-rest q (inside todo) r m)))

-- no region is entered again inside of it
abbrev pub NeverReenters : Program → Type 0
NeverReenters p = (f : ProcId) (place : Place) (r : ResId) → Breaks p f (Reentered place r) → ⊥

-- a task with these frames is inside of no region of what the innermost takes, but for those of that frame; and so on
abbrev pub AreApart : Program → List Frame → Type 0
AreApart p [] = Unit {0}
AreApart p (f ∷ below) =
    ((r : ResId) → Takes p f.fixed.procedure r → regions p r below ≡ 0) × AreApart p below

-- a frame whose procedure doesn't have the resource throughout doesn't set it up
throughout-none : (p : Program) (r : ResId) (f : Fixed) → (HasThroughout p f.procedure r → ⊥) → throughout p r f ≡ 0
throughout-none p r f n = go (sets_up p f.procedure) (ltb r.0 (length p.resources)) refl refl
  where
    go : (a b : Bool) → sets_up p f.procedure ≡ a → ltb r.0 (length p.resources) ≡ b → ◌≡◌ {A = ℕ} (cond (a && b) 1 0) 0
    go true true e h = absurd (n (inr (e, ltb-true r.0 (length p.resources) h)))
    go true false e h = refl
    go false b e h = refl

module _ (p : Program) (n : NeverReenters p) (f : ProcId) (g : Procedure) (there : procedure_at p f ≡ Some g) where
  -- what is called isn't had throughout
  call-none : (place : Place) (c : Call) (rest : List Item) (r : ResId)
      → Contains (sites [] g.body) (record { entered = inside rest; command = call place c })
      → Takes p c.callee r → HasThroughout p f r → ⊥
  call-none place c rest r at takes has = n f c.place r
      (g, there, (_, at, (inl has, inr (c, (contains-cons c [] c).1 (inl refl), (refl, takes)))))

  -- nor is what is entered
  with-none : (place : Place) (r : ResId) (test : Test Expr) (body : Block) (rest : List Item)
      → Contains (sites [] g.body) (record { entered = inside rest; command = with place r test body })
      → HasThroughout p f r → ⊥
  with-none place r test body rest at has = n f place r
      (g, there, (_, at, (inl has, inl (refl, (contains-cons r [] r).1 (inl refl)))))

  -- what is called takes nothing that is to leave
  call-apart : (place : Place) (c : Call) (rest : List Item) (r : ResId)
      → Contains (sites [] g.body) (record { entered = inside rest; command = call place c })
      → Takes p c.callee r → exits r rest ≡ 0
  call-apart place c rest r at takes = exits-none r rest (λ held. n f c.place r
      (g, there, (_, at, (inr held, inr (c, (contains-cons c [] c).1 (inl refl), (refl, takes))))))

  -- a region that is entered is not to leave
  with-apart : (place : Place) (r : ResId) (test : Test Expr) (body : Block) (rest : List Item)
      → Contains (sites [] g.body) (record { entered = inside rest; command = with place r test body })
      → exits r rest ≡ 0
  with-apart place r test body rest at = exits-none r rest (λ held. n f place r
      (g, there, (_, at, (inr held, inl (refl, (contains-cons r [] r).1 (inl refl))))))

  -- and the procedure takes it
  with-takes : (place : Place) (r : ResId) (test : Test Expr) (body : Block) (rest : List Item)
      → Contains (sites [] g.body) (record { entered = inside rest; command = with place r test body })
      → Takes p f r
  with-takes place r test body rest at =
      directly (g, there, (_, at, (contains-cons r [] r).1 (inl refl)))

-- the frames after an event
shape-apart : (p : Program) (f : Fixed) (below : List Frame) (g : Procedure) (u : Task) → NeverReenters p
    → procedure_at p f.procedure ≡ Some g → ((r : ResId) → Takes p f.procedure r → regions p r below ≡ 0)
    → AreApart p below → (k : Shape p f g.body below u) → AreApart p (frames_of p f g.body below u k)
shape-apart p f below g u n there mine others (inl k) = (mine, others)
shape-apart p f below g u n there mine others (inr (inl k)) = (
  λ r takes.
      let here : exits r k.rest ≡ 0 =
      call-apart p n f.procedure g there k.place k.c k.rest r k.at takes in
      let whole : throughout p r f ≡ 0 =
      throughout-none p r f (call-none p n f.procedure g there k.place k.c k.rest r k.at takes) in
      let down : regions p r below ≡ 0 = mine r (through (k.c).callee
      (at-calls p f.procedure g (inside k.rest) k.place k.c there k.at) takes) in
      omega arith,
  (mine, others),
)
shape-apart p f below g u n there mine others (inr (inr e)) = others

-- a configuration with one task, whose frames are apart
pub record IsApart (p : Program) (c : Config) : Type 0 where
  pub lone : IsLone p c
  pub apart : AreApart p lone.frames

pub step-apart : (p : Program) (ev : Event) (c d : Config) → NeverReenters p → IsApart p c → Step p ev c d
    → IsApart p d
step-apart p ev c d n k s =
    let one = lone-step p ev c d k.lone s in
    let apart : AreApart p (one.f ∷ one.below) = subst (AreApart p) one.are k.apart in
    record {
      lone = after-lone p (k.lone).frames d one;
      apart = shape-apart p (one.f).fixed one.below (one.mine).procedure one.u n (one.mine).there apart.0 apart.1
          one.shape;
    }

-- the frames with which a procedure starts are apart
first-apart : (p : Program) (f : ProcId) (g : Procedure) (b : Beginning) → sets_up p f ≡ false
    → AreApart p (first_frames b f g)
first-apart p f g settled other = (λ r takes. refl, tt)
first-apart p f g (fresh m h) other = (
  λ r takes.
      let count : Bool → ℕ = λ z. cond (z && ltb r.0 (length p.resources)) 1 0 in
      let whole : throughout p r (entry_frame f g).fixed ≡ 0 =
      ap count other in
      let none : exits r (items g.body) ≡ 0 = block-exits r g.body in
      omega arith,
  (λ r takes. refl, tt),
)

pub start-apart : (p : Program) (f : ProcId) (store : Store) (heap : Heap) (c : Config)
    → (s : Start p f store heap c) → BeginsSequentially p f s.beginning → IsApart p c
start-apart p f store heap c s n = record {
  lone = start-lone p f store heap c s n;
  apart = first-apart p f s.procedure s.beginning (sets_up-is p f s.procedure s.there ∙ s.no_init);
}

pub reach-apart : (p : Program) (events : List Event) (c d : Config) → NeverReenters p → IsApart p c
    → Reach p c events d → IsApart p d
reach-apart p [] c d n k r = subst (IsApart p) (sym r) k
reach-apart p (event ∷ events) c d n k (between, s, r) =
    reach-apart p events between d n (step-apart p event c between n k s) r

-- a lone task at a region is inside of none of its resource
region-outside : (p : Program) (c : Config) (r : ResId) → NeverReenters p → IsApart p c → IsAtRegion c [] r
    → regions p r (stack_of (Some c.tasks)) ≡ 0
region-outside p c r n k at = go (k.lone).frames (k.lone).each k.apart (sym (k.lone).alone ∙ task)
  where
    task : c.tasks ≡ task_with at.frame (command (with at.place r at.test at.body) ∷ at.rest) at.below
    task = let there : Some c.tasks
        ≡ Some (task_with at.frame (command (with at.place r at.test at.body) ∷ at.rest) at.below) = at.there in cc

    go : (frames : List Frame) → AllByRecursion (IsLoneFrame p) frames → AreApart p frames
        → runs frames ≡ task_with at.frame (command (with at.place r at.test at.body) ∷ at.rest) at.below
        → regions p r (stack_of (Some c.tasks)) ≡ 0
    go [] each apart e = absurd (cc)
    go (f ∷ below) (mine, others) (takes, apart) e =
        let same : f ≡ record {
          fixed = at.frame;
          todo = command (with at.place r at.test at.body) ∷ at.rest;
        } = cc in
        let rest : below ≡ at.below = cc in
        let one : IsLoneFrame p (record {
          fixed = at.frame;
          todo = command (with at.place r at.test at.body) ∷ at.rest;
        }) = subst (IsLoneFrame p) same mine in
        let place = (one.todo).0 _ (site-here (inside at.rest) (with at.place r at.test at.body)) in
        let here : exits r at.rest ≡ 0 =
        with-apart p n (at.frame).procedure one.procedure one.there at.place r at.test at.body at.rest place in
        let down : regions p r at.below ≡ 0 = subst (λ z. regions p r z ≡ 0) rest (takes r
        (subst (λ (z : Frame). Takes p z.fixed.procedure r) (sym same)
        (with-takes p n (at.frame).procedure one.procedure one.there at.place r at.test at.body at.rest place))) in
        let whole : throughout p r at.frame ≡ 0 = throughout-none p r at.frame
        (with-none p n (at.frame).procedure one.procedure one.there at.place r at.test at.body at.rest place) in
        let all : (throughout p r at.frame + exits r at.rest) + regions p r at.below ≡ 0 = omega arith in
        ap (λ z. regions p r (stack_of (Some z))) task ∙ all

-- so its resource is free
pub region-free : (p : Program) (g : Procedure) (c : Config) (r : ResId) → NeverReenters p → IsInOrder p g c
    → IsApart p c → IsAtRegion c [] r → c.common.held r ≡ None
region-free p g c r n o k at = go (c.common.held r) refl
  where
    none : (path : Path) → regions p r (stack_of (task_at path c.tasks)) ≡ 0
    none [] = region-outside p c r n k at
    none (left ∷ path) = ap (λ z. regions p r (stack_of (task_at (left ∷ path) z))) (k.lone).alone
    none (right ∷ path) = ap (λ z. regions p r (stack_of (task_at (right ∷ path) z))) (k.lone).alone

    go : (holder : Option Path) → c.common.held r ≡ holder → c.common.held r ≡ None
    go None e = e
    go (Some path) e =
        let one : regions p r (stack_of (task_at path c.tasks)) ≡ 1 = o.inside r path e in
        let zero : regions p r (stack_of (task_at path c.tasks)) ≡ 0 = none path in
        absurd (omega (arith, one, zero))
