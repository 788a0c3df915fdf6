-- That a task is inside of just the regions of the resources that it holds, after each kind of event.
-- Names: `regions-WHAT` speaks of the new tree, `holds-WHAT` of all tasks and resources.
use Rattle.std.specs.Prelude.{◌≡◌, ◌≢◌, ℕ, ◌+◌, ◌==◌, ◌<◌, ◌&&◌, Bool, true, false, cond, ltb, length, List, [], ◌∷◌, Option, Some, None}
use Rattle.std.specs.List.{AllByRecursion}
use Rattle.std.proofs.Common.{sym, ap, ap₂, ◌∙◌, refl, subst, inl, inr, arith}
use Rattle.std.proofs.lemmas.Bool.Decides.{nat_tests}
use Rattle.sf_base.proofs.HeapSplits.{at-self}
use Rattle.sf_base.proofs.StoreSplits.{resource-same}
use Rattle.sf_base.proofs.Options.{some-none}
use Rattle.sf_base.specs.declared.ids.ResId.{ResId}
use Rattle.sf_core.specs.Machine.Config.{Item, command, leave, Fixed, Frame, Task, runs, waits, Path, Common, task_at, put_task}
use Rattle.sf_core.specs.Checked.Machine.InOrder.{EachStack, ItemWithin, FrameIsFormed, stack_of, exits, throughout, regions}
use Rattle.sf_core.specs.Machine.Step.{set_holder}
use Rattle.sf_core.specs.Program.Init.{sets_up}
use Rattle.sf_core.specs.Program.Syntax.{Procedure, Program}
use Rattle.sf_core.proofs.Machine.Decided.{resource-or_not}
use Rattle.sf_core.proofs.Machine.InOrder.Shapes.{Hands, same, enters, exits_one}
use Rattle.sf_core.proofs.Machine.InOrder.Trees.{each-at, task_at-put, regions-elsewhere}
use Rattle.sf_core.proofs.Machine.Progress.{path-or_not, holder-or_not}
use Rattle.sf_core.proofs.Machine.Steps.{holder-here, holder-other}

-- a task is inside of one region of each resource that it holds, and of no others
pub record HoldsRegions (p : Program) (held : ResId → Option Path) (t : Task) : Type 0 where
  pub inside : (r : ResId) (path : Path) → held r ≡ Some path → regions p r (stack_of (task_at path t)) ≡ 1
  pub outside : (r : ResId) (path : Path) → held r ≢ Some path → regions p r (stack_of (task_at path t)) ≡ 0

-- where regions and holders stay
pub holds-same : (p : Program) (held now : ResId → Option Path) (t u : Task) → HoldsRegions p held t → now ≡ held
    → ((r : ResId) (path : Path)
    → regions p r (stack_of (task_at path u)) ≡ regions p r (stack_of (task_at path t)))
    → HoldsRegions p now u
holds-same p held now t u h e n = subst (λ z. HoldsRegions p z u) (sym e) (record {
  inside = λ r path i. n r path ∙ h.inside r path i;
  outside = λ r path i. n r path ∙ h.outside r path i;
})

module _ (p : Program) (f : Fixed) (below : List Frame) (old todo : List Item) (path : Path) (t : Task)
    (there : task_at path t ≡ Some (runs (record { fixed = f; todo = old } ∷ below))) where
  -- the tree with the frame going on with that to do
  abbrev now : Task
  now = put_task path (runs (record { fixed = f; todo = todo } ∷ below)) t

  -- the regions of the task itself, before and after
  regions-before : (r : ResId) → regions p r (stack_of (task_at path t)) ≡ (throughout p r f + exits r old) + regions p r below
  regions-before r = ap (λ z. regions p r (stack_of z)) there

  regions-after : (r : ResId) → regions p r (stack_of (task_at path now)) ≡ (throughout p r f + exits r todo) + regions p r below
  regions-after r = ap (λ z. regions p r (stack_of z)) (task_at-put path t _ _ there)

  -- those of the others stay
  regions-others : (r : ResId) (other : Path) → other ≢ path
      → regions p r (stack_of (task_at other now)) ≡ regions p r (stack_of (task_at other t))
  regions-others r other n = regions-elsewhere p r path t _ _ other there n

  -- a resource whose regions stay
  regions-stay : (r : ResId) → exits r todo ≡ exits r old → (other : Path)
      → regions p r (stack_of (task_at other now)) ≡ regions p r (stack_of (task_at other t))
  regions-stay r e other = elim (path-or_not other path) [
    | inl i ↦ ap (λ z. regions p r (stack_of (task_at z now))) i ∙ regions-after r
        ∙ ap (λ z. (throughout p r f + z) + regions p r below) e ∙ sym (regions-before r)
        ∙ ap (λ z. regions p r (stack_of (task_at z t))) (sym i)
    | inr n ↦ regions-others r other n
  ]

  -- another resource than the one that is entered or left
  regions-not : (q r : ResId) (a b : ℕ) → (r ≡ q → ⊥) → a ≡ cond (q.0 == r.0) 1 0 + b → a ≡ b
  regions-not q r a b n e = go (q.0 == r.0) refl e
    where
      go : (x : Bool) → q.0 == r.0 ≡ x → a ≡ cond x 1 0 + b → a ≡ b
      go true i e = absurd (n (sym (resource-same q r i)))
      go false i e = omega arith

  -- the one that is
  regions-one : (q : ResId) (a b : ℕ) → a ≡ cond (q.0 == q.0) 1 0 + b → a ≡ 1 + b
  regions-one q a b e = e ∙ ap (λ z. cond z 1 0 + b) (at-self q.0)

  -- where a region is entered
  holds-entered : (s w : Common) (q : ResId) → HoldsRegions p s.held t → s.held q ≡ None
      → w.held ≡ (set_holder q (Some path) s).held
      → ((r : ResId) → exits r todo ≡ cond (q.0 == r.0) 1 0 + exits r old) → HoldsRegions p w.held now
  holds-entered s w q h free e n =
      subst (λ z. HoldsRegions p z now) (sym e) (record { inside = inside; outside = outside })
    where
      one : exits q todo ≡ 1 + exits q old
      one = regions-one q (exits q todo) (exits q old) (n q)

      none : (other : Path) → regions p q (stack_of (task_at other t)) ≡ 0
      none other = h.outside q other (λ i. some-none other (sym i ∙ free))

      at_path : regions p q (stack_of (task_at path now)) ≡ 1
      at_path =
          let before : (throughout p q f + exits q old) + regions p q below ≡ 0 = sym (regions-before q) ∙ none path in
          let first : exits q todo ≡ 1 + exits q old = one in
          let after : regions p q (stack_of (task_at path now)) ≡ (throughout p q f + exits q todo) + regions p q below =
          regions-after q in
          omega arith

      inside : (r : ResId) (other : Path) → (set_holder q (Some path) s).held r ≡ Some other
          → regions p r (stack_of (task_at other now)) ≡ 1
      inside r other i = elim (resource-or_not r q) [
        | inl a ↦ let k : Some path ≡ Some other =
            sym (holder-here q (Some path) s) ∙ ap (set_holder q (Some path) s).held (sym a) ∙ i in
            let there : path ≡ other = cc in
            subst (λ z. regions p r (stack_of (task_at z now)) ≡ 1) there
            (subst (λ z. regions p z (stack_of (task_at path now)) ≡ 1) (sym a) at_path)
        | inr a ↦ regions-stay r (regions-not q r (exits r todo) (exits r old) a (n r)) other
            ∙ h.inside r other (sym (holder-other q r (Some path) s a) ∙ i)
      ]

      outside : (r : ResId) (other : Path) → (set_holder q (Some path) s).held r ≢ Some other
          → regions p r (stack_of (task_at other now)) ≡ 0
      outside r other i = elim (resource-or_not r q) [
        | inl a ↦ subst (λ z. regions p z (stack_of (task_at other now)) ≡ 0) (sym a)
            (regions-others q other (λ k. i (ap (set_holder q (Some path) s).held a
            ∙ holder-here q (Some path) s ∙ ap Some (sym k))) ∙ none other)
        | inr a ↦ regions-stay r (regions-not q r (exits r todo) (exits r old) a (n r)) other
            ∙ h.outside r other (λ k. i (holder-other q r (Some path) s a ∙ k))
      ]

  -- where a region is left
  holds-left : (s w : Common) (q : ResId) → HoldsRegions p s.held t → s.held q ≡ Some path
      → w.held ≡ (set_holder q None s).held
      → ((r : ResId) → exits r old ≡ cond (q.0 == r.0) 1 0 + exits r todo) → HoldsRegions p w.held now
  holds-left s w q h mine e n =
      subst (λ z. HoldsRegions p z now) (sym e) (record { inside = inside; outside = outside })
    where
      at_path : regions p q (stack_of (task_at path now)) ≡ 0
      at_path =
          let before : (throughout p q f + exits q old) + regions p q below ≡ 1 = sym (regions-before q) ∙ h.inside q path mine in
          let first : exits q old ≡ 1 + exits q todo =
          regions-one q (exits q old) (exits q todo) (n q) in
          let after : regions p q (stack_of (task_at path now)) ≡ (throughout p q f + exits q todo) + regions p q below =
          regions-after q in
          omega arith

      others : (other : Path) → regions p q (stack_of (task_at other now)) ≡ 0
      others other = elim (path-or_not other path) [
        | inl i ↦ subst (λ z. regions p q (stack_of (task_at z now)) ≡ 0) (sym i) at_path
        | inr i ↦ regions-others q other i
            ∙ h.outside q other (λ k. i (let same : Some path ≡ Some other = sym mine ∙ k in cc))
      ]

      inside : (r : ResId) (other : Path) → (set_holder q None s).held r ≡ Some other
          → regions p r (stack_of (task_at other now)) ≡ 1
      inside r other i = elim (resource-or_not r q) [
        | inl a ↦ absurd (some-none other
            (sym i ∙ ap (set_holder q None s).held a ∙ holder-here q None s))
        | inr a ↦ regions-stay r (sym (regions-not q r (exits r old) (exits r todo) a (n r))) other
            ∙ h.inside r other (sym (holder-other q r None s a) ∙ i)
      ]

      outside : (r : ResId) (other : Path) → (set_holder q None s).held r ≢ Some other
          → regions p r (stack_of (task_at other now)) ≡ 0
      outside r other i = elim (resource-or_not r q) [
        | inl a ↦ subst (λ z. regions p z (stack_of (task_at other now)) ≡ 0) (sym a) (others other)
        | inr a ↦ regions-stay r (sym (regions-not q r (exits r old) (exits r todo) a (n r))) other
            ∙ h.outside r other (λ k. i (holder-other q r None s a ∙ k))
      ]

  -- where a frame goes on
  pub holds-goes_on : (s w : Common) → HoldsRegions p s.held t → Hands path s w old todo
      → HoldsRegions p w.held now
  holds-goes_on s w h (same e n) = holds-same p s.held w.held t now h e (λ r other. regions-stay r (n r) other)
  holds-goes_on s w h (enters q free e n) = holds-entered s w q h free e n
  holds-goes_on s w h (exits_one q mine e n) = holds-left s w q h mine e n

-- A resource that the program lacks is of no region
exits-past : (p : Program) (g : Procedure) (r : ResId) (todo : List Item) → AllByRecursion (ItemWithin p g) todo
    → ltb r.0 (length p.resources) ≡ false → exits r todo ≡ 0
exits-past p g r [] h e = refl
exits-past p g r (command c ∷ todo) h e = exits-past p g r todo h.1 e
exits-past p g r (leave q ∷ todo) h e =
    let here : q.0 < length p.resources = h.0 in
    let other : q.0 == r.0 ≡ false = grind (arith, nat_tests) in
    let rest : exits r todo ≡ 0 = exits-past p g r todo h.1 e in
    let none : cond {A = ℕ} (q.0 == r.0) 1 0 ≡ 0 = ap (λ b. cond {A = ℕ} b 1 0) other in
    omega arith

throughout-past : (p : Program) (r : ResId) (f : Fixed) → ltb r.0 (length p.resources) ≡ false → throughout p r f ≡ 0
throughout-past p r f e = go (sets_up p f.procedure)
  where
    go : (b : Bool) → cond {A = ℕ} (b && ltb r.0 (length p.resources)) 1 0 ≡ 0
    go true = ap (λ b. cond {A = ℕ} b 1 0) e
    go false = refl

stack-past : (p : Program) (r : ResId) (frames : List Frame) → AllByRecursion (FrameIsFormed p) frames
    → ltb r.0 (length p.resources) ≡ false → regions p r frames ≡ 0
stack-past p r [] h e = refl
stack-past p r (f ∷ frames) h e =
    let one : throughout p r f.fixed ≡ 0 = throughout-past p r f.fixed e in
    let two : exits r f.todo ≡ 0 = exits-past p h.0.procedure r f.todo h.0.todo e in
    let rest : regions p r frames ≡ 0 = stack-past p r frames h.1 e in
    omega arith

-- nor does a task have it
pub regions-past : (p : Program) (t : Task) → EachStack (AllByRecursion (FrameIsFormed p)) t → (r : ResId)
    → ltb r.0 (length p.resources) ≡ false → (path : Path) → regions p r (stack_of (task_at path t)) ≡ 0
regions-past p t formed r e path = go (task_at path t) refl
  where
    go : (o : Option Task) → task_at path t ≡ o → regions p r (stack_of o) ≡ 0
    go None i = refl
    go (Some (runs frames)) i =
        stack-past p r frames (each-at (AllByRecursion (FrameIsFormed p)) path t (runs frames) i formed) e
    go (Some (waits frames one two)) i =
        stack-past p r frames (each-at (AllByRecursion (FrameIsFormed p)) path t (waits frames one two) i formed).0 e

-- Where the procedure that sets the resources up returns, all of them become free
module _ (p : Program) (f : Fixed) (below : List Frame) (path : Path) (t : Task)
    (there : task_at path t ≡ Some (runs (record { fixed = f; todo = [] } ∷ below)))
    (sets : sets_up p f.procedure ≡ true) (formed : EachStack (AllByRecursion (FrameIsFormed p)) t)
    (held : ResId → Option Path) (h : HoldsRegions p held t) where
  regions-mine : (r : ResId) → regions p r (stack_of (task_at path t)) ≡ (throughout p r f + 0) + regions p r below
  regions-mine r = ap (λ z. regions p r (stack_of z)) there

  -- neither a frame below nor another task had one
  regions-none : (r : ResId) (b : Bool) → ltb r.0 (length p.resources) ≡ b → (regions p r below ≡ 0)
      × ((other : Path) → other ≢ path → regions p r (stack_of (task_at other t)) ≡ 0)
  regions-none r false e = (
    (let none : regions p r (stack_of (task_at path t)) ≡ 0 = regions-past p t formed r e path in
        let mine : regions p r (stack_of (task_at path t)) ≡ (throughout p r f + 0) + regions p r below =
        regions-mine r in
        omega arith),
    λ other n. regions-past p t formed r e other,
  )
  regions-none r true e =
      let one : throughout p r f ≡ 1 = ap₂ (λ a b. cond (a && b) 1 0) sets e in
      let mine : regions p r (stack_of (task_at path t)) ≡ (throughout p r f + 0) + regions p r below =
      regions-mine r in
      elim (holder-or_not (held r) path) [
        | inl k ↦ (
          (let all : regions p r (stack_of (task_at path t)) ≡ 1 = h.inside r path k in omega arith),
          λ other n. h.outside r other (λ q. n (let same : Some path ≡ Some other = sym k ∙ q in cc)),
        )
        | inr k ↦
            let none : regions p r (stack_of (task_at path t)) ≡ 0 = h.outside r path k in
            absurd (omega (arith, one, mine, none))
      ]

  pub holds-freed : (now : ResId → Option Path) → ((r : ResId) → now r ≡ None)
      → HoldsRegions p now (put_task path (runs below) t)
  holds-freed now free = record {
    inside = λ r other e. absurd (some-none other (sym e ∙ free r));
    outside = λ r other n.
        let none = regions-none r (ltb r.0 (length p.resources)) refl in
        elim (path-or_not other path) [
          | inl i ↦ ap (λ z. regions p r (stack_of (task_at z (put_task path (runs below) t)))) i
              ∙ ap (λ z. regions p r (stack_of z)) (task_at-put path t _ _ there) ∙ none.0
          | inr i ↦ regions-elsewhere p r path t _ _ other there i ∙ none.1 other i
        ];
  }
