-- That a start is in order, and so is every configuration that is reached from it.
-- Names: `start-WHAT`, and `reach-LAW`.
use Rattle.std.specs.Prelude.{◌≡◌, ℕ, ◌+◌, ◌-◌, ◌==◌, ◌≤◌, ◌<◌, ◌≢◌, Bool, true, false, cond, ◌&&◌, leb, ltb, Option, Some, None, List, [], ◌∷◌, length, is_some}
use Rattle.std.specs.List.{slice_get}
use Rattle.std.proofs.Common.{sym, ap, ap₂, ◌∙◌, refl, subst, inl, inr, arith}
use Rattle.std.proofs.lemmas.Bool.{and_parts, cases_lt, or_left, or_right}
use Rattle.std.proofs.lemmas.Bool.Decides.{nat_tests}
use Rattle.sf_base.proofs.Bools.{bool-same}
use Rattle.sf_base.proofs.HeapSplits.{at-same}
use Rattle.std.proofs.lemmas.Option.{none-some, same_Some}
use Rattle.sf_base.proofs.Options.{some-none, some-once}
use Rattle.sf_base.specs.declared.ids.ProcId.{ProcId}
use Rattle.sf_base.specs.declared.ids.ResId.{ResId}
use Rattle.sf_base.specs.declared.ids.Var.{Var}
use Rattle.sf_base.specs.declared.ids.Var.TheVariants.{Own, Shared}
use Rattle.sf_base.specs.declared.path.Turn.TheVariants.{Left as left, Right as right}
use Rattle.sf_base.specs.HeapStore.{Heap, Slot, shared, own, Store}
use Rattle.sf_core.specs.Machine.Config.{items, in_room, Frame, runs, Path, Config, task_at}
use Rattle.sf_core.specs.Checked.Machine.InOrder.{FrameIsFormed, stack_of, exits, throughout, regions, is_outer, times_there, with_rooms, NamesOf, IsInOrder}
use Rattle.sf_core.specs.Machine.Reach.{Reach}
use Rattle.sf_core.specs.Machine.Start.{Beginning, settled, fresh, entry_slot, entry_frame, init_slot, init_frame, first_count, initial_config, BeginsWith, Start}
use Rattle.sf_core.specs.Machine.Step.{Event, procedure_at, room_for}
use Rattle.sf_core.specs.Program.Formed.{variable_count, IsInBody, IsFormed}
use Rattle.sf_core.specs.Program.Init.{is_init}
use Rattle.sf_core.specs.Program.Syntax.{Procedure, Program, Resource}
use Rattle.sf_core.proofs.Inits.{sets_up-is}
use Rattle.sf_core.proofs.Machine.InOrder.Kept.{step-keeps}
use Rattle.sf_core.proofs.Machine.InOrder.Shapes.{block-within, block-exits}
use Rattle.sf_core.proofs.Machine.InOrder.Slots.{is-there, one_if, counts-disjoint, counts-store}

-- a variable of a resource that is there
resource-there : (o : Option Resource) (i : ℕ) → ltb i (variable_count o) ≡ true
    → (of : Resource) × (o ≡ Some of) × (i < length of.variables)
resource-there None i h = absurd (grind (arith, nat_tests))
resource-there (Some of) i h = (of, refl, grind (arith, nat_tests))

less-is : (i n : ℕ) → i < n → ltb i n ≡ true
less-is i n l = grind (arith, nat_tests)

is-less : (i n : ℕ) → ltb i n ≡ true → i < n
is-less i n e = grind (arith, nat_tests)

-- a room that begins after the references has the other variables
room-has : (i refs names : ℕ) → refs ≤ i → i < names → (leb refs i && ltb i (refs + (names - refs))) ≡ true
room-has i refs names l m =
    let low : leb refs i ≡ true = grind (arith, nat_tests) in
    let inside : i < refs + (names - refs) = omega (arith, l, m) in
    let high : ltb i (refs + (names - refs)) ≡ true = grind (arith, nat_tests) in
    ap₂ (λ a b. a && b) low high

-- the room of a procedure without references that begins there has its variables
init-has : (i first names refs : ℕ) → refs ≡ 0 → i < names
    → (leb first (first + i) && ltb (first + i) (first + (names - refs))) ≡ true
init-has i first names refs bare m =
    let low : leb first (first + i) ≡ true = grind (arith, nat_tests) in
    let inside : first + i < first + (names - refs) = omega (arith, bare, m) in
    let high : ltb (first + i) (first + (names - refs)) ≡ true = grind (arith, nat_tests) in
    ap₂ (λ a b. a && b) low high

-- the references and the room are the entry's own variables
own-parts : (a : Bool) (i refs names : ℕ) → refs ≤ names
    → one_if (a && ltb i refs) + (one_if (a && (leb refs i && ltb i (refs + (names - refs)))) + 0)
    ≡ one_if (a && ltb i names)
own-parts false i refs names l = refl
own-parts true i refs names l = elim (cases_lt i refs) [
  | inl h ↦ let x : ltb i refs ≡ true = grind (arith, nat_tests) in
      let y : leb refs i ≡ false = grind (arith, nat_tests) in
      let z : ltb i names ≡ true = grind (arith, nat_tests) in
      ap₂ (λ a b. one_if a + (one_if (b && ltb i (refs + (names - refs))) + 0)) x y ∙ ap one_if (sym z)
  | inr h ↦ let x : ltb i refs ≡ false = grind (arith, nat_tests) in
      let y : leb refs i ≡ true = grind (arith, nat_tests) in
      let same : refs + (names - refs) ≡ names = omega arith in
      ap₂ (λ a b. one_if a + (one_if (b && ltb i (refs + (names - refs))) + 0)) x y
      ∙ ap (λ n. 0 + (one_if (ltb i n) + 0)) same ∙ none (one_if (ltb i names))
]
  where
    none : (n : ℕ) → 0 + (n + 0) ≡ n
    none n = omega arith

-- and those of a procedure without references come after them
after-parts : (a : Bool) (i first more refs : ℕ) → refs ≡ 0
    → one_if (a && (leb first i && ltb i (first + (more - refs)))) + one_if (a && ltb i first)
    ≡ one_if (a && ltb i (first + more))
after-parts false i first more refs bare = refl
after-parts true i first more refs bare = elim (cases_lt i first) [
  | inl h ↦ let x : leb first i ≡ false = grind (arith, nat_tests) in
      let y : ltb i first ≡ true = grind (arith, nat_tests) in
      let z : ltb i (first + more) ≡ true = grind (arith, nat_tests) in
      ap₂ (λ a b. one_if (a && ltb i (first + (more - refs))) + one_if b) x y ∙ ap one_if (sym z)
  | inr h ↦ let x : leb first i ≡ true = grind (arith, nat_tests) in
      let y : ltb i first ≡ false = grind (arith, nat_tests) in
      let same : more - refs ≡ more = omega (arith, bare) in
      ap₂ (λ a b. one_if (a && ltb i (first + (more - refs))) + one_if b) x y
      ∙ ap (λ n. one_if (ltb i (first + n)) + 0) same ∙ none (one_if (ltb i (first + more)))
]
  where
    none : (n : ℕ) → n + 0 ≡ n
    none n = omega arith

two-parts : (a : Bool) (i refs names more none : ℕ) → none ≡ 0 → refs ≤ names
    → one_if (a && ltb i refs) + (one_if (a && (leb names i && ltb i (names + (more - none))))
    + (one_if (a && (leb refs i && ltb i (refs + (names - refs)))) + 0)) ≡ one_if (a && ltb i (names + more))
two-parts a i refs names more none bare l =
    let entry : one_if (a && ltb i refs) + (one_if (a && (leb refs i && ltb i (refs + (names - refs)))) + 0)
    ≡ one_if (a && ltb i names) = own-parts a i refs names l in
    let both : one_if (a && (leb names i && ltb i (names + (more - none)))) + one_if (a && ltb i names)
    ≡ one_if (a && ltb i (names + more)) = after-parts a i names more none bare in
    omega arith

module _ (p : Program) (f : ProcId) (store : Store) (heap : Heap) (c : Config) (formed : IsFormed p)
    (s : Start p f store heap c) where
  abbrev g : Procedure
  g = s.procedure

  -- no more references than variables
  few-references : g.references ≤ length g.names
  few-references =
      let d = (formed.procedures f.0 g s.there).declared in
      omega (arith, d)

  start-shared : (r : ResId) (i : ℕ) → is_outer p g (shared r i) ≡ is_some (store (shared r i))
  start-shared r i = bool-same (ltb i (variable_count (slice_get p.resources r.0))) (is_some (store (shared r i)))
      (λ h. let k = s.kept (shared r i) (resource-there (slice_get p.resources r.0) i h) in ap is_some k.1)
      (λ h. let v = is-there (store (shared r i)) h in
      let k = s.no_more (shared r i) v.0 v.1 in
      let l : i < length (k.0).variables = k.2 in
      ap (λ z. ltb i (variable_count z)) k.1 ∙ grind (arith, nat_tests))

  -- the slots of number 0 are those from 0 on
  start-own : (e i : ℕ) → ((e == 0) && ltb i (first_count s.beginning g)) ≡ is_some (store (own e i))
  start-own e i = bool-same ((e == 0) && ltb i (first_count s.beginning g)) (is_some (store (own e i)))
      (λ h. let b = and_parts (e == 0) (ltb i (first_count s.beginning g)) h in
      let k = s.kept (own e i) (at-same 0 e b.0, is-less i (first_count s.beginning g) b.1) in ap is_some k.1)
      (λ h. let v = is-there (store (own e i)) h in
      let k = s.no_more (own e i) v.0 v.1 in
      ap₂ (λ a b. (a == 0) && b) k.0 (less-is i (first_count s.beginning g) k.1))

  -- the entry's frame
  start-names : (scope : Slot → Bool) → ((slot : Slot) → is_outer p g slot ≡ true → scope slot ≡ true)
      → NamesOf p (with_rooms (entry_frame f g ∷ []) scope) (entry_frame f g).fixed
  start-names scope wide = record {
    resources = λ r i. refl;
    within = λ h e x b. go x (subst (λ z. IsInBody p z x) (some-once (procedure_at p f) h g e s.there) b);
  }
    where
      go : (x : Var) → IsInBody p g x → with_rooms (entry_frame f g ∷ []) scope (entry_slot x) ≡ true
      go (Shared r i) b = wide (shared r i) (less-is i (variable_count (slice_get p.resources r.0)) b)
      go (Own i) b = elim (cases_lt i g.references) [
        | inl h ↦ or_right (in_room (room_for g 0 g.references) (own 0 i)) (scope (own 0 i))
            (wide (own 0 i) (less-is i g.references h))
        | inr h ↦ or_left (in_room (room_for g 0 g.references) (own 0 i)) (scope (own 0 i))
            (room-has i g.references (length g.names) h b)
      ]

  entry-formed : FrameIsFormed p (entry_frame f g)
  entry-formed = record {
    procedure = g;
    there = s.there;
    todo = block-within p g g.body (formed.procedures f.0 g s.there).body;
  }

  -- the entry sets no resources up
  entry-plain : (r : ResId) → throughout p r (entry_frame f g).fixed ≡ 0
  entry-plain r = ap (λ b. cond (b && ltb r.0 (length p.resources)) 1 0)
      (sets_up-is p f g s.there ∙ s.no_init)

  entry-regions : (r : ResId) → regions p r (entry_frame f g ∷ []) ≡ 0
  entry-regions r =
      let none : exits r (items g.body) ≡ 0 = block-exits r g.body in
      let plain : throughout p r (entry_frame f g).fixed ≡ 0 = entry-plain r in
      omega arith

  -- a settled start is in order
  settled-order : s.beginning ≡ settled → IsInOrder p g (initial_config settled p f g store heap)
  settled-order is = record {
    formed = (entry-formed, tt);
    inside = λ r path e. absurd (some-none path (sym e));
    outside = λ r path n. none r path;
    numbers = (refl, tt);
    start = refl;
    disjoint = λ slot. counts-disjoint _ (is_some (store slot)) (counts slot);
    store = λ slot. counts-store _ (is_some (store slot)) (counts slot);
    names = (start-names (is_outer p g) (λ slot h. h), tt);
    bottom = (refl, refl);
    waiting = tt;
    depth = tt;
  }
    where
      none : (r : ResId) (path : Path) → regions p r (stack_of (task_at path (runs (entry_frame f g ∷ [])))) ≡ 0
      none r [] = entry-regions r
      none r (left ∷ path) = refl
      none r (right ∷ path) = refl

      counts : (slot : Slot) → times_there p g (runs (entry_frame f g ∷ [])) slot ≡ one_if (is_some (store slot))
      counts (shared r i) =
          let b : one_if (is_outer p g (shared r i)) ≡ one_if (is_some (store (shared r i))) =
          ap one_if (start-shared r i) in
          omega arith
      counts (own e i) =
          own-parts (e == 0) i g.references (length g.names) few-references
          ∙ ap (λ b. one_if ((e == 0) && ltb i (first_count b g))) (sym is) ∙ ap one_if (start-own e i)

  -- so is a fresh one
  module _ (n : ProcId) (h : Procedure) (is : s.beginning ≡ fresh n h) (there : procedure_at p n ≡ Some h)
      (named : is_init h ≡ true) where
    abbrev mine : Frame
    mine = init_frame n h (length g.names)

    -- it has no parameter
    bare : h.references ≡ 0
    bare = ((formed.procedures n.0 h there).init named).references

    init-formed : FrameIsFormed p mine
    init-formed = record {
      procedure = h;
      there = there;
      todo = block-within p h h.body (formed.procedures n.0 h there).body;
    }

    init-regions : (r : ResId) (b : Bool) → ltb r.0 (length p.resources) ≡ b
        → regions p r (mine ∷ entry_frame f g ∷ []) ≡ one_if b
    init-regions r b e =
        let first : throughout p r mine.fixed ≡ one_if b =
        ap₂ (λ x y. cond (x && y) 1 0) (sets_up-is p n h there ∙ named) e in
        let none : exits r (items h.body) ≡ 0 = block-exits r h.body in
        let rest : regions p r (entry_frame f g ∷ []) ≡ 0 = entry-regions r in
        omega arith

    fresh-inside : (r : ResId) (path : Path) (b : Bool) → ltb r.0 (length p.resources) ≡ b
        → cond b (Some []) None ≡ Some path
        → regions p r (stack_of (task_at path (runs (mine ∷ entry_frame f g ∷ [])))) ≡ 1
    fresh-inside r path false i e = absurd (none-some path e)
    fresh-inside r path true i e =
        let top : [] ≡ path = same_Some [] path e in
        subst (λ z. regions p r (stack_of (task_at z (runs (mine ∷ entry_frame f g ∷ [])))) ≡ 1) top
        (init-regions r true i)

    fresh-outside : (r : ResId) (path : Path) (b : Bool) → ltb r.0 (length p.resources) ≡ b
        → cond b (Some []) None ≢ Some path
        → regions p r (stack_of (task_at path (runs (mine ∷ entry_frame f g ∷ [])))) ≡ 0
    fresh-outside r [] true i e = absurd (e refl)
    fresh-outside r [] false i e = init-regions r false i
    fresh-outside r (left ∷ path) b i e = refl
    fresh-outside r (right ∷ path) b i e = refl

    fresh-counts : (slot : Slot)
        → times_there p g (runs (mine ∷ entry_frame f g ∷ [])) slot ≡ one_if (is_some (store slot))
    fresh-counts (shared r i) =
        let b : one_if (is_outer p g (shared r i)) ≡ one_if (is_some (store (shared r i))) =
        ap one_if (start-shared r i) in
        omega arith
    fresh-counts (own e i) =
        two-parts (e == 0) i g.references (length g.names) (length h.names) h.references bare few-references
        ∙ ap (λ b. one_if ((e == 0) && ltb i (first_count b g))) (sym is) ∙ ap one_if (start-own e i)

    init-names : NamesOf p (with_rooms (mine ∷ entry_frame f g ∷ []) (is_outer p g)) mine.fixed
    init-names = record {
      resources = λ r i. refl;
      within = λ k e x b. go x (subst (λ z. IsInBody p z x) (some-once (procedure_at p n) k h e there) b);
    }
      where
        go : (x : Var) → IsInBody p h x
            → with_rooms (mine ∷ entry_frame f g ∷ []) (is_outer p g) (init_slot (length g.names) x) ≡ true
        go (Shared r i) b = less-is i (variable_count (slice_get p.resources r.0)) b
        go (Own i) b = or_left (in_room (room_for h 0 (length g.names)) (own 0 (length g.names + i))) _
            (init-has i (length g.names) (length h.names) h.references bare b)

    fresh-order : IsInOrder p g (initial_config (fresh n h) p f g store heap)
    fresh-order = record {
      formed = (init-formed, (entry-formed, tt));
      inside = λ r path e. fresh-inside r path (ltb r.0 (length p.resources)) refl e;
      outside = λ r path e. fresh-outside r path (ltb r.0 (length p.resources)) refl e;
      numbers = (refl, (refl, tt));
      start = refl;
      disjoint = λ slot. counts-disjoint _ (is_some (store slot)) (fresh-counts slot);
      store = λ slot. counts-store _ (is_some (store slot)) (fresh-counts slot);
      names = (init-names, (start-names (is_outer p g) (λ slot e. e), tt));
      bottom = (refl, refl);
      waiting = tt;
      depth = tt;
    }

  -- a start is in order
  pub start-in_order : IsInOrder p g c
  start-in_order = subst (IsInOrder p g) (sym s.is) (go s.beginning refl s.begins)
    where
      go : (b : Beginning) → s.beginning ≡ b → BeginsWith b p g store heap
          → IsInOrder p g (initial_config s.beginning p f g store heap)
      go settled e w = subst (λ z. IsInOrder p g (initial_config z p f g store heap)) (sym e) (settled-order e)
      go (fresh n h) e w = subst (λ z. IsInOrder p g (initial_config z p f g store heap)) (sym e)
          (fresh-order n h e w.0 w.1)

-- so is what is reached from a configuration in order
pub reach-keeps : (p : Program) (g : Procedure) (events : List Event) (c d : Config) → IsFormed p
    → IsInOrder p g c → Reach p c events d → IsInOrder p g d
reach-keeps p g [] c d formed o r = subst (IsInOrder p g) (sym r) o
reach-keeps p g (event ∷ events) c d formed o (m, s, r) =
    reach-keeps p g events m d formed (step-keeps p g event c m formed o s) r
