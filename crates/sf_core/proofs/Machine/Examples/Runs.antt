-- The examples of runs, and of a start without resources.
-- Names: each example has the name of its function; `ended-WHAT` speaks of an ended entry, `one-WHAT` of a cell.
use Rattle.std.specs.Prelude.{◌≡◌, ◌≢◌, ℕ, zero, suc, ◌==◌, ◌&&◌, pos, false, cond, [], ◌∷◌, Some, None, ◌⊎◌, ◌<◌}
use Rattle.std.specs.List.{slice_get}
use Rattle.std.specs.Option.{unwrap_or}
use Rattle.std.proofs.Common.{sym, ap, ap₂, ◌∙◌, refl, subst, inl, inr, arith}
use Rattle.std.proofs.lemmas.Bool.{and_parts}
use Rattle.std.proofs.lemmas.Option.{none-some, same_Some}
use Rattle.sf_base.proofs.Options.{cond-some}
use Rattle.sf_base.specs.declared.ids.ResId.{ResId}
use Rattle.sf_base.specs.declared.ids.Var.{Var}
use Rattle.sf_base.specs.declared.ids.Var.TheVariants.{Own, Shared}
use Rattle.sf_base.specs.declared.path.Turn.TheVariants.{Left as left, Right as right}
use Rattle.sf_base.specs.declared.value.Value.{Value}
use Rattle.sf_base.specs.declared.value.Value.TheVariants.{Nil as nil, Int as int, Loc as loc}
use Rattle.sf_core.specs.declared.command.Expr.{Expr}
use Rattle.sf_core.specs.declared.command.Expr.TheVariants.{Var as Variable}
use Rattle.sf_core.specs.declared.command.Occurrence.{Occurrence}
use Rattle.sf_core.specs.declared.assertion.Operand.TheVariants.{Known}
use Rattle.sf_base.proofs.HeapSplits.{at-same, one-single, put-elsewhere, star-drop_right}
use Rattle.sf_base.proofs.MapSplits.{apart-none, splits-empty_right}
use Rattle.sf_core.specs.Machine.Bad.{Bad}
use Rattle.sf_core.specs.Machine.Config.{Frame, Task, runs, Path, Common, Config, evaluate, task_at, put_task, adds, IsCalled}
use Rattle.sf_core.specs.Machine.Enabled.{HasEnded}
use Rattle.sf_core.specs.Machine.Good.{HasOwed, Owner, resource, owed, Returns, Good}
use Rattle.sf_base.specs.HeapStore.{Apart, Splits, Cell, put_field, Heap, IsOne, Slot, shared, own}
use Rattle.sf_core.specs.Machine.HasThroughout.{ContractMentions}
use Rattle.sf_core.specs.Checked.Machine.Examples.{at_own, own_one, one_cell, one_cell_at, main, main_done, set, setting, one_at, one_in, event, setting_start, SettingStarts, CallMutateReturn, alone, DisposeAtNilIsBad, makes, makes_twice, FreedLocationsComeAgain, skip, forking, forking_start, ChildrenEndInAnyOrder, fill, filling, filling_start, ChildrenFillReferences, hands_on, passing, passing_start, ReferencesArePassedOn, locks_and_loops, RegionThenLoop}
use Rattle.sf_core.specs.Assertions.Occurs.{VarOccursIn}
use Rattle.sf_core.specs.Assertions.Sat.{Foot, Sat}
use Rattle.sf_core.specs.Machine.Start.{settled, IsKept, entry_slot}
use Rattle.sf_core.specs.Machine.Step.{Event, procedure_at, TaskStep, Step}
use Rattle.sf_core.specs.Program.Init.{is_init}
use Rattle.sf_core.specs.Program.Syntax.{Procedure, Program, Resource}
use Rattle.sf_core.proofs.Inits.{has_throughout-mentions, owed_by-post}
use Rattle.sf_core.proofs.Machine.Tasks.{task_at-ended}

-- Steps of known configurations
-- the step that an event of a task makes, with the configuration that it leads to
pub to : (p : Program) (ev : Event) (c : Config) (t : Common) (from u : Task) → c.used ev.number ≡ false
    → task_at ev.task c.tasks ≡ Some from → TaskStep p ev c.common from t u
    → Step p ev c (record { common = t; used = adds ev.number c.used; tasks = put_task ev.task u c.tasks })
to p ev c t from u f e s = record {
  fresh = f;
  used = refl;
  from = from;
  to = u;
  there = e;
  steps = s;
  tasks = refl;
}

-- a dispose at nil is bad
pub dispose_at_nil_is_bad : DisposeAtNilIsBad
unfolding DisposeAtNilIsBad
dispose_at_nil_is_bad s rest = inl (record {
  path = [];
  task = _;
  enabled = record { there = refl; going = λ h. absurd (cc); free = λ h. h };
  absent = tt;
})

-- three events make, free and make again
pub freed_locations_come_again : FreedLocationsComeAgain
unfolding FreedLocationsComeAgain
freed_locations_come_again p s n = (
  _,
  (
    _,
    to p (makes 1) (alone makes_twice s) _ _ _ refl refl (fives, n, refl, refl),
    (
      _,
      to p (event [] 2) _ _ _ _ refl refl (5, λ f. nil, record { is = refl; there = refl }, refl, refl),
      (_, to p (makes 3) _ _ _ _ refl refl (fives, refl, refl, refl), refl),
    ),
  ),
  refl,
  refl,
  refl,
)
  where
    fives : (makes 1).at ≡ 0 → ⊥
    fives e = absurd (omega (arith, e))

pub forks-deep : 0 < 63
forks-deep = omega arith

-- both orders, event by event
pub children_end_in_any_order : ChildrenEndInAnyOrder
unfolding ChildrenEndInAnyOrder
children_end_in_any_order = (
  (
    _,
    (
      _,
      to forking (event [] 1) forking_start _ _ _ refl refl (forks-deep, skip, skip, refl, refl, refl, refl),
      (
        _,
        to forking (event (left ∷ []) 2) _ _ _ _ refl refl (tt, refl, refl),
        (
          _,
          to forking (event (right ∷ []) 3) _ _ _ _ refl refl (tt, refl, refl),
          (_, to forking (event [] 4) _ _ _ _ refl refl (tt, tt, refl, refl), refl),
        ),
      ),
    ),
    refl,
  ),
  (
    _,
    (
      _,
      to forking (event [] 1) forking_start _ _ _ refl refl (forks-deep, skip, skip, refl, refl, refl, refl),
      (
        _,
        to forking (event (right ∷ []) 2) _ _ _ _ refl refl (tt, refl, refl),
        (
          _,
          to forking (event (left ∷ []) 3) _ _ _ _ refl refl (tt, refl, refl),
          (_, to forking (event [] 4) _ _ _ _ refl refl (tt, tt, refl, refl), refl),
        ),
      ),
    ),
    refl,
  ),
)

-- One cell
-- the whole, and nothing
pub all-nothing : (whole : Heap) → Splits whole whole (λ a. None)
all-nothing whole = splits-empty_right (record { none = λ a. refl })

-- a heap of one cell where the expression says satisfies the assertion of that cell
pub one-sat : (x : Expr) (see : Expr → Value) (heap : Heap) (location : ℕ) (k : Cell) → see x ≡ loc location
    → IsOne location k heap → Sat (one_cell_at x).level see (λ n. nil) heap
one-sat x see heap location k e o = (
  λ n. nil,
  λ n h. refl,
  record {
    left = heap;
    right = λ a. None;
    splits = all-nothing heap;
    first = (location, k, e, o, tt);
    second = record { none = λ a. refl };
  },
)

-- and no other heap does
pub sat-one : (x : Expr) (see : Expr → Value) (heap : Heap) → Sat (one_cell_at x).level see (λ n. nil) heap
    → (location : ℕ) × (k : Cell) × (see x ≡ loc location) × IsOne location k heap
sat-one x see heap d = let e = star-drop_right d.2 in (e.0, e.1, e.2, e.3)

var-differs : (r : ResId) (i : ℕ) → Own 0 ≡ Shared r i → ⊥
var-differs r i e = absurd (cc)

-- the start of `main`
pub setting_starts : SettingStarts
unfolding SettingStarts
setting_starts k = record {
  procedure = main;
  there = refl;
  beginning = settled;
  is = refl;
  holds_none = λ r h. held r (has_throughout-mentions setting (record { 0 = 0 }) r refl h);
  no_init = refl;
  kept = kept;
  no_more = no_more;
  locals = λ i l m. absurd (omega (arith, l, m));
  begins = record {
    left = one_at k;
    right = λ a. None;
    splits = all-nothing (one_at k);
    first = one-sat (own_one 0) (evaluate entry_slot (one_in (loc 1))) (one_at k) 1 k refl (one-single 1 k);
    second = record { none = λ a. refl };
  };
}
  where
    is_first : (x : Var) (at : Occurrence) → at.var ≡ x → (Known (Variable at) ≡ Known (own_one 0)) ⊎ ⊥
        → Own 0 ≡ x
    is_first x at e (inl f) = let same : at ≡ at_own 0 = cc in ap (λ (z : Occurrence). z.var) (sym same) ∙ e
    is_first x at e (inr z) = absurd z

    in_contract : (x : Var) → VarOccursIn one_cell.level x → Own 0 ≡ x
    in_contract x o = elim (o.2).0 [ inl f ↦ is_first x o.0 o.1 f | inr z ↦ absurd z ]

    held : (r : ResId) → ContractMentions setting (record { 0 = 0 }) r → ⊥
    held r h =
        let same : main ≡ h.procedure = cc (h.there) in
        elim h.occurs [
          | inl o ↦ var-differs r h.variable
              (in_contract (Shared r h.variable)
              (subst (λ (z : Procedure). VarOccursIn z.pre.level (Shared r h.variable)) (sym same) o))
          | inr o ↦ var-differs r h.variable
              (in_contract (Shared r h.variable)
              (subst (λ (z : Procedure). VarOccursIn z.post.level (Shared r h.variable)) (sym same) o))
        ]

    kept : (slot : Slot) → IsKept settled setting main slot → (v : Value) × (one_in (loc 1) slot ≡ Some v)
    kept (shared r i) q = absurd (none-some q.0 q.1)
    kept (own e i) q =
        let first : i ≡ 0 = omega (arith, q.1) in
        (loc 1, ap₂ (λ a b. one_in (loc 1) (own a b)) q.0 first)

    no_more : (slot : Slot) (v : Value) → one_in (loc 1) slot ≡ Some v → IsKept settled setting main slot
    no_more (shared r i) v e = absurd (none-some v e)
    no_more (own f i) v e =
        let b = and_parts (f == 0) (i == 0) (cond-some ((f == 0) && (i == 0)) (loc 1) v e) in
        let first : i ≡ 0 = at-same 0 i b.1 in
        let below : i < 1 = omega arith in
        (at-same 0 f b.0, below)

-- An ended entry
-- what a return owes is its procedure's postcondition, where that doesn't set the resources up
pub owes-first : (p : Program) (g : Procedure) (frame : Frame) (s : Common) (parts : ℕ → Heap)
    → is_init g ≡ false → Foot g.post.level (evaluate frame.fixed.slots s.store) s.heap (parts 0)
    → HasOwed p g frame s parts
owes-first p g frame s parts n f zero a e =
    subst (λ z. Foot z (evaluate frame.fixed.slots s.store) s.heap (parts 0))
    (same_Some g.post.level a (sym (ap (λ z. slice_get z 0) (owed_by-post p g n)) ∙ e)) f
owes-first p g frame s parts n f (suc i) a e =
    absurd (none-some a (sym (ap (λ z. slice_get z (suc i)) (owed_by-post p g n)) ∙ e))

-- the whole heap is what the entry owes first
abbrev pub entry_part : Heap → Owner → Heap
entry_part h (resource r) = λ a. None
entry_part h (owed [] zero) = h
entry_part h (owed [] (suc i)) = λ a. None
entry_part h (owed (turn ∷ path) i) = λ a. None

-- these parts are disjoint
pub entry_part-apart : (h : Heap) (owner other : Owner) → owner ≢ other → (a : ℕ)
    → Apart (entry_part h owner a) (entry_part h other a)
entry_part-apart h (resource r) other n a = tt
entry_part-apart h (owed [] zero) (resource r) n a = apart-none (h a)
entry_part-apart h (owed [] zero) (owed [] zero) n a = absurd (n refl)
entry_part-apart h (owed [] zero) (owed [] (suc i)) n a = apart-none (h a)
entry_part-apart h (owed [] zero) (owed (turn ∷ path) i) n a = apart-none (h a)
entry_part-apart h (owed [] (suc i)) other n a = tt
entry_part-apart h (owed (turn ∷ path) i) other n a = tt

-- nothing bad comes after the end
pub ended-not_bad : (c : Config) → HasEnded [] c.tasks → Bad c → ⊥
ended-not_bad c h (inl b) =
    let top : b.path ≡ [] = task_at-ended b.path c.tasks b.task h b.enabled.there in
    let there : task_at [] c.tasks ≡ Some b.task =
    subst (λ z. task_at z c.tasks ≡ Some b.task) top b.enabled.there in
    let same : c.tasks ≡ b.task = cc in
    b.enabled.going (subst (λ z. HasEnded z b.task) (sym top) (subst (HasEnded []) same h))
ended-not_bad c h (inr r) =
    r.different (task_at-ended r.path c.tasks r.task h r.enabled.there
    ∙ sym (task_at-ended r.other_path c.tasks r.other h r.other_enabled.there))

-- an ended entry of a program without resources is good where the heap satisfies its postcondition
ended-good : (p : Program) (c : Config) (frame : Frame) (g : Procedure) → p.resources ≡ []
    → c.tasks ≡ runs (frame ∷ []) → frame.todo ≡ [] → procedure_at p frame.fixed.procedure ≡ Some g
    → is_init g ≡ false → Sat g.post.level (evaluate frame.fixed.slots c.common.store) (λ n. nil) c.common.heap → Good p c
ended-good p c frame g none_there only done is other sat = record {
  never_bad = ended-not_bad c ended;
  part = entry_part c.common.heap;
  apart = entry_part-apart c.common.heap;
  invariants = λ r of e f. absurd (no_resource r of e);
  posts = λ path other h r e. absurd (no_return path other r);
  finished = λ h. record {
    frame = frame;
    alone = only;
    procedure = g;
    there = is;
    free = λ r of e. absurd (no_resource r of e);
    posts = owes-first p g frame c.common (λ i. entry_part c.common.heap (owed [] i)) other whole;
    all = λ a k e. inl (0, g.post.level, ap (λ z. slice_get z 0) (owed_by-post p g other), e);
  };
}
  where
    ended : HasEnded [] c.tasks
    ended = subst (HasEnded []) (sym only) done

    no_resource : (r : ResId) (of : Resource) → slice_get p.resources r.0 ≡ Some of → ⊥
    no_resource r of e = none-some of (subst (λ z. slice_get z r.0 ≡ Some of) none_there e)

    whole : Foot g.post.level (evaluate frame.fixed.slots c.common.store) c.common.heap c.common.heap
    whole = record { rest = λ a. None; splits = all-nothing c.common.heap; sat = sat }

    no_return : (path : Path) (other : Frame) → Returns c path other → ⊥
    no_return path other r =
        let top : path ≡ [] = task_at-ended path c.tasks (runs (other ∷ r.below)) ended r.there in
        let there : task_at [] c.tasks ≡ Some (runs (other ∷ r.below)) =
        subst (λ z. task_at z c.tasks ≡ Some (runs (other ∷ r.below))) top r.there in
        let same : [] ≡ r.below = cc in
        subst (λ z. IsCalled [] z) (sym same) (subst (λ z. IsCalled z r.below) top r.called)

-- `main` at its end with its one cell is good
pub set-good : (c : Config) (k : Cell) → c.tasks ≡ runs (main_done ∷ [])
    → c.common.store (own 0 0) ≡ Some (loc 1) → IsOne 1 k c.common.heap → Good setting c
set-good c k only e o = ended-good setting c main_done main refl only refl refl refl
    (one-sat (own_one 0) (evaluate entry_slot c.common.store) c.common.heap 1 k (ap (λ z. unwrap_or z nil) e)
    o)

-- the three events, and that their end is good
pub call_mutate_return : CallMutateReturn
unfolding CallMutateReturn
call_mutate_return k = (
  _,
  (
    _,
    to setting (event [] 1) (setting_start k) _ _ _ refl refl (set, refl, refl, refl),
    (
      _,
      to setting (event [] 2) _ _ _ _ refl refl (1, k, record { is = refl; there = refl }, refl, refl),
      (_, to setting (event [] 3) _ _ _ _ refl refl (tt, refl, refl), refl),
    ),
  ),
  record { cell = refl; gone = refl; stays = refl; ended = refl },
  set-good _ (put_field k 0 (int (pos 7))) refl refl now_one,
)
  where
    now_one : IsOne 1 (put_field k 0 (int (pos 7)))
        (λ a. cond (a == 1) (Some (put_field k 0 (int (pos 7)))) (one_at k a))
    now_one = record {
      here = refl;
      elsewhere = λ a n. put-elsewhere 1 a (Some (put_field k 0 (int (pos 7)))) (one_at k) n
          ∙ (one-single 1 k).elsewhere a n;
    }

-- the events of the fork and of both children
pub children_fill_references : ChildrenFillReferences
unfolding ChildrenFillReferences
children_fill_references = (
  _,
  _,
  (
    _,
    to filling (event [] 1) filling_start _ _ _ refl refl (forks-deep, fill, fill, refl, refl, refl, refl),
    refl,
  ),
  record { left_value = refl; left_local = refl; right_value = refl; right_local = refl; no_more = refl },
  (
    _,
    to filling (event (left ∷ []) 2) _ _ _ _ refl refl (refl, refl),
    (
      _,
      to filling (event (right ∷ []) 3) _ _ _ _ refl refl (refl, refl),
      (
        _,
        to filling (event (right ∷ []) 4) _ _ _ _ refl refl (tt, refl, refl),
        (
          _,
          to filling (event (left ∷ []) 5) _ _ _ _ refl refl (tt, refl, refl),
          (_, to filling (event [] 6) _ _ _ _ refl refl (tt, tt, refl, refl), refl),
        ),
      ),
    ),
  ),
  record { first = refl; second = refl; left_gone = (refl, refl); right_gone = (refl, refl); ended = refl },
)

-- the events of the two calls, the assignment and the two returns
pub references_are_passed_on : ReferencesArePassedOn
unfolding ReferencesArePassedOn
references_are_passed_on = (
  _,
  (
    _,
    to passing (event [] 1) passing_start _ _ _ refl refl (hands_on, refl, refl, refl),
    (
      _,
      to passing (event [] 2) _ _ _ _ refl refl (fill, refl, refl, refl),
      (
        _,
        to passing (event [] 3) _ _ _ _ refl refl (refl, refl),
        (
          _,
          to passing (event [] 4) _ _ _ _ refl refl (tt, refl, refl),
          (_, to passing (event [] 5) _ _ _ _ refl refl (tt, refl, refl), refl),
        ),
      ),
    ),
  ),
  refl,
  refl,
)

-- the events of the region and of the loop
pub region_then_loop : RegionThenLoop
unfolding RegionThenLoop
region_then_loop p s free = (
  _,
  _,
  (_, to p (event [] 1) (alone locks_and_loops s) _ _ _ refl refl (free, tt, refl, refl), refl),
  refl,
  (
    _,
    to p (event [] 2) _ _ _ _ refl refl (refl, refl),
    (
      _,
      to p (event [] 3) _ _ _ _ refl refl (refl, refl, refl),
      (
        _,
        to p (event [] 4) _ _ _ _ refl refl (refl, inl (refl, refl)),
        (
          _,
          to p (event [] 5) _ _ _ _ refl refl (refl, refl),
          (_, to p (event [] 6) _ _ _ _ refl refl (refl, inr (seven-not_nil, refl)), refl),
        ),
      ),
    ),
  ),
  refl,
  refl,
  refl,
)
  where
    seven-not_nil : int (pos 7) ≡ nil → ⊥
    seven-not_nil e = absurd (cc)
