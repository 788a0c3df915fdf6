-- The examples of a fresh start.
-- Names: each example has the name of its function.
use Rattle.std.specs.Prelude.{◌≡◌, ◌≢◌, ℕ, Bool, true, false, ltb, cond, Option, ◌==◌, ◌&&◌, [], ◌∷◌, length, Some, None, ◌<◌}
use Rattle.std.specs.List.{slice_get}
use Rattle.std.proofs.Common.{sym, ap, ap₂, ◌∙◌, refl, subst, inl, inr, arith}
use Rattle.std.proofs.lemmas.Bool.{and_parts}
use Rattle.std.proofs.lemmas.Option.{none-some, same_Some}
use Rattle.sf_base.proofs.HeapSplits.{at-same, one-single, star-drop_left, star-drop_right, star-map_left}
use Rattle.sf_base.proofs.Lookup.{get-single}
use Rattle.sf_base.proofs.MapSplits.{empty-holds}
use Rattle.sf_base.proofs.Options.{cond-some, some-none}
use Rattle.sf_base.specs.declared.ids.ResId.{ResId}
use Rattle.sf_base.specs.declared.ids.Var.{Var}
use Rattle.sf_base.specs.declared.ids.Var.TheVariants.{Shared}
use Rattle.sf_base.specs.declared.value.Value.{Value}
use Rattle.sf_base.specs.declared.value.Value.TheVariants.{Nil as nil, Loc as loc}
use Rattle.sf_base.specs.HeapStore.{Slot, shared, own}
use Rattle.sf_core.specs.Assertions.Occurs.{VarOccursIn}
use Rattle.sf_core.specs.Assertions.Sat.{Foot}
use Rattle.sf_core.specs.Checked.Machine.Examples.{emp, guarding, lock, one_cell_at, shared_in, shared_one, skip, event}
use Rattle.sf_core.specs.Checked.Machine.SettingUp.{FreshSkipRuns, FreshSkipStarts, SetVariablesDoNotStartFresh, UnmetInvariantsAreNotGood, first, fresh_start, init_with, makes_at, makes_its_cell, makes_nothing, no_cells, second, set_up_by}
use Rattle.sf_core.specs.Machine.Config.{items, adds, Frame, runs, Path, Common, Config, evaluate, task_at}
use Rattle.sf_core.specs.Machine.Good.{HasOwed, Returns, Good, owed}
use Rattle.sf_core.specs.Machine.HasThroughout.{ContractMentions}
use Rattle.sf_core.specs.Machine.Start.{Beginning, settled, fresh, BeginsWith, IsKept, first_holders, entry_frame, entry_slot, init_frame, init_slot}
use Rattle.sf_core.specs.Machine.Step.{procedure_at, returned, set_cell, set_slot}
use Rattle.sf_core.specs.Program.Syntax.{Procedure, Program, Resource}
use Rattle.sf_core.proofs.Inits.{has_throughout-mentions}
use Rattle.sf_core.proofs.Machine.Examples.Good.{alone-not_bad, returning-not_bad, skip_ended-good}
use Rattle.sf_core.proofs.Machine.Examples.Runs.{all-nothing, entry_part, entry_part-apart, one-sat, sat-one, to}
use Rattle.sf_core.proofs.Machine.Tasks.{task_at-running}

-- the contract of `skip` mentions no resource
skip-mentions : (h : Procedure) (r : ResId) → ContractMentions (set_up_by h) first r → ⊥
skip-mentions h r m =
    let same : skip ≡ m.procedure = cc (m.there) in
    elim m.occurs [
      | inl o ↦ none (Shared r m.variable)
          (subst (λ (z : Procedure). VarOccursIn z.pre.level (Shared r m.variable)) (sym same) o)
      | inr o ↦ none (Shared r m.variable)
          (subst (λ (z : Procedure). VarOccursIn z.post.level (Shared r m.variable)) (sym same) o)
    ]
  where
    none : (x : Var) → VarOccursIn emp.level x → ⊥
    none x o = o.2.0

pub fresh_skip_starts : FreshSkipStarts
unfolding FreshSkipStarts
fresh_skip_starts body = record {
  procedure = skip;
  there = refl;
  beginning = fresh second (init_with body);
  is = refl;
  holds_none = λ r h. skip-mentions (init_with body) r
      (has_throughout-mentions (set_up_by (init_with body)) first r refl h);
  no_init = refl;
  kept = kept;
  no_more = no_more;
  locals = λ i l m. absurd (omega (arith, l, m));
  begins = (refl, refl, unset, (λ n. nil, λ n h. refl, empty-holds));
}
  where
    kept : (slot : Slot) → IsKept (fresh second (init_with body)) (set_up_by (init_with body)) skip slot
        → (v : Value) × (shared_in nil slot ≡ Some v)
    kept (shared r i) q =
        let one = get-single guarding q.0 r.0 q.1 in
        let below : i < 1 = subst (λ (z : Resource). i < length z.variables) (sym one.1) q.2 in
        let zero : i ≡ 0 = omega arith in
        (nil, ap₂ (λ a b. cond ((a == 0) && (b == 0)) (Some nil) None) one.0 zero)
    kept (own e i) q = absurd (omega (arith, q.1))

    no_more : (slot : Slot) (v : Value) → shared_in nil slot ≡ Some v
        → IsKept (fresh second (init_with body)) (set_up_by (init_with body)) skip slot
    no_more (shared r i) v e =
        let b = and_parts (r.0 == 0) (i == 0) (cond-some ((r.0 == 0) && (i == 0)) nil v e) in
        let zero : i ≡ 0 = at-same 0 i b.1 in
        let below : i < 1 = omega arith in
        (guarding, ap (slice_get (guarding ∷ [])) (at-same 0 r.0 b.0), below)
    no_more (own f i) v e = absurd (none-some v e)

    unset : (r : ResId) (i : ℕ) (v : Value) → shared_in nil (shared r i) ≡ Some v → v ≡ nil
    unset r i v e = go ((r.0 == 0) && (i == 0)) e
      where
        go : (b : Bool) → cond b (Some nil) None ≡ Some v → v ≡ nil
        go true e = sym (same_Some nil v e)
        go false e = absurd (none-some v e)

-- it isn't one where the variable is set: neither fresh, nor settled without cells
pub set_variables_do_not_start_fresh : SetVariablesDoNotStartFresh
unfolding SetVariablesDoNotStartFresh
set_variables_do_not_start_fresh h location c s =
    let same : skip ≡ s.procedure = cc (s.there) in
    go s.beginning (subst (λ (z : Procedure). BeginsWith s.beginning (set_up_by h) z (shared_in (loc location)) no_cells)
    (sym same) s.begins)
  where
    go : (b : Beginning) → BeginsWith b (set_up_by h) skip (shared_in (loc location)) no_cells → ⊥
    go settled w =
        let d = sat-one shared_one (evaluate entry_slot (shared_in (loc location))) no_cells
        (star-drop_right (star-drop_left (star-map_left (λ part e. e.2) w))) in
        none-some d.1 d.3.here
    go (fresh n g) w = let same : loc location ≡ nil = w.2 lock 0 (loc location) refl in absurd (cc)

-- The run
module _ (location : ℕ) (some : location ≢ 0) where
  abbrev p : Program
  p = set_up_by makes_its_cell

  -- the frame that sets the resource up, at its end
  abbrev done_frame : Frame
  done_frame = record { fixed = (init_frame second makes_its_cell 0).fixed; todo = [] }

  -- until then the entry's task holds the resource
  held-one : (r : ResId) (of : Resource) → slice_get (guarding ∷ []) r.0 ≡ Some of
      → first_holders (fresh second makes_its_cell) p r ≡ None → ⊥
  held-one r of e free =
      let one = get-single guarding of r.0 e in
      some-none [] (ap (λ k. cond {A = Option Path} (ltb k 1) (Some []) None) (sym one.0) ∙ free)

  begins-good : Good p (fresh_start makes_its_cell)
  begins-good = record {
    never_bad = alone-not_bad (fresh_start makes_its_cell) _ refl (λ n. n);
    part = λ owner a. None;
    apart = λ owner other n a. tt;
    invariants = λ r of e free. absurd (held-one r of e free);
    posts = λ path frame g r e. absurd (no_return path frame r);
    finished = λ h. absurd h;
  }
    where
      no_return : (path : Path) (frame : Frame) → Returns (fresh_start makes_its_cell) path frame → ⊥
      no_return path frame r =
          let top : path ≡ [] = task_at-running path (init_frame second makes_its_cell 0 ∷ entry_frame first skip ∷ [])
          (runs (frame ∷ r.below)) r.there in
          let here : Some (runs (init_frame second makes_its_cell 0 ∷ entry_frame first skip ∷ []))
          ≡ Some (runs (frame ∷ r.below)) =
          subst (λ z. task_at z (fresh_start makes_its_cell).tasks ≡ Some (runs (frame ∷ r.below))) top r.there in
          let same : init_frame second makes_its_cell 0 ≡ frame = cc in
          let none : items (makes_its_cell).body ≡ [] = ap (λ (z : Frame). z.todo) same ∙ r.done in
          absurd (cc)

  -- what is shared once the cell is made
  abbrev made : Common
  made = set_slot (shared lock 0) (loc location)
      (set_cell location (Some (λ f. nil)) (fresh_start makes_its_cell).common)

  abbrev made_config : Config
  made_config = record {
    common = made;
    used = adds 1 (λ number. number == 0);
    tasks = runs (done_frame ∷ entry_frame first skip ∷ []);
  }

  made-good : Good p made_config
  made-good = record {
    never_bad = returning-not_bad made_config done_frame (entry_frame first skip ∷ []) refl refl;
    part = entry_part made.heap;
    apart = entry_part-apart made.heap;
    invariants = λ r of e free. absurd (held-one r of e free);
    posts = post;
    finished = λ h. absurd h;
  }
    where
      foot : Foot guarding.invariant.level (evaluate (init_slot 0) made.store) made.heap made.heap
      foot = record {
        rest = λ a. None;
        splits = all-nothing made.heap;
        sat = one-sat shared_one (evaluate (init_slot 0) made.store) made.heap location (λ f. nil) refl
            (one-single location (λ f. nil));
      }

      owes : HasOwed p makes_its_cell done_frame made (λ i. entry_part made.heap (owed [] i))
      owes i a e =
          let one = get-single guarding.invariant.level a i e in
          subst (λ z. Foot z (evaluate (init_slot 0) made.store) made.heap (entry_part made.heap (owed [] i))) one.1
          (subst (λ k. Foot guarding.invariant.level (evaluate (init_slot 0) made.store) made.heap
          (entry_part made.heap (owed [] k))) (sym one.0) foot)

      post : (path : Path) (frame : Frame) (g : Procedure) → Returns made_config path frame
          → procedure_at p frame.fixed.procedure ≡ Some g
          → HasOwed p g frame made (λ i. entry_part made.heap (owed path i))
      post path frame g r h =
          let top : path ≡ [] = task_at-running path (done_frame ∷ entry_frame first skip ∷ [])
          (runs (frame ∷ r.below)) r.there in
          let here : Some (runs (done_frame ∷ entry_frame first skip ∷ [])) ≡ Some (runs (frame ∷ r.below)) =
          subst (λ z. task_at z made_config.tasks ≡ Some (runs (frame ∷ r.below))) top r.there in
          let same : done_frame ≡ frame = cc in
          let there : procedure_at p second ≡ Some g =
          subst (λ (z : Frame). procedure_at p z.fixed.procedure ≡ Some g) (sym same) h in
          let procedure : makes_its_cell ≡ g = cc in
          subst (λ z. HasOwed p g frame made (λ i. entry_part made.heap (owed z i))) (sym top)
          (subst (λ (z : Frame). HasOwed p g z made (λ i. entry_part made.heap (owed [] i))) same
          (subst (λ (z : Procedure). HasOwed p z done_frame made (λ i. entry_part made.heap (owed [] i)))
          procedure owes))

  -- what its return leads to
  abbrev returned_config : Config
  returned_config = record {
    common = returned p done_frame.fixed made;
    used = adds 2 (adds 1 (λ number. number == 0));
    tasks = runs (entry_frame first skip ∷ []);
  }

  returned-good : Good p returned_config
  returned-good = skip_ended-good p.procedures returned_config location (λ f. nil) refl refl (λ r of e. refl) refl
      (one-single location (λ f. nil))

pub fresh_skip_runs : FreshSkipRuns
unfolding FreshSkipRuns
fresh_skip_runs location some = (
  made_config location some,
  returned_config location some,
  begins-good location some,
  to (set_up_by makes_its_cell) (makes_at location 1) (fresh_start makes_its_cell) _ _ _ refl refl
      (some, refl, refl, refl),
  refl,
  made-good location some,
  to (set_up_by makes_its_cell) (event [] 2) (made_config location some) _ _ _ refl refl (tt, refl, refl),
  record { free = refl; variable = refl; cell = one-single location (λ f. nil); ended = refl },
  returned-good location some,
)

-- a return owes the invariant's cell, which nothing has made
pub unmet_invariants_are_not_good : UnmetInvariantsAreNotGood
unfolding UnmetInvariantsAreNotGood
unmet_invariants_are_not_good g =
    let foot = g.posts [] (init_frame second makes_nothing 0) makes_nothing
    (record { below = entry_frame first skip ∷ []; there = refl; done = refl; called = tt }) refl 0
    (one_cell_at shared_one).level refl in
    let d = sat-one shared_one (evaluate (init_slot 0) (shared_in nil)) (g.part (owed [] 0)) foot.sat in
    absurd (cc (d.2))
