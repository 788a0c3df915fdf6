-- The examples of good configurations: ended entries, callees at their return, and resources.
-- Names: each example has the name of its function; `WHAT-one` gives the cell, `WHAT-good` says what is good.
use Rattle.std.specs.Prelude.{◌≡◌, ◌≢◌, ℕ, ◌==◌, Bool, true, false, cond, codes, List, [], ◌∷◌, Option, Some, None}
use Rattle.std.specs.List.{slice_get}
use Rattle.std.specs.Option.{unwrap_or}
use Rattle.std.proofs.Common.{sym, ap, ◌∙◌, refl, subst, inl, inr}
use Rattle.std.proofs.lemmas.Option.{none-some, same_Some}
use Rattle.sf_base.proofs.Lookup.{get-single}
use Rattle.sf_base.proofs.Options.{some-none}
use Rattle.sf_base.specs.declared.ids.ResId.{ResId}
use Rattle.sf_base.specs.declared.value.Value.{Value}
use Rattle.sf_base.specs.declared.value.Value.TheVariants.{Nil as nil, Loc as loc}
use Rattle.sf_core.specs.declared.command.Expr.{Expr}
use Rattle.sf_base.proofs.HeapSplits.{one-in, one-single, one-splits, single}
use Rattle.sf_core.proofs.Machine.Examples.Runs.{one-sat, owes-first, sat-one, entry_part, entry_part-apart, ended-not_bad, set-good}
use Rattle.sf_core.proofs.Machine.Tasks.{task_at-running}
use Rattle.sf_base.proofs.MapSplits.{empty_map, empty-holds, splits-empty_left, splits-empty_right, apart-none}
use Rattle.sf_core.proofs.Assertions.Segments.{loc-same, nil-not_loc}
use Rattle.sf_base.proofs.StoreSplits.{resource-is, resource-same}
use Rattle.sf_core.specs.Machine.Bad.{Bad, IsAtNoCell}
use Rattle.sf_core.specs.Machine.Next.{frame_next, next}
use Rattle.sf_core.specs.Machine.Config.{Frame, runs, Path, Config, evaluate, task_at, IsCalled}
use Rattle.sf_core.specs.Machine.Enabled.{HasEnded}
use Rattle.sf_core.specs.Machine.Good.{HasOwed, Owner, resource, owed, IsOwned, Returns, Good}
use Rattle.sf_base.specs.HeapStore.{Apart, Cell, Heap, IsEmpty, IsOne, shared}
use Rattle.sf_core.specs.Checked.Machine.Examples.{lock, own_one, emp, one_cell, one_cell_at, main, main_done, set, set_done, setting, one_in, ended_with, EndedIsGoodWithItsCellAlone, returning_with, ReturningIsGoodWithItsCell, shared_one, skip, skip_done, guarding, guarded, shared_in, skip_ended_with, EndedIsGoodWithTheInvariantAlone, FreeResourcesHaveTheirCell, EndedWhileHeldIsNotGood}
use Rattle.sf_core.specs.Assertions.Sat.{Foot}
use Rattle.sf_core.specs.Machine.Start.{entry_slot}
use Rattle.sf_core.specs.Machine.Step.{procedure_at}
use Rattle.sf_core.specs.Program.Syntax.{Procedure, Program, Resource}

-- a footprint of one cell has it where the expression says, and so the heap has it there
pub foot-one : (x : Expr) (see : Expr → Value) (heap part : Heap) (a : ℕ) → see x ≡ loc a
    → Foot (one_cell_at x).level see heap part → (k : Cell) × IsOne a k part × (heap a ≡ Some k)
foot-one x see heap part a e f =
    let d = sat-one x see part f.sat in
    let here : d.0 ≡ a = loc-same d.0 a (sym d.2 ∙ e) in
    let one : IsOne a d.1 part = subst (λ z. IsOne z d.1 part) here d.3 in
    (d.1, one, one-in one f.splits)

-- of a program without resources each cell is the entry's
owned-entry : (part : Owner → Heap) (a : ℕ) (k : Cell) → IsOwned setting main part a k
    → part (owed [] 0) a ≡ Some k
owned-entry part a k (inl e) =
    subst (λ z. part (owed [] z) a ≡ Some k) (get-single main.post.level e.1 e.0 e.2).0 e.3
owned-entry part a k (inr e) = absurd (none-some e.1 e.2)

-- a heap all of whose cells are in a part of one cell that it has is that cell
one-whole : (heap part : Heap) (a : ℕ) (k : Cell) → IsOne a k part → heap a ≡ Some k
    → ((b : ℕ) (l : Cell) → heap b ≡ Some l → part b ≡ Some l) → IsOne a k heap
one-whole heap part a k o e all = record { here = e; elsewhere = λ b n. go b n (heap b) refl }
  where
    go : (b : ℕ) → b ≢ a → (o : Option Cell) → heap b ≡ o → heap b ≡ None
    go b n None f = f
    go b n (Some l) f = absurd (none-some l (sym (o.elsewhere b n) ∙ all b l f))

ended-one : (heap : Heap) → Good setting (ended_with heap) → (k : Cell) × IsOne 1 k heap
ended-one heap g =
    let end = g.finished refl in
    let frame : main_done ≡ end.frame = cc (end.alone) in
    let there : procedure_at setting main_done.fixed.procedure ≡ Some end.procedure =
    subst (λ (z : Frame). procedure_at setting z.fixed.procedure ≡ Some end.procedure) (sym frame)
    end.there in
    let procedure : end.procedure ≡ main = cc in
    let posts : HasOwed setting main end.frame (ended_with heap).common (λ i. g.part (owed [] i)) =
    subst (λ (z : Procedure). HasOwed setting z end.frame (ended_with heap).common (λ i. g.part (owed [] i)))
    procedure end.posts in
    let post : Foot one_cell.level (evaluate end.frame.fixed.slots (one_in (loc 1))) heap (g.part (owed [] 0)) =
    posts 0 one_cell.level refl in
    let mine : Foot one_cell.level (evaluate entry_slot (one_in (loc 1))) heap (g.part (owed [] 0)) =
    subst (λ (z : Frame). Foot one_cell.level (evaluate z.fixed.slots (one_in (loc 1))) heap
    (g.part (owed [] 0))) (sym frame) post in
    let one = foot-one (own_one 0) (evaluate entry_slot (one_in (loc 1))) heap (g.part (owed [] 0)) 1 refl
    mine in (
      one.0,
      one-whole heap (g.part (owed [] 0)) 1 one.0 one.1 one.2
          (λ b l e. owned-entry g.part b l
          (subst (λ (z : Procedure). IsOwned setting z g.part b l) procedure (end.all b l e))),
    )

-- an ended entry is good exactly with its cell alone
pub ended_is_good_with_its_cell_alone : EndedIsGoodWithItsCellAlone
unfolding EndedIsGoodWithItsCellAlone
ended_is_good_with_its_cell_alone heap = (ended-one heap, λ o. set-good (ended_with heap) o.0 refl refl o.1)

-- A task alone
-- nothing bad is next where it isn't about to touch an absent cell
pub alone-not_bad : (c : Config) (frames : List Frame) → c.tasks ≡ runs frames
    → (IsAtNoCell c.common (next (runs frames)) → ⊥) → Bad c → ⊥
alone-not_bad c frames only safe (inl b) =
    let there : task_at b.path (runs frames) ≡ Some b.task =
    subst (λ z. task_at b.path z ≡ Some b.task) only b.enabled.there in
    let top : b.path ≡ [] = task_at-running b.path frames b.task there in
    let here : Some (runs frames) ≡ Some b.task =
    subst (λ z. task_at z (runs frames) ≡ Some b.task) top there in
    safe (subst (λ z. IsAtNoCell c.common (next z)) (sym (same_Some (runs frames) b.task here)) b.absent)
alone-not_bad c frames only safe (inr r) =
    r.different (
    task_at-running r.path frames r.task (subst (λ z. task_at r.path z ≡ Some r.task) only r.enabled.there)
    ∙ sym (task_at-running r.other_path frames r.other
    (subst (λ z. task_at r.other_path z ≡ Some r.other) only r.other_enabled.there)))

-- nor where it is about to return
pub returning-not_bad : (c : Config) (frame : Frame) (below : List Frame) → c.tasks ≡ runs (frame ∷ below)
    → frame.todo ≡ [] → Bad c → ⊥
returning-not_bad c frame below only done = alone-not_bad c (frame ∷ below) only
    (λ n. subst (λ z. IsAtNoCell c.common (frame_next frame.fixed below z)) done n)

returning-good : (heap : Heap) (k : Cell) → heap 1 ≡ Some k → Good setting (returning_with heap)
returning-good heap k e = record {
  never_bad = returning-not_bad (returning_with heap) set_done (main_done ∷ []) refl refl;
  part = entry_part (single 1 k);
  apart = entry_part-apart (single 1 k);
  invariants = λ r of n f. absurd (none-some of n);
  posts = post;
  finished = λ h. absurd h;
}
  where
    foot : Foot one_cell.level (evaluate set_done.fixed.slots (returning_with heap).common.store) heap
        (single 1 k)
    foot = record {
      rest = _;
      splits = one-splits 1 k heap e;
      sat = one-sat (own_one 0) (evaluate set_done.fixed.slots (returning_with heap).common.store)
          (single 1 k) 1 k refl (one-single 1 k);
    }

    post : (path : Path) (frame : Frame) (g : Procedure) → Returns (returning_with heap) path frame
        → procedure_at setting frame.fixed.procedure ≡ Some g
        → HasOwed setting g frame (returning_with heap).common (λ i. entry_part (single 1 k) (owed path i))
    post path frame g r h =
        let top : path ≡ [] = task_at-running path (set_done ∷ main_done ∷ []) (runs (frame ∷ r.below))
        r.there in
        let here : Some (runs (set_done ∷ main_done ∷ [])) ≡ Some (runs (frame ∷ r.below)) =
        subst (λ z. task_at z (returning_with heap).tasks ≡ Some (runs (frame ∷ r.below))) top r.there in
        let same : set_done ≡ frame = cc in
        let there : procedure_at setting set_done.fixed.procedure ≡ Some g =
        subst (λ (z : Frame). procedure_at setting z.fixed.procedure ≡ Some g) (sym same) h in
        let procedure : set ≡ g = cc in
        subst (λ z. HasOwed setting g frame (returning_with heap).common
        (λ i. entry_part (single 1 k) (owed z i))) (sym top)
        (subst (λ (z : Frame). HasOwed setting g z (returning_with heap).common
        (λ i. entry_part (single 1 k) (owed [] i))) same
        (subst (λ (z : Procedure). HasOwed setting z set_done (returning_with heap).common
        (λ i. entry_part (single 1 k) (owed [] i))) procedure
        (owes-first setting set set_done (returning_with heap).common
        (λ i. entry_part (single 1 k) (owed [] i)) refl foot)))

returning-one : (heap : Heap) → Good setting (returning_with heap) → (k : Cell) × (heap 1 ≡ Some k)
returning-one heap g =
    let foot = g.posts [] set_done set
    (record { below = main_done ∷ []; there = refl; done = refl; called = tt }) refl 0 one_cell.level refl in
    let one = foot-one (own_one 0) (evaluate set_done.fixed.slots (returning_with heap).common.store) heap
    (g.part (owed [] 0)) 1 refl foot in
    (one.0, one.2)

-- a callee at its return is good exactly with its cell
pub returning_is_good_with_its_cell : ReturningIsGoodWithItsCell
unfolding ReturningIsGoodWithItsCell
returning_is_good_with_its_cell heap = (returning-one heap, λ o. returning-good heap o.0 o.1)

-- A resource
-- a value that counts as a location is there
pub at-location : (o : Option Value) (a : ℕ) → unwrap_or o nil ≡ loc a → o ≡ Some (loc a)
at-location None a e = absurd (nil-not_loc a e)
at-location (Some v) a e = ap Some e

-- a free resource has its cell
pub free_resources_have_their_cell : FreeResourcesHaveTheirCell
unfolding FreeResourcesHaveTheirCell
free_resources_have_their_cell c g free =
    let foot = g.invariants lock guarding refl free in
    let d = sat-one shared_one (evaluate entry_slot c.common.store) (g.part (resource lock)) foot.sat in
    record {
      location = d.0;
      at = at-location (c.common.store (shared lock 0)) d.0 d.2;
      cell = d.1;
      there = one-in d.3 foot.splits;
    }

-- an ended entry isn't good while the resource is held
pub ended_while_held_is_not_good : EndedWhileHeldIsNotGood
unfolding EndedWhileHeldIsNotGood
ended_while_held_is_not_good c path end held g =
    some-none path (sym held ∙ (g.finished end).free lock guarding refl)

-- the whole heap is the resource's
abbrev shared_part : Heap → Owner → Heap
shared_part h (resource r) = λ a. cond (r.0 == 0) (h a) None
shared_part h (owed path i) = λ a. None

shared_part-apart : (h : Heap) (owner other : Owner) → owner ≢ other → (a : ℕ)
    → Apart (shared_part h owner a) (shared_part h other a)
shared_part-apart h (resource r) (resource s) n a = go (r.0 == 0) (s.0 == 0) refl refl
  where
    go : (b c : Bool) → r.0 == 0 ≡ b → s.0 == 0 ≡ c → Apart (cond b (h a) None) (cond c (h a) None)
    go true true e f = absurd (n (ap resource (resource-same r lock e ∙ sym (resource-same s lock f))))
    go true false e f = apart-none (h a)
    go false c e f = tt
shared_part-apart h (resource r) (owed path i) n a = apart-none (cond (r.0 == 0) (h a) None)
shared_part-apart h (owed path i) other n a = tt

-- `skip` at its end beside the resource, which is free and has its cell, is good, whatever the program's other procedures
pub skip_ended-good : (procedures : List Procedure) (c : Config) (a : ℕ) (k : Cell)
    → slice_get procedures 0 ≡ Some skip → c.tasks ≡ runs (skip_done ∷ [])
    → ((r : ResId) (of : Resource) → slice_get (guarding ∷ []) r.0 ≡ Some of → c.common.held r ≡ None)
    → c.common.store (shared lock 0) ≡ Some (loc a) → IsOne a k c.common.heap
    → Good (record { fields = codes "hd" ∷ []; resources = guarding ∷ []; procedures = procedures }) c
skip_ended-good procedures c a k is only free variable o = record {
  never_bad = ended-not_bad c ended;
  part = shared_part c.common.heap;
  apart = shared_part-apart c.common.heap;
  invariants = invariant;
  posts = λ path frame g r e. absurd (no_return path frame r);
  finished = λ h. record {
    frame = skip_done;
    alone = only;
    procedure = skip;
    there = is;
    free = free;
    posts = owes-first p skip skip_done c.common (λ i a. None) refl (record {
      rest = c.common.heap;
      splits = splits-empty_left empty-holds;
      sat = (λ n. nil, λ n i. refl, empty-holds);
    });
    all = λ a l e. inr (lock, guarding, refl, e);
  };
}
  where
    p : Program
    p = record { fields = codes "hd" ∷ []; resources = guarding ∷ []; procedures = procedures }

    ended : HasEnded [] c.tasks
    ended = subst (HasEnded []) (sym only) refl

    invariant : (r : ResId) (of : Resource) → slice_get (guarding ∷ []) r.0 ≡ Some of
        → c.common.held r ≡ None
        → Foot of.invariant.level (evaluate entry_slot c.common.store) c.common.heap
        (shared_part c.common.heap (resource r))
    invariant r of e free =
        let one = get-single guarding of r.0 e in
        let whole : Foot guarding.invariant.level (evaluate entry_slot c.common.store) c.common.heap c.common.heap =
        record {
          rest = empty_map;
          splits = splits-empty_right empty-holds;
          sat = one-sat shared_one (evaluate entry_slot c.common.store) c.common.heap a k
              (ap (λ z. unwrap_or z nil) variable) o;
        } in
        subst (λ (z : Resource). Foot z.invariant.level (evaluate entry_slot c.common.store) c.common.heap
        (shared_part c.common.heap (resource r))) one.1
        (subst (λ (n : ℕ). Foot guarding.invariant.level (evaluate entry_slot c.common.store) c.common.heap
        (λ b. cond (n == 0) (c.common.heap b) None)) (sym one.0) whole)

    no_return : (path : Path) (frame : Frame) → Returns c path frame → ⊥
    no_return path frame r =
        let there : task_at path (runs (skip_done ∷ [])) ≡ Some (runs (frame ∷ r.below)) =
        subst (λ z. task_at path z ≡ Some (runs (frame ∷ r.below))) only r.there in
        let top : path ≡ [] = task_at-running path (skip_done ∷ []) (runs (frame ∷ r.below)) there in
        let here : Some (runs (skip_done ∷ [])) ≡ Some (runs (frame ∷ r.below)) =
        subst (λ z. task_at z (runs (skip_done ∷ [])) ≡ Some (runs (frame ∷ r.below))) top there in
        let same : [] ≡ r.below = cc in
        subst (λ z. IsCalled [] z) (sym same) (subst (λ z. IsCalled z r.below) top r.called)

skip_ended-one : (heap : Heap) → Good guarded (skip_ended_with heap) → (k : Cell) × IsOne 1 k heap
skip_ended-one heap g =
    let end = g.finished refl in
    let frame : skip_done ≡ end.frame = cc (end.alone) in
    let there : Some skip ≡ Some end.procedure =
    subst (λ (z : Frame). procedure_at guarded z.fixed.procedure ≡ Some end.procedure) (sym frame)
    end.there in
    let procedure : end.procedure ≡ skip = cc in
    let posts : HasOwed guarded skip end.frame (skip_ended_with heap).common (λ i. g.part (owed [] i)) =
    subst (λ (z : Procedure). HasOwed guarded z end.frame (skip_ended_with heap).common
    (λ i. g.part (owed [] i))) procedure end.posts in
    let post : Foot emp.level (evaluate end.frame.fixed.slots (shared_in (loc 1))) heap (g.part (owed [] 0)) =
    posts 0 emp.level refl in
    let one = foot-one shared_one (evaluate entry_slot (shared_in (loc 1))) heap (g.part (resource lock)) 1
    refl (g.invariants lock guarding refl refl) in (
      one.0,
      one-whole heap (g.part (resource lock)) 1 one.0 one.1 one.2
          (λ b l e. owned b l post.sat.2
          (subst (λ (z : Procedure). IsOwned guarded z g.part b l) procedure (end.all b l e))),
    )
  where
    owned : (b : ℕ) (l : Cell) → IsEmpty (g.part (owed [] 0)) → IsOwned guarded skip g.part b l
        → g.part (resource lock) b ≡ Some l
    owned b l n (inl e) =
        let here : g.part (owed [] 0) b ≡ Some l = subst (λ z. g.part (owed [] z) b ≡ Some l)
        (get-single skip.post.level e.1 e.0 e.2).0 e.3 in
        absurd (none-some l (sym (n.none b) ∙ here))
    owned b l n (inr e) = let at : e.0 ≡ lock =
        resource-is e.0 lock (get-single guarding e.1 e.0.0 e.2).0 in
        subst (λ z. g.part (resource z) b ≡ Some l) at e.3

-- an ended entry beside a resource is good exactly with the invariant's cell alone
pub ended_is_good_with_the_invariant_alone : EndedIsGoodWithTheInvariantAlone
unfolding EndedIsGoodWithTheInvariantAlone
ended_is_good_with_the_invariant_alone heap = (
  skip_ended-one heap,
  λ o. skip_ended-good guarded.procedures (skip_ended_with heap) 1 o.0 refl refl (λ r of e. refl) refl o.1,
)
