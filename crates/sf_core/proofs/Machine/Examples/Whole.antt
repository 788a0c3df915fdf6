-- The worked examples of parts and contents.
-- Names: each lemma has the name of the example's function; `union-WHAT` speaks of maps that are the union of others.
use Rattle.std.specs.Prelude.{◌≡◌, ℕ, Bool, true, [], ◌∷◌, Some, None, ◌≤◌, Contains}
use Rattle.std.proofs.Common.{true≢false, sym, ap, ◌∙◌, refl, subst, inl, inr, arith}
use Rattle.std.proofs.lemmas.Bool.Decides.{nat_tests}
use Rattle.sf_base.proofs.Elements.{contains-cons, contains-nil}
use Rattle.std.proofs.lemmas.Option.{none-some}
use Rattle.sf_base.proofs.HeapSplits.{at_, at-same}
use Rattle.sf_base.proofs.MapSplits.{changed, empty_map, empty-holds, map-same, splits-empty_left, splits-empty_right, splits-has_left, splits-has_right, splits-lacks_right, splits-put_left, splits-at_right}
use Rattle.sf_base.proofs.StoreSplits.{at_slot, slot-same}
use Rattle.sf_base.specs.declared.path.Turn.TheVariants.{Left as left, Right as right}
use Rattle.sf_base.specs.declared.value.Value.TheVariants.{Nil as nil}
use Rattle.sf_base.specs.HeapStore.{Map, Splits, IsEmpty, shared, own}
use Rattle.sf_core.specs.Checked.Machine.Examples.{lock}
use Rattle.sf_core.specs.Checked.Machine.WholeExamples.{nils, cell_at, nil_in, bare, other_lock, parent, left_child, right_child, three_cells, three_slots, three_tasks, together, PartsAndAContentAreWhole, SharedSlotsAreNoWhole, SharedCellsAreNoWhole, TwoAtAPathAreNoWhole, TasksWithoutPartsAreNoWhole, ChildrenOfRunningTasksAreNoWhole, OtherStandsAreNoWhole, CellsOfNobodyAreNoWhole, SlotsOfNobodyAreNoWhole, HeldByNoPartIsNoWhole, HeldByAnotherIsNoWhole, ContentsOfHeldResourcesAreNoWhole, TwoContentsAreNoWhole, SharedUnitsAreNoWhole, UsedUnitsAreNoWhole, UnitsAtCellsAreNoWhole, UnitsOfSlotsAreNoWhole}
use Rattle.sf_core.specs.Machine.Config.{Frame, Task, runs, waits, Path}
use Rattle.sf_core.specs.Machine.Whole.{Stand, running, waiting, stands, same_path, own_stand, holders, IsUnion, IsUnused}

-- paths that the test takes for one are one
path-same : (path other : Path) → same_path other path ≡ true → other ≡ path
path-same [] [] e = refl
path-same [] (turn ∷ other) e = absurd (true≢false (sym e))
path-same (turn ∷ path) [] e = absurd (true≢false (sym e))
path-same (left ∷ path) (left ∷ other) e = ap (λ z. left ∷ z) (path-same path other e)
path-same (left ∷ path) (right ∷ other) e = absurd (true≢false (sym e))
path-same (right ∷ path) (left ∷ other) e = absurd (true≢false (sym e))
path-same (right ∷ path) (right ∷ other) e = ap (λ z. right ∷ z) (path-same path other e)

module _ {K X : Type 0} where
  -- a map with one entry more splits into that entry and the others
  one-more : (test : K → Bool) (here : K) (entry : X) (others : Map K X)
      → ((key : K) → test key ≡ true → key ≡ here) → others here ≡ None
      → Splits (changed test (Some entry) others) (changed test (Some entry) empty_map) others
  one-more test here entry others only n =
      splits-put_left test here (Some entry) only n (splits-empty_left empty-holds)

  -- what is in the first of two parts isn't in the second
  twice : {a b c d e : Map K X} (key : K) (x y : X) → Splits a b c → Splits c d e → b key ≡ Some x → d key ≡ Some y
      → ⊥
  twice key x y s t p q = none-some y (sym (splits-lacks_right key x s p) ∙ splits-has_left key y t q)

-- Three parts and a content
cells-are : IsUnion three_cells (empty_map ∷ cell_at 1 ∷ cell_at 2 ∷ cell_at 3 ∷ [])
cells-are = (
  _,
  splits-empty_left empty-holds,
  (
    _,
    one-more (at_ 1) 1 nils _ (at-same 1) refl,
    (_, one-more (at_ 2) 2 nils _ (at-same 2) refl, (empty_map, splits-empty_right empty-holds, empty-holds)),
  ),
)

slots-are : IsUnion three_slots (empty_map ∷ nil_in (own 1 0) ∷ nil_in (own 1 1) ∷ nil_in (shared lock 0) ∷ [])
slots-are = (
  _,
  splits-empty_left empty-holds,
  (
    _,
    one-more (at_slot (own 1 0)) (own 1 0) _ _ (slot-same (own 1 0)) refl,
    (
      _,
      one-more (at_slot (own 1 1)) (own 1 1) _ _ (slot-same (own 1 1)) refl,
      (empty_map, splits-empty_right empty-holds, empty-holds),
    ),
  ),
)

-- where a path leads in the tree of the three tasks
abbrev by_path : Frame → Map Path Stand
by_path f = changed (λ path. same_path path []) (Some (parent f).stand)
    (changed (λ path. same_path path (left ∷ [])) (Some (left_child f).stand)
    (changed (λ path. same_path path (right ∷ [])) (Some (right_child f).stand) empty_map))

tree-is : (f : Frame) (path : Path) → stands (three_tasks f) path ≡ by_path f path
tree-is f [] = refl
tree-is f (left ∷ []) = refl
tree-is f (right ∷ []) = refl
tree-is f (left ∷ (left ∷ path)) = refl
tree-is f (left ∷ (right ∷ path)) = refl
tree-is f (right ∷ (left ∷ path)) = refl
tree-is f (right ∷ (right ∷ path)) = refl

tasks-are : (f : Frame)
    → IsUnion (stands (three_tasks f)) (own_stand (parent f) ∷ own_stand (left_child f) ∷ own_stand (right_child f) ∷ [])
tasks-are f =
    subst (λ z. IsUnion z (own_stand (parent f) ∷ own_stand (left_child f) ∷ own_stand (right_child f) ∷ []))
    (sym (map-same (stands (three_tasks f)) (by_path f) (tree-is f))) (
      _,
      one-more (λ path. same_path path []) [] _ _ (path-same []) refl,
      (
        _,
        one-more (λ path. same_path path (left ∷ [])) (left ∷ []) _ _ (path-same (left ∷ [])) refl,
        (empty_map, splits-empty_right empty-holds, empty-holds),
      ),
    )

held-is : (f : Frame) → IsUnion (together f).common.held
    (holders (parent f) ∷ holders (left_child f) ∷ holders (right_child f) ∷ [])
held-is f = (
  _,
  splits-empty_left empty-holds,
  (empty_map, splits-empty_right empty-holds, (empty_map, splits-empty_left empty-holds, empty-holds)),
)

-- the units of the two children are unused
unused-are : (f : Frame) (n : ℕ) → Contains (5 ∷ 6 ∷ 7 ∷ 8 ∷ []) n → IsUnused (together f) n
unused-are f n h = elim ((contains-cons 5 (6 ∷ 7 ∷ 8 ∷ []) n).0 h) [
  | inl e ↦ at n 5 e (record { used = refl; heap = refl; store = λ i. refl })
  | inr h ↦ elim ((contains-cons 6 (7 ∷ 8 ∷ []) n).0 h) [
    | inl e ↦ at n 6 e (record { used = refl; heap = refl; store = λ i. refl })
    | inr h ↦ elim ((contains-cons 7 (8 ∷ []) n).0 h) [
      | inl e ↦ at n 7 e (record { used = refl; heap = refl; store = λ i. refl })
      | inr h ↦ elim ((contains-cons 8 [] n).0 h) [
        | inl e ↦ at n 8 e (record { used = refl; heap = refl; store = λ i. refl })
        | inr h ↦ absurd (contains-nil n h)
      ]
    ]
  ]
]
  where
    at : (n m : ℕ) → m ≡ n → IsUnused (together f) m → IsUnused (together f) n
    at n m e u = subst (IsUnused (together f)) e u

pub parts_and_a_content_are_whole : PartsAndAContentAreWhole
unfolding PartsAndAContentAreWhole
parts_and_a_content_are_whole f = record {
  tasks = tasks-are f;
  heap = cells-are;
  store = slots-are;
  held = held-is f;
  free = (refl, tt);
  different = λ r. grind (arith, nat_tests);
  once = λ n. grind (arith, nat_tests);
  unused = unused-are f;
}

-- What isn't
-- there are no more entries than those of the maps
nowhere : {K X : Type 0} {whole one two : Map K X} (key : K) (x : X) → Splits whole one two → IsEmpty two
    → whole key ≡ Some x → one key ≡ None → ⊥
nowhere key x s e h n = none-some x (sym (e.none key) ∙ sym (splits-at_right key s n) ∙ h)

pub shared_slots_are_no_whole : SharedSlotsAreNoWhole
unfolding SharedSlotsAreNoWhole
shared_slots_are_no_whole f c w =
    let (a, s, (b, t, (d, u, v))) = w.store in twice (own 1 0) nil nil t u refl refl

pub shared_cells_are_no_whole : SharedCellsAreNoWhole
unfolding SharedCellsAreNoWhole
shared_cells_are_no_whole f c w =
    let (a, s, (b, t, (d, u, (e, v, x)))) = w.heap in
    none-some nils (sym (splits-lacks_right 1 nils t refl) ∙ splits-has_right 1 nils u (splits-has_left 1 nils v refl))

pub two_at_a_path_are_no_whole : TwoAtAPathAreNoWhole
unfolding TwoAtAPathAreNoWhole
two_at_a_path_are_no_whole f c w =
    let (a, s, (b, t, (d, u, v))) = w.tasks in
    twice (left ∷ []) (running (f ∷ [])) (running (f ∷ [])) t u refl refl

pub tasks_without_parts_are_no_whole : TasksWithoutPartsAreNoWhole
unfolding TasksWithoutPartsAreNoWhole
tasks_without_parts_are_no_whole f w =
    let (a, s, (b, t, e)) = w.tasks in
    nowhere (right ∷ []) (running (f ∷ [])) t e (sym (splits-at_right (right ∷ []) s refl) ∙ refl) refl

pub children_of_running_tasks_are_no_whole : ChildrenOfRunningTasksAreNoWhole
unfolding ChildrenOfRunningTasksAreNoWhole
children_of_running_tasks_are_no_whole f c w = go c.tasks w.tasks
  where
    go : (tree : Task) → IsUnion (stands tree) (own_stand (bare [] (running (f ∷ []))) ∷ own_stand (left_child f) ∷ []) → ⊥
    go (runs frames) (a, s, (b, t, e)) =
        none-some (running (f ∷ [])) (splits-has_right (left ∷ []) (running (f ∷ [])) s
        (splits-has_left (left ∷ []) (running (f ∷ [])) t refl))
    go (waits frames one two) (a, s, u) =
        let h : Some (waiting frames) ≡ Some (running (f ∷ [])) = splits-has_left [] (running (f ∷ [])) s refl in
        absurd (cc)

pub other_stands_are_no_whole : OtherStandsAreNoWhole
unfolding OtherStandsAreNoWhole
other_stands_are_no_whole f w =
    let (a, s, u) = w.tasks in
    let h : Some (waiting (f ∷ [])) ≡ Some (running (f ∷ [])) = splits-has_left [] (running (f ∷ [])) s refl in
    absurd (cc)

pub cells_of_nobody_are_no_whole : CellsOfNobodyAreNoWhole
unfolding CellsOfNobodyAreNoWhole
cells_of_nobody_are_no_whole f w =
    let (a, s, (b, t, (d, u, (e, v, x)))) = w.heap in
    nowhere 3 nils v x
    (sym (splits-at_right 3 u refl) ∙ sym (splits-at_right 3 t refl) ∙ sym (splits-at_right 3 s refl) ∙ refl) refl

pub slots_of_nobody_are_no_whole : SlotsOfNobodyAreNoWhole
unfolding SlotsOfNobodyAreNoWhole
slots_of_nobody_are_no_whole f w =
    let (a, s, (b, t, (d, u, (e, v, x)))) = w.store in
    nowhere (shared lock 0) nil v x
    (sym (splits-at_right (shared lock 0) u refl) ∙ sym (splits-at_right (shared lock 0) t refl)
    ∙ sym (splits-at_right (shared lock 0) s refl) ∙ refl) refl

pub held_by_no_part_is_no_whole : HeldByNoPartIsNoWhole
unfolding HeldByNoPartIsNoWhole
held_by_no_part_is_no_whole f w =
    let (a, s, (b, t, (d, u, x))) = w.held in
    nowhere other_lock (left ∷ []) u x
    (sym (splits-at_right other_lock t refl) ∙ sym (splits-at_right other_lock s refl) ∙ refl) refl

pub held_by_another_is_no_whole : HeldByAnotherIsNoWhole
unfolding HeldByAnotherIsNoWhole
held_by_another_is_no_whole f w =
    let (a, s, (b, t, (d, u, x))) = w.held in
    let there : Some (left ∷ []) ≡ Some (right ∷ []) = splits-has_right other_lock (right ∷ []) s
    (splits-has_right other_lock (right ∷ []) t (splits-has_left other_lock (right ∷ []) u refl)) in
    absurd (cc)

pub contents_of_held_resources_are_no_whole : ContentsOfHeldResourcesAreNoWhole
unfolding ContentsOfHeldResourcesAreNoWhole
contents_of_held_resources_are_no_whole f c w =
    let (a, s, x) = w.held in none-some [] (sym w.free.0 ∙ splits-has_left lock [] s refl)

pub two_contents_are_no_whole : TwoContentsAreNoWhole
unfolding TwoContentsAreNoWhole
two_contents_are_no_whole f c w = let h : 2 ≤ 1 = w.different lock in absurd (omega arith)

pub shared_units_are_no_whole : SharedUnitsAreNoWhole
unfolding SharedUnitsAreNoWhole
shared_units_are_no_whole f c w = let h : 2 ≤ 1 = w.once 6 in absurd (omega arith)

pub used_units_are_no_whole : UsedUnitsAreNoWhole
unfolding UsedUnitsAreNoWhole
used_units_are_no_whole f c used w = true≢false (sym used ∙ (w.unused 5 (0, omega arith, refl)).used)

pub units_at_cells_are_no_whole : UnitsAtCellsAreNoWhole
unfolding UnitsAtCellsAreNoWhole
units_at_cells_are_no_whole f c w =
    let (a, s, (b, t, (d, u, (e, v, x)))) = w.heap in
    none-some nils (sym (w.unused 6 (1, omega arith, refl)).heap
    ∙ splits-has_right 6 nils s (splits-has_right 6 nils t (splits-has_right 6 nils u (splits-has_left 6 nils v refl))))

pub units_of_slots_are_no_whole : UnitsOfSlotsAreNoWhole
unfolding UnitsOfSlotsAreNoWhole
units_of_slots_are_no_whole f c w =
    let (a, s, (b, t, (d, u, x))) = w.store in
    none-some nil (sym ((w.unused 6 (1, omega arith, refl)).store 1)
    ∙ splits-has_right (own 6 1) nil s (splits-has_right (own 6 1) nil t (splits-has_left (own 6 1) nil u refl)))
