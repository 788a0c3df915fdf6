-- The examples of returns side by side: each has its own cell, apart from another's and from a free resource's.
-- Names: each example has the name of its function; `WHAT-cells` gives the cells, `WHAT-good` says what is good.
use Rattle.std.specs.Prelude.{◌≡◌, ◌≢◌, ℕ, [], ◌∷◌, Some, None, ◌⊎◌, ltb, leb, ◌+◌, ◌==◌, ◌&&◌}
use Rattle.std.proofs.Common.{sym, ap, ◌∙◌, refl, inl, inr, arith}
use Rattle.std.proofs.lemmas.Bool.{and_parts}
use Rattle.std.proofs.lemmas.Bool.Decides.{nat_tests}
use Rattle.sf_base.proofs.HeapSplits.{one-single, one-splits, put-elsewhere, remove_cell, single, star-assoc_left, star-empty_left, star-empty_right, star-of}
use Rattle.sf_base.specs.declared.path.Turn.TheVariants.{Left as left, Right as right}
use Rattle.sf_base.specs.declared.value.Value.TheVariants.{Loc as loc}
use Rattle.sf_base.specs.HeapStore.{Apart, Cell, Heap, IsOne, shared, own, Store}
use Rattle.sf_core.specs.Checked.GoodParts.{FramePart}
use Rattle.sf_core.specs.Checked.Machine.Examples.{lock, own_one, one_cell, main_done, set, set_done, setting, child, shared_one, guarding, guarded_setting, returning_together, returning_beside, HasTwoCells, ReturningTogetherIsGoodWithTwoCells, ReturningTogetherOverOneCellIsNotGood, ReturningBesideAResourceIsGoodWithTwoCells, ReturningOverAResourceIsNotGood}
use Rattle.sf_core.specs.Machine.Bad.{Bad}
use Rattle.sf_core.specs.Machine.Config.{Fixed, evaluate}
use Rattle.sf_core.specs.Machine.Enabled.{IsInRoom, Thing, variable, cell}
use Rattle.sf_core.specs.Machine.Good.{resource, owed, Good}
use Rattle.sf_core.specs.Machine.Start.{entry_slot}
use Rattle.sf_core.specs.Machine.Step.{procedure_at}
use Rattle.sf_core.specs.Program.Syntax.{Program}
use Rattle.sf_core.proofs.Machine.Examples.Good.{foot-one, returning-not_bad}
use Rattle.sf_core.proofs.Machine.Examples.Races.{side-good}
use Rattle.sf_core.proofs.Machine.Examples.Runs.{one-sat}
use Rattle.sf_core.proofs.Machine.GoodParts.{apart-both, good-by_parts}

-- two parts of different owners that each have a cell have it at different locations
parts-differ : (one two : Heap) (a b : ℕ) (k l : Cell) → ((c : ℕ) → Apart (one c) (two c)) → IsOne a k one
    → IsOne b l two → a ≢ b
parts-differ one two a b k l apart x y e =
    apart-both (one a) (two a) k l (apart a) x.here (ap two e ∙ y.here)

-- the part of a frame of `set` that is about to return, its value at a location, is the cell there
set-part : (p : Program) (store : Store) (f : Fixed) (a : ℕ) (k : Cell)
    → evaluate f.slots store (own_one 0) ≡ loc a
    → procedure_at p f.procedure ≡ Some set
    → FramePart p store f [] (single a k)
set-part p store f a k e there = (
  set,
  there,
  star-empty_right (one-sat (own_one 0) (evaluate f.slots store) (single a k) a k e (one-single a k)),
)

-- a cell elsewhere is still there without the first one
still-there : (a b : ℕ) (l : Cell) (heap : Heap) → a ≢ b → heap b ≡ Some l → remove_cell a heap b ≡ Some l
still-there a b l heap n e = put-elsewhere a b None heap (λ q. n (sym q)) ∙ e

-- Two children
together-cells : (a b : ℕ) (heap : Heap) → Good setting (returning_together a b heap) → HasTwoCells a b heap
together-cells a b heap g =
    let one = foot-one (own_one 0) (evaluate (child 0).slots (returning_together a b heap).common.store) heap
    (g.part (owed (left ∷ []) 0)) a refl
    (g.posts (left ∷ []) (record { fixed = child 0; todo = [] }) set
    (record { below = []; there = refl; done = refl; called = tt }) refl 0 one_cell.level refl) in
    let two = foot-one (own_one 0) (evaluate (child 2).slots (returning_together a b heap).common.store) heap
    (g.part (owed (right ∷ []) 0)) b refl
    (g.posts (right ∷ []) (record { fixed = child 2; todo = [] }) set
    (record { below = []; there = refl; done = refl; called = tt }) refl 0 one_cell.level refl) in
    record {
      different = parts-differ (g.part (owed (left ∷ []) 0)) (g.part (owed (right ∷ []) 0)) a b one.0 two.0
          (g.apart (owed (left ∷ []) 0) (owed (right ∷ []) 0) differ) one.1 two.1;
      cell = one.0;
      there = one.2;
      other_cell = two.0;
      other_there = two.2;
    }
  where
    differ : owed (left ∷ []) 0 ≡ owed (right ∷ []) 0 → ⊥
    differ e = absurd (cc)

-- the two children's rooms are disjoint
rooms-apart : (thing : Thing) → IsInRoom (child 0).room thing → IsInRoom (child 2).room thing → ⊥
rooms-apart (variable (shared r i)) e f = absurd (cc)
rooms-apart (variable (own v i)) e f =
    let x = and_parts (leb 0 i) (ltb i (0 + 2)) ((and_parts (v == 1) (leb 0 i && ltb i (0 + 2)) e).1) in
    let y = and_parts (leb 2 i) (ltb i (2 + 2)) ((and_parts (v == 1) (leb 2 i && ltb i (2 + 2)) f).1) in
    absurd (grind (arith, nat_tests))
rooms-apart (cell a) e f = e

together-not_bad : (a b : ℕ) (heap : Heap) → Bad (returning_together a b heap) → ⊥
together-not_bad a b heap = side-good [] [] (returning_together a b heap).common (λ h. h) (λ h. h)
    (λ thing w m. first thing w m) (λ thing w m. second thing w m)
  where
    first : (thing : Thing) → IsInRoom (child 0).room thing → ⊥ ⊎ IsInRoom (child 2).room thing → ⊥
    first thing w (inl m) = m
    first thing w (inr m) = rooms-apart thing w m

    second : (thing : Thing) → IsInRoom (child 2).room thing → ⊥ ⊎ IsInRoom (child 0).room thing → ⊥
    second thing w (inl m) = m
    second thing w (inr m) = rooms-apart thing m w

together-good : (a b : ℕ) (heap : Heap) → HasTwoCells a b heap → Good setting (returning_together a b heap)
together-good a b heap h = good-by_parts setting (returning_together a b heap) (together-not_bad a b heap)
    (star-empty_left (star-assoc_left (star-of (one-splits a h.cell heap h.there)
    (set-part setting (returning_together a b heap).common.store (child 0) a h.cell refl refl)
    (star-of (one-splits b h.other_cell (remove_cell a heap)
    (still-there a b h.other_cell heap h.different h.other_there))
    (set-part setting (returning_together a b heap).common.store (child 2) b h.other_cell refl refl)
    (λ e. absurd e)))))
    (λ e. absurd e)

-- two children at their returns are good exactly where each has its own cell
pub returning_together_is_good_with_two_cells : ReturningTogetherIsGoodWithTwoCells
unfolding ReturningTogetherIsGoodWithTwoCells
returning_together_is_good_with_two_cells a b heap = (together-cells a b heap, together-good a b heap)

-- so not over one cell
pub returning_together_over_one_cell_is_not_good : ReturningTogetherOverOneCellIsNotGood
unfolding ReturningTogetherOverOneCellIsNotGood
returning_together_over_one_cell_is_not_good a heap g = (together-cells a a heap g).different refl

-- A callee and a free resource
beside-cells : (a b : ℕ) (heap : Heap) → Good guarded_setting (returning_beside a b heap) → HasTwoCells a b heap
beside-cells a b heap g =
    let one = foot-one (own_one 0) (evaluate set_done.fixed.slots (returning_beside a b heap).common.store) heap
    (g.part (owed [] 0)) a refl
    (g.posts [] set_done set (record { below = main_done ∷ []; there = refl; done = refl; called = tt }) refl 0
    one_cell.level refl) in
    let two = foot-one shared_one (evaluate entry_slot (returning_beside a b heap).common.store) heap
    (g.part (resource lock)) b refl (g.invariants lock guarding refl refl) in
    record {
      different = parts-differ (g.part (owed [] 0)) (g.part (resource lock)) a b one.0 two.0
          (g.apart (owed [] 0) (resource lock) differ) one.1 two.1;
      cell = one.0;
      there = one.2;
      other_cell = two.0;
      other_there = two.2;
    }
  where
    differ : owed [] 0 ≡ resource lock → ⊥
    differ e = absurd (cc)

beside-good : (a b : ℕ) (heap : Heap) → HasTwoCells a b heap → Good guarded_setting (returning_beside a b heap)
beside-good a b heap h = good-by_parts guarded_setting (returning_beside a b heap)
    (returning-not_bad (returning_beside a b heap) set_done (main_done ∷ []) refl refl)
    (star-of (one-splits b h.other_cell heap h.other_there)
    (star-empty_right (one-sat shared_one (evaluate entry_slot (returning_beside a b heap).common.store)
    (single b h.other_cell) b h.other_cell refl (one-single b h.other_cell)))
    (star-of (one-splits a h.cell (remove_cell b heap)
    (still-there b a h.cell heap (λ e. h.different (sym e)) h.there))
    (set-part guarded_setting (returning_beside a b heap).common.store set_done.fixed a h.cell refl refl)
    (λ e. absurd e)))
    (λ e. absurd e)

-- a callee at its return is good exactly where it has its cell and the resource another
pub returning_beside_a_resource_is_good_with_two_cells : ReturningBesideAResourceIsGoodWithTwoCells
unfolding ReturningBesideAResourceIsGoodWithTwoCells
returning_beside_a_resource_is_good_with_two_cells a b heap = (beside-cells a b heap, beside-good a b heap)

-- so not over the resource's cell
pub returning_over_a_resource_is_not_good : ReturningOverAResourceIsNotGood
unfolding ReturningOverAResourceIsNotGood
returning_over_a_resource_is_not_good a heap g = (beside-cells a a heap g).different refl
