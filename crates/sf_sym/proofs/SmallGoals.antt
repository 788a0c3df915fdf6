-- The small goals of specs/Instances, worked out.
-- Names: each proof has the name of the function whose contract it is; `single-LAW` speaks of a list of
-- one binding.
use Rattle.std.proofs.Common.{◌≡◌, ◌≢◌, ℕ, zero, suc, Bool, true, false, Some, None, [], ◌∷◌, cond, ◌==◌, refl, sym, ap, ◌∙◌}
use Rattle.std.proofs.lemmas.Option.{same_Some}
use Rattle.sf_base.specs.declared.value.Value.{Value}
use Rattle.sf_base.specs.declared.value.Value.TheVariants.{Nil as nil, Loc as loc}
use Rattle.sf_base.proofs.HeapSplits.{at-other, one-same_place, one-single, one-splits, remove_cell, star-drop_left, star-drop_right, star-empty_left, star-empty_right, star-of}
use Rattle.sf_core.proofs.Assertions.Segments.{nil-not_loc, seg-one}
use Rattle.sf_base.specs.HeapStore.{Cell, IsOne}
use Rattle.sf_core.specs.Checked.Assertions.Examples.{tail, two_cells}
use Rattle.sf_sym.specs.declared.term.Term.TheVariants.{Nil}
use Rattle.sf_sym.specs.Holds.{term_value, IsBound}
use Rattle.sf_sym.specs.Checked.Examples.{TwoCellsAreTheGoals, NilIsNotTheGoals, BoundExistentialIsItsTerm, UnboundExistentialIsAnything}

loc-not_nil : (location : ℕ) → loc location ≢ nil
loc-not_nil a e = nil-not_loc a (sym e)

second-alone : (u v : Cell) (a b : Bool) → b ≡ false
    → cond a None (cond a (Some u) (cond b (Some v) None)) ≡ None
second-alone u v true b e = refl
second-alone u v false b e = ap (λ t. cond t (Some v) None) e

second-is_one : IsOne 2 (tail nil) (remove_cell 1 two_cells)
second-is_one =
    record {
      here = refl;
      elsewhere = λ b n. second-alone (tail (loc 2)) (tail nil) (b == 1) (b == 2) (at-other 2 b n);
    }

-- an existential that has no term may have any value
single-unbound : (w some : ℕ → Value) → IsBound w (None ∷ []) some
single-unbound w some zero t e = absurd (cc)
single-unbound w some (suc n) t e = absurd (cc)

-- an existential whose term is nil may be nil
single-nil : (w : ℕ → Value) → IsBound w (Some Nil ∷ []) (λ n. nil)
single-nil w zero t e = ap (term_value w) (same_Some Nil t e)
single-nil w (suc n) t e = absurd (cc)

-- s0 is at 1 and s1 at 2
ones : ℕ → Value
ones zero = loc 1
ones (suc n) = loc 2

pub two_cells_are_the_goals : TwoCellsAreTheGoals
unfolding ones TwoCellsAreTheGoals
two_cells_are_the_goals = (
  ones,
  record {
    vars = (λ v e. sym (same_Some (loc 1) v e), tt);
    apart = (loc-not_nil 1, tt);
    heaps =
        star-of (one-splits 1 (tail (loc 2)) two_cells refl)
        (star-empty_right (1, tail (loc 2), refl, one-single 1 (tail (loc 2)), (refl, tt)))
        (star-empty_left (star-empty_right (
          λ n. nil,
          single-unbound ones (λ n. nil),
          star-empty_right
              (seg-one 2 (tail nil) (loc-not_nil 2) refl second-is_one refl),
        )));
  },
)

pub nil_is_not_the_goals : NilIsNotTheGoals
unfolding NilIsNotTheGoals
nil_is_not_the_goals heap (w, h) = h.apart.0 (sym (h.vars.0 nil refl))

pub bound_existential_is_its_term : BoundExistentialIsItsTerm
unfolding BoundExistentialIsItsTerm
bound_existential_is_its_term location cell = (
  λ (w, h).
      let given = star-drop_right (star-drop_left (star-drop_left h.heaps)) in
      let one = star-drop_right given.2 in
      ap (λ c. c 0) (one-same_place (one-single location cell) one.3).1 ∙ one.4.0 ∙ given.1 0 Nil refl,
  λ e. (
    λ n. loc location,
    record {
      vars = (λ v i. sym (same_Some (loc location) v i), tt);
      apart = (loc-not_nil location, tt);
      heaps =
          star-empty_left
          (star-empty_left (star-empty_right (
            λ n. nil,
            single-nil (λ n. loc location),
            star-empty_right
                (location, cell, refl, one-single location cell, (e, tt)),
          )));
    },
  ),
)

pub unbound_existential_is_anything : UnboundExistentialIsAnything
unfolding UnboundExistentialIsAnything
unbound_existential_is_anything location cell = (
  λ n. loc location,
  record {
    vars = (λ v i. sym (same_Some (loc location) v i), tt);
    apart = (loc-not_nil location, tt);
    heaps =
        star-empty_left
        (star-empty_left (star-empty_right (
          λ n. cell 0,
          single-unbound (λ n. loc location) (λ n. cell 0),
          star-empty_right
              (location, cell, refl, one-single location cell, (refl, tt)),
        )));
  },
)
