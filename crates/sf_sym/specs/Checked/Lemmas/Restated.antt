-- What is still to do, with other terms of the same values.
-- Names: `same-PART` of what is the same with each term as it is, `restated-LAW` of what is to do, `PART-restated` of what
-- holds by other values of the symbols.
use Rattle.std.specs.List.{AllByRecursion}
use Rattle.std.specs.Option.{option_map}
use Rattle.std.specs.Prelude.{◌↔◌}
use Rattle.std.proofs.Common.{◌≡◌, ℕ, Bool, true, false, cond, List, [], ◌∷◌, ◌++◌, Option, Some, None, map, get_or, refl, sym, ap, ap₂, ◌∙◌, subst}
use Rattle.sf_base.proofs.HeapSplits.{star-map}
use Rattle.sf_base.specs.declared.ids.FieldId.{FieldId}
use Rattle.sf_base.specs.declared.ids.Var.{Var}
use Rattle.sf_base.specs.declared.place.Place.{Place}
use Rattle.sf_base.specs.declared.value.Value.{Value}
use Rattle.sf_base.specs.HeapStore.{Heap}
use Rattle.sf_core.proofs.Assertions.Sat.{sat-all_agree}
use Rattle.sf_core.specs.Assertions.Occurs.{OccursInAll}
use Rattle.sf_core.specs.Assertions.Sat.{SatAll, operand}
use Rattle.sf_core.specs.declared.assertion.Operand.{Operand}
use Rattle.sf_core.specs.declared.assertion.Operand.TheVariants.{Known, Exists}
use Rattle.sf_core.specs.declared.assertion.Test.{Test}
use Rattle.sf_core.specs.declared.assertion.Test.TheVariants.{True, Equal, Differ}
use Rattle.sf_core.specs.Program.Syntax.{Conjunct, holds, points, segment, doubly, tree, choose, Level, level, Conjuncts, none, also}
use Rattle.sf_sym.specs.Below.{AllInItem, AllInPending, IsBelow}
use Rattle.sf_sym.specs.declared.term.Term.{Term}
use Rattle.sf_sym.specs.Equalities.{assumed_equal, item_with, pending_with, put_for, which_goes, with_one}
use Rattle.sf_sym.specs.Goal.{Item, run, add, take, gave, head, again, exit, return, end, Goal, adding, unless_none}
use Rattle.sf_sym.specs.Holds.{term_value, AddsHold, IsBound, PendingHolds}
use Rattle.sf_sym.specs.Checked.Laws.{Restated, RestatedTermsAreSet}
use Rattle.sf_sym.specs.Checked.Lemmas.OtherTerms.{bindings-made, bindings-there, conjuncts-with}
use Rattle.sf_sym.specs.Checked.Lemmas.TwoHeaps.{HasItsValue, goes-value, put-value}
use Rattle.sf_sym.specs.Mapped.{operand_with, test_with, level_with, conjuncts_with, conjunct_with}
use Rattle.sf_sym.specs.Pending.{Pending}
use Rattle.sf_sym.specs.Tests.{same_term}

-- Each term as it is
same-operand : (x : Operand Term) → operand_with (λ t. t) x ≡ x
same-operand (Known t) = refl
same-operand (Exists n) = refl

same-test : (t : Test (Operand Term)) → test_with (λ t. t) t ≡ t
same-test True = refl
same-test (Equal x y) = ap₂ Equal (same-operand x) (same-operand y)
same-test (Differ x y) = ap₂ Differ (same-operand x) (same-operand y)

same-fields : (fs : List (FieldId × Operand Term)) → map (λ f. (f.0, operand_with (λ t. t) f.1)) fs ≡ fs
same-fields [] = refl
same-fields (f ∷ fs) = λ i. (f.0, same-operand f.1 i) ∷ same-fields fs i

mutual
  same-level : (a : Level Term) → level_with (λ t. t) a ≡ a
  same-level (level made cs) = ap (level made) (same-conjuncts cs)

  same-conjuncts : (cs : Conjuncts Term) → conjuncts_with (λ t. t) cs ≡ cs
  same-conjuncts none = refl
  same-conjuncts (also c cs) = ap₂ also (same-conjunct c) (same-conjuncts cs)

  same-conjunct : (c : Conjunct Term) → conjunct_with (λ t. t) c ≡ c
  same-conjunct (holds p t) = ap (holds p) (same-test t)
  same-conjunct (points p x fs) = ap₂ (points p) (same-operand x) (same-fields fs)
  same-conjunct (segment p next x y) = ap₂ (segment p next) (same-operand x) (same-operand y)
  same-conjunct (doubly p f g x b l y) =
      λ i. doubly p f g (same-operand x i) (same-operand b i) (same-operand l i) (same-operand y i)
  same-conjunct (tree p l r x) = ap (tree p l r) (same-operand x)
  same-conjunct (choose p t this that) =
      λ i. choose p (same-test t i) (same-level this i) (same-level that i)

same-bindings : (bindings : List (Option Term)) → map (option_map (λ t. t)) bindings ≡ bindings
same-bindings [] = refl
same-bindings (None ∷ bs) = ap (λ xs. None ∷ xs) (same-bindings bs)
same-bindings (Some t ∷ bs) = ap (λ xs. Some t ∷ xs) (same-bindings bs)

same-pending : (p : Pending) → pending_with (λ t. t) p ≡ p
same-pending p = λ i. record { conjuncts = same-conjuncts p.conjuncts i; bindings = same-bindings p.bindings i }

same-set : (set : List (Var × Term)) → map (λ x. (x.0, x.1)) set ≡ set
same-set [] = refl
same-set (x ∷ xs) = ap (λ ys. x ∷ ys) (same-set xs)

same-item : (item : Item) → item_with (λ t. t) item ≡ item
same-item (run c) = refl
same-item (add p given) = ap (add p) (same-pending given)
same-item (take p want names) = ap (λ z. take p z names) (same-pending want)
same-item (gave p set removed) = ap (λ z. gave p z removed) (same-set set)
same-item (head p test invariant body) = refl
same-item (again p invariant) = refl
same-item (exit p r) = refl
same-item (return p post) = refl
same-item (end p) = refl

pub same-items : (items : List Item) → map (item_with (λ t. t)) items ≡ items
same-items [] = refl
same-items (x ∷ xs) = ap₂ (λ y ys. y ∷ ys) (same-item x) (same-items xs)

-- what is to do stays as it is
pub restated-same : (w : ℕ → Value) (items : List Item) → Restated w items items
restated-same w items = record { to = λ t. t; same = λ t. refl; is = sym (same-items items) }

-- what is to do in a goal where two terms of one value are assumed to be the same
pub restated-equal : (w : ℕ → Value) (t u : Term) (goal : Goal) → term_value w t ≡ term_value w u
    → Restated w goal.todo (assumed_equal t u goal).todo
restated-equal w t u goal same = go (same_term t u) refl
  where
    one : (o : Option (ℕ × Term)) → HasItsValue w o → Restated w goal.todo (with_one o goal).todo
    one None i = absurd i
    one (Some r) i = record { to = put_for r.0 r.1; same = λ x. put-value w r.0 r.1 i x; is = refl }

    go : (b : Bool) → same_term t u ≡ b
        → Restated w goal.todo (cond b goal (with_one (which_goes t u) goal)).todo
    go true s = restated-same w goal.todo
    go false s = one (which_goes t u) (goes-value w t u s same)

-- to assume conjuncts, if there are any, and then others
pub restated-adding : (to : Term → Term) (p : Place) (given : Pending) (rest : List Item)
    → map (item_with to) (adding p given ++ rest) ≡ adding p (pending_with to given) ++ map (item_with to) rest
restated-adding to p given rest = go given.conjuncts
  where
    go : (cs : Conjuncts Term)
        → map (item_with to) (unless_none cs (add p given) ++ rest)
        ≡ unless_none (conjuncts_with to cs) (add p (pending_with to given)) ++ map (item_with to) rest
    go none = refl
    go (also c cs) = refl

-- Terms that have later the values that those of symbols below a number had earlier
module _ (n : ℕ) (w v : ℕ → Value) (to : Term → Term)
    (same : (t : Term) → IsBelow n t → term_value v (to t) ≡ term_value w t) where
  -- what existentials stand for
  pub bound-restated : (bindings : List (Option Term)) (some : ℕ → Value)
      → ((m : ℕ) (t : Term) → get_or bindings m None ≡ Some t → IsBelow n t)
      → IsBound v (map (option_map to) bindings) some ↔ IsBound w bindings some
  bound-restated bindings some below = (
    λ b m t e. b m (to t) (bindings-there to bindings m t e) ∙ same t (below m t e),
    λ b m t e. let (u, i, j) = bindings-made to bindings m t e in
        b m u i ∙ sym (same u (below m u i)) ∙ ap (term_value v) (sym j),
  )

  -- where conjuncts hold
  pub sat-restated : (cs : Conjuncts Term) (some : ℕ → Value) (heap : Heap)
      → ((t : Term) → OccursInAll cs (Known t) → IsBelow n t)
      → SatAll (conjuncts_with to cs) (term_value v) some heap ↔ SatAll cs (term_value w) some heap
  sat-restated cs some heap below = (
    λ d. sat-all_agree cs (λ t. term_value v (to t)) (term_value w) some some heap agree
        (subst (λ z. z) (conjuncts-with to (term_value v) cs some heap) d),
    λ d. subst (λ z. z) (sym (conjuncts-with to (term_value v) cs some heap))
        (sat-all_agree cs (term_value w) (λ t. term_value v (to t)) some some heap (λ x o. sym (agree x o)) d),
  )
    where
      agree : (x : Operand Term) → OccursInAll cs x
          → operand (λ t. term_value v (to t)) some x ≡ operand (term_value w) some x
      agree (Known t) o = same t (below t o)
      agree (Exists m) o = refl

  -- what is to be assumed or to be shown
  pub pending-restated : (given : Pending) (heap : Heap) → AllInPending (IsBelow n) given
      → PendingHolds v (pending_with to given) heap ↔ PendingHolds w given heap
  pending-restated given heap below = (
    λ (some, bound, sat). (
      some,
      (bound-restated given.bindings some below.bindings).0 bound,
      (sat-restated given.conjuncts some heap below.conjuncts).0 sat,
    ),
    λ (some, bound, sat). (
      some,
      (bound-restated given.bindings some below.bindings).1 bound,
      (sat-restated given.conjuncts some heap below.conjuncts).1 sat,
    ),
  )

  -- what is to be assumed before the first other thing to do
  pub adds-restated : (items : List Item) (heap : Heap) → AllByRecursion (AllInItem (IsBelow n)) items
      → AddsHold w items heap → AddsHold v (map (item_with to) items) heap
  adds-restated [] heap b h = h
  adds-restated (add p given ∷ items) heap b h =
      star-map (λ part d. (pending-restated given part b.0).1 d) (λ part d. adds-restated items part b.1 d) h
  adds-restated (item ∷ items) heap b h = h

-- variables are to get terms of the same values
pub restated_terms_are_set : RestatedTermsAreSet
unfolding RestatedTermsAreSet
restated_terms_are_set n w v to [] same b = refl
restated_terms_are_set n w v to (x ∷ xs) same b =
    λ i. (x.0, same x.1 b.0 i) ∷ restated_terms_are_set n w v to xs same b.1 i
