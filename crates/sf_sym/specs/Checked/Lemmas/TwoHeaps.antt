-- Goals on two heaps: what they have to do with goals on one, and how they are kept.
-- Names: `in-LAW` speaks of a goal that holds on two heaps; the laws themselves have the names of the functions
-- whose contracts they are.
use Rattle.std.proofs.Common.{◌≡◌, ℕ, ◌==◌, Bool, true, false, cond, nat_lt, not, [], ◌∷◌, Option, Some, None, refl, sym, ap, ◌∙◌, subst}
use Rattle.sf_base.proofs.Elements.{all_by-append}
use Rattle.sf_base.proofs.HeapSplits.{star-swap, star-of, at-same}
use Rattle.sf_base.proofs.MapSplits.{splits-comm}
use Rattle.sf_base.specs.declared.ids.Var.{Var}
use Rattle.sf_base.specs.declared.value.Value.{Value}
use Rattle.sf_base.specs.HeapStore.{Heap, Splits}
use Rattle.sf_sym.specs.Checked.Lemmas.Below.{below-value, goal-weaker}
use Rattle.sf_sym.specs.Checked.Lemmas.OtherTerms.{all-with, goal-with}
use Rattle.sf_sym.specs.Checked.Lemmas.OtherValues.{Same, goal-other_values}
use Rattle.sf_sym.specs.Checked.Lemmas.Terms.{term-constants}
use Rattle.sf_sym.specs.Below.{AllInGoal, AreBelow, IsBelow}
use Rattle.sf_sym.specs.declared.term.Term.{Term}
use Rattle.sf_sym.specs.declared.term.Term.TheVariants.{Nil, Int, Sym}
use Rattle.sf_sym.specs.Equalities.{assumed_apart, assumed_equal, put_for, which_goes, with_one}
use Rattle.sf_sym.specs.Goal.{Goal}
use Rattle.sf_sym.specs.Holds.{term_value, Differ, HoldsAt}
use Rattle.sf_sym.specs.HoldsIn.{HoldsIn}
use Rattle.sf_sym.specs.Checked.Laws.{HoldsOnTwoHeaps, OtherSymbolsAreFree, EqualTermsMayBeAssumed, DifferingTermsMayBeAssumed, AssumedTermsAreBelow}
use Rattle.sf_sym.specs.Tests.{same_term}

-- a goal that holds on two heaps holds on both together
pub in-at : (w : ℕ → Value) (goal : Goal) (e : Var → Option Value) (heap free taken : Heap)
    → Splits heap free taken → HoldsIn w goal e free taken → HoldsAt w goal e heap
in-at w goal e heap free taken s h = record {
  vars = h.vars;
  apart = h.apart;
  heaps = star-swap (star-of (splits-comm s) h.gone h.there);
}

pub holds_on_two_heaps : HoldsOnTwoHeaps
unfolding HoldsOnTwoHeaps
holds_on_two_heaps goal e heap = (
  λ (w, h).
      let s = star-swap h.heaps in (
        w,
        s.right,
        s.left,
        splits-comm s.splits,
        record {
          vars = h.vars;
          apart = h.apart;
          disjoint = (splits-comm s.splits).apart;
          there = s.second;
          gone = s.first;
        },
      ),
  λ (w, free, taken, s, h). (w, in-at w goal e heap free taken s h),
)

-- other symbols may have other values
pub other_symbols_are_free : OtherSymbolsAreFree
unfolding OtherSymbolsAreFree
other_symbols_are_free v w goal e free taken below s h =
    goal-other_values w v goal e free taken
    (goal-weaker (IsBelow goal.state.next_sym) (Same w v) (below-value goal.state.next_sym v w s) goal below) h

-- a term that takes a symbol's place has its value
module _ (w : ℕ → Value) (n : ℕ) (by : Term) (same : w n ≡ term_value w by) where
  pub put-value : (t : Term) → term_value w (put_for n by t) ≡ term_value w t
  put-value Nil = refl
  put-value (Int i) = refl
  put-value (Sym m) = go (m == n) refl
    where
      go : (b : Bool) → m == n ≡ b → term_value w (cond b by (Sym m)) ≡ w m
      go true i = sym same ∙ ap w (sym (at-same n m i))
      go false i = refl

-- the symbol that goes has the value of the term that takes its place
abbrev pub HasItsValue : (ℕ → Value) → Option (ℕ × Term) → Type 0
HasItsValue w None = ⊥
HasItsValue w (Some r) = w r.0 ≡ term_value w r.1

pub goes-value : (w : ℕ → Value) (t u : Term) → same_term t u ≡ false → term_value w t ≡ term_value w u
    → HasItsValue w (which_goes t u)
goes-value w Nil Nil s e = absurd (cc)
goes-value w Nil (Int j) s e = term-constants w Nil (Int j) refl e
goes-value w Nil (Sym n) s e = sym e
goes-value w (Int i) Nil s e = term-constants w (Int i) Nil refl e
goes-value w (Int i) (Int j) s e = term-constants w (Int i) (Int j) (ap not s) e
goes-value w (Int i) (Sym n) s e = sym e
goes-value w (Sym m) Nil s e = e
goes-value w (Sym m) (Int j) s e = e
goes-value w (Sym m) (Sym n) s e = go (nat_lt m n)
  where
    go : (b : Bool) → HasItsValue w (cond b (Some (n, Sym m)) (Some (m, Sym n)))
    go true = sym e
    go false = e

-- two terms of one value may be assumed to be the same
pub equal_terms_may_be_assumed : EqualTermsMayBeAssumed
unfolding EqualTermsMayBeAssumed
equal_terms_may_be_assumed w t u goal e free taken same h = go (same_term t u) refl
  where
    one : (o : Option (ℕ × Term)) → HasItsValue w o → HoldsIn w (with_one o goal) e free taken
    one None i = absurd i
    one (Some r) i = goal-with w (put_for r.0 r.1) (put-value w r.0 r.1 i) goal e free taken h

    go : (b : Bool) → same_term t u ≡ b → HoldsIn w (cond b goal (with_one (which_goes t u) goal)) e free taken
    go true s = h
    go false s = one (which_goes t u) (goes-value w t u s same)

-- two terms of different values may be assumed to differ
pub differing_terms_may_be_assumed : DifferingTermsMayBeAssumed
unfolding DifferingTermsMayBeAssumed
differing_terms_may_be_assumed w t u goal e free taken other h = record {
  vars = h.vars;
  apart = all_by-append (Differ w) goal.state.apart ((t, u) ∷ []) h.apart (other, tt);
  disjoint = h.disjoint;
  there = h.there;
  gone = h.gone;
}

-- what takes a symbol's place is below what both are below
abbrev IsBelowToo : ℕ → Option (ℕ × Term) → Type 0
IsBelowToo n None = Unit {0}
IsBelowToo n (Some r) = IsBelow n r.1

goes-below : (n : ℕ) (t u : Term) → IsBelow n t → IsBelow n u → IsBelowToo n (which_goes t u)
goes-below n Nil Nil b c = tt
goes-below n Nil (Int j) b c = tt
goes-below n Nil (Sym k) b c = b
goes-below n (Int i) Nil b c = tt
goes-below n (Int i) (Int j) b c = tt
goes-below n (Int i) (Sym k) b c = b
goes-below n (Sym m) Nil b c = c
goes-below n (Sym m) (Int j) b c = c
goes-below n (Sym m) (Sym k) b c = go (nat_lt m k)
  where
    go : (x : Bool) → IsBelowToo n (cond x (Some (k, Sym m)) (Some (m, Sym k)))
    go true = b
    go false = c

put-below : (n k : ℕ) (by : Term) → IsBelow n by → (t : Term) → IsBelow n t → IsBelow n (put_for k by t)
put-below n k by c Nil b = b
put-below n k by c (Int i) b = b
put-below n k by c (Sym m) b = go (m == k)
  where
    go : (x : Bool) → IsBelow n (cond x by (Sym m))
    go true = c
    go false = b

apart-below : (n : ℕ) (t u : Term) (goal : Goal) → AllInGoal (IsBelow n) goal → IsBelow n t → IsBelow n u
    → AllInGoal (IsBelow n) (assumed_apart t u goal)
apart-below n t u goal a b c = record {
  state = record {
    vars = a.state.vars;
    apart = all_by-append (λ (p : Term × Term). IsBelow n p.0 × IsBelow n p.1) goal.state.apart ((t, u) ∷ [])
        a.state.apart ((b, c), tt);
    atoms = a.state.atoms;
    taken = a.state.taken;
  };
  todo = a.todo;
}

one-below : (n : ℕ) (o : Option (ℕ × Term)) (goal : Goal) → AllInGoal (IsBelow n) goal → IsBelowToo n o
    → AllInGoal (IsBelow n) (with_one o goal)
one-below n None goal a i = apart-below n Nil Nil goal a refl refl
one-below n (Some r) goal a i =
    all-with (IsBelow n) (IsBelow n) (put_for r.0 r.1) (put-below n r.0 r.1 i) goal a

-- the state's next symbol stays
one-next : (o : Option (ℕ × Term)) (goal : Goal) → (with_one o goal).state.next_sym ≡ goal.state.next_sym
one-next None goal = refl
one-next (Some r) goal = refl

-- a goal whose next symbol is that one speaks of symbols below it
below-at : (n : ℕ) (goal : Goal) → goal.state.next_sym ≡ n → AllInGoal (IsBelow n) goal → AreBelow goal
below-at n goal e a = subst (λ k. AllInGoal (IsBelow k) goal) (sym e) a

pub assumed_terms_are_below : AssumedTermsAreBelow
unfolding AssumedTermsAreBelow
assumed_terms_are_below t u goal a b c =
    (go (same_term t u), apart-below goal.state.next_sym t u goal a b c)
  where
    go : (x : Bool) → AreBelow (cond x goal (with_one (which_goes t u) goal))
    go true = a
    go false =
        below-at goal.state.next_sym (with_one (which_goes t u) goal) (one-next (which_goes t u) goal)
        (one-below goal.state.next_sym (which_goes t u) goal a (goes-below goal.state.next_sym t u b c))

-- the next symbol and the links stay where two terms are assumed to be the same
pub equal-stays : (t u : Term) (goal : Goal)
    → ((assumed_equal t u goal).state.next_sym ≡ goal.state.next_sym)
    × ((assumed_equal t u goal).state.links ≡ goal.state.links)
equal-stays t u goal = go (same_term t u)
  where
    one : (o : Option (ℕ × Term)) → ((with_one o goal).state.next_sym ≡ goal.state.next_sym)
        × ((with_one o goal).state.links ≡ goal.state.links)
    one None = (refl, refl)
    one (Some r) = (refl, refl)

    go : (x : Bool)
        → ((cond x goal (with_one (which_goes t u) goal)).state.next_sym ≡ goal.state.next_sym)
        × ((cond x goal (with_one (which_goes t u) goal)).state.links ≡ goal.state.links)
    go true = (refl, refl)
    go false = one (which_goes t u)
