-- What a state decides: terms that differ, and tests that are true or false.
-- Names: `decided-LAW` of a test that is decided, `differ-in` of terms where a goal holds.
use Rattle.std.proofs.Common.{◌≡◌, ◌≢◌, ℕ, true, Option, ap}
use Rattle.sf_base.proofs.MapSplits.{splits-union, union}
use Rattle.sf_base.specs.declared.ids.Var.{Var}
use Rattle.sf_base.specs.declared.value.Value.{Value}
use Rattle.sf_base.specs.HeapStore.{Heap}
use Rattle.sf_core.specs.Assertions.Sat.{IsTrueOf}
use Rattle.sf_core.specs.declared.assertion.Test.{Test}
use Rattle.sf_core.specs.declared.assertion.Test.TheVariants.{True, Equal, Differ}
use Rattle.sf_sym.specs.Decided.{is_false, is_true}
use Rattle.sf_sym.specs.declared.term.Term.{Term}
use Rattle.sf_sym.specs.Goal.{Goal}
use Rattle.sf_sym.specs.Holds.{term_value}
use Rattle.sf_sym.specs.HoldsIn.{HoldsIn}
use Rattle.sf_sym.specs.Checked.Laws.{DifferingTermsDiffer}
use Rattle.sf_sym.specs.Checked.Lemmas.{same_term_is}
use Rattle.sf_sym.specs.Checked.Lemmas.States.{differing_terms_differ}
use Rattle.sf_sym.specs.Checked.Lemmas.TwoHeaps.{in-at}
use Rattle.sf_sym.specs.Tests.{differs}

module _ (w : ℕ → Value) (goal : Goal) (e : Var → Option Value) (free taken : Heap)
    (h : HoldsIn w goal e free taken) where
  -- terms that surely differ have different values
  pub differ-in : (t u : Term) → differs goal.state t u ≡ true → term_value w t ≢ term_value w u
  unfolding DifferingTermsDiffer
  differ-in t u d =
      differing_terms_differ w goal e (union free taken)
      (in-at w goal e (union free taken) free taken (splits-union h.disjoint) h) t u d

  -- a test that is decided true is true
  pub decided-true : (test : Test Term) → is_true goal.state test ≡ true → IsTrueOf (term_value w) test
  decided-true True d = tt
  decided-true (Equal t u) d = ap (term_value w) (same_term_is t u d)
  decided-true (Differ t u) d = differ-in t u d

  -- one that is decided false is false
  pub decided-false : (test : Test Term) → is_false goal.state test ≡ true → IsTrueOf (term_value w) test → ⊥
  decided-false True d = λ i. absurd (cc)
  decided-false (Equal t u) d = differ-in t u d
  decided-false (Differ t u) d = λ n. n (ap (term_value w) (same_term_is t u d))
