-- A choice among what is wanted, whose test is decided: its branch for that is wanted in its place.
use Rattle.std.proofs.Common.{◌≡◌, ℕ, Bool, true, false, cond, List, Option, Some, length, inl, inr}
use Rattle.sf_base.proofs.HeapSplits.{star-map_left}
use Rattle.sf_base.specs.declared.ids.Var.{Var}
use Rattle.sf_base.specs.declared.place.Place.{Place}
use Rattle.sf_base.specs.declared.value.Value.{Value}
use Rattle.sf_base.specs.HeapStore.{Heap}
use Rattle.sf_core.specs.Assertions.Sat.{SatAll, SatOne}
use Rattle.sf_core.specs.declared.assertion.Operand.{Operand}
use Rattle.sf_core.specs.declared.assertion.Operand.TheVariants.{Known}
use Rattle.sf_core.specs.declared.assertion.Test.{Test}
use Rattle.sf_core.specs.Program.Syntax.{Conjunct, choose, Level, also}
use Rattle.sf_consume.proofs.Handing.{hands_nothing}
use Rattle.sf_consume.specs.Checked.Laws.{alone, BranchKeepsWants}
use Rattle.sf_sym.specs.Checked.Lemmas.Bindings.{test-is}
use Rattle.sf_sym.specs.Checked.Lemmas.Choices.{before-formed, before-occurs, before-sat, branch-formed, branch-occurs, level-sat}
use Rattle.sf_sym.specs.Decided.{is_decided, test_of_terms}
use Rattle.sf_sym.specs.declared.term.Term.{Term}
use Rattle.sf_sym.specs.Holds.{term_value, IsBound}
use Rattle.sf_sym.specs.HoldsIn.{HoldsIn}
use Rattle.sf_sym.specs.Checked.Lemmas.Decided.{decided-false, decided-true}
use Rattle.sf_sym.specs.Pending.{before, conjuncts_of}
use Rattle.sf_sym.specs.State.{State}

-- the choice holds where its branch does
branch-sat : (so : Bool) (s : State) (bindings : List (Option Term)) (place : Place) (test : Test (Operand Term))
    (this that : Level Term) (terms : Test Term) (w some : ℕ → Value) (e : Var → Option Value) (free taken heap : Heap)
    → HoldsIn w (alone s) e free taken → IsBound w bindings some → test_of_terms bindings test ≡ Some terms
    → is_decided so s terms ≡ true → SatAll (conjuncts_of (cond so this that)) (term_value w) some heap
    → SatOne (choose place test this that) (term_value w) some heap
branch-sat true s bindings place test this that terms w some e free taken heap h bound is d sat = (
  λ i. level-sat this (term_value w) some heap sat,
  λ n. absurd (n ((test-is w some bindings test terms bound is).1 (decided-true w (alone s) e free taken h terms d))),
)
branch-sat false s bindings place test this that terms w some e free taken heap h bound is d sat = (
  λ i. absurd
      (decided-false w (alone s) e free taken h terms d ((test-is w some bindings test terms bound is).0 i)),
  λ n. level-sat that (term_value w) some heap sat,
)

pub branch_keeps_wants : BranchKeepsWants
unfolding BranchKeepsWants
branch_keeps_wants so s bindings place test this that cs terms formed is d =
    let c : Conjunct Term = choose place test this that in
    let branch = conjuncts_of (cond so this that) in
    hands_nothing s bindings bindings (also c cs) (before branch cs) formed
    (record {
      state = formed.state;
      terms = record {
        conjuncts = λ t o. elim (before-occurs branch cs (Known t) o) [
          | inl here ↦ formed.terms.conjuncts t (inl (branch-occurs so place test this that t here))
          | inr there ↦ formed.terms.conjuncts t (inr there)
        ];
        bindings = formed.terms.bindings;
      };
      conjuncts = before-formed s.links (length bindings) branch cs
          (branch-formed so s.links (length bindings) place test this that formed.conjuncts.0) formed.conjuncts.1;
    })
    (λ w some e free taken h heap want. record {
      bound = want.bound;
      satisfied = star-map_left
          (λ part sat. branch-sat so s bindings place test this that terms w some e free taken part h want.bound is d sat)
          (before-sat branch cs (term_value w) some heap want.satisfied);
    })
