-- Tests that are assumed: one that is true for a frame holds as conjuncts, and so does the negation of one that
-- isn't.
-- Names: `test-LAW`.
use Rattle.std.proofs.Common.{◌≡◌, ℕ, true, [], sym, ◌∙◌, inl, inr}
use Rattle.sf_base.proofs.HeapSplits.{star-of}
use Rattle.sf_base.proofs.MapSplits.{splits-empty_left}
use Rattle.sf_base.specs.declared.ids.Var.{Var}
use Rattle.sf_base.specs.declared.place.Place.{Place}
use Rattle.sf_base.specs.declared.value.Value.{Value}
use Rattle.sf_base.specs.declared.value.Value.TheVariants.{Nil as nil}
use Rattle.sf_base.specs.HeapStore.{Heap, IsEmpty}
use Rattle.sf_core.proofs.Assertions.Values.{value-which}
use Rattle.sf_core.specs.Assertions.Sat.{IsTrueOf, value}
use Rattle.sf_core.specs.declared.assertion.Test.{Test}
use Rattle.sf_core.specs.declared.assertion.Test.TheVariants.{True, Equal, Differ}
use Rattle.sf_core.specs.declared.command.Expr.{Expr}
use Rattle.sf_core.specs.declared.command.Expr.TheVariants.{Var as Variable, Nil, Int}
use Rattle.sf_core.specs.Program.Formed.{ExprWithin, TestWithin}
use Rattle.sf_rules.specs.Words.{negation, test_conjuncts}
use Rattle.sf_sound.proofs.Annotated.{HaveValues}
use Rattle.sf_sound.specs.Checked.Suits.{Domain, Reads, ReadsTest}
use Rattle.sf_sym.specs.declared.term.Term.{Term}
use Rattle.sf_sym.specs.Holds.{PendingHolds}
use Rattle.sf_sym.specs.Pending.{Pending}

-- what a test is as something to assume
abbrev pub pending_test : Place → (Expr → Term) → Test Expr → Pending
pending_test q to t = record { conjuncts = test_conjuncts q to t; bindings = [] }

-- a test reads only such variables
abbrev pub MentionsOnly : (Var → Type 0) → Test Expr → Type 0
MentionsOnly V t = TestWithin (ExprWithin V) t

pub test-within : (D : Domain) (t : Test Expr) → ReadsTest D t → MentionsOnly (λ x. D.has x ≡ true) t
test-within D True r = tt
test-within D (Equal x y) r = (expr x r.0, expr y r.1)
  where
    expr : (e : Expr) → Reads D e → ExprWithin (λ x. D.has x ≡ true) e
    expr (Variable x) r = r
    expr Nil r = tt
    expr (Int i) r = tt
test-within D (Differ x y) r = (expr x r.0, expr y r.1)
  where
    expr : (e : Expr) → Reads D e → ExprWithin (λ x. D.has x ≡ true) e
    expr (Variable x) r = r
    expr Nil r = tt
    expr (Int i) r = tt

-- a test that is true holds on the empty heap
pub test-holds : (w : ℕ → Value) (V : Var → Type 0) (q : Place) (to : Expr → Term) (v : Var → Value) (t : Test Expr)
    (heap : Heap) → HaveValues V w to v → MentionsOnly V t → IsTrueOf (value v) t → IsEmpty heap
    → PendingHolds w (pending_test q to t) heap
test-holds w V q to v True heap same m i e = (λ n. nil, λ n t b. absurd (cc), e)
test-holds w V q to v (Equal x y) heap same m i e = (
  λ n. nil,
  λ n t b. absurd (cc),
  star-of (splits-empty_left e) (e, same x m.0 ∙ i ∙ sym (same y m.1)) e,
)
test-holds w V q to v (Differ x y) heap same m i e = (
  λ n. nil,
  λ n t b. absurd (cc),
  star-of (splits-empty_left e) (e, λ j. i (sym (same x m.0) ∙ j ∙ same y m.1)) e,
)

-- where a test isn't true its negation is
pub negation-true : (v : Var → Value) (t : Test Expr) → (IsTrueOf (value v) t → ⊥)
    → IsTrueOf (value v) (negation Nil t)
negation-true v True n = absurd (n tt)
negation-true v (Equal x y) n = n
negation-true v (Differ x y) n = elim (value-which (value v x) (value v y)) [ inl i ↦ i | inr d ↦ absurd (n d) ]

pub negation-within : (V : Var → Type 0) (t : Test Expr) → MentionsOnly V t → MentionsOnly V (negation Nil t)
negation-within V True m = (tt, tt)
negation-within V (Equal x y) m = m
negation-within V (Differ x y) m = m
