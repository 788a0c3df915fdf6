-- The laws of choices among commands: the branch that is left is that of the test's value.
-- Names: `test-LAW` of a command's test.
use Rattle.std.specs.List.{AllByRecursion}
use Rattle.std.proofs.Common.{◌≡◌, ◌↔◌, ℕ, Bool, true, false, cond, Option, Some, None, List, ◌++◌, refl, sym, ◌∙◌, arith}
use Rattle.sf_base.proofs.Elements.{all_by-append}
use Rattle.sf_base.proofs.HeapSplits.{star-drop_right}
use Rattle.sf_base.specs.declared.ids.Var.{Var}
use Rattle.sf_base.specs.declared.place.Place.{Place}
use Rattle.sf_base.specs.declared.value.Value.{Value}
use Rattle.sf_base.specs.HeapStore.{Heap}
use Rattle.sf_core.specs.Assertions.Sat.{IsTrueOf}
use Rattle.sf_core.specs.declared.assertion.Test.{Test}
use Rattle.sf_core.specs.declared.assertion.Test.TheVariants.{True, Equal, Differ}
use Rattle.sf_core.specs.declared.command.Expr.{Expr}
use Rattle.sf_core.specs.Program.Syntax.{Block, done, then, if}
use Rattle.sf_rules.proofs.CommandLaws.{beside-none, command-form, executed-one}
use Rattle.sf_rules.specs.Checked.LawsOfCommands.{before_command, Executed, ThenFollowsTest, ElseFollowsTest}
use Rattle.sf_sym.specs.Formed.{ItemFormed}
use Rattle.sf_sym.specs.Checked.Lemmas.Decided.{decided-false, decided-true}
use Rattle.sf_sym.specs.Checked.Lemmas.Formed.{formed-run}
use Rattle.sf_sym.specs.Checked.Lemmas.KnownValues.{known-value}
use Rattle.sf_sym.specs.Below.{AllInItem, IsBelow}
use Rattle.sf_sym.specs.Decided.{command_test, is_false, is_true}
use Rattle.sf_sym.specs.declared.term.Term.{Term}
use Rattle.sf_sym.specs.Goal.{Item, Goal, one_goal, to_run}
use Rattle.sf_sym.specs.Holds.{term_value}
use Rattle.sf_sym.specs.HoldsIn.{HoldsIn}
use Rattle.sf_sym.specs.Checked.Laws.{Follows, HoldsStill}
use Rattle.sf_sym.specs.Ready.{HasTestValues, HasValue, IsIn, IsTestIn, is_listed, value_at}
use Rattle.sf_sym.specs.Shape.{HasShape, IsBody}
use Rattle.sf_sym.specs.State.{State, term}

-- a block's commands come before commands
run-body : (c : Block) (rest : List Item) → IsBody rest → IsBody (to_run c ++ rest)
run-body done rest b = b
run-body (then c cs) rest b = run-body cs rest b

-- and have no terms
run-all : (P : Term → Type 0) (c : Block) (rest : List Item) → AllByRecursion (AllInItem P) rest
    → AllByRecursion (AllInItem P) (to_run c ++ rest)
run-all P done rest a = a
run-all P (then c cs) rest a = (tt, run-all P cs rest a)

module _ (w : ℕ → Value) (goal : Goal) (e : Var → Option Value) (free taken : Heap)
    (h : HoldsIn w goal e free taken) where
  known : (x : Expr) → IsIn (is_listed goal.state.vars) x → HasValue e x
      → term_value w (term goal.state.vars x) ≡ value_at e x
  known x l k = known-value w e goal.state.vars h.vars x l k

  -- a test is true exactly where it is true of its terms
  test-known : (test : Test Expr) → IsTestIn (is_listed goal.state.vars) test → HasTestValues e test
      → IsTrueOf (term_value w) (command_test (term goal.state.vars) test) ↔ IsTrueOf (value_at e) test
  test-known True l k = (λ i. i, λ i. i)
  test-known (Equal x y) l k = (
    λ i. sym (known x l.0 k.0) ∙ i ∙ known y l.1 k.1,
    λ i. known x l.0 k.0 ∙ i ∙ sym (known y l.1 k.1),
  )
  test-known (Differ x y) l k = (
    λ n i. n (known x l.0 k.0 ∙ i ∙ sym (known y l.1 k.1)),
    λ n i. n (sym (known x l.0 k.0) ∙ i ∙ known y l.1 k.1),
  )

  -- a test that is decided true is true
  test-true : (test : Test Expr) → IsTestIn (is_listed goal.state.vars) test → HasTestValues e test
      → is_true goal.state (command_test (term goal.state.vars) test) ≡ true → IsTrueOf (value_at e) test
  test-true test l k d =
      (test-known test l k).0 (decided-true w goal e free taken h (command_test (term goal.state.vars) test) d)

  -- one that is decided false is false
  test-false : (test : Test Expr) → IsTestIn (is_listed goal.state.vars) test → HasTestValues e test
      → is_false goal.state (command_test (term goal.state.vars) test) ≡ true
      → IsTrueOf (value_at e) test → ⊥
  test-false test l k d i =
      decided-false w goal e free taken h (command_test (term goal.state.vars) test) d ((test-known test l k).1 i)

-- the goal that is left with the commands of a block
module _ (s : State) (rest : List Item) (p : Place) (test : Test Expr) (this that c : Block)
    (shape : HasShape (before_command s (if p test this that) rest)) where
  branch-follows : Follows (before_command s (if p test this that) rest)
      (record { state = s; todo = to_run c ++ rest })
  branch-follows = record {
    below = record {
      state = shape.below.state;
      todo = run-all (IsBelow s.next_sym) c rest shape.below.todo.1;
    };
    symbols = omega arith;
    links = refl;
    formed = λ f. all_by-append (ItemFormed s.links) (to_run c) rest (formed-run s.links c) f.1;
  }

  branch-holds : (w : ℕ → Value) (e : Var → Option Value) (free taken : Heap)
      → HoldsIn w (before_command s (if p test this that) rest) e free taken
      → HoldsStill w (before_command s (if p test this that) rest) e free taken
      (record { state = s; todo = to_run c ++ rest })
  branch-holds w e free taken h = record {
    values = w;
    same = λ m d. refl;
    holds = record {
      vars = h.vars;
      apart = h.apart;
      disjoint = h.disjoint;
      there = beside-none w (to_run c ++ rest) free (run-body c rest (command-form s (if p test this that) rest shape).0) (star-drop_right h.there);
      gone = h.gone;
    };
  }

  -- the row of a test that is decided so, where what its decision says is true of the values
  branch-executed : (left : List Goal) (decided : Bool) (Says : (Var → Option Value) → Type 0)
      → ((w : ℕ → Value) (e : Var → Option Value) (free taken : Heap)
      → HoldsIn w (before_command s (if p test this that) rest) e free taken → HasTestValues e test
      → decided ≡ true → Says e)
      → cond decided (one_goal s (to_run c ++ rest)) None ≡ Some left
      → Executed (before_command s (if p test this that) rest) left
      (λ w e free taken child. HasTestValues e test
      → Says e × HoldsStill w (before_command s (if p test this that) rest) e free taken child)
  branch-executed left false Says is row = absurd (cc)
  branch-executed left true Says is row =
      executed-one (before_command s (if p test this that) rest) (record { state = s; todo = to_run c ++ rest }) left _
      row branch-follows
      (λ w e free taken h k. (is w e free taken h k refl, branch-holds w e free taken h))

pub then_follows_test : ThenFollowsTest
unfolding ThenFollowsTest
then_follows_test s rest left p test this that shape row =
    branch-executed s rest p test this that this shape left (is_true s (command_test (term s.vars) test))
    (λ e. IsTrueOf (value_at e) test)
    (λ w e free taken h k d. test-true w (before_command s (if p test this that) rest) e free taken h test shape.reads k d) row

pub else_follows_test : ElseFollowsTest
unfolding ElseFollowsTest
else_follows_test s rest left p test this that shape row =
    branch-executed s rest p test this that that shape left (is_false s (command_test (term s.vars) test))
    (λ e. IsTrueOf (value_at e) test → ⊥)
    (λ w e free taken h k d. test-false w (before_command s (if p test this that) rest) e free taken h test shape.reads k d) row
