-- Words that many rows use: how assertions and tests become things to do.
-- Berdine, Calcagno, O'Hearn, "Symbolic Execution with Separation Logic" (2005), section 4.
use Rattle.std.specs.Prelude.{None, List, [], ◌∷◌, ◌++◌, length, replicate}
use Rattle.sf_base.specs.declared.place.Place.{Place}
use Rattle.sf_core.specs.declared.assertion.Operand.TheVariants.{Known}
use Rattle.sf_core.specs.declared.assertion.Test.{Test}
use Rattle.sf_core.specs.declared.assertion.Test.TheVariants.{True, Equal, Differ}
use Rattle.sf_core.specs.declared.command.Expr.{Expr}
use Rattle.sf_core.specs.Program.Syntax.{holds, Conjuncts, none, also, Assertion}
use Rattle.sf_sym.specs.declared.term.Term.{Term}
use Rattle.sf_sym.specs.Goal.{Item, adding, taking}
use Rattle.sf_sym.specs.Mapped.{conjuncts_with}
use Rattle.sf_sym.specs.Pending.{Pending, conjuncts_of}

-- an assertion's conjuncts, none of its existentials having a term
abbrev pub pending_assertion : (Expr → Term) → Assertion → Pending
pending_assertion to a = record {
  conjuncts = conjuncts_with to (conjuncts_of a.level);
  bindings = replicate (length a.names) None;
}

-- to assume an assertion
abbrev pub to_add : Place → (Expr → Term) → Assertion → List Item
to_add p to a = adding p (pending_assertion to a)

-- to show an assertion
abbrev pub to_take : Place → (Expr → Term) → Assertion → List Item
to_take p to a = taking p (pending_assertion to a) a.names

-- to show assertions, one after the other, before those things to do
abbrev pub to_take_each : Place → (Expr → Term) → List Assertion → List Item → List Item
to_take_each p to [] rest = rest
to_take_each p to (a ∷ others) rest = to_take p to a ++ to_take_each p to others rest

-- a test as conjuncts: none, if it is always true
abbrev pub test_conjuncts : Place → (Expr → Term) → Test Expr → Conjuncts Term
test_conjuncts p to True = none
test_conjuncts p to (Equal e d) = also (holds p (Equal (Known (to e)) (Known (to d)))) none
test_conjuncts p to (Differ e d) = also (holds p (Differ (Known (to e)) (Known (to d)))) none

-- its negation: that nil differs from itself, if the test is always true
abbrev pub negation : {E : Type 0} → E → Test E → Test E
negation nil True = Differ nil nil
negation nil (Equal e d) = Differ e d
negation nil (Differ e d) = Equal e d

-- to assume a test
abbrev pub to_add_test : Place → (Expr → Term) → Test Expr → List Item
to_add_test p to t = adding p (record { conjuncts = test_conjuncts p to t; bindings = [] })
