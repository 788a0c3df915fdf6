-- Which tests of terms a state decides, and how.
-- Berdine, Calcagno, O'Hearn, "Symbolic Execution with Separation Logic" (2005), section 4: what is known of equalities.
use Rattle.std.specs.Prelude.{Bool, true, false, cond, get_or, Option, Some, None, List}
use Rattle.sf_core.specs.declared.assertion.Operand.{Operand}
use Rattle.sf_core.specs.declared.assertion.Operand.TheVariants.{Known, Exists}
use Rattle.sf_core.specs.declared.assertion.Test.{Test}
use Rattle.sf_core.specs.declared.assertion.Test.TheVariants.{True, Equal, Differ}
use Rattle.sf_core.specs.declared.command.Expr.{Expr}
use Rattle.sf_sym.specs.declared.term.Term.{Term}
use Rattle.sf_sym.specs.State.{State}
use Rattle.sf_sym.specs.Tests.{differs, same_term}

-- the term of an operand that has one, what its existentials stand for being known
abbrev pub term_of : List (Option Term) → Operand Term → Option Term
term_of bindings (Known t) = Some t
term_of bindings (Exists n) = get_or bindings n None

-- a test of terms is decided true
abbrev pub is_true : State → Test Term → Bool
is_true s True = true
is_true s (Equal t u) = same_term t u
is_true s (Differ t u) = differs s t u

-- it is decided false
abbrev pub is_false : State → Test Term → Bool
is_false s True = false
is_false s (Equal t u) = differs s t u
is_false s (Differ t u) = same_term t u

-- a test of terms, where both sides have one
abbrev pub two_terms : (Term → Term → Test Term) → Option Term → Option Term → Option (Test Term)
two_terms make (Some t) (Some u) = Some (make t u)
two_terms make _ _ = None

-- a test of operands with their terms, where each has one
abbrev pub test_of_terms : List (Option Term) → Test (Operand Term) → Option (Test Term)
test_of_terms bindings True = Some True
test_of_terms bindings (Equal x y) = two_terms Equal (term_of bindings x) (term_of bindings y)
test_of_terms bindings (Differ x y) = two_terms Differ (term_of bindings x) (term_of bindings y)

-- the test is decided so: true, or false
abbrev pub is_decided : (so : Bool) → State → Test Term → Bool
is_decided so s t = cond so (is_true s t) (is_false s t)

-- a command's test with its terms
abbrev pub command_test : (Expr → Term) → Test Expr → Test Term
command_test to True = True
command_test to (Equal e d) = Equal (to e) (to d)
command_test to (Differ e d) = Differ (to e) (to d)
