-- Conjuncts and what existentials stand for, with symbols below a number only.
-- Ordinary: a bound of the names that occur.
use Rattle.std.specs.Prelude.{◌≡◌, ◌≢◌, ℕ, Some, None, List, Option, get_or, map}
use Rattle.std.specs.List.{AllByRecursion}
use Rattle.sf_core.specs.Assertions.Occurs.{OccursInOne}
use Rattle.sf_core.specs.declared.assertion.Conjunct.{Conjunct as CodeConjunct}
use Rattle.sf_core.specs.declared.assertion.Operand.{Operand}
use Rattle.sf_core.specs.declared.assertion.Operand.TheVariants.{Known}
use Rattle.sf_core.specs.Program.Syntax.{Conjunct}
use Rattle.sf_core.specs.Program.View.{conjunct_of}
use Rattle.sf_sym.specs.declared.term.Term.{Term}
use Rattle.sf_sym.specs.Below.{IsBelow}

-- every term that occurs is below the number
abbrev pub OccurBelow : ℕ → (occurs : Operand Term → Type 0) → Type 0
OccurBelow n occurs = (t : Term) → occurs (Known t) → IsBelow n t

-- every term of the conjuncts is
abbrev pub ConjunctsBelow : ℕ → List (CodeConjunct Term) → Type 0
ConjunctsBelow n cs =
    AllByRecursion (λ (c : Conjunct Term). OccurBelow n (OccursInOne c)) (map (conjunct_of {E = Term}) cs)

-- what each existential stands for is, but for that one
abbrev pub BindingsBelow : ℕ → (but : ℕ) → List (Option Term) → Type 0
BindingsBelow n but bindings =
    (m : ℕ) (t : Term) → m ≢ but → get_or bindings m None ≡ Some t → IsBelow n t

-- both are
abbrev pub AreBelow : ℕ → (latest : ℕ) → List (CodeConjunct Term) → List (Option Term) → Type 0
AreBelow n latest cs bindings = ConjunctsBelow n cs × BindingsBelow n latest bindings
