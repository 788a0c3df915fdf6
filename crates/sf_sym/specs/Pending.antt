-- Pending: conjuncts that are still to be assumed or to be shown, and what their existentials stand for so far.
-- Berdine, Calcagno, O'Hearn, "Symbolic Execution with Separation Logic" (2005).
use Rattle.std.specs.Prelude.{ℕ, ◌+◌, List, [], ◌∷◌, Option, map, reverse}
use Rattle.sf_base.specs.declared.ids.FieldId.{FieldId}
use Rattle.sf_core.specs.declared.assertion.Conjunct.{Conjunct as CodeConjunct}
use Rattle.sf_core.specs.declared.assertion.Operand.{Operand}
use Rattle.sf_core.specs.declared.assertion.Operand.TheVariants.{Known, Exists}
use Rattle.sf_core.specs.Program.Syntax.{Level, level, Conjuncts, none, also}
use Rattle.sf_core.specs.Program.View.{conjuncts, conjunct_of}
use Rattle.sf_sym.specs.declared.term.Term.{Term}

-- Pending: the conjuncts in order, and the term of each existential by its number, where it has one
pub record Pending : Type 0 where
  pub conjuncts : Conjuncts Term
  pub bindings : List (Option Term)

-- what contracts see of the code's conjuncts, the same in order
pub record Given : Type 0 where
  pub conjuncts : List (CodeConjunct Term)
  pub bindings : List (Option Term)

-- the meaning of what contracts see
abbrev pub pending_of : Given → Pending
pending_of g = record { conjuncts = conjuncts (map conjunct_of g.conjuncts); bindings = g.bindings }

-- the code keeps the next conjunct last
abbrev pub given_of : List (CodeConjunct Term) → List (Option Term) → Given
given_of cs bindings = record { conjuncts = reverse cs; bindings = bindings }

-- the conjuncts of a level
abbrev pub conjuncts_of : {E : Type 0} → Level E → Conjuncts E
conjuncts_of (level made cs) = cs

-- 1 for an existential, 0 for what has a term
abbrev pub one_if_existential : {E : Type 0} → Operand E → ℕ
one_if_existential (Known t) = 0
one_if_existential (Exists n) = 1

-- how many of the fields of a cell have an existential as their value
abbrev pub existentials_in : {E : Type 0} → List (FieldId × Operand E) → ℕ
existentials_in [] = 0
existentials_in (f ∷ fs) = one_if_existential f.1 + existentials_in fs

-- one list of conjuncts before another
abbrev pub before : {E : Type 0} → Conjuncts E → Conjuncts E → Conjuncts E
before none ds = ds
before (also c cs) ds = also c (before cs ds)

-- the conjuncts with a branch in place of the choice before them
abbrev pub with_branch : Pending → Level Term → Conjuncts Term → Pending
with_branch p branch rest = record { conjuncts = before (conjuncts_of branch) rest; bindings = p.bindings }
