-- Waits: how many of which existentials have to become known before a conjunct is ready, and which ones
-- become known by it.
-- The usual in-degrees of a topological sort (Kahn, 1962).
use Rattle.std.specs.Prelude.{ℕ, ◌+◌, Bool, false, not, ◌&&◌, cond, List, [], ◌∷◌, ◌++◌, length, filter, Option, Some, None}
use Rattle.sf_core.specs.declared.assertion.Operand.{Operand}
use Rattle.sf_core.specs.declared.assertion.Operand.TheVariants.{Known, Exists}
use Rattle.sf_core.specs.declared.assertion.Scope.{Scope}
use Rattle.sf_core.specs.declared.assertion.Test.{Test}
use Rattle.sf_core.specs.declared.assertion.Test.TheVariants.{True, Equal, Differ}
use Rattle.sf_core.specs.Assertions.Scopes.{is_made_by}
use Rattle.sf_core.specs.Program.Syntax.{Conjunct, holds, points, segment, doubly, tree, choose}
use Rattle.sf_precise.specs.Checked.Outer.{existential, field_existentials, of_four, outer_of, test_existentials}

-- what is known at first: nothing, or what that scope does not make
abbrev pub known_outside : Option Scope → ℕ → Bool
known_outside None n = false
known_outside (Some made) n = not (is_made_by made n)

-- those that are not known at first
abbrev pub unknown_among : (ℕ → Bool) → List ℕ → List ℕ
unknown_among start ns = filter (λ n. not (start n)) ns

-- the operand is not known at first
abbrev pub is_unknown : {E : Type 0} → (ℕ → Bool) → Operand E → Bool
is_unknown start (Known x) = false
is_unknown start (Exists n) = not (start n)

-- the existentials on which readiness of the conjunct rests
abbrev pub rests_on : {E : Type 0} → Conjunct E → List ℕ
rests_on (holds p t) = test_existentials t
rests_on (points p x fs) = existential x
rests_on (segment p next x y) = existential x ++ existential y
rests_on (doubly p next back x b z y) = of_four x b z y
rests_on (tree p left right x) = existential x
rests_on (choose p t this that) = outer_of (choose p t this that)

-- those of them that are not known at first
abbrev pub waits_for : {E : Type 0} → (ℕ → Bool) → Conjunct E → List ℕ
waits_for start c = unknown_among start (rests_on c)

-- how many of those have to become known: all of them, of an equality the one or the other, and more
-- than there are where a branch has no order
abbrev pub need_of : {E : Type 0} → (ℕ → Bool) → Conjunct E → Bool → ℕ
need_of start (holds p (Equal x y)) ordered = cond (is_unknown start x && is_unknown start y) 1 0
need_of start c ordered = length (waits_for start c) + cond ordered 0 1

-- the existentials that an equality makes known
abbrev pub equated : {E : Type 0} → Test (Operand E) → List ℕ
equated True = []
equated (Equal x y) = existential x ++ existential y
equated (Differ x y) = []

-- the existentials that become known where the conjunct is taken
abbrev pub learned_from : {E : Type 0} → Conjunct E → List ℕ
learned_from (holds p t) = equated t
learned_from (points p x fs) = field_existentials fs
learned_from (segment p next x y) = []
learned_from (doubly p next back x b z y) = []
learned_from (tree p left right x) = []
learned_from (choose p t this that) = []

-- what a conjunct waits for
pub record Job : Type 0 where
  pub need : ℕ
  pub waits : List ℕ

-- the job of a conjunct
abbrev pub job_of : {E : Type 0} → (ℕ → Bool) → Conjunct E → Bool → Job
job_of start c ordered = record { need = need_of start c ordered; waits = waits_for start c }

-- the jobs of conjuncts, of which some have an order inside
abbrev pub jobs_of : {E : Type 0} → (ℕ → Bool) → List (Conjunct E) → List Bool → List Job
jobs_of start [] os = []
jobs_of start (c ∷ cs) [] = []
jobs_of start (c ∷ cs) (o ∷ os) = job_of start c o ∷ jobs_of start cs os
