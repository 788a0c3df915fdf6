-- InOrder: conjuncts in an order in which each is ready once those before it are taken.
-- This project's own notion, beside Determined: what such an order looks like once it is written down.
use Rattle.std.specs.Prelude.{◌≡◌, ℕ, Bool, true, false, ◌||◌}
use Rattle.sf_core.specs.declared.assertion.Operand.{Operand}
use Rattle.sf_core.specs.declared.assertion.Operand.TheVariants.{Known, Exists}
use Rattle.sf_core.specs.declared.assertion.Test.TheVariants.{True, Equal, Differ}
use Rattle.sf_core.specs.Assertions.Determined.{IsKnown, known_after, known_inside}
use Rattle.sf_core.specs.Assertions.Occurs.{OccursInOne}
use Rattle.sf_core.specs.Program.Syntax.{Conjunct, holds, points, segment, doubly, tree, choose, Level, level, Conjuncts, none, also}

-- whether the operand has a known value
abbrev pub is_known : {E : Type 0} → (ℕ → Bool) → Operand E → Bool
is_known known (Known x) = true
is_known known (Exists n) = known n

-- whatever the conjunct takes from outside is known
abbrev pub IsSupplied : {E : Type 0} → (ℕ → Bool) → Conjunct E → Type 0
IsSupplied known c = (n : ℕ) → OccursInOne c (Exists n) → known n ≡ true

abbrev mutual
  -- the first conjunct can be taken, and once it is taken the others are in order
  pub InOrder : {E : Type 0} → (ℕ → Bool) → Conjuncts E → Type 0
  InOrder known none = Unit {0}
  InOrder known (also c cs) = IsNext known c × InOrder (known_after c known) cs

  -- a conjunct can be taken as it is: of a choice the branches are in order too. That one side of an equality
  -- is known is said by a test, so that it holds in one way where both are
  pub IsNext : {E : Type 0} → (ℕ → Bool) → Conjunct E → Type 0
  IsNext known (holds p True) = Unit {0}
  IsNext known (holds p (Equal x y)) = is_known known x || is_known known y ≡ true
  IsNext known (holds p (Differ x y)) = IsKnown known x × IsKnown known y
  IsNext known (points p x fs) = IsKnown known x
  IsNext known (segment p next x y) = IsKnown known x × IsKnown known y
  IsNext known (doubly p next back x b l y) = IsKnown known x × IsKnown known b × IsKnown known l
      × IsKnown known y
  IsNext known (tree p left right x) = IsKnown known x
  IsNext known (choose p t this that) = IsSupplied known (choose p t this that) × InOrderInside known this
      × InOrderInside known that

  -- a branch is in order from what is known around it
  pub InOrderInside : {E : Type 0} → (ℕ → Bool) → Level E → Type 0
  InOrderInside known (level made cs) = InOrder (known_inside made known) cs

-- a level is in order from the variables alone
abbrev pub IsInOrder : {E : Type 0} → Level E → Type 0
IsInOrder (level made cs) = InOrder (λ n. false) cs
