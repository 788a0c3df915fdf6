-- That a level is in order holds in one way at most, so that a type can keep the fact.
-- Ordinary: each part is an equation of tests, or a product of such.
use Rattle.std.specs.Prelude.{ℕ, Bool, false}
use Rattle.std.specs.Coded.{×_prop, Π_prop, →_prop, Unit-prop, Coded-set, coded_bool}
use Rattle.sf_core.specs.declared.assertion.Operand.{Operand}
use Rattle.sf_core.specs.declared.assertion.Operand.TheVariants.{Known, Exists}
use Rattle.sf_core.specs.declared.assertion.Test.TheVariants.{True, Equal, Differ}
use Rattle.sf_core.specs.Assertions.Determined.{IsKnown, known_after, known_inside}
use Rattle.sf_core.specs.Assertions.InOrder.{InOrder, InOrderInside, IsInOrder, IsNext, IsSupplied}
use Rattle.sf_core.specs.Program.Syntax.{Conjunct, holds, points, segment, doubly, tree, choose, Level, level, Conjuncts, none, also}

-- that an operand is known holds in one way
IsKnown-prop : {E : Type 0} (known : ℕ → Bool) (x : Operand E) → IsProp (IsKnown known x)
IsKnown-prop known (Known x) = Unit-prop
IsKnown-prop known (Exists n) = Coded-set coded_bool _ _

-- so does that whatever a conjunct takes from outside is known
IsSupplied-prop : {E : Type 0} (known : ℕ → Bool) (c : Conjunct E) → IsProp (IsSupplied known c)
IsSupplied-prop known c = Π_prop (λ n. →_prop (Coded-set coded_bool _ _))

mutual
  -- conjuncts are in order in one way
  InOrder-prop : {E : Type 0} (known : ℕ → Bool) (cs : Conjuncts E) → IsProp (InOrder known cs)
  InOrder-prop known none = Unit-prop
  InOrder-prop known (also c cs) = ×_prop (IsNext-prop known c) (InOrder-prop (known_after c known) cs)

  -- a conjunct can be taken as it is in one way
  IsNext-prop : {E : Type 0} (known : ℕ → Bool) (c : Conjunct E) → IsProp (IsNext known c)
  IsNext-prop known (holds p True) = Unit-prop
  IsNext-prop known (holds p (Equal x y)) = Coded-set coded_bool _ _
  IsNext-prop known (holds p (Differ x y)) = ×_prop (IsKnown-prop known x) (IsKnown-prop known y)
  IsNext-prop known (points p x fs) = IsKnown-prop known x
  IsNext-prop known (segment p next x y) = ×_prop (IsKnown-prop known x) (IsKnown-prop known y)
  IsNext-prop known (doubly p next back x b l y) = λ u v i. (
    IsKnown-prop known x u.0 v.0 i,
    IsKnown-prop known b u.1 v.1 i,
    IsKnown-prop known l u.2 v.2 i,
    IsKnown-prop known y u.3 v.3 i,
  )
  IsNext-prop known (tree p left right x) = IsKnown-prop known x
  IsNext-prop known (choose p t this that) = λ u v i. (
    IsSupplied-prop known (choose p t this that) u.0 v.0 i,
    InOrderInside-prop known this u.1 v.1 i,
    InOrderInside-prop known that u.2 v.2 i,
  )

  -- a branch is in order in one way
  InOrderInside-prop : {E : Type 0} (known : ℕ → Bool) (a : Level E) → IsProp (InOrderInside known a)
  InOrderInside-prop known (level made cs) = InOrder-prop (known_inside made known) cs

-- a level is in order in one way at most, so that a type can keep the fact
pub IsInOrder-prop : {E : Type 0} (a : Level E) → IsProp (IsInOrder a)
IsInOrder-prop (level made cs) = InOrder-prop (λ n. false) cs
