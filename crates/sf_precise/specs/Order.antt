-- Order: the order of conjuncts that takes the first ready one, in text order, again and again, inside
-- branches too.
-- This project's own choice among the orders that Determined allows.
use Rattle.std.specs.Prelude.{◌≡◌, ◌⊎◌, ℕ, Bool, false}
use Rattle.sf_core.specs.Assertions.Determined.{CanBeTaken, Determined, known_after, known_inside}
use Rattle.sf_core.specs.Program.Syntax.{Conjunct, holds, points, segment, doubly, tree, choose, Level, level, Conjuncts, none, also, Assertion}

-- the conjunct is the first of these that can be taken, and those are the others
abbrev pub IsFirstReady : {E : Type 0} → (ℕ → Bool) → Conjuncts E → Conjunct E → Conjuncts E → Type 0
IsFirstReady known none c rest = ⊥
IsFirstReady known (also d ds) c rest =
    (CanBeTaken known d × (d ≡ c) × (ds ≡ rest))
    ⊎ ((CanBeTaken known d → ⊥) × ((others : Conjuncts _) × IsFirstReady known ds c others
    × (rest ≡ also d others)))

abbrev mutual
  -- the conjuncts os are these in order: the first ready one, and then the others in order
  pub IsOrder : {E : Type 0} → (ℕ → Bool) → (cs os : Conjuncts E) → Type 0
  IsOrder known cs none = cs ≡ none
  IsOrder known cs (also o os) =
      (c : Conjunct _) × (rest : Conjuncts _) × IsFirstReady known cs c rest × IsOrderWithin known c o
      × IsOrder (known_after c known) rest os

  -- one conjunct, and its branches in order
  pub IsOrderWithin : {E : Type 0} → (ℕ → Bool) → (c o : Conjunct E) → Type 0
  IsOrderWithin known c (holds p t) = c ≡ holds p t
  IsOrderWithin known c (points p x fs) = c ≡ points p x fs
  IsOrderWithin known c (segment p next x y) = c ≡ segment p next x y
  IsOrderWithin known c (doubly p next back x b z y) = c ≡ doubly p next back x b z y
  IsOrderWithin known c (tree p left right x) = c ≡ tree p left right x
  IsOrderWithin {E} known c (choose p t this that) =
      (these those : Level E) × (c ≡ choose p t these those) × IsOrderInside known these this
      × IsOrderInside known those that

  -- a branch in order, from what is known around it
  pub IsOrderInside : {E : Type 0} → (ℕ → Bool) → (a o : Level E) → Type 0
  IsOrderInside {E} known a (level made os) =
      (cs : Conjuncts E) × (a ≡ level made cs) × IsOrder (known_inside made known) cs os

-- a level in order, from what is known inside it
abbrev pub IsOrderFrom : {E : Type 0} → (ℕ → Bool) → (a o : Level E) → Type 0
IsOrderFrom {E} known a (level made os) = (cs : Conjuncts E) × (a ≡ level made cs) × IsOrder known cs os

-- a level in order, from the variables alone
abbrev pub IsOrderOfLevel : {E : Type 0} → (a o : Level E) → Type 0
IsOrderOfLevel a o = IsOrderFrom (λ n. false) a o

-- an assertion in order: its level in order, and the names of its existentials
pub record IsOrderOf (a o : Assertion) : Type 0 where
  pub names : o.names ≡ a.names
  pub level : IsOrderOfLevel a.level o.level

-- the function puts each assertion that has an order in that order, and leaves one that isn't determined as it is
pub record IsOrdering (in_order : Assertion → Assertion) : Type 0 where
  pub ordered : (a o : Assertion) → IsOrderOf a o → in_order a ≡ o
  pub kept : (a : Assertion) → ¬ Determined a.level → in_order a ≡ a
