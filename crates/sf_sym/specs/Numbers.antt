-- The numbers of a state's atoms: those that are there rise, those that were handed over have others, and all are below
-- the next one.
-- Ordinary: numbers in the order in which they were given.
use Rattle.std.specs.Prelude.{◌≢◌, ℕ, ◌<◌, List, [], ◌∷◌, map}
use Rattle.std.specs.List.{AllByRecursion}
use Rattle.sf_sym.specs.declared.atom.Numbered.{Numbered}

-- the numbers of atoms
abbrev pub numbers : List Numbered → List ℕ
numbers xs = map (λ a. a.number) xs

-- each number is below the later ones
abbrev pub AreRising : List ℕ → Type 0
AreRising [] = Unit {0}
AreRising (n ∷ ns) = AllByRecursion (λ m. n < m) ns × AreRising ns

-- each number differs from the later ones
abbrev pub AreDifferent : List ℕ → Type 0
AreDifferent [] = Unit {0}
AreDifferent (n ∷ ns) = AllByRecursion (λ m. m ≢ n) ns × AreDifferent ns

-- AreNumbered: the numbers of the atoms, of the taken ones, and the next one
pub record AreNumbered (atoms taken : List ℕ) (next : ℕ) : Type 0 where
  -- the atoms are in the order of their numbers
  pub rising : AreRising atoms
  -- no taken atom has the number of another one
  pub different : AreDifferent taken
  -- or of an atom that is still there
  pub apart : AllByRecursion (λ n. AllByRecursion (λ m. m ≢ n) taken) atoms
  -- and the next number is above all
  pub below : AllByRecursion (λ n. n < next) atoms
  pub taken_below : AllByRecursion (λ n. n < next) taken
