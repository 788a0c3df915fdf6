-- Cycles: the cycles of a relation, and which one comes first.
-- Ordinary: closed walks of a directed graph.
use Rattle.std.specs.Prelude.{◌≡◌, ◌<◌, ◌≤◌, ◌⊎◌, List, [], ◌∷◌, length}
use Rattle.sf_base.specs.declared.ids.ResId.{ResId}

-- each is related to the next one: x to the first of the list, if there is one, and the last to y
abbrev pub Leads : {A : Type 0} → (A → A → Type 0) → A → List A → A → Type 0
Leads R x [] y = R x y
Leads R x (z ∷ zs) y = R x z × Leads R z zs y

-- a cycle: each of them is related to the next one, and the last to the first
abbrev pub IsCycle : {A : Type 0} → (A → A → Type 0) → List A → Type 0
IsCycle R [] = ⊥
IsCycle R (x ∷ xs) = Leads R x xs x

-- at the first place where they differ, the one list has the resource that comes first in the file
abbrev pub IsNotAfter : List ResId → List ResId → Type 0
IsNotAfter [] ys = Unit {0}
IsNotAfter (x ∷ xs) [] = ⊥
IsNotAfter (x ∷ xs) (y ∷ ys) = (x.0 < y.0) ⊎ ((x ≡ y) × IsNotAfter xs ys)

-- the cycle that goes from x through xs back to x is the first one
pub record IsFirstFrom (R : ResId → ResId → Type 0) (x : ResId) (xs : List ResId) : Type 0 where
  pub cycle : IsCycle R (x ∷ xs)
  -- no resource that comes before x lies on any
  pub earliest : (y : ResId) (ys : List ResId) → IsCycle R (y ∷ ys) → x.0 ≤ y.0
  -- none through x is shorter
  pub shortest : (ys : List ResId) → IsCycle R (x ∷ ys) → length xs ≤ length ys
  -- and of those that are as short it comes first by file order of its resources
  pub first : (ys : List ResId) → IsCycle R (x ∷ ys) → length ys ≡ length xs → IsNotAfter xs ys

-- the resources are those of the first cycle
abbrev pub IsFirstCycle : (ResId → ResId → Type 0) → List ResId → Type 0
IsFirstCycle R [] = ⊥
IsFirstCycle R (x ∷ xs) = IsFirstFrom R x xs
