-- Determined assertions: the conjuncts have an order in which each is found in a heap from what is known before it.
-- This project's own notion; a determined assertion is precise in the sense of O'Hearn, Yang, Reynolds (2004).
use Rattle.std.specs.Prelude.{◌≡◌, ◌⊎◌, ℕ, Bool, true, false, not, ◌&&◌, ◌||◌, ◌==◌, List, [], ◌∷◌}
use Rattle.sf_base.specs.declared.ids.FieldId.{FieldId}
use Rattle.sf_base.specs.declared.place.Place.{Place}
use Rattle.sf_core.specs.declared.assertion.Operand.{Operand}
use Rattle.sf_core.specs.declared.assertion.Operand.TheVariants.{Known, Exists}
use Rattle.sf_core.specs.declared.assertion.Scope.{Scope}
use Rattle.sf_core.specs.declared.assertion.Test.{Test}
use Rattle.sf_core.specs.declared.assertion.Test.TheVariants.{True, Equal, Differ}
use Rattle.sf_core.specs.Assertions.Occurs.{OccursInOne}
use Rattle.sf_core.specs.Assertions.Scopes.{is_made_by}
use Rattle.sf_core.specs.Program.Syntax.{Conjunct, holds, points, segment, doubly, tree, choose, Level, level, Conjuncts, none, also}

-- the operand has a known value: it is no existential, or one that is known
abbrev pub IsKnown : {E : Type 0} → (ℕ → Bool) → Operand E → Type 0
IsKnown known (Known x) = Unit {0}
IsKnown known (Exists n) = known n ≡ true

-- the operand is that existential
abbrev pub is_existential : {E : Type 0} → ℕ → Operand E → Bool
is_existential n (Known x) = false
is_existential n (Exists m) = m == n

-- the existential is the value of one of the fields
abbrev pub is_in_fields : {E : Type 0} → ℕ → List (FieldId × Operand E) → Bool
is_in_fields n [] = false
is_in_fields n (f ∷ fs) = is_existential n f.1 || is_in_fields n fs

-- the existential becomes known where the conjunct is taken: it is a side of an equality, or the value of a
-- cell's field
abbrev pub is_learned : {E : Type 0} → Conjunct E → ℕ → Bool
is_learned (holds p (Equal x y)) n = is_existential n x || is_existential n y
is_learned (points p x fs) n = is_in_fields n fs
is_learned _ n = false

-- the existential becomes known where one of these conjuncts is taken
abbrev pub is_learned_in : {E : Type 0} → Conjuncts E → ℕ → Bool
is_learned_in none n = false
is_learned_in (also c cs) n = is_learned c n || is_learned_in cs n

-- what is known once the conjunct is taken
abbrev pub known_after : {E : Type 0} → Conjunct E → (ℕ → Bool) → ℕ → Bool
known_after c known n = known n || is_learned c n

-- what is known inside a level of what is known outside: not the existentials that are made there
abbrev pub known_inside : Scope → (ℕ → Bool) → ℕ → Bool
known_inside made known n = known n && not (is_made_by made n)

-- a conjunct without branches can be taken: of an equality one side is known, the other being known too or an
-- existential;
-- of a difference and a segment both sides are, of a doubly linked one all four, of a tree its root, of a cell
-- its location
abbrev pub IsReady : {E : Type 0} → (ℕ → Bool) → Conjunct E → Type 0
IsReady known (holds p True) = Unit {0}
IsReady known (holds p (Equal x y)) = IsKnown known x ⊎ IsKnown known y
IsReady known (holds p (Differ x y)) = IsKnown known x × IsKnown known y
IsReady known (points p x fs) = IsKnown known x
IsReady known (segment p next x y) = IsKnown known x × IsKnown known y
IsReady known (doubly p next back x b l y) = IsKnown known x × IsKnown known b × IsKnown known l × IsKnown known y
IsReady known (tree p left right x) = IsKnown known x
IsReady known (choose p t this that) = ⊥

-- the conjunct is one of these, and those are the others in their order
abbrev pub Leaves : {E : Type 0} → Conjuncts E → Conjunct E → Conjuncts E → Type 0
Leaves none c rest = ⊥
Leaves (also d ds) c rest = ((d ≡ c) × (ds ≡ rest))
    ⊎ ((others : Conjuncts _) × Leaves ds c others × (rest ≡ also d others))

mutual
  -- the conjuncts have an order: one of them is ready, and once it is taken the others have one
  pub data HasOrder {E : Type 0} : (ℕ → Bool) → Conjuncts E → Type 0 where
    all_taken : {known : ℕ → Bool} {cs : Conjuncts E} → cs ≡ none → HasOrder known cs
    take : {known : ℕ → Bool} {cs : Conjuncts E} (c : Conjunct E) (rest : Conjuncts E) → Leaves cs c rest
        → CanBeTaken known c → HasOrder (known_after c known) rest → HasOrder known cs

  -- a conjunct is ready; a choice is, where all that its test and its branches take from outside is known and
  -- both branches have an order from there
  pub data CanBeTaken {E : Type 0} : (ℕ → Bool) → Conjunct E → Type 0 where
    plain : {known : ℕ → Bool} {c : Conjunct E} → IsReady known c → CanBeTaken known c
    branches : {known : ℕ → Bool} {c : Conjunct E} (p : Place) (t : Test (Operand E)) (made other : Scope)
        (this that : Conjuncts E) → c ≡ choose p t (level made this) (level other that)
        → ((n : ℕ) → OccursInOne c (Exists n) → known n ≡ true) → HasOrder (known_inside made known) this
        → HasOrder (known_inside other known) that → CanBeTaken known c

-- a level is determined: its conjuncts have an order from the variables alone
abbrev pub Determined : {E : Type 0} → Level E → Type 0
Determined (level made cs) = HasOrder (λ n. false) cs
