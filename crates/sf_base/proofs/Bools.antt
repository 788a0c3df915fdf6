-- Truth values: what holds of the sides of `&&` and `||`, and of a choice by a test.
-- Names: `WORD-LAW`, where WORD is `and`, `or`, `or_three`, `not`, `cond`, `bool` or `decides`; `left`
-- and `right` are the sides.
-- Std has `and_parts`, `and_from`, `or_cases`, `or_parts`, `or_from`, `or_left`, `or_right`, `not-true`
-- in lemmas.Bool.
use Rattle.std.specs.Prelude.{◌≡◌, ◌⊎◌, Bool, true, false, not, ◌&&◌, ◌||◌, cond}
use Rattle.std.specs.Bool.{Decides}
use Rattle.std.proofs.Common.{inl, inr, refl, sym}

-- two tests that imply each other are one
pub bool-same : (a b : Bool) → (a ≡ true → b ≡ true) → (b ≡ true → a ≡ true) → a ≡ b
bool-same true b f g = sym (f refl)
bool-same false true f g = g refl
bool-same false false f g = refl

-- of a true conjunction the left side is true
pub and-left : (a b : Bool) → a && b ≡ true → a ≡ true
and-left true b e = refl
and-left false b e = e

-- and so is the right side
pub and-right : (a b : Bool) → a && b ≡ true → b ≡ true
and-right true b e = e
and-right false b e = absurd (cc)

-- of a false conjunction whose left side is true the right side is false
pub and-not_right : (a b : Bool) → a && b ≡ false → a ≡ true → b ≡ false
and-not_right true b e h = e
and-not_right false b e h = absurd (cc)

-- of a true conjunction with a negation the left side is true, and the right one false
pub and-not_parts : (a b : Bool) → (a && not b) ≡ true → (a ≡ true) × (b ≡ false)
and-not_parts true true e = absurd (cc)
and-not_parts true false e = (refl, refl)
and-not_parts false b e = absurd (cc)

-- the last two of three conjuncts change places
pub and-right_comm : (a b c : Bool) → (a && b) && c ≡ (a && c) && b
and-right_comm true true true = refl
and-right_comm true true false = refl
and-right_comm true false true = refl
and-right_comm true false false = refl
and-right_comm false b c = refl

-- a test and its negation aren't both true
pub not-both : (a : Bool) → a ≡ true → not a ≡ true → ⊥
not-both true p q = absurd (cc)
not-both false p q = absurd (cc)

-- a true disjunction whose left side is false has a true right side
pub or-not_left : (a b : Bool) → a ≡ false → a || b ≡ true → b ≡ true
or-not_left true b h e = absurd (cc)
or-not_left false b h e = e

-- a true disjunction whose right side is false has a true left side
pub or-not_right : (a b : Bool) → b ≡ false → a || b ≡ true → a ≡ true
or-not_right true b h e = refl
or-not_right false b h e = absurd (cc)

-- the first two of three disjuncts change places
pub or-left_comm : (a b c : Bool) → a || (b || c) ≡ b || (a || c)
or-left_comm true true c = refl
or-left_comm true false c = refl
or-left_comm false b c = refl

-- of two disjunctions the sides change places
pub or-or_comm : (a b c d : Bool) → (a || b) || (c || d) ≡ (a || c) || (b || d)
or-or_comm true b true d = refl
or-or_comm true b false d = refl
or-or_comm false true true d = refl
or-or_comm false true false d = refl
or-or_comm false false true d = refl
or-or_comm false false false d = refl

-- three disjuncts: false where all are
pub or_three-from : (a b c : Bool) → a ≡ false → b ≡ false → c ≡ false → a || b || c ≡ false
or_three-from true b c e f g = absurd (cc)
or_three-from false true c e f g = absurd (cc)
or_three-from false false c e f g = g

-- of a false disjunction of three each is false
pub or_three-parts : (a b c : Bool) → a || b || c ≡ false → (a ≡ false) × (b ≡ false) × (c ≡ false)
or_three-parts true b c e = absurd (cc)
or_three-parts false true c e = absurd (cc)
or_three-parts false false c e = (refl, refl, e)

-- true where the second is
pub or_three-second : (a b c : Bool) → b ≡ true → a || b || c ≡ true
or_three-second true b c e = refl
or_three-second false true c e = refl
or_three-second false false c e = absurd (cc)

-- true where the third is
pub or_three-third : (a b c : Bool) → c ≡ true → a || b || c ≡ true
or_three-third true b c e = refl
or_three-third false true c e = refl
or_three-third false false c e = e

-- of a true disjunction of three one is true
pub or_three-cases : {P : Type 0} (a b c : Bool) → a || b || c ≡ true → (a ≡ true → P) → (b ≡ true → P)
    → (c ≡ true → P) → P
or_three-cases true b c e f g h = f refl
or_three-cases false true c e f g h = g refl
or_three-cases false false c e f g h = h e

-- two choices by one test agree where their first values do, and their second ones unless the test is true
pub cond-agree : {X : Type 0} (b : Bool) (x y v w : X) → x ≡ y → (b ≡ true) ⊎ (v ≡ w)
    → cond b x v ≡ cond b y w
cond-agree true x y v w e h = e
cond-agree false x y v w e (inl t) = absurd (cc)
cond-agree false x y v w e (inr h) = h

-- where the test isn't true the second value is chosen
pub cond-else : {X : Type 0} (b : Bool) (x y : X) → (b ≡ true → ⊥) → cond b x y ≡ y
cond-else true x y n = absurd (n refl)
cond-else false x y n = refl

-- `false` decides what never holds
pub decides-false : Decides false ⊥
decides-false = (λ e. absurd (cc), λ h. absurd h)
