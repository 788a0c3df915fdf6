-- Numbers: the larger of two, and what tests and comparisons of numbers say.
-- Names: `WORD-LAW`, where WORD is `max`, `one`, `eqb`, `at` (a number that is searched for in an order)
-- or `gt`.
-- Std has `max-le` in Math.Nat, `eqb-true`, `ne_eqb`, `ltb-true`, `le-leb`, `cases_lt`, `cases_eq` in
-- lemmas.Bool.
use Rattle.std.specs.Prelude.{◌≡◌, ◌≢◌, ℕ, ◌<◌, ◌≤◌, ◌==◌, true, false}
use Rattle.std.specs.BTreeMap.{is_at}
use Rattle.std.specs.Ordering.{nat_cmp, is_gt}
use Rattle.std.proofs.Common.{arith, refl, max}
use Rattle.std.proofs.lemmas.Bool.Decides.{nat_tests}

-- what bounds the larger of two bounds each
pub max-left : (a b n : ℕ) → max a b ≤ n → a ≤ n
max-left a b n h = omega arith

pub max-right : (a b n : ℕ) → max a b ≤ n → b ≤ n
max-right a b n h = omega arith

-- one isn't zero
pub one-not_zero : (n : ℕ) → n ≡ 1 → (n == 0) ≡ false
one-not_zero n e = rw e refl

-- a number isn't a smaller one
pub eqb-greater : (m n : ℕ) → m < n → n == m ≡ false
eqb-greater m n d = grind (arith, nat_tests)

-- a number isn't a larger one
pub eqb-less : (m n : ℕ) → m < n → m == n ≡ false
eqb-less m n d = grind (arith, nat_tests)

-- the place of a number in an order of numbers is where it is
pub at-is : (m n : ℕ) → is_at (nat_cmp m) n ≡ (m == n)
at-is m n = grind (arith, nat_tests)

pub at-self : (n : ℕ) → is_at (nat_cmp n) n ≡ true
at-self n = grind (arith, nat_tests)

pub at-other : (m n : ℕ) → m ≢ n → is_at (nat_cmp m) n ≡ false
at-other m n e = grind (arith, nat_tests)

-- what isn't greater isn't after
pub gt-false : (m n : ℕ) → is_gt (nat_cmp m n) ≡ false → n < m → ⊥
gt-false m n e h = grind (arith, nat_tests)
