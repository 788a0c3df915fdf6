-- When there is a level for what begins with so many tokens left.
use Rattle.std.proofs.Common.{◌≡◌, ◌≤◌, ◌<◌, ℕ, zero, suc, true, false, refl, arith}
use Rattle.std.proofs.lemmas.Bool.Decides.{nat_tests}
use Rattle.sf_parse.specs.Nesting.{has_level, HasLevel}

-- where some levels are left there is one, and where none is there is none
pub some_level : (n left d : ℕ) → 0 < d → HasLevel n left d
some_level n left zero h = absurd (omega arith)
some_level n left (suc d) h = refl

pub no_level : (left : ℕ) → has_level 0 (suc left) 0 ≡ false
no_level left = grind (arith, nat_tests)

-- where it is free of the limit there is one
pub level_in : (n left d : ℕ) → left ≤ n → has_level n left d ≡ true
level_in n left zero h = grind (arith, nat_tests)
level_in n left (suc d) h = refl

-- where it is not, there is one only where there is one with nothing free
pub level_over : (n l left d : ℕ) → has_level 0 (suc l) d ≡ false → n < left → has_level n left d ≡ false
level_over n l left zero e h = grind (arith, nat_tests)
level_over n l left (suc d) e h = absurd cc

-- where there is one with nothing free, there always is
pub level_frees : (n l left d : ℕ) → has_level 0 (suc l) d ≡ true → has_level n left d ≡ true
level_frees n l left zero e = absurd (grind (arith, nat_tests))
level_frees n l left (suc d) e = refl

-- the more tokens are free of the limit, the more goes on
pub level_more : (n p left d : ℕ) → n ≤ p → has_level n left d ≡ true → has_level p left d ≡ true
level_more n p left zero h e = grind (arith, nat_tests)
level_more n p left (suc d) h e = refl
