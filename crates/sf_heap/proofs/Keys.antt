-- Numbers as keys of finite maps: when two are one key, and maps that answer alike.
use Rattle.std.proofs.Common.{◌≡◌, ◌≢◌, ℕ, true, false, cond, None, sym, ap, ◌∙◌, inl, inr, arith}
use Rattle.std.specs.FinMap.{FinMap, get, remove, get-remove, same_map, nat_cmp-IsAntisymmetric}
use Rattle.std.specs.Ordering.{nat_cmp, eq_by_cmp}
use Rattle.std.proofs.lemmas.Bool.{cases_eq}
use Rattle.std.proofs.lemmas.Bool.Decides.{nat_tests}
use Rattle.std.proofs.lemmas.Cmp.{nat_cmp_total}

-- the branch at one key
pub at-same : {A : Type 0} (q k : ℕ) (x y : A) → q ≡ k → cond (eq_by_cmp nat_cmp q k) x y ≡ x
at-same q k x y e = ap (λ b. cond b x y) (same_key q k e)
  where
    same_key : (q k : ℕ) → q ≡ k → eq_by_cmp nat_cmp q k ≡ true
    same_key q k e = grind (arith, nat_tests)

-- the branch at different keys
pub at-other : {A : Type 0} (q k : ℕ) (x y : A) → q ≢ k → cond (eq_by_cmp nat_cmp q k) x y ≡ y
at-other q k x y e = ap (λ b. cond b x y) (other_key q k e)
  where
    other_key : (q k : ℕ) → q ≢ k → eq_by_cmp nat_cmp q k ≡ false
    other_key q k e = grind (arith, nat_tests)

-- two maps that answer alike are one
pub same_cells : {X : Type 0} (m n : FinMap nat_cmp X) → ((q : ℕ) → get m q ≡ get n q) → m ≡ n
same_cells m n same = same_map nat_cmp_total nat_cmp-IsAntisymmetric m n same

-- to take away what isn't there changes nothing
pub remove-absent : {X : Type 0} (m : FinMap nat_cmp X) (k : ℕ) → get m k ≡ None → remove m k ≡ m
remove-absent {X} m k none = same_cells (remove m k) m (λ q. get-remove nat_cmp_total m k q ∙ unchanged q)
  where
    unchanged : (q : ℕ) → cond (eq_by_cmp nat_cmp q k) None (get m q) ≡ get m q
    unchanged q = elim (cases_eq q k) [
      | inl same ↦ at-same q k _ _ same ∙ sym (ap (get m) same ∙ none)
      | inr other ↦ at-other q k _ _ other
    ]
