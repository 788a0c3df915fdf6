-- The variables of a procedure and of resources: variables that are in reach, each taken once, are few.
-- Names: `WHAT-has` of lists of all of them, `WHAT-length` of how long those are, `few-LAW`.
use Rattle.std.specs.Cmp.{IsEquivalence}
use Rattle.std.specs.List.{AllByRecursion, AllPairs, Contains, IsDistinct, slice_get, sum_by}
use Rattle.std.proofs.Common.{◌≡◌, ℕ, zero, suc, ◌+◌, ◌<◌, ◌≤◌, Bool, true, false, List, [], ◌∷◌, ◌++◌, length, refl, sym, ap, ◌∙◌, subst, arith, inl, inr, length-append}
use Rattle.std.proofs.lemmas.List.Elements.{Contains-append_left, Contains-append_right}
use Rattle.std.proofs.lemmas.List.Sums.{sum_by-cons}
use Rattle.std.proofs.lemmas.Map.Keys.{IsDistinct-cons, IsDistinct-from_apart, IsDistinct-head, IsDistinct-tail}
use Rattle.std.proofs.lemmas.Map.Made.{is_member-Decides, length-le_from_is_member}
use Rattle.sf_base.proofs.Bools.{bool-same}
use Rattle.sf_base.proofs.Elements.{all_by-append, contains-cons}
use Rattle.sf_base.proofs.Variables.{same_var-decides}
use Rattle.sf_base.specs.declared.ids.ResId.{ResId}
use Rattle.sf_base.specs.declared.ids.Var.{Var}
use Rattle.sf_base.specs.declared.ids.Var.TheVariants.{Own, Shared}
use Rattle.sf_base.specs.Variables.{same_var}
use Rattle.sf_core.specs.Program.Formed.{variable_count}
use Rattle.sf_core.specs.Program.Syntax.{Program, Resource}
use Rattle.sf_calls.specs.FirstBreach.{shared_from, variables_from}
use Rattle.sf_calls.specs.Sets.{IsEarlier}

-- DIFFERENT VARIABLES
same_var-from : (x y : Var) → x ≡ y → same_var x y ≡ true
same_var-from x y e = (same_var-decides x y).1 e

same_var-is : (x y : Var) → same_var x y ≡ true → x ≡ y
same_var-is x y e = (same_var-decides x y).0 e

same_var-laws : IsEquivalence same_var
same_var-laws = record {
  refl = λ x. same_var-from x x refl;
  symm = λ x y. bool-same (same_var x y) (same_var y x) (λ e. same_var-from y x (sym (same_var-is x y e)))
      (λ e. same_var-from x y (sym (same_var-is y x e)));
  congr = λ x y z e. ap (λ (v : Var). same_var v z) (same_var-is x y e);
}

-- a variable isn't before itself
earlier-self : (x : Var) → IsEarlier x x → ⊥
earlier-self (Own n) e = let l : n < n = e in omega arith
earlier-self (Shared r i) (inl e) = let l : r.0 < r.0 = e in omega arith
earlier-self (Shared r i) (inr e) = let l : i < i = e.1 in omega arith

earlier-apart : (x y : Var) → IsEarlier x y → same_var x y ≡ false
earlier-apart x y e = go (same_var x y) refl
  where
    go : (b : Bool) → same_var x y ≡ b → b ≡ false
    go true i = absurd (earlier-self x (subst (λ z. IsEarlier x z) (sym (same_var-is x y i)) e))
    go false i = refl

-- variables in order are different ones
pub distinct-ordered : (xs : List Var) → AllPairs IsEarlier xs → IsDistinct same_var xs
distinct-ordered xs o = IsDistinct-from_apart same_var xs (λ i j d l b. earlier-apart _ _ (o i j d l b))

-- so are those of two lists that share none
pub distinct-append : (xs ys : List Var) → IsDistinct same_var xs → IsDistinct same_var ys
    → ((x : Var) → Contains xs x → Contains ys x → ⊥) → IsDistinct same_var (xs ++ ys)
distinct-append [] ys a b apart = b
distinct-append (x ∷ xs) ys a b apart =
    IsDistinct-cons same_var x (xs ++ ys)
    (all_by-append (λ (y : Var). same_var x y ≡ false) xs ys (IsDistinct-head same_var x xs a) (others ys (λ y c. c)))
    (distinct-append xs ys (IsDistinct-tail same_var x xs a) b
    (λ y c d. apart y ((contains-cons x xs y).1 (inr c)) d))
  where
    others : (zs : List Var) → ((y : Var) → Contains zs y → Contains ys y)
        → AllByRecursion (λ (y : Var). same_var x y ≡ false) zs
    others [] among = tt
    others (z ∷ zs) among = (
      go (same_var x z) refl,
      others zs (λ y c. among y ((contains-cons z zs y).1 (inr c))),
    )
      where
        go : (b : Bool) → same_var x z ≡ b → b ≡ false
        go true i = absurd (apart z ((contains-cons x xs z).1 (inl (same_var-is x z i)))
            (among z ((contains-cons z zs z).1 (inl refl))))
        go false i = refl

-- ALL VARIABLES
-- so many own ones, from that number on
abbrev own_from : (from count : ℕ) → List Var
own_from from zero = []
own_from from (suc count) = Own from ∷ own_from (suc from) count

own-has : (count from n : ℕ) → n < count → Contains (own_from from count) (Own (from + n))
own-has zero from n l = absurd (omega (arith, l))
own-has (suc count) from zero l =
    (contains-cons (Own from) (own_from (suc from) count) (Own (from + 0))).1
    (inl (ap Own (let e : from ≡ from + 0 = omega arith in e)))
own-has (suc count) from (suc n) l =
    (contains-cons (Own from) (own_from (suc from) count) (Own (from + suc n))).1
    (inr (subst (λ m. Contains (own_from (suc from) count) (Own m))
    (let e : suc from + n ≡ from + suc n = omega arith in e) (own-has count (suc from) n (omega (arith, l)))))

own-length : (count from : ℕ) → length (own_from from count) ≡ count
own-length zero from = refl
own-length (suc count) from = ap suc (own-length count (suc from))

pub shared-has : (r : ResId) (names : List (List ℕ)) (from n : ℕ) → n < length names
    → Contains (shared_from r from names) (Shared r (from + n))
shared-has r [] from n l = absurd (omega (arith, l))
shared-has r (x ∷ xs) from zero l =
    (contains-cons (Shared r from) (shared_from r (suc from) xs) (Shared r (from + 0))).1
    (inl (ap (λ i. Shared r i) (let e : from ≡ from + 0 = omega arith in e)))
shared-has r (x ∷ xs) from (suc n) l =
    (contains-cons (Shared r from) (shared_from r (suc from) xs) (Shared r (from + suc n))).1
    (inr (subst (λ m. Contains (shared_from r (suc from) xs) (Shared r m))
    (let e : suc from + n ≡ from + suc n = omega arith in e) (shared-has r xs (suc from) n (omega (arith, l)))))

shared-length : (r : ResId) (names : List (List ℕ)) (from : ℕ) → length (shared_from r from names) ≡ length names
shared-length r [] from = refl
shared-length r (x ∷ xs) from = ap suc (shared-length r xs (suc from))

variables-has : (rs : List Resource) (from q i : ℕ) → i < variable_count (slice_get rs q)
    → Contains (variables_from from rs) (Shared (record { 0 = from + q }) i)
variables-has [] from q i l = absurd (omega (arith, l))
variables-has (r ∷ rs) from zero i l =
    Contains-append_left (shared_from (record { 0 = from }) 0 r.variables) (variables_from (suc from) rs)
    (Shared (record { 0 = from + 0 }) i)
    (subst (λ (x : Var). Contains (shared_from (record { 0 = from }) 0 r.variables) x)
    (ap (λ m. Shared (record { 0 = from }) m) (let e : 0 + i ≡ i = omega arith in e)
    ∙ ap (λ m. Shared (record { 0 = m }) i) (let e : from ≡ from + 0 = omega arith in e))
    (shared-has (record { 0 = from }) r.variables 0 i l))
variables-has (r ∷ rs) from (suc q) i l =
    Contains-append_right (shared_from (record { 0 = from }) 0 r.variables) (variables_from (suc from) rs)
    (Shared (record { 0 = from + suc q }) i)
    (subst (λ m. Contains (variables_from (suc from) rs) (Shared (record { 0 = m }) i))
    (let e : suc from + q ≡ from + suc q = omega arith in e) (variables-has rs (suc from) q i l))

variables-length : (rs : List Resource) (from : ℕ)
    → length (variables_from from rs) ≡ sum_by (λ (r : Resource). length r.variables) rs
variables-length [] from = refl
variables-length (r ∷ rs) from =
    length-append (shared_from (record { 0 = from }) 0 r.variables) (variables_from (suc from) rs)
    ∙ ap (λ m. m + length (variables_from (suc from) rs)) (shared-length (record { 0 = from }) r.variables 0)
    ∙ ap (λ m. length r.variables + m) (variables-length rs (suc from))
    ∙ sym (sum_by-cons (λ (s : Resource). length s.variables) r rs)

module _ (p : Program) where
  -- the variable is one of so many own ones, or one of a resource
  abbrev pub IsInReach : (own : ℕ) → Var → Type 0
  IsInReach own (Own n) = n < own
  IsInReach own (Shared r i) = i < variable_count (slice_get p.resources r.0)

  all_in_reach : ℕ → List Var
  all_in_reach own = own_from 0 own ++ variables_from 0 p.resources

  all-has : (own : ℕ) (x : Var) → IsInReach own x → Contains (all_in_reach own) x
  unfolding all_in_reach
  all-has own (Own n) l =
      Contains-append_left (own_from 0 own) (variables_from 0 p.resources) (Own n)
      (subst (λ m. Contains (own_from 0 own) (Own m)) (let e : 0 + n ≡ n = omega arith in e) (own-has own 0 n l))
  all-has own (Shared r i) l =
      Contains-append_right (own_from 0 own) (variables_from 0 p.resources) (Shared r i)
      (subst (λ m. Contains (variables_from 0 p.resources) (Shared (record { 0 = m }) i))
      (let e : 0 + r.0 ≡ r.0 = omega arith in e) (variables-has p.resources 0 r.0 i l))

  all-length : (own : ℕ)
      → length (all_in_reach own) ≡ own + sum_by (λ (r : Resource). length r.variables) p.resources
  unfolding all_in_reach
  all-length own =
      length-append (own_from 0 own) (variables_from 0 p.resources)
      ∙ ap (λ m. m + length (variables_from 0 p.resources)) (own-length own 0)
      ∙ ap (λ m. own + m) (variables-length p.resources 0)

  -- different variables that are in reach
  pub few-in_reach : (own : ℕ) (xs : List Var) → IsDistinct same_var xs
      → ((x : Var) → Contains xs x → IsInReach own x)
      → length xs ≤ own + sum_by (λ (r : Resource). length r.variables) p.resources
  few-in_reach own xs distinct reach =
      subst (λ m. length xs ≤ m) (all-length own)
      (length-le_from_is_member same_var-laws xs (all_in_reach own) distinct
      (λ q e. (is_member-Decides same_var-decides (all_in_reach own) q).1
      (all-has own q (reach q ((is_member-Decides same_var-decides xs q).0 e)))))
