-- Contents taken out of slots, one after the other.
-- Names: `drain-LAW`.
use Rattle.std.specs.Prelude.{◌≡◌, ◌+◌, ◌≤◌, ℕ, zero, suc, List, [], ◌∷◌, ◌++◌, map, take, length, Option, Some, None}
use Rattle.std.proofs.Common.{sym, ap, ◌∙◌, refl, arith, add-one}
use Rattle.std.proofs.lemmas.List.{map-append, take_all}
use Rattle.std.proofs.lemmas.Option.{none-some, same_Some}
use mathlib.Core.Option.{some, some-injective, some-ne-none}
use lib.ListN.{get_elem?}
use Rattle.sf_part.specs.declared.content.Content.{Content}

abbrev first-or : {A : Type 0} → A → List A → A
first-or d [] = d
first-or d (x ∷ xs) = x

abbrev others-of : {A : Type 0} → List A → List A
others-of [] = []
others-of (x ∷ xs) = xs

take-one : {A : Type 0} (xs : List A) (i : ℕ) (a : A) → get_elem? xs i ≡ some a
    → take (suc i) xs ≡ take i xs ++ a ∷ []
take-one [] i a e = absurd (some-ne-none a (sym e))
take-one {A} (x ∷ xs) zero a e = λ i. some-injective x a e i ∷ []
take-one (x ∷ xs) (suc i) a e = ap (λ z. x ∷ z) (take-one xs i a e)

pub drain-more : (xs : List (Option Content)) (ys : List Content) (i : ℕ) (k : Content)
    → map Some ys ≡ take i xs → get_elem? xs i ≡ some (Some k)
    → map Some (ys ++ k ∷ []) ≡ take (i + 1) xs
drain-more xs ys i k e h = map-append Some ys (k ∷ []) ∙ (ap (λ z. z ++ Some k ∷ []) e
    ∙ (sym (take-one xs i (Some k) h) ∙ ap (λ n. take n xs) (sym (add-one i))))

pub drain-some : (cs : List Content) (i : ℕ) → get_elem? (map Some cs) i ≡ some None → ⊥
drain-some [] i e = some-ne-none None (sym e)
drain-some (x ∷ cs) zero e = none-some x (sym (some-injective (Some x) None e))
drain-some (x ∷ cs) (suc i) e = drain-some cs i e

pub drain-all : (xs : List (Option Content)) (ys : List Content) (i : ℕ) → length xs ≤ i
    → map Some ys ≡ take i xs → xs ≡ map Some ys
drain-all xs ys i le e = sym (take_all i xs le) ∙ sym e

-- the contents of a list of them are one list
pub drain-same : (xs ys : List Content) → map Some xs ≡ map Some ys → xs ≡ ys
drain-same [] [] e = refl
drain-same [] (y ∷ ys) e = absurd (let h = ap length e in omega arith)
drain-same (x ∷ xs) [] e = absurd (let h = ap length e in omega arith)
drain-same (x ∷ xs) (y ∷ ys) e =
    let first : x ≡ y = same_Some x y (ap (first-or (Some x)) e) in
    let rest = drain-same xs ys (ap others-of e) in λ i. first i ∷ rest i
