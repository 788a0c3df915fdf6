-- The variables of a first state: symbols for parameters and nils for locals are in order, and each of them has a term.
-- Names: `LIST-all` of what is so of each variable, `LIST-order`, `LIST-listed`.
use Rattle.std.specs.List.{AllByRecursion}
use Rattle.std.proofs.Common.{◌≡◌, ℕ, zero, suc, ◌+◌, ◌<◌, ◌≤◌, Bool, true, false, ◌||◌, ◌++◌, refl, subst, arith}
use Rattle.std.proofs.lemmas.Bool.{or_left, or_right}
use Rattle.std.proofs.lemmas.Bool.Decides.{nat_tests}
use Rattle.sf_base.proofs.Elements.{all_by-append}
use Rattle.sf_base.specs.declared.ids.Var.{Var}
use Rattle.sf_base.specs.declared.ids.Var.TheVariants.{Own}
use Rattle.sf_base.specs.Variables.{same_var}
use Rattle.sf_rules.specs.First.{nils, symbols}
use Rattle.sf_sym.specs.declared.term.Term.{Term}
use Rattle.sf_sym.specs.declared.term.Term.TheVariants.{Nil, Sym}
use Rattle.sf_sym.specs.Ready.{is_listed}
use Rattle.sf_sym.specs.Variables.{AreInOrder, comes_before}

-- OWN VARIABLES
module _ (P : Var × Term → Type 0) where
  pub symbols-all : (from count : ℕ) → ((i : ℕ) → from ≤ i → i < from + count → P (Own i, Sym i))
      → AllByRecursion P (symbols from count)
  symbols-all from zero h = tt
  symbols-all from (suc count) h = (
    h from (omega arith) (omega arith),
    symbols-all (suc from) count (λ i a b. h i (omega (arith, a)) (omega (arith, b))),
  )

  pub nils-all : (from count : ℕ) → ((i : ℕ) → from ≤ i → i < from + count → P (Own i, Nil))
      → AllByRecursion P (nils from count)
  nils-all from zero h = tt
  nils-all from (suc count) h = (
    h from (omega arith) (omega arith),
    nils-all (suc from) count (λ i a b. h i (omega (arith, a)) (omega (arith, b))),
  )

-- in order
own-before : (i j : ℕ) → i < j → comes_before (Own i) (Own j) ≡ true
own-before i j l = grind (arith, nat_tests, l)

nils-order : (from count : ℕ) → AreInOrder (nils from count)
nils-order from zero = tt
nils-order from (suc count) = (
  nils-all (λ (v : Var × Term). comes_before (Own from) v.0 ≡ true) (suc from) count
      (λ i a b. own-before from i (omega (arith, a))),
  nils-order (suc from) count,
)

pub symbols-order : (from count rest : ℕ) → AreInOrder (symbols from count ++ nils (from + count) rest)
symbols-order from zero rest = nils-order (from + 0) rest
symbols-order from (suc count) rest = (
  all_by-append (λ (v : Var × Term). comes_before (Own from) v.0 ≡ true) (symbols (suc from) count)
      (nils (from + suc count) rest)
      (symbols-all (λ (v : Var × Term). comes_before (Own from) v.0 ≡ true) (suc from) count
      (λ i a b. own-before from i (omega (arith, a))))
      (nils-all (λ (v : Var × Term). comes_before (Own from) v.0 ≡ true) (from + suc count) rest
      (λ i a b. own-before from i (omega (arith, a)))),
  subst (λ k. AreInOrder (symbols (suc from) count ++ nils k rest))
      (let e : suc from + count ≡ from + suc count = omega arith in e) (symbols-order (suc from) count rest),
)

-- each of them has a term
nils-listed : (from count i : ℕ) → from ≤ i → i < from + count → is_listed (nils from count) (Own i) ≡ true
nils-listed from zero i a b = absurd (omega (arith, a, b))
nils-listed from (suc count) i a b =
    go (same_var (Own from) (Own i)) refl (λ n. nils-listed (suc from) count i n (omega (arith, b)))
  where
    go : (c : Bool) → same_var (Own from) (Own i) ≡ c
        → (suc from ≤ i → is_listed (nils (suc from) count) (Own i) ≡ true)
        → same_var (Own from) (Own i) || is_listed (nils (suc from) count) (Own i) ≡ true
    go true e r = or_left (same_var (Own from) (Own i)) (is_listed (nils (suc from) count) (Own i)) e
    go false e r = or_right (same_var (Own from) (Own i)) (is_listed (nils (suc from) count) (Own i))
        (r (let n : suc from ≤ i = grind (arith, nat_tests) in n))

pub own-listed : (from count rest i : ℕ) → from ≤ i → i < from + count + rest
    → is_listed (symbols from count ++ nils (from + count) rest) (Own i) ≡ true
own-listed from zero rest i a b = nils-listed (from + 0) rest i (omega (arith, a)) (omega (arith, b))
own-listed from (suc count) rest i a b =
    go (same_var (Own from) (Own i)) refl (λ n. subst
    (λ k. is_listed (symbols (suc from) count ++ nils k rest) (Own i) ≡ true)
    (let e : suc from + count ≡ from + suc count = omega arith in e)
    (own-listed (suc from) count rest i n (omega (arith, b))))
  where
    go : (c : Bool) → same_var (Own from) (Own i) ≡ c
        → (suc from ≤ i → is_listed (symbols (suc from) count ++ nils (from + suc count) rest) (Own i) ≡ true)
        → same_var (Own from) (Own i) || is_listed (symbols (suc from) count ++ nils (from + suc count) rest) (Own i)
        ≡ true
    go true e r = or_left (same_var (Own from) (Own i)) _ e
    go false e r = or_right (same_var (Own from) (Own i))
        (is_listed (symbols (suc from) count ++ nils (from + suc count) rest) (Own i))
        (r (let n : suc from ≤ i = grind (arith, nat_tests) in n))
