-- The first variables of a procedure and the numbers of its fields.
use Rattle.std.proofs.Common.{◌≡◌, ℕ, zero, suc, ◌+◌, ◌-◌, ◌<◌, ◌≤◌, nat_lt, append_assoc, Bool, true, false, cond, Option, Some, None, List, [], ◌∷◌, ◌++◌, refl, sym, subst, ap, ◌∙◌, arith}
use Rattle.std.specs.Option.{option_map}
use Rattle.std.specs.Str.{bytes_eq}
use Rattle.std.proofs.lemmas.Slice.Eq.{bytes_eq-Decides}
use Rattle.sf_base.specs.declared.ids.FieldId.{FieldId}
use Rattle.sf_base.specs.declared.ids.Var.{Var}
use Rattle.sf_base.specs.declared.ids.Var.TheVariants.{Own}
use Rattle.sf_core.specs.Program.Named.{IsFirstNamed}
use Rattle.sf_sym.specs.declared.term.Term.{Term}
use Rattle.sf_sym.specs.declared.term.Term.TheVariants.{Nil, Sym}
use Rattle.std.proofs.lemmas.Bool.Decides.{nat_tests}
use Rattle.sf_sym.specs.Below.{AllPaired, IsBelow}
use Rattle.sf_sym.specs.Checked.Lemmas.Below.{below-symbol}
use Rattle.sf_sym.specs.Variables.{AreInOrder, IsBeforeAll}
use Rattle.sf_rules.specs.First.{nils, number_of, symbols}

pub nils_push : (from n m : ℕ) → m ≡ from + n → nils from (suc n) ≡ nils from n ++ (Own m, Nil) ∷ []
nils_push from zero m e = let same : m ≡ from = omega (arith, e) in rw same refl
nils_push from (suc n) m e = ap (λ xs. (Own from, Nil) ∷ xs) (nils_push (suc from) n m (omega (arith, e)))

pub symbols_push : (from n m : ℕ) → m ≡ from + n
    → symbols from (suc n) ≡ symbols from n ++ (Own m, Sym m) ∷ []
symbols_push from zero m e = let same : m ≡ from = omega (arith, e) in rw same refl
symbols_push from (suc n) m e =
    ap (λ xs. (Own from, Sym from) ∷ xs) (symbols_push (suc from) n m (omega (arith, e)))

number_step : (x : List ℕ) (xs : List (List ℕ)) (name : List ℕ) (from : ℕ)
    → ((r : Option ℕ) → IsFirstNamed xs name r → number_of xs name (suc from)
    ≡ option_map (λ n. record { 0 = suc from + n }) r)
    → (b : Bool) → bytes_eq x name ≡ b → (r : Option ℕ) → IsFirstNamed (x ∷ xs) name r
    → cond b (Some (record { 0 = from })) (number_of xs name (suc from))
    ≡ option_map (λ n. record { 0 = from + n }) r
number_step x xs name from others true e None h = absurd (h 0 (ap Some ((bytes_eq-Decides x name).0 e)))
number_step x xs name from others true e (Some zero) h =
    let z : from ≡ from + 0 = omega arith in ap (λ n. Some (record { 0 = n })) z
number_step x xs name from others true e (Some (suc k)) h =
    absurd (h.1 0 (omega arith) (ap Some ((bytes_eq-Decides x name).0 e)))
number_step x xs name from others false e None h = others None (λ k. h (suc k))
number_step x xs name from others false e (Some zero) h =
    let f : Some x ≡ Some name = h.0 in
    let same : x ≡ name = cc in
    let t : bytes_eq x name ≡ true = (bytes_eq-Decides x name).1 same in absurd (cc)
number_step x xs name from others false e (Some (suc k)) h =
    others (Some k) (h.0, λ j l. h.1 (suc j) (omega (arith, l)))
    ∙ ap (λ n. Some (record { 0 = n })) (omega arith)

pub number_is : (names : List (List ℕ)) (name : List ℕ) (from : ℕ) (r : Option ℕ)
    → IsFirstNamed names name r → number_of names name from ≡ option_map (λ n. record { 0 = from + n }) r
number_is [] name from None h = refl
number_is [] name from (Some k) h = let f : None ≡ Some name = h.0 in absurd (cc)
number_is (x ∷ xs) name from r h =
    number_step x xs name from (number_is xs name (suc from)) (bytes_eq x name) refl r h

pub field_is : (names : List (List ℕ)) (name : List ℕ) (r : Option FieldId)
    → IsFirstNamed names name (option_map (λ f. f.0) r) → r ≡ number_of names name 0
field_is names name None h = sym (number_is names name 0 None h)
field_is names name (Some f) h =
    let z : f.0 ≡ 0 + f.0 = omega arith in
    ap (λ n. Some (record { 0 = n })) z ∙ sym (number_is names name 0 (Some f.0) h)

-- one more local after the variables and the other locals
pub nils_after : (from i : ℕ) (vars xs : List (Var × Term)) → from ≤ i → xs ≡ vars ++ nils from (i - from)
    → xs ++ (Own i, Nil) ∷ [] ≡ vars ++ nils from (i + 1 - from)
nils_after from i vars xs l e =
    let n : suc (i - from) ≡ i + 1 - from = omega arith in
    let m : i ≡ from + (i - from) = omega arith in
    ap (λ ys. ys ++ (Own i, Nil) ∷ []) e ∙ append_assoc vars (nils from (i - from)) ((Own i, Nil) ∷ [])
    ∙ ap (λ ys. vars ++ ys) (sym (nils_push from (i - from) i m) ∙ ap (nils from) n)

lt-test : (k m : ℕ) → k < m → nat_lt k m ≡ true
lt-test k m lt = grind (arith, nat_tests)

own-nils : (k from count : ℕ) → k < from → IsBeforeAll (Own k) (nils from count)
own-nils k from zero lt = tt
own-nils k from (suc count) lt = (lt-test k from lt, own-nils k (suc from) count (omega arith))

own-firsts : (k from count m n : ℕ) → k < from → k < m → IsBeforeAll (Own k) (symbols from count ++ nils m n)
own-firsts k from zero m n lt less = own-nils k m n less
own-firsts k from (suc count) m n lt less =
    (lt-test k from lt, own-firsts k (suc from) count m n (omega arith) less)

nils-order : (from count : ℕ) → AreInOrder (nils from count)
nils-order from zero = tt
nils-order from (suc count) = (own-nils from (suc from) count (omega arith), nils-order (suc from) count)

firsts-order : (from count m n : ℕ) → from + count ≤ m → AreInOrder (symbols from count ++ nils m n)
firsts-order from zero m n le = nils-order m n
firsts-order from (suc count) m n le = (
  own-firsts from (suc from) count m n (omega arith) (omega arith),
  firsts-order (suc from) count m n (omega arith),
)

-- a procedure's own variables are in order at first
pub own_firsts-order : (vs : List (Var × Term)) (n count : ℕ) → vs ≡ symbols 0 n ++ nils n (count - n)
    → AreInOrder vs
own_firsts-order vs n count e = subst AreInOrder (sym e) (firsts-order 0 n n (count - n) (omega arith))

nils-below : (most from count : ℕ) → AllPaired (IsBelow most) (nils from count)
nils-below most from zero = tt
nils-below most from (suc count) = (refl, nils-below most (suc from) count)

firsts-below : (most from n m count : ℕ) → from + n ≤ most
    → AllPaired (IsBelow most) (symbols from n ++ nils m count)
firsts-below most from zero m count l = nils-below most m count
firsts-below most from (suc n) m count l = (
  below-symbol most from (omega (arith, l)),
  firsts-below most (suc from) n m count (omega (arith, l)),
)

-- and have symbols below the first one that is new
pub own_firsts-below : (vs : List (Var × Term)) (n count : ℕ) → vs ≡ symbols 0 n ++ nils n (count - n)
    → AllPaired (IsBelow n) vs
own_firsts-below vs n count e =
    subst (AllPaired (IsBelow n)) (sym e) (firsts-below n 0 n n (count - n) (omega arith))
