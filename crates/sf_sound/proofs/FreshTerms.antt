-- Variables that get fresh symbols: values of those symbols that are the variables' own, what a frame has once
-- variables have their terms' values, and that all this is below the next symbol.
-- Names: `fresh-LAW` of fresh symbols, `put-LAW` of a frame in which variables have their terms' values.
use Rattle.sf_base.specs.declared.value.Value.TheVariants.{Nil as nil}
use Rattle.sf_rules.specs.First.{nil_for}
use Rattle.std.specs.List.{AllByRecursion}
use Rattle.std.specs.Prelude.{length, Contains}
use Rattle.std.proofs.Common.{◌≡◌, ℕ, suc, ◌+◌, Bool, true, false, cond, Option, Some, List, [], ◌∷◌, ◌++◌, refl, sym, ap, ◌∙◌, inl, inr, arith}
use Rattle.std.proofs.lemmas.Bool.{or_cases, or_left, or_right}
use Rattle.sf_base.proofs.Elements.{contains-cons, contains-nil}
use Rattle.sf_base.proofs.Variables.{same_var-decides}
use Rattle.sf_base.specs.declared.ids.Var.{Var}
use Rattle.sf_base.specs.declared.value.Value.{Value}
use Rattle.sf_base.specs.Variables.{same_var}
use Rattle.sf_safe.specs.Checked.Local.{Local, put_variable}
use Rattle.sf_sound.proofs.Keeping.{or-false}
use Rattle.sf_sym.specs.Checked.Lemmas.Updates.{set-order}
use Rattle.sf_sound.specs.Checked.Claims.{put_values}
use Rattle.sf_sym.specs.Below.{SameBelow}
use Rattle.sf_sym.specs.declared.term.Term.{Term}
use Rattle.sf_sym.specs.declared.term.Term.TheVariants.{Sym}
use Rattle.sf_sym.specs.Holds.{term_value, Agrees}
use Rattle.sf_sym.specs.Checked.Lemmas.FreshValues.{value-below, value-here, with_value}
use Rattle.sf_sym.specs.Checked.Lemmas.KnownValues.{set-agrees}
use Rattle.sf_sym.specs.Ready.{is_listed}
use Rattle.sf_sym.specs.Variables.{AreInOrder, fresh_for, set_var, set_vars}

-- the symbols from that number on have the values of the variables
abbrev pub fresh_values : ℕ → List Var → (Var → Value) → (ℕ → Value) → ℕ → Value
fresh_values n [] v w = w
fresh_values n (x ∷ xs) v w = fresh_values (suc n) xs v (with_value n (v x) w)

pub fresh-same : (n : ℕ) (xs : List Var) (v : Var → Value) (w : ℕ → Value) → SameBelow n (fresh_values n xs v w) w
fresh-same n [] v w m i = refl
fresh-same n (x ∷ xs) v w m i =
    fresh-same (suc n) xs v (with_value n (v x) w) m (omega (arith, i)) ∙ value-below n (v x) w m i

pub fresh-values : (n : ℕ) (xs : List Var) (v : Var → Value) (w : ℕ → Value)
    → AllByRecursion (λ (x : Var × Term). term_value (fresh_values n xs v w) x.1 ≡ v x.0) (fresh_for n xs)
fresh-values n [] v w = tt
fresh-values n (x ∷ xs) v w = (
  fresh-same (suc n) xs v (with_value n (v x) w) n (omega arith) ∙ value-here n (v x) w,
  fresh-values (suc n) xs v (with_value n (v x) w),
)

pub fresh-listed : (n : ℕ) (xs : List Var) (x : Var) → Contains xs x → is_listed (fresh_for n xs) x ≡ true
fresh-listed n [] x c = absurd (contains-nil x c)
fresh-listed n (y ∷ ys) x c = elim ((contains-cons y ys x).0 c) [
  | inl e ↦ or_left (same_var y x) (is_listed (fresh_for (suc n) ys) x) ((same_var-decides y x).1 e)
  | inr i ↦ or_right (same_var y x) (is_listed (fresh_for (suc n) ys) x) (fresh-listed (suc n) ys x i)
]

pub fresh-contains : (n : ℕ) (xs : List Var) (x : Var) → is_listed (fresh_for n xs) x ≡ true → Contains xs x
fresh-contains n [] x e = absurd (cc)
fresh-contains n (y ∷ ys) x e = (contains-cons y ys x).1
    (elim (or_cases (same_var y x) (is_listed (fresh_for (suc n) ys) x) e) [
      | inl i ↦ inl ((same_var-decides y x).0 i)
      | inr i ↦ inr (fresh-contains (suc n) ys x i)
    ])

-- NIL
pub nil-listed : (xs : List Var) (x : Var) → Contains xs x → is_listed (nil_for xs) x ≡ true
nil-listed [] x c = absurd (contains-nil x c)
nil-listed (y ∷ ys) x c = elim ((contains-cons y ys x).0 c) [
  | inl e ↦ or_left (same_var y x) (is_listed (nil_for ys) x) ((same_var-decides y x).1 e)
  | inr i ↦ or_right (same_var y x) (is_listed (nil_for ys) x) (nil-listed ys x i)
]

pub nil-values : (w : ℕ → Value) (v : Var → Value) (xs : List Var) → ((x : Var) → Contains xs x → v x ≡ nil)
    → AllByRecursion (λ (x : Var × Term). term_value w x.1 ≡ v x.0) (nil_for xs)
nil-values w v [] h = tt
nil-values w v (x ∷ xs) h = (
  sym (h x ((contains-cons x xs x).1 (inl refl))),
  nil-values w v xs (λ y c. h y ((contains-cons x xs y).1 (inr c))),
)

-- where variables have their terms' values, they agree
pub put-agrees : (w : ℕ → Value) (set vs : List (Var × Term)) (l : Local) → AreInOrder vs
    → AllByRecursion (Agrees w l.values) vs
    → AllByRecursion (Agrees w (put_values w set l).values) (set_vars set vs)
put-agrees w [] vs l o a = a
put-agrees w (x ∷ xs) vs l o a =
    put-agrees w xs (set_var x.0 x.1 vs) (put_variable x.0 (term_value w x.1) l) (set-order x.0 x.1 vs o)
    (set-agrees w l.values x.0 (term_value w x.1) vs x.1 refl a)

-- so they do where fewer have values
pub agrees-fewer : (w : ℕ → Value) (e f : Var → Option Value) (vs : List (Var × Term))
    → ((x : Var) (v : Value) → f x ≡ Some v → e x ≡ Some v) → AllByRecursion (Agrees w e) vs
    → AllByRecursion (Agrees w f) vs
agrees-fewer w e f [] h a = tt
agrees-fewer w e f (x ∷ xs) h a = (λ v i. a.0 v (h x.0 v i), agrees-fewer w e f xs h a.1)

-- another variable keeps its value
pub put-other : (w : ℕ → Value) (set : List (Var × Term)) (l : Local) (y : Var) → is_listed set y ≡ false
    → (put_values w set l).values y ≡ l.values y
put-other w [] l y e = refl
put-other w (x ∷ xs) l y e =
    let m = or-false (same_var x.0 y) (is_listed xs y) e in
    put-other w xs (put_variable x.0 (term_value w x.1) l) y m.1 ∙ at m.0 (same_var y x.0) refl
  where
    at : same_var x.0 y ≡ false → (b : Bool) → same_var y x.0 ≡ b
        → cond b (Some (term_value w x.1)) (l.values y) ≡ l.values y
    at i true j =
        let same : same_var x.0 y ≡ true = (same_var-decides x.0 y).1 (sym ((same_var-decides y x.0).0 j)) in
        absurd (cc)
    at i false j = refl

-- one that is set has its value
pub put-here : (w : ℕ → Value) (v : Var → Value) (set : List (Var × Term)) (l : Local) (y : Var)
    → AllByRecursion (λ (x : Var × Term). term_value w x.1 ≡ v x.0) set → is_listed set y ≡ true
    → (put_values w set l).values y ≡ Some (v y)
put-here w v [] l y a e = absurd (cc)
put-here w v (x ∷ xs) l y a e =
    go (λ i. put-here w v xs (put_variable x.0 (term_value w x.1) l) y a.1 i) (is_listed xs y) refl
  where
    go : (is_listed xs y ≡ true → (put_values w xs (put_variable x.0 (term_value w x.1) l)).values y ≡ Some (v y))
        → (b : Bool) → is_listed xs y ≡ b
        → (put_values w xs (put_variable x.0 (term_value w x.1) l)).values y ≡ Some (v y)
    go r true i = r i
    go r false i =
        let same : same_var x.0 y ≡ true = elim (or_cases (same_var x.0 y) (is_listed xs y) e) [
          | inl j ↦ j
          | inr j ↦ absurd (let k : is_listed xs y ≡ true = j in cc)
        ] in
        let is = (same_var-decides x.0 y).0 same in
        put-other w xs (put_variable x.0 (term_value w x.1) l) y i
        ∙ ap (λ b. cond b (Some (term_value w x.1)) (l.values y)) ((same_var-decides y x.0).1 (sym is))
        ∙ ap Some (a.0 ∙ ap v is)

-- nothing else of a frame changes
pub put-cells : (w : ℕ → Value) (set : List (Var × Term)) (l : Local) → (put_values w set l).cells ≡ l.cells
put-cells w [] l = refl
put-cells w (x ∷ xs) l = put-cells w xs (put_variable x.0 (term_value w x.1) l)

pub put-tokens : (w : ℕ → Value) (set : List (Var × Term)) (l : Local) → (put_values w set l).tokens ≡ l.tokens
put-tokens w [] l = refl
put-tokens w (x ∷ xs) l = put-tokens w xs (put_variable x.0 (term_value w x.1) l)

-- what is said of the variables is said of those that get symbols
pub fresh-names : (P : Var → Type 0) (n : ℕ) (xs : List Var) → ((x : Var) → Contains xs x → P x)
    → AllByRecursion (λ (x : Var × Term). P x.0) (fresh_for n xs)
fresh-names P n [] h = tt
fresh-names P n (x ∷ xs) h = (
  h x ((contains-cons x xs x).1 (inl refl)),
  fresh-names P (suc n) xs (λ y c. h y ((contains-cons x xs y).1 (inr c))),
)

-- two lists of variables get symbols one after the other
pub fresh-append : (n : ℕ) (xs ys : List Var)
    → fresh_for n xs ++ fresh_for (n + length (fresh_for n xs)) ys ≡ fresh_for n (xs ++ ys)
fresh-append n [] ys = ap (λ k. fresh_for k ys) (omega arith)
fresh-append n (x ∷ xs) ys =
    ap (λ rest. (x, Sym n) ∷ rest)
    (ap (λ k. fresh_for (suc n) xs ++ fresh_for k ys)
    (let e : n + length (fresh_for n (x ∷ xs)) ≡ suc n + length (fresh_for (suc n) xs) = omega arith in e)
    ∙ fresh-append (suc n) xs ys)
