-- Values: two are the same or differ.
use Rattle.std.specs.Prelude.{◌≡◌, ◌≢◌, ◌⊎◌, Bool, true, false}
use Rattle.std.specs.Cmp.{signed_Decides}
use Rattle.std.proofs.Common.{int_eq, true≢false, sym, ap, ◌∙◌, refl, inl, inr}
use Rattle.std.proofs.lemmas.Bool.{cases_eq}
use Rattle.sf_base.specs.declared.value.Value.{Value}
use Rattle.sf_base.specs.declared.value.Value.TheVariants.{Nil as nil, Int as int, Loc as loc}

-- two values are the same or differ
pub value-which : (v w : Value) → (v ≡ w) ⊎ (v ≢ w)
value-which nil nil = inl refl
value-which nil (int j) = inr (λ (e : nil ≡ int j). cc)
value-which nil (loc b) = inr (λ (e : nil ≡ loc b). cc)
value-which (int i) nil = inr (λ (e : int i ≡ nil). cc)
value-which (int i) (int j) = go (int_eq i j) refl
  where
    go : (t : Bool) → int_eq i j ≡ t → (int i ≡ int j) ⊎ (int i ≢ int j)
    go true e = inl (ap int ((signed_Decides i j).0 e))
    go false e = inr (λ (s : int i ≡ int j). true≢false (sym ((signed_Decides i j).1 cc) ∙ e))
value-which (int i) (loc b) = inr (λ (e : int i ≡ loc b). cc)
value-which (loc a) nil = inr (λ (e : loc a ≡ nil). cc)
value-which (loc a) (int j) = inr (λ (e : loc a ≡ int j). cc)
value-which (loc a) (loc b) = go (cases_eq a b)
  where
    go : (a ≡ b) ⊎ (a ≢ b) → (loc a ≡ loc b) ⊎ (loc a ≢ loc b)
    go (inl e) = inl (ap loc e)
    go (inr n) = inr (λ (s : loc a ≡ loc b). n cc)
