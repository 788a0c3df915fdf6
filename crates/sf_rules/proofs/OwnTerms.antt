-- The terms of a callee's own variables, by the places of its references and of its values.
use Rattle.std.proofs.Common.{◌≡◌, ℕ, zero, suc, ◌-◌, ◌∙◌, true, false, nat_lt, List, [], ◌∷◌, length, get_or, Some, None, slice_get, refl, sym, ap, arith}
use Rattle.std.proofs.lemmas.Bool.Decides.{Decides-ltb}
use Rattle.std.proofs.lemmas.Option.{same_Some, none-some, slice_get-get_or}
use Rattle.sf_base.specs.declared.ids.Var.{Var}
use Rattle.sf_core.specs.declared.command.Occurrence.{Occurrence}
use Rattle.sf_sym.specs.declared.term.Term.{Term}
use Rattle.sf_sym.specs.declared.term.Term.TheVariants.{Nil}
use Rattle.sf_rules.specs.Callee.{own_term}

-- where the code found an element
pub found_at : {A : Type 0} (xs : List A) (i : ℕ) (x : A) → true ≡ nat_lt i (length xs) → x ≡ get_or xs i x
    → slice_get xs i ≡ Some x
found_at xs i x e same =
    slice_get-get_or xs i x ((Decides-ltb i (length xs)).0 (sym e)) ∙ ap Some (sym same)

-- and where it found none
pub none_at : {A : Type 0} (xs : List A) (i : ℕ) → false ≡ nat_lt i (length xs) → slice_get xs i ≡ None
none_at [] i e = refl
none_at (x ∷ xs) zero e = absurd (let f : true ≡ false = sym ((Decides-ltb zero (length (x ∷ xs))).1 (omega arith)) ∙ sym e in cc)
none_at (x ∷ xs) (suc i) e = none_at xs i (e ∙ same)
  where
    same : nat_lt (suc i) (length (x ∷ xs)) ≡ nat_lt i (length xs)
    same = grind arith

module _ (caller : Var → Term) where
  -- of a reference
  pub of_reference : (xs : List Occurrence) (ts : List Term) (i : ℕ) (x : Occurrence) → slice_get xs i ≡ Some x
      → own_term caller xs ts i ≡ caller x.var
  of_reference [] ts i x e = absurd (none-some x e)
  of_reference (y ∷ ys) ts zero x e = ap (λ (z : Occurrence). caller z.var) (same_Some y x e)
  of_reference (y ∷ ys) ts (suc i) x e = of_reference ys ts i x e

  -- of what comes after the references
  pub after_references : (xs : List Occurrence) (ts : List Term) (i : ℕ) → slice_get xs i ≡ None
      → own_term caller xs ts i ≡ own_term caller [] ts (i - length xs)
  after_references [] ts i e = ap (own_term caller [] ts) (let s : i ≡ i - 0 = omega arith in s)
  after_references (y ∷ ys) ts zero e = absurd (none-some y (sym e))
  after_references (y ∷ ys) ts (suc i) e =
      after_references ys ts i e
      ∙ ap (own_term caller [] ts) (let s : i - length ys ≡ suc i - suc (length ys) = omega arith in s)

  -- of a value
  pub of_value : (ts : List Term) (i : ℕ) (t : Term) → slice_get ts i ≡ Some t → own_term caller [] ts i ≡ t
  of_value [] i t e = absurd (none-some t e)
  of_value (u ∷ ts) zero t e = same_Some u t e
  of_value (u ∷ ts) (suc i) t e = of_value ts i t e

  -- of neither
  pub of_none : (ts : List Term) (i : ℕ) → slice_get ts i ≡ None → own_term caller [] ts i ≡ Nil
  of_none [] i e = refl
  of_none (u ∷ ts) zero e = absurd (none-some u (sym e))
  of_none (u ∷ ts) (suc i) e = of_none ts i e
