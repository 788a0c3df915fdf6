-- The known fields of a cell: what is put among them is true of it, and each has its term's value.
-- Names: `put-LAW` speaks of `put_term`, `field-LAW` of `field_term`.
use Rattle.std.specs.List.{AllByRecursion}
use Rattle.std.proofs.Common.{◌≡◌, ℕ, ◌==◌, Bool, true, false, cond, nat_lt, List, [], ◌∷◌, Some, refl, sym, ap, ◌∙◌, subst}
use Rattle.std.proofs.lemmas.Option.{same_Some}
use Rattle.sf_base.proofs.HeapSplits.{at-same, at-self}
use Rattle.sf_base.specs.declared.ids.FieldId.{FieldId}
use Rattle.sf_base.specs.declared.value.Value.{Value}
use Rattle.sf_base.specs.HeapStore.{Cell, put_field}
use Rattle.sf_core.specs.Assertions.Sat.{HasFields}
use Rattle.sf_sym.specs.declared.term.Term.{Term}
use Rattle.sf_sym.specs.Below.{AllPaired}
use Rattle.sf_sym.specs.Fields.{field_term, put_term}
use Rattle.sf_sym.specs.Checked.Lemmas.Updates.{all-updated, all-updated_by, fields, flipped, less-other}

module _ (v : Term → Value) where
  -- the fields that a cell has, as what each of them has
  has-all : (here : Cell) (fs : List (FieldId × Term)) → HasFields v fs here
      → AllByRecursion (λ (g : FieldId × Term). here g.0.0 ≡ v g.1) fs
  has-all here [] h = tt
  has-all here (g ∷ gs) h = (h.0, has-all here gs h.1)

  all-has : (here : Cell) (fs : List (FieldId × Term))
      → AllByRecursion (λ (g : FieldId × Term). here g.0.0 ≡ v g.1) fs → HasFields v fs here
  all-has here [] a = tt
  all-has here (g ∷ gs) a = (a.0, all-has here gs a.1)

  -- a field that the cell has may be put among them
  pub put-known : (f : FieldId) (u : Term) (fs : List (FieldId × Term)) (here : Cell) → here f.0 ≡ v u
      → HasFields v fs here → HasFields v (put_term f u fs) here
  put-known f u fs here e h =
      all-has here (put_term f u fs)
      (all-updated (λ (g : FieldId × Term). here g.0.0 ≡ v g.1) (λ g. nat_lt g.0.0 f.0)
      (λ g. nat_lt f.0 g.0.0) (f, u) fs e (has-all here fs h))

  put-self : (n : ℕ) (x : Value) (here : Cell) → put_field here n x n ≡ x
  put-self n x here = ap (λ t. cond t x (here n)) (at-self n)

  put-other : (n m : ℕ) (x : Value) (here : Cell) → m == n ≡ false → put_field here n x m ≡ here m
  put-other n m x here e = ap (λ t. cond t x (here m)) e

  -- a field that is written in the cell is put among them
  pub put-written : (f : FieldId) (u : Term) (fs : List (FieldId × Term)) (here : Cell)
      → HasFields v fs here → HasFields v (put_term f u fs) (put_field here f.0 (v u))
  put-written f u fs here h =
      let after : Cell = put_field here f.0 (v u) in
      all-has after (put_term f u fs)
      (all-updated_by (λ (g : FieldId × Term). here g.0.0 ≡ v g.1) (λ g. after g.0.0 ≡ v g.1)
      (λ g. nat_lt g.0.0 f.0) (λ g. nat_lt f.0 g.0.0)
      (λ g b e. put-other f.0 g.0.0 (v u) here (flipped fields f g.0 (less-other g.0.0 f.0 b)) ∙ e)
      (λ g b e. put-other f.0 g.0.0 (v u) here (less-other f.0 g.0.0 b) ∙ e)
      (f, u) fs (put-self f.0 (v u) here) (has-all here fs h))

-- a known field has its term's value
pub field-value : (v : Term → Value) (fields : List (FieldId × Term)) (f : FieldId) (t : Term) (here : Cell)
    → field_term fields f ≡ Some t → HasFields v fields here → here f.0 ≡ v t
field-value v [] f t here e h = absurd (cc)
field-value v (g ∷ gs) f t here e h = go (g.0.0 == f.0) refl e (λ i. field-value v gs f t here i h.1)
  where
    go : (b : Bool) → g.0.0 == f.0 ≡ b → cond b (Some g.1) (field_term gs f) ≡ Some t
        → (field_term gs f ≡ Some t → here f.0 ≡ v t) → here f.0 ≡ v t
    go true c i r = ap here (sym (at-same f.0 g.0.0 c)) ∙ h.0 ∙ ap v (same_Some g.1 t i)
    go false c i r = r i

-- its term has a property that all have
pub field-all : (P : Term → Type 0) (fields : List (FieldId × Term)) (f : FieldId) (t : Term)
    → field_term fields f ≡ Some t → AllPaired P fields → P t
field-all P [] f t e h = absurd (cc)
field-all P (g ∷ gs) f t e h = go (g.0.0 == f.0) e (λ i. field-all P gs f t i h.1)
  where
    go : (b : Bool) → cond b (Some g.1) (field_term gs f) ≡ Some t → (field_term gs f ≡ Some t → P t) → P t
    go true i r = subst P (same_Some g.1 t i) h.0
    go false i r = r i
