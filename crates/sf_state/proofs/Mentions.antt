-- Where the locations are that variables and cells mention.
-- Names: `mentioned-LAW`, `unit-LAW`.
use Rattle.std.proofs.Common.{◌≡◌, ◌⊎◌, ◌<◌, ◌≤◌, ◌+◌, ◌^◌, ℕ, List, Option, Some, None, Contains, length, get_or, slice_get, is_some, refl, sym, ap, ◌∙◌, inl, inr, arith, Vec, Global}
use Rattle.std.specs.FinMap.{contains_key}
use Rattle.std.specs.Option.{unwrap_or}
use Rattle.std.proofs.lemmas.Bool.{cases_lt}
use Rattle.std.proofs.lemmas.Option.{get_or_from_slice_get, slice_get-get_or, slice_get_past, slice_get_within, unwrap_or-slice_get}
use Rattle.sf_base.specs.declared.ids.Var.{Var}
use Rattle.sf_base.specs.declared.ids.Var.TheVariants.{Own, Shared}
use Rattle.sf_base.specs.declared.value.Value.{Value}
use Rattle.sf_base.specs.declared.value.Value.TheVariants.{Nil as nil, Loc as loc}
use Rattle.sf_heap.specs.Cells.{AreAt, Cells}
use Rattle.sf_foot.specs.declared.vars.Vars.{Vars}
use Rattle.sf_foot.specs.Starting.{IsFirstUnit, IsMentioned}
use Rattle.sf_foot.specs.Variables.{value_of, values_or_none}
use Rattle.sf_state.specs.Checked.FirstUnit.{AreInBounds, IsInCell, IsOfOne, IsValueIn, Raises}
use Rattle.sf_state.proofs.Raising.{raises-then}

-- what a list has at a place
pub contains-at : {X : Type 0} (xs : List X) (k : ℕ) (x : X) → slice_get xs k ≡ Some x → Contains xs x
contains-at xs k x e = (k, slice_get_within xs k x e, get_or_from_slice_get xs k x x e)

-- where a list has what it has
pub contains-place : {X : Type 0} (xs : List X) (x : X) → Contains xs x → (k : ℕ) × (slice_get xs k ≡ Some x)
contains-place xs x c = (c.0, slice_get-get_or xs c.0 x c.1 ∙ ap Some c.2)

-- past its end there is none
past : (vs : List Value) (k : ℕ) → length vs ≤ k → get_or vs k nil ≡ nil
past vs k h = sym (unwrap_or-slice_get vs k nil) ∙ ap (λ o. unwrap_or o nil) (slice_get_past vs k h)

-- a location at a place of values is one of them
pub value-read : (vs : List Value) (k l : ℕ) → get_or vs k nil ≡ loc l → IsValueIn vs l
value-read vs k l e = go (cases_lt k (length vs))
  where
    go : ((k < length vs) ⊎ (length vs ≤ k)) → IsValueIn vs l
    go (inl h) = (loc l, contains-at vs k (loc l) (slice_get-get_or vs k nil h ∙ ap Some e), refl)
    go (inr h) = absurd (let n : nil ≡ loc l = sym (past vs k h) ∙ e in cc)

-- and one of them is at a place
value-place : (vs : List Value) (l : ℕ) → IsValueIn vs l → (k : ℕ) × (get_or vs k nil ≡ loc l)
value-place vs l v =
    let at = contains-place vs v.0 v.1 in (at.0, get_or_from_slice_get vs at.0 v.0 nil at.1 ∙ v.2)

-- among the values of the resources' variables
abbrev pub InShared : Vars → ℕ → Type 0
InShared vars = IsOfOne (λ (vs : Vec Value Global). IsValueIn vs.items) vars.shared.items

pub mentioned-own : (vars : Vars) (heap : Cells) (l : ℕ) → IsValueIn vars.own.items l → IsMentioned vars heap l
mentioned-own vars heap l v = let at = value-place vars.own.items l v in inr (inl (Own at.0, at.1))

pub mentioned-shared : (vars : Vars) (heap : Cells) (l : ℕ) → InShared vars l → IsMentioned vars heap l
mentioned-shared vars heap l v =
    let r = contains-place vars.shared.items v.0 v.1 in
    let at = value-place v.0.items l v.2 in
    inr (inl (Shared (record { 0 = r.0 }) at.0, ap (λ o. get_or (values_or_none o) at.0 nil) r.1 ∙ at.1))

pub mentioned-cells : (vars : Vars) (heap : Cells) (at : List ℕ) (l : ℕ) → AreAt at heap
    → IsOfOne (IsInCell heap) at l → IsMentioned vars heap l
mentioned-cells vars heap at l all m = elim m.2 [
  | inl e ↦ inl (ap (contains_key heap) e ∙ (all m.0).1 m.1)
  | inr v ↦ let k = value-place v.0 l v.2 in inr (inr (m.0, v.0, k.0, v.1, k.1))
]

-- nowhere else
pub mentioned-where : (vars : Vars) (heap : Cells) (at : List ℕ) (l : ℕ) → AreAt at heap → IsMentioned vars heap l
    → (IsValueIn vars.own.items l ⊎ InShared vars l) ⊎ IsOfOne (IsInCell heap) at l
mentioned-where vars heap at l all (inl h) = inr (l, (all l).0 h, inl refl)
mentioned-where vars heap at l all (inr (inl v)) = inl (variable v.0 v.1)
  where
    shared : (r k : ℕ) (o : Option (Vec Value Global)) → slice_get vars.shared.items r ≡ o
        → get_or (values_or_none o) k nil ≡ loc l → InShared vars l
    shared r k None e f = absurd cc
    shared r k (Some vs) e f = (vs, contains-at vars.shared.items r vs e, value-read vs.items k l f)

    variable : (x : Var) → value_of vars x ≡ loc l → IsValueIn vars.own.items l ⊎ InShared vars l
    variable (Own k) e = inl (value-read vars.own.items k l e)
    variable (Shared r k) e = inr (shared r.0 k (slice_get vars.shared.items r.0) refl e)
mentioned-where vars heap at l all (inr (inr f)) =
    inr (f.0, (all f.0).0 (ap is_some f.3), inr (f.1, f.3, value-read f.1 f.2 l f.4))

-- the unit that was raised above all three is the first
pub unit-first : (vars : Vars) (heap : Cells) (at : List ℕ) (a b c : ℕ) → AreAt at heap
    → AreInBounds (IsMentioned vars heap) → Raises (IsValueIn vars.own.items) 1 a → Raises (InShared vars) a b
    → Raises (IsOfOne (IsInCell heap) at) b c → IsFirstUnit vars heap c
unit-first vars heap at a b c all bounds r s t = (
  ((positive all_of.is, within all_of.is), λ l m. all_of.above l (mentioned-where vars heap at l all m)),
  least all_of.is,
)
  where
    all_of : Raises (λ l. (IsValueIn vars.own.items l ⊎ InShared vars l) ⊎ IsOfOne (IsInCell heap) at l) 1 c
    all_of = raises-then (λ l. IsValueIn vars.own.items l ⊎ InShared vars l) (IsOfOne (IsInCell heap) at) 1 b c
        (raises-then (IsValueIn vars.own.items) (InShared vars) 1 a b r s) t

    mentioned : (l : ℕ) → (IsValueIn vars.own.items l ⊎ InShared vars l) ⊎ IsOfOne (IsInCell heap) at l
        → IsMentioned vars heap l
    mentioned l (inl (inl v)) = mentioned-own vars heap l v
    mentioned l (inl (inr v)) = mentioned-shared vars heap l v
    mentioned l (inr m) = mentioned-cells vars heap at l all m

    positive : ((c ≡ 1) ⊎ ((l : ℕ) × ((IsValueIn vars.own.items l ⊎ InShared vars l) ⊎ IsOfOne (IsInCell heap) at l)
        × (c ≡ l + 1))) → 0 < c
    positive (inl e) = omega (arith, e)
    positive (inr x) = omega (arith, x.2)

    within : (c ≡ 1) ⊎ ((l : ℕ) × ((IsValueIn vars.own.items l ⊎ InShared vars l) ⊎ IsOfOne (IsInCell heap) at l)
        × (c ≡ l + 1)) → c ≤ 2 ^ 62
    within (inl e) = omega (arith, e)
    within (inr x) = let small = bounds x.0 (mentioned x.0 x.1) in omega (arith, small, x.2)

    least : (c ≡ 1) ⊎ ((l : ℕ) × ((IsValueIn vars.own.items l ⊎ InShared vars l) ⊎ IsOfOne (IsInCell heap) at l)
        × (c ≡ l + 1)) → (c ≡ 1) ⊎ ((l : ℕ) × IsMentioned vars heap l × (c ≡ l + 1))
    least (inl e) = inl e
    least (inr x) = inr (x.0, mentioned x.0 x.1, x.2)
