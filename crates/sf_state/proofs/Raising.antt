-- A unit that is raised above numbers in turn.
-- Names: `raises-LAW`; `bounds-LAW` for the numbers.
use Rattle.std.proofs.Common.{◌≡◌, ◌⊎◌, ◌<◌, ◌+◌, ℕ, List, [], ◌∷◌, ◌++◌, length, take, get_or, refl, sym, ap, ◌∙◌, subst, inl, inr, arith}
use Rattle.std.proofs.lemmas.List.{take_more}
use Rattle.std.proofs.lemmas.List.Elements.{Contains-append_cases, Contains-append_left, Contains-append_right}
use Rattle.std.proofs.lemmas.Option.{get_or_from_slice_get, slice_get-get_or}
use Rattle.sf_base.proofs.Elements.{contains-single, contains-single_of}
use Rattle.sf_state.specs.Checked.FirstUnit.{AreInBounds, IsOfOne, Raises}

-- above nothing
pub raises-none : (M : ℕ → Type 0) (a : ℕ) → ((l : ℕ) → M l → ⊥) → Raises M a a
raises-none M a out = record { up = omega arith; above = λ l m. absurd (out l m); is = inl refl }

-- above some, and then above others
pub raises-then : (M N : ℕ → Type 0) (a b c : ℕ) → Raises M a b → Raises N b c → Raises (λ l. M l ⊎ N l) a c
raises-then M N a b c r s = record {
  up = omega (arith, r.up, s.up);
  above = above;
  is = elim s.is [
    | inl e ↦ elim r.is [
      | inl f ↦ inl (e ∙ f)
      | inr x ↦ inr (x.0, inl x.1, e ∙ x.2)
    ]
    | inr x ↦ inr (x.0, inr x.1, x.2)
  ];
}
  where
    above : (l : ℕ) → M l ⊎ N l → l < c
    above l (inl m) = let under = r.above l m in omega (arith, under, s.up)
    above l (inr n) = s.above l n

-- above the same ones
pub raises-same : (M N : ℕ → Type 0) (a b : ℕ) → ((l : ℕ) → M l → N l) → ((l : ℕ) → N l → M l) → Raises M a b
    → Raises N a b
raises-same M N a b to from r = record {
  up = r.up;
  above = λ l n. r.above l (from l n);
  is = elim r.is [
    | inl e ↦ inl e
    | inr x ↦ inr (x.0, to x.0 x.1, x.2)
  ];
}

-- above those of one element more
pub raises-more : {X : Type 0} (M : X → ℕ → Type 0) (xs : List X) (i : ℕ) (x : X) (a b c : ℕ) → i < length xs
    → x ≡ get_or xs i x → Raises (IsOfOne M (take i xs)) a b → Raises (M x) b c
    → Raises (IsOfOne M (take (i + 1) xs)) a c
raises-more {X} M xs i x a b c h e r s =
    subst (λ (ys : List X). Raises (IsOfOne M ys) a c)
    (sym (take_more xs i x h ∙ ap (λ (z : X). take i xs ++ z ∷ []) (sym e)))
    (raises-same (λ l. IsOfOne M (take i xs) l ⊎ M x l) (IsOfOne M (take i xs ++ x ∷ [])) a c to from
    (raises-then (IsOfOne M (take i xs)) (M x) a b c r s))
  where
    to : (l : ℕ) → IsOfOne M (take i xs) l ⊎ M x l → IsOfOne M (take i xs ++ x ∷ []) l
    to l (inl m) = (m.0, Contains-append_left (take i xs) (x ∷ []) m.0 m.1, m.2)
    to l (inr m) = (x, Contains-append_right (take i xs) (x ∷ []) x (contains-single_of x x refl), m)

    from : (l : ℕ) → IsOfOne M (take i xs ++ x ∷ []) l → IsOfOne M (take i xs) l ⊎ M x l
    from l m = elim (Contains-append_cases (take i xs) (x ∷ []) m.0 m.1) [
      | inl k ↦ inl (m.0, k, m.2)
      | inr k ↦ inr (subst (λ (z : X). M z l) (sym (contains-single x m.0 k)) m.2)
    ]

-- an element is read the same whatever stands for none
pub read-at : {X : Type 0} (xs : List X) (i : ℕ) (d : X) → i < length xs → get_or xs i d ≡ get_or xs i (get_or xs i d)
read-at xs i d h =
    sym (get_or_from_slice_get xs i (get_or xs i d) (get_or xs i d) (slice_get-get_or xs i d h))

-- the numbers of one element are among all
pub bounds-one : {X : Type 0} (M : X → ℕ → Type 0) (xs : List X) (i : ℕ) (x : X) → AreInBounds (IsOfOne M xs)
    → i < length xs → x ≡ get_or xs i x → AreInBounds (M x)
bounds-one M xs i x b h e l m = b l (x, (i, h, sym e), m)
