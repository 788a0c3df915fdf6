-- Finite heaps.
-- Names: `finite-LAW`.
use Rattle.std.specs.Prelude.{◌≡◌, ◌≢◌, ℕ, [], ◌∷◌, ◌++◌, Contains, Some, None, ◌⊎◌}
use Rattle.std.proofs.Common.{sym, ◌∙◌, refl, subst, inl, inr}
use Rattle.std.proofs.lemmas.List.Elements.{Contains-append_left, Contains-append_right}
use Rattle.std.proofs.lemmas.Option.{none-some}
use Rattle.std.proofs.lemmas.Bool.{cases_eq}
use Rattle.sf_base.proofs.MapSplits.{splits-which, IsPart, part-has}
use Rattle.sf_base.specs.HeapStore.{Cell, Heap, IsEmpty, IsOne, Splits}
use Rattle.sf_core.specs.Checked.Assertions.Shape.{IsFinite}

-- an empty heap is finite
pub finite-empty : {heap : Heap} → IsEmpty heap → IsFinite heap
finite-empty e = record { locations = []; all = λ a c h. absurd (none-some c (sym (e.none a) ∙ h)) }

-- one cell is finite
pub finite-one : {location : ℕ} {cell : Cell} {heap : Heap} → IsOne location cell heap → IsFinite heap
finite-one {location} {cell} {heap} o =
    record { locations = location ∷ []; all = λ a c h. go a c h (cases_eq a location) }
  where
    go : (a : ℕ) (c : Cell) → heap a ≡ Some c → (a ≡ location) ⊎ (a ≢ location) → Contains (location ∷ []) a
    go a c h (inl e) = subst (Contains (location ∷ [])) (sym e)
        (0, Prim.Native.Nat.suc-le-suc Prim.Native.Nat.zero-le, refl)
    go a c h (inr n) = absurd (none-some c (sym (o.elsewhere a n) ∙ h))

-- a heap whose parts are finite is finite
pub finite-splits : {heap one two : Heap} → Splits heap one two → IsFinite one → IsFinite two → IsFinite heap
finite-splits {heap} {one} {two} s f g =
    record { locations = f.locations ++ g.locations; all = λ a c h. go a c (splits-which a c s h) }
  where
    go : (a : ℕ) (c : Cell) → ((one a ≡ Some c) × (two a ≡ None)) ⊎ ((two a ≡ Some c) × (one a ≡ None))
        → Contains (f.locations ++ g.locations) a
    go a c (inl e) = Contains-append_left f.locations g.locations a (f.all a c e.0)
    go a c (inr e) = Contains-append_right f.locations g.locations a (g.all a c e.0)

-- a part of a finite heap is finite
pub finite-part : {part heap : Heap} → IsPart part heap → IsFinite heap → IsFinite part
finite-part p f = record { locations = f.locations; all = λ a c h. f.all a c (part-has a c p h) }
