-- The annotations of an accepted program are determined.
-- Names: `determined-WHAT`.
use Rattle.std.specs.Prelude.{◌≡◌, ℕ, zero, suc, Contains, List, [], ◌∷◌, Some, flat_map, map}
use Rattle.std.specs.List.{slice_get}
use Rattle.std.proofs.Common.{inl, inr, refl}
use Rattle.std.proofs.lemmas.List.Elements.{Contains-append_left, Contains-append_right}
use Rattle.std.proofs.lemmas.Option.{none-some, same_Some}
use Rattle.sf_base.proofs.Elements.{contains-cons}
use Rattle.sf_base.proofs.Members.{contains-flat_map, contains-map}
use Rattle.sf_core.specs.Assertions.Determined.{Determined}
use Rattle.sf_core.specs.Program.Syntax.{Procedure, Program, Resource}
use Rattle.sf_own.specs.Checked.Accepted.{IsAccepted}
use Rattle.sf_precise.specs.Annotations.{notes_of}

-- what has a number in a list is in it
slice-contains : {X : Type 0} (xs : List X) (i : ℕ) (x : X) → slice_get xs i ≡ Some x
    → Contains xs x
slice-contains [] i x e = absurd (none-some x e)
slice-contains (y ∷ ys) zero x e = (contains-cons y ys x).1 (inl (same_Some y x e))
slice-contains (y ∷ ys) (suc i) x e = (contains-cons y ys x).1 (inr (slice-contains ys i x e))

module _ (p : Program) (known : IsAccepted p) where
  pub determined-invariant : (number : ℕ) (r : Resource) → slice_get p.resources number ≡ Some r
      → Determined r.invariant.level
  determined-invariant number r there = known.determined r.invariant
      (Contains-append_left (map (λ (r : Resource). r.invariant) p.resources)
      (flat_map notes_of p.procedures) r.invariant
      (contains-map (λ (r : Resource). r.invariant) p.resources r
      (slice-contains p.resources number r there)))

  pub determined-pre : (number : ℕ) (g : Procedure) → slice_get p.procedures number ≡ Some g
      → Determined g.pre.level
  determined-pre number g there = known.determined g.pre
      (Contains-append_right (map (λ (r : Resource). r.invariant) p.resources)
      (flat_map notes_of p.procedures) g.pre
      (contains-flat_map notes_of p.procedures g g.pre (slice-contains p.procedures number g there)
      ((contains-cons g.pre _ g.pre).1 (inl refl))))
