-- A program's resources have ranks or a first cycle, one of them, and only one.
-- Names: `one-WHAT`.
use Rattle.std.specs.Prelude.{◌≡◌, ◌↔◌, ℕ, ◌≤◌, List, [], ◌∷◌, length}
use Rattle.std.proofs.Common.{sym, ap, refl, subst, inl, inr, arith}
use Rattle.sf_base.specs.declared.ids.ResId.{ResId}
use Rattle.sf_core.specs.Program.Formed.{IsFormed}
use Rattle.sf_core.specs.Program.Syntax.{Program}
use Rattle.sf_calls.specs.Checked.Lemmas.Decided.{resource}
use Rattle.sf_order.specs.Cycles.{IsCycle, IsFirstCycle, IsFirstFrom, IsNotAfter}
use Rattle.sf_order.specs.Nests.{ArePairsOf, IsPair, Nests}
use Rattle.sf_order.specs.Checked.Laws.{IsOrdered}
use Rattle.sf_order.proofs.Existence.{pairs-exist, some-order}
use Rattle.sf_order.proofs.Rising.{ranking-no_cycle, ranking-unique}
use Rattle.sf_order.proofs.Rows.{pairs-below}
use Rattle.sf_order.proofs.Walks.{first_cycle-same, ranking-same}

-- lists neither of which is after the other are one
one-order : (xs ys : List ResId) → length xs ≡ length ys → IsNotAfter xs ys → IsNotAfter ys xs → xs ≡ ys
one-order [] [] e h k = refl
one-order [] (y ∷ ys) e h k = absurd (omega (arith, e))
one-order (x ∷ xs) [] e h k = absurd h
one-order (x ∷ xs) (y ∷ ys) e (inl h) (inl k) = absurd (omega (arith, h, k))
one-order (x ∷ xs) (y ∷ ys) e (inl h) (inr k) =
    let same : y.0 ≡ x.0 = ap (λ (r : ResId). r.0) k.0 in absurd (omega (arith, h))
one-order (x ∷ xs) (y ∷ ys) e (inr h) (inl k) =
    let same : x.0 ≡ y.0 = ap (λ (r : ResId). r.0) h.0 in absurd (omega (arith, k))
one-order (x ∷ xs) (y ∷ ys) e (inr h) (inr k) =
    joined h.0 (one-order xs ys (omega (arith, e)) h.1 k.1)
  where
    joined : x ≡ y → xs ≡ ys → x ∷ xs ≡ y ∷ ys
    joined e f = cc

-- there is one first cycle
one-from : (R : ResId → ResId → Type 0) (x y : ResId) (xs ys : List ResId) → IsFirstFrom R x xs → IsFirstFrom R y ys
    → x ∷ xs ≡ y ∷ ys
one-from R x y xs ys h k =
    let one : x.0 ≤ y.0 = h.earliest y ys k.cycle in
    let two : y.0 ≤ x.0 = k.earliest x xs h.cycle in
    let same : x ≡ y = ap resource (number x.0 y.0 one two) in
    go same
  where
    number : (a b : ℕ) → a ≤ b → b ≤ a → a ≡ b
    number a b l m = omega arith

    joined : x ≡ y → xs ≡ ys → x ∷ xs ≡ y ∷ ys
    joined e f = cc

    go : x ≡ y → x ∷ xs ≡ y ∷ ys
    go e =
        let there : IsCycle R (x ∷ ys) = subst (λ (t : ResId). IsCycle R (t ∷ ys)) (sym e) k.cycle in
        let back : IsCycle R (y ∷ xs) = subst (λ (t : ResId). IsCycle R (t ∷ xs)) e h.cycle in
        let size : length xs ≡ length ys = number (length xs) (length ys) (h.shortest ys there) (k.shortest xs back) in
        joined e (one-order xs ys size (h.first ys there (sym size)) (k.first xs back size))

one-cycle : (R : ResId → ResId → Type 0) (xs ys : List ResId) → IsFirstCycle R xs → IsFirstCycle R ys → xs ≡ ys
one-cycle R [] ys h k = absurd h
one-cycle R (x ∷ xs) [] h k = absurd k
one-cycle R (x ∷ xs) (y ∷ ys) h k = one-from R x y xs ys h k

-- what is a first cycle is a cycle
is-cycle : (R : ResId → ResId → Type 0) (xs : List ResId) → IsFirstCycle R xs → IsCycle R xs
is-cycle R [] h = h
is-cycle R (x ∷ xs) h = h.cycle

module _ (p : Program) (formed : IsFormed p) where
  pub is_ordered : IsOrdered p
  is_ordered =
      let found = pairs-exist p formed in
      let below = pairs-below p formed found.0 found.1 in
      record {
        ranks = λ ranks others k h.
            ranking-unique found.0 (length p.resources) below ranks others
            (ranking-same (Nests p) (IsPair found.0) (back found.0 found.1) (length p.resources) ranks k)
            (ranking-same (Nests p) (IsPair found.0) (back found.0 found.1) (length p.resources) others h);
        cycles = one-cycle (Nests p);
        apart = λ ranks xs k h.
            ranking-no_cycle found.0 (length p.resources) ranks below
            (ranking-same (Nests p) (IsPair found.0) (back found.0 found.1) (length p.resources) ranks k) xs
            (is-cycle (IsPair found.0) xs (first_cycle-same (Nests p) (IsPair found.0) (back found.0 found.1) xs h));
        some = elim (some-order (length p.resources) found.0 below) [
          | inl f ↦ inl (
            f.0,
            ranking-same (IsPair found.0) (Nests p) (there found.0 found.1) (length p.resources) f.0 f.1,
            f.2,
          )
          | inr f ↦ inr (f.0, first_cycle-same (IsPair found.0) (Nests p) (there found.0 found.1) f.0 f.1)
        ];
      }
    where
      there : (pairs : List (ResId × ResId)) → ArePairsOf p pairs → (r s : ResId) → IsPair pairs r s ↔ Nests p r s
      there pairs are r s = (are.members (r, s))

      back : (pairs : List (ResId × ResId)) → ArePairsOf p pairs → (r s : ResId) → Nests p r s ↔ IsPair pairs r s
      back pairs are r s = ((are.members (r, s)).1, (are.members (r, s)).0)
