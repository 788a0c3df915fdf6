-- Walks along a relation and cycles of it.
-- Names: `leads-LAW` of walks, `cycle-LAW` of cycles.
use Rattle.std.specs.Prelude.{◌↔◌, ℕ, ◌<◌, List, [], ◌∷◌}
use Rattle.std.proofs.Common.{inl, inr, arith}
use Rattle.sf_base.specs.declared.ids.ResId.{ResId}
use Rattle.sf_order.specs.Answers.{IsCause}
use Rattle.sf_order.specs.Cycles.{Leads, IsCycle, IsFirstCycle}
use Rattle.sf_order.specs.Rank.{IsRanking}
use Rattle.sf_order.specs.declared.ranked.RankFault.{RankFault}
use Rattle.sf_order.specs.declared.ranked.RankFault.TheVariants.{Cycle, OutOfMemory}

module _ {A : Type 0} (R S : A → A → Type 0) (k : (x y : A) → R x y → S x y) where
  -- a walk of a relation is one of each relation that follows from it
  pub leads-map : (x : A) (zs : List A) (y : A) → Leads R x zs y → Leads S x zs y
  leads-map x [] y h = k x y h
  leads-map x (z ∷ zs) y h = (k x z h.0, leads-map z zs y h.1)

  -- and so is a cycle
  pub cycle-map : (xs : List A) → IsCycle R xs → IsCycle S xs
  cycle-map [] h = h
  cycle-map (x ∷ xs) h = leads-map x xs x h

module _ {A : Type 0} (R : A → A → Type 0) (rank : A → ℕ) (up : (x y : A) → R x y → rank x < rank y) where
  -- what rises along each step has risen along a walk
  pub leads-rises : (x : A) (zs : List A) (y : A) → Leads R x zs y → rank x < rank y
  leads-rises x [] y h = up x y h
  leads-rises x (z ∷ zs) y h =
      let one : rank x < rank z = up x z h.0 in
      let rest : rank z < rank y = leads-rises z zs y h.1 in
      omega arith

  -- so there is no cycle
  pub cycle-none : (xs : List A) → IsCycle R xs → ⊥
  cycle-none [] h = h
  cycle-none (x ∷ xs) h = let more : rank x < rank x = leads-rises x xs x h in absurd (omega arith)

-- two relations of the same pairs have the same first cycle and the same ranks
module _ (R S : ResId → ResId → Type 0) (same : (r s : ResId) → R r s ↔ S r s) where
  to : (r s : ResId) → R r s → S r s
  to r s = (same r s).0

  back : (r s : ResId) → S r s → R r s
  back r s = (same r s).1

  pub first_cycle-same : (xs : List ResId) → IsFirstCycle R xs → IsFirstCycle S xs
  first_cycle-same [] h = h
  first_cycle-same (x ∷ xs) h = record {
    cycle = cycle-map R S to (x ∷ xs) h.cycle;
    earliest = λ y ys k. h.earliest y ys (cycle-map S R back (y ∷ ys) k);
    shortest = λ ys k. h.shortest ys (cycle-map S R back (x ∷ ys) k);
    first = λ ys k n. h.first ys (cycle-map S R back (x ∷ ys) k) n;
  }

  pub cause-same : (fault : RankFault) → IsCause R fault → IsCause S fault
  cause-same (Cycle xs) h = first_cycle-same xs h
  cause-same OutOfMemory h = h

  pub ranking-same : (count : ℕ) (ranks : List ℕ) → IsRanking R count ranks → IsRanking S count ranks
  ranking-same count ranks h = record {
    each = h.each;
    is = λ s l. elim (h.is s l) [
      | inl low ↦ inl (low.0, λ r k. low.1 r (back r s k))
      | inr more ↦ inr (record {
        below = more.below;
        related = to more.below s more.related;
        is = more.is;
        greatest = λ r k. more.greatest r (back r s k);
      })
    ];
  }
