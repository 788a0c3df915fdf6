-- Conjuncts that have an order have the one that takes the first ready conjunct again and again, and
-- conjuncts that have none have a first one that is never taken.
-- Names: `order-LAW` speaks of conjuncts, `within-LAW` of one conjunct, `determined-LAW` of a level,
-- `notes-LAW` of annotations.
use Rattle.std.proofs.Common.{◌⊎◌, ◌≤◌, ℕ, zero, suc, Bool, false, List, [], ◌∷◌, ◌++◌, Option, Some, None, slice_index_or, refl, sym, subst, inl, inr, append-nil, append_assoc, arith}
use Rattle.std.specs.List.{All}
use Rattle.std.proofs.lemmas.List.Elements.{All-contains_itself}
use Rattle.sf_base.specs.declared.place.Place.{Place}
use Rattle.sf_core.specs.Assertions.Determined.{CanBeTaken, Determined, HasOrder, all_taken, known_after, known_inside, take}
use Rattle.sf_core.specs.Program.Syntax.{Assertion, Conjunct, holds, points, segment, doubly, tree, choose, Level, level, Conjuncts, none, also}
use Rattle.sf_core.proofs.Assertions.Orders.{order-first, order-stuck}
use Rattle.sf_precise.specs.Annotations.{IsFirstPlace, NeverTakenIn, earlier_of}
use Rattle.sf_precise.specs.Order.{IsOrder, IsOrderOfLevel, IsOrderWithin}
use Rattle.sf_precise.specs.Taken.{IsAmong, IsFirstNeverTaken, NeverTakenAt, Takes, known_by, place_at}
use Rattle.sf_precise.specs.Checked.Lemmas.Agree.{first-leaves}
use Rattle.sf_precise.specs.Checked.Lemmas.Greedy.{taken-branches}
use Rattle.sf_precise.specs.Checked.Lemmas.NeverTaken.{among-leaves, known-then_one, leaves-is, leaves-within, stuck-first, takes-one, then_one}
use Rattle.sf_precise.specs.Checked.Lemmas.Annotated.{place-determined, place-fault, place-none}
use Rattle.sf_precise.specs.Checked.Lemmas.TakenDecided.{count, first-decided, leaves-fewer}

module _ {E : Type 0} where
  -- a conjunct, its branches in order
  abbrev HasWithin : (ℕ → Bool) → Conjunct E → Type 0
  HasWithin known c = (o : Conjunct E) × IsOrderWithin known c o

  -- conjuncts that have an order, of which each that can be taken has its branches in order, are
  -- others in order
  order-found : (n : ℕ) (cs : Conjuncts E) → count cs ≤ n
      → ((c : Conjunct E) → IsAmong cs c → (known : ℕ → Bool) → CanBeTaken known c → HasWithin known c)
      → (known : ℕ → Bool) → HasOrder known cs → (os : Conjuncts E) × IsOrder known cs os
  order-found n none few each known h = (none, refl)
  order-found zero (also c cs) few each known h = absurd (omega arith)
  order-found (suc n) (also c cs) few each known h = elim (first-decided known (also c cs)) [
    | inl f ↦
        let l = first-leaves known (also c cs) f.0 f.1 f.2 in
        let fewer = leaves-fewer (also c cs) f.0 f.1 l.0 in
        let first = each f.0 (leaves-is (also c cs) f.0 f.1 l.0) known l.1 in
        let others = order-found n f.1 (omega arith)
        (λ d a. each d (leaves-within (also c cs) f.0 f.1 d l.0 a)) (known_after f.0 known)
        (order-first known (also c cs) h f.0 f.1 l.0 l.1) in
        (also first.0 others.0, (f.0, f.1, f.2, first.1, others.1))
    | inr stuck ↦ absurd (order-stuck known c cs stuck h)
  ]

  mutual
    -- a conjunct that can be taken has its branches in order
    within-found : (c : Conjunct E) (known : ℕ → Bool) → CanBeTaken known c → HasWithin known c
    within-found (holds p t) known f = (holds p t, refl)
    within-found (points p x fs) known f = (points p x fs, refl)
    within-found (segment p next x y) known f = (segment p next x y, refl)
    within-found (doubly p next back x b z y) known f = (doubly p next back x b z y, refl)
    within-found (tree p left right x) known f = (tree p left right x, refl)
    within-found (choose p t (level made this) (level other that)) known f =
        let have = taken-branches known p t (level made this) (level other that) f in
        let one = order-found (count this) this (omega arith) (each-found this)
        (known_inside made known) have.0 in
        let two = order-found (count that) that (omega arith) (each-found that)
        (known_inside other known) have.1 in (
          choose p t (level made one.0) (level other two.0),
          (level made this, level other that, refl, (this, refl, one.1), (that, refl, two.1)),
        )

    -- so has each of conjuncts
    each-found : (cs : Conjuncts E) (c : Conjunct E) → IsAmong cs c → (known : ℕ → Bool)
        → CanBeTaken known c → HasWithin known c
    each-found none c a known f = absurd a
    each-found (also d ds) c (inl e) known f =
        let o = within-found d known (subst (CanBeTaken known) (sym e) f) in
        (o.0, subst (λ z. IsOrderWithin known z o.0) e o.1)
    each-found (also d ds) c (inr a) known f = each-found ds c a known f

  -- a determined level has its order
  pub determined-order : (a : Level E) → Determined a → (o : Level E) × IsOrderOfLevel a o
  determined-order (level made cs) d =
      let os = order-found (count cs) cs (omega arith) (each-found cs) (λ n. false) d in
      (level made os.0, (cs, refl, os.1))

  -- what is left of conjuncts has an order, or the first of them all that is never taken is somewhere
  order-or_place : (n : ℕ) (known : ℕ → Bool) (cs taken rest : Conjuncts E) → count rest ≤ n
      → Takes known cs taken rest
      → HasOrder (known_by taken known) rest ⊎ ((q : Place) × IsFirstNeverTaken known cs cs q)
  order-or_place n known cs taken none few t = inl (all_taken refl)
  order-or_place zero known cs taken (also c others) few t = absurd (omega arith)
  order-or_place (suc n) known cs taken (also c others) few t =
      elim (first-decided (known_by taken known) (also c others)) [
        | inl f ↦
            let l = first-leaves (known_by taken known) (also c others) f.0 f.1 f.2 in
            let fewer = leaves-fewer (also c others) f.0 f.1 l.0 in
            elim
            (order-or_place n known cs (then_one taken f.0) f.1 (omega arith)
            (takes-one known cs taken (also c others) f.0 f.1 t l.0 l.1)) [
              | inl o ↦
                  inl
                  (take f.0 f.1 l.0 l.1 (subst (λ (k : ℕ → Bool). HasOrder k f.1)
                  (known-then_one known taken f.0) o))
              | inr q ↦ inr q
            ]
        | inr stuck ↦
            inr (
              place_at c,
              stuck-first known cs taken c others t
                  (λ d i. let l = among-leaves (also c others) d i in stuck d l.0 l.1),
            )
      ]

  -- a level is determined, or the first of its conjuncts that is never taken is somewhere
  pub determined-or_place : (a : Level E) → Determined a ⊎ ((q : Place) × NeverTakenAt a q)
  determined-or_place (level made cs) = order-or_place (count cs) (λ n. false) cs none cs (omega arith) refl

-- the first place among annotations, some of which were gone through
notes-place : (more notes : List Assertion) (first : Option Place) → IsFirstPlace (NeverTakenIn notes) first
    → (q : Option Place) × IsFirstPlace (NeverTakenIn (notes ++ more)) q
notes-place [] notes first i =
    (first, subst (λ z. IsFirstPlace (NeverTakenIn z) first) (sym (append-nil notes)) i)
notes-place (a ∷ more) notes first i =
    subst (λ z. (q : Option Place) × IsFirstPlace (NeverTakenIn z) q) (append_assoc notes (a ∷ []) more)
    (elim (determined-or_place a.level) [
      | inl d ↦ notes-place more (notes ++ a ∷ []) first (place-determined notes first a d i)
      | inr n ↦
          notes-place more (notes ++ a ∷ []) (Some (earlier_of first n.0))
          (place-fault notes first a n.0 n.1 i)
    ])

-- annotations are all determined, or there is a first place among them at which a conjunct is never taken
pub notes-or_place : (notes : List Assertion)
    → All (λ a. Determined a.level) notes ⊎ ((q : Place) × IsFirstPlace (NeverTakenIn notes) (Some q))
notes-or_place notes = go (notes-place notes [] None place-none)
  where
    go : (q : Option Place) × IsFirstPlace (NeverTakenIn notes) q
        → All (λ a. Determined a.level) notes ⊎ ((q : Place) × IsFirstPlace (NeverTakenIn notes) (Some q))
    go (Some q, i) = inr (q, i)
    go (None, i) = inl (λ k a h. elim (determined-or_place (slice_index_or notes k a).level) [
      | inl d ↦ d
      | inr n ↦ absurd (i n.0 (slice_index_or notes k a, All-contains_itself notes k a h, n.1))
    ])
