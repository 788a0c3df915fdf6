-- Whether a conjunct can be taken, and whether conjuncts have an order, is decided.
use Rattle.std.proofs.Common.{◌≡◌, ◌⊎◌, ◌≤◌, ℕ, zero, suc, Bool, true, false, List, [], ◌∷◌, refl, sym, ap, ◌∙◌, subst, inl, inr, arith}
use Rattle.sf_base.proofs.Sums.{either}
use Rattle.sf_core.specs.declared.assertion.Operand.{Operand}
use Rattle.sf_core.specs.declared.assertion.Operand.TheVariants.{Known, Exists}
use Rattle.sf_core.specs.declared.assertion.Test.TheVariants.{True, Equal, Differ}
use Rattle.sf_core.proofs.Assertions.Orders.{order-first, order-stuck}
use Rattle.sf_core.specs.Assertions.Determined.{CanBeTaken, HasOrder, IsKnown, IsReady, Leaves, all_taken, branches, known_after, known_inside, plain, take}
use Rattle.sf_core.specs.Assertions.InOrder.{IsSupplied}
use Rattle.sf_core.specs.Program.Syntax.{Conjunct, holds, points, segment, doubly, tree, choose, Level, level, Conjuncts, none, also}
use Rattle.sf_precise.specs.Order.{IsFirstReady}
use Rattle.sf_precise.specs.Checked.Outer.{outer_of}
use Rattle.sf_precise.specs.Taken.{IsAmong}
use Rattle.sf_precise.specs.Checked.Lemmas.Agree.{first-leaves}
use Rattle.sf_precise.specs.Checked.Lemmas.Greedy.{ready-plain, taken-branches, taken-supplied}
use Rattle.sf_precise.specs.Checked.Lemmas.NeverTaken.{leaves-within}
use Rattle.sf_precise.specs.Checked.Lemmas.Ready.{In, in-outer, outer-in}

-- it holds, or it does not
abbrev pub IsDecided : Type 0 → Type 0
IsDecided P = P ⊎ (P → ⊥)

-- a fact that is decided by another name
decided-like : {P Q : Type 0} → (P → Q) → (Q → P) → IsDecided P → IsDecided Q
decided-like to from (inl p) = inl (to p)
decided-like to from (inr n) = inr (λ q. n (from q))

-- two facts
decided-both : {P Q : Type 0} → IsDecided P → IsDecided Q → IsDecided (P × Q)
decided-both (inl p) (inl q) = inl (p, q)
decided-both (inl p) (inr n) = inr (λ h. n h.1)
decided-both (inr n) q = inr (λ h. n h.0)

-- four facts
decided-four : {P Q R S : Type 0} → IsDecided P → IsDecided Q → IsDecided R → IsDecided S
    → IsDecided (P × Q × R × S)
decided-four {P} {Q} {R} {S} p q r s =
    decided-like {P = P × (Q × (R × S))} {Q = P × Q × R × S} (λ h. (h.0, h.1.0, h.1.1.0, h.1.1.1))
    (λ h. (h.0, (h.1, (h.2, h.3)))) (decided-both p (decided-both q (decided-both r s)))

-- one of two facts
decided-either : {P Q : Type 0} → IsDecided P → IsDecided Q → IsDecided (P ⊎ Q)
decided-either (inl p) q = inl (inl p)
decided-either (inr n) (inl q) = inl (inr q)
decided-either (inr n) (inr m) = inr (λ h. either h n m)

-- a test
decided-true : (b : Bool) → IsDecided (b ≡ true)
decided-true true = inl refl
decided-true false = inr (λ e. absurd (cc))

-- all numbers of a list are known
decided-all : (known : ℕ → Bool) (ns : List ℕ) → IsDecided ((n : ℕ) → In ns n → known n ≡ true)
decided-all known [] = inl (λ n i. absurd i)
decided-all known (m ∷ ns) =
    decided-like to from (decided-both (decided-true (known m)) (decided-all known ns))
  where
    to : (known m ≡ true) × ((n : ℕ) → In ns n → known n ≡ true) → (n : ℕ) → In (m ∷ ns) n → known n ≡ true
    to h n (inl e) = ap known e ∙ h.0
    to h n (inr i) = h.1 n i

    from : ((n : ℕ) → In (m ∷ ns) n → known n ≡ true)
        → (known m ≡ true) × ((n : ℕ) → In ns n → known n ≡ true)
    from h = (h m (inl refl), λ n i. h n (inr i))

module _ {E : Type 0} where
  -- that an operand is known
  decided-known : (known : ℕ → Bool) (x : Operand E) → IsDecided (IsKnown known x)
  decided-known known (Known e) = inl tt
  decided-known known (Exists n) = decided-true (known n)

  -- that a conjunct without branches is ready
  decided-ready : (known : ℕ → Bool) (c : Conjunct E) → IsDecided (IsReady known c)
  decided-ready known (holds p True) = inl tt
  decided-ready known (holds p (Equal x y)) = decided-either (decided-known known x) (decided-known known y)
  decided-ready known (holds p (Differ x y)) = decided-both (decided-known known x) (decided-known known y)
  decided-ready known (points p x fs) = decided-known known x
  decided-ready known (segment p next x y) = decided-both (decided-known known x) (decided-known known y)
  decided-ready known (doubly p next back x b z y) =
      decided-four (decided-known known x) (decided-known known b) (decided-known known z) (decided-known known y)
  decided-ready known (tree p left right x) = decided-known known x
  decided-ready known (choose p t this that) = inr (λ h. h)

  -- that all is known that a conjunct takes from outside
  decided-supplied : (known : ℕ → Bool) (c : Conjunct E) → IsDecided (IsSupplied known c)
  decided-supplied known c =
      decided-like (λ h n o. h n (in-outer c n o)) (λ h n i. h n (outer-in c n i))
      (decided-all known (outer_of c))

  -- one of the conjuncts is the first ready one
  abbrev pub HasFirst : (ℕ → Bool) → Conjuncts E → Type 0
  HasFirst known cs = (c : Conjunct E) × (rest : Conjuncts E) × IsFirstReady known cs c rest

  -- none of them can be taken
  abbrev pub IsStuck : (ℕ → Bool) → Conjuncts E → Type 0
  IsStuck known cs = (c : Conjunct E) (rest : Conjuncts E) → Leaves cs c rest → CanBeTaken known c → ⊥

  -- where it is decided which of them can be taken, there is a first ready one or none
  first-or_stuck : (known : ℕ → Bool) (cs : Conjuncts E)
      → ((c : Conjunct E) → IsAmong cs c → IsDecided (CanBeTaken known c))
      → HasFirst known cs ⊎ IsStuck known cs
  first-or_stuck known none each = inr (λ c rest l k. l)
  first-or_stuck known (also d ds) each =
      go (each d (inl refl)) (first-or_stuck known ds (λ c a. each c (inr a)))
    where
      go : IsDecided (CanBeTaken known d) → HasFirst known ds ⊎ IsStuck known ds
          → HasFirst known (also d ds) ⊎ IsStuck known (also d ds)
      go (inl k) more = inl (d, ds, inl (k, refl, refl))
      go (inr k) (inl f) = inl (f.0, also d f.1, inr (k, (f.1, f.2, refl)))
      go (inr k) (inr stuck) =
          inr
          (λ c rest l t. either l (λ i. k (subst (CanBeTaken known) (sym i.0) t))
          (λ i. stuck c i.0 i.1 t))

  -- how many conjuncts there are
  abbrev pub count : Conjuncts E → ℕ
  count none = 0
  count (also c cs) = suc (count cs)

  -- one of them is taken
  pub leaves-fewer : (cs : Conjuncts E) (c : Conjunct E) (rest : Conjuncts E) → Leaves cs c rest
      → count cs ≡ suc (count rest)
  leaves-fewer none c rest l = absurd l
  leaves-fewer (also d ds) c rest (inl l) = ap (λ z. suc (count z)) l.1
  leaves-fewer (also d ds) c rest (inr l) =
      ap suc (leaves-fewer ds c l.0 l.1) ∙ ap (λ z. suc (count z)) (sym l.2)

  -- where it is decided which of them can be taken, it is decided whether they have an order
  order-decided : (n : ℕ) (cs : Conjuncts E) → count cs ≤ n
      → ((c : Conjunct E) → IsAmong cs c → (known : ℕ → Bool) → IsDecided (CanBeTaken known c))
      → (known : ℕ → Bool) → IsDecided (HasOrder known cs)
  order-decided n none few each known = inl (all_taken refl)
  order-decided zero (also c cs) few each known = absurd (omega arith)
  order-decided (suc n) (also c cs) few each known =
      elim (first-or_stuck known (also c cs) (λ d a. each d a known)) [
        | inl f ↦
            let l = first-leaves known (also c cs) f.0 f.1 f.2 in
            decided-like (λ o. take f.0 f.1 l.0 l.1 o) (λ o. order-first known (also c cs) o f.0 f.1 l.0 l.1)
            (order-decided n f.1 (let fewer = leaves-fewer (also c cs) f.0 f.1 l.0 in omega arith)
            (λ d a. each d (leaves-within (also c cs) f.0 f.1 d l.0 a)) (known_after f.0 known))
        | inr stuck ↦ inr (order-stuck known c cs stuck)
      ]

  -- whether a conjunct without branches can be taken
  plain-decided : (known : ℕ → Bool) (c : Conjunct E)
      → ((p : _) (t : _) (this that : Level E) → c ≡ choose p t this that → ⊥)
      → IsDecided (CanBeTaken known c)
  plain-decided known c n = decided-like plain (λ f. ready-plain known c f n) (decided-ready known c)

  mutual
    -- whether a conjunct can be taken
    pub taken-decided : (c : Conjunct E) (known : ℕ → Bool) → IsDecided (CanBeTaken known c)
    taken-decided (choose p t (level made this) (level other that)) known =
        decided-like (λ h. branches p t made other this that refl h.0 h.1.0 h.1.1)
        (λ f. let b = taken-branches known p t (level made this) (level other that) f in
        (taken-supplied known _ p t (level made this) (level other that) refl f, (b.0, b.1)))
        (decided-both (decided-supplied known (choose p t (level made this) (level other that)))
        (decided-both (order-decided (count this) this (omega arith) (each-decided this)
        (known_inside made known))
        (order-decided (count that) that (omega arith) (each-decided that) (known_inside other known))))
    taken-decided c known = plain-decided known c (λ p t this that e. cc)

    -- whether each of conjuncts can be taken
    each-decided : (cs : Conjuncts E) (c : Conjunct E) → IsAmong cs c → (known : ℕ → Bool)
        → IsDecided (CanBeTaken known c)
    each-decided none c a known = absurd a
    each-decided (also d ds) c (inl e) known =
        subst (λ z. IsDecided (CanBeTaken known z)) e (taken-decided d known)
    each-decided (also d ds) c (inr a) known = each-decided ds c a known

  -- there is a first ready conjunct, or none can be taken
  pub first-decided : (known : ℕ → Bool) (cs : Conjuncts E) → HasFirst known cs ⊎ IsStuck known cs
  first-decided known cs = first-or_stuck known cs (λ c a. taken-decided c known)
