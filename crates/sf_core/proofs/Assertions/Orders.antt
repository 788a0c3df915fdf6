-- Orders of conjuncts: knowing more does no harm, and any conjunct that is ready may be taken first.
-- Names: `order-LAW` of conjuncts in an order, `taken-LAW`, `ready-LAW` of one, `leaves-LAW` of a list without one.
use Rattle.std.specs.Prelude.{◌≡◌, ◌⊎◌, ℕ, Bool, true, not, ◌&&◌, ◌||◌}
use Rattle.std.proofs.Common.{sym, ap, ap₂, ◌∙◌, refl, subst, subst₂, inl, inr}
use Rattle.std.proofs.lemmas.Bool.{and_parts, or_cases, or_left, or_right}
use Rattle.sf_base.proofs.Sums.{either}
use Rattle.sf_core.specs.declared.assertion.Operand.{Operand}
use Rattle.sf_core.specs.declared.assertion.Operand.TheVariants.{Known, Exists}
use Rattle.sf_core.specs.declared.assertion.Scope.{Scope}
use Rattle.sf_core.specs.declared.assertion.Test.TheVariants.{True, Equal, Differ}
use Rattle.sf_core.specs.Assertions.Determined.{CanBeTaken, HasOrder, IsKnown, IsReady, Leaves, all_taken, branches, is_learned, known_after, known_inside, plain, take}
use Rattle.sf_core.specs.Assertions.Scopes.{is_made_by}
use Rattle.sf_core.specs.Program.Syntax.{Conjunct, holds, points, segment, doubly, tree, choose, Conjuncts, none, also}

-- whatever the first knows, the second knows
abbrev pub KnowsMore : (ℕ → Bool) → (ℕ → Bool) → Type 0
KnowsMore known more = (n : ℕ) → known n ≡ true → more n ≡ true

-- so it is once one more conjunct is taken
pub more-after : {E : Type 0} (c : Conjunct E) (known more : ℕ → Bool) → KnowsMore known more
    → KnowsMore (known_after c known) (known_after c more)
more-after c known more m n e = either (or_cases (known n) (is_learned c n) e)
    (λ i. or_left (more n) (is_learned c n) (m n i)) (λ i. or_right (more n) (is_learned c n) i)

-- so it is inside a level
pub more-inside : (made : Scope) (known more : ℕ → Bool) → KnowsMore known more
    → KnowsMore (known_inside made known) (known_inside made more)
more-inside made known more m n e = let i =
    and_parts (known n) (not (is_made_by made n)) e in ap₂ ◌&&◌ (m n i.0) i.1

-- what is known stays so once a conjunct is taken
pub more-taken : {E : Type 0} (c : Conjunct E) (known : ℕ → Bool) → KnowsMore known (known_after c known)
more-taken c known n e = or_left (known n) (is_learned c n) e

-- of two conjuncts it does not matter which is taken first
pub more-swap : {E : Type 0} (c d : Conjunct E) (known : ℕ → Bool)
    → KnowsMore (known_after c (known_after d known)) (known_after d (known_after c known))
more-swap c d known n e =
    either (or_cases (known n || is_learned d n) (is_learned c n) e)
    (λ i. either (or_cases (known n) (is_learned d n) i)
    (λ j. or_left (known n || is_learned c n) (is_learned d n) (or_left (known n) (is_learned c n) j))
    (λ j. or_right (known n || is_learned c n) (is_learned d n) j))
    (λ i. or_left (known n || is_learned c n) (is_learned d n) (or_right (known n) (is_learned c n) i))

known-more : {E : Type 0} (known more : ℕ → Bool) (x : Operand E) → KnowsMore known more → IsKnown known x
    → IsKnown more x
known-more known more (Known x) m i = tt
known-more known more (Exists n) m i = m n i

-- a conjunct that is ready stays ready where more is known
pub ready-more : {E : Type 0} (known more : ℕ → Bool) (c : Conjunct E) → KnowsMore known more
    → IsReady known c → IsReady more c
ready-more known more (holds p True) m i = tt
ready-more known more (holds p (Equal x y)) m i =
    either i (λ j. inl (known-more known more x m j)) (λ j. inr (known-more known more y m j))
ready-more known more (holds p (Differ x y)) m i =
    (known-more known more x m i.0, known-more known more y m i.1)
ready-more known more (points p x fs) m i = known-more known more x m i
ready-more known more (segment p next x y) m i =
    (known-more known more x m i.0, known-more known more y m i.1)
ready-more known more (doubly p next back x b l y) m i = (
  known-more known more x m i.0,
  known-more known more b m i.1,
  known-more known more l m i.2,
  known-more known more y m i.3,
)
ready-more known more (tree p left right x) m i = known-more known more x m i
ready-more known more (choose p t this that) m i = i

mutual
  -- conjuncts that have an order have one where more is known
  pub order-more : {E : Type 0} (known more : ℕ → Bool) (cs : Conjuncts E) → HasOrder known cs
      → KnowsMore known more → HasOrder more cs
  order-more known more cs (all_taken i) m = all_taken i
  order-more known more cs (take c rest l f o) m =
      take c rest l (taken-more known more c f m)
      (order-more (known_after c known) (known_after c more) rest o (more-after c known more m))

  -- a conjunct that can be taken can be taken where more is known
  pub taken-more : {E : Type 0} (known more : ℕ → Bool) (c : Conjunct E) → CanBeTaken known c
      → KnowsMore known more → CanBeTaken more c
  taken-more known more c (plain i) m = plain (ready-more known more c m i)
  taken-more known more c (branches p t made other this that i o a b) m =
      branches p t made other this that i (λ n j. m n (o n j))
      (order-more (known_inside made known) (known_inside made more) this a (more-inside made known more m))
      (order-more (known_inside other known) (known_inside other more) that b
      (more-inside other known more m))

module _ {E : Type 0} where
  -- two conjuncts that can each come first are the same one, or come one after the other in either order
  pub leaves-diamond : (cs : Conjuncts E) (c d : Conjunct E) (rest others : Conjuncts E) → Leaves cs c rest
      → Leaves cs d others → ((c ≡ d) × (rest ≡ others))
      ⊎ ((both : Conjuncts E) × Leaves rest d both × Leaves others c both)
  leaves-diamond none c d rest others l m = absurd l
  leaves-diamond (also b bs) c d rest others (inl l) (inl m) = inl (sym l.0 ∙ m.0, sym l.1 ∙ m.1)
  leaves-diamond (also b bs) c d rest others (inl l) (inr m) =
      inr (m.0, subst (λ z. Leaves z d m.0) l.1 m.1, subst (λ z. Leaves z c m.0) (sym m.2) (inl (l.0, refl)))
  leaves-diamond (also b bs) c d rest others (inr l) (inl m) =
      inr (l.0, subst (λ z. Leaves z d l.0) (sym l.2) (inl (m.0, refl)), subst (λ z. Leaves z c l.0) m.1 l.1)
  leaves-diamond (also b bs) c d rest others (inr l) (inr m) =
      either (leaves-diamond bs c d l.0 m.0 l.1 m.1)
      (λ i. inl (i.0, l.2 ∙ ap (also b) i.1 ∙ sym m.2))
      (λ i. inr (
        also b i.0,
        subst (λ z. Leaves z d (also b i.0)) (sym l.2) (inr (i.0, i.1, refl)),
        subst (λ z. Leaves z c (also b i.0)) (sym m.2) (inr (i.0, i.2, refl)),
      ))

  -- where conjuncts have an order, any of them that can be taken may come first
  pub order-first : (known : ℕ → Bool) (cs : Conjuncts E) → HasOrder known cs
      → (c : Conjunct E) (rest : Conjuncts E) → Leaves cs c rest → CanBeTaken known c
      → HasOrder (known_after c known) rest
  order-first known cs (all_taken i) c rest m k = absurd (subst (λ z. Leaves z c rest) i m)
  order-first known cs (take d others l f o) c rest m k =
      let again = λ (both : Conjuncts E) (p : Leaves others c both). order-first (known_after d known) others
      o c both p (taken-more known (known_after d known) c k (more-taken d known)) in
      either (leaves-diamond cs d c others rest l m)
      (λ i. subst₂ (λ x y. HasOrder (known_after x known) y) i.0 i.1 o)
      (λ i. take d i.0 i.2 (taken-more known (known_after c known) d f (more-taken c known))
      (order-more (known_after c (known_after d known)) (known_after d (known_after c known)) i.0
      (again i.0 i.1) (more-swap c d known)))

  also-not_none : (c : Conjunct E) (cs : Conjuncts E) → also c cs ≡ none → ⊥
  also-not_none c cs e = cc

  -- where conjuncts are left and none of them can be taken, they have no order
  pub order-stuck : (known : ℕ → Bool) (c : Conjunct E) (cs : Conjuncts E)
      → ((d : Conjunct E) (rest : Conjuncts E) → Leaves (also c cs) d rest → CanBeTaken known d → ⊥)
      → HasOrder known (also c cs) → ⊥
  order-stuck known c cs n o = go (also c cs) refl o
    where
      go : (ds : Conjuncts E) → ds ≡ also c cs → HasOrder known ds → ⊥
      go ds e (all_taken i) = also-not_none c cs (sym e ∙ i)
      go ds e (take d rest l f q) = n d rest (subst (λ z. Leaves z d rest) e l) f
