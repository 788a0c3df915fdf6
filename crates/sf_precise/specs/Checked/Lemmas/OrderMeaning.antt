-- Conjuncts in order: there is one order at most, it means the same, and what is in order is determined.
-- Names: `order-LAW` speaks of conjuncts, `within-LAW` of one conjunct, `inside-LAW` of a branch.
use Rattle.std.specs.Prelude.{◌≡◌, ◌⊎◌, ℕ, Bool, true, false, ◌||◌}
use Rattle.std.proofs.Common.{sym, ap, ap₂, ◌∙◌, refl, subst, inl, inr}
use Rattle.std.proofs.lemmas.Bool.{or_cases}
use Rattle.sf_base.specs.declared.value.Value.{Value}
use Rattle.sf_core.specs.declared.assertion.Operand.{Operand}
use Rattle.sf_core.specs.declared.assertion.Operand.TheVariants.{Known, Exists}
use Rattle.sf_core.specs.declared.assertion.Test.TheVariants.{True, Equal, Differ}
use Rattle.sf_core.proofs.Assertions.Determined.{leaves-focus, leaves-unfocus}
use Rattle.sf_base.proofs.HeapSplits.{star-map}
use Rattle.sf_base.proofs.Sums.{either}
use Rattle.sf_core.specs.Assertions.Determined.{CanBeTaken, Determined, HasOrder, IsKnown, all_taken, branches, known_after, known_inside, plain, take}
use Rattle.sf_base.specs.HeapStore.{Heap}
use Rattle.sf_core.specs.Assertions.InOrder.{InOrder, IsNext, IsInOrder, is_known}
use Rattle.sf_core.specs.Assertions.Sat.{Sat, SatAll, SatOne}
use Rattle.sf_core.specs.Program.Syntax.{Conjunct, holds, points, segment, doubly, tree, choose, Level, level, Conjuncts, none, also}
use Rattle.sf_precise.specs.Order.{IsFirstReady, IsOrder, IsOrderFrom, IsOrderInside, IsOrderWithin}
use Rattle.sf_precise.specs.Checked.Lemmas.Agree.{first-leaves}

module _ {E : Type 0} (v : E → Value) where
  mutual
    -- what conjuncts say, they say in order
    order-sat : (known : ℕ → Bool) (cs os : Conjuncts E) (s : ℕ → Value) (heap : Heap) → IsOrder known cs os
        → SatAll cs v s heap → SatAll os v s heap
    order-sat known cs none s h o d = subst (λ z. SatAll z v s h) o d
    order-sat known cs (also c os) s h o d =
        star-map (λ part e. within-sat known o.0 c s part o.3 e)
        (λ part e. order-sat (known_after o.0 known) o.1 os s part o.4 e)
        (leaves-focus v cs o.0 o.1 s h (first-leaves known cs o.0 o.1 o.2).0 d)

    within-sat : (known : ℕ → Bool) (c o : Conjunct E) (s : ℕ → Value) (heap : Heap)
        → IsOrderWithin known c o → SatOne c v s heap → SatOne o v s heap
    within-sat known c (holds p t) s h w d = subst (λ z. SatOne z v s h) w d
    within-sat known c (points p x fs) s h w d = subst (λ z. SatOne z v s h) w d
    within-sat known c (segment p next x y) s h w d = subst (λ z. SatOne z v s h) w d
    within-sat known c (doubly p next back x b z y) s h w d = subst (λ z. SatOne z v s h) w d
    within-sat known c (tree p left right x) s h w d = subst (λ z. SatOne z v s h) w d
    within-sat known c (choose p t this that) s h w d =
        let e : SatOne (choose p t w.0 w.1) v s h = subst (λ z. SatOne z v s h) w.2 d in
        (λ i. inside-sat known w.0 this s h w.3 (e.0 i), λ i. inside-sat known w.1 that s h w.4 (e.1 i))

    inside-sat : (known : ℕ → Bool) (a o : Level E) (s : ℕ → Value) (heap : Heap) → IsOrderInside known a o
        → Sat a v s heap → Sat o v s heap
    inside-sat known a (level made os) s h w d =
        let e : Sat (level made w.0) v s h = subst (λ z. Sat z v s h) w.1 d in
        (e.0, e.1, order-sat (known_inside made known) w.0 os e.0 h w.2 e.2)

  mutual
    -- and the other way round
    sat-order : (known : ℕ → Bool) (cs os : Conjuncts E) (s : ℕ → Value) (heap : Heap) → IsOrder known cs os
        → SatAll os v s heap → SatAll cs v s heap
    sat-order known cs none s h o d = subst (λ z. SatAll z v s h) (sym o) d
    sat-order known cs (also c os) s h o d =
        leaves-unfocus v cs o.0 o.1 s h (first-leaves known cs o.0 o.1 o.2).0
        (star-map (λ part e. sat-within known o.0 c s part o.3 e)
        (λ part e. sat-order (known_after o.0 known) o.1 os s part o.4 e) d)

    sat-within : (known : ℕ → Bool) (c o : Conjunct E) (s : ℕ → Value) (heap : Heap)
        → IsOrderWithin known c o → SatOne o v s heap → SatOne c v s heap
    sat-within known c (holds p t) s h w d = subst (λ z. SatOne z v s h) (sym w) d
    sat-within known c (points p x fs) s h w d = subst (λ z. SatOne z v s h) (sym w) d
    sat-within known c (segment p next x y) s h w d = subst (λ z. SatOne z v s h) (sym w) d
    sat-within known c (doubly p next back x b z y) s h w d = subst (λ z. SatOne z v s h) (sym w) d
    sat-within known c (tree p left right x) s h w d = subst (λ z. SatOne z v s h) (sym w) d
    sat-within known c (choose p t this that) s h w d =
        subst (λ z. SatOne z v s h) (sym w.2)
        (λ i. sat-inside known w.0 this s h w.3 (d.0 i), λ i. sat-inside known w.1 that s h w.4 (d.1 i))

    sat-inside : (known : ℕ → Bool) (a o : Level E) (s : ℕ → Value) (heap : Heap) → IsOrderInside known a o
        → Sat o v s heap → Sat a v s heap
    sat-inside known a (level made os) s h w d =
        subst (λ z. Sat z v s h) (sym w.1)
        (d.0, d.1, sat-order (known_inside made known) w.0 os d.0 h w.2 d.2)

  pub level-sat : (known : ℕ → Bool) (a o : Level E) (s : ℕ → Value) (heap : Heap) → IsOrderFrom known a o
      → Sat a v s heap → Sat o v s heap
  level-sat known a (level made os) s h w d =
      let e : Sat (level made w.0) v s h = subst (λ z. Sat z v s h) w.1 d in
      (e.0, e.1, order-sat known w.0 os e.0 h w.2 e.2)

  pub sat-level : (known : ℕ → Bool) (a o : Level E) (s : ℕ → Value) (heap : Heap) → IsOrderFrom known a o
      → Sat o v s heap → Sat a v s heap
  sat-level known a (level made os) s h w d =
      subst (λ z. Sat z v s h) (sym w.1) (d.0, d.1, sat-order known w.0 os d.0 h w.2 d.2)

module _ {E : Type 0} where
  -- the first that is ready is one
  pub first-one : (known : ℕ → Bool) (cs : Conjuncts E) (c d : Conjunct E) (rest others : Conjuncts E)
      → IsFirstReady known cs c rest → IsFirstReady known cs d others → (c ≡ d) × (rest ≡ others)
  first-one known none c d rest others i j = absurd i
  first-one known (also b bs) c d rest others (inl i) (inl j) = (sym i.1 ∙ j.1, sym i.2 ∙ j.2)
  first-one known (also b bs) c d rest others (inl i) (inr j) = absurd (j.0 i.0)
  first-one known (also b bs) c d rest others (inr i) (inl j) = absurd (i.0 j.0)
  first-one known (also b bs) c d rest others (inr i) (inr j) =
      let more = first-one known bs c d i.1.0 j.1.0 i.1.1 j.1.1 in
      (more.0, i.1.2 ∙ ap (also b) more.1 ∙ sym j.1.2)

  -- a conjunct without branches is its own order
  plain-one : (known : ℕ → Bool) (c u : Conjunct E)
      → ((p : _) (t : _) (this that : Level E) → c ≡ choose p t this that → ⊥) → IsOrderWithin known c u
      → c ≡ u
  plain-one known c (holds p t) n w = w
  plain-one known c (points p x fs) n w = w
  plain-one known c (segment p next x y) n w = w
  plain-one known c (doubly p next back x b z y) n w = w
  plain-one known c (tree p left right x) n w = w
  plain-one known c (choose p t this that) n w = absurd (n p t w.0 w.1 w.2)

  mutual
    -- there is one order at most
    order-one : (known : ℕ → Bool) (cs os us : Conjuncts E) → IsOrder known cs os → IsOrder known cs us
        → os ≡ us
    order-one known cs none none o u = refl
    order-one known cs none (also d us) o u = absurd (subst (λ z. IsFirstReady known z u.0 u.1) o u.2)
    order-one known cs (also c os) none o u = absurd (subst (λ z. IsFirstReady known z o.0 o.1) u o.2)
    order-one known cs (also c os) (also d us) o u =
        let same = first-one known cs o.0 u.0 o.1 u.1 o.2 u.2 in
        ap₂ also (within-one known o.0 c d o.3 (subst (λ z. IsOrderWithin known z d) (sym same.0) u.3))
        (order-one (known_after o.0 known) o.1 os us o.4
        (subst (λ z. IsOrder (known_after o.0 known) z us) (sym same.1)
        (subst (λ z. IsOrder (known_after z known) u.1 us) (sym same.0) u.4)))

    within-one : (known : ℕ → Bool) (c o u : Conjunct E) → IsOrderWithin known c o → IsOrderWithin known c u
        → o ≡ u
    within-one known c (holds p t) u w x =
        sym w
        ∙ plain-one known c u (λ q r this that e. let k : holds p t ≡ choose q r this that = sym w ∙ e in
        cc) x
    within-one known c (points p y fs) u w x =
        sym w
        ∙ plain-one known c u (λ q r this that e. let k : points p y fs ≡ choose q r this that = sym w
        ∙ e in cc) x
    within-one known c (segment p next y z) u w x =
        sym w
        ∙ plain-one known c u (λ q r this that e. let k : segment p next y z ≡ choose q r this that = sym w
        ∙ e in cc) x
    within-one known c (doubly p next back y b l z) u w x =
        sym w
        ∙ plain-one known c u (λ q r this that e.
        let k : doubly p next back y b l z ≡ choose q r this that = sym w ∙ e in cc) x
    within-one known c (tree p left right y) u w x =
        sym w
        ∙ plain-one known c u (λ q r this that e. let k : tree p left right y ≡ choose q r this that = sym w
        ∙ e in cc) x
    within-one known c (choose p t this that) (holds q r) w x =
        absurd (let k : choose p t w.0 w.1 ≡ holds q r = sym w.2 ∙ x in cc)
    within-one known c (choose p t this that) (points q y fs) w x =
        absurd (let k : choose p t w.0 w.1 ≡ points q y fs = sym w.2 ∙ x in cc)
    within-one known c (choose p t this that) (segment q next y z) w x =
        absurd (let k : choose p t w.0 w.1 ≡ segment q next y z = sym w.2 ∙ x in cc)
    within-one known c (choose p t this that) (doubly q next back y b l z) w x =
        absurd (let k : choose p t w.0 w.1 ≡ doubly q next back y b l z = sym w.2 ∙ x in cc)
    within-one known c (choose p t this that) (tree q left right y) w x =
        absurd (let k : choose p t w.0 w.1 ≡ tree q left right y = sym w.2 ∙ x in cc)
    within-one known c (choose p t this that) (choose q r these those) w x =
        let k : choose p t w.0 w.1 ≡ choose q r x.0 x.1 = sym w.2 ∙ x.2 in
        let one : w.0 ≡ x.0 = cc in
        let two : w.1 ≡ x.1 = cc in
        let place : p ≡ q = cc in
        let test : t ≡ r = cc in
        let first : this ≡ these = inside-one known w.0 this these w.3
        (subst (λ z. IsOrderInside known z these) (sym one) x.3) in
        let second : that ≡ those = inside-one known w.1 that those w.4
        (subst (λ z. IsOrderInside known z those) (sym two) x.4) in
        cc

    inside-one : (known : ℕ → Bool) (a o u : Level E) → IsOrderInside known a o → IsOrderInside known a u
        → o ≡ u
    inside-one known a (level made os) (level other us) w x =
        let k : level made w.0 ≡ level other x.0 = sym w.1 ∙ x.1 in
        let one : w.0 ≡ x.0 = cc in
        let two : made ≡ other = cc in
        let same : os ≡ us = order-one (known_inside made known) w.0 os us w.2
        (subst (λ z. IsOrder (known_inside made known) z us) (sym one)
        (subst (λ z. IsOrder (known_inside z known) x.0 us) (sym two) x.2)) in
        cc

  pub level-one : (known : ℕ → Bool) (a o u : Level E) → IsOrderFrom known a o → IsOrderFrom known a u → o ≡ u
  level-one known a (level made os) (level other us) w x =
      let k : level made w.0 ≡ level other x.0 = sym w.1 ∙ x.1 in
      let one : w.0 ≡ x.0 = cc in
      let two : made ≡ other = cc in
      let same : os ≡ us = order-one known w.0 os us w.2 (subst (λ z. IsOrder known z us) (sym one) x.2) in
      cc

  is-known : (known : ℕ → Bool) (x : Operand E) → is_known known x ≡ true → IsKnown known x
  is-known known (Known e) k = tt
  is-known known (Exists n) k = k

  known-one : (known : ℕ → Bool) (x y : Operand E) → is_known known x || is_known known y ≡ true
      → IsKnown known x ⊎ IsKnown known y
  known-one known x y i =
      either (or_cases (is_known known x) (is_known known y) i) (λ j. inl (is-known known x j))
      (λ j. inr (is-known known y j))

  mutual
    -- conjuncts that are in order have an order
    stands-has : (known : ℕ → Bool) (cs : Conjuncts E) → InOrder known cs → HasOrder known cs
    stands-has known none i = all_taken refl
    stands-has known (also c cs) i =
        take c cs (inl (refl, refl)) (next-taken known c i.0) (stands-has (known_after c known) cs i.1)

    next-taken : (known : ℕ → Bool) (c : Conjunct E) → IsNext known c → CanBeTaken known c
    next-taken known (holds p True) i = plain tt
    next-taken known (holds p (Equal x y)) i = plain (known-one known x y i)
    next-taken known (holds p (Differ x y)) i = plain i
    next-taken known (points p x fs) i = plain i
    next-taken known (segment p next x y) i = plain i
    next-taken known (doubly p next back x b z y) i = plain i
    next-taken known (tree p left right x) i = plain i
    next-taken known (choose p t (level made this) (level other that)) i =
        branches p t made other this that refl i.0 (stands-has (known_inside made known) this i.1)
        (stands-has (known_inside other known) that i.2)

  pub stands-determined : (a : Level E) → IsInOrder a → Determined a
  stands-determined (level made cs) i = stands-has (λ n. false) cs i
