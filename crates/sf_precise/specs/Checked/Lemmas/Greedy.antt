-- What the order that takes the first ready conjunct is: an order, in which it is written.
-- Names: `order-LAW` speaks of conjuncts in order, `within-LAW` of one conjunct with its branches in order.
use Rattle.std.specs.Prelude.{◌≡◌, ℕ, Bool, true, ◌||◌}
use Rattle.std.proofs.Common.{sym, ap, refl, ◌∙◌, subst, inl, inr}
use Rattle.std.proofs.lemmas.Bool.{or_left, or_right}
use Rattle.sf_core.specs.declared.assertion.Operand.{Operand}
use Rattle.sf_core.specs.declared.assertion.Operand.TheVariants.{Known, Exists}
use Rattle.sf_core.specs.declared.assertion.Test.TheVariants.{True, Equal, Differ}
use Rattle.sf_base.proofs.Sums.{either}
use Rattle.sf_core.specs.Assertions.Determined.{CanBeTaken, HasOrder, IsKnown, IsReady, all_taken, branches, is_learned, known_after, known_inside, plain, take}
use Rattle.sf_core.specs.Assertions.InOrder.{InOrder, InOrderInside, IsNext, IsSupplied, is_known}
use Rattle.sf_core.specs.Assertions.Occurs.{OccursIn, OccursInAll, OccursInOne}
use Rattle.sf_core.specs.Program.Syntax.{Conjunct, holds, points, segment, doubly, tree, choose, Level, level, Conjuncts, none, also}
use Rattle.sf_precise.specs.Order.{IsOrder, IsOrderInside, IsOrderWithin}
use Rattle.sf_precise.specs.Checked.Prepared.{HasOrderInside}
use Rattle.sf_precise.specs.Checked.Lemmas.Agree.{first-leaves, leaves-occurs_one, leaves-occurs_rest}

module _ {E : Type 0} where
  -- conjuncts in order have an order
  pub order-has : (known : ℕ → Bool) (cs os : Conjuncts E) → IsOrder known cs os → HasOrder known cs
  order-has known cs none o = all_taken o
  order-has known cs (also c os) o =
      let first = first-leaves known cs o.0 o.1 o.2 in
      take o.0 o.1 first.0 first.1 (order-has (known_after o.0 known) o.1 os o.4)

  mutual
    -- conjuncts in order have just what occurs in them
    pub order-occurs : (known : ℕ → Bool) (cs os : Conjuncts E) (x : Operand E) → IsOrder known cs os
        → OccursInAll os x → OccursInAll cs x
    order-occurs known cs none x o i = absurd i
    order-occurs known cs (also c os) x o (inl i) =
        leaves-occurs_one cs o.0 o.1 x (first-leaves known cs o.0 o.1 o.2).0
        (within-occurs known o.0 c x o.3 i)
    order-occurs known cs (also c os) x o (inr i) =
        leaves-occurs_rest cs o.0 o.1 x (first-leaves known cs o.0 o.1 o.2).0
        (order-occurs (known_after o.0 known) o.1 os x o.4 i)

    pub within-occurs : (known : ℕ → Bool) (c o : Conjunct E) (x : Operand E) → IsOrderWithin known c o
        → OccursInOne o x → OccursInOne c x
    within-occurs known c (holds p t) x w i = subst (λ z. OccursInOne z x) (sym w) i
    within-occurs known c (points p y fs) x w i = subst (λ z. OccursInOne z x) (sym w) i
    within-occurs known c (segment p next y z) x w i = subst (λ u. OccursInOne u x) (sym w) i
    within-occurs known c (doubly p next back y b l t) x w i = subst (λ z. OccursInOne z x) (sym w) i
    within-occurs known c (tree p left right y) x w i = subst (λ z. OccursInOne z x) (sym w) i
    within-occurs known c (choose p t this that) x w (inl i) = subst (λ z. OccursInOne z x) (sym w.2) (inl i)
    within-occurs known c (choose p t this that) x w (inr (inl i)) =
        subst (λ z. OccursInOne z x) (sym w.2) (inr (inl (inside-occurs known w.0 this x w.3 i)))
    within-occurs known c (choose p t this that) x w (inr (inr i)) =
        subst (λ z. OccursInOne z x) (sym w.2) (inr (inr (inside-occurs known w.1 that x w.4 i)))

    inside-occurs : (known : ℕ → Bool) (a o : Level E) (x : Operand E) → IsOrderInside known a o
        → OccursIn o x → OccursIn a x
    inside-occurs known a (level made os) x w i =
        subst (λ z. OccursIn z x) (sym w.1) (order-occurs (known_inside made known) w.0 os x w.2 i.0, i.1)

  -- a conjunct makes the same known once its branches are in order
  pub within-learned : (known : ℕ → Bool) (c o : Conjunct E) (n : ℕ) → IsOrderWithin known c o
      → is_learned o n ≡ is_learned c n
  within-learned known c (holds p t) n w = ap (λ z. is_learned z n) (sym w)
  within-learned known c (points p y fs) n w = ap (λ z. is_learned z n) (sym w)
  within-learned known c (segment p next y z) n w = ap (λ u. is_learned u n) (sym w)
  within-learned known c (doubly p next back y b l t) n w = ap (λ z. is_learned z n) (sym w)
  within-learned known c (tree p left right y) n w = ap (λ z. is_learned z n) (sym w)
  within-learned known c (choose p t this that) n w = ap (λ z. is_learned z n) (sym w.2)

  after-same : (known : ℕ → Bool) (c o : Conjunct E) → IsOrderWithin known c o
      → known_after c known ≡ known_after o known
  after-same known c o w = λ i n. known n || sym (within-learned known c o n w) i

  known-is : (known : ℕ → Bool) (x : Operand E) → IsKnown known x → is_known known x ≡ true
  known-is known (Known e) k = refl
  known-is known (Exists n) k = k

  -- what can be taken from what is known around it
  pub taken-supplied : (known : ℕ → Bool) (c : Conjunct E) (p : _) (t : _) (this that : Level E)
      → c ≡ choose p t this that → CanBeTaken known c → IsSupplied known c
  taken-supplied known c p t this that e (plain i) = absurd (subst (IsReady known) e i)
  taken-supplied known c p t this that e (branches q u made other these those i o a b) = o

  -- the branches of a choice that can be taken have an order
  pub taken-branches : (known : ℕ → Bool) (p : _) (t : _) (this that : Level E)
      → CanBeTaken known (choose p t this that) → HasOrderInside known this × HasOrderInside known that
  taken-branches known p t this that f = go (choose p t this that) refl f
    where
      go : (c : Conjunct E) → c ≡ choose p t this that → CanBeTaken known c
          → HasOrderInside known this × HasOrderInside known that
      go c e (plain i) = absurd (subst (IsReady known) e i)
      go c e (branches q u made other these those i o a b) =
          let both : choose p t this that ≡ choose q u (level made these) (level other those) = sym e ∙ i in
          let one : this ≡ level made these = cc in
          let two : that ≡ level other those = cc in
          (subst (HasOrderInside known) (sym one) a, subst (HasOrderInside known) (sym two) b)

  -- what can be taken and has no branches is ready
  pub ready-plain : (known : ℕ → Bool) (c : Conjunct E) → CanBeTaken known c
      → ((p : _) (t : _) (this that : Level E) → c ≡ choose p t this that → ⊥) → IsReady known c
  ready-plain known c (plain i) n = i
  ready-plain known c (branches p t made other this that i o a b) n =
      absurd (n p t (level made this) (level other that) i)

  mutual
    -- conjuncts in order are in order
    pub order-stands : (known : ℕ → Bool) (cs os : Conjuncts E) → IsOrder known cs os → InOrder known os
    order-stands known cs none o = tt
    order-stands known cs (also c os) o = (
      within-next known o.0 c o.3 (first-leaves known cs o.0 o.1 o.2).1,
      subst
          (λ (k : ℕ → Bool). InOrder k os) (after-same known o.0 c o.3)
          (order-stands (known_after o.0 known) o.1 os o.4),
    )

    within-next : (known : ℕ → Bool) (c o : Conjunct E) → IsOrderWithin known c o → CanBeTaken known c
        → IsNext known o
    within-next known c (holds p True) w f = tt
    within-next known c (holds p (Equal x y)) w f =
        let ready : IsReady known (holds p (Equal x y)) = ready-plain known (holds p (Equal x y))
        (subst (CanBeTaken known) w f) (λ q t this that e. cc) in
        either ready (λ i. or_left (is_known known x) (is_known known y) (known-is known x i))
        (λ i. or_right (is_known known x) (is_known known y) (known-is known y i))
    within-next known c (holds p (Differ x y)) w f =
        ready-plain known (holds p (Differ x y)) (subst (CanBeTaken known) w f) (λ q t this that e. cc)
    within-next known c (points p x fs) w f =
        ready-plain known (points p x fs) (subst (CanBeTaken known) w f) (λ q t this that e. cc)
    within-next known c (segment p next x y) w f =
        ready-plain known (segment p next x y) (subst (CanBeTaken known) w f) (λ q t this that e. cc)
    within-next known c (doubly p next back x b z y) w f =
        ready-plain known (doubly p next back x b z y) (subst (CanBeTaken known) w f) (λ q t this that e. cc)
    within-next known c (tree p left right x) w f =
        ready-plain known (tree p left right x) (subst (CanBeTaken known) w f) (λ q t this that e. cc)
    within-next known c (choose p t this that) w f =
        let supplied = taken-supplied known c p t w.0 w.1 w.2 f in (
          λ n i. supplied n (within-occurs known c (choose p t this that) (Exists n) w i),
          inside-stands
              known w.0 this w.3,
          inside-stands known w.1 that w.4,
        )

    inside-stands : (known : ℕ → Bool) (a o : Level E) → IsOrderInside known a o → InOrderInside known o
    inside-stands known a (level made os) w = order-stands (known_inside made known) w.0 os w.2
