-- Orders rest on what is known of the existentials that occur, and on nothing else.
-- Names: `agree-LAW` takes a fact from what is known to what else is known, where both agree on what occurs.
use Rattle.std.specs.Prelude.{◌≡◌, ℕ, Bool, true, not, ◌&&◌}
use Rattle.std.proofs.Common.{sym, ap, ◌∙◌, refl, subst, inl, inr}
use Rattle.std.proofs.lemmas.Bool.{or_cases, and_parts, not-true, or_left, or_right}
use Rattle.sf_core.specs.declared.assertion.Operand.{Operand}
use Rattle.sf_core.specs.declared.assertion.Operand.TheVariants.{Known, Exists}
use Rattle.sf_core.specs.declared.assertion.Scope.{Scope}
use Rattle.sf_core.specs.declared.assertion.Test.TheVariants.{True, Equal, Differ}
use Rattle.sf_base.proofs.Sums.{either}
use Rattle.sf_core.specs.Assertions.Determined.{CanBeTaken, HasOrder, IsKnown, IsReady, Leaves, all_taken, branches, is_learned, known_after, known_inside, plain, take}
use Rattle.sf_core.specs.Assertions.Occurs.{OccursIn, OccursInAll, OccursInOne}
use Rattle.sf_core.specs.Assertions.Scopes.{is_made_by}
use Rattle.sf_core.specs.Program.Syntax.{Conjunct, holds, points, segment, doubly, tree, choose, Level, level, Conjuncts, none, also}
use Rattle.sf_precise.specs.Order.{IsFirstReady, IsOrder, IsOrderInside, IsOrderWithin}

-- of the existentials that occur there, whatever the first knows, the second knows
abbrev pub KnowsOfOne : {E : Type 0} → Conjunct E → (known more : ℕ → Bool) → Type 0
KnowsOfOne c known more = (n : ℕ) → OccursInOne c (Exists n) → known n ≡ true → more n ≡ true

abbrev pub KnowsOfAll : {E : Type 0} → Conjuncts E → (known more : ℕ → Bool) → Type 0
KnowsOfAll cs known more = (n : ℕ) → OccursInAll cs (Exists n) → known n ≡ true → more n ≡ true

module _ {E : Type 0} where
  -- what occurs in one of the conjuncts occurs in all of them
  pub leaves-occurs_one : (cs : Conjuncts E) (c : Conjunct E) (rest : Conjuncts E) (x : Operand E)
      → Leaves cs c rest → OccursInOne c x → OccursInAll cs x
  leaves-occurs_one none c rest x l o = absurd l
  leaves-occurs_one (also d ds) c rest x (inl l) o = inl (subst (λ z. OccursInOne z x) (sym l.0) o)
  leaves-occurs_one (also d ds) c rest x (inr l) o = inr (leaves-occurs_one ds c l.0 x l.1 o)

  pub leaves-occurs_rest : (cs : Conjuncts E) (c : Conjunct E) (rest : Conjuncts E) (x : Operand E)
      → Leaves cs c rest → OccursInAll rest x → OccursInAll cs x
  leaves-occurs_rest none c rest x l o = absurd l
  leaves-occurs_rest (also d ds) c rest x (inl l) o = inr (subst (λ z. OccursInAll z x) (sym l.1) o)
  leaves-occurs_rest (also d ds) c rest x (inr l) o =
      either (subst (λ z. OccursInAll z x) l.2 o) (λ i. inl i)
      (λ i. inr (leaves-occurs_rest ds c l.0 x l.1 i))

  agree-known : (known more : ℕ → Bool) (x : Operand E)
      → ((n : ℕ) → x ≡ Exists n → known n ≡ true → more n ≡ true) → IsKnown known x → IsKnown more x
  agree-known known more (Known e) m i = tt
  agree-known known more (Exists n) m i = m n refl i

  -- a conjunct that is ready is so where as much is known of what occurs in it
  agree-ready : (known more : ℕ → Bool) (c : Conjunct E) → KnowsOfOne c known more → IsReady known c
      → IsReady more c
  agree-ready known more (holds p True) m i = tt
  agree-ready known more (holds p (Equal x y)) m i =
      either i (λ j. inl (agree-known known more x (λ n e. m n (inl (sym e))) j))
      (λ j. inr (agree-known known more y (λ n e. m n (inr (sym e))) j))
  agree-ready known more (holds p (Differ x y)) m i = (
    agree-known known more x (λ n e. m n (inl (sym e))) i.0,
    agree-known known more y
        (λ n e. m n (inr (sym e))) i.1,
  )
  agree-ready known more (points p x fs) m i = agree-known known more x (λ n e. m n (inl (sym e))) i
  agree-ready known more (segment p next x y) m i = (
    agree-known known more x (λ n e. m n (inl (sym e))) i.0,
    agree-known known more y
        (λ n e. m n (inr (sym e))) i.1,
  )
  agree-ready known more (doubly p next back x b z y) m i = (
    agree-known known more x (λ n e. m n (inl (sym e))) i.0,
    agree-known known more b (λ n e. m n (inr (inl (sym e)))) i.1,
    agree-known known more z (λ n e. m n (inr (inr (inl (sym e))))) i.2,
    agree-known known more y (λ n e. m n (inr (inr (inr (sym e))))) i.3,
  )
  agree-ready known more (tree p left right x) m i = agree-known known more x (λ n e. m n (sym e)) i
  agree-ready known more (choose p t this that) m i = i

  -- inside a branch as much is known of what occurs in it
  agree-inside : (known more : ℕ → Bool) (made : Scope) (cs : Conjuncts E)
      → ((n : ℕ) → OccursIn (level made cs) (Exists n) → known n ≡ true → more n ≡ true)
      → KnowsOfAll cs (known_inside made known) (known_inside made more)
  agree-inside known more made cs m n o e =
      let both = and_parts (known n) (not (is_made_by made n)) e in
      let knows : more n ≡ true = m n (o, not-true (is_made_by made n) both.1) both.0 in
      ap (λ b. b && not (is_made_by made n)) knows ∙ both.1

  -- once a conjunct is taken too
  agree-after : (known more : ℕ → Bool) (cs : Conjuncts E) (c : Conjunct E) (rest : Conjuncts E)
      → Leaves cs c rest → KnowsOfAll cs known more
      → KnowsOfAll rest (known_after c known) (known_after c more)
  agree-after known more cs c rest l m n o e = either (or_cases (known n) (is_learned c n) e)
      (λ i. or_left (more n) (is_learned c n) (m n (leaves-occurs_rest cs c rest (Exists n) l o) i))
      (λ i. or_right (more n) (is_learned c n) i)

  mutual
    pub agree-order : (known more : ℕ → Bool) (cs : Conjuncts E) → KnowsOfAll cs known more
        → HasOrder known cs → HasOrder more cs
    agree-order known more cs m (all_taken i) = all_taken i
    agree-order known more cs m (take c rest l f o) =
        take c rest l (agree-taken known more c (λ n i. m n (leaves-occurs_one cs c rest (Exists n) l i)) f)
        (agree-order (known_after c known) (known_after c more) rest
        (agree-after known more cs c rest l m) o)

    pub agree-taken : (known more : ℕ → Bool) (c : Conjunct E) → KnowsOfOne c known more
        → CanBeTaken known c → CanBeTaken more c
    agree-taken known more c m (plain i) = plain (agree-ready known more c m i)
    agree-taken known more c m (branches p t made other this that i o a b) =
        branches p t made other this that i (λ n j. m n j (o n j))
        (agree-order (known_inside made known) (known_inside made more) this
        (agree-inside known more made this
        (λ n j. m n (subst (λ z. OccursInOne z (Exists n)) (sym i) (inr (inl j))))) a)
        (agree-order (known_inside other known) (known_inside other more) that
        (agree-inside known more other that
        (λ n j. m n (subst (λ z. OccursInOne z (Exists n)) (sym i) (inr (inr j))))) b)

-- of the existentials that occur there both know the same
pub record SameOfAll {E : Type 0} (cs : Conjuncts E) (known more : ℕ → Bool) : Type 0 where
  pub to : KnowsOfAll cs known more
  pub from : KnowsOfAll cs more known

pub record SameOfOne {E : Type 0} (c : Conjunct E) (known more : ℕ → Bool) : Type 0 where
  pub to : KnowsOfOne c known more
  pub from : KnowsOfOne c more known

module _ {E : Type 0} where
  -- what is first ready is so where the same is known
  agree-first : (known more : ℕ → Bool) (cs : Conjuncts E) (c : Conjunct E) (rest : Conjuncts E)
      → SameOfAll cs known more → IsFirstReady known cs c rest → IsFirstReady more cs c rest
  agree-first known more none c rest m f = absurd f
  agree-first known more (also d ds) c rest m (inl f) =
      inl (agree-taken known more d (λ n i. m.to n (inl i)) f.0, f.1, f.2)
  agree-first known more (also d ds) c rest m (inr f) =
      inr (
        λ k. f.0 (agree-taken more known d (λ n i. m.from n (inl i)) k),
        (
          f.1.0,
          agree-first known more ds c f.1.0
              (record { to = λ n i. m.to n (inr i); from = λ n i. m.from n (inr i) }) f.1.1,
          f.1.2,
        ),
      )

  -- the first that is ready is one of them, and can be taken
  pub first-leaves : (known : ℕ → Bool) (cs : Conjuncts E) (c : Conjunct E) (rest : Conjuncts E)
      → IsFirstReady known cs c rest → Leaves cs c rest × CanBeTaken known c
  first-leaves known none c rest f = absurd f
  first-leaves known (also d ds) c rest (inl f) = (inl (f.1, f.2), subst (CanBeTaken known) f.1 f.0)
  first-leaves known (also d ds) c rest (inr f) =
      let more = first-leaves known ds c f.1.0 f.1.1 in (inr (f.1.0, more.0, f.1.2), more.1)

  mutual
    -- an order is one where the same is known
    pub agree-is_order : (known more : ℕ → Bool) (cs os : Conjuncts E) → SameOfAll cs known more
        → IsOrder known cs os → IsOrder more cs os
    agree-is_order known more cs none m o = o
    agree-is_order known more cs (also c os) m o =
        let leaves = (first-leaves known cs o.0 o.1 o.2).0 in (
          o.0,
          o.1,
          agree-first known more cs o.0 o.1 m o.2,
          agree-within known more o.0 c
              (record {
                to = λ n i. m.to n (leaves-occurs_one cs o.0 o.1 (Exists n) leaves i);
                from = λ n i.
                    m.from n (leaves-occurs_one cs o.0 o.1 (Exists n) leaves i);
              }) o.3,
          agree-is_order (known_after o.0 known) (known_after o.0 more) o.1 os
              (record {
                to = agree-after known more cs o.0 o.1 leaves m.to;
                from = agree-after more known cs
                    o.0 o.1 leaves m.from;
              }) o.4,
        )

    agree-within : (known more : ℕ → Bool) (c o : Conjunct E) → SameOfOne c known more
        → IsOrderWithin known c o → IsOrderWithin more c o
    agree-within known more c (holds p t) m i = i
    agree-within known more c (points p x fs) m i = i
    agree-within known more c (segment p next x y) m i = i
    agree-within known more c (doubly p next back x b z y) m i = i
    agree-within known more c (tree p left right x) m i = i
    agree-within known more c (choose p t this that) m i = (
      i.0,
      i.1,
      i.2,
      agree-order_inside known more i.0 this
          (λ n j. m.to n (subst (λ z. OccursInOne z (Exists n)) (sym i.2) (inr (inl j))))
          (λ n j. m.from n (subst (λ z. OccursInOne z (Exists n)) (sym i.2) (inr (inl j)))) i.3,
      agree-order_inside known more i.1 that
          (λ n j. m.to n (subst (λ z. OccursInOne z (Exists n)) (sym i.2) (inr (inr j))))
          (λ n j. m.from n (subst (λ z. OccursInOne z (Exists n)) (sym i.2) (inr (inr j)))) i.4,
    )

    agree-order_inside : (known more : ℕ → Bool) (a o : Level E)
        → ((n : ℕ) → OccursIn a (Exists n) → known n ≡ true → more n ≡ true)
        → ((n : ℕ) → OccursIn a (Exists n) → more n ≡ true → known n ≡ true)
        → IsOrderInside known a o → IsOrderInside more a o
    agree-order_inside known more a (level made os) to from i = (
      i.0,
      i.1,
      agree-is_order (known_inside made known) (known_inside made more) i.0 os
          (record {
            to =
                agree-inside known more made i.0
                (λ n j. to n (subst (λ z. OccursIn z (Exists n)) (sym i.1) j));
            from =
                agree-inside more known made i.0
                (λ n j. from n (subst (λ z. OccursIn z (Exists n)) (sym i.1) j));
          }) i.2,
    )
