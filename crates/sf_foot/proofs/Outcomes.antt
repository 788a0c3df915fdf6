-- What conjuncts in order take of a heap with finitely many cells: some locations, or whatever they take is too much.
-- Names: `take-LAW` of what is taken; `learn-`, `test-` and `occurs-LAW` of what it rests on.
use Rattle.std.proofs.Common.{◌≡◌, ◌↔◌, ◌⊎◌, ◌+◌, ◌<◌, ◌≤◌, ◌&&◌, ◌||◌, ℕ, suc, Bool, true, false, cond, not, List, [], ◌∷◌, ◌++◌, length, Option, Some, None, refl, sym, ap, ap₂, ◌∙◌, subst, subst₂, inl, inr, arith}
use Rattle.std.specs.FinMap.{get, len}
use Rattle.std.proofs.Math.Bool.{or_assoc}
use Rattle.std.proofs.lemmas.Bool.{and_parts, eqb-true, false≢true, or_cases}
use Rattle.std.proofs.lemmas.List.{length-append}
use Rattle.std.proofs.lemmas.Option.{none-some, same_Some}
use Rattle.sf_base.specs.declared.ids.FieldId.{FieldId}
use Rattle.sf_base.specs.declared.place.Place.{Place}
use Rattle.sf_base.specs.declared.value.Value.{Value}
use Rattle.sf_base.specs.declared.value.Value.TheVariants.{Nil as nil, Int as int, Loc as loc}
use Rattle.sf_core.specs.declared.assertion.Operand.{Operand}
use Rattle.sf_core.specs.declared.assertion.Operand.TheVariants.{Known as Evaluates, Exists}
use Rattle.sf_core.specs.declared.assertion.Scope.{Scope}
use Rattle.sf_core.specs.declared.assertion.Test.{Test}
use Rattle.sf_core.specs.declared.assertion.Test.TheVariants.{True, Equal, Differ}
use Rattle.sf_core.specs.Assertions.Determined.{IsKnown, is_existential, is_learned, is_learned_in, known_after, known_inside}
use Rattle.sf_core.specs.Assertions.InOrder.{InOrder, InOrderInside, IsNext, is_known}
use Rattle.sf_core.specs.Assertions.Occurs.{OccursIn, OccursInAll, OccursInOne, OccursInTest}
use Rattle.sf_core.specs.Assertions.Sat.{HasFields, IsTrueOf, SameOutside, operand}
use Rattle.sf_core.specs.Assertions.Scopes.{is_made_by}
use Rattle.sf_core.proofs.Assertions.Sat.{test-which}
use Rattle.sf_core.specs.Program.Syntax.{Conjunct, holds, points, segment, doubly, tree, choose, Level, level, Conjuncts, none, also}
use Rattle.sf_heap.specs.Cells.{Cells, FieldValues, cell_of}
use Rattle.sf_foot.specs.Checked.Taking.{AllTake, LevelTakes, OneTakes}
use Rattle.sf_foot.specs.Checked.Walks.{DoubleWalk, SegmentWalk, TreesWalk}
use Rattle.sf_foot.proofs.Learning.{Agree, Learned, Refuted, agree-first, agree-then, in_fields, itself, known-operand, learn-fields, learn-operand, plus, plus-first}
use Rattle.sf_foot.proofs.Ready.{existential-is, occurs-fields}
use Rattle.sf_foot.proofs.Walked.{double-agree, walk-double, Walked, walk-segment, walk-trees}

-- A heap with finitely many cells
module _ (heap : Cells) where
  -- What conjuncts take, with values of existentials that are these for what is known before
  module _ {E : Type 0} (val : E → Value) where
    -- the locations that are taken, with values for what becomes known
    pub record Taken (takes : (ℕ → Value) → List ℕ → Type 0) (known after : ℕ → Bool) (v : ℕ → Value) : Type 0 where
      pub values : ℕ → Value
      pub locations : List ℕ
      pub keeps : Agree known v values
      pub all : (some : ℕ → Value) → Agree after values some → takes some locations
      pub only : (some : ℕ → Value) (ls : List ℕ) → Agree known v some → takes some ls
          → (ls ≡ locations) × Agree after values some

    -- or whatever is taken, it makes more locations than there are cells
    abbrev pub Outcome : ((ℕ → Value) → List ℕ → Type 0) → (known after : ℕ → Bool) → (ℕ → Value) → Type 0
    Outcome takes known after v = Taken takes known after v
        ⊎ ((some : ℕ → Value) (ls : List ℕ) → Agree known v some → takes some ls → len heap < length ls)

    outcome-same : (takes : (ℕ → Value) → List ℕ → Type 0) (known after other : ℕ → Bool) (v : ℕ → Value)
        → ((n : ℕ) → after n ≡ other n) → Outcome takes known after v → Outcome takes known other v
    outcome-same takes known after other v e o = subst (λ (k : ℕ → Bool). Outcome takes known k v) (λ i n. e n i) o

    -- nothing more becomes known
    abbrev pub nothing : ℕ → Bool
    nothing n = false

    pub plus-nothing : (known : ℕ → Bool) (n : ℕ) → plus known nothing n ≡ true → known n ≡ true
    plus-nothing known n e = elim (or_cases (known n) false e) [ inl i ↦ i | inr i ↦ absurd (false≢true i) ]

    agree-nothing : (known : ℕ → Bool) (v some : ℕ → Value) → Agree known v some → Agree (plus known nothing) v some
    agree-nothing known v some a n e = a n (plus-nothing known n e)

    -- a test takes nothing
    take-learned : (P : (ℕ → Value) → Type 0) (known after : ℕ → Bool) (v : ℕ → Value)
        → Learned P known after v ⊎ Refuted P known v → Outcome (λ some ls. (ls ≡ []) × P some) known after v
    take-learned P known after v (inl g) = inl (record {
      values = g.values;
      locations = [];
      keeps = g.keeps;
      all = λ some a. (refl, g.holds some a);
      only = λ some ls a k. (k.0, g.only some a k.1);
    })
    take-learned P known after v (inr fails) = inr (λ some ls a k. absurd (fails some a k.1))

    -- what is known to hold or not
    learn-fixed : (P : (ℕ → Value) → Type 0) (known : ℕ → Bool) (v : ℕ → Value)
        → ((some : ℕ → Value) → Agree known v some → P v → P some) → ((some : ℕ → Value) → Agree known v some → P some → P v)
        → P v ⊎ (P v → ⊥) → Learned P known (plus known nothing) v ⊎ Refuted P known v
    learn-fixed P known v to from (inl p) = inl (record {
      values = v;
      keeps = λ n h. refl;
      holds = λ some a. to some (agree-first known nothing v some a) p;
      only = λ some a q. agree-nothing known v some a;
    })
    learn-fixed P known v to from (inr n) = inr (λ some a q. n (from some a q))

    -- what is learned of an operand is learned of an equality with one that is known
    learn-like : (P Q : (ℕ → Value) → Type 0) (known more : ℕ → Bool) (other : ℕ → Bool) (v : ℕ → Value)
        → ((some : ℕ → Value) → Agree known v some → P some → Q some)
        → ((some : ℕ → Value) → Agree known v some → Q some → P some)
        → ((n : ℕ) → plus known more n ≡ plus known other n)
        → Learned P known (plus known more) v ⊎ Refuted P known v
        → Learned Q known (plus known other) v ⊎ Refuted Q known v
    learn-like P Q known more other v to from same (inr fails) = inr (λ some a q. fails some a (from some a q))
    learn-like P Q known more other v to from same (inl g) = inl (record {
      values = g.values;
      keeps = g.keeps;
      holds = λ some a.
          let b : Agree (plus known more) g.values some = λ n e. a n (sym (same n) ∙ e) in
          to some (agree-then known (plus known more) v g.values some (plus-first known more) g.keeps b) (g.holds some b);
      only = λ some a q n e. g.only some a (from some a q) n (same n ∙ e);
    })

    known-exists : (known : ℕ → Bool) (x : Operand E) (n : ℕ) → IsKnown known x → is_existential n x ≡ true → known n ≡ true
    known-exists known (Evaluates x) n k e = absurd (false≢true e)
    known-exists known (Exists m) n k e = sym (ap known (eqb-true m n e)) ∙ k

    is-known : (known : ℕ → Bool) (x : Operand E) → is_known known x ≡ true → IsKnown known x
    is-known known (Evaluates x) e = tt
    is-known known (Exists n) e = e

    -- one of the two is known already
    or-known_left : (k a b : Bool) → (a ≡ true → k ≡ true) → k || b ≡ k || (a || b)
    or-known_left true a b f = refl
    or-known_left false true b f = absurd (false≢true (f refl))
    or-known_left false false b f = refl

    or-known_right : (k a b : Bool) → (b ≡ true → k ≡ true) → k || a ≡ k || (a || b)
    or-known_right true a b f = refl
    or-known_right false true b f = refl
    or-known_right false false true f = absurd (false≢true (f refl))
    or-known_right false false false f = refl

    learn-equal : (p : Place) (known : ℕ → Bool) (v : ℕ → Value) (x y : Operand E) → is_known known x || is_known known y ≡ true
        → Learned (λ some. IsTrueOf (operand val some) (Equal x y)) known (known_after (holds p (Equal x y)) known) v
        ⊎ Refuted (λ some. IsTrueOf (operand val some) (Equal x y)) known v
    learn-equal p known v x y e = elim (or_cases (is_known known x) (is_known known y) e) [
      | inl k ↦
          learn-like (λ some. operand val v x ≡ operand val some y) (λ some. operand val some x ≡ operand val some y)
          known (itself y) (is_learned (holds p (Equal x y))) v
          (λ some a q. known-operand val known v some x a (is-known known x k) ∙ q)
          (λ some a q. sym (known-operand val known v some x a (is-known known x k)) ∙ q)
          (λ n. or-known_left (known n) (is_existential n x) (is_existential n y)
          (known-exists known x n (is-known known x k)))
          (learn-operand val known v y (operand val v x))
      | inr k ↦
          learn-like (λ some. operand val v y ≡ operand val some x) (λ some. operand val some x ≡ operand val some y)
          known (itself x) (is_learned (holds p (Equal x y))) v
          (λ some a q. sym (known-operand val known v some y a (is-known known y k) ∙ q))
          (λ some a q. sym (q ∙ known-operand val known v some y a (is-known known y k)))
          (λ n. or-known_right (known n) (is_existential n x) (is_existential n y)
          (known-exists known y n (is-known known y k)))
          (learn-operand val known v x (operand val v y))
    ]

    -- a test of what is known
    test-known : (known : ℕ → Bool) (v some : ℕ → Value) (t : Test (Operand E))
        → ((x : Operand E) → OccursInTest t x → IsKnown known x) → Agree known v some
        → IsTrueOf (operand val v) t ↔ IsTrueOf (operand val some) t
    test-known known v some True k a = (λ h. tt, λ h. tt)
    test-known known v some (Equal x y) k a =
        let one = known-operand val known v some x a (k x (inl refl)) in
        let two = known-operand val known v some y a (k y (inr refl)) in
        (λ h. one ∙ h ∙ sym two, λ h. sym one ∙ h ∙ two)
    test-known known v some (Differ x y) k a =
        let one = known-operand val known v some x a (k x (inl refl)) in
        let two = known-operand val known v some y a (k y (inr refl)) in
        (λ h e. h (sym one ∙ e ∙ two), λ h e. h (one ∙ e ∙ sym two))

    take-test : (p : Place) (known : ℕ → Bool) (v : ℕ → Value) (t : Test (Operand E)) → IsNext known (holds p t)
        → Outcome (OneTakes heap (holds p t) val) known (known_after (holds p t) known) v
    take-test p known v True k = take-learned (λ some. Unit {0}) known (plus known nothing) v
        (learn-fixed (λ some. Unit {0}) known v (λ some a h. tt) (λ some a h. tt) (inl tt))
    take-test p known v (Equal x y) k = take-learned (λ some. IsTrueOf (operand val some) (Equal x y)) known
        (known_after (holds p (Equal x y)) known) v (learn-equal p known v x y k)
    take-test p known v (Differ x y) k = take-learned (λ some. IsTrueOf (operand val some) (Differ x y)) known
        (plus known nothing) v (learn-fixed (λ some. IsTrueOf (operand val some) (Differ x y)) known v
        (λ some a. (test-known known v some (Differ x y) both a).0) (λ some a. (test-known known v some (Differ x y) both a).1)
        (test-which (operand val v) (Differ x y)))
      where
        both : (z : Operand E) → (z ≡ x) ⊎ (z ≡ y) → IsKnown known z
        both z (inl e) = subst (IsKnown known) (sym e) k.0
        both z (inr e) = subst (IsKnown known) (sym e) k.1

    -- nothing is taken
    take-none : (takes : (ℕ → Value) → List ℕ → Type 0) (known after : ℕ → Bool) (v : ℕ → Value)
        → ((some : ℕ → Value) (ls : List ℕ) → Agree known v some → takes some ls → ⊥) → Outcome takes known after v
    take-none takes known after v fails = inr (λ some ls a k. absurd (fails some ls a k))

    loc-is : (m n : ℕ) → loc m ≡ loc n → m ≡ n
    loc-is m n e = cc

    -- a cell
    take-cell : (p : Place) (known : ℕ → Bool) (v : ℕ → Value) (x : Operand E) (fs : List (FieldId × Operand E))
        → IsKnown known x → Outcome (OneTakes heap (points p x fs) val) known (plus known (in_fields fs)) v
    take-cell p known v x fs k = root (operand val v x) refl
      where
        here : (some : ℕ → Value) → Agree known v some → operand val some x ≡ operand val v x
        here some a = known-operand val known v some x a k

        found : (l : ℕ) (c : FieldValues) → operand val v x ≡ loc l → get heap l ≡ Some c
            → Learned (λ some. HasFields (operand val some) fs (cell_of c)) known (plus known (in_fields fs)) v
            ⊎ Refuted (λ some. HasFields (operand val some) fs (cell_of c)) known v
            → Outcome (OneTakes heap (points p x fs) val) known (plus known (in_fields fs)) v
        found l c e g (inl h) = inl (record {
          values = h.values;
          locations = l ∷ [];
          keeps = h.keeps;
          all = λ some a. (
            l,
            c,
            here some (agree-then known (plus known (in_fields fs)) v h.values some (plus-first known (in_fields fs)) h.keeps a) ∙ e,
            g,
            h.holds some a,
            refl,
          );
          only = λ some ls a t.
              let same : t.0 ≡ l = loc-is t.0 l (sym t.2 ∙ here some a ∙ e) in
              let cell : t.1 ≡ c = same_Some t.1 c (sym t.3 ∙ ap (get heap) same ∙ g) in
              (t.5 ∙ ap (λ m. m ∷ []) same, h.only some a (subst (λ d. HasFields (operand val some) fs (cell_of d)) cell t.4));
        })
        found l c e g (inr fails) = take-none (OneTakes heap (points p x fs) val) known (plus known (in_fields fs)) v
            (λ some ls a t.
            let same : t.0 ≡ l = loc-is t.0 l (sym t.2 ∙ here some a ∙ e) in
            let cell : t.1 ≡ c = same_Some t.1 c (sym t.3 ∙ ap (get heap) same ∙ g) in
            fails some a (subst (λ d. HasFields (operand val some) fs (cell_of d)) cell t.4))

        at : (l : ℕ) → operand val v x ≡ loc l → (c : Option FieldValues) → get heap l ≡ c
            → Outcome (OneTakes heap (points p x fs) val) known (plus known (in_fields fs)) v
        at l e None g = take-none (OneTakes heap (points p x fs) val) known (plus known (in_fields fs)) v
            (λ some ls a t.
            let same : t.0 ≡ l = loc-is t.0 l (sym t.2 ∙ here some a ∙ e) in
            none-some t.1 (sym g ∙ sym (ap (get heap) same) ∙ t.3))
        at l e (Some c) g = found l c e g (learn-fields val known v fs (cell_of c))

        root : (w : Value) → operand val v x ≡ w
            → Outcome (OneTakes heap (points p x fs) val) known (plus known (in_fields fs)) v
        root nil e = take-none (OneTakes heap (points p x fs) val) known (plus known (in_fields fs)) v
            (λ some ls a t. let wrong : nil ≡ loc t.0 = sym e ∙ sym (here some a) ∙ t.2 in absurd cc)
        root (int i) e = take-none (OneTakes heap (points p x fs) val) known (plus known (in_fields fs)) v
            (λ some ls a t. let wrong : int i ≡ loc t.0 = sym e ∙ sym (here some a) ∙ t.2 in absurd cc)
        root (loc l) e = at l e (get heap l) refl

    -- a walk, once its ends are known
    take-walk : (takes : (ℕ → Value) → List ℕ → Type 0) (walk : List ℕ → Type 0) (known : ℕ → Bool) (v : ℕ → Value)
        → ((some : ℕ → Value) (ls : List ℕ) → Agree known v some → walk ls → takes some ls)
        → ((some : ℕ → Value) (ls : List ℕ) → Agree known v some → takes some ls → walk ls)
        → Walked walk (suc (len heap)) → Outcome takes known (plus known nothing) v
    take-walk takes walk known v to from (inl w) = inl (record {
      values = v;
      locations = w.0;
      keeps = λ n h. refl;
      all = λ some a. to some w.0 (agree-first known nothing v some a) w.1;
      only = λ some ls a t. (w.2 ls (from some ls a t), agree-nothing known v some a);
    })
    take-walk takes walk known v to from (inr h) = inr (λ some ls a t.
        let long : suc (len heap) ≤ length ls = h ls (from some ls a t) in omega (arith, long))

    take-segment : (p : Place) (known : ℕ → Bool) (v : ℕ → Value) (next : FieldId) (x y : Operand E) → IsKnown known x
        → IsKnown known y → Outcome (OneTakes heap (segment p next x y) val) known (plus known nothing) v
    take-segment p known v next x y k l = take-walk (OneTakes heap (segment p next x y) val)
        (SegmentWalk heap next (operand val v y) (operand val v x)) known v
        (λ some ls a w. subst₂ (λ m n. SegmentWalk heap next m n ls) (sym (known-operand val known v some y a l))
        (sym (known-operand val known v some x a k)) w)
        (λ some ls a w. subst₂ (λ m n. SegmentWalk heap next m n ls) (known-operand val known v some y a l)
        (known-operand val known v some x a k) w)
        (walk-segment heap next (operand val v y) (suc (len heap)) (operand val v x))

    take-double : (p : Place) (known : ℕ → Bool) (v : ℕ → Value) (next back : FieldId) (x b l y : Operand E)
        → IsKnown known x → IsKnown known b → IsKnown known l → IsKnown known y
        → Outcome (OneTakes heap (doubly p next back x b l y) val) known (plus known nothing) v
    take-double p known v next back x b l y i j k m = take-walk (OneTakes heap (doubly p next back x b l y) val)
        (DoubleWalk heap next back (operand val v l) (operand val v y) (operand val v b) (operand val v x)) known v
        (λ some ls a w. double-agree (sym (known-operand val known v some x a i))
        (sym (known-operand val known v some b a j)) (sym (known-operand val known v some l a k))
        (sym (known-operand val known v some y a m)) w)
        (λ some ls a w. double-agree (known-operand val known v some x a i) (known-operand val known v some b a j)
        (known-operand val known v some l a k) (known-operand val known v some y a m) w)
        (walk-double heap next back (operand val v l) (operand val v y) (suc (len heap)) (operand val v b)
        (operand val v x))

    take-tree : (p : Place) (known : ℕ → Bool) (v : ℕ → Value) (left right : FieldId) (x : Operand E) → IsKnown known x
        → Outcome (OneTakes heap (tree p left right x) val) known (plus known nothing) v
    take-tree p known v left right x k = take-walk (OneTakes heap (tree p left right x) val)
        (TreesWalk heap left right (operand val v x ∷ [])) known v
        (λ some ls a w. subst (λ m. TreesWalk heap left right (m ∷ []) ls) (sym (known-operand val known v some x a k)) w)
        (λ some ls a w. subst (λ m. TreesWalk heap left right (m ∷ []) ls) (known-operand val known v some x a k) w)
        (walk-trees heap left right (suc (len heap)) (operand val v x ∷ []))

    -- what becomes known by conjuncts occurs in them
    occurs-one : (c : Conjunct E) (n : ℕ) → is_learned c n ≡ true → OccursInOne c (Exists n)
    occurs-one (holds p True) n e = absurd (false≢true e)
    occurs-one (holds p (Equal x y)) n e = elim (or_cases (is_existential n x) (is_existential n y) e) [
      | inl i ↦ inl (existential-is n x i)
      | inr i ↦ inr (existential-is n y i)
    ]
    occurs-one (holds p (Differ x y)) n e = absurd (false≢true e)
    occurs-one (points p x fs) n e = inr (occurs-fields n fs e)
    occurs-one (segment p next x y) n e = absurd (false≢true e)
    occurs-one (doubly p next back x b l y) n e = absurd (false≢true e)
    occurs-one (tree p left right x) n e = absurd (false≢true e)
    occurs-one (choose p t this that) n e = absurd (false≢true e)

    occurs-all : (cs : Conjuncts E) (n : ℕ) → is_learned_in cs n ≡ true → OccursInAll cs (Exists n)
    occurs-all none n e = absurd (false≢true e)
    occurs-all (also c cs) n e = elim (or_cases (is_learned c n) (is_learned_in cs n) e) [
      | inl i ↦ inl (occurs-one c n i)
      | inr i ↦ inr (occurs-all cs n i)
    ]

    -- one conjunct and then the others
    take-then : (c : Conjunct E) (cs : Conjuncts E) (known : ℕ → Bool) (v : ℕ → Value)
        → Outcome (OneTakes heap c val) known (known_after c known) v
        → ((w : ℕ → Value) → Outcome (AllTake heap cs val) (known_after c known)
        (plus (known_after c known) (is_learned_in cs)) w)
        → Outcome (AllTake heap (also c cs) val) known (plus known (is_learned_in (also c cs))) v
    take-then c cs known v (inr h) others = inr (λ some ls a t.
        let long : len heap < length t.0 = h some t.0 a t.3 in
        let size : length ls ≡ length t.0 + length t.1 = ap length t.2 ∙ length-append t.0 t.1 in
        omega (arith, long, size))
    take-then c cs known v (inl g) others = then (others g.values)
      where
        same : (n : ℕ) → plus (known_after c known) (is_learned_in cs) n ≡ plus known (is_learned_in (also c cs)) n
        same n = or_assoc (known n) (is_learned c n) (is_learned_in cs n)

        then : Outcome (AllTake heap cs val) (known_after c known) (plus (known_after c known) (is_learned_in cs)) g.values
            → Outcome (AllTake heap (also c cs) val) known (plus known (is_learned_in (also c cs))) v
        then (inr h) = inr (λ some ls a t.
            let long : len heap < length t.1 = h some t.1 (g.only some t.0 a t.3).1 t.4 in
            let size : length ls ≡ length t.0 + length t.1 = ap length t.2 ∙ length-append t.0 t.1 in
            omega (arith, long, size))
        then (inl h) = inl (record {
          values = h.values;
          locations = g.locations ++ h.locations;
          keeps = agree-then known (known_after c known) v g.values h.values (plus-first known (is_learned c)) g.keeps h.keeps;
          all = λ some a.
              let b : Agree (plus (known_after c known) (is_learned_in cs)) h.values some = λ n e. a n (sym (same n) ∙ e) in (
                g.locations,
                h.locations,
                refl,
                g.all some (agree-then (known_after c known) (plus (known_after c known) (is_learned_in cs)) g.values h.values
                    some (plus-first (known_after c known) (is_learned_in cs)) h.keeps b),
                h.all some b,
              );
          only = λ some ls a t.
              let one = g.only some t.0 a t.3 in
              let two = h.only some t.1 one.1 t.4 in
              (t.2 ∙ ap₂ ◌++◌ one.0 two.0, λ n e. two.1 n (same n ∙ e));
        })

    -- a branch, once what its conjuncts take from what is known inside it is found
    pub take-inside : (made : Scope) (cs : Conjuncts E) (known : ℕ → Bool) (v : ℕ → Value)
        → ((n : ℕ) → OccursIn (level made cs) (Exists n) → known n ≡ true)
        → Outcome (AllTake heap cs val) (known_inside made known) (plus (known_inside made known) (is_learned_in cs)) v
        → Outcome (LevelTakes heap (level made cs) val) known (plus known nothing) v
    take-inside made cs known v supplied o = go o
      where
        inside : (some : ℕ → Value) → Agree known v some → (here : ℕ → Value) → SameOutside made some here
            → Agree (known_inside made known) v here
        inside some a here same n e =
            let parts = and_parts (known n) (not (is_made_by made n)) e in
            same n (not-true (is_made_by made n) parts.1) ∙ a n parts.0
          where
            not-true : (b : Bool) → not b ≡ true → b ≡ false
            not-true true e = absurd (false≢true e)
            not-true false e = refl

        go : Outcome (AllTake heap cs val) (known_inside made known) (plus (known_inside made known) (is_learned_in cs)) v
            → Outcome (LevelTakes heap (level made cs) val) known (plus known nothing) v
        go (inr h) = inr (λ some ls a t. h t.0 ls (inside some a t.0 t.1) t.2)
        go (inl g) = inl (record {
          values = v;
          locations = g.locations;
          keeps = λ n h. refl;
          all = λ some a. (
            λ n. cond (is_made_by made n) (g.values n) (some n),
            λ n e. ap (λ b. cond b (g.values n) (some n)) e,
            g.all (λ n. cond (is_made_by made n) (g.values n) (some n))
                (λ n e. agree some (agree-first known nothing v some a) n e (is_made_by made n) refl),
          );
          only = λ some ls a t. ((g.only t.0 ls (inside some a t.0 t.1) t.2).0, agree-nothing known v some a);
        })
          where
            outside : (some : ℕ → Value) → Agree known v some → (n : ℕ) → known n ≡ true → is_made_by made n ≡ false
                → some n ≡ g.values n
            outside some a n k e = a n k ∙ sym (g.keeps n (ap₂ (λ b c. b && not c) k e))

            agree : (some : ℕ → Value) → Agree known v some → (n : ℕ)
                → plus (known_inside made known) (is_learned_in cs) n ≡ true → (b : Bool) → is_made_by made n ≡ b
                → cond (is_made_by made n) (g.values n) (some n) ≡ g.values n
            agree some a n e true m = ap (λ b. cond b (g.values n) (some n)) m
            agree some a n e false m = ap (λ b. cond b (g.values n) (some n)) m
                ∙ elim (or_cases (known_inside made known n) (is_learned_in cs n) e) [
                  | inl i ↦ outside some a n (and_parts (known n) (not (is_made_by made n)) i).0 m
                  | inr i ↦ outside some a n (supplied n (occurs-all cs n i, m)) m
                ]

    -- a choice, once what the branch takes that its test chooses is found
    take-choice : (p : Place) (t : Test (Operand E)) (this that : Level E) (known : ℕ → Bool) (v : ℕ → Value)
        → ((x : Operand E) → OccursInTest t x → IsKnown known x)
        → Outcome (LevelTakes heap this val) known (plus known nothing) v
        → Outcome (LevelTakes heap that val) known (plus known nothing) v
        → IsTrueOf (operand val v) t ⊎ (IsTrueOf (operand val v) t → ⊥)
        → Outcome (OneTakes heap (choose p t this that) val) known (plus known nothing) v
    take-choice p t this that known v k (inl g) other (inl h) = inl (record {
      values = g.values;
      locations = g.locations;
      keeps = g.keeps;
      all = λ some a.
          let b = agree-then known (plus known nothing) v g.values some (plus-first known nothing) g.keeps a in
          (λ i. g.all some a, λ n. absurd (n ((test-known known v some t k b).0 h)));
      only = λ some ls a u. g.only some ls a (u.0 ((test-known known v some t k a).0 h));
    })
    take-choice p t this that known v k (inr g) other (inl h) =
        inr (λ some ls a u. g some ls a (u.0 ((test-known known v some t k a).0 h)))
    take-choice p t this that known v k other (inl g) (inr h) = inl (record {
      values = g.values;
      locations = g.locations;
      keeps = g.keeps;
      all = λ some a.
          let b = agree-then known (plus known nothing) v g.values some (plus-first known nothing) g.keeps a in
          (λ i. absurd (h ((test-known known v some t k b).1 i)), λ n. g.all some a);
      only = λ some ls a u. g.only some ls a (u.1 (λ i. h ((test-known known v some t k a).1 i)));
    })
    take-choice p t this that known v k other (inr g) (inr h) =
        inr (λ some ls a u. g some ls a (u.1 (λ i. h ((test-known known v some t k a).1 i))))

    supplied-test : (known : ℕ → Bool) (t : Test (Operand E))
        → ((n : ℕ) → OccursInTest t (Exists n) → known n ≡ true) → (x : Operand E) → OccursInTest t x → IsKnown known x
    supplied-test known t s (Evaluates x) o = tt
    supplied-test known t s (Exists n) o = s n o

    mutual
      pub take-all : (cs : Conjuncts E) (known : ℕ → Bool) (v : ℕ → Value) → InOrder known cs
          → Outcome (AllTake heap cs val) known (plus known (is_learned_in cs)) v
      take-all none known v o = inl (record {
        values = v;
        locations = [];
        keeps = λ n h. refl;
        all = λ some a. refl;
        only = λ some ls a t. (t, agree-nothing known v some a);
      })
      take-all (also c cs) known v o = take-then c cs known v (take-one c known v o.0)
          (λ w. take-all cs (known_after c known) w o.1)

      take-one : (c : Conjunct E) (known : ℕ → Bool) (v : ℕ → Value) → IsNext known c
          → Outcome (OneTakes heap c val) known (known_after c known) v
      take-one (holds p t) known v k = take-test p known v t k
      take-one (points p x fs) known v k = take-cell p known v x fs k
      take-one (segment p next x y) known v k = take-segment p known v next x y k.0 k.1
      take-one (doubly p next back x b l y) known v k = take-double p known v next back x b l y k.0 k.1 k.2 k.3
      take-one (tree p left right x) known v k = take-tree p known v left right x k
      take-one (choose p t this that) known v k = take-choice p t this that known v
          (supplied-test known t (λ n o. k.0 n (inl o)))
          (take-level this known v (λ n o. k.0 n (inr (inl o))) k.1)
          (take-level that known v (λ n o. k.0 n (inr (inr o))) k.2) (test-which (operand val v) t)

      take-level : (a : Level E) (known : ℕ → Bool) (v : ℕ → Value) → ((n : ℕ) → OccursIn a (Exists n) → known n ≡ true)
          → InOrderInside known a → Outcome (LevelTakes heap a val) known (plus known nothing) v
      take-level (level made cs) known v s o = take-inside made cs known v s (take-all cs (known_inside made known) v o)
