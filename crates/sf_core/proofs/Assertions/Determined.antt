-- A determined level has at most one footprint, and its existentials have one value each there.
-- Names: `determined-LAW` speaks of levels, `order-LAW` of conjuncts in an order, `ready-LAW` of one conjunct.
use Rattle.std.specs.Prelude.{◌≡◌, ◌⊎◌, ℕ, Bool, true, false, not, List, [], ◌∷◌, Some}
use Rattle.std.proofs.Common.{true≢false, sym, ap, ◌∙◌, refl, subst, subst₂, inl, inr}
use Rattle.std.specs.Cmp.{unsigned_Decides}
use Rattle.std.proofs.lemmas.Bool.{and_parts, not-true, or_cases, or_left, or_right}
use Rattle.std.proofs.lemmas.Option.{same_Some}
use Rattle.sf_base.proofs.Sums.{either}
use Rattle.sf_base.specs.declared.ids.FieldId.{FieldId}
use Rattle.sf_base.specs.declared.place.Place.{Place}
use Rattle.sf_base.specs.declared.value.Value.{Value}
use Rattle.sf_base.specs.declared.value.Value.TheVariants.{Nil as nil}
use Rattle.sf_core.specs.declared.assertion.Operand.{Operand}
use Rattle.sf_core.specs.declared.assertion.Operand.TheVariants.{Known, Exists}
use Rattle.sf_core.specs.declared.assertion.Scope.{Scope}
use Rattle.sf_core.specs.declared.assertion.Test.{Test}
use Rattle.sf_core.specs.declared.assertion.Test.TheVariants.{True, Equal, Differ}
use Rattle.sf_base.proofs.HeapSplits.{one-same, star-map_right, star-swap}
use Rattle.sf_base.proofs.MapSplits.{empty-holds, splits-empty_right, empty-same, splits-assoc_right, splits-comm, splits-has_left, splits-same_whole}
use Rattle.sf_core.proofs.Assertions.Sat.{test-agree, test-which}
use Rattle.sf_core.proofs.Assertions.Segments.{loc-same, seg-same}
use Rattle.sf_core.proofs.Assertions.DoubleSegments.{dseg-same}
use Rattle.sf_core.proofs.Assertions.Trees.{tree-same}
use Rattle.sf_core.specs.Assertions.Determined.{CanBeTaken, Determined, HasOrder, IsKnown, IsReady, Leaves, all_taken, branches, is_existential, is_in_fields, is_learned, is_learned_in, known_after, known_inside, plain, take}
use Rattle.sf_base.specs.HeapStore.{Cell, Heap, IsOne, Splits, ◌⋆◌}
use Rattle.sf_core.specs.Assertions.Occurs.{OccursInAll, OccursInFields, OccursInOne, OccursInTest}
use Rattle.sf_core.specs.Assertions.Scopes.{is_made_by}
use Rattle.sf_core.specs.Checked.Assertions.Precise.{IsPrecise}
use Rattle.sf_core.specs.Assertions.Sat.{Dseg, Foot, HasFields, IsTrueOf, operand, SameOutside, Sat, SatAll, SatOne, Seg}
use Rattle.sf_core.specs.Program.Syntax.{Conjunct, holds, points, segment, doubly, tree, choose, Level, level, Conjuncts, none, also}

-- Two choices of values for the existentials
module _ {E : Type 0} (v : E → Value) where
  -- both give the same to what is known
  abbrev pub Agree : (ℕ → Bool) → (ℕ → Value) → (ℕ → Value) → Type 0
  Agree known s t = (n : ℕ) → known n ≡ true → s n ≡ t n

  -- what is known has the same value
  pub known-same : (known : ℕ → Bool) (s t : ℕ → Value) (x : Operand E) → Agree known s t → IsKnown known x
      → operand v s x ≡ operand v t x
  known-same known s t (Known x) a k = refl
  known-same known s t (Exists n) a k = a n k

  -- an existential has the same value where the operand that it is has
  existential-same : (n : ℕ) (s t : ℕ → Value) (x : Operand E) → operand v s x ≡ operand v t x
      → is_existential n x ≡ true → s n ≡ t n
  existential-same n s t (Known x) e i = absurd (true≢false (sym i))
  existential-same n s t (Exists m) e i = subst (λ k. s k ≡ t k) ((unsigned_Decides m n).0 i) e

  -- an existential among the values of one cell's fields has the same value
  fields-same : (n : ℕ) (s t : ℕ → Value) (fs : List (FieldId × Operand E)) (one two : Cell) → one ≡ two
      → HasFields (operand v s) fs one → HasFields (operand v t) fs two → is_in_fields n fs ≡ true → s n ≡ t n
  fields-same n s t [] one two e d f i = absurd (true≢false (sym i))
  fields-same n s t (g ∷ gs) one two e d f i =
      either (or_cases (is_existential n g.1) (is_in_fields n gs) i)
      (λ j. existential-same n s t g.1 (sym d.0 ∙ ap (λ c. c g.0.0) e ∙ f.0) j)
      (λ j. fields-same n s t gs one two e d.1 f.1 j)

  -- what two heaps that conjuncts pick out have in common: they are one, and what is learned is the same
  pub record Same (learns : ℕ → Bool) (s t : ℕ → Value) (one two : Heap) : Type 0 where
    pub heaps : one ≡ two
    pub learned : Agree learns s t

  -- a conjunct that is ready picks out at most one heap, and fixes what is learned from it
  pub ready-same : (known : ℕ → Bool) (c : Conjunct E) (s t : ℕ → Value) (heap one two other another : Heap)
      → IsReady known c → Agree known s t → Splits heap one other → Splits heap two another → SatOne c v s one
      → SatOne c v t two → Same (is_learned c) s t one two
  ready-same known (holds p True) s t h g k q r i a m n d e =
      record { heaps = empty-same d.0 e.0; learned = λ n i. absurd (true≢false (sym i)) }
  ready-same known (holds p (Equal x y)) s t h g k q r i a m n d e =
      record {
        heaps = empty-same d.0 e.0;
        learned = λ l j. either (or_cases (is_existential l x) (is_existential l y) j)
            (existential-same l s t x sides.0) (existential-same l s t y sides.1);
      }
    where
      sides : (operand v s x ≡ operand v t x) × (operand v s y ≡ operand v t y)
      sides = either i
          (λ k. let f = known-same known s t x a k in (f, sym d.1 ∙ f ∙ e.1))
          (λ k. let f = known-same known s t y a k in (d.1 ∙ f ∙ sym e.1, f))
  ready-same known (holds p (Differ x y)) s t h g k q r i a m n d e =
      record { heaps = empty-same d.0 e.0; learned = λ n i. absurd (true≢false (sym i)) }
  ready-same known (points p x fs) s t h g k q r i a m n d e =
      let place : d.0 ≡ e.0 = loc-same d.0 e.0 (sym d.2 ∙ known-same known s t x a i ∙ e.2) in
      let here : h d.0 ≡ Some d.1 = splits-has_left d.0 d.1 m d.3.here in
      let there : h e.0 ≡ Some e.1 = splits-has_left e.0 e.1 n e.3.here in
      let same : d.1 ≡ e.1 = same_Some d.1 e.1 (sym here ∙ ap h place ∙ there) in
      record {
        heaps = one-same d.3 (subst₂ (λ y z. IsOne y z k) (sym place) (sym same) e.3);
        learned = λ l j. fields-same l s t fs d.1 e.1 same d.4 e.4 j;
      }
  ready-same known (segment p next x y) s t h g k q r i a m n d e = record {
    heaps = seg-same d (subst (λ z. Seg next z (operand v t x) k) (sym (known-same known s t y a i.1)) e)
        (known-same known s t x a i.0) m n;
    learned = λ n i. absurd (true≢false (sym i));
  }
  ready-same known (doubly p next back x b l y) s t h g k q r i a m n d e = record {
    heaps = dseg-same d
        (subst (λ z. Dseg next back (operand v t l) z (operand v t b) (operand v t x) k)
        (sym (known-same known s t y a i.3)) e)
        (known-same known s t x a i.0) m n;
    learned = λ n i. absurd (true≢false (sym i));
  }
  ready-same known (tree p left right x) s t h g k q r i a m n d e =
      record {
        heaps = tree-same d e (known-same known s t x a i) m n;
        learned = λ n i. absurd (true≢false (sym i));
      }
  ready-same known (choose p b this that) s t h g k q r i a m n d e = absurd i

  -- what one of the conjuncts says and what the others say
  pub leaves-focus : (cs : Conjuncts E) (c : Conjunct E) (rest : Conjuncts E) (s : ℕ → Value) (heap : Heap)
      → Leaves cs c rest → SatAll cs v s heap → (SatOne c v s ⋆ SatAll rest v s) heap
  leaves-focus none c rest s h l d = absurd l
  leaves-focus (also b bs) c rest s h (inl l) d = subst₂ (λ x y. (SatOne x v s ⋆ SatAll y v s) h) l.0 l.1 d
  leaves-focus (also b bs) c rest s h (inr l) d =
      subst (λ y. (SatOne c v s ⋆ SatAll y v s) h) (sym l.2)
      (star-swap (star-map_right (λ part f. leaves-focus bs c l.0 s part l.1 f) d))

  -- the way back
  pub leaves-unfocus : (cs : Conjuncts E) (c : Conjunct E) (rest : Conjuncts E) (s : ℕ → Value) (heap : Heap)
      → Leaves cs c rest → (SatOne c v s ⋆ SatAll rest v s) heap → SatAll cs v s heap
  leaves-unfocus none c rest s h l d = absurd l
  leaves-unfocus (also b bs) c rest s h (inl l) d =
      subst₂ (λ x y. (SatOne x v s ⋆ SatAll y v s) h) (sym l.0) (sym l.1) d
  leaves-unfocus (also b bs) c rest s h (inr l) d =
      star-map_right (λ part f. leaves-unfocus bs c l.0 s part l.1 f)
      (star-swap (subst (λ y. (SatOne c v s ⋆ SatAll y v s) h) l.2 d))

  -- what is learned from the conjuncts is learned from the one or from the others
  pub leaves-learned : (cs : Conjuncts E) (c : Conjunct E) (rest : Conjuncts E) (n : ℕ) → Leaves cs c rest
      → is_learned_in cs n ≡ true → (is_learned c n ≡ true) ⊎ (is_learned_in rest n ≡ true)
  leaves-learned none c rest n l i = absurd l
  leaves-learned (also b bs) c rest n (inl l) i =
      subst₂ (λ x y. (is_learned x n ≡ true) ⊎ (is_learned_in y n ≡ true)) l.0 l.1
      (or_cases (is_learned b n) (is_learned_in bs n) i)
  leaves-learned (also b bs) c rest n (inr l) i =
      either (or_cases (is_learned b n) (is_learned_in bs n) i)
      (λ j. inr (subst (λ y. is_learned_in y n ≡ true) (sym l.2)
      (or_left (is_learned b n) (is_learned_in l.0 n) j)))
      (λ j. either (leaves-learned bs c l.0 n l.1 j) (λ k. inl k)
      (λ k. inr (subst (λ y. is_learned_in y n ≡ true) (sym l.2)
      (or_right (is_learned b n) (is_learned_in l.0 n) k))))

  -- the way back
  pub leaves-unlearned : (cs : Conjuncts E) (c : Conjunct E) (rest : Conjuncts E) (n : ℕ) → Leaves cs c rest
      → (is_learned c n ≡ true) ⊎ (is_learned_in rest n ≡ true) → is_learned_in cs n ≡ true
  leaves-unlearned none c rest n l i = absurd l
  leaves-unlearned (also b bs) c rest n (inl l) i =
      either i
      (λ j. or_left (is_learned b n) (is_learned_in bs n) (subst (λ x. is_learned x n ≡ true) (sym l.0) j))
      (λ j. or_right (is_learned b n) (is_learned_in bs n)
      (subst (λ y. is_learned_in y n ≡ true) (sym l.1) j))
  leaves-unlearned (also b bs) c rest n (inr l) i =
      let below = λ (h : (is_learned c n ≡ true) ⊎ (is_learned_in l.0 n ≡ true)). or_right (is_learned b n)
      (is_learned_in bs n) (leaves-unlearned bs c l.0 n l.1 h) in
      either i
      (λ j. below (inl j))
      (λ j. either (or_cases (is_learned b n) (is_learned_in l.0 n)
      (subst (λ y. is_learned_in y n ≡ true) l.2 j)) (or_left (is_learned b n) (is_learned_in bs n))
      (λ k. below (inr k)))

  -- what occurs in the conjuncts occurs in the one or in the others
  leaves-occurs : (cs : Conjuncts E) (c : Conjunct E) (rest : Conjuncts E) (x : Operand E) → Leaves cs c rest
      → OccursInAll cs x → OccursInOne c x ⊎ OccursInAll rest x
  leaves-occurs none c rest x l i = absurd l
  leaves-occurs (also b bs) c rest x (inl l) i = subst₂ (λ y z. OccursInOne y x ⊎ OccursInAll z x) l.0 l.1 i
  leaves-occurs (also b bs) c rest x (inr l) i =
      either i
      (λ j. inr (subst (λ y. OccursInAll y x) (sym l.2) (inl j)))
      (λ j. either (leaves-occurs bs c l.0 x l.1 j) (λ k. inl k)
      (λ k. inr (subst (λ y. OccursInAll y x) (sym l.2) (inr k))))

  exists-is : (n : ℕ) (x : Operand E) → Exists n ≡ x → is_existential n x ≡ true
  exists-is n x e = subst (λ y. is_existential n y ≡ true) e ((unsigned_Decides n n).1 refl)

  exists-known : (known : ℕ → Bool) (n : ℕ) (x : Operand E) → Exists n ≡ x → IsKnown known x → known n ≡ true
  exists-known known n x e k = subst (IsKnown known) (sym e) k

  exists-field : (n : ℕ) (fs : List (FieldId × Operand E)) → OccursInFields fs (Exists n)
      → is_in_fields n fs ≡ true
  exists-field n [] i = absurd i
  exists-field n (f ∷ fs) i = either i
      (λ e. or_left (is_existential n f.1) (is_in_fields n fs) (exists-is n f.1 e))
      (λ j. or_right (is_existential n f.1) (is_in_fields n fs) (exists-field n fs j))

  -- an existential that occurs in a conjunct that is ready is known, or is learned from it
  ready-occurs : (known : ℕ → Bool) (c : Conjunct E) (n : ℕ) → IsReady known c → OccursInOne c (Exists n)
      → (known n ≡ true) ⊎ (is_learned c n ≡ true)
  ready-occurs known (holds p True) n i o = absurd o
  ready-occurs known (holds p (Equal x y)) n i o =
      inr (either o (λ e. or_left (is_existential n x) (is_existential n y) (exists-is n x e))
      (λ e. or_right (is_existential n x) (is_existential n y) (exists-is n y e)))
  ready-occurs known (holds p (Differ x y)) n i o =
      inl (either o (λ e. exists-known known n x e i.0) (λ e. exists-known known n y e i.1))
  ready-occurs known (points p x fs) n i o =
      either o (λ e. inl (exists-known known n x e i)) (λ j. inr (exists-field n fs j))
  ready-occurs known (segment p next x y) n i o =
      inl (either o (λ e. exists-known known n x e i.0) (λ e. exists-known known n y e i.1))
  ready-occurs known (doubly p next back x b l y) n i o =
      inl (either o (λ e. exists-known known n x e i.0)
      (λ o. either o (λ e. exists-known known n b e i.1)
      (λ o. either o (λ e. exists-known known n l e i.2) (λ e. exists-known known n y e i.3))))
  ready-occurs known (tree p left right x) n i o = inl (exists-known known n x o i)
  ready-occurs known (choose p b this that) n i o = absurd i

  taken-occurs : (known : ℕ → Bool) (c : Conjunct E) (n : ℕ) → CanBeTaken known c → OccursInOne c (Exists n)
      → (known n ≡ true) ⊎ (is_learned c n ≡ true)
  taken-occurs known c n (plain i) o = ready-occurs known c n i o
  taken-occurs known c n (branches p b made other this that i h x y) o = inl (h n o)

  -- an existential that occurs in conjuncts that have an order is known, or is learned from them
  pub order-occurs : (known : ℕ → Bool) (cs : Conjuncts E) (n : ℕ) → HasOrder known cs
      → OccursInAll cs (Exists n) → (known n ≡ true) ⊎ (is_learned_in cs n ≡ true)
  order-occurs known cs n (all_taken i) o = absurd (subst (λ z. OccursInAll z (Exists n)) i o)
  order-occurs known cs n (take c rest l f h) o =
      let back = leaves-unlearned cs c rest n l in
      either (leaves-occurs cs c rest (Exists n) l o)
      (λ j. either (taken-occurs known c n f j) (λ k. inl k) (λ k. inr (back (inl k))))
      (λ j. either (order-occurs (known_after c known) rest n h j)
      (λ k. either (or_cases (known n) (is_learned c n) k) (λ z. inl z) (λ z. inr (back (inl z))))
      (λ k. inr (back (inr k))))

  -- what is known stays so inside a level
  pub inside-agree : (known : ℕ → Bool) (made : Scope) (s t here there : ℕ → Value) → SameOutside made s here
      → SameOutside made t there → Agree known s t → Agree (known_inside made known) here there
  inside-agree known made s t here there o w a n i =
      let j = and_parts (known n) (not (is_made_by made n)) i in
      let k = not-true (is_made_by made n) j.1 in
      o n k ∙ a n j.0 ∙ sym (w n k)

  -- what is known and what is learned are known
  pub after-agree : (known : ℕ → Bool) (c : Conjunct E) (s t : ℕ → Value) → Agree known s t
      → Agree (is_learned c) s t → Agree (known_after c known) s t
  after-agree known c s t a b n i = either (or_cases (known n) (is_learned c n) i) (a n) (b n)

  -- an operand that occurs in a choice from outside has the same value
  pub occurs-same : (known : ℕ → Bool) (c : Conjunct E) (s t : ℕ → Value) → Agree known s t
      → ((n : ℕ) → OccursInOne c (Exists n) → known n ≡ true) → (x : Operand E) → OccursInOne c x
      → operand v s x ≡ operand v t x
  occurs-same known c s t a k (Known x) i = refl
  occurs-same known c s t a k (Exists n) i = a n (k n i)

  -- the branch that the test chooses
  pub choose-which : (p : Place) (b : Test (Operand E)) (this that : Level E) (s t : ℕ → Value)
      (one two : Heap)
      → ((x : Operand E) → OccursInTest b x → operand v s x ≡ operand v t x)
      → SatOne (choose p b this that) v s one → SatOne (choose p b this that) v t two
      → (Sat this v s one × Sat this v t two) ⊎ (Sat that v s one × Sat that v t two)
  choose-which p b this that s t g k a d e = go (test-which (operand v s) b)
    where
      go : IsTrueOf (operand v s) b ⊎ (IsTrueOf (operand v s) b → ⊥)
          → (Sat this v s g × Sat this v t k) ⊎ (Sat that v s g × Sat that v t k)
      go (inl i) = inl (d.0 i, e.0 (test-agree (operand v s) (operand v t) b a i))
      go (inr n) = inr (d.1 n, e.1 (λ i. n (test-agree (operand v t) (operand v s) b (λ x j. sym (a x j)) i)))

  mutual
    -- conjuncts that have an order pick out at most one heap, and fix what is learned from them
    pub order-same : (known : ℕ → Bool) (cs : Conjuncts E) → HasOrder known cs
        → (s t : ℕ → Value) (heap one two other another : Heap) → Agree known s t → Splits heap one other
        → Splits heap two another → SatAll cs v s one → SatAll cs v t two
        → Same (is_learned_in cs) s t one two
    order-same known cs (all_taken i) s t h g k q r a m n d e =
        record {
          heaps = empty-same (subst (λ z. SatAll z v s g) i d) (subst (λ z. SatAll z v t k) i e);
          learned = subst (λ z. Agree (is_learned_in z) s t) (sym i) (λ l j. absurd (true≢false (sym j)));
        }
    order-same known cs (take c rest l f o) s t h g k q r a m n d e =
        let x = leaves-focus cs c rest s g l d in
        let y = leaves-focus cs c rest t k l e in
        let first = taken-same known c f s t h x.left y.left _ _ a (splits-assoc_right x.splits m).1
        (splits-assoc_right y.splits n).1 x.first y.first in
        let second = order-same (known_after c known) rest o s t h x.right y.right _ _
        (after-agree known c s t a first.learned) (splits-assoc_right (splits-comm x.splits) m).1
        (splits-assoc_right (splits-comm y.splits) n).1 x.second y.second in
        record {
          heaps = splits-same_whole (subst₂ (Splits g) first.heaps second.heaps x.splits) y.splits;
          learned = λ j i. either (leaves-learned cs c rest j l i) (first.learned j) (second.learned j);
        }

    -- so does one of them
    pub taken-same : (known : ℕ → Bool) (c : Conjunct E) → CanBeTaken known c
        → (s t : ℕ → Value) (heap one two other another : Heap) → Agree known s t → Splits heap one other
        → Splits heap two another → SatOne c v s one → SatOne c v t two → Same (is_learned c) s t one two
    taken-same known c (plain i) s t h g k q r a m n d e = ready-same known c s t h g k q r i a m n d e
    taken-same known c (branches p b made other this that i o x y) s t h g k q r a m n d e =
        let whole = choose p b (level made this) (level other that) in
        let which = choose-which p b (level made this) (level other that) s t g k
        (λ z j. occurs-same known whole s t a
        (λ l w. o l (subst (λ z. OccursInOne z (Exists l)) (sym i) w)) z (inl j))
        (subst (λ z. SatOne z v s g) i d) (subst (λ z. SatOne z v t k) i e) in
        record {
          heaps = either which
              (λ w. (order-same (known_inside made known) this x w.0.0 w.1.0 h g k q r
              (inside-agree known made s t w.0.0 w.1.0 w.0.1 w.1.1 a) m n w.0.2 w.1.2).heaps)
              (λ w. (order-same (known_inside other known) that y w.0.0 w.1.0 h g k q r
              (inside-agree known other s t w.0.0 w.1.0 w.0.1 w.1.1 a) m n w.0.2 w.1.2).heaps);
          learned = subst (λ z. Agree (is_learned z) s t) (sym i) (λ l j. absurd (true≢false (sym j)));
        }

-- a determined level is precise
pub determined-precise : {E : Type 0} (a : Level E) (v : E → Value) (some : ℕ → Value) → Determined a
    → IsPrecise (Sat a v some)
determined-precise (level made cs) v some o h g k q r m n d e =
    (order-same v (λ n. false) cs o d.0 e.0 h g k q r (λ n i. absurd (true≢false (sym i))) m n d.2 e.2).heaps

-- the existentials of a determined level are learned
pub determined-learns : {E : Type 0} (v : E → Value) (cs : Conjuncts E) → HasOrder (λ n. false) cs → (n : ℕ)
    → OccursInAll cs (Exists n) → is_learned_in cs n ≡ true
determined-learns v cs o n i = either (order-occurs v (λ m. false) cs n o i)
    (λ f. absurd (true≢false (sym f))) (λ f. f)

-- each existential that occurs in conjuncts that have an order has one value
pub order-fixes : {E : Type 0} (v : E → Value) (known : ℕ → Bool) (cs : Conjuncts E) (s t : ℕ → Value)
    (heap one two other another : Heap) → HasOrder known cs → Agree v known s t → Splits heap one other
    → Splits heap two another
    → SatAll cs v s one → SatAll cs v t two → (one ≡ two) × ((n : ℕ) → OccursInAll cs (Exists n) → s n ≡ t n)
order-fixes v known cs s t h g k q r o a m n d e =
    let same = order-same v known cs o s t h g k q r a m n d e in
    (same.heaps, λ l i. either (order-occurs v known cs l o i) (a l) (same.learned l))

-- the existentials of a determined level have one value each
pub determined-fixes : {E : Type 0} (cs : Conjuncts E) (v : E → Value) (s t : ℕ → Value)
    (heap one two other another : Heap) → HasOrder (λ n. false) cs → Splits heap one other
    → Splits heap two another → SatAll cs v s one → SatAll cs v t two
    → (n : ℕ) → OccursInAll cs (Exists n) → s n ≡ t n
determined-fixes cs v s t h g k q r o m n d e =
    (order-fixes v (λ n. false) cs s t h g k q r o (λ j f. absurd (true≢false (sym f))) m n d e).1

-- a footprint in a part of a heap is one in the heap
pub foot-whole : {E : Type 0} {a : Level E} {v : E → Value} {whole heap rest part : Heap}
    → Splits whole heap rest → Foot a v heap part → Foot a v whole part
foot-whole s f = record { rest = _; splits = (splits-assoc_right f.splits s).1; sat = f.sat }

-- a heap that satisfies a level is its own footprint
pub foot-self : {E : Type 0} {a : Level E} {v : E → Value} {heap : Heap} → Sat a v (λ n. nil) heap
    → Foot a v heap heap
foot-self d = record { rest = _; splits = splits-empty_right empty-holds; sat = d }
