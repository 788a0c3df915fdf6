-- What satisfaction depends on, how it is decided, and that what satisfies is finite.
-- Names: `sat-LAW` speaks of whole levels, `test-LAW`, `fields-LAW` and `value-LAW` of their parts.
use Rattle.std.specs.Prelude.{◌≡◌, ◌≢◌, ◌⊎◌, ℕ, Bool, true, false, cond, List, [], ◌∷◌}
use Rattle.std.proofs.Common.{sym, ap, ◌∙◌, refl, subst, subst₂, inl, inr}
use Rattle.sf_base.specs.declared.ids.FieldId.{FieldId}
use Rattle.sf_base.specs.declared.ids.Var.{Var}
use Rattle.sf_base.specs.declared.value.Value.{Value}
use Rattle.sf_core.specs.declared.assertion.Operand.{Operand}
use Rattle.sf_core.specs.declared.assertion.Operand.TheVariants.{Known, Exists}
use Rattle.sf_core.specs.declared.assertion.Scope.{Scope}
use Rattle.sf_core.specs.declared.assertion.Test.{Test}
use Rattle.sf_core.specs.declared.assertion.Test.TheVariants.{True, Equal, Differ}
use Rattle.sf_core.specs.declared.command.Expr.{Expr}
use Rattle.sf_core.specs.declared.command.Expr.TheVariants.{Var as Variable, Nil, Int}
use Rattle.sf_core.proofs.Assertions.Finite.{finite-empty, finite-one, finite-splits}
use Rattle.sf_base.proofs.HeapSplits.{star-map}
use Rattle.sf_core.proofs.Assertions.Segments.{seg-finite}
use Rattle.sf_core.proofs.Assertions.DoubleSegments.{dseg-agree, dseg-finite}
use Rattle.sf_core.proofs.Assertions.Trees.{tree-finite}
use Rattle.sf_core.proofs.Assertions.Values.{value-which}
use Rattle.sf_base.specs.HeapStore.{Cell, Heap}
use Rattle.sf_core.specs.Assertions.Occurs.{IsFromOutside, OccursIn, OccursInAll, OccursInFields, OccursInOne, OccursInTest, VarOccursIn}
use Rattle.sf_core.specs.Assertions.Scopes.{is_made_by}
use Rattle.sf_core.specs.Assertions.Sat.{HasFields, IsTrueOf, SameOutside, Sat, SatAll, SatOne, Seg, Tree, operand, value}
use Rattle.sf_core.specs.Checked.Assertions.Shape.{IsFinite}
use Rattle.sf_core.specs.Program.Syntax.{Conjunct, holds, points, segment, doubly, tree, choose, Level, level, Conjuncts, none, also}

-- Tests and fields of anything that has a value
module _ {X : Type 0} where
  -- a test is true or false
  pub test-which : (val : X → Value) (t : Test X) → IsTrueOf val t ⊎ (IsTrueOf val t → ⊥)
  test-which val True = inl tt
  test-which val (Equal x y) = value-which (val x) (val y)
  test-which val (Differ x y) = go (value-which (val x) (val y))
    where
      go : (val x ≡ val y) ⊎ (val x ≢ val y) → (val x ≢ val y) ⊎ (val x ≢ val y → ⊥)
      go (inl e) = inr (λ n. n e)
      go (inr n) = inl n

  -- a test that is true stays true where its sides have the same values
  pub test-agree : (one two : X → Value) (t : Test X) → ((x : X) → OccursInTest t x → one x ≡ two x)
      → IsTrueOf one t → IsTrueOf two t
  test-agree one two True e d = tt
  test-agree one two (Equal x y) e d = sym (e x (inl refl)) ∙ d ∙ e y (inr refl)
  test-agree one two (Differ x y) e d = λ i. d (e x (inl refl) ∙ i ∙ sym (e y (inr refl)))

  -- a cell's fields stay right where the values are the same
  pub fields-agree : (one two : X → Value) (fs : List (FieldId × X)) (here : Cell)
      → ((x : X) → OccursInFields fs x → one x ≡ two x) → HasFields one fs here → HasFields two fs here
  fields-agree one two [] c e d = tt
  fields-agree one two (f ∷ fs) c e d =
      (d.0 ∙ e f.1 (inl refl), fields-agree one two fs c (λ x i. e x (inr i)) d.1)

module _ {E : Type 0} (v w : E → Value) where
  -- the first choice for what a scope makes, and the second for what is from outside
  abbrev chosen : Scope → (ℕ → Value) → (ℕ → Value) → ℕ → Value
  chosen made here outside n = cond (is_made_by made n) (here n) (outside n)

  -- what two choices have the same from outside, they have the same with the choice made here
  chosen-agree : (made : Scope) (s t here : ℕ → Value) (x : Operand E) → SameOutside made s here
      → (IsFromOutside made x → operand v s x ≡ operand w t x)
      → operand v here x ≡ operand w (chosen made here t) x
  chosen-agree made s t here (Known x) o e = e tt
  chosen-agree made s t here (Exists n) o e = go (is_made_by made n) refl
    where
      go : (b : Bool) → is_made_by made n ≡ b → here n ≡ cond (is_made_by made n) (here n) (t n)
      go true i = sym (ap (λ b. cond b (here n) (t n)) i)
      go false i = o n i ∙ e i ∙ sym (ap (λ b. cond b (here n) (t n)) i)

  chosen-outside : (made : Scope) (t here : ℕ → Value) → SameOutside made t (chosen made here t)
  chosen-outside made t here n o = ap (λ b. cond b (here n) (t n)) o

module _ {E : Type 0} where
  mutual
    -- a level speaks only of what occurs in it
    pub sat-agree : (a : Level E) (v w : E → Value) (s t : ℕ → Value) (heap : Heap)
        → ((x : Operand E) → OccursIn a x → operand v s x ≡ operand w t x) → Sat a v s heap → Sat a w t heap
    sat-agree (level made cs) v w s t heap e (here, o, d) = (
      chosen v w made here t,
      chosen-outside v w made t here,
      sat-all_agree cs v w here (chosen v w made here t) heap
          (λ x i. chosen-agree v w made s t here x o (λ f. e x (i, f))) d,
    )

    -- so do conjuncts
    pub sat-all_agree : (cs : Conjuncts E) (v w : E → Value) (s t : ℕ → Value) (heap : Heap)
        → ((x : Operand E) → OccursInAll cs x → operand v s x ≡ operand w t x) → SatAll cs v s heap
        → SatAll cs w t heap
    sat-all_agree none v w s t heap e d = d
    sat-all_agree (also c cs) v w s t heap e d =
        star-map (λ part f. sat-one_agree c v w s t part (λ x i. e x (inl i)) f)
        (λ part f. sat-all_agree cs v w s t part (λ x i. e x (inr i)) f) d

    -- so does one conjunct
    pub sat-one_agree : (c : Conjunct E) (v w : E → Value) (s t : ℕ → Value) (heap : Heap)
        → ((x : Operand E) → OccursInOne c x → operand v s x ≡ operand w t x) → SatOne c v s heap
        → SatOne c w t heap
    sat-one_agree (holds p b) v w s t heap e d = (d.0, test-agree (operand v s) (operand w t) b e d.1)
    sat-one_agree (points p x fs) v w s t heap e d = (
      d.0,
      d.1,
      sym (e x (inl refl)) ∙ d.2,
      d.3,
      fields-agree (operand v s) (operand w t) fs d.1 (λ y i. e y (inr i)) d.4,
    )
    sat-one_agree (segment p next x y) v w s t heap e d =
        subst₂ (λ a b. Seg next a b heap) (e y (inr refl)) (e x (inl refl)) d
    sat-one_agree (doubly p next back x b l y) v w s t heap e d =
        dseg-agree (e x (inl refl)) (e b (inr (inl refl))) (e l (inr (inr (inl refl))))
        (e y (inr (inr (inr refl)))) d
    sat-one_agree (tree p left right x) v w s t heap e d = subst (λ a. Tree left right a heap) (e x refl) d
    sat-one_agree (choose p b this that) v w s t heap e d = (
      λ i. sat-agree this v w s t heap (λ x j. e x (inr (inl j)))
          (d.0 (test-agree (operand w t) (operand v s) b (λ x j. sym (e x (inl j))) i)),
      λ n. sat-agree that v w s t heap (λ x j. e x (inr (inr j)))
          (d.1 (λ i. n (test-agree (operand v s) (operand w t) b (λ x j. e x (inl j)) i))),
    )

-- an assertion speaks only of the variables that occur in it
pub sat-same_variables : (a : Level Expr) (before after : Var → Value) (some : ℕ → Value) (heap : Heap)
    → ((x : Var) → VarOccursIn a x → before x ≡ after x) → Sat a (value before) some heap
    → Sat a (value after) some heap
sat-same_variables a before after some heap e d = sat-agree a (value before) (value after) some some heap go d
  where
    go : (x : Operand Expr) → OccursIn a x → operand (value before) some x ≡ operand (value after) some x
    go (Known (Variable x)) i = e x.var (x, refl, i)
    go (Known Nil) i = refl
    go (Known (Int n)) i = refl
    go (Exists n) i = refl

module _ {E : Type 0} (val : E → Value) where
  mutual
    -- a heap that satisfies a level is finite
    pub sat-finite : (a : Level E) (some : ℕ → Value) (heap : Heap) → Sat a val some heap → IsFinite heap
    sat-finite (level made cs) some heap d = sat-all_finite cs d.0 heap d.2

    -- so is one that satisfies conjuncts
    pub sat-all_finite : (cs : Conjuncts E) (some : ℕ → Value) (heap : Heap) → SatAll cs val some heap
        → IsFinite heap
    sat-all_finite none some heap d = finite-empty d
    sat-all_finite (also c cs) some heap d =
        finite-splits d.splits (sat-one_finite c some d.left d.first)
        (sat-all_finite cs some d.right d.second)

    -- and one that satisfies one conjunct
    pub sat-one_finite : (c : Conjunct E) (some : ℕ → Value) (heap : Heap) → SatOne c val some heap
        → IsFinite heap
    sat-one_finite (holds p t) some heap d = finite-empty d.0
    sat-one_finite (points p x fs) some heap d = finite-one d.3
    sat-one_finite (segment p next x y) some heap d = seg-finite d
    sat-one_finite (doubly p next back x b l y) some heap d = dseg-finite d
    sat-one_finite (tree p left right x) some heap d = tree-finite d
    sat-one_finite (choose p t this that) some heap d =
        elim (test-which (operand val some) t)
        [ inl i ↦ sat-finite this some heap (d.0 i) | inr n ↦ sat-finite that some heap (d.1 n) ]
