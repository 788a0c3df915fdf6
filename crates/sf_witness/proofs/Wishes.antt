-- What is wanted, and when a conjunct without a term is satisfied.
-- Names: `wants-nothing`; `equal-CASE`, `different-CASE`, `segment-CASE`, `tree-CASE`.
use Rattle.std.proofs.Common.{◌≡◌, ◌≢◌, ◌==◌, ◌↔◌, ◌++◌, ℕ, Bool, true, false, cond, List, [], ◌∷◌, Option, Some, None, length, map, refl, sym, ap, ◌∙◌, subst, subst₂, IsTrue, not, arith}
use Rattle.std.proofs.lemmas.Bool.Decides.{nat_tests}
use Rattle.sf_base.specs.declared.ids.FieldId.{FieldId}
use Rattle.sf_base.specs.declared.value.Value.{Value}
use Rattle.sf_base.specs.declared.value.Value.TheVariants.{Nil as nil, Int as int, Loc as loc}
use Rattle.sf_base.specs.HeapStore.{Heap}
use Rattle.sf_base.proofs.HeapSplits.{at-same}
use Rattle.sf_base.proofs.MapSplits.{empty_map, empty-holds, splits-empty_left}
use Rattle.sf_core.specs.Assertions.Sat.{Seg, end, Tree, leaf, operand}
use Rattle.sf_core.specs.declared.assertion.Operand.{Operand}
use Rattle.sf_core.specs.declared.assertion.Operand.TheVariants.{Known, Exists}
use Rattle.sf_core.specs.declared.assertion.Test.TheVariants.{Equal, Differ}
use Rattle.sf_core.specs.declared.command.Command.{Command as CodeCommand}
use Rattle.sf_core.specs.Program.View.{command_of}
use Rattle.sf_sym.specs.declared.goal.Item.{Item as CodeItem}
use Rattle.sf_sym.specs.declared.goal.Item.TheVariants.{Run, Add, Take, Gave, Head, Again, Exit, Return, End}
use Rattle.sf_sym.specs.declared.term.Term.{Term}
use Rattle.sf_sym.specs.Checked.Items.{is_nothing}
use Rattle.sf_sym.specs.Decided.{term_of}
use Rattle.sf_sym.specs.Goal.{Item, run, items_of}
use Rattle.sf_sym.specs.Holds.{term_value}
use Rattle.sf_witness.specs.Checked.Shapes.{HasPart}
use Rattle.sf_witness.specs.Checked.Wishes.{HasSegmentWith, HasTreeWith, IsTrueWith, is_one}
use Rattle.sf_witness.specs.Located.{located, value_at}
use Rattle.sf_witness.specs.Wanted.{wanted}
use Rattle.sf_witness.proofs.Equations.{bound-but, but, but-here, default-bound, filled, operand-term, with_default}

-- commands want no conjunct
run-wants : (cs : List CodeCommand) (rest : List Item) → (length cs == 0) ≡ false
    → wanted (map (λ c. run (command_of c)) cs ++ rest) ≡ None
run-wants [] rest e = absurd (cc)
run-wants (c ∷ cs) rest e = refl

-- an item that shows nothing wants none
pub wants-nothing : (item : CodeItem) → is_nothing item ≡ false
    → ((p : _) (w : _) (n : _) → item ≡ Take p w n → ⊥) → (rest : List Item) → wanted (items_of item ++ rest) ≡ None
wants-nothing (Run commands) e n rest = run-wants commands.now rest e
wants-nothing (Add p given) e n rest = refl
wants-nothing (Take p want names) e n rest = absurd (n p want names refl)
wants-nothing (Gave p set removed) e n rest = refl
wants-nothing (Head p test invariant body) e n rest = refl
wants-nothing (Again p invariant) e n rest = refl
wants-nothing (Exit p r) e n rest = refl
wants-nothing (Return p owed) e n rest = refl
wants-nothing (End p) e n rest = refl

module _ (bindings : List (Option Term)) where
  -- an operand that has no term has the default value
  default-operand : (v : Value) (x : Operand Term) → term_of bindings x ≡ None
      → operand (term_value located) (with_default bindings v) x ≡ v
  default-operand v (Known t) e = absurd (cc)
  default-operand v (Exists n) e = ap (filled v) e

  -- EQUAL two operands with terms
  pub equal-both : (x y : Operand Term) (t u : Term) → term_of bindings x ≡ Some t → term_of bindings y ≡ Some u
      → (value_at t ≡ value_at u) ↔ IsTrueWith bindings (Equal x y)
  equal-both x y t u e f = (
    λ same. (
      with_default bindings nil,
      default-bound bindings nil,
      operand-term bindings (with_default bindings nil) x t (default-bound bindings nil) e ∙ same
          ∙ sym (operand-term bindings (with_default bindings nil) y u (default-bound bindings nil) f),
    ),
    λ w. sym (operand-term bindings w.0 x t w.1 e) ∙ w.2 ∙ operand-term bindings w.0 y u w.1 f,
  )

  -- the value of an operand by a default
  abbrev pub by_default : Operand Term → Value
  by_default x = operand (term_value located) (with_default bindings nil) x

  -- where the first has none, it takes the value of the second
  pub equal-first : (x y : Operand Term) → term_of bindings x ≡ None → IsTrueWith bindings (Equal x y)
  equal-first x y e = go (term_of bindings y) refl
    where
      go : (o : Option Term) → term_of bindings y ≡ o → IsTrueWith bindings (Equal x y)
      go (Some u) f = (
        with_default bindings (value_at u),
        default-bound bindings (value_at u),
        default-operand (value_at u) x e
            ∙ sym (operand-term bindings (with_default bindings (value_at u)) y u (default-bound bindings (value_at u)) f),
      )
      go None f =
          (with_default bindings nil, default-bound bindings nil, default-operand nil x e ∙ sym (default-operand nil y f))

  flip : (x y : Operand Term) → IsTrueWith bindings (Equal x y) → IsTrueWith bindings (Equal y x)
  flip x y w = (w.0, w.1, sym w.2)

  pub equal-second : (x y : Operand Term) → term_of bindings y ≡ None → IsTrueWith bindings (Equal x y)
  equal-second x y e = flip y x (equal-first y x e)

  -- DIFFERENT two operands with terms
  pub different-both : (x y : Operand Term) (t u : Term) → term_of bindings x ≡ Some t → term_of bindings y ≡ Some u
      → (value_at t ≢ value_at u) ↔ IsTrueWith bindings (Differ x y)
  different-both x y t u e f = (
    λ other. (
      with_default bindings nil,
      default-bound bindings nil,
      λ same. other (sym (operand-term bindings (with_default bindings nil) x t (default-bound bindings nil) e) ∙ same
          ∙ operand-term bindings (with_default bindings nil) y u (default-bound bindings nil) f),
    ),
    λ w same. w.2 (operand-term bindings w.0 x t w.1 e ∙ same ∙ sym (operand-term bindings w.0 y u w.1 f)),
  )

  -- another value
  abbrev pub other : Value → Value
  other nil = loc 0
  other (int i) = nil
  other (loc l) = nil

  other-differs : (v : Value) → other v ≢ v
  other-differs nil = λ e. absurd (cc)
  other-differs (int i) = λ e. absurd (cc)
  other-differs (loc l) = λ e. absurd (cc)

  -- where one has none, it takes another value
  pub different-first : (x y : Operand Term) (u : Term) → term_of bindings x ≡ None → term_of bindings y ≡ Some u
      → IsTrueWith bindings (Differ x y)
  different-first x y u e f =
      let v = other (value_at u) in (
        with_default bindings v,
        default-bound bindings v,
        λ same. other-differs (value_at u) (sym (default-operand v x e) ∙ same
            ∙ operand-term bindings (with_default bindings v) y u (default-bound bindings v) f),
      )

  pub different-second : (x y : Operand Term) (t : Term) → term_of bindings x ≡ Some t → term_of bindings y ≡ None
      → IsTrueWith bindings (Differ x y)
  different-second x y t e f =
      let w = different-first y x t f e in
      (w.0, w.1, λ same. w.2 (sym same))

  -- where both have none, they differ unless they are one
  pub different-neither : (x y : Operand Term) → term_of bindings x ≡ None → term_of bindings y ≡ None
      → is_one x y ≡ false → IsTrueWith bindings (Differ x y)
  different-neither (Known t) y e f n = absurd (cc)
  different-neither (Exists m) (Known u) e f n = absurd (cc)
  different-neither (Exists m) (Exists k) e f n =
      let some = with_default bindings nil in (
        but some m (loc 0),
        bound-but bindings some m (loc 0) e (default-bound bindings nil),
        λ same. loc-not_nil (sym (but-here some m (loc 0)) ∙ same
            ∙ ap (λ b. cond b (loc 0) (some k)) (swap m k n) ∙ default-operand nil (Exists k) f),
      )
    where
      loc-not_nil : loc 0 ≡ nil → ⊥
      loc-not_nil e = absurd (cc)

      swap : (a b : ℕ) → a == b ≡ false → b == a ≡ false
      swap a b e = grind (arith, nat_tests)

  -- where the first has none, they differ unless they are one
  pub different-free : (x y : Operand Term) → term_of bindings x ≡ None → is_one x y ≡ false
      → IsTrueWith bindings (Differ x y)
  different-free x y e n = go (term_of bindings y) refl
    where
      go : (o : Option Term) → term_of bindings y ≡ o → IsTrueWith bindings (Differ x y)
      go (Some u) f = different-first x y u e f
      go None f = different-neither x y e f n

  pub different-one : (x y : Operand Term) → is_one x y ≡ true → IsTrueWith bindings (Differ x y) → ⊥
  different-one (Known t) y n w = absurd (cc)
  different-one (Exists m) (Known u) n w = absurd (cc)
  different-one (Exists m) (Exists k) n w = w.2 (ap w.0 (at-same k m n))

  -- SEGMENTS between two terms
  pub segment-both : (next : FieldId) (x y : Operand Term) (t u : Term) (heap : Heap) → term_of bindings x ≡ Some t
      → term_of bindings y ≡ Some u
      → HasPart (Seg next (value_at u) (value_at t)) heap ↔ HasSegmentWith bindings next x y heap
  segment-both next x y t u heap e f = (
    λ h. (
      with_default bindings nil,
      default-bound bindings nil,
      subst₂ (λ (a b : Value). HasPart (Seg next a b) heap)
          (sym (operand-term bindings (with_default bindings nil) y u (default-bound bindings nil) f))
          (sym (operand-term bindings (with_default bindings nil) x t (default-bound bindings nil) e)) h,
    ),
    λ w. subst₂ (λ (a b : Value). HasPart (Seg next a b) heap) (operand-term bindings w.0 y u w.1 f)
        (operand-term bindings w.0 x t w.1 e) w.2,
  )

  -- one whose ends can be the same is empty
  pub segment-equal : (next : FieldId) (x y : Operand Term) (heap : Heap) → IsTrueWith bindings (Equal x y)
      → HasSegmentWith bindings next x y heap
  segment-equal next x y heap w = (
    w.0,
    w.1,
    record {
      part = empty_map;
      rest = heap;
      splits = splits-empty_left empty-holds;
      is = end w.2 empty-holds;
    },
  )

  -- TREES with a root that has a term
  pub tree-term : (left right : FieldId) (x : Operand Term) (t : Term) (heap : Heap) → term_of bindings x ≡ Some t
      → HasPart (Tree left right (value_at t)) heap ↔ HasTreeWith bindings left right x heap
  tree-term left right x t heap e = (
    λ h. (
      with_default bindings nil,
      default-bound bindings nil,
      subst (λ (a : Value). HasPart (Tree left right a) heap)
          (sym (operand-term bindings (with_default bindings nil) x t (default-bound bindings nil) e)) h,
    ),
    λ w. subst (λ (a : Value). HasPart (Tree left right a) heap) (operand-term bindings w.0 x t w.1 e) w.2,
  )

  -- without one it is empty
  pub tree-none : (left right : FieldId) (x : Operand Term) (heap : Heap) → term_of bindings x ≡ None
      → HasTreeWith bindings left right x heap
  tree-none left right x heap e = (
    with_default bindings nil,
    default-bound bindings nil,
    record {
      part = empty_map;
      rest = heap;
      splits = splits-empty_left empty-holds;
      is = leaf (default-operand nil x e) empty-holds;
    },
  )

  -- where the first has no term, two operands can differ exactly where they aren't one existential
  pub free-decides : (x y : Operand Term) → term_of bindings x ≡ None
      → IsTrue (not (is_one x y)) ↔ IsTrueWith bindings (Differ x y)
  free-decides x y e = go (is_one x y) refl
    where
      go : (b : Bool) → is_one x y ≡ b → IsTrue (not b) ↔ IsTrueWith bindings (Differ x y)
      go true n = (λ i. absurd (cc), λ w. absurd (different-one x y n w))
      go false n = (λ i. different-free x y e n, λ w. refl)

-- what a test that is turned round decides
pub not-decides : (r : Bool) (P Q : Type 0) → (IsTrue r ↔ P) → ((P → ⊥) ↔ Q) → IsTrue (not r) ↔ Q
not-decides true P Q d e = (λ i. absurd (cc), λ q. absurd (e.1 q (d.0 refl)))
not-decides false P Q d e = (λ i. e.0 (λ p. let k : false ≡ true = d.1 p in absurd (cc)), λ q. refl)
