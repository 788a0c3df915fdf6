-- What a goal is stuck at is so in its witness or not.
-- Names: `FORM-decided`.
use Rattle.std.proofs.Common.{◌≡◌, ◌≢◌, ◌⊎◌, ◌↔◌, ◌==◌, ◌++◌, ℕ, Bool, true, false, IsTrue, cond, List, [], ◌∷◌, Contains, Option, Some, None, is_some, get_or, refl, sym, ap, ◌∙◌, subst, inl, inr}
use Rattle.std.specs.FinMap.{get, keys, len}
use Rattle.std.specs.Option.{option_map}
use Rattle.std.specs.Ordering.{int_eq}
use Rattle.std.proofs.lemmas.Bool.{cases_eq}
use Rattle.std.proofs.lemmas.Bool.Decides.{Decides-int_eq}
use Rattle.std.proofs.lemmas.Option.{none-some, same_Some}
use Rattle.sf_base.proofs.Elements.{contains-cons, contains-nil}
use Rattle.sf_base.specs.declared.ids.FieldId.{FieldId}
use Rattle.sf_base.specs.declared.ids.Var.{Var}
use Rattle.sf_base.specs.declared.ids.Var.TheVariants.{Own, Shared}
use Rattle.sf_base.specs.declared.place.Place.{Place}
use Rattle.sf_base.specs.declared.value.Value.{Value}
use Rattle.sf_base.specs.declared.value.Value.TheVariants.{Nil as nil, Int as int, Loc as loc}
use Rattle.sf_base.specs.HeapStore.{Cell, Heap, IsEmpty}
use Rattle.sf_core.specs.Assertions.Sat.{HasFields, SatOne, operand, value}
use Rattle.sf_core.specs.declared.assertion.Operand.{Operand}
use Rattle.sf_core.specs.declared.assertion.Operand.TheVariants.{Known, Exists}
use Rattle.sf_core.specs.declared.assertion.Test.{Test}
use Rattle.sf_core.specs.declared.assertion.Test.TheVariants.{True, Equal, Differ}
use Rattle.sf_core.specs.declared.command.Expr.{Expr}
use Rattle.sf_core.specs.Assertions.InOrder.{IsNext}
use Rattle.sf_core.specs.Program.Syntax.{Conjunct, holds, points, segment, doubly, tree, choose, Conjuncts, none, also, level}
use Rattle.sf_consume.specs.Subtract.{four}
use Rattle.sf_foot.specs.Checked.Laws.{FootprintIsDecided, HasFootprintOrNone}
use Rattle.sf_heap.specs.Cells.{Cells, FieldValues, cell_of, heap_of}
use Rattle.sf_sym.specs.declared.stuck.Stuck.{Stuck}
use Rattle.sf_sym.specs.declared.stuck.Stuck.TheVariants.{NoCell, NotEqual, NotDifferent, NoAtom, Leak, EndNotAllocated}
use Rattle.sf_sym.specs.declared.term.Term.{Term}
use Rattle.sf_sym.specs.Decided.{term_of}
use Rattle.sf_sym.specs.Goal.{Goal, Item, run, add, take, gave, head, again, exit, return, end}
use Rattle.sf_sym.specs.Holds.{term_value}
use Rattle.sf_sym.specs.State.{State}
use Rattle.sf_witness.specs.Checked.Meeting.{HasCellAs, HasValue, IsAmong, IsCellAs, IsConsistent, IsThereAs, Meets, Met, Refutes, found}
use Rattle.sf_witness.specs.Checked.Shapes.{HasPart, variable}
use Rattle.sf_witness.specs.Checked.Wishes.{HasDoubleOf, HasSegmentWith, HasTreeWith, IsTrueWith, is_one}
use Rattle.sf_witness.specs.Located.{located, value_at}
use Rattle.sf_witness.specs.Wanted.{IsIn, IsThere, IsTrueEquality, WantHolds, first_of, left_heap, misfit, plain, printed_value, there_value, wanted, wanted_cell, whole_heap}
use Rattle.sf_witness.proofs.Equations.{among-rest, consistent-new, default-bound, meets-found, meets-new, meets-term, nothing-consistent, refutes-found, refutes-term, with_default}
use Rattle.sf_witness.proofs.Finite.{cells-heap, cells_of_atoms}
use Rattle.sf_heap.specs.Checked.Lemmas.Rising.{keys-at}
use Rattle.sf_witness.proofs.Heaps.{len-decides}
use Rattle.sf_witness.proofs.HeapParts.{foot-part, nothing_made, part-foot}
use Rattle.sf_witness.proofs.Wants.{equality-none, equality-some}
use Rattle.sf_witness.proofs.Views.{double-in, holds-in, points-in, segment-in, tree-in}
use Rattle.sf_witness.proofs.Wishes.{different-both, different-free, different-one, different-second, equal-both, equal-first, equal-second, segment-both, segment-equal, tree-none, tree-term}

-- it is so or not
abbrev pub IsDecided : Type 0 → Type 0
IsDecided P = P ⊎ (P → ⊥)

-- so is what it is said to be
pub by : {P Q : Type 0} → (P ↔ Q) → IsDecided P → IsDecided Q
by e (inl p) = inl (e.0 p)
by e (inr n) = inr (λ q. n (e.1 q))

-- VALUES
pub value-decided : (a b : Value) → IsDecided (a ≡ b)
value-decided nil nil = inl refl
value-decided nil (int j) = inr (λ e. absurd (cc))
value-decided nil (loc m) = inr (λ e. absurd (cc))
value-decided (int i) nil = inr (λ e. absurd (cc))
value-decided (int i) (int j) = go (int_eq i j) refl
  where
    go : (b : Bool) → int_eq i j ≡ b → IsDecided (int i ≡ int j)
    go true e = inl (ap int ((Decides-int_eq i j).0 e))
    go false e = inr (λ p. let same : int_eq i j ≡ true = (Decides-int_eq i j).1 (cc) in absurd (cc))
value-decided (int i) (loc m) = inr (λ e. absurd (cc))
value-decided (loc l) nil = inr (λ e. absurd (cc))
value-decided (loc l) (int j) = inr (λ e. absurd (cc))
value-decided (loc l) (loc m) = go (cases_eq l m)
  where
    go : (l ≡ m) ⊎ (l ≢ m) → IsDecided (loc l ≡ loc m)
    go (inl e) = inl (ap loc e)
    go (inr n) = inr (λ p. n (cc))

module _ (bindings : List (Option Term)) where
  -- TESTS
  equal-decided : (x y : Operand Term) → IsDecided (IsTrueWith bindings (Equal x y))
  equal-decided x y = go (term_of bindings x) refl (term_of bindings y) refl
    where
      go : (o : Option Term) → term_of bindings x ≡ o → (q : Option Term) → term_of bindings y ≡ q
          → IsDecided (IsTrueWith bindings (Equal x y))
      go None e q f = inl (equal-first bindings x y e)
      go (Some t) e None f = inl (equal-second bindings x y f)
      go (Some t) e (Some u) f = by (equal-both bindings x y t u e f) (value-decided (value_at t) (value_at u))

  differ-decided : (x y : Operand Term) → IsDecided (IsTrueWith bindings (Differ x y))
  differ-decided x y = go (term_of bindings x) refl (term_of bindings y) refl
    where
      other : (b : Bool) → is_one x y ≡ b → term_of bindings x ≡ None → IsDecided (IsTrueWith bindings (Differ x y))
      other true e f = inr (different-one bindings x y e)
      other false e f = inl (different-free bindings x y f e)

      apart : (t u : Term) → IsDecided (value_at t ≡ value_at u) → IsDecided (value_at t ≢ value_at u)
      apart t u (inl e) = inr (λ n. n e)
      apart t u (inr n) = inl n

      go : (o : Option Term) → term_of bindings x ≡ o → (q : Option Term) → term_of bindings y ≡ q
          → IsDecided (IsTrueWith bindings (Differ x y))
      go None e q f = other (is_one x y) refl e
      go (Some t) e None f = inl (different-second bindings x y t e f)
      go (Some t) e (Some u) f =
          by (different-both bindings x y t u e f) (apart t u (value-decided (value_at t) (value_at u)))

  test-decided : (t : Test (Operand Term)) → IsDecided (IsTrueWith bindings t)
  test-decided True = inl (with_default bindings nil, default-bound bindings nil, tt)
  test-decided (Equal x y) = equal-decided x y
  test-decided (Differ x y) = differ-decided x y

  -- CELLS an operand can have that value, and what is met then, or can't
  abbrev Meeting : Met → ((ℕ → Value) → Type 0) → Type 0
  Meeting met P = ((after : Met) × IsConsistent bindings after × Meets bindings met after P) ⊎ Refutes bindings met P

  term-meets : (met : Met) → IsConsistent bindings met → (x : Operand Term) (t : Term) (v : Value)
      → term_of bindings x ≡ Some t → Meeting met (λ some. HasValue v some x)
  term-meets met k x t v e = go (value-decided (value_at t) v)
    where
      go : IsDecided (value_at t ≡ v) → Meeting met (λ some. HasValue v some x)
      go (inl same) = inl (met, k, meets-term bindings met x t v e same)
      go (inr other) = inr (refutes-term bindings met x t v e other)

  free-meets : (met : Met) → IsConsistent bindings met → (n : ℕ) (v : Value) → get_or bindings n None ≡ None
      → Meeting met (λ some. HasValue v some (Exists n))
  free-meets met k n v e = go (found met n) refl
    where
      same : (u : Value) → found met n ≡ Some u → IsDecided (u ≡ v) → Meeting met (λ some. HasValue v some (Exists n))
      same u f (inl s) = inl (met, k, meets-found bindings met n u v f s)
      same u f (inr o) = inr (refutes-found bindings met n u v f o)

      go : (o : Option Value) → found met n ≡ o → Meeting met (λ some. HasValue v some (Exists n))
      go None f = inl (met ++ (n, v) ∷ [], consistent-new bindings met n v e f k, meets-new bindings met n v)
      go (Some u) f = same u f (value-decided u v)

  operand-meets : (met : Met) → IsConsistent bindings met → (x : Operand Term) (v : Value)
      → Meeting met (λ some. HasValue v some x)
  operand-meets met k (Known t) v = term-meets met k (Known t) t v refl
  operand-meets met k (Exists n) v = go (get_or bindings n None) refl
    where
      go : (o : Option Term) → get_or bindings n None ≡ o → Meeting met (λ some. HasValue v some (Exists n))
      go None e = free-meets met k n v e
      go (Some t) e = term-meets met k (Exists n) t v e

  -- so can the fields of a cell
  abbrev Fields : List (FieldId × Operand Term) → Cell → (ℕ → Value) → Type 0
  Fields fs cell some = HasFields (operand (term_value located) some) fs cell

  fields-meet : (met : Met) → IsConsistent bindings met → (fs : List (FieldId × Operand Term)) (cell : Cell)
      → Meeting met (Fields fs cell)
  fields-meet met k [] cell = inl (met, k, λ some b. (λ a. (a, tt), λ a. a.0))
  fields-meet met k (f ∷ fs) cell =
      go (operand-meets met k f.1 (cell f.0.0)) (λ after c. fields-meet after c fs cell)
    where
      rest : (after : Met) → Meets bindings met after (λ some. HasValue (cell f.0.0) some f.1)
          → Meeting after (Fields fs cell) → Meeting met (Fields (f ∷ fs) cell)
      rest after m (inl w) = inl (
        w.0,
        w.1,
        λ some b. (
          λ a. (
            ((m some b).0 ((w.2 some b).0 a).0).0,
            (sym ((m some b).0 ((w.2 some b).0 a).0).1, ((w.2 some b).0 a).1),
          ),
          λ a. (w.2 some b).1 ((m some b).1 (a.0, sym a.1.0), a.1.1),
        ),
      )
      rest after m (inr n) = inr (λ some b a h. n some b ((m some b).1 (a, sym h.0)) h.1)

      go : Meeting met (λ some. HasValue (cell f.0.0) some f.1)
          → ((after : Met) → IsConsistent bindings after → Meeting after (Fields fs cell))
          → Meeting met (Fields (f ∷ fs) cell)
      go (inl w) next = rest w.0 w.2 (next w.0 w.1)
      go (inr n) next = inr (λ some b a h. n some b a (sym h.0))

  -- whether a cell is as it is wanted
  cell-decided : (x : Operand Term) (fs : List (FieldId × Operand Term)) (l : ℕ) (cell : Cell)
      → IsDecided (IsCellAs bindings x fs l cell)
  cell-decided x fs l cell =
      go (operand-meets [] (nothing-consistent bindings) x (loc l)) (λ met k. fields-meet met k fs cell)
    where
      rest : (met : Met) → Meets bindings [] met (λ some. HasValue (loc l) some x) → Meeting met (Fields fs cell)
          → IsDecided (IsCellAs bindings x fs l cell)
      rest met m (inl w) =
          let some = w.1.0 in
          let b = w.1.1 in
          let both = (w.2 some b).0 w.1.2 in
          inl (some, b, ((m some b).0 both.0).1, both.1)
      rest met m (inr n) = inr (λ w. n w.0 w.1 ((m w.0 w.1).1 (tt, w.2)) w.3)

      go : Meeting [] (λ some. HasValue (loc l) some x)
          → ((met : Met) → IsConsistent bindings met → Meeting met (Fields fs cell))
          → IsDecided (IsCellAs bindings x fs l cell)
      go (inl w) next = rest w.0 w.2 (next w.0 w.1)
      go (inr n) next = inr (λ w. n w.0 w.1 tt w.2)

  -- whether there is one at that location
  there-decided : (x : Operand Term) (fs : List (FieldId × Operand Term)) (heap : Heap) (l : ℕ)
      → IsDecided (IsThereAs bindings x fs heap l)
  there-decided x fs heap l = go (heap l) refl
    where
      at : (c : Cell) → heap l ≡ Some c → IsDecided (IsCellAs bindings x fs l c) → IsDecided (IsThereAs bindings x fs heap l)
      at c e (inl w) = inl (c, e, w)
      at c e (inr n) = inr (λ w. n (subst (IsCellAs bindings x fs l) (same_Some w.0 c (sym w.1 ∙ e)) w.2))

      go : (o : Option Cell) → heap l ≡ o → IsDecided (IsThereAs bindings x fs heap l)
      go None e = inr (λ w. none-some w.0 (sym e ∙ w.1))
      go (Some c) e = at c e (cell-decided x fs l c)

  -- or at one of these
  among-decided : (x : Operand Term) (fs : List (FieldId × Operand Term)) (heap : Heap) (ls : List ℕ)
      → IsDecided (IsAmong bindings x fs heap ls)
  among-decided x fs heap [] = inr (λ w. contains-nil w.0 w.1)
  among-decided x fs heap (l ∷ ls) = go (there-decided x fs heap l) (among-decided x fs heap ls)
    where
      go : IsDecided (IsThereAs bindings x fs heap l) → IsDecided (IsAmong bindings x fs heap ls)
          → IsDecided (IsAmong bindings x fs heap (l ∷ ls))
      go (inl w) rest = inl (l, (contains-cons l ls l).1 (inl refl), w)
      go (inr n) (inl w) = inl (w.0, (contains-cons l ls w.0).1 (inr w.1), w.2)
      go (inr n) (inr m) = inr (λ w. m (among-rest bindings x fs heap l ls n w))

  -- or at any of a finite heap
  points-decided : (x : Operand Term) (fs : List (FieldId × Operand Term)) (m : Cells)
      → IsDecided (HasCellAs bindings x fs (heap_of m))
  points-decided x fs m = by (λ w. (w.0, w.2), λ w. (w.0, key w.0 w.1.0 w.1.1, w.1)) (among-decided x fs (heap_of m) (keys m))
    where
      some : (o : Option FieldValues) (c : Cell) → option_map cell_of o ≡ Some c → is_some o ≡ true
      some None c e = absurd (none-some c e)
      some (Some v) c e = refl

      key : (l : ℕ) (c : Cell) → heap_of m l ≡ Some c → Contains (keys m) l
      key l c e = (keys-at m l).0 (some (get m l) c e)

  -- SEGMENTS AND TREES
  abbrev two : (from to : Value) → Var → Value
  two from to (Own n) = cond (n == 0) from to
  two from to (Shared r n) = nil

  part-decided : FootprintIsDecided → (c : Conjunct Expr) (vars : Var → Value) (m : Cells) → IsNext (λ n. false) c
      → IsDecided (HasPart (SatOne c (value vars) (λ n. nil)) (heap_of m))
  unfolding FootprintIsDecided
  part-decided decided c vars m n = go (decided (level nothing_made (also c none)) vars m (n, tt))
    where
      go : HasFootprintOrNone (level nothing_made (also c none)) vars (heap_of m)
          → IsDecided (HasPart (SatOne c (value vars) (λ n. nil)) (heap_of m))
      go (inl w) = inl (foot-part c (value vars) (heap_of m) w.1.part w.1.foot)
      go (inr lacks) = inr (λ h. lacks h.part (part-foot c (value vars) (heap_of m) h))

  segment-decided : FootprintIsDecided → (p : Place) (next : FieldId) (x y : Operand Term) (m : Cells)
      → IsDecided (HasSegmentWith bindings next x y (heap_of m))
  segment-decided decided p next x y m = go (term_of bindings x) refl (term_of bindings y) refl
    where
      go : (o : Option Term) → term_of bindings x ≡ o → (q : Option Term) → term_of bindings y ≡ q
          → IsDecided (HasSegmentWith bindings next x y (heap_of m))
      go None e q f = inl (segment-equal bindings next x y (heap_of m) (equal-first bindings x y e))
      go (Some t) e None f = inl (segment-equal bindings next x y (heap_of m) (equal-second bindings x y f))
      go (Some t) e (Some u) f = by (segment-both bindings next x y t u (heap_of m) e f)
          (part-decided decided (segment p next (variable 0) (variable 1)) (two (value_at t) (value_at u)) m (tt, tt))

  abbrev of_four : (from before last to : Value) → Var → Value
  of_four from before last to (Own n) = cond (n == 0) from (cond (n == 1) before (cond (n == 2) last to))
  of_four from before last to (Shared r n) = nil

  double-decided : FootprintIsDecided → (p : Place) (next back : FieldId) (o : Option (Term × Term × Term × Term))
      (m : Cells) → IsDecided (HasDoubleOf next back o (heap_of m))
  double-decided decided p next back None m = inr (λ w. w)
  double-decided decided p next back (Some d) m =
      part-decided decided (doubly p next back (variable 0) (variable 1) (variable 2) (variable 3))
      (of_four (value_at d.0) (value_at d.1) (value_at d.2) (value_at d.3)) m (tt, tt, tt, tt)

  tree-decided : FootprintIsDecided → (p : Place) (l r : FieldId) (x : Operand Term) (m : Cells)
      → IsDecided (HasTreeWith bindings l r x (heap_of m))
  tree-decided decided p l r x m = go (term_of bindings x) refl
    where
      go : (o : Option Term) → term_of bindings x ≡ o → IsDecided (HasTreeWith bindings l r x (heap_of m))
      go None e = inl (tree-none bindings l r x (heap_of m) e)
      go (Some t) e = by (tree-term bindings l r x t (heap_of m) e)
          (part-decided decided (tree p l r (variable 0)) (two (value_at t) nil) m tt)

  -- CONJUNCTS
  pub in-decided : FootprintIsDecided → (c : Conjunct Term) (m : Cells) → IsDecided (IsIn (heap_of m) (plain bindings c))
  in-decided decided (holds p t) m = by (holds-in (heap_of m) bindings p t) (test-decided t)
  in-decided decided (points p x fs) m = by (points-in (heap_of m) bindings p x fs) (points-decided x fs m)
  in-decided decided (segment p next x y) m =
      by (segment-in (heap_of m) bindings p next x y) (segment-decided decided p next x y m)
  in-decided decided (doubly p next back x b l y) m =
      by (double-in (heap_of m) bindings p next back x b l y) (double-decided decided p next back (four bindings x b l y) m)
  in-decided decided (tree p l r x) m = by (tree-in (heap_of m) bindings p l r x) (tree-decided decided p l r x m)
  in-decided decided (choose p t this that) m = inr (λ w. w)

-- EQUALITIES
equality-decided : FootprintIsDecided → (s : State) (m : Cells) (bindings : List (Option Term)) (c : Conjunct Term)
    → IsDecided (IsTrueEquality s (heap_of m) (plain bindings c))
equality-decided decided s m bindings c = go (misfit s bindings c) refl
  where
    go : (o : Option (Option Term × Term)) → misfit s bindings c ≡ o
        → IsDecided (IsTrueEquality s (heap_of m) (plain bindings c))
    go None e = by (equality-none s (heap_of m) bindings c e) (in-decided bindings decided c m)
    go (Some w) e = by (equality-some s (heap_of m) bindings c w e)
        (value-decided (there_value s.next_sym w.0) (printed_value s.next_sym w.1))

-- what is wanted is given by a conjunct, or nothing is
wanted-equality : FootprintIsDecided → (s : State) (m : Cells) (todo : List Item)
    → IsDecided (IsTrueEquality s (heap_of m) (wanted todo))
wanted-equality decided s m [] = inr (λ w. w)
wanted-equality decided s m (run c ∷ todo) = inr (λ w. w)
wanted-equality decided s m (add p given ∷ todo) = inr (λ w. w)
wanted-equality decided s m (take p want names ∷ todo) = go want.bindings want.conjuncts
  where
    go : (bindings : List (Option Term)) (cs : Conjuncts Term)
        → IsDecided (IsTrueEquality s (heap_of m) (first_of bindings cs))
    go bindings none = inr (λ w. w)
    go bindings (also c cs) = equality-decided decided s m bindings c
wanted-equality decided s m (gave p set removed ∷ todo) = inr (λ w. w)
wanted-equality decided s m (head p test invariant body ∷ todo) = inr (λ w. w)
wanted-equality decided s m (again p invariant ∷ todo) = inr (λ w. w)
wanted-equality decided s m (exit p r ∷ todo) = inr (λ w. w)
wanted-equality decided s m (return p post ∷ todo) = inr (λ w. w)
wanted-equality decided s m (end p ∷ todo) = inr (λ w. w)

wanted-part : FootprintIsDecided → (m : Cells) (todo : List Item) → IsDecided (IsIn (heap_of m) (wanted todo))
wanted-part decided m [] = inr (λ w. w)
wanted-part decided m (run c ∷ todo) = inr (λ w. w)
wanted-part decided m (add p given ∷ todo) = inr (λ w. w)
wanted-part decided m (take p want names ∷ todo) = go want.bindings want.conjuncts
  where
    go : (bindings : List (Option Term)) (cs : Conjuncts Term) → IsDecided (IsIn (heap_of m) (first_of bindings cs))
    go bindings none = inr (λ w. w)
    go bindings (also c cs) = in-decided bindings decided c m
wanted-part decided m (gave p set removed ∷ todo) = inr (λ w. w)
wanted-part decided m (head p test invariant body ∷ todo) = inr (λ w. w)
wanted-part decided m (again p invariant ∷ todo) = inr (λ w. w)
wanted-part decided m (exit p r ∷ todo) = inr (λ w. w)
wanted-part decided m (return p post ∷ todo) = inr (λ w. w)
wanted-part decided m (end p ∷ todo) = inr (λ w. w)

-- A CELL
there-is-decided : (heap : Heap) (o : Option Term) → IsDecided (IsThere heap o)
there-is-decided heap None = inr (λ w. w)
there-is-decided heap (Some t) = go (value_at t) refl
  where
    at : (l : ℕ) → value_at t ≡ loc l → (o : Option Cell) → heap l ≡ o → IsDecided (IsThere heap (Some t))
    at l e None f = inr (λ w. let same : w.0 ≡ l = cc (w.1, e) in w.2 (ap heap same ∙ f))
    at l e (Some c) f = inl (l, e, λ n. none-some c (sym n ∙ f))

    go : (v : Value) → value_at t ≡ v → IsDecided (IsThere heap (Some t))
    go nil e = inr (λ w. let k : nil ≡ loc w.0 = sym e ∙ w.1 in absurd (cc))
    go (int i) e = inr (λ w. let k : int i ≡ loc w.0 = sym e ∙ w.1 in absurd (cc))
    go (loc l) e = at l e (heap l) refl

-- NOTHING
empty-decided : (m : Cells) → IsDecided (IsEmpty (heap_of m))
empty-decided m = go (len m == 0) (len-decides m (len m) refl)
  where
    go : (b : Bool) → (IsTrue b ↔ IsEmpty (heap_of m)) → IsDecided (IsEmpty (heap_of m))
    go true d = inl (d.0 refl)
    go false d = inr (λ w. let k : false ≡ true = d.1 w in absurd (cc))

-- WANTS of all kinds
pub want-decided : FootprintIsDecided → (goal : Goal) (kind : Stuck) → IsDecided (WantHolds goal kind)
want-decided decided goal kind = go kind
  where
    left : Cells
    left = cells_of_atoms goal.state.links goal.state.atoms

    is : heap_of left ≡ left_heap goal.state
    is = cells-heap goal.state.links goal.state.atoms

    go : (k : Stuck) → IsDecided (WantHolds goal k)
    go NoCell = there-is-decided (whole_heap goal.state) (wanted_cell goal.state goal.todo)
    go NotEqual = subst (λ (h : Heap). IsDecided (IsTrueEquality goal.state h (wanted goal.todo))) is
        (wanted-equality decided goal.state left goal.todo)
    go NotDifferent = subst (λ (h : Heap). IsDecided (IsIn h (wanted goal.todo))) is (wanted-part decided left goal.todo)
    go NoAtom = subst (λ (h : Heap). IsDecided (IsIn h (wanted goal.todo))) is (wanted-part decided left goal.todo)
    go Leak = subst (λ (h : Heap). IsDecided (IsEmpty h)) is (empty-decided left)
    go EndNotAllocated = subst (λ (h : Heap). IsDecided (IsIn h (wanted goal.todo))) is (wanted-part decided left goal.todo)
