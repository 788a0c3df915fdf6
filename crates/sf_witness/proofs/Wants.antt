-- What is wanted by the kind of a failure, as the code decides it.
-- Names: `equality-CASE`, `wants-KIND`.
use Rattle.std.specs.Option.{option_and_then, option_map}
use Rattle.std.proofs.Common.{◌≡◌, ◌≢◌, ◌↔◌, Bool, IsTrue, List, Option, Some, None, refl, sym, ap, ◌∙◌, subst, subst₂}
use Rattle.std.proofs.lemmas.Option.{none-some}
use Rattle.sf_base.specs.declared.ids.FieldId.{FieldId}
use Rattle.sf_base.specs.declared.place.Place.{Place}
use Rattle.sf_base.specs.HeapStore.{Heap, IsEmpty}
use Rattle.sf_consume.specs.Subtract.{four}
use Rattle.sf_core.specs.declared.assertion.Operand.{Operand}
use Rattle.sf_core.specs.Program.Syntax.{Conjunct, holds, points, segment, doubly, tree, choose}
use Rattle.sf_report.specs.Wanted.{double_misfit, misfit_of_double}
use Rattle.sf_sym.specs.declared.stuck.Stuck.{Stuck}
use Rattle.sf_sym.specs.declared.stuck.Stuck.TheVariants.{NoCell, NotEqual, NotDifferent, NoAtom, Leak, EndNotAllocated}
use Rattle.sf_sym.specs.declared.term.Term.{Term}
use Rattle.sf_sym.specs.Goal.{Goal}
use Rattle.sf_sym.specs.State.{State}
use Rattle.sf_witness.specs.Checked.Wishes.{AreSame}
use Rattle.sf_witness.specs.Wanted.{AreEqual, IsIn, IsTrueEquality, Want, WantHolds, left_heap, misfit, plain, wanted}

module _ (s : State) (heap : Heap) (bindings : List (Option Term)) where
  -- a wanted doubly linked segment
  abbrev double_want : Place → (next back : FieldId) → (x b l y : Operand Term) → Want
  double_want p next back x b l y = record { bindings = bindings; conjunct = doubly p next back x b l y }

  double-none : (p : Place) (next back : FieldId) (x b l y : Operand Term) → double_misfit s bindings back x b l y ≡ None
      → (o : Option (Term × Term × Term × Term))
      → IsIn heap (option_map (λ d. double_want p next back x b l y) o)
      ↔ IsTrueEquality s heap (option_map (λ d. double_want p next back x b l y) o)
  double-none p next back x b l y e None = (λ i. i, λ i. i)
  double-none p next back x b l y e (Some d) =
      subst (λ (m : Option (Option Term × Term)). IsIn heap (Some (double_want p next back x b l y))
      ↔ AreEqual s heap (double_want p next back x b l y) m) (sym e) (λ i. i, λ i. i)

  double-some : (p : Place) (next back : FieldId) (x b l y : Operand Term) (m : Option Term × Term)
      → double_misfit s bindings back x b l y ≡ Some m
      → (o : Option (Term × Term × Term × Term)) → four bindings x b l y ≡ o
      → AreSame s.next_sym m ↔ IsTrueEquality s heap (option_map (λ d. double_want p next back x b l y) o)
  double-some p next back x b l y m e None i =
      absurd (none-some m (sym (ap (option_and_then (misfit_of_double s back)) i) ∙ e))
  double-some p next back x b l y m e (Some d) i =
      subst (λ (o : Option (Option Term × Term)). AreSame s.next_sym m
      ↔ AreEqual s heap (double_want p next back x b l y) o) (sym e) (λ i. i, λ i. i)

  -- without a field that doesn't fit, the equality is that a part satisfies the conjunct
  pub equality-none : (c : Conjunct Term) → misfit s bindings c ≡ None
      → IsIn heap (plain bindings c) ↔ IsTrueEquality s heap (plain bindings c)
  equality-none (holds p t) e = (λ i. i, λ i. i)
  equality-none (points p x fs) e =
      subst (λ (m : Option (Option Term × Term)). IsIn heap (plain bindings (points p x fs))
      ↔ AreEqual s heap (record { bindings = bindings; conjunct = points p x fs }) m) (sym e) (λ i. i, λ i. i)
  equality-none (segment p next x y) e = (λ i. i, λ i. i)
  equality-none (doubly p next back x b l y) e = double-none p next back x b l y e (four bindings x b l y)
  equality-none (tree p l r x) e = (λ i. i, λ i. i)
  equality-none (choose p t this that) e = (λ i. i, λ i. i)

  -- with one, it is that of the two terms
  pub equality-some : (c : Conjunct Term) (m : Option Term × Term) → misfit s bindings c ≡ Some m
      → AreSame s.next_sym m ↔ IsTrueEquality s heap (plain bindings c)
  equality-some (holds p t) m e = absurd (cc)
  equality-some (points p x fs) m e =
      subst (λ (o : Option (Option Term × Term)). AreSame s.next_sym m
      ↔ AreEqual s heap (record { bindings = bindings; conjunct = points p x fs }) o) (sym e) (λ i. i, λ i. i)
  equality-some (segment p next x y) m e = absurd (cc)
  equality-some (doubly p next back x b l y) m e = double-some p next back x b l y m e (four bindings x b l y) refl
  equality-some (tree p l r x) m e = absurd (cc)
  equality-some (choose p t this that) m e = absurd (cc)

module _ (goal : Goal) (b : Bool) where
  -- nothing is left
  pub wants-leak : (kind : Stuck) → kind ≡ Leak → (IsTrue b ↔ IsEmpty (left_heap goal.state))
      → IsTrue b ↔ WantHolds goal kind
  wants-leak kind e d = subst (λ (k : Stuck). IsTrue b ↔ WantHolds goal k) (sym e) d

  -- an equality
  pub wants-equality : (kind : Stuck) (heap : Heap) (w : Option Want) → kind ≡ NotEqual → heap ≡ left_heap goal.state
      → w ≡ wanted goal.todo → (IsTrue b ↔ IsTrueEquality goal.state heap w) → IsTrue b ↔ WantHolds goal kind
  wants-equality kind heap w e h f d = subst (λ (k : Stuck). IsTrue b ↔ WantHolds goal k) (sym e)
      (subst₂ (λ (g : Heap) (x : Option Want). IsTrue b ↔ IsTrueEquality goal.state g x) h f d)

  -- a part of the heap
  pub wants-part : (kind : Stuck) (heap : Heap) (w : Option Want) → kind ≢ NoCell → kind ≢ NotEqual → kind ≢ Leak
      → heap ≡ left_heap goal.state → w ≡ wanted goal.todo → (IsTrue b ↔ IsIn heap w) → IsTrue b ↔ WantHolds goal kind
  wants-part NoCell heap w n m l h f d = absurd (n refl)
  wants-part NotEqual heap w n m l h f d = absurd (m refl)
  wants-part NotDifferent heap w n m l h f d =
      subst₂ (λ (g : Heap) (x : Option Want). IsTrue b ↔ IsIn g x) h f d
  wants-part NoAtom heap w n m l h f d = subst₂ (λ (g : Heap) (x : Option Want). IsTrue b ↔ IsIn g x) h f d
  wants-part Leak heap w n m l h f d = absurd (l refl)
  wants-part EndNotAllocated heap w n m l h f d = subst₂ (λ (g : Heap) (x : Option Want). IsTrue b ↔ IsIn g x) h f d
