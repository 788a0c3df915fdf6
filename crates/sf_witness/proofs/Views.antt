-- When a part of a heap satisfies a conjunct of terms, form by form.
-- Names: `FORM-in`.
use Rattle.std.specs.Option.{option_map}
use Rattle.std.proofs.Common.{◌≡◌, ◌↔◌, ℕ, Bool, IsTrue, List, Option, Some, None, Vec, Global, refl, sym, ap, ◌∙◌, subst, subst₂}
use Rattle.sf_base.specs.declared.ids.FieldId.{FieldId}
use Rattle.sf_base.specs.declared.place.Place.{Place}
use Rattle.sf_base.specs.declared.value.Value.{Value}
use Rattle.sf_base.specs.declared.value.Value.TheVariants.{Nil as nil}
use Rattle.sf_base.specs.HeapStore.{Heap}
use Rattle.sf_base.proofs.HeapSplits.{one-single, one-splits, remove_cell, single}
use Rattle.sf_base.proofs.MapSplits.{empty_map, empty-holds, splits-empty_left, splits-has_left}
use Rattle.sf_consume.proofs.DoubleTerms.{HasFour, double-sat, four-are}
use Rattle.sf_consume.specs.Subtract.{four}
use Rattle.sf_core.specs.Assertions.Sat.{Dseg, SatOne, operand}
use Rattle.sf_core.specs.declared.assertion.Conjunct.{Holds, Points, Segment, Doubly, Tree}
use Rattle.sf_core.specs.declared.assertion.Conjunct.TheVariants.{rolls-Holds, rolls-Points, rolls-Segment, rolls-Doubly, rolls-Tree}
use Rattle.sf_core.specs.declared.assertion.Conjunct.TheFolds.{fold-roll-Conjunct}
use Rattle.sf_core.specs.declared.assertion.Operand.{Operand}
use Rattle.sf_core.specs.declared.assertion.Test.{Test}
use Rattle.sf_core.specs.Program.Syntax.{Conjunct, holds, points, segment, doubly, tree, Level}
use Rattle.sf_core.specs.Program.View.{conjunct_of, conjunct_step, level_step}
use Rattle.sf_sym.specs.declared.term.Term.{Term}
use Rattle.sf_sym.specs.Holds.{IsBound, term_value}
use Rattle.sf_witness.specs.Checked.Meeting.{HasCellAs}
use Rattle.sf_witness.specs.Checked.Shapes.{HasPart}
use Rattle.sf_witness.specs.Checked.Wishes.{HasDoubleOf, HasSegmentWith, HasTreeWith, IsTrueWith}
use Rattle.sf_witness.specs.Located.{located, value_at}
use Rattle.sf_witness.specs.Wanted.{IsIn, IsSatisfied, plain}
use Rattle.sf_witness.proofs.Equations.{default-bound, operand-term, with_default}

module _ (heap : Heap) (bindings : List (Option Term)) (p : Place) where
  -- a test holds of no cells
  pub holds-in : (t : Test (Operand Term))
      → IsTrueWith bindings t ↔ IsSatisfied heap (record { bindings = bindings; conjunct = holds p t })
  holds-in t = (
    λ w. record {
      some = w.0;
      bound = w.1;
      part = empty_map;
      rest = heap;
      splits = splits-empty_left empty-holds;
      sat = (empty-holds, w.2);
    },
    λ i. (i.some, i.bound, i.sat.1),
  )

  -- a points-to of one cell
  pub points-in : (x : Operand Term) (fs : List (FieldId × Operand Term))
      → HasCellAs bindings x fs heap ↔ IsSatisfied heap (record { bindings = bindings; conjunct = points p x fs })
  points-in x fs = (
    λ w. record {
      some = w.1.2.0;
      bound = w.1.2.1;
      part = single w.0 w.1.0;
      rest = remove_cell w.0 heap;
      splits = one-splits w.0 w.1.0 heap w.1.1;
      sat = (w.0, w.1.0, w.1.2.2, one-single w.0 w.1.0, w.1.2.3);
    },
    λ i. (
      i.sat.0,
      (
        i.sat.1,
        splits-has_left i.sat.0 i.sat.1 i.splits i.sat.3.here,
        (i.some, i.bound, i.sat.2, i.sat.4),
      ),
    ),
  )

  -- a conjunct of the part that satisfies it
  part-in : (c : Conjunct Term)
      → ((some : ℕ → Value) × IsBound located bindings some
      × HasPart (λ part. SatOne c (term_value located) some part) heap)
      ↔ IsSatisfied heap (record { bindings = bindings; conjunct = c })
  part-in c = (
    λ w. record {
      some = w.0;
      bound = w.1;
      part = w.2.part;
      rest = w.2.rest;
      splits = w.2.splits;
      sat = w.2.is;
    },
    λ i. (i.some, i.bound, record { part = i.part; rest = i.rest; splits = i.splits; is = i.sat }),
  )

  -- a segment and a tree of the part that is one
  pub segment-in : (next : FieldId) (x y : Operand Term)
      → HasSegmentWith bindings next x y heap
      ↔ IsSatisfied heap (record { bindings = bindings; conjunct = segment p next x y })
  segment-in next x y = part-in (segment p next x y)

  -- a doubly linked segment of the part that is one between the operands' terms
  double-terms : (next back : FieldId) (x b l y : Operand Term) (d : Term × Term × Term × Term) (some : ℕ → Value)
      (part : Heap)
      → IsBound located bindings some → HasFour bindings x b l y d
      → SatOne (doubly p next back x b l y) (term_value located) some part
      → Dseg next back (value_at d.2) (value_at d.3) (value_at d.1) (value_at d.0) part
  double-terms next back x b l y d some part bound four s =
      subst₂ (λ i j. Dseg next back i j (value_at d.1) (value_at d.0) part)
      (operand-term bindings some l d.2 bound four.last) (operand-term bindings some y d.3 bound four.to)
      (subst₂ (λ i j.
      Dseg next back (operand (term_value located) some l) (operand (term_value located) some y) i j part)
      (operand-term bindings some b d.1 bound four.before) (operand-term bindings some x d.0 bound four.from) s)

  pub double-in : (next back : FieldId) (x b l y : Operand Term)
      → HasDoubleOf next back (four bindings x b l y) heap
      ↔ IsIn heap (plain bindings (doubly p next back x b l y))
  double-in next back x b l y = go (four bindings x b l y) refl
    where
      go : (o : Option (Term × Term × Term × Term)) → four bindings x b l y ≡ o
          → HasDoubleOf next back o heap
          ↔ IsIn heap
          (option_map (λ d. record { bindings = bindings; conjunct = doubly p next back x b l y }) o)
      go None e = (λ w. w, λ w. w)
      go (Some d) e =
          let terms = four-are bindings x b l y d e in (
            λ h. record {
              some = with_default bindings nil;
              bound = default-bound bindings nil;
              part = h.part;
              rest = h.rest;
              splits = h.splits;
              sat = double-sat located (with_default bindings nil) bindings p next back x b l y d h.part
                  (default-bound bindings nil) terms h.is;
            },
            λ i. record {
              part = i.part;
              rest = i.rest;
              splits = i.splits;
              is = double-terms next back x b l y d i.some i.part i.bound terms i.sat;
            },
          )

  pub tree-in : (l r : FieldId) (x : Operand Term)
      → HasTreeWith bindings l r x heap
      ↔ IsSatisfied heap (record { bindings = bindings; conjunct = tree p l r x })
  tree-in l r x = part-in (tree p l r x)

-- one thing after the other
pub through : (b : Bool) (P Q : Type 0) → (IsTrue b ↔ P) → (P ↔ Q) → IsTrue b ↔ Q
through b P Q d e = (λ i. e.0 (d.0 i), λ q. d.1 (e.1 q))

-- as the code sees the conjunct
pub plain-by : (heap : Heap) (bindings : List (Option Term)) (c d : Conjunct Term) (b : Bool) → c ≡ d
    → (IsTrue b ↔ IsIn heap (plain bindings d)) → IsTrue b ↔ IsIn heap (plain bindings c)
plain-by heap bindings c d b e = subst (λ (x : Conjunct Term). IsTrue b ↔ IsIn heap (plain bindings x)) (sym e)
