-- A wanted doubly linked segment, by the terms of its four operands.
-- Names: `four-LAW` of the terms, `double-LAW` of the segment.
use Rattle.std.specs.Option.{option_and_then, option_map}
use Rattle.std.proofs.Common.{◌≡◌, ℕ, List, Option, Some, sym, subst, subst₂}
use Rattle.std.proofs.lemmas.Option.{option_and_then_some}
use Rattle.sf_base.proofs.Options.{option_map-some}
use Rattle.sf_base.specs.declared.ids.FieldId.{FieldId}
use Rattle.sf_base.specs.declared.place.Place.{Place}
use Rattle.sf_base.specs.declared.value.Value.{Value}
use Rattle.sf_base.specs.HeapStore.{Heap}
use Rattle.sf_core.specs.Assertions.Sat.{Dseg, SatOne, operand}
use Rattle.sf_core.specs.declared.assertion.Operand.{Operand}
use Rattle.sf_core.specs.Program.Syntax.{Conjunct, doubly, Conjuncts}
use Rattle.sf_consume.proofs.Handing.{both-are, by_first, wanting_first}
use Rattle.sf_consume.proofs.WantedFirst.{double-is}
use Rattle.sf_consume.specs.declared.wanted.WantedDouble.{WantedDouble}
use Rattle.sf_consume.specs.Checked.Laws.{Subtracts, KeepsWants}
use Rattle.sf_consume.specs.Subtract.{Want, both, four, wanted_double}
use Rattle.sf_consume.specs.Wants.{IsFormed}
use Rattle.sf_sym.specs.Checked.Lemmas.Bindings.{operand-is}
use Rattle.sf_sym.specs.Decided.{term_of}
use Rattle.sf_sym.specs.declared.term.Term.{Term}
use Rattle.sf_sym.specs.Holds.{term_value, IsBound}
use Rattle.sf_sym.specs.State.{State}

-- a wanted doubly linked segment as a conjunct
abbrev pub double : WantedDouble → Conjunct Term
double k = doubly k.place k.next k.back k.from k.before k.last k.to

-- the four operands have these terms
pub record HasFour (bindings : List (Option Term)) (x b l y : Operand Term) (d : Term × Term × Term × Term)
    : Type 0 where
  pub from : term_of bindings x ≡ Some d.0
  pub before : term_of bindings b ≡ Some d.1
  pub last : term_of bindings l ≡ Some d.2
  pub to : term_of bindings y ≡ Some d.3

pub four-are : (bindings : List (Option Term)) (x b l y : Operand Term) (d : Term × Term × Term × Term)
    → four bindings x b l y ≡ Some d → HasFour bindings x b l y d
four-are bindings x b l y d row =
    option_and_then_some (λ e. option_map (λ f. (e.0, e.1, f.0, f.1)) (both bindings l y)) (both bindings x b) d row
    (λ e one rest.
    let (f, two, is) = option_map-some (λ (f : Term × Term). (e.0, e.1, f.0, f.1)) (both bindings l y) d rest in
    let first = both-are bindings x b e one in
    let second = both-are bindings l y f two in
    subst (HasFour bindings x b l y) (sym is)
    (record { from = first.0; before = first.1; last = second.0; to = second.1 }))

-- a segment of the terms is one of the operands
pub double-sat : (v some : ℕ → Value) (bindings : List (Option Term)) (q : Place) (next back : FieldId)
    (x b l y : Operand Term) (d : Term × Term × Term × Term) (heap : Heap)
    → IsBound v bindings some → HasFour bindings x b l y d
    → Dseg next back (term_value v d.2) (term_value v d.3) (term_value v d.1) (term_value v d.0) heap
    → SatOne (doubly q next back x b l y) (term_value v) some heap
double-sat v some bindings q next back x b l y d heap bound four s =
    subst₂ (λ i j. Dseg next back i j (operand (term_value v) some b) (operand (term_value v) some x) heap)
    (sym (operand-is v some bindings l d.2 bound four.last)) (sym (operand-is v some bindings y d.3 bound four.to))
    (subst₂ (λ i j. Dseg next back (term_value v d.2) (term_value v d.3) i j heap)
    (sym (operand-is v some bindings b d.1 bound four.before))
    (sym (operand-is v some bindings x d.0 bound four.from)) s)

-- the law of a row of wanted doubly linked segments, where it is shown of one whose operands have terms
pub by_double : (there : State → List (Option Term) → WantedDouble → Conjuncts Term → Term × Term × Term × Term → Option Want)
    →
    ((s : State) (bindings : List (Option Term)) (k : WantedDouble) (cs : Conjuncts Term) (after : Want)
    (d : Term × Term × Term × Term)
    → IsFormed (wanting_first s bindings (double k) cs) → HasFour bindings k.from k.before k.last k.to d
    → there s bindings k cs d ≡ Some after → Subtracts (wanting_first s bindings (double k) cs) after)
    → KeepsWants (λ s bindings c cs.
    option_and_then (λ k. option_and_then (there s bindings k cs) (four bindings k.from k.before k.last k.to))
    (wanted_double c))
by_double there law = by_first _ (λ s bindings c cs after formed row.
    option_and_then_some
    (λ k. option_and_then (there s bindings k cs) (four bindings k.from k.before k.last k.to)) (wanted_double c) after row
    (λ k wanted at_double. subst (λ d. IsFormed (wanting_first s bindings d cs)
    → Subtracts (wanting_first s bindings d cs) after) (sym (double-is c k wanted))
    (λ formed. option_and_then_some (there s bindings k cs) (four bindings k.from k.before k.last k.to) after at_double
    (λ d terms at_four. law s bindings k cs after d formed
    (four-are bindings k.from k.before k.last k.to d terms) at_four)) formed))
