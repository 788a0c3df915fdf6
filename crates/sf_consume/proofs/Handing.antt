-- What the laws of all rows share: a part that is handed over, and other values of symbols.
-- Names: `state-LAW` of a state alone, `wants-LAW` of what is wanted.
use Rattle.std.specs.Option.{option_and_then, option_map}
use Rattle.std.proofs.Common.{◌≡◌, ℕ, ◌≤◌, List, Option, Some, None, refl, sym, ap, ◌∙◌, subst, inr, arith}
use Rattle.std.proofs.lemmas.Option.{option_and_then_some, same_Some}
use Rattle.sf_base.proofs.HeapSplits.{star-drop_right, star-empty_right, star-of}
use Rattle.sf_base.proofs.MapSplits.{empty_map, empty-holds, splits-assoc_right, splits-comm, splits-empty_left, splits-empty_right, splits-of_empty_left, splits-union, union}
use Rattle.sf_base.specs.declared.ids.Var.{Var}
use Rattle.sf_base.specs.declared.value.Value.{Value}
use Rattle.sf_base.specs.HeapStore.{Apart, Heap, Splits}
use Rattle.sf_core.proofs.Assertions.Sat.{sat-all_agree}
use Rattle.sf_core.specs.Assertions.Occurs.{OccursInAll}
use Rattle.sf_core.specs.Assertions.Sat.{SatOne, operand}
use Rattle.sf_core.specs.declared.assertion.Operand.{Operand}
use Rattle.sf_core.specs.declared.assertion.Operand.TheVariants.{Known, Exists}
use Rattle.sf_core.specs.Program.Syntax.{Conjunct, segment, Conjuncts, none, also}
use Rattle.sf_consume.proofs.WantedFirst.{list-is}
use Rattle.sf_consume.specs.declared.wanted.WantedList.{WantedList}
use Rattle.sf_consume.specs.Checked.Laws.{alone, HandsOver, Subtracts, KeepsWants}
use Rattle.sf_consume.specs.Subtract.{Step, Want, both, first_by, removed, wanted_list}
use Rattle.sf_consume.specs.Wants.{IsFormed, Wants}
use Rattle.sf_sym.specs.Checked.Lemmas.AtomLists.{atoms-one_more, atoms-out, without-all}
use Rattle.sf_sym.specs.Checked.Lemmas.Below.{below-more, below-value, state-weaker}
use Rattle.sf_sym.specs.Checked.Lemmas.FreshGoals.{more-below}
use Rattle.sf_sym.specs.Checked.Lemmas.OtherValues.{Same, goal-other_values}
use Rattle.sf_sym.specs.Below.{AllInAtom, AllInState, IsBelow, SameBelow}
use Rattle.sf_sym.specs.Cells.{atom_at, handed, without}
use Rattle.sf_sym.specs.Decided.{term_of}
use Rattle.sf_sym.specs.declared.atom.Atom.{Atom}
use Rattle.sf_sym.specs.declared.term.Term.{Term}
use Rattle.sf_sym.specs.Holds.{term_value, AtomHolds, IsBound}
use Rattle.sf_sym.specs.HoldsIn.{HoldsIn}
use Rattle.sf_sym.specs.State.{State}

-- a subtraction whose first conjunct is that one
abbrev pub wanting_first : State → List (Option Term) → Conjunct Term → Conjuncts Term → Want
wanting_first s bindings c cs = record { state = s; bindings = bindings; conjuncts = also c cs }

-- a row's law, where it is shown of the first conjunct
pub by_first : (step : Step)
    →
    ((s : State) (bindings : List (Option Term)) (c : Conjunct Term) (cs : Conjuncts Term) (after : Want)
    → IsFormed (wanting_first s bindings c cs) → step s bindings c cs ≡ Some after
    → Subtracts (wanting_first s bindings c cs) after)
    → KeepsWants step
by_first step law want after formed row = go want.conjuncts formed row
  where
    go : (cs : Conjuncts Term)
        → IsFormed (record { state = want.state; bindings = want.bindings; conjuncts = cs })
        → first_by step want.state want.bindings cs ≡ Some after
        → Subtracts (record { state = want.state; bindings = want.bindings; conjuncts = cs }) after
    go none formed row = absurd (cc)
    go (also c cs) formed row = law want.state want.bindings c cs after formed row

-- Operands
-- two operands that both have terms
pub both-are : (bindings : List (Option Term)) (x y : Operand Term) (e : Term × Term)
    → both bindings x y ≡ Some e → (term_of bindings x ≡ Some e.0) × (term_of bindings y ≡ Some e.1)
both-are bindings x y e row = go (term_of bindings x) (term_of bindings y) row
  where
    go : (o p : Option Term)
        → option_and_then (λ t. option_map (λ u. (t, u)) p) o ≡ Some e → (o ≡ Some e.0) × (p ≡ Some e.1)
    go None p row = absurd (cc)
    go (Some t) None row = absurd (cc)
    go (Some t) (Some u) row =
        let same = same_Some (t, u) e row in (ap (λ z. Some z.0) same, ap (λ z. Some z.1) same)

-- the law of a row of wanted lists, where it is shown of a list whose ends have terms
pub by_list : (there : State → List (Option Term) → WantedList → Conjuncts Term → Term × Term → Option Want)
    →
    ((s : State) (bindings : List (Option Term)) (k : WantedList) (cs : Conjuncts Term) (after : Want) (ends : Term × Term)
    → IsFormed (wanting_first s bindings (segment k.place k.next k.from k.to) cs)
    → term_of bindings k.from ≡ Some ends.0 → term_of bindings k.to ≡ Some ends.1
    → there s bindings k cs ends ≡ Some after
    → Subtracts (wanting_first s bindings (segment k.place k.next k.from k.to) cs) after)
    → KeepsWants (λ s bindings c cs.
    option_and_then (λ k. option_and_then (there s bindings k cs) (both bindings k.from k.to)) (wanted_list c))
by_list there law = by_first _ (λ s bindings c cs after formed row.
    option_and_then_some (λ k. option_and_then (there s bindings k cs) (both bindings k.from k.to)) (wanted_list c)
    after row
    (λ k wanted at_list. subst (λ d. IsFormed (wanting_first s bindings d cs)
    → Subtracts (wanting_first s bindings d cs) after) (sym (list-is c k wanted))
    (λ formed. option_and_then_some (there s bindings k cs) (both bindings k.from k.to) after at_list
    (λ ends terms at_ends.
    let (from, to) = both-are bindings k.from k.to ends terms in
    law s bindings k cs after ends formed from to at_ends)) formed))

-- Wanted heaps what is wanted with some values of the symbols is wanted with others that are the
-- same below the next symbol
pub wants-other : (w v some : ℕ → Value) (want : Want) (heap : Heap) → IsFormed want
    → SameBelow want.state.next_sym v w → Wants v some want heap → Wants w some want heap
wants-other w v some want heap formed same d = record {
  bound = λ n t e. d.bound n t e ∙ sym (is t (formed.terms.bindings n t e));
  satisfied = sat-all_agree want.conjuncts (term_value v) (term_value w) some some heap go d.satisfied;
}
  where
    is : (t : Term) → IsBelow want.state.next_sym t → term_value w t ≡ term_value v t
    is t b = below-value want.state.next_sym v w same t b

    go : (x : Operand Term) → OccursInAll want.conjuncts x
        → operand (term_value v) some x ≡ operand (term_value w) some x
    go (Known t) o = sym (is t (formed.terms.conjuncts t o))
    go (Exists n) o = refl

-- Formed subtractions
-- without the first conjunct
pub formed-rest : (s : State) (bindings : List (Option Term)) (c : Conjunct Term) (cs : Conjuncts Term)
    → IsFormed (wanting_first s bindings c cs) → IsFormed (removed s bindings cs)
formed-rest s bindings c cs formed = record {
  state = formed.state;
  terms = record {
    conjuncts = λ t o. formed.terms.conjuncts t (inr o);
    bindings = formed.terms.bindings;
  };
  conjuncts = formed.conjuncts.1;
}

-- States alone
-- with other values of the symbols from a number on that none of its terms reaches
pub state-other : (n : ℕ) (w v : ℕ → Value) (s : State) (e : Var → Option Value) (free taken : Heap)
    → AllInState (IsBelow n) s → SameBelow n v w → HoldsIn w (alone s) e free taken
    → HoldsIn v (alone s) e free taken
state-other n w v s e free taken below same h =
    goal-other_values w v (alone s) e free taken
    (record { state = state-weaker (IsBelow n) (Same w v) (below-value n v w same) s below; todo = tt }) h

-- the atom of a number, on its part of what is there, and the state without it on the rest
pub record Out (w : ℕ → Value) (s : State) (e : Var → Option Value) (free taken : Heap) (a : ℕ) (x : Atom)
    : Type 0 where
  pub part : Heap
  pub rest : Heap
  pub splits : Splits free part rest
  pub atom : AtomHolds w s.links x part
  pub others : HoldsIn w (alone (record s { atoms = without s.atoms a })) e rest taken
  pub apart : (location : ℕ) → Apart (free location) (taken location)

pub state-out : (w : ℕ → Value) (s : State) (e : Var → Option Value) (free taken : Heap) (a : ℕ) (x : Atom)
    → atom_at s.atoms a ≡ Some x → HoldsIn w (alone s) e free taken → Out w s e free taken a x
state-out w s e free taken a x at h =
    let o = atoms-out w s.links s.atoms a x free at (star-drop_right h.there) in
    let m = splits-assoc_right o.splits (splits-union h.disjoint) in
    record {
      part = o.left;
      rest = o.right;
      splits = o.splits;
      atom = o.first;
      others = record {
        vars = h.vars;
        apart = h.apart;
        disjoint = m.0.apart;
        there = star-empty_right o.second;
        gone = h.gone;
      };
      apart = h.disjoint;
    }

-- the state with that atom handed over
abbrev pub handed_with : State → (next_sym a : ℕ) → Atom → State
handed_with s n a x = handed (record s { next_sym = n }) a x

-- an atom that is out is handed over, with more of its fields known
pub state-handed : (w v : ℕ → Value) (s : State) (e : Var → Option Value) (free taken : Heap) (a n : ℕ)
    (x y : Atom)
    → AllInState (IsBelow s.next_sym) s → SameBelow s.next_sym v w → (o : Out w s e free taken a x)
    → AtomHolds v s.links y o.part
    → HoldsIn v (alone (handed_with s n a y)) e o.rest (union o.part taken)
state-handed w v s e free taken a n x y below same o holds =
    let m = splits-assoc_right (splits-comm o.splits) (splits-union o.apart) in
    let h = state-other s.next_sym w v (record s { atoms = without s.atoms a }) e o.rest taken
    (record {
      vars = below.vars;
      apart = below.apart;
      atoms = without-all (AllInAtom (IsBelow s.next_sym)) s.atoms a below.atoms;
      taken = below.taken;
    }) same o.others in
    record {
      vars = h.vars;
      apart = h.apart;
      disjoint = m.1.apart;
      there = h.there;
      gone = atoms-one_more v s.links s.taken (record { number = a; atom = y }) (union o.part taken)
          (star-of m.0 holds h.gone);
    }

-- where the part of an atom goes
pub state-joins : (w : ℕ → Value) (s : State) (e : Var → Option Value) (free taken : Heap) (a : ℕ) (x : Atom)
    (o : Out w s e free taken a x) → Splits (union o.part taken) taken o.part
state-joins w s e free taken a x o =
    splits-comm (splits-assoc_right (splits-comm o.splits) (splits-union o.apart)).0

-- the atom is handed over as it is, where whatever is still wanted then was wanted with its part before
pub handed-whole : (w : ℕ → Value) (s : State) (e : Var → Option Value) (free taken : Heap) (a : ℕ) (x : Atom)
    (bindings : List (Option Term)) (cs left : Conjuncts Term)
    → AllInState (IsBelow s.next_sym) s → (o : Out w s e free taken a x)
    →
    ((some : ℕ → Value) (more whole : Heap) → Splits whole o.part more
    → Wants w some (removed (handed s a x) bindings left) more → Wants w some (removed s bindings cs) whole)
    → HandsOver w (removed s bindings cs) (removed (handed s a x) bindings left) e free taken
handed-whole w s e free taken a x bindings cs left below o wants = record {
  part = o.part;
  rest = o.rest;
  gone = union o.part taken;
  splits = o.splits;
  joins = state-joins w s e free taken a x o;
  values = w;
  same = λ m i. refl;
  holds = state-handed w w s e free taken a s.next_sym x x below (λ m i. refl) o o.atom;
  wants = wants;
}

-- the state speaks of symbols below a larger number still
pub state-below : (n a : ℕ) (s : State) (y : Atom) → s.next_sym ≤ n → AllInState (IsBelow s.next_sym) s
    → AllInAtom (IsBelow n) y → AllInState (IsBelow n) (handed_with s n a y)
state-below n a s y more below b =
    let later = state-weaker (IsBelow s.next_sym) (IsBelow n) (below-more s.next_sym n more) s below in
    record {
      vars = later.vars;
      apart = later.apart;
      atoms = without-all (AllInAtom (IsBelow n)) s.atoms a later.atoms;
      taken = more-below n s.taken (record { number = a; atom = y }) later.taken b;
    }

-- Rows that hand nothing over
-- whatever heap is still wanted was wanted before
pub hands_nothing : (s : State) (bindings now : List (Option Term)) (cs left : Conjuncts Term)
    → IsFormed (removed s bindings cs) → IsFormed (removed s now left)
    →
    ((w some : ℕ → Value) (e : Var → Option Value) (free taken : Heap) → HoldsIn w (alone s) e free taken
    → (heap : Heap) → Wants w some (removed s now left) heap → Wants w some (removed s bindings cs) heap)
    → Subtracts (removed s bindings cs) (removed s now left)
hands_nothing s bindings now cs left formed left_formed wants = record {
  formed = left_formed;
  symbols = omega arith;
  links = refl;
  hands = λ w e free taken h. record {
    part = empty_map;
    rest = free;
    gone = taken;
    splits = splits-empty_left empty-holds;
    joins = splits-empty_right empty-holds;
    values = w;
    same = λ m i. refl;
    holds = h;
    wants = λ some more whole splits d.
        subst (Wants w some (removed s bindings cs)) (sym (splits-of_empty_left empty-holds splits))
        (wants w some e free taken h more d);
  };
}

-- the first conjunct needs no heap
pub nothing_handed : (s : State) (bindings now : List (Option Term)) (c : Conjunct Term) (cs : Conjuncts Term)
    → IsFormed (wanting_first s bindings c cs) → IsFormed (removed s now cs)
    →
    ((w some : ℕ → Value) (e : Var → Option Value) (free taken : Heap) → HoldsIn w (alone s) e free taken
    → IsBound w now some
    → IsBound w bindings some × SatOne c (term_value w) some empty_map)
    → Subtracts (wanting_first s bindings c cs) (removed s now cs)
nothing_handed s bindings now c cs formed left one =
    hands_nothing s bindings now (also c cs) cs formed left
    (λ w some e free taken h heap d. let first = one w some e free taken h d.bound in record {
      bound = first.0;
      satisfied = star-of (splits-empty_left empty-holds) first.1 d.satisfied;
    })
