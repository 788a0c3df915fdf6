-- The first conjunct is assumed: its part of the heap goes to the atoms, and its test is true.
-- Names: `first-LAW` of the first conjunct's part, `others-LAW` of those behind it, `plain-LAW` of a goal with the same state,
-- `more-LAW` of one with one atom more, `assumed-LAW` of what holds then, `KIND-kept` of the row at such a conjunct.
use Rattle.std.proofs.Common.{◌≡◌, ℕ, ◌+◌, List, [], ◌∷◌, ◌++◌, length, Option, Some, refl, sym, ap, ◌∙◌, subst, subst₂, inl, inr, arith}
use Rattle.std.specs.List.{AllByRecursion, IsDistinct}
use Rattle.std.specs.Option.{option_map}
use Rattle.std.specs.Prelude.{map}
use Rattle.sf_base.proofs.Elements.{all_by-append}
use Rattle.sf_base.proofs.HeapSplits.{star-assoc_left, star-assoc_right, star-comm, star-drop_left, star-map_left, star-map_right, star-of}
use Rattle.sf_base.specs.declared.ids.FieldId.{FieldId}
use Rattle.sf_base.specs.declared.ids.Var.{Var}
use Rattle.sf_base.specs.declared.place.Place.{Place}
use Rattle.sf_base.specs.declared.value.Value.{Value}
use Rattle.sf_base.specs.HeapStore.{Heap, IsEmpty, ◌⋆◌}
use Rattle.sf_core.specs.Assertions.Occurs.{OccursInOne}
use Rattle.sf_core.specs.Assertions.Sat.{Dseg, SatAll, SatOne, operand}
use Rattle.sf_core.specs.declared.assertion.Operand.{Operand}
use Rattle.sf_core.specs.declared.assertion.Test.TheVariants.{True, Equal, Differ as Unequal}
use Rattle.sf_core.specs.Assertions.Scopes.{overlap}
use Rattle.sf_core.specs.declared.assertion.Scope.{Scope}
use Rattle.sf_core.specs.Program.Formed.{conjunct_scopes, conjuncts_scopes, is_made}
use Rattle.sf_core.specs.Program.Syntax.{Conjunct, holds, points, segment, doubly, tree, choose, Conjuncts, none, also}
use Rattle.sf_produce.proofs.Meeting.{Leads, MeetsBoth, leads-same, leads-trans, met-fields, met-four, met-one, met-two, term-keeps, with_bindings}
use Rattle.sf_produce.specs.Add.{MetBoth, add_first, added, goal_after, met, met_both, met_fields, met_four}
use Rattle.sf_produce.specs.Checked.Laws.{AddKeepsGoals, HoldsAssumed}
use Rattle.sf_sym.specs.Below.{AllInAtom, AllInItem, AllInPairs, AreBelow, IsBelow}
use Rattle.sf_sym.specs.Cells.{apart_from_nil, with_atom, with_cell}
use Rattle.sf_sym.specs.Decided.{term_of}
use Rattle.sf_sym.specs.declared.atom.Atom.{Atom}
use Rattle.sf_sym.specs.declared.atom.Atom.TheVariants.{Points, Ls, Tree, Dll}
use Rattle.sf_sym.specs.declared.term.Term.{Term}
use Rattle.sf_sym.specs.Equalities.{assumed_apart, assumed_equal, item_with, pending_with, with_pair}
use Rattle.sf_sym.specs.Formed.{AreFormed, IsCounted, IsScoped, ItemFormed}
use Rattle.sf_sym.specs.Goal.{Item, Goal, adding}
use Rattle.sf_sym.specs.Holds.{term_value, AddsHold, AtomHolds, AtomsHold, Differ, DsegAlong, IsBound, PendingHolds, SegAlong, TreeAlong}
use Rattle.sf_sym.specs.HoldsIn.{HoldsIn}
use Rattle.sf_sym.specs.Checked.Laws.{AssumedTermsAreBelow, DifferingTermsMayBeAssumed, EqualTermsMayBeAssumed, Follows, KeptWith}
use Rattle.sf_sym.specs.Checked.Lemmas.Adding.{adding-all, adding-holds}
use Rattle.sf_sym.specs.Checked.Lemmas.AtomLists.{atoms-one_more}
use Rattle.sf_sym.specs.Checked.Lemmas.Bindings.{operand-below, operand-is}
use Rattle.sf_sym.specs.Checked.Lemmas.Formed.{formed-adding}
use Rattle.sf_sym.specs.Checked.Lemmas.FreshGoals.{from_nil-below, from_nil-differs, more-below}
use Rattle.sf_sym.specs.Checked.Lemmas.Keeping.{follows-equal, follows-trans, kept-one, same-below}
use Rattle.sf_sym.specs.Checked.Lemmas.Restated.{restated-adding, restated-equal, restated-same}
use Rattle.sf_sym.specs.Checked.Lemmas.TwoHeaps.{assumed_terms_are_below, differing_terms_may_be_assumed, equal_terms_may_be_assumed}
use Rattle.sf_sym.specs.Pending.{Pending}
use Rattle.sf_sym.specs.State.{State}

-- A goal whose first conjunct is that one, before those others
module _ (s : State) (p : Place) (c : Conjunct Term) (cs : Conjuncts Term) (bindings : List (Option Term))
    (rest : List Item) where
  abbrev goal : Goal
  goal = with_bindings p (also c cs) rest s bindings

  -- the others
  abbrev others : Pending
  others = record { conjuncts = cs; bindings = bindings }

  abbrev todo : List Item
  todo = adding p others ++ rest

  others-below : AreBelow goal → AllByRecursion (AllInItem (IsBelow s.next_sym)) todo
  others-below below = adding-all (IsBelow s.next_sym) p others rest (record {
    conjuncts = λ t o. below.todo.0.conjuncts t (inr o);
    bindings = below.todo.0.bindings;
  }) below.todo.1

  -- the first conjunct's part of the heap, beside the atoms and what is to be assumed then
  pub record First (w : ℕ → Value) (e : Var → Option Value) (free taken : Heap) : Type 0 where
    pub some : ℕ → Value
    pub bound : IsBound w bindings some
    pub there : (AtomsHold w s.links s.atoms ⋆ (SatOne c (term_value w) some ⋆ AddsHold w todo)) free

  first-out : (w : ℕ → Value) (e : Var → Option Value) (free taken : Heap) → HoldsIn w goal e free taken
      → First w e free taken
  first-out w e free taken h =
      let (some, bound, sat) = h.there.second.first in
      record {
        some = some;
        bound = bound;
        there = star-of h.there.splits h.there.first
            (star-map_right (λ part d. adding-holds w p others rest part d)
            (star-assoc_right (star-of h.there.second.splits
            (star-map_right {R = SatOne c (term_value w) some} (λ part d. pending w some bound part d) sat)
            h.there.second.second)));
      }
    where
      pending : (w some : ℕ → Value) → IsBound w bindings some → (part : Heap)
          → SatAll cs (term_value w) some part → PendingHolds w others part
      pending w some bound part d = (some, bound, d)

  -- without the first conjunct, which is no choice
  module _ (plain : (ss : List Scope) → conjunct_scopes c ss ≡ ss) where
    scoped-rest : IsScoped (record { conjuncts = also c cs; bindings = bindings }) → IsScoped others
    scoped-rest d =
        let same = plain (conjuncts_scopes cs []) in
        let made = λ (n : ℕ). ap (λ ss. is_made ss n) (sym same) in
        record {
          distinct = subst (IsDistinct overlap) same d.distinct;
          occurring = λ n o. made n ∙ d.occurring n (inr o);
          bound = λ n t e. made n ∙ d.bound n t e;
        }

    others-formed : AreFormed goal → AllByRecursion (ItemFormed s.links) todo
    others-formed f =
        all_by-append (ItemFormed s.links) (adding p others) rest
        (formed-adding s.links p others f.0.0.1 (scoped-rest f.0.1)) f.1

    -- in the same state
    abbrev pub plain_goal : Goal
    plain_goal = goal_after s p cs bindings rest

    pub plain-follows : AreBelow goal → Follows goal plain_goal
    plain-follows below = record {
      below = record { state = below.state; todo = others-below below };
      symbols = omega arith;
      links = refl;
      formed = others-formed;
    }

    -- in a state with one atom more, and these pairs
    module _ (apart : List (Term × Term)) (x : Atom) where
      abbrev pub with_more : Goal
      with_more = record {
        state = record s {
          apart = apart;
          atoms = s.atoms ++ (record { number = s.next_atom; atom = x } ∷ []);
          next_atom = s.next_atom + 1;
        };
        todo = todo;
      }

      pub more-follows : AreBelow goal → AllInPairs (IsBelow s.next_sym) apart → AllInAtom (IsBelow s.next_sym) x
          → Follows goal with_more
      more-follows below pairs atom = record {
        below = record {
          state = record {
            vars = below.state.vars;
            apart = pairs;
            atoms = more-below s.next_sym s.atoms (record { number = s.next_atom; atom = x }) below.state.atoms atom;
            taken = below.state.taken;
          };
          todo = others-below below;
        };
        symbols = omega arith;
        links = refl;
        formed = others-formed;
      }

      pub more-holds : (w : ℕ → Value) (e : Var → Option Value) (free taken : Heap)
          → HoldsIn w goal e free taken → (f : First w e free taken) → AllByRecursion (Differ w) apart
          → ((part : Heap) → SatOne c (term_value w) f.some part → AtomHolds w s.links x part)
          → HoldsIn w with_more e free taken
      more-holds w e free taken h f pairs becomes = record {
        vars = h.vars;
        apart = pairs;
        disjoint = h.disjoint;
        there = star-map_left
            (λ part d. atoms-one_more w s.links s.atoms (record { number = s.next_atom; atom = x }) part
            (star-comm (star-map_right becomes d)))
            (star-assoc_left f.there);
        gone = h.gone;
      }

  pub plain-holds : (w : ℕ → Value) (e : Var → Option Value) (free taken : Heap) → HoldsIn w goal e free taken
      → (f : First w e free taken)
      → ((part : Heap) → SatOne c (term_value w) f.some part → IsEmpty part)
      → HoldsIn w (goal_after s p cs bindings rest) e free taken
  plain-holds w e free taken h f empty = record {
    vars = h.vars;
    apart = h.apart;
    disjoint = h.disjoint;
    there = star-map_right (λ part d. star-drop_left (star-map_left empty d)) f.there;
    gone = h.gone;
  }

  -- what is left after the others is as it was
  pub assumed-same : (w : ℕ → Value) (t : State) (e : Var → Option Value) (free taken : Heap)
      → HoldsIn w (record { state = t; todo = todo }) e free taken
      → HoldsAssumed p rest w goal e free taken (record { state = t; todo = todo })
  assumed-same w t e free taken h = record {
    still = record { values = w; same = λ m d. refl; holds = h };
    left = others;
    others = rest;
    todo = refl;
    restated = restated-same w rest;
  }

-- After goals that lead there
pub assumed-after : (p : Place) (rest : List Item) (one two child : Goal) (left : List Goal) → Leads one two
    → Some (child ∷ []) ≡ Some left → Follows two child
    → ((w : ℕ → Value) (e : Var → Option Value) (free taken : Heap) → HoldsIn w two e free taken
    → HoldsAssumed p rest w two e free taken child)
    → KeptWith one left (HoldsAssumed p rest)
assumed-after p rest one two child left leads e follows still =
    kept-one (HoldsAssumed p rest) one child left e (follows-trans one two child leads.follow follows)
    (λ w f free taken h.
    let a = leads.hold w f free taken h in
    let b = still a.values f free taken a.holds in
    record {
      still = record {
        values = b.still.values;
        same = same-below one.state.next_sym two.state.next_sym a.values w b.still.values leads.follow.symbols a.same
            b.still.same;
        holds = b.still.holds;
      };
      left = b.left;
      others = b.others;
      todo = b.todo;
      restated = b.restated;
    })

-- An equality of two terms that its operands have
module _ (s : State) (p : Place) (q : Place) (x y : Operand Term) (cs : Conjuncts Term) (bindings : List (Option Term))
    (rest : List Item) (t u : Term) (one : term_of bindings x ≡ Some t) (two : term_of bindings y ≡ Some u) where
  equal-assumed : (w : ℕ → Value) (e : Var → Option Value) (free taken : Heap)
      → HoldsIn w (with_bindings p (also (holds q (Equal x y)) cs) rest s bindings) e free taken
      → HoldsAssumed p rest w (with_bindings p (also (holds q (Equal x y)) cs) rest s bindings) e free taken
      (assumed_equal t u (goal_after s p cs bindings rest))
  unfolding EqualTermsMayBeAssumed
  equal-assumed w e free taken h =
      let f = first-out s p (holds q (Equal x y)) cs bindings rest w e free taken h in
      let same : term_value w t ≡ term_value w u =
      sym (operand-is w f.some bindings x t f.bound one) ∙ f.there.second.first.1
      ∙ operand-is w f.some bindings y u f.bound two in
      let plain = plain-holds s p (holds q (Equal x y)) cs bindings rest w e free taken h f (λ part d. d.0) in
      let others : Pending = record { conjuncts = cs; bindings = bindings } in
      let items = restated-equal w t u (goal_after s p cs bindings rest) same in
      record {
        still = record {
          values = w;
          same = λ m d. refl;
          holds = equal_terms_may_be_assumed w t u (goal_after s p cs bindings rest) e free taken same plain;
        };
        left = pending_with items.to others;
        others = map (item_with items.to) rest;
        todo = items.is ∙ restated-adding items.to p others rest;
        restated = record { to = items.to; same = items.same; is = refl };
      }

  -- an inequality of them
  apart-assumed : (w : ℕ → Value) (e : Var → Option Value) (free taken : Heap)
      → HoldsIn w (with_bindings p (also (holds q (Unequal x y)) cs) rest s bindings) e free taken
      → HoldsAssumed p rest w (with_bindings p (also (holds q (Unequal x y)) cs) rest s bindings) e free taken
      (assumed_apart t u (goal_after s p cs bindings rest))
  unfolding DifferingTermsMayBeAssumed
  apart-assumed w e free taken h =
      let f = first-out s p (holds q (Unequal x y)) cs bindings rest w e free taken h in
      let plain = plain-holds s p (holds q (Unequal x y)) cs bindings rest w e free taken h f (λ part d. d.0) in
      assumed-same s p (holds q (Unequal x y)) cs bindings rest w (with_pair t u s) e free taken
      (differing_terms_may_be_assumed w t u (goal_after s p cs bindings rest) e free taken
      (λ i. f.there.second.first.1 (operand-is w f.some bindings x t f.bound one ∙ i
      ∙ sym (operand-is w f.some bindings y u f.bound two)))
      plain)

-- the goal where they are assumed to differ follows
follows-apart : (t u : Term) (goal : Goal) → AreBelow goal → IsBelow goal.state.next_sym t
    → IsBelow goal.state.next_sym u → Follows goal (assumed_apart t u goal)
unfolding AssumedTermsAreBelow
follows-apart t u goal below one two = record {
  below = (assumed_terms_are_below t u goal below one two).1;
  symbols = omega arith;
  links = refl;
  formed = λ f. f;
}

-- The rows, conjunct by conjunct
module _ (s : State) (p : Place) (cs : Conjuncts Term) (bindings : List (Option Term)) (rest : List Item)
    (left : List Goal) where
  -- the goal with that first conjunct
  abbrev goal_with_first : Conjunct Term → Goal
  goal_with_first c = with_bindings p (also c cs) rest s bindings

  -- its row keeps what it stands for
  abbrev FirstKept : Conjunct Term → Type 0
  FirstKept c = AreBelow (goal_with_first c) → AreFormed (goal_with_first c)
      → option_map (λ g. g ∷ []) (added s p bindings c cs rest) ≡ Some left
      → KeptWith (goal_with_first c) left (HoldsAssumed p rest)

  true-kept : (q : Place) → FirstKept (holds q True)
  true-kept q below formed row =
      assumed-after p rest (goal_with_first (holds q True)) (goal_with_first (holds q True))
      (goal_after s p cs bindings rest) left (leads-same (goal_with_first (holds q True)) below) row
      (plain-follows s p (holds q True) cs bindings rest (λ ss. refl) below)
      (λ w e free taken h.
      let f = first-out s p (holds q True) cs bindings rest w e free taken h in
      assumed-same s p (holds q True) cs bindings rest w s e free taken
      (plain-holds s p (holds q True) cs bindings rest w e free taken h f (λ part d. d.0)))

  -- two operands of the first conjunct have their terms, and these are below the next symbol
  record BothMet (c : Conjunct Term) (x y : Operand Term) (m : MetBoth) : Type 0 where
    meets : MeetsBoth p (also c cs) rest s bindings x y m
    one_below : IsBelow m.state.next_sym m.one
    two_below : IsBelow m.state.next_sym m.two

  both-met : (c : Conjunct Term) (x y : Operand Term) → AreBelow (goal_with_first c)
      → IsCounted (length bindings) x → IsCounted (length bindings) y → OccursInOne c x → OccursInOne c y
      → BothMet c x y (met_both s bindings x y)
  both-met c x y below counted also_counted here there =
      let m = met_both s bindings x y in
      let k = met-two p (also c cs) rest s bindings x y below counted also_counted (inl here) (inl there) in
      let within = k.grows.leads.follow.below.todo.0 in
      record {
        meets = k;
        one_below = operand-below m.state.next_sym m.bindings (also c cs) x m.one within (inl here) k.one;
        two_below = operand-below m.state.next_sym m.bindings (also c cs) y m.two within (inl there) k.two;
      }

  -- the row at a test of two operands, by what the goal is once it is assumed of their terms
  test-kept : (c : Conjunct Term) (x y : Operand Term) (assumed_of : Term → Term → Goal → Goal)
      → ((ss : List Scope) → conjunct_scopes c ss ≡ ss)
      → ((t u : Term) (goal : Goal) → AreBelow goal → IsBelow goal.state.next_sym t → IsBelow goal.state.next_sym u
      → Follows goal (assumed_of t u goal))
      → ((now : State) (bound : List (Option Term)) (t u : Term) → term_of bound x ≡ Some t → term_of bound y ≡ Some u
      → (w : ℕ → Value) (e : Var → Option Value) (free taken : Heap)
      → HoldsIn w (with_bindings p (also c cs) rest now bound) e free taken
      → HoldsAssumed p rest w (with_bindings p (also c cs) rest now bound) e free taken
      (assumed_of t u (goal_after now p cs bound rest)))
      → (m : MetBoth) → BothMet c x y m → Some (assumed_of m.one m.two (goal_after m.state p cs m.bindings rest) ∷ []) ≡ Some left
      → KeptWith (goal_with_first c) left (HoldsAssumed p rest)
  test-kept c x y assumed_of plain follows holds_then m k row =
      let leads = k.meets.grows.leads in
      let after = goal_after m.state p cs m.bindings rest in
      let first = plain-follows m.state p c cs m.bindings rest plain leads.follow.below in
      let two = with_bindings p (also c cs) rest m.state m.bindings in
      assumed-after p rest (goal_with_first c) two (assumed_of m.one m.two after) left leads row
      (follows-trans two after (assumed_of m.one m.two after) first
      (follows m.one m.two after first.below k.one_below k.two_below))
      (holds_then m.state m.bindings m.one m.two k.meets.one k.meets.two)

  equal-kept : (q : Place) (x y : Operand Term) → FirstKept (holds q (Equal x y))
  equal-kept q x y below formed row =
      let c = holds q (Equal x y) in
      test-kept c x y assumed_equal (λ ss. refl) follows-equal
      (λ now bound t u one two. equal-assumed now p q x y cs bound rest t u one two) (met_both s bindings x y)
      (both-met c x y below formed.0.0.0.0 formed.0.0.0.1 (inl refl) (inr refl)) row

  apart-kept : (q : Place) (x y : Operand Term) → FirstKept (holds q (Unequal x y))
  apart-kept q x y below formed row =
      let c = holds q (Unequal x y) in
      test-kept c x y assumed_apart (λ ss. refl) follows-apart
      (λ now bound t u one two. apart-assumed now p q x y cs bound rest t u one two) (met_both s bindings x y)
      (both-met c x y below formed.0.0.0.0 formed.0.0.0.1 (inl refl) (inr refl)) row

  segment-kept : (q : Place) (next : FieldId) (x y : Operand Term) → FirstKept (segment q next x y)
  segment-kept q next x y below formed row =
      let c = segment q next x y in
      let m = met_both s bindings x y in
      let k = both-met c x y below formed.0.0.0.1 formed.0.0.0.2 (inl refl) (inr refl) in
      let leads = k.meets.grows.leads in
      let along : m.state.links.tl ≡ Some next = ap (λ l. l.tl) leads.follow.links ∙ formed.0.0.0.0 in
      assumed-after p rest (goal_with_first c) (with_bindings p (also c cs) rest m.state m.bindings)
      (goal_after (with_atom (Ls m.one m.two) m.state) p cs m.bindings rest) left leads row
      (more-follows m.state p c cs m.bindings rest (λ ss. refl) m.state.apart (Ls m.one m.two) leads.follow.below
      leads.follow.below.state.apart (k.one_below, k.two_below))
      (λ w e free taken h.
      let f = first-out m.state p c cs m.bindings rest w e free taken h in
      assumed-same m.state p c cs m.bindings rest w (with_atom (Ls m.one m.two) m.state) e free taken
      (more-holds m.state p c cs m.bindings rest (λ ss. refl) m.state.apart (Ls m.one m.two) w e free taken h f
      h.apart
      (λ part d. subst (λ z. SegAlong z (term_value w m.one) (term_value w m.two) part) (sym along)
      (subst₂ (λ a b. SegAlong (Some next) a b part)
      (operand-is w f.some m.bindings x m.one f.bound k.meets.one)
      (operand-is w f.some m.bindings y m.two f.bound k.meets.two) d))))

  double-kept : (q : Place) (next back : FieldId) (x b l y : Operand Term) → FirstKept (doubly q next back x b l y)
  double-kept q next back x b l y below formed row =
      let c = doubly q next back x b l y in
      let all : Conjuncts Term = also c cs in
      let m = met_four s bindings x b l y in
      let atom : Atom = Dll m.from m.before m.last m.to in
      let one = formed.0.0.0 in
      let k = met-four p all rest s bindings x b l y below one.2 one.3 one.4 one.5 (λ z o. inl o) in
      let after = k.grows.leads.follow in
      let n = m.state.next_sym in
      let within = after.below.todo.0 in
      let tl : m.state.links.tl ≡ Some next = ap (λ z. z.tl) after.links ∙ one.0 in
      let pv : m.state.links.pv ≡ Some back = ap (λ z. z.pv) after.links ∙ one.1 in
      assumed-after p rest (goal_with_first c) (with_bindings p all rest m.state m.bindings)
      (goal_after (with_atom atom m.state) p cs m.bindings rest) left k.grows.leads row
      (more-follows m.state p c cs m.bindings rest (λ ss. refl) m.state.apart atom after.below after.below.state.apart (
        operand-below n m.bindings all x m.from within (inl (inl refl)) k.from,
        operand-below n m.bindings all b m.before within (inl (inr (inl refl))) k.before,
        operand-below n m.bindings all l m.last within (inl (inr (inr (inl refl)))) k.last,
        operand-below n m.bindings all y m.to within (inl (inr (inr (inr refl)))) k.to,
      ))
      (λ w e free taken h.
      let f = first-out m.state p c cs m.bindings rest w e free taken h in
      let value = operand-is w f.some m.bindings in
      assumed-same m.state p c cs m.bindings rest w (with_atom atom m.state) e free taken
      (more-holds m.state p c cs m.bindings rest (λ ss. refl) m.state.apart atom w e free taken h f h.apart
      (λ part d. subst₂
      (λ i j. DsegAlong i j (term_value w m.from) (term_value w m.before) (term_value w m.last) (term_value w m.to) part)
      (sym tl) (sym pv)
      (subst₂ (λ i j. Dseg next back i j (term_value w m.before) (term_value w m.from) part)
      (value l m.last f.bound k.last) (value y m.to f.bound k.to)
      (subst₂ (λ i j.
      Dseg next back (operand (term_value w) f.some l) (operand (term_value w) f.some y) i j part)
      (value b m.before f.bound k.before) (value x m.from f.bound k.from) d)))))

  tree-kept : (q : Place) (l r : FieldId) (x : Operand Term) → FirstKept (tree q l r x)
  tree-kept q l r x below formed row =
      let c = tree q l r x in
      let m = met s bindings x in
      let k = met-one p (also c cs) rest s bindings x below formed.0.0.0.2 (inl refl) in
      let after = k.grows.leads.follow in
      let one : m.state.links.l ≡ Some l = ap (λ z. z.l) after.links ∙ formed.0.0.0.0 in
      let two : m.state.links.r ≡ Some r = ap (λ z. z.r) after.links ∙ formed.0.0.0.1 in
      let root_below = operand-below m.state.next_sym m.bindings (also c cs) x m.term after.below.todo.0
      (inl refl) k.is in
      assumed-after p rest (goal_with_first c) (with_bindings p (also c cs) rest m.state m.bindings)
      (goal_after (with_atom (Tree m.term) m.state) p cs m.bindings rest) left k.grows.leads row
      (more-follows m.state p c cs m.bindings rest (λ ss. refl) m.state.apart (Tree m.term) after.below
      after.below.state.apart root_below)
      (λ w e free taken h.
      let f = first-out m.state p c cs m.bindings rest w e free taken h in
      assumed-same m.state p c cs m.bindings rest w (with_atom (Tree m.term) m.state) e free taken
      (more-holds m.state p c cs m.bindings rest (λ ss. refl) m.state.apart (Tree m.term) w e free taken h f
      h.apart
      (λ part d. subst₂ (λ a b. TreeAlong a b (term_value w m.term) part) (sym one) (sym two)
      (subst (λ z. TreeAlong (Some l) (Some r) z part) (operand-is w f.some m.bindings x m.term f.bound k.is) d))))

  points-kept : (q : Place) (x : Operand Term) (fs : List (FieldId × Operand Term)) → FirstKept (points q x fs)
  points-kept q x fs below formed row =
      let c = points q x fs in
      let root = met s bindings x in
      let one = met-one p (also c cs) rest s bindings x below formed.0.0.0.0 (inl (inl refl)) in
      let m = met_fields root.state root.bindings fs [] in
      let k = met-fields p (also c cs) rest root.state root.bindings fs [] one.grows.leads.follow.below
      (subst (λ n. AllByRecursion (λ (f : FieldId × Operand Term). IsCounted n f.1) fs) (sym one.grows.count)
      formed.0.0.0.1) (λ y o. inl (inr o)) in
      let leads = leads-trans (goal_with_first c) (with_bindings p (also c cs) rest root.state root.bindings)
      (with_bindings p (also c cs) rest m.state m.bindings) one.grows.leads k.grows.leads in
      let below_now = leads.follow.below in
      let is : term_of m.bindings x ≡ Some root.term =
      term-keeps p (also c cs) rest root.state m.state root.bindings m.bindings k.grows x root.term one.is in
      let root_below = operand-below m.state.next_sym m.bindings (also c cs) x root.term below_now.todo.0
      (inl (inl refl)) is in
      assumed-after p rest (goal_with_first c) (with_bindings p (also c cs) rest m.state m.bindings)
      (goal_after (with_cell m.state root.term m.fields) p cs m.bindings rest) left leads row
      (more-follows m.state p c cs m.bindings rest (λ ss. refl) (m.state.apart ++ apart_from_nil root.term)
      (Points root.term m.fields) below_now
      (all_by-append (λ (z : Term × Term). IsBelow m.state.next_sym z.0 × IsBelow m.state.next_sym z.1) m.state.apart
      (apart_from_nil root.term) below_now.state.apart (from_nil-below m.state.next_sym root.term root_below))
      (root_below, k.below tt))
      (λ w e free taken h.
      let f = first-out m.state p c cs m.bindings rest w e free taken h in
      let value = operand-is w f.some m.bindings x root.term f.bound is in
      let here = f.there.second.first in
      assumed-same m.state p c cs m.bindings rest w (with_cell m.state root.term m.fields) e free taken
      (more-holds m.state p c cs m.bindings rest (λ ss. refl) (m.state.apart ++ apart_from_nil root.term)
      (Points root.term m.fields) w e free taken h f
      (all_by-append (Differ w) m.state.apart (apart_from_nil root.term) h.apart
      (from_nil-differs w root.term here.0 (sym value ∙ here.2)))
      (λ part d. (d.0, d.1, sym value ∙ d.2, d.3, k.has w f.some d.1 f.bound tt d.4))))

-- add: wherever the goal holds, it holds with its first conjunct assumed
pub add_keeps_goals : AddKeepsGoals
unfolding AddKeepsGoals
add_keeps_goals s p given rest left shape row = go given.conjuncts shape.below shape.formed row
  where
    go : (cs : Conjuncts Term)
        → AreBelow (with_bindings p cs rest s given.bindings) → AreFormed (with_bindings p cs rest s given.bindings)
        → option_map (λ g. g ∷ []) (add_first s p given.bindings cs rest) ≡ Some left
        → KeptWith (with_bindings p cs rest s given.bindings) left (HoldsAssumed p rest)
    go none below formed row = absurd (cc)
    go (also (holds q True) cs) below formed row =
        true-kept s p cs given.bindings rest left q below formed row
    go (also (holds q (Equal x y)) cs) below formed row =
        equal-kept s p cs given.bindings rest left q x y below formed row
    go (also (holds q (Unequal x y)) cs) below formed row =
        apart-kept s p cs given.bindings rest left q x y below formed row
    go (also (points q x fs) cs) below formed row =
        points-kept s p cs given.bindings rest left q x fs below formed row
    go (also (segment q next x y) cs) below formed row =
        segment-kept s p cs given.bindings rest left q next x y below formed row
    go (also (doubly q next back x b l y) cs) below formed row =
        double-kept s p cs given.bindings rest left q next back x b l y below formed row
    go (also (tree q l r x) cs) below formed row =
        tree-kept s p cs given.bindings rest left q l r x below formed row
    go (also (choose q x this that) cs) below formed row = absurd (cc)
