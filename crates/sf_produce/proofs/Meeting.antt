-- Operands that are met: an existential that gets a fresh symbol has its value, and the goal holds still.
-- Names: `leads-LAW` of goals of which one holds wherever the other does, `fresh-LAW` of an existential that gets a
-- symbol, `met-LAW` of operands that are met.
use Rattle.std.proofs.Common.{◌≡◌, ℕ, ◌+◌, ◌<◌, List, [], ◌∷◌, Option, Some, None, get_or, length, set, refl, sym, ap, ◌∙◌, subst, inl, inr, arith}
use Rattle.std.specs.List.{AllByRecursion}
use Rattle.std.specs.Prelude.{◌⊎◌}
use Rattle.sf_base.proofs.HeapSplits.{star-of}
use Rattle.sf_base.specs.declared.ids.FieldId.{FieldId}
use Rattle.sf_base.specs.declared.ids.Var.{Var}
use Rattle.sf_base.specs.declared.place.Place.{Place}
use Rattle.sf_base.specs.declared.value.Value.{Value}
use Rattle.sf_base.specs.HeapStore.{Cell, Heap}
use Rattle.sf_core.proofs.Assertions.Sat.{sat-all_agree}
use Rattle.sf_core.specs.Assertions.Occurs.{OccursInAll, OccursInFields}
use Rattle.sf_core.specs.Assertions.Sat.{HasFields, operand}
use Rattle.sf_core.specs.declared.assertion.Operand.{Operand}
use Rattle.sf_core.specs.declared.assertion.Operand.TheVariants.{Known, Exists}
use Rattle.sf_core.specs.Program.Syntax.{Conjuncts}
use Rattle.sf_produce.specs.Add.{Met, MetBoth, MetFields, MetFour, met, met_both, met_existential, met_fields, met_four}
use Rattle.sf_produce.specs.Checked.Laws.{assuming}
use Rattle.sf_sym.specs.Below.{AllPaired, AreBelow, IsBelow, SameBelow}
use Rattle.sf_sym.specs.Decided.{term_of}
use Rattle.sf_sym.specs.declared.term.Term.{Term}
use Rattle.sf_sym.specs.declared.term.Term.TheVariants.{Sym}
use Rattle.sf_sym.specs.Fields.{put_term}
use Rattle.sf_sym.specs.Formed.{AllFormed, AreFormed, IsCounted}
use Rattle.sf_sym.specs.Goal.{Item, Goal}
use Rattle.sf_sym.specs.Holds.{term_value, IsBound}
use Rattle.sf_sym.specs.HoldsIn.{HoldsIn}
use Rattle.sf_sym.specs.Checked.Laws.{Follows, HoldsStill}
use Rattle.sf_sym.specs.Checked.Lemmas.Below.{atoms-weaker, below-more, below-symbol, below-value, items-weaker, paired-weaker, pairs-weaker, put-all, state-weaker}
use Rattle.sf_sym.specs.Checked.Lemmas.Bindings.{operand-below, operand-is, set-all, set-here, set-keeps, set-length, set-which}
use Rattle.sf_sym.specs.Checked.Lemmas.CellFields.{put-known}
use Rattle.sf_sym.specs.Checked.Lemmas.FreshValues.{value-below, value-here, with_value}
use Rattle.sf_sym.specs.Checked.Lemmas.Keeping.{follows-trans, same-below, still-same}
use Rattle.sf_sym.specs.Checked.Lemmas.OtherValues.{Same, adds-other_values, atoms-other_values, pairs-other_values, vars-other_values}
use Rattle.sf_sym.specs.State.{State, with_symbols}

-- one goal follows another, and holds still wherever that one holds
pub record Leads (goal child : Goal) : Type 0 where
  pub follow : Follows goal child
  pub hold : (w : ℕ → Value) (e : Var → Option Value) (free taken : Heap) → HoldsIn w goal e free taken
      → HoldsStill w goal e free taken child

pub leads-same : (goal : Goal) → AreBelow goal → Leads goal goal
leads-same goal below = record {
  follow = record { below = below; symbols = omega arith; links = refl; formed = λ f. f };
  hold = λ w e free taken h. still-same w goal goal e free taken h;
}

pub leads-trans : (one two three : Goal) → Leads one two → Leads two three → Leads one three
leads-trans one two three f g = record {
  follow = follows-trans one two three f.follow g.follow;
  hold = λ w e free taken h.
      let a = f.hold w e free taken h in
      let b = g.hold a.values e free taken a.holds in
      record {
        values = b.values;
        same = same-below one.state.next_sym two.state.next_sym a.values w b.values f.follow.symbols a.same b.same;
        holds = b.holds;
      };
}

-- it is one of these four operands
abbrev pub OccursInFour : (x b l y z : Operand Term) → Type 0
OccursInFour x b l y z = (z ≡ x) ⊎ ((z ≡ b) ⊎ ((z ≡ l) ⊎ (z ≡ y)))

-- Goals with these conjuncts to assume at this place, before these other things to do
module _ (p : Place) (cs : Conjuncts Term) (rest : List Item) where
  abbrev pub with_bindings : State → List (Option Term) → Goal
  with_bindings s bindings = assuming s p (record { conjuncts = cs; bindings = bindings }) rest

  -- an existential without a term gets a fresh symbol
  module _ (s : State) (bindings : List (Option Term)) (n : ℕ) (below : AreBelow (with_bindings s bindings))
      (within : n < length bindings) (free : get_or bindings n None ≡ None) (occurs : OccursInAll cs (Exists n)) where
    abbrev fresh_bindings : List (Option Term)
    fresh_bindings = set bindings n (Some (Sym s.next_sym))

    abbrev fresh_goal : Goal
    fresh_goal = with_bindings (with_symbols 1 s) fresh_bindings

    later : (t : Term) → IsBelow s.next_sym t → IsBelow (s.next_sym + 1) t
    later t b = below-more s.next_sym (s.next_sym + 1) (omega arith) t b

    fresh-below : AreBelow fresh_goal
    fresh-below =
        let old = state-weaker (IsBelow s.next_sym) (IsBelow (s.next_sym + 1)) later s below.state in record {
          state = record { vars = old.vars; apart = old.apart; atoms = old.atoms; taken = old.taken };
          todo = (
            record {
              conjuncts = λ t o. later t (below.todo.0.conjuncts t o);
              bindings = set-all bindings n (Sym s.next_sym) (IsBelow (s.next_sym + 1)) within
                  (below-symbol (s.next_sym + 1) s.next_sym (omega arith))
                  (λ m t e. later t (below.todo.0.bindings m t e));
            },
            items-weaker (IsBelow s.next_sym) (IsBelow (s.next_sym + 1)) later rest below.todo.1,
          );
        }

    fresh-formed : AreFormed (with_bindings s bindings) → AreFormed fresh_goal
    fresh-formed f = (
      (
        subst (λ k. AllFormed s.links k cs) (sym (set-length bindings n (Sym s.next_sym))) f.0.0,
        record {
          distinct = f.0.1.distinct;
          occurring = f.0.1.occurring;
          bound = λ m t e. elim (set-which bindings n (Sym s.next_sym) within m t e) [
            | inl new ↦ f.0.1.occurring m (subst (λ k. OccursInAll cs (Exists k)) new.0 occurs)
            | inr old ↦ f.0.1.bound m t old
          ];
        },
        f.0.2,
      ),
      f.1,
    )

    fresh-holds : (w : ℕ → Value) (e : Var → Option Value) (free taken : Heap)
        → HoldsIn w (with_bindings s bindings) e free taken
        → HoldsStill w (with_bindings s bindings) e free taken fresh_goal
    fresh-holds w e free taken h =
        let (some, bound, sat) = h.there.second.first in
        let k = s.next_sym in
        let v = with_value k (some n) w in
        let same : SameBelow k v w = λ m i. value-below k (some n) w m i in
        let agree : (t : Term) → IsBelow k t → Same w v t = below-value k v w same in
        let values : (x : Operand Term) → OccursInAll cs x
        → operand (term_value w) some x ≡ operand (term_value v) some x = operands-agree w v some agree in
        record {
          values = v;
          same = same;
          holds = record {
            vars = vars-other_values w v e s.vars
                (paired-weaker (IsBelow k) (Same w v) agree s.vars below.state.vars) h.vars;
            apart = pairs-other_values w v s.apart
                (pairs-weaker (IsBelow k) (Same w v) agree s.apart below.state.apart) h.apart;
            disjoint = h.disjoint;
            there = star-of h.there.splits
                (atoms-other_values w v s.links s.atoms h.there.left
                (atoms-weaker (IsBelow k) (Same w v) agree s.atoms below.state.atoms) h.there.first)
                (star-of h.there.second.splits (
                  some,
                  (λ m t i. elim (set-which bindings n (Sym k) within m t i) [
                    | inl new ↦ ap some (sym new.0) ∙ sym (value-here k (some n) w) ∙ ap (term_value v) new.1
                    | inr old ↦ bound m t old ∙ agree t (below.todo.0.bindings m t old)
                  ]),
                  sat-all_agree cs (term_value w) (term_value v) some some h.there.second.left values sat,
                )
                (adds-other_values w v rest h.there.second.right
                (items-weaker (IsBelow k) (Same w v) agree rest below.todo.1) h.there.second.second));
            gone = atoms-other_values w v s.links s.taken taken
                (atoms-weaker (IsBelow k) (Same w v) agree s.taken below.state.taken) h.gone;
          };
        }
      where
        operands-agree : (w v some : ℕ → Value) → ((t : Term) → IsBelow s.next_sym t → Same w v t)
            → (x : Operand Term) → OccursInAll cs x
            → operand (term_value w) some x ≡ operand (term_value v) some x
        operands-agree w v some agree (Known t) o = agree t (below.todo.0.conjuncts t o)
        operands-agree w v some agree (Exists m) o = refl

    fresh-leads : Leads (with_bindings s bindings) fresh_goal
    fresh-leads = record {
      follow = record { below = fresh-below; symbols = omega arith; links = refl; formed = fresh-formed };
      hold = fresh-holds;
    }

  -- bindings become others, by which those that were bound stand for the same term
  pub record Grows (s : State) (bindings : List (Option Term)) (after : State) (now : List (Option Term))
      : Type 0 where
    pub leads : Leads (with_bindings s bindings) (with_bindings after now)
    pub keeps : (n : ℕ) (t : Term) → get_or bindings n None ≡ Some t → get_or now n None ≡ Some t
    pub count : length now ≡ length bindings

  grows-same : (s : State) (bindings : List (Option Term)) → AreBelow (with_bindings s bindings)
      → Grows s bindings s bindings
  grows-same s bindings below = record {
    leads = leads-same (with_bindings s bindings) below;
    keeps = λ n t e. e;
    count = refl;
  }

  grows-trans : (s t u : State) (one two three : List (Option Term)) → Grows s one t two → Grows t two u three
      → Grows s one u three
  grows-trans s t u one two three f g = record {
    leads = leads-trans (with_bindings s one) (with_bindings t two) (with_bindings u three) f.leads g.leads;
    keeps = λ n x e. g.keeps n x (f.keeps n x e);
    count = g.count ∙ f.count;
  }

  -- an operand that has a term keeps it
  pub term-keeps : (s after : State) (bindings now : List (Option Term)) → Grows s bindings after now
      → (x : Operand Term) (t : Term) → term_of bindings x ≡ Some t → term_of now x ≡ Some t
  term-keeps s after bindings now grows (Known u) t e = e
  term-keeps s after bindings now grows (Exists n) t e = grows.keeps n t e

  -- an operand that is met has its term
  pub record Meets (s : State) (bindings : List (Option Term)) (x : Operand Term) (m : Met) : Type 0 where
    pub grows : Grows s bindings m.state m.bindings
    pub is : term_of m.bindings x ≡ Some m.term

  pub met-one : (s : State) (bindings : List (Option Term)) (x : Operand Term)
      → AreBelow (with_bindings s bindings) → IsCounted (length bindings) x → OccursInAll cs x
      → Meets s bindings x (met s bindings x)
  met-one s bindings (Known t) below counted occurs =
      record { grows = grows-same s bindings below; is = refl }
  met-one s bindings (Exists n) below counted occurs = go (get_or bindings n None) refl
    where
      go : (o : Option Term) → get_or bindings n None ≡ o
          → Meets s bindings (Exists n) (met_existential s bindings n o)
      go (Some t) e = record { grows = grows-same s bindings below; is = e }
      go None e = record {
        grows = record {
          leads = fresh-leads s bindings n below counted e occurs;
          keeps = set-keeps bindings n (Sym s.next_sym) e;
          count = set-length bindings n (Sym s.next_sym);
        };
        is = set-here bindings n (Sym s.next_sym) counted;
      }

  -- as many are counted
  counted-still : (s after : State) (bindings now : List (Option Term)) → Grows s bindings after now
      → (x : Operand Term) → IsCounted (length bindings) x → IsCounted (length now) x
  counted-still s after bindings now grows x c = subst (λ k. IsCounted k x) (sym grows.count) c

  -- two operands that are met have their terms
  pub record MeetsBoth (s : State) (bindings : List (Option Term)) (x y : Operand Term) (m : MetBoth) : Type 0 where
    pub grows : Grows s bindings m.state m.bindings
    pub one : term_of m.bindings x ≡ Some m.one
    pub two : term_of m.bindings y ≡ Some m.two

  pub met-two : (s : State) (bindings : List (Option Term)) (x y : Operand Term)
      → AreBelow (with_bindings s bindings) → IsCounted (length bindings) x → IsCounted (length bindings) y
      → OccursInAll cs x → OccursInAll cs y → MeetsBoth s bindings x y (met_both s bindings x y)
  met-two s bindings x y below c d o q =
      let m = met s bindings x in
      let one = met-one s bindings x below c o in
      let two = met-one m.state m.bindings y one.grows.leads.follow.below
      (counted-still s m.state bindings m.bindings one.grows y d) q in
      let n = met m.state m.bindings y in
      record {
        grows = grows-trans s m.state n.state bindings m.bindings n.bindings one.grows two.grows;
        one = term-keeps m.state n.state m.bindings n.bindings two.grows x m.term one.is;
        two = two.is;
      }

  -- four operands that are met have their terms
  pub record MeetsFour (s : State) (bindings : List (Option Term)) (x b l y : Operand Term) (m : MetFour)
      : Type 0 where
    pub grows : Grows s bindings m.state m.bindings
    pub from : term_of m.bindings x ≡ Some m.from
    pub before : term_of m.bindings b ≡ Some m.before
    pub last : term_of m.bindings l ≡ Some m.last
    pub to : term_of m.bindings y ≡ Some m.to

  pub met-four : (s : State) (bindings : List (Option Term)) (x b l y : Operand Term)
      → AreBelow (with_bindings s bindings) → IsCounted (length bindings) x → IsCounted (length bindings) b
      → IsCounted (length bindings) l → IsCounted (length bindings) y
      → ((z : Operand Term) → OccursInFour x b l y z → OccursInAll cs z)
      → MeetsFour s bindings x b l y (met_four s bindings x b l y)
  met-four s bindings x b l y below c d e f occurs =
      let m = met_both s bindings x b in
      let one = met-two s bindings x b below c d (occurs x (inl refl)) (occurs b (inr (inl refl))) in
      let two = met-two m.state m.bindings l y one.grows.leads.follow.below
      (counted-still s m.state bindings m.bindings one.grows l e)
      (counted-still s m.state bindings m.bindings one.grows y f) (occurs l (inr (inr (inl refl))))
      (occurs y (inr (inr (inr refl)))) in
      let n = met_both m.state m.bindings l y in
      record {
        grows = grows-trans s m.state n.state bindings m.bindings n.bindings one.grows two.grows;
        from = term-keeps m.state n.state m.bindings n.bindings two.grows x m.one one.one;
        before = term-keeps m.state n.state m.bindings n.bindings two.grows b m.two one.two;
        last = two.one;
        to = two.two;
      }

  -- fields that are met: a cell with the values of the operands has those of their terms
  pub record MeetsFields (s : State) (bindings : List (Option Term)) (fs : List (FieldId × Operand Term))
      (made : List (FieldId × Term)) (m : MetFields) : Type 0 where
    pub grows : Grows s bindings m.state m.bindings
    pub below : AllPaired (IsBelow s.next_sym) made → AllPaired (IsBelow m.state.next_sym) m.fields
    pub has : (v some : ℕ → Value) (here : Cell) → IsBound v m.bindings some → HasFields (term_value v) made here
        → HasFields (operand (term_value v) some) fs here → HasFields (term_value v) m.fields here

  pub met-fields : (s : State) (bindings : List (Option Term)) (fs : List (FieldId × Operand Term))
      (made : List (FieldId × Term))
      → AreBelow (with_bindings s bindings)
      → AllByRecursion (λ (f : FieldId × Operand Term). IsCounted (length bindings) f.1) fs
      → ((x : Operand Term) → OccursInFields fs x → OccursInAll cs x)
      → MeetsFields s bindings fs made (met_fields s bindings fs made)
  met-fields s bindings [] made below counted occurs = record {
    grows = grows-same s bindings below;
    below = λ b. b;
    has = λ v some here bound made has. made;
  }
  met-fields s bindings (f ∷ fs) made below counted occurs =
      let m = met s bindings f.1 in
      let one = met-one s bindings f.1 below counted.0 (occurs f.1 (inl refl)) in
      let others = met-fields m.state m.bindings fs (put_term f.0 m.term made) one.grows.leads.follow.below
      (subst (λ k. AllByRecursion (λ (g : FieldId × Operand Term). IsCounted k g.1) fs) (sym one.grows.count)
      counted.1)
      (λ x o. occurs x (inr o)) in
      let after = met_fields m.state m.bindings fs (put_term f.0 m.term made) in
      record {
        grows = grows-trans s m.state after.state bindings m.bindings after.bindings one.grows others.grows;
        below = λ b. others.below (put-all (IsBelow m.state.next_sym) f.0 m.term made
            (operand-below m.state.next_sym m.bindings cs f.1 m.term one.grows.leads.follow.below.todo.0
            (occurs f.1 (inl refl)) one.is)
            (paired-weaker (IsBelow s.next_sym) (IsBelow m.state.next_sym)
            (below-more s.next_sym m.state.next_sym one.grows.leads.follow.symbols) made b));
        has = λ v some here bound known has. others.has v some here bound
            (put-known (term_value v) f.0 m.term made here
            (has.0 ∙ operand-is v some after.bindings f.1 m.term bound
            (term-keeps m.state after.state m.bindings after.bindings others.grows f.1 m.term one.is)) known)
            has.1;
      }
