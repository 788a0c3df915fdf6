-- Back: a doubly linked segment whose ends differ ends with a cell, and a fresh symbol has the value by which that
-- leads back.
-- Names: `last_child` is the goal that is left, `last-LAW` speaks of it.
use Rattle.std.specs.Option.{option_map}
use Rattle.std.proofs.Common.{◌≡◌, ℕ, ◌+◌, Bool, true, false, cond, List, [], ◌∷◌, Option, Some, None, refl, sym, ◌∙◌, subst₂, arith}
use Rattle.std.proofs.lemmas.Option.{option_and_then_some}
use Rattle.sf_base.proofs.HeapSplits.{star-assoc_right, star-map_right, star-of}
use Rattle.sf_base.proofs.MapSplits.{splits-comm}
use Rattle.sf_base.specs.declared.ids.FieldId.{FieldId}
use Rattle.sf_base.specs.declared.ids.Var.{Var}
use Rattle.sf_base.specs.declared.value.Value.{Value}
use Rattle.sf_base.specs.declared.value.Value.TheVariants.{Loc as loc}
use Rattle.sf_base.specs.HeapStore.{Heap}
use Rattle.sf_core.proofs.Assertions.DoubleSegments.{dseg-last}
use Rattle.sf_core.specs.Assertions.Sat.{Dseg}
use Rattle.sf_normal.proofs.Unrolling.{state_without, still-holds}
use Rattle.sf_normal.specs.Checked.Laws.{BackKeepsGoals}
use Rattle.sf_normal.specs.Knowledge.{back_one, unrolled_last}
use Rattle.sf_sym.specs.Checked.Lemmas.AtomLists.{at-all, atoms-one_more, atoms-out}
use Rattle.sf_sym.specs.Checked.Lemmas.Below.{below-symbol, below-value, put-all}
use Rattle.sf_sym.specs.Checked.Lemmas.CellFields.{put-known}
use Rattle.sf_sym.specs.Checked.Lemmas.Decided.{differ-in}
use Rattle.sf_sym.specs.Checked.Lemmas.FreshGoals.{later, later-apart, later-others, later-taken, later-todo, later-vars, more-below, others-stay}
use Rattle.sf_sym.specs.Checked.Lemmas.FreshValues.{value-below, value-here, with_value}
use Rattle.sf_sym.specs.Checked.Lemmas.Keeping.{before-still, kept-one}
use Rattle.sf_sym.specs.Below.{AllInAtom, AreBelow, IsBelow, SameBelow}
use Rattle.sf_sym.specs.Cells.{atom_at, with_atom, with_cell, without}
use Rattle.sf_sym.specs.declared.atom.Atom.{Atom}
use Rattle.sf_sym.specs.declared.atom.Atom.TheVariants.{Points, Ls, Tree, Dll}
use Rattle.sf_sym.specs.declared.term.Term.{Term}
use Rattle.sf_sym.specs.declared.term.Term.TheVariants.{Sym}
use Rattle.sf_sym.specs.Fields.{put_term}
use Rattle.sf_sym.specs.Goal.{Goal, at_state}
use Rattle.sf_sym.specs.Holds.{term_value, DsegAlong, AtomHolds}
use Rattle.sf_sym.specs.HoldsIn.{HoldsIn}
use Rattle.sf_sym.specs.Checked.Laws.{Follows, HoldsAsBefore, HoldsStill, KeptWith}
use Rattle.sf_sym.specs.State.{with_symbols}
use Rattle.sf_sym.specs.Tests.{differs}

abbrev last_child : Goal → ℕ → (t p l u : Term) → (next back : FieldId) → Goal
last_child goal a t p l u next back =
    let before = Sym goal.state.next_sym in
    at_state goal
    (with_cell (with_atom (Dll t p before l) (with_symbols 1 (state_without goal a))) l
    (put_term next u (put_term back before [])))

last-follows : (goal : Goal) (a : ℕ) (t p l u : Term) (next back : FieldId) → AreBelow goal
    → AllInAtom (IsBelow goal.state.next_sym) (Dll t p l u)
    → Follows goal (last_child goal a t p l u next back)
last-follows goal a t p l u next back below b =
    let n = goal.state.next_sym in
    let fresh = below-symbol (n + 1) n (omega arith) in
    let last = later goal below 1 l b.2 in
    record {
      below = record {
        state = record {
          vars = later-vars goal below 1;
          apart = later-apart goal below 1 l last;
          atoms = more-below (n + 1) _ _
              (more-below (n + 1) (without goal.state.atoms a) _ (later-others goal below 1 a)
              (later goal below 1 t b.0, later goal below 1 p b.1, fresh, last)) (
                last,
                put-all (IsBelow (n + 1)) next u (put_term back (Sym n) []) (later goal below 1 u b.3)
                    (put-all (IsBelow (n + 1)) back (Sym n) [] fresh tt),
              );
          taken = later-taken goal below 1;
        };
        todo = later-todo goal below 1;
      };
      symbols = omega arith;
      links = refl;
      formed = λ f. f;
    }

last-holds : (goal : Goal) (a : ℕ) (t p l u : Term) (next back : FieldId) → AreBelow goal
    → AllInAtom (IsBelow goal.state.next_sym) (Dll t p l u)
    → atom_at goal.state.atoms a ≡ Some (Dll t p l u) → goal.state.links.tl ≡ Some next
    → goal.state.links.pv ≡ Some back
    → differs goal.state t u ≡ true
    → (w : ℕ → Value) (e : Var → Option Value) (free taken : Heap) → HoldsIn w goal e free taken
    → HoldsStill w goal e free taken (last_child goal a t p l u next back)
last-holds goal a t p l u next back below b at tl pv d w e free taken h =
    let n = goal.state.next_sym in
    let links = goal.state.links in
    let o = atoms-out w links goal.state.atoms a (Dll t p l u) h.there.left at h.there.first in
    let along : Dseg next back (term_value w l) (term_value w u) (term_value w p) (term_value w t) o.left =
    subst₂ (λ y z. DsegAlong y z (term_value w t) (term_value w p) (term_value w l) (term_value w u) o.left) tl pv
    o.first in
    let last = dseg-last (differ-in w goal e free taken h t u d) along in
    let x = last.here back.0 in
    let v = with_value n x w in
    let same : SameBelow n v w = λ m i. value-below n x w m i in
    let before : v n ≡ x = value-here n x w in
    let now = λ (k : Term) (i : IsBelow n k). below-value n v w same k i in
    let root : term_value v l ≡ loc last.location = sym (now l b.2) ∙ last.is in
    let fields = put-known (term_value v) next u (put_term back (Sym n) []) last.here (last.next_to ∙ now u b.3)
    (put-known (term_value v) back (Sym n) [] last.here (sym before) tt) in
    let cell : AtomHolds v links (Points l (put_term next u (put_term back (Sym n) []))) last.one =
    (last.location, last.here, root, last.cell, fields) in
    let front : AtomHolds v links (Dll t p (Sym n) l) last.rest =
    subst₂ (λ y z. DsegAlong y z (term_value v t) (term_value v p) (v n) (term_value v l) last.rest) (sym tl) (sym pv)
    (subst₂ (λ y z. Dseg next back y z (term_value v p) (term_value v t) last.rest) (sym before) (now l b.2)
    (subst₂ (λ y z. Dseg next back x (term_value w l) y z last.rest) (now p b.1) (now t b.0) last.front)) in
    still-holds goal l below w v same e free taken h last.location root _ _ _
    (atoms-one_more v links _ _ h.there.left
    (star-map_right (λ part s. atoms-one_more v links (without goal.state.atoms a) _ part s)
    (star-assoc_right (star-of o.splits (star-of (splits-comm last.splits) cell front)
    (others-stay w v goal below same e free taken h a o.right o.second)))))

last_kept : (goal : Goal) (a : ℕ) (t p l u : Term) (left : List Goal) → AreBelow goal
    → atom_at goal.state.atoms a ≡ Some (Dll t p l u)
    → (d : Bool) → differs goal.state t u ≡ d
    → (next back : Option FieldId) → goal.state.links.tl ≡ next → goal.state.links.pv ≡ back
    →
    cond d (option_map (λ s. at_state goal s ∷ []) (unrolled_last next back t p l u (state_without goal a))) None
    ≡ Some left
    → KeptWith goal left HoldsAsBefore
last_kept goal a t p l u left below at false d next back tl pv e = absurd (cc)
last_kept goal a t p l u left below at true d None back tl pv e = absurd (cc)
last_kept goal a t p l u left below at true d (Some next) None tl pv e = absurd (cc)
last_kept goal a t p l u left below at true d (Some next) (Some back) tl pv e =
    let b = at-all (AllInAtom (IsBelow goal.state.next_sym)) goal.state.atoms a (Dll t p l u) at below.state.atoms in
    let child = last_child goal a t p l u next back in
    kept-one HoldsAsBefore goal child left e (last-follows goal a t p l u next back below b)
    (λ w e free taken h. before-still w goal child.state e free taken
    (last-holds goal a t p l u next back below b at tl pv d w e free taken h))

pub back_keeps_goals : BackKeepsGoals
unfolding BackKeepsGoals
back_keeps_goals a goal left shape row =
    option_and_then_some (back_one goal a) (atom_at goal.state.atoms a) left row go
  where
    go : (x : Atom) → atom_at goal.state.atoms a ≡ Some x → back_one goal a x ≡ Some left → KeptWith goal left HoldsAsBefore
    go (Points t fields) at e = absurd (cc)
    go (Ls t u) at e = absurd (cc)
    go (Tree t) at e = absurd (cc)
    go (Dll t p l u) at e =
        last_kept goal a t p l u left shape.below at (differs goal.state t u) refl goal.state.links.tl
        goal.state.links.pv refl refl e
