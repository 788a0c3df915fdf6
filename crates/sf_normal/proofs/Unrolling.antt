-- Unroll: a segment or tree whose ends differ begins with a cell, and fresh symbols have the values of its links.
-- Names: `kind_child` is the goal that is left for a segment (`double` a doubly linked one) or a tree, `KIND-LAW` speaks
-- of it.
use Rattle.std.specs.Option.{option_map}
use Rattle.std.proofs.Common.{◌≡◌, ℕ, ◌+◌, Bool, true, false, cond, List, [], ◌∷◌, ◌++◌, Option, Some, None, refl, sym, ◌∙◌, subst, subst₂, arith}
use Rattle.std.proofs.lemmas.Option.{option_and_then_some}
use Rattle.sf_base.proofs.HeapSplits.{star-assoc_right, star-comm, star-map_left, star-map_right, star-of}
use Rattle.sf_base.proofs.MapSplits.{splits-comm}
use Rattle.sf_base.specs.declared.ids.FieldId.{FieldId}
use Rattle.sf_base.specs.declared.ids.Var.{Var}
use Rattle.sf_base.specs.declared.value.Value.{Value}
use Rattle.sf_base.specs.declared.value.Value.TheVariants.{Loc as loc}
use Rattle.sf_base.specs.HeapStore.{Heap, ◌⋆◌}
use Rattle.sf_core.proofs.Assertions.DoubleSegments.{dseg-first}
use Rattle.sf_core.proofs.Assertions.Segments.{seg-head}
use Rattle.sf_core.proofs.Assertions.Trees.{tree-root}
use Rattle.sf_core.specs.Assertions.Sat.{Dseg}
use Rattle.sf_sym.specs.Checked.Lemmas.Keeping.{before-still, kept-one}
use Rattle.sf_normal.specs.Knowledge.{unroll_one, unrolled_double, unrolled_segment, unrolled_tree}
use Rattle.sf_normal.specs.Checked.Laws.{UnrollKeepsGoals}
use Rattle.sf_sym.specs.Checked.Lemmas.AtomLists.{at-all, atoms-one_more, atoms-out}
use Rattle.sf_sym.specs.Checked.Lemmas.Below.{below-symbol, below-value, put-all}
use Rattle.sf_sym.specs.Checked.Lemmas.CellFields.{put-known}
use Rattle.sf_sym.specs.Checked.Lemmas.FreshGoals.{adds-stay, apart-stays, later, later-apart, later-others, later-taken, later-todo, later-vars, more-below, others-stay, taken-stay, vars-stay}
use Rattle.sf_sym.specs.Checked.Lemmas.FreshValues.{value-below, value-here, value-same, with_value}
use Rattle.sf_sym.specs.Checked.Lemmas.Decided.{differ-in}
use Rattle.sf_sym.specs.Below.{AllInAtom, AreBelow, IsBelow, SameBelow}
use Rattle.sf_sym.specs.Cells.{apart_from_nil, atom_at, with_atom, with_cell, without}
use Rattle.sf_sym.specs.declared.atom.Atom.{Atom}
use Rattle.sf_sym.specs.declared.atom.Atom.TheVariants.{Points, Ls, Tree, Dll}
use Rattle.sf_sym.specs.declared.atom.Numbered.{Numbered}
use Rattle.sf_sym.specs.declared.term.Term.{Term}
use Rattle.sf_sym.specs.declared.term.Term.TheVariants.{Nil, Sym}
use Rattle.sf_sym.specs.Fields.{put_term}
use Rattle.sf_sym.specs.Goal.{Goal, at_state}
use Rattle.sf_sym.specs.Holds.{term_value, DsegAlong, SegAlong, TreeAlong, AtomHolds, AtomsHold}
use Rattle.sf_sym.specs.HoldsIn.{HoldsIn}
use Rattle.sf_sym.specs.Checked.Laws.{Follows, HoldsAsBefore, HoldsStill, KeptWith}
use Rattle.sf_sym.specs.State.{State, with_symbols}
use Rattle.sf_sym.specs.Tests.{differs}

-- the state without the atom
abbrev pub state_without : Goal → ℕ → State
state_without goal a = record goal.state { atoms = without goal.state.atoms a }

-- the goals that are left
abbrev segment_child : Goal → ℕ → (t u : Term) → FieldId → Goal
segment_child goal a t u next =
    let rest = Sym goal.state.next_sym in
    at_state goal
    (with_atom (Ls rest u) (with_cell (with_symbols 1 (state_without goal a)) t ((next, rest) ∷ [])))

abbrev double_child : Goal → ℕ → (t p l u : Term) → (next back : FieldId) → Goal
double_child goal a t p l u next back =
    let rest = Sym goal.state.next_sym in
    at_state goal
    (with_atom (Dll rest t l u)
    (with_cell (with_symbols 1 (state_without goal a)) t (put_term next rest (put_term back p []))))

abbrev tree_child : Goal → ℕ → Term → (left right : FieldId) → Goal
tree_child goal a t left right =
    let one = Sym goal.state.next_sym in
    let two = Sym (goal.state.next_sym + 1) in
    at_state goal
    (with_atom (Tree two) (with_atom (Tree one)
    (with_cell (with_symbols 2 (state_without goal a)) t (put_term left one (put_term right two [])))))

-- A goal at whose term there is a cell: it holds with other atoms and further symbols, and the term not nil
module _ (goal : Goal) (t : Term) (below : AreBelow goal) (w v : ℕ → Value) (same : SameBelow goal.state.next_sym v w)
    (e : Var → Option Value) (free taken : Heap) (h : HoldsIn w goal e free taken) where
  pub still-holds : (location : ℕ) → term_value v t ≡ loc location → (symbols number : ℕ) (atoms : List Numbered)
      → AtomsHold v goal.state.links atoms h.there.left
      → HoldsStill w goal e free taken (at_state goal (record goal.state {
        apart = goal.state.apart ++ apart_from_nil t;
        atoms = atoms;
        next_sym = symbols;
        next_atom = number;
      }))
  still-holds location root symbols number atoms hold = record {
    values = v;
    same = same;
    holds = record {
      vars = vars-stay w v goal below same e free taken h;
      apart = apart-stays w v goal below same e free taken h t location root;
      disjoint = h.disjoint;
      there = star-of h.there.splits hold (adds-stay w v goal below same e free taken h);
      gone = taken-stay w v goal below same e free taken h;
    };
  }

-- the goal that is left for a segment
segment-follows : (goal : Goal) (a : ℕ) (t u : Term) (next : FieldId) → AreBelow goal
    → IsBelow goal.state.next_sym t → IsBelow goal.state.next_sym u
    → Follows goal (segment_child goal a t u next)
segment-follows goal a t u next below b c =
    let n = goal.state.next_sym in
    let fresh = below-symbol (n + 1) n (omega arith) in
    record {
      below = record {
        state = record {
          vars = later-vars goal below 1;
          apart = later-apart goal below 1 t (later goal below 1 t b);
          atoms = more-below (n + 1) _ _
              (more-below (n + 1) (without goal.state.atoms a) _ (later-others goal below 1 a)
              (later goal below 1 t b, (fresh, tt)))
              (fresh, later goal below 1 u c);
          taken = later-taken goal below 1;
        };
        todo = later-todo goal below 1;
      };
      symbols = omega arith;
      links = refl;
      formed = λ f. f;
    }

segment-holds : (goal : Goal) (a : ℕ) (t u : Term) (next : FieldId) → AreBelow goal
    → IsBelow goal.state.next_sym t → IsBelow goal.state.next_sym u
    → atom_at goal.state.atoms a ≡ Some (Ls t u) → goal.state.links.tl ≡ Some next
    → differs goal.state t u ≡ true
    → (w : ℕ → Value) (e : Var → Option Value) (free taken : Heap) → HoldsIn w goal e free taken
    → HoldsStill w goal e free taken (segment_child goal a t u next)
segment-holds goal a t u next below b c at tl d w e free taken h =
    let n = goal.state.next_sym in
    let links = goal.state.links in
    let o = atoms-out w links goal.state.atoms a (Ls t u) h.there.left at h.there.first in
    let head = seg-head (differ-in w goal e free taken h t u d)
    (subst (λ z. SegAlong z (term_value w t) (term_value w u) o.left) tl o.first) in
    let x = head.here next.0 in
    let v = with_value n x w in
    let same : SameBelow n v w = λ m i. value-below n x w m i in
    let rest : v n ≡ x = value-here n x w in
    let root : term_value v t ≡ loc head.location = sym (below-value n v w same t b) ∙ head.is in
    let cell : AtomHolds v links (Points t ((next, Sym n) ∷ [])) head.one =
    (head.location, head.here, root, head.cell, (sym rest, tt)) in
    let behind : AtomHolds v links (Ls (Sym n) u) head.rest =
    subst (λ z. SegAlong z (v n) (term_value v u) head.rest) (sym tl)
    (subst (λ y. SegAlong (Some next) y (term_value v u) head.rest) (sym rest)
    (subst (λ y. SegAlong (Some next) x y head.rest) (below-value n v w same u c) head.behind)) in
    still-holds goal t below w v same e free taken h head.location root _ _ _
    (atoms-one_more v links _ _ h.there.left
    (star-map_right (λ part s. atoms-one_more v links (without goal.state.atoms a) _ part s)
    (star-assoc_right (star-of o.splits (star-of (splits-comm head.splits) behind cell)
    (others-stay w v goal below same e free taken h a o.right o.second)))))

segment_kept : (goal : Goal) (a : ℕ) (t u : Term) (left : List Goal) → AreBelow goal
    → atom_at goal.state.atoms a ≡ Some (Ls t u)
    → (d : Bool) → differs goal.state t u ≡ d → (o : Option FieldId) → goal.state.links.tl ≡ o
    →
    cond d (option_map (λ s. at_state goal s ∷ []) (unrolled_segment o t u (state_without goal a))) None
    ≡ Some left
    → KeptWith goal left HoldsAsBefore
segment_kept goal a t u left below at false d o tl e = absurd (cc)
segment_kept goal a t u left below at true d None tl e = absurd (cc)
segment_kept goal a t u left below at true d (Some next) tl e =
    let b = at-all (AllInAtom (IsBelow goal.state.next_sym)) goal.state.atoms a (Ls t u) at below.state.atoms in
    kept-one HoldsAsBefore goal (segment_child goal a t u next) left e (segment-follows goal a t u next below b.0 b.1)
    (λ w e free taken h. before-still w goal (segment_child goal a t u next).state e free taken
    (segment-holds goal a t u next below b.0 b.1 at tl d w e free taken h))

-- the goal that is left for a doubly linked segment
double-follows : (goal : Goal) (a : ℕ) (t p l u : Term) (next back : FieldId) → AreBelow goal
    → AllInAtom (IsBelow goal.state.next_sym) (Dll t p l u)
    → Follows goal (double_child goal a t p l u next back)
double-follows goal a t p l u next back below b =
    let n = goal.state.next_sym in
    let fresh = below-symbol (n + 1) n (omega arith) in
    let root = later goal below 1 t b.0 in
    record {
      below = record {
        state = record {
          vars = later-vars goal below 1;
          apart = later-apart goal below 1 t root;
          atoms = more-below (n + 1) _ _
              (more-below (n + 1) (without goal.state.atoms a) _ (later-others goal below 1 a) (
                root,
                put-all (IsBelow (n + 1)) next (Sym n) (put_term back p []) fresh
                    (put-all (IsBelow (n + 1)) back p [] (later goal below 1 p b.1) tt),
              ))
              (fresh, root, later goal below 1 l b.2, later goal below 1 u b.3);
          taken = later-taken goal below 1;
        };
        todo = later-todo goal below 1;
      };
      symbols = omega arith;
      links = refl;
      formed = λ f. f;
    }

double-holds : (goal : Goal) (a : ℕ) (t p l u : Term) (next back : FieldId) → AreBelow goal
    → AllInAtom (IsBelow goal.state.next_sym) (Dll t p l u)
    → atom_at goal.state.atoms a ≡ Some (Dll t p l u) → goal.state.links.tl ≡ Some next
    → goal.state.links.pv ≡ Some back
    → differs goal.state t u ≡ true
    → (w : ℕ → Value) (e : Var → Option Value) (free taken : Heap) → HoldsIn w goal e free taken
    → HoldsStill w goal e free taken (double_child goal a t p l u next back)
double-holds goal a t p l u next back below b at tl pv d w e free taken h =
    let n = goal.state.next_sym in
    let links = goal.state.links in
    let o = atoms-out w links goal.state.atoms a (Dll t p l u) h.there.left at h.there.first in
    let along : Dseg next back (term_value w l) (term_value w u) (term_value w p) (term_value w t) o.left =
    subst₂ (λ y z. DsegAlong y z (term_value w t) (term_value w p) (term_value w l) (term_value w u) o.left) tl pv
    o.first in
    let first = dseg-first (differ-in w goal e free taken h t u d) along in
    let x = first.here next.0 in
    let v = with_value n x w in
    let same : SameBelow n v w = λ m i. value-below n x w m i in
    let rest : v n ≡ x = value-here n x w in
    let now = λ (k : Term) (i : IsBelow n k). below-value n v w same k i in
    let root : term_value v t ≡ loc first.location = sym (now t b.0) ∙ first.is in
    let fields = put-known (term_value v) next (Sym n) (put_term back p []) first.here (sym rest)
    (put-known (term_value v) back p [] first.here (first.back_to ∙ now p b.1) tt) in
    let cell : AtomHolds v links (Points t (put_term next (Sym n) (put_term back p []))) first.one =
    (first.location, first.here, root, first.cell, fields) in
    let behind : AtomHolds v links (Dll (Sym n) t l u) first.rest =
    subst₂ (λ y z. DsegAlong y z (v n) (term_value v t) (term_value v l) (term_value v u) first.rest) (sym tl) (sym pv)
    (subst₂ (λ y z. Dseg next back y z (term_value v t) (v n) first.rest) (now l b.2) (now u b.3)
    (subst₂ (λ y z. Dseg next back (term_value w l) (term_value w u) y z first.rest) (now t b.0) (sym rest)
    first.behind)) in
    still-holds goal t below w v same e free taken h first.location root _ _ _
    (atoms-one_more v links _ _ h.there.left
    (star-map_right (λ part s. atoms-one_more v links (without goal.state.atoms a) _ part s)
    (star-assoc_right (star-of o.splits (star-of (splits-comm first.splits) behind cell)
    (others-stay w v goal below same e free taken h a o.right o.second)))))

double_kept : (goal : Goal) (a : ℕ) (t p l u : Term) (left : List Goal) → AreBelow goal
    → atom_at goal.state.atoms a ≡ Some (Dll t p l u)
    → (d : Bool) → differs goal.state t u ≡ d
    → (next back : Option FieldId) → goal.state.links.tl ≡ next → goal.state.links.pv ≡ back
    →
    cond d (option_map (λ s. at_state goal s ∷ []) (unrolled_double next back t p l u (state_without goal a))) None
    ≡ Some left
    → KeptWith goal left HoldsAsBefore
double_kept goal a t p l u left below at false d next back tl pv e = absurd (cc)
double_kept goal a t p l u left below at true d None back tl pv e = absurd (cc)
double_kept goal a t p l u left below at true d (Some next) None tl pv e = absurd (cc)
double_kept goal a t p l u left below at true d (Some next) (Some back) tl pv e =
    let b = at-all (AllInAtom (IsBelow goal.state.next_sym)) goal.state.atoms a (Dll t p l u) at below.state.atoms in
    let child = double_child goal a t p l u next back in
    kept-one HoldsAsBefore goal child left e (double-follows goal a t p l u next back below b)
    (λ w e free taken h. before-still w goal child.state e free taken
    (double-holds goal a t p l u next back below b at tl pv d w e free taken h))

-- the goal that is left for a tree
tree-follows : (goal : Goal) (a : ℕ) (t : Term) (left right : FieldId) → AreBelow goal
    → IsBelow goal.state.next_sym t → Follows goal (tree_child goal a t left right)
tree-follows goal a t left right below b =
    let n = goal.state.next_sym in
    let one = below-symbol (n + 2) n (omega arith) in
    let two = below-symbol (n + 2) (n + 1) (omega arith) in
    record {
      below = record {
        state = record {
          vars = later-vars goal below 2;
          apart = later-apart goal below 2 t (later goal below 2 t b);
          atoms = more-below (n + 2) _ _
              (more-below (n + 2) _ _
              (more-below (n + 2) (without goal.state.atoms a) _ (later-others goal below 2 a) (
                later goal below 2 t b,
                put-all (IsBelow (n + 2)) left (Sym n) (put_term right (Sym (n + 1)) []) one
                    (put-all (IsBelow (n + 2)) right (Sym (n + 1)) [] two tt),
              ))
              one)
              two;
          taken = later-taken goal below 2;
        };
        todo = later-todo goal below 2;
      };
      symbols = omega arith;
      links = refl;
      formed = λ f. f;
    }

tree-holds : (goal : Goal) (a : ℕ) (t : Term) (left right : FieldId) → AreBelow goal
    → IsBelow goal.state.next_sym t
    → atom_at goal.state.atoms a ≡ Some (Tree t) → goal.state.links.l ≡ Some left
    → goal.state.links.r ≡ Some right
    → differs goal.state t Nil ≡ true
    → (w : ℕ → Value) (e : Var → Option Value) (free taken : Heap) → HoldsIn w goal e free taken
    → HoldsStill w goal e free taken (tree_child goal a t left right)
tree-holds goal a t left right below b at l r d w e free taken h =
    let n = goal.state.next_sym in
    let links = goal.state.links in
    let o = atoms-out w links goal.state.atoms a (Tree t) h.there.left at h.there.first in
    let root = tree-root (differ-in w goal e free taken h t Nil d)
    (subst (λ z. TreeAlong (Some left) z (term_value w t) o.left) r
    (subst (λ z. TreeAlong z links.r (term_value w t) o.left) l o.first)) in
    let x = root.here left.0 in
    let y = root.here right.0 in
    let v = with_value (n + 1) y (with_value n x w) in
    let same : SameBelow n v w = value-same n 1 y (with_value n x w) w (λ m i. value-below n x w m i) in
    let one : v n ≡ x = value-below (n + 1) y (with_value n x w) n (omega arith) ∙ value-here n x w in
    let two : v (n + 1) ≡ y = value-here (n + 1) y (with_value n x w) in
    let is : term_value v t ≡ loc root.location = sym (below-value n v w same t b) ∙ root.is in
    let fields = put-known (term_value v) left (Sym n) (put_term right (Sym (n + 1)) []) root.here (sym one)
    (put-known (term_value v) right (Sym (n + 1)) [] root.here (sym two) tt) in
    let cell : AtomHolds v links (Points t (put_term left (Sym n) (put_term right (Sym (n + 1)) []))) root.one =
    (root.location, root.here, is, root.cell, fields) in
    let along = λ (z : Value) (part : Heap) (s : TreeAlong (Some left) (Some right) z part).
    subst (λ k. TreeAlong k links.r z part) (sym l)
    (subst (λ k. TreeAlong (Some left) k z part) (sym r) s) in
    let first : AtomHolds v links (Tree (Sym n)) root.first =
    subst (λ z. TreeAlong links.l links.r z root.first) (sym one) (along x root.first root.first_tree) in
    let second : AtomHolds v links (Tree (Sym (n + 1))) root.second =
    subst (λ z. TreeAlong links.l links.r z root.second) (sym two) (along y root.second root.second_tree) in
    let cells = put_term left (Sym n) (put_term right (Sym (n + 1)) []) in
    let three : (AtomHolds v links (Tree (Sym (n + 1)))
    ⋆ (AtomHolds v links (Tree (Sym n)) ⋆ AtomHolds v links (Points t cells))) o.left =
    star-assoc_right (star-map_left (λ part s. star-comm s)
    (star-comm (star-of root.splits cell (star-of root.apart first second)))) in
    still-holds goal t below w v same e free taken h root.location is _ _ _
    (atoms-one_more v links _ _ h.there.left
    (star-map_right (λ part s. atoms-one_more v links _ _ part
    (star-map_right (λ inner r. atoms-one_more v links (without goal.state.atoms a) _ inner r)
    (star-assoc_right s)))
    (star-assoc_right (star-of o.splits three
    (others-stay w v goal below same e free taken h a o.right o.second)))))

tree_kept : (goal : Goal) (a : ℕ) (t : Term) (left : List Goal) → AreBelow goal
    → atom_at goal.state.atoms a ≡ Some (Tree t)
    → (d : Bool) → differs goal.state t Nil ≡ d
    → (l r : Option FieldId) → goal.state.links.l ≡ l → goal.state.links.r ≡ r
    →
    cond d (option_map (λ s. at_state goal s ∷ []) (unrolled_tree l r t (state_without goal a))) None
    ≡ Some left
    → KeptWith goal left HoldsAsBefore
tree_kept goal a t left below at false d l r is_l is_r e = absurd (cc)
tree_kept goal a t left below at true d None r is_l is_r e = absurd (cc)
tree_kept goal a t left below at true d (Some l) None is_l is_r e = absurd (cc)
tree_kept goal a t left below at true d (Some l) (Some r) is_l is_r e =
    let b = at-all (AllInAtom (IsBelow goal.state.next_sym)) goal.state.atoms a (Tree t) at below.state.atoms in
    kept-one HoldsAsBefore goal (tree_child goal a t l r) left e (tree-follows goal a t l r below b)
    (λ w e free taken h. before-still w goal (tree_child goal a t l r).state e free taken
    (tree-holds goal a t l r below b at is_l is_r d w e free taken h))

pub unroll_keeps_goals : UnrollKeepsGoals
unfolding UnrollKeepsGoals
unroll_keeps_goals a goal left shape row =
    option_and_then_some (unroll_one goal a) (atom_at goal.state.atoms a) left row go
  where
    go : (x : Atom) → atom_at goal.state.atoms a ≡ Some x → unroll_one goal a x ≡ Some left → KeptWith goal left HoldsAsBefore
    go (Points t fields) at e = absurd (cc)
    go (Ls t u) at e =
        segment_kept goal a t u left shape.below at (differs goal.state t u) refl goal.state.links.tl refl e
    go (Tree t) at e =
        tree_kept goal a t left shape.below at (differs goal.state t Nil) refl goal.state.links.l
        goal.state.links.r refl refl e
    go (Dll t p l u) at e =
        double_kept goal a t p l u left shape.below at (differs goal.state t u) refl goal.state.links.tl
        goal.state.links.pv refl refl e
