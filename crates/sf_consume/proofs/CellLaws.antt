-- Cell, head, node: what is wanted is a cell, or a segment or a tree that begins with one; a doubly linked segment that
-- does is in SegmentLaws.
-- Names: `ROW_keeps_wants` is the law of that row, `ROW-one` of its conjunct.
use Rattle.std.specs.Option.{option_and_then, option_map}
use Rattle.std.proofs.Common.{◌≡◌, ◌≢◌, ℕ, ◌≤◌, Bool, true, false, cond, List, Option, Some, None, refl, sym, ◌∙◌, subst, subst₂, inl, inr, arith}
use Rattle.std.proofs.lemmas.Option.{option_and_then_some, same_Some}
use Rattle.sf_base.proofs.HeapSplits.{star-assoc_left, star-map_left, star-map_right, star-of}
use Rattle.sf_base.proofs.MapSplits.{union}
use Rattle.sf_base.specs.declared.ids.FieldId.{FieldId}
use Rattle.sf_base.specs.declared.ids.Var.{Var}
use Rattle.sf_base.specs.declared.place.Place.{Place}
use Rattle.sf_base.specs.declared.value.Value.{Value}
use Rattle.sf_base.specs.declared.value.Value.TheVariants.{Loc as loc}
use Rattle.sf_base.specs.HeapStore.{Cell, Heap, IsOne, Splits, ◌⋆◌}
use Rattle.sf_core.specs.Assertions.Sat.{HasFields, Seg, cell, Tree as IsTree, node}
use Rattle.sf_core.specs.declared.assertion.Operand.{Operand}
use Rattle.sf_core.specs.Program.Syntax.{Conjunct, points, segment, tree, Conjuncts, also}
use Rattle.sf_consume.proofs.Fitting.{FitBelow, fit-all, link-is}
use Rattle.sf_consume.proofs.Handing.{by_first, by_list, state-below, state-handed, state-joins, state-out, wanting_first, wants-other}
use Rattle.sf_consume.proofs.WantedFirst.{cell-is, tree-is}
use Rattle.sf_consume.specs.declared.wanted.WantedList.{WantedList}
use Rattle.sf_consume.specs.declared.wanted.WantedTree.{WantedTree}
use Rattle.sf_consume.specs.Checked.Laws.{alone, Subtracts, KeepsWants, CellKeepsWants, NodeKeepsWants}
use Rattle.sf_consume.specs.Subtract.{Fit, Want, cell_step, first_fit, fit_fields, fitting, handed_cell, head_there, link, list_from, list_head_step, node_step, node_there, removed, tree_from, wanted_cell, wanted_tree}
use Rattle.sf_consume.specs.Wants.{IsFormed, Wants}
use Rattle.sf_sym.specs.Checked.Lemmas.Bindings.{operand-below, operand-is}
use Rattle.sf_sym.specs.Formed.{AllFormed}
use Rattle.sf_sym.specs.Checked.Lemmas.Decided.{differ-in}
use Rattle.sf_sym.specs.Checked.Lemmas.AtomLists.{at-all, at-cell}
use Rattle.sf_sym.specs.Checked.Lemmas.Below.{below-more, below-value}
use Rattle.sf_sym.specs.Below.{AllInAtom, AllPaired, IsBelow, SameBelow}
use Rattle.sf_sym.specs.Cells.{cell_at}
use Rattle.sf_sym.specs.Decided.{term_of}
use Rattle.sf_sym.specs.declared.atom.Atom.TheVariants.{Points}
use Rattle.sf_sym.specs.declared.term.Term.{Term}
use Rattle.sf_sym.specs.Holds.{term_value, IsBound}
use Rattle.sf_sym.specs.HoldsIn.{HoldsIn}
use Rattle.sf_sym.specs.State.{State}
use Rattle.sf_sym.specs.Tests.{differs}

-- A cell that is handed over with more of its fields known
-- values of the symbols with which it has them, and what it takes off what is wanted
pub record Taken (w : ℕ → Value) (s : State) (here : Cell) (part : Heap) (fields : List (FieldId × Term))
    (goal after : Want) : Type 0 where
  pub values : ℕ → Value
  pub same : SameBelow s.next_sym values w
  pub has : HasFields (term_value values) fields here
  pub wants : (some : ℕ → Value) (more whole : Heap) → Splits whole part more → Wants values some after more
      → Wants values some goal whole

module _ (a : ℕ) (s : State) (bindings : List (Option Term)) (c : Conjunct Term) (cs : Conjuncts Term) (t : Term)
    (fields : List (FieldId × Term)) (formed : IsFormed (wanting_first s bindings c cs))
    (found : cell_at s.atoms a t ≡ Some fields) where
  -- its terms are below the next symbol
  pub cell-below : IsBelow s.next_sym t × AllPaired (IsBelow s.next_sym) fields
  cell-below = at-all (AllInAtom (IsBelow s.next_sym)) s.atoms a (Points t fields) (at-cell s.atoms a t fields found)
      formed.state.atoms

  -- nothing of its fields is compared yet
  first-below : FitBelow (first_fit s fields bindings)
  first-below = record { fields = cell-below.1; bindings = formed.terms.bindings }

  pub cell-handed : (f : Fit) (now : List (Option Term)) (left : Conjuncts Term) → s.next_sym ≤ f.next_sym
      → AllPaired (IsBelow f.next_sym) f.fields
      → IsFormed (removed (handed_cell s t a f) now left)
      →
      ((w : ℕ → Value) (e : Var → Option Value) (free taken : Heap) → HoldsIn w (alone s) e free taken
      → (location : ℕ) (here : Cell) (part : Heap) → term_value w t ≡ loc location → IsOne location here part
      → HasFields (term_value w) fields here
      → Taken w s here part f.fields (wanting_first s bindings c cs) (removed (handed_cell s t a f) now left))
      → Subtracts (wanting_first s bindings c cs) (removed (handed_cell s t a f) now left)
  cell-handed f now left more below left_formed gives = record {
    formed = left_formed;
    symbols = more;
    links = refl;
    hands = λ w e free taken h.
        let o = state-out w s e free taken a (Points t fields) (at-cell s.atoms a t fields found) h in
        let (location, here, is, one, has) = o.atom in
        let d = gives w e free taken h location here o.part is one has in
        record {
          part = o.part;
          rest = o.rest;
          gone = union o.part taken;
          splits = o.splits;
          joins = state-joins w s e free taken a (Points t fields) o;
          values = d.values;
          same = d.same;
          holds = state-handed w d.values s e free taken a f.next_sym (Points t fields) (Points t f.fields)
              formed.state d.same o
              (location, here, sym (below-value s.next_sym d.values w d.same t cell-below.0) ∙ is, one, d.has);
          wants = λ some rest whole splits want.
              wants-other w d.values some (wanting_first s bindings c cs) whole formed d.same
              (d.wants some rest whole splits want);
        };
  }

-- Cell
cell-one : (a : ℕ) (s : State) (bindings : List (Option Term)) (q : Place) (x : Operand Term)
    (ws : List (FieldId × Operand Term)) (cs : Conjuncts Term) (t : Term) (fields : List (FieldId × Term)) (f : Fit)
    → IsFormed (wanting_first s bindings (points q x ws) cs) → term_of bindings x ≡ Some t
    → cell_at s.atoms a t ≡ Some fields → fit_fields (first_fit s fields bindings) ws ≡ Some f
    → Subtracts (wanting_first s bindings (points q x ws) cs) (removed (handed_cell s t a f) f.bindings cs)
cell-one a s bindings q x ws cs t fields f formed root found fit =
    let c : Conjunct Term = points q x ws in
    let below = cell-below a s bindings c cs t fields formed found in
    let fits = fit-all (first_fit s fields bindings) f ws (first-below a s bindings c cs t fields formed found)
    formed.conjuncts.0.1 fit in
    cell-handed a s bindings c cs t fields formed found f f.bindings cs fits.grows.symbols fits.grows.below.fields
    (record {
      state = state-below f.next_sym a s (Points t f.fields) fits.grows.symbols formed.state
          (below-more s.next_sym f.next_sym fits.grows.symbols t below.0, fits.grows.below.fields);
      terms = record {
        conjuncts = λ u o. below-more s.next_sym f.next_sym fits.grows.symbols u (formed.terms.conjuncts u (inr o));
        bindings = fits.grows.below.bindings;
      };
      conjuncts = subst (λ k. AllFormed s.links k cs) (sym fits.grows.length) formed.conjuncts.1;
    })
    (λ w e free taken h location here part is one has. let d = fits.values w here has in record {
      values = d.values;
      same = d.same;
      has = d.has;
      wants = λ some rest whole splits want.
          let old : IsBound d.values bindings some = λ n u i. want.bound n u (fits.grows.keeps n u i) in
          record {
            bound = old;
            satisfied = star-of splits (
              location,
              here,
              operand-is d.values some bindings x t old root
                  ∙ sym (below-value s.next_sym d.values w d.same t below.0) ∙ is,
              one,
              d.wanted some want.bound,
            )
                want.satisfied;
          };
    })

-- what is found of a fitting cell
cell-found : (a : ℕ) (s : State) (bindings : List (Option Term)) (q : Place) (x : Operand Term)
    (ws : List (FieldId × Operand Term)) (cs : Conjuncts Term) (r : Term × Fit)
    → IsFormed (wanting_first s bindings (points q x ws) cs) → fitting a s bindings (x, ws) ≡ Some r
    → Subtracts (wanting_first s bindings (points q x ws) cs) (removed (handed_cell s r.0 a r.1) r.1.bindings cs)
cell-found a s bindings q x ws cs r formed e =
    option_and_then_some
    (λ t. option_and_then (λ fields. option_map (λ f. (t, f)) (fit_fields (first_fit s fields bindings) ws))
    (cell_at s.atoms a t)) (term_of bindings x) r e
    (λ t root there. option_and_then_some
    (λ fields. option_map (λ f. (t, f)) (fit_fields (first_fit s fields bindings) ws)) (cell_at s.atoms a t) r there
    (λ fields found fits. go t fields root found (fit_fields (first_fit s fields bindings) ws) refl fits))
  where
    go : (t : Term) (fields : List (FieldId × Term)) → term_of bindings x ≡ Some t
        → cell_at s.atoms a t ≡ Some fields → (o : Option Fit) → fit_fields (first_fit s fields bindings) ws ≡ o
        → option_map (λ f. (t, f)) o ≡ Some r
        → Subtracts (wanting_first s bindings (points q x ws) cs) (removed (handed_cell s r.0 a r.1) r.1.bindings cs)
    go t fields root found None i e = absurd (cc)
    go t fields root found (Some f) i e =
        subst (λ z. Subtracts (wanting_first s bindings (points q x ws) cs)
        (removed (handed_cell s z.0 a z.1) z.1.bindings cs)) (same_Some (t, f) r e)
        (cell-one a s bindings q x ws cs t fields f formed root found i)

pub cell_keeps_wants : CellKeepsWants
unfolding CellKeepsWants
cell_keeps_wants a = by_first (cell_step a) (λ s bindings c cs after formed row.
    go s bindings c cs after formed (option_and_then (fitting a s bindings) (wanted_cell c)) refl row)
  where
    go : (s : State) (bindings : List (Option Term)) (c : Conjunct Term) (cs : Conjuncts Term) (after : Want)
        → IsFormed (wanting_first s bindings c cs)
        → (o : Option (Term × Fit)) → option_and_then (fitting a s bindings) (wanted_cell c) ≡ o
        → option_map (λ r. removed (handed_cell s r.0 a r.1) r.1.bindings cs) o ≡ Some after
        → Subtracts (wanting_first s bindings c cs) after
    go s bindings c cs after formed None i e = absurd (cc)
    go s bindings c cs after formed (Some r) i e =
        subst (Subtracts (wanting_first s bindings c cs)) (same_Some _ after e)
        (option_and_then_some (fitting a s bindings) (wanted_cell c) r i
        (λ k wanted fits. let (q, is) = cell-is c k wanted in
        subst (λ d. IsFormed (wanting_first s bindings d cs)
        → Subtracts (wanting_first s bindings d cs) (removed (handed_cell s r.0 a r.1) r.1.bindings cs)) (sym is)
        (λ formed. cell-found a s bindings q k.0 k.1 cs r formed fits) formed))

-- Head
head-one : (a : ℕ) (s : State) (bindings : List (Option Term)) (k : WantedList) (cs : Conjuncts Term) (t u : Term)
    (fields : List (FieldId × Term))
    → IsFormed (wanting_first s bindings (segment k.place k.next k.from k.to) cs)
    → term_of bindings k.from ≡ Some t → term_of bindings k.to ≡ Some u
    → differs s t u ≡ true → cell_at s.atoms a t ≡ Some fields
    →
    let l = link (first_fit s fields bindings) k.next in
    Subtracts (wanting_first s bindings (segment k.place k.next k.from k.to) cs)
    (removed (handed_cell s t a l.0) bindings (also (list_from k l.1 u) cs))
head-one a s bindings k cs t u fields formed from to differ found =
    let c : Conjunct Term = segment k.place k.next k.from k.to in
    let next = k.next in
    let n = s.next_sym in
    let below = cell-below a s bindings c cs t fields formed found in
    let end_below = operand-below n bindings (also c cs) k.to u formed.terms (inl (inr refl)) to in
    let l = link (first_fit s fields bindings) next in
    let linked = link-is (first_fit s fields bindings) next below.1 in
    let later = below-more n l.0.next_sym linked.symbols in
    cell-handed a s bindings c cs t fields formed found l.0 bindings (also (list_from k l.1 u) cs) linked.symbols
    linked.fields
    (record {
      state = state-below l.0.next_sym a s (Points t l.0.fields) linked.symbols formed.state
          (later t below.0, linked.fields);
      terms = record {
        conjuncts = λ z o. elim o [
          | inl (inl i) ↦ subst (IsBelow l.0.next_sym) (let j : l.1 ≡ z = cc in j) linked.term
          | inl (inr i) ↦ subst (IsBelow l.0.next_sym) (let j : u ≡ z = cc in j) (later u end_below)
          | inr o ↦ later z (formed.terms.conjuncts z (inr o))
        ];
        bindings = λ m z i. later z (formed.terms.bindings m z i);
      };
      conjuncts = ((formed.conjuncts.0.0, tt, tt), formed.conjuncts.1);
    })
    (λ w e free taken h location here part is one has.
    let d = linked.values w here has in
    let v = d.values in
    let one_value = below-value n v w d.same t below.0 in
    let end_value = below-value n v w d.same u end_below in
    let apart : term_value v t ≢ term_value v u =
    λ i. differ-in w (alone s) e free taken h t u differ (one_value ∙ i ∙ sym end_value) in
    record {
      values = v;
      same = d.same;
      has = d.has;
      wants = λ some rest whole splits want. record {
        bound = want.bound;
        satisfied = star-map_left
            (λ (heap : Heap) (z : (IsOne location here ⋆ Seg next (term_value v u) (term_value v l.1)) heap).
            subst₂ (λ y x. Seg next y x heap) (sym (operand-is v some bindings k.to u want.bound to))
            (sym (operand-is v some bindings k.from t want.bound from))
            (cell apart location here z.left z.right (sym one_value ∙ is) z.first z.splits
            (subst (λ x. Seg next (term_value v u) x z.right) (sym d.value) z.second)))
            (star-assoc_left (star-of splits one want.satisfied));
      };
    })

pub list_head_keeps_wants : (a : ℕ) → KeepsWants (list_head_step a)
list_head_keeps_wants a = by_list (head_there a) (λ s bindings k cs after ends formed from to there.
    go s bindings k cs after ends.0 ends.1 formed from to (differs s ends.0 ends.1) refl (cell_at s.atoms a ends.0) refl
    there)
  where
    go : (s : State) (bindings : List (Option Term)) (k : WantedList) (cs : Conjuncts Term) (after : Want) (t u : Term)
        → IsFormed (wanting_first s bindings (segment k.place k.next k.from k.to) cs)
        → term_of bindings k.from ≡ Some t → term_of bindings k.to ≡ Some u
        → (b : Bool) → differs s t u ≡ b → (o : Option (List (FieldId × Term))) → cell_at s.atoms a t ≡ o
        →
        cond b (option_map (λ fields. let l = link (first_fit s fields bindings) k.next in
        removed (handed_cell s t a l.0) bindings (also (list_from k l.1 u) cs)) o) None ≡ Some after
        → Subtracts (wanting_first s bindings (segment k.place k.next k.from k.to) cs) after
    go s bindings k cs after t u formed from to false i o j e = absurd (cc)
    go s bindings k cs after t u formed from to true i None j e = absurd (cc)
    go s bindings k cs after t u formed from to true i (Some fields) j e =
        subst (Subtracts (wanting_first s bindings (segment k.place k.next k.from k.to) cs)) (same_Some _ after e)
        (head-one a s bindings k cs t u fields formed from to i j)

-- Node
node-one : (a : ℕ) (s : State) (bindings : List (Option Term)) (k : WantedTree) (cs : Conjuncts Term) (t : Term)
    (fields : List (FieldId × Term))
    → IsFormed (wanting_first s bindings (tree k.place k.left k.right k.root) cs)
    → term_of bindings k.root ≡ Some t → cell_at s.atoms a t ≡ Some fields
    →
    let l = link (first_fit s fields bindings) k.left in
    let r = link l.0 k.right in
    Subtracts (wanting_first s bindings (tree k.place k.left k.right k.root) cs)
    (removed (handed_cell s t a r.0) bindings (also (tree_from k l.1) (also (tree_from k r.1) cs)))
node-one a s bindings k cs t fields formed root found =
    let c : Conjunct Term = tree k.place k.left k.right k.root in
    let n = s.next_sym in
    let below = cell-below a s bindings c cs t fields formed found in
    let l = link (first_fit s fields bindings) k.left in
    let one_link = link-is (first_fit s fields bindings) k.left below.1 in
    let r = link l.0 k.right in
    let two_link = link-is l.0 k.right one_link.fields in
    let more : n ≤ r.0.next_sym = (let i = one_link.symbols in let j = two_link.symbols in omega arith) in
    let later = below-more n r.0.next_sym more in
    let one_below = below-more l.0.next_sym r.0.next_sym two_link.symbols l.1 one_link.term in
    cell-handed a s bindings c cs t fields formed found r.0 bindings
    (also (tree_from k l.1) (also (tree_from k r.1) cs)) more two_link.fields
    (record {
      state = state-below r.0.next_sym a s (Points t r.0.fields) more formed.state (later t below.0, two_link.fields);
      terms = record {
        conjuncts = λ z o. elim o [
          | inl i ↦ subst (IsBelow r.0.next_sym) (let j : l.1 ≡ z = cc in j) one_below
          | inr (inl i) ↦ subst (IsBelow r.0.next_sym) (let j : r.1 ≡ z = cc in j) two_link.term
          | inr (inr o) ↦ later z (formed.terms.conjuncts z (inr o))
        ];
        bindings = λ m z i. later z (formed.terms.bindings m z i);
      };
      conjuncts = (
        (formed.conjuncts.0.0, formed.conjuncts.0.1, tt),
        ((formed.conjuncts.0.0, formed.conjuncts.0.1, tt), formed.conjuncts.1),
      );
    })
    (λ w e free taken h location here part is one has.
    let d = one_link.values w here has in
    let f = two_link.values d.values here d.has in
    let v = f.values in
    let same : SameBelow n v w = λ m i. f.same m (let j = one_link.symbols in omega arith) ∙ d.same m i in
    let left_value : here k.left.0 ≡ term_value v l.1 =
    d.value ∙ below-value l.0.next_sym v d.values f.same l.1 one_link.term in
    record {
      values = v;
      same = same;
      has = f.has;
      wants = λ some rest whole splits want. record {
        bound = want.bound;
        satisfied = star-map_left
            (λ (heap : Heap) (z : (IsOne location here ⋆ (IsTree k.left k.right (term_value v l.1)
            ⋆ IsTree k.left k.right (term_value v r.1))) heap).
            subst (λ x. IsTree k.left k.right x heap) (sym (operand-is v some bindings k.root t want.bound root))
            (node location here z.left z.right z.second.left z.second.right
            (sym (below-value n v w same t below.0) ∙ is) z.first z.splits z.second.splits
            (subst (λ x. IsTree k.left k.right x z.second.left) (sym left_value) z.second.first)
            (subst (λ x. IsTree k.left k.right x z.second.right) (sym f.value) z.second.second)))
            (star-assoc_left (star-map_right (λ inner y. star-assoc_left y) (star-of splits one want.satisfied)));
      };
    })

pub node_keeps_wants : NodeKeepsWants
unfolding NodeKeepsWants
node_keeps_wants a = by_first (node_step a) (λ s bindings c cs after formed row.
    option_and_then_some (λ k. option_and_then (node_there a s bindings k cs) (term_of bindings k.root)) (wanted_tree c)
    after row
    (λ k wanted there. subst (λ d. IsFormed (wanting_first s bindings d cs)
    → Subtracts (wanting_first s bindings d cs) after) (sym (tree-is c k wanted))
    (λ formed. option_and_then_some (node_there a s bindings k cs) (term_of bindings k.root) after there
    (λ t root at. go s bindings k cs after t formed root (cell_at s.atoms a t) refl at)) formed))
  where
    go : (s : State) (bindings : List (Option Term)) (k : WantedTree) (cs : Conjuncts Term) (after : Want) (t : Term)
        → IsFormed (wanting_first s bindings (tree k.place k.left k.right k.root) cs)
        → term_of bindings k.root ≡ Some t
        → (o : Option (List (FieldId × Term))) → cell_at s.atoms a t ≡ o
        →
        option_map (λ fields. let l = link (first_fit s fields bindings) k.left in
        let r = link l.0 k.right in
        removed (handed_cell s t a r.0) bindings (also (tree_from k l.1) (also (tree_from k r.1) cs))) o ≡ Some after
        → Subtracts (wanting_first s bindings (tree k.place k.left k.right k.root) cs) after
    go s bindings k cs after t formed root None j e = absurd (cc)
    go s bindings k cs after t formed root (Some fields) j e =
        subst (Subtracts (wanting_first s bindings (tree k.place k.left k.right k.root) cs)) (same_Some _ after e)
        (node-one a s bindings k cs t fields formed root j)
