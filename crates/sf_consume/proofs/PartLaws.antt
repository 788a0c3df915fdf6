-- Exact and join: what is wanted is an atom that is a segment or a tree, or begins with one; a doubly linked segment that
-- begins with one is in SegmentLaws.
-- Names: `ROW_keeps_wants` is the law of that row.
use Rattle.std.specs.List.{list_any}
use Rattle.std.specs.Option.{option_map}
use Rattle.std.proofs.Common.{◌≡◌, ℕ, ◌==◌, Bool, true, false, ◌&&◌, ◌||◌, cond, not, List, [], ◌∷◌, ◌++◌, Option, Some, None, length, refl, sym, ap, ◌∙◌, subst, subst₂, inl, inr, arith}
use Rattle.std.proofs.lemmas.Bool.{or_cases}
use Rattle.std.proofs.lemmas.Option.{cond_some, option_and_then_some, same_Some}
use Rattle.sf_base.proofs.Bools.{and-left, and-right}
use Rattle.sf_base.proofs.HeapSplits.{star-assoc_left, star-map_left, star-of}
use Rattle.sf_base.proofs.MapSplits.{splits-assoc_right, splits-lacks_left, splits-union, union}
use Rattle.sf_base.proofs.Options.{option_map-some}
use Rattle.sf_base.specs.declared.ids.Var.{Var}
use Rattle.sf_base.specs.declared.value.Value.{Value}
use Rattle.sf_base.specs.declared.value.Value.TheVariants.{Loc as loc}
use Rattle.sf_base.specs.HeapStore.{Heap, ◌⋆◌}
use Rattle.sf_core.proofs.Assertions.Segments.{loc-same, seg-append}
use Rattle.sf_core.specs.Assertions.Sat.{SatOne, Seg, Tree as IsTree, operand}
use Rattle.sf_core.specs.declared.fields.Links.{Links}
use Rattle.sf_core.specs.Program.Syntax.{Conjunct, holds, points, segment, doubly, tree, choose, Conjuncts, also}
use Rattle.sf_consume.proofs.DoubleTerms.{double-sat, four-are}
use Rattle.sf_consume.proofs.Handing.{Out, both-are, by_first, by_list, formed-rest, handed-whole, state-below, state-out, wanting_first}
use Rattle.sf_consume.specs.declared.wanted.WantedList.{WantedList}
use Rattle.sf_consume.specs.Checked.Laws.{alone, Subtracts, KeepsWants, ExactKeepsWants}
use Rattle.sf_consume.specs.Subtract.{Want, both, exact_step, exact_there, four, is_same_shape, join_there, joined, list_from, list_join_step, removed, wanted_shape}
use Rattle.sf_consume.specs.Wants.{IsFormed}
use Rattle.sf_sym.specs.Checked.Lemmas.Bindings.{operand-below, operand-is}
use Rattle.sf_sym.specs.Formed.{OneFormed}
use Rattle.sf_sym.specs.Checked.Lemmas.{same_term_is}
use Rattle.sf_sym.specs.Checked.Lemmas.AtomLists.{at-all, without-any}
use Rattle.sf_sym.specs.Checked.Lemmas.Parts.{atoms-located, located-left}
use Rattle.sf_sym.specs.Checked.Lemmas.States.{holds-parts}
use Rattle.sf_sym.specs.Checked.Lemmas.Terms.{term-constant_no_location}
use Rattle.sf_sym.specs.Checked.Lemmas.TwoHeaps.{in-at}
use Rattle.sf_sym.specs.Below.{AllInAtom, IsBelow}
use Rattle.sf_sym.specs.Cells.{atom_at, handed, without}
use Rattle.sf_sym.specs.Decided.{term_of}
use Rattle.sf_sym.specs.declared.atom.Atom.{Atom}
use Rattle.sf_sym.specs.declared.atom.Atom.TheVariants.{Points, Ls, Tree, Dll}
use Rattle.sf_sym.specs.declared.atom.Numbered.{Numbered}
use Rattle.sf_sym.specs.declared.term.Term.{Term}
use Rattle.sf_sym.specs.Holds.{term_value, AtomHolds, DsegAlong, IsBound, SegAlong, TreeAlong}
use Rattle.sf_sym.specs.State.{State}
use Rattle.sf_sym.specs.Tests.{allocated, allocates, is_constant, is_left_out, parts, same_term}

-- Exact
-- atoms of one shape are one
same-shape : (x y : Atom) → is_same_shape x y ≡ true → x ≡ y
same-shape (Points t fs) y e = absurd (cc)
same-shape (Ls t u) (Points v fs) e = absurd (cc)
same-shape (Ls t u) (Ls v w) e =
    let one : t ≡ v = same_term_is t v (and-left (same_term t v) (same_term u w) e) in
    let two : u ≡ w = same_term_is u w (and-right (same_term t v) (same_term u w) e) in
    cc
same-shape (Ls t u) (Tree v) e = absurd (cc)
same-shape (Ls t u) (Dll v p l w) e = absurd (cc)
same-shape (Tree t) (Points v fs) e = absurd (cc)
same-shape (Tree t) (Ls v w) e = absurd (cc)
same-shape (Tree t) (Tree v) e = ap Tree (same_term_is t v e)
same-shape (Tree t) (Dll v p l w) e = absurd (cc)
same-shape (Dll v p l u) (Points t fs) e = absurd (cc)
same-shape (Dll v p l u) (Ls t w) e = absurd (cc)
same-shape (Dll v p l u) (Tree t) e = absurd (cc)
same-shape (Dll v p l u) (Dll t q m w) e =
    let last_two = same_term l m && same_term u w in
    let last_three = same_term p q && last_two in
    let three = and-right (same_term v t) last_three e in
    let two = and-right (same_term p q) last_two three in
    let is_from : v ≡ t = same_term_is v t (and-left (same_term v t) last_three e) in
    let is_before : p ≡ q = same_term_is p q (and-left (same_term p q) last_two three) in
    let is_last : l ≡ m = same_term_is l m (and-left (same_term l m) (same_term u w) two) in
    let is_to : u ≡ w = same_term_is u w (and-right (same_term l m) (same_term u w) two) in
    cc

-- a segment or tree that is wanted holds where it does as an atom
shape-holds : (links : Links) (count : ℕ) (bindings : List (Option Term)) (c : Conjunct Term) (x : Atom) (heap : Heap)
    → OneFormed links count c → wanted_shape bindings c ≡ Some x → (w some : ℕ → Value)
    → IsBound w bindings some → AtomHolds w links x heap → SatOne c (term_value w) some heap
shape-holds links count bindings (holds q t) x heap wanted e w some bound h = absurd (cc)
shape-holds links count bindings (points q y fs) x heap wanted e w some bound h = absurd (cc)
shape-holds links count bindings (segment q next y z) x heap wanted e w some bound h =
    go (both bindings y z) refl e
  where
    go : (o : Option (Term × Term)) → both bindings y z ≡ o → option_map (λ e. Ls e.0 e.1) o ≡ Some x
        → Seg next (operand (term_value w) some z) (operand (term_value w) some y) heap
    go None i e = absurd (cc)
    go (Some (t, u)) i e =
        let (one, two) = both-are bindings y z (t, u) i in
        let atom = subst (λ k. AtomHolds w links k heap) (sym (same_Some (Ls t u) x e)) h in
        subst₂ (λ k l. Seg next k l heap) (sym (operand-is w some bindings z u bound two))
        (sym (operand-is w some bindings y t bound one))
        (subst (λ k. SegAlong k (term_value w t) (term_value w u) heap) wanted.0 atom)
shape-holds links count bindings (doubly q next back y b l z) x heap wanted e w some bound h =
    let (d, found, is) = option_map-some (λ (d : Term × Term × Term × Term). Dll d.0 d.1 d.2 d.3)
    (four bindings y b l z) x e in
    double-sat w some bindings q next back y b l z d heap bound (four-are bindings y b l z d found)
    (subst₂ (λ i j. DsegAlong i j (term_value w d.0) (term_value w d.1) (term_value w d.2) (term_value w d.3) heap)
    wanted.0 wanted.1 (subst (λ k. AtomHolds w links k heap) is h))
shape-holds links count bindings (tree q left right y) x heap wanted e w some bound h =
    go (term_of bindings y) refl e
  where
    go : (o : Option Term) → term_of bindings y ≡ o → option_map Tree o ≡ Some x
        → IsTree left right (operand (term_value w) some y) heap
    go None i e = absurd (cc)
    go (Some t) i e =
        let atom = subst (λ k. AtomHolds w links k heap) (sym (same_Some (Tree t) x e)) h in
        subst (λ k. IsTree left right k heap) (sym (operand-is w some bindings y t bound i))
        (subst (λ k. TreeAlong (Some left) k (term_value w t) heap) wanted.1
        (subst (λ k. TreeAlong k links.r (term_value w t) heap) wanted.0 atom))
shape-holds links count bindings (choose q t this that) x heap wanted e w some bound h = absurd (cc)

-- the wanted atom is handed over
exact-one : (a : ℕ) (s : State) (bindings : List (Option Term)) (c : Conjunct Term) (cs : Conjuncts Term) (x : Atom)
    → IsFormed (wanting_first s bindings c cs) → wanted_shape bindings c ≡ Some x → atom_at s.atoms a ≡ Some x
    → Subtracts (wanting_first s bindings c cs) (removed (handed s a x) bindings cs)
exact-one a s bindings c cs x formed shape at = record {
  formed = record {
    state = state-below s.next_sym a s x (omega arith) formed.state
        (at-all (AllInAtom (IsBelow s.next_sym)) s.atoms a x at formed.state.atoms);
    terms = (formed-rest s bindings c cs formed).terms;
    conjuncts = formed.conjuncts.1;
  };
  symbols = omega arith;
  links = refl;
  hands = λ w e free taken h.
      let o = state-out w s e free taken a x at h in
      handed-whole w s e free taken a x bindings (also c cs) cs formed.state o (λ some more whole splits d. record {
        bound = d.bound;
        satisfied = star-of splits
            (shape-holds s.links (length bindings) bindings c x o.part formed.conjuncts.0 shape w some d.bound o.atom)
            d.satisfied;
      });
}

pub exact_keeps_wants : ExactKeepsWants
unfolding ExactKeepsWants
exact_keeps_wants a = by_first (exact_step a) (λ s bindings c cs after formed row.
    option_and_then_some (exact_there a s bindings cs) (wanted_shape bindings c) after row
    (λ wanted shape there. option_and_then_some
    (λ x. cond (is_same_shape x wanted) (Some (removed (handed s a x) bindings cs)) None) (atom_at s.atoms a) after there
    (λ x at left. let (so, is) = cond_some (is_same_shape x wanted) (removed (handed s a x) bindings cs) after left in
    subst (Subtracts (wanting_first s bindings c cs)) is
    (exact-one a s bindings c cs x formed (shape ∙ ap Some (sym (same-shape x wanted so))) at))))

-- Join
-- an atom that is there goes from the front of a list
without-append : (xs ys : List Numbered) (a : ℕ) (x : Atom) → atom_at xs a ≡ Some x
    → without (xs ++ ys) a ≡ without xs a ++ ys
without-append [] ys a x e = absurd (cc)
without-append (y ∷ xs) ys a x e = go (y.number == a) e (λ i. without-append xs ys a x i)
  where
    go : (b : Bool) → cond b (Some y.atom) (atom_at xs a) ≡ Some x
        → (atom_at xs a ≡ Some x → without (xs ++ ys) a ≡ without xs a ++ ys)
        → cond b (xs ++ ys) (y ∷ without (xs ++ ys) a) ≡ cond b xs (y ∷ without xs a) ++ ys
    go true i r = refl
    go false i r = ap (λ zs. y ∷ zs) (r i)

-- the part of an atom has no cell at a term that another atom allocates
other-elsewhere : (w : ℕ → Value) (s : State) (e : Var → Option Value) (free taken : Heap) (a : ℕ) (x : Atom)
    (u : Term) (o : Out w s e free taken a x)
    → atom_at s.atoms a ≡ Some x → allocated s u (Some a) ≡ true
    → (location : ℕ) → term_value w u ≡ loc location → o.part location ≡ None
other-elsewhere w s e free taken a x u o at other location is =
    let left = record s { atoms = without s.atoms a } in
    let others = holds-parts w (alone left) e (union o.rest taken)
    (in-at w (alone left) e (union o.rest taken) o.rest taken (splits-union o.others.disjoint) o.others) in
    let test = λ (y : Numbered). not (is_left_out (Some a) y.number) && allocates s.apart u y.atom in
    let some : list_any test (parts left) ≡ true =
    subst (λ zs. list_any test zs ≡ true) (without-append s.atoms s.taken a x at)
    (without-any test (parts s) a (λ y i. ap (λ b. not b && allocates s.apart u y.atom) i) other) in
    let there = located-left others.splits
    (atoms-located w s.links s.apart o.others.apart u test
    (λ y i. and-right (not (is_left_out (Some a) y.number)) (allocates s.apart u y.atom) i)
    (parts left) others.left some others.first) in
    let whole = (splits-assoc_right o.splits (splits-union o.apart)).1 in
    subst (λ l. o.part l ≡ None) (loc-same there.location location (sym there.is ∙ is))
    (splits-lacks_left there.location there.here whole there.there)

-- a constant is nowhere, and a term that another atom allocates is elsewhere
pub end-elsewhere : (w : ℕ → Value) (s : State) (e : Var → Option Value) (free taken : Heap) (a : ℕ) (x : Atom)
    (u : Term) (o : Out w s e free taken a x)
    → atom_at s.atoms a ≡ Some x → is_constant u || allocated s u (Some a) ≡ true
    → (location : ℕ) → term_value w u ≡ loc location → o.part location ≡ None
end-elsewhere w s e free taken a x u o at known location is =
    elim (or_cases (is_constant u) (allocated s u (Some a)) known) [
      | inl c ↦ absurd (term-constant_no_location w u location c is)
      | inr other ↦ other-elsewhere w s e free taken a x u o at other location is
    ]

join-one : (a : ℕ) (s : State) (bindings : List (Option Term)) (k : WantedList) (cs : Conjuncts Term) (t u m : Term)
    → IsFormed (wanting_first s bindings (segment k.place k.next k.from k.to) cs)
    → term_of bindings k.from ≡ Some t → term_of bindings k.to ≡ Some u
    → atom_at s.atoms a ≡ Some (Ls t m) → is_constant u || allocated s u (Some a) ≡ true
    → Subtracts (wanting_first s bindings (segment k.place k.next k.from k.to) cs)
    (removed (handed s a (Ls t m)) bindings (also (list_from k m u) cs))
join-one a s bindings k cs t u m formed from to at known =
    let c : Conjunct Term = segment k.place k.next k.from k.to in
    let below = at-all (AllInAtom (IsBelow s.next_sym)) s.atoms a (Ls t m) at formed.state.atoms in
    let end_below = operand-below s.next_sym bindings (also c cs) k.to u formed.terms (inl (inr refl)) to in
    record {
      formed = record {
        state = state-below s.next_sym a s (Ls t m) (omega arith) formed.state below;
        terms = record {
          conjuncts = λ z o. elim o [
            | inl (inl i) ↦ subst (IsBelow s.next_sym) (let j : m ≡ z = cc in j) below.1
            | inl (inr i) ↦ subst (IsBelow s.next_sym) (let j : u ≡ z = cc in j) end_below
            | inr o ↦ formed.terms.conjuncts z (inr o)
          ];
          bindings = formed.terms.bindings;
        };
        conjuncts = ((formed.conjuncts.0.0, tt, tt), formed.conjuncts.1);
      };
      symbols = omega arith;
      links = refl;
      hands = λ w e free taken h.
          let o = state-out w s e free taken a (Ls t m) at h in
          let first : Seg k.next (term_value w m) (term_value w t) o.part =
          subst (λ z. SegAlong z (term_value w t) (term_value w m) o.part) formed.conjuncts.0.0 o.atom in
          handed-whole w s e free taken a (Ls t m) bindings (also c cs) (also (list_from k m u) cs) formed.state o
          (λ some more whole splits want. record {
            bound = want.bound;
            satisfied = star-map_left
                (λ (heap : Heap) (z : ((λ part. Seg k.next (term_value w m) (term_value w t) part
                × ((location : ℕ) → term_value w u ≡ loc location → part location ≡ None))
                ⋆ Seg k.next (term_value w u) (term_value w m)) heap).
                subst₂ (λ y x. Seg k.next y x heap) (sym (operand-is w some bindings k.to u want.bound to))
                (sym (operand-is w some bindings k.from t want.bound from))
                (seg-append z.first.1 z.splits z.first.0 z.second))
                (star-assoc_left (star-of splits (first, end-elsewhere w s e free taken a (Ls t m) u o at known)
                want.satisfied));
          });
    }

-- the atom is a segment from there
joined-is : (s : State) (a : ℕ) (t u : Term) (x : Atom) (m : Term) → joined s a t u x ≡ Some m
    → (x ≡ Ls t m) × (is_constant u || allocated s u (Some a) ≡ true)
joined-is s a t u (Points v fields) m e = absurd (cc)
joined-is s a t u (Ls v n) m e =
    let (so, is) = cond_some (same_term v t && (is_constant u || allocated s u (Some a))) n m e in
    let one = same_term_is v t (and-left (same_term v t) (is_constant u || allocated s u (Some a)) so) in (
      ap (λ z. Ls z n) one ∙ ap (Ls t) is,
      and-right (same_term v t) (is_constant u || allocated s u (Some a)) so,
    )
joined-is s a t u (Tree v) m e = absurd (cc)
joined-is s a t u (Dll v p l w) m e = absurd (cc)

pub list_join_keeps_wants : (a : ℕ) → KeepsWants (list_join_step a)
list_join_keeps_wants a = by_list (join_there a) (λ s bindings k cs after ends formed from to there.
    option_and_then_some
    (λ x. option_map (λ v. removed (handed s a x) bindings (also (list_from k v ends.1) cs)) (joined s a ends.0 ends.1 x))
    (atom_at s.atoms a) after there
    (λ x found left. go s bindings k cs after ends.0 ends.1 x formed from to found (joined s a ends.0 ends.1 x) refl left))
  where
    go : (s : State) (bindings : List (Option Term)) (k : WantedList) (cs : Conjuncts Term) (after : Want) (t u : Term)
        (x : Atom)
        → IsFormed (wanting_first s bindings (segment k.place k.next k.from k.to) cs)
        → term_of bindings k.from ≡ Some t → term_of bindings k.to ≡ Some u → atom_at s.atoms a ≡ Some x
        → (o : Option Term) → joined s a t u x ≡ o
        → option_map (λ v. removed (handed s a x) bindings (also (list_from k v u) cs)) o ≡ Some after
        → Subtracts (wanting_first s bindings (segment k.place k.next k.from k.to) cs) after
    go s bindings k cs after t u x formed from to found None i e = absurd (cc)
    go s bindings k cs after t u x formed from to found (Some m) i e =
        let (is, known) = joined-is s a t u x m i in
        subst (Subtracts (wanting_first s bindings (segment k.place k.next k.from k.to) cs))
        (ap (λ z. removed (handed s a z) bindings (also (list_from k m u) cs)) (sym is) ∙ same_Some _ after e)
        (join-one a s bindings k cs t u m formed from to (found ∙ ap Some is) known)
