-- Head and join: what is wanted is a segment, doubly linked or not, that begins with a cell or with a segment.
-- Names: `ROW_keeps_wants` is the law of that row, `double-ROW_one` of its doubly linked segment.
use Rattle.std.specs.Option.{option_map}
use Rattle.std.proofs.Common.{◌≡◌, ◌≢◌, ℕ, Bool, true, false, ◌&&◌, ◌||◌, cond, List, Option, Some, None, refl, sym, ap, ◌∙◌, subst, subst₂, inl, inr, arith}
use Rattle.std.proofs.lemmas.Option.{cond_some, option_and_then_some}
use Rattle.sf_base.proofs.Bools.{and-left, and-right}
use Rattle.sf_base.proofs.HeapSplits.{star-assoc_left, star-map_left, star-of}
use Rattle.sf_base.proofs.Options.{option_map-some}
use Rattle.sf_base.specs.declared.ids.FieldId.{FieldId}
use Rattle.sf_base.specs.declared.value.Value.TheVariants.{Loc as loc}
use Rattle.sf_base.specs.HeapStore.{Heap, IsOne, ◌⋆◌}
use Rattle.sf_core.proofs.Assertions.DoubleSegments.{dseg-append}
use Rattle.sf_core.specs.Assertions.Sat.{Dseg, linked}
use Rattle.sf_core.specs.Program.Syntax.{Conjuncts, also}
use Rattle.sf_consume.proofs.CellLaws.{cell-below, cell-handed, list_head_keeps_wants}
use Rattle.sf_consume.proofs.DoubleTerms.{HasFour, by_double, double, double-sat}
use Rattle.sf_consume.proofs.Either.{either-keeps}
use Rattle.sf_consume.proofs.Fitting.{known-is, link-is}
use Rattle.sf_consume.proofs.Handing.{handed-whole, state-below, state-out, wanting_first}
use Rattle.sf_consume.proofs.PartLaws.{end-elsewhere, list_join_keeps_wants}
use Rattle.sf_consume.specs.declared.wanted.WantedDouble.{WantedDouble}
use Rattle.sf_consume.specs.Checked.Laws.{alone, Subtracts, KeepsWants, HeadKeepsWants, JoinKeepsWants}
use Rattle.sf_consume.specs.Subtract.{Fit, Want, double_cell, double_from, double_head_step, double_head_there, double_join_step, double_join_there, double_joined, first_fit, fit_known, handed_cell, link, list_head_step, list_join_step, removed}
use Rattle.sf_consume.specs.Wants.{IsFormed}
use Rattle.sf_sym.specs.Checked.Lemmas.{same_term_is}
use Rattle.sf_sym.specs.Checked.Lemmas.AtomLists.{at-all}
use Rattle.sf_sym.specs.Checked.Lemmas.Below.{below-more, below-value}
use Rattle.sf_sym.specs.Checked.Lemmas.Bindings.{operand-below}
use Rattle.sf_sym.specs.Checked.Lemmas.CellFields.{field-value}
use Rattle.sf_sym.specs.Checked.Lemmas.Decided.{differ-in}
use Rattle.sf_sym.specs.Below.{AllInAtom, IsBelow}
use Rattle.sf_sym.specs.Cells.{atom_at, cell_at, handed}
use Rattle.sf_sym.specs.declared.atom.Atom.{Atom}
use Rattle.sf_sym.specs.declared.atom.Atom.TheVariants.{Points, Ls, Tree, Dll}
use Rattle.sf_sym.specs.declared.term.Term.{Term}
use Rattle.sf_sym.specs.Fields.{field_term}
use Rattle.sf_sym.specs.Holds.{term_value, DsegAlong}
use Rattle.sf_sym.specs.State.{State}
use Rattle.sf_sym.specs.Tests.{allocated, differs, is_constant, same_term}

-- the terms of a wanted doubly linked segment are below the next symbol
record FourBelow (n : ℕ) (d : Term × Term × Term × Term) : Type 0 where
  from : IsBelow n d.0
  before : IsBelow n d.1
  last : IsBelow n d.2
  to : IsBelow n d.3

four-below : (s : State) (bindings : List (Option Term)) (k : WantedDouble) (cs : Conjuncts Term)
    (d : Term × Term × Term × Term)
    → IsFormed (wanting_first s bindings (double k) cs) → HasFour bindings k.from k.before k.last k.to d
    → FourBelow s.next_sym d
four-below s bindings k cs d formed four =
    let all : Conjuncts Term = also (double k) cs in
    record {
      from = operand-below s.next_sym bindings all k.from d.0 formed.terms (inl (inl refl)) four.from;
      before = operand-below s.next_sym bindings all k.before d.1 formed.terms (inl (inr (inl refl))) four.before;
      last = operand-below s.next_sym bindings all k.last d.2 formed.terms (inl (inr (inr (inl refl)))) four.last;
      to = operand-below s.next_sym bindings all k.to d.3 formed.terms (inl (inr (inr (inr refl)))) four.to;
    }

-- Head
double-head_one : (a : ℕ) (s : State) (bindings : List (Option Term)) (k : WantedDouble) (cs : Conjuncts Term)
    (d : Term × Term × Term × Term) (fields : List (FieldId × Term))
    → IsFormed (wanting_first s bindings (double k) cs) → HasFour bindings k.from k.before k.last k.to d
    → differs s d.0 d.3 ≡ true → cell_at s.atoms a d.0 ≡ Some fields → field_term fields k.back ≡ Some d.1
    →
    let l = link (first_fit s fields bindings) k.next in
    Subtracts (wanting_first s bindings (double k) cs)
    (removed (handed_cell s d.0 a l.0) bindings (also (double_from k l.1 d.0 d.2 d.3) cs))
double-head_one a s bindings k cs d fields formed four differ found leads_back =
    let n = s.next_sym in
    let below = cell-below a s bindings (double k) cs d.0 fields formed found in
    let terms = four-below s bindings k cs d formed four in
    let l = link (first_fit s fields bindings) k.next in
    let following = link-is (first_fit s fields bindings) k.next below.1 in
    let m = l.0.next_sym in
    let later = below-more n m following.symbols in
    cell-handed a s bindings (double k) cs d.0 fields formed found l.0 bindings
    (also (double_from k l.1 d.0 d.2 d.3) cs) following.symbols following.fields
    (record {
      state = state-below m a s (Points d.0 l.0.fields) following.symbols formed.state
          (later d.0 below.0, following.fields);
      terms = record {
        conjuncts = λ z o. elim o [
          | inl (inl i) ↦ subst (IsBelow m) (let j : l.1 ≡ z = cc in j) following.term
          | inl (inr (inl i)) ↦ subst (IsBelow m) (let j : d.0 ≡ z = cc in j) (later d.0 terms.from)
          | inl (inr (inr (inl i))) ↦ subst (IsBelow m) (let j : d.2 ≡ z = cc in j) (later d.2 terms.last)
          | inl (inr (inr (inr i))) ↦ subst (IsBelow m) (let j : d.3 ≡ z = cc in j) (later d.3 terms.to)
          | inr o ↦ later z (formed.terms.conjuncts z (inr o))
        ];
        bindings = λ m z i. later z (formed.terms.bindings m z i);
      };
      conjuncts = ((formed.conjuncts.0.0, formed.conjuncts.0.1, tt, tt, tt, tt), formed.conjuncts.1);
    })
    (λ w e free taken h location here part is one has.
    let new = following.values w here has in
    let v = new.values in
    let now = λ (t : Term) (i : IsBelow n t). below-value n v w new.same t i in
    let apart : term_value v d.0 ≢ term_value v d.3 =
    λ i. differ-in w (alone s) e free taken h d.0 d.3 differ (now d.0 terms.from ∙ i ∙ sym (now d.3 terms.to)) in
    let back : here k.back.0 ≡ term_value v d.1 =
    field-value (term_value w) fields k.back d.1 here leads_back has ∙ now d.1 terms.before in
    record {
      values = v;
      same = new.same;
      has = new.has;
      wants = λ some rest whole splits want. record {
        bound = want.bound;
        satisfied = star-map_left
            (λ (heap : Heap) (z : (IsOne location here
            ⋆ Dseg k.next k.back (term_value v d.2) (term_value v d.3) (term_value v d.0) (term_value v l.1)) heap).
            double-sat v some bindings k.place k.next k.back k.from k.before k.last k.to d heap want.bound four
            (linked apart location here z.left z.right (sym (now d.0 terms.from) ∙ is) z.first z.splits back
            (subst
            (λ x. Dseg k.next k.back (term_value v d.2) (term_value v d.3) (term_value v d.0) x z.right)
            (sym new.value) z.second)))
            (star-assoc_left (star-of splits one want.satisfied));
      };
    })

-- what is left once that cell, and where it leads, are known
abbrev double_left : (a : ℕ) → State → List (Option Term) → WantedDouble → Conjuncts Term → Term × Term × Term × Term
    → Fit × Term → Want
double_left a s bindings k cs d l =
    removed (handed_cell s d.0 a l.0) bindings (also (double_from k l.1 d.0 d.2 d.3) cs)

double-head_there : (a : ℕ) (s : State) (bindings : List (Option Term)) (k : WantedDouble) (cs : Conjuncts Term)
    (after : Want) (d : Term × Term × Term × Term)
    → IsFormed (wanting_first s bindings (double k) cs) → HasFour bindings k.from k.before k.last k.to d
    → double_head_there a s bindings k cs d ≡ Some after → Subtracts (wanting_first s bindings (double k) cs) after
double-head_there a s bindings k cs after d formed four row = go (differs s d.0 d.3) refl row
  where
    go : (b : Bool) → differs s d.0 d.3 ≡ b
        → cond b (option_map (double_left a s bindings k cs d) (double_cell a s bindings k d.0 d.1)) None ≡ Some after
        → Subtracts (wanting_first s bindings (double k) cs) after
    go false i e = absurd (cc)
    go true i e =
        let left = double_left a s bindings k cs d in
        let (l, cell, is) = option_map-some left (double_cell a s bindings k d.0 d.1) after e in
        option_and_then_some
        (λ fields. option_map (λ f. link f k.next)
        (fit_known (first_fit s fields bindings) (field_term fields k.back) d.1)) (cell_at s.atoms a d.0) l cell
        (λ fields found fits.
        let (f, known, leads) = option_map-some (λ (f : Fit). link f k.next)
        (fit_known (first_fit s fields bindings) (field_term fields k.back) d.1) l fits in
        let (same, at) = known-is (first_fit s fields bindings) f k.back d.1 known in
        subst (Subtracts (wanting_first s bindings (double k) cs))
        (ap left (ap (λ z. link z k.next) same ∙ sym leads) ∙ sym is)
        (double-head_one a s bindings k cs d fields formed four i found at))

double_head_keeps_wants : (a : ℕ) → KeepsWants (double_head_step a)
double_head_keeps_wants a = by_double (double_head_there a) (double-head_there a)

pub head_keeps_wants : HeadKeepsWants
unfolding HeadKeepsWants
head_keeps_wants a =
    either-keeps (list_head_step a) (double_head_step a) (list_head_keeps_wants a) (double_head_keeps_wants a)

-- Join
double-join_one : (a : ℕ) (s : State) (bindings : List (Option Term)) (k : WantedDouble) (cs : Conjuncts Term)
    (d : Term × Term × Term × Term) (m n : Term)
    → IsFormed (wanting_first s bindings (double k) cs) → HasFour bindings k.from k.before k.last k.to d
    → atom_at s.atoms a ≡ Some (Dll d.0 d.1 m n) → is_constant d.3 || allocated s d.3 (Some a) ≡ true
    → Subtracts (wanting_first s bindings (double k) cs)
    (removed (handed s a (Dll d.0 d.1 m n)) bindings (also (double_from k n m d.2 d.3) cs))
double-join_one a s bindings k cs d m n formed four at known =
    let x : Atom = Dll d.0 d.1 m n in
    let next = s.next_sym in
    let below = at-all (AllInAtom (IsBelow next)) s.atoms a x at formed.state.atoms in
    let terms = four-below s bindings k cs d formed four in
    record {
      formed = record {
        state = state-below next a s x (omega arith) formed.state below;
        terms = record {
          conjuncts = λ z o. elim o [
            | inl (inl i) ↦ subst (IsBelow next) (let j : n ≡ z = cc in j) below.3
            | inl (inr (inl i)) ↦ subst (IsBelow next) (let j : m ≡ z = cc in j) below.2
            | inl (inr (inr (inl i))) ↦ subst (IsBelow next) (let j : d.2 ≡ z = cc in j) terms.last
            | inl (inr (inr (inr i))) ↦ subst (IsBelow next) (let j : d.3 ≡ z = cc in j) terms.to
            | inr o ↦ formed.terms.conjuncts z (inr o)
          ];
          bindings = formed.terms.bindings;
        };
        conjuncts = ((formed.conjuncts.0.0, formed.conjuncts.0.1, tt, tt, tt, tt), formed.conjuncts.1);
      };
      symbols = omega arith;
      links = refl;
      hands = λ w e free taken h.
          let o = state-out w s e free taken a x at h in
          let first : Dseg k.next k.back (term_value w m) (term_value w n) (term_value w d.1) (term_value w d.0) o.part =
          subst₂ (λ y z. DsegAlong y z (term_value w d.0) (term_value w d.1) (term_value w m) (term_value w n) o.part)
          formed.conjuncts.0.0 formed.conjuncts.0.1 o.atom in
          handed-whole w s e free taken a x bindings (also (double k) cs) (also (double_from k n m d.2 d.3) cs)
          formed.state o (λ some more whole splits want. record {
            bound = want.bound;
            satisfied = star-map_left
                (λ (heap : Heap) (z : ((λ part.
                Dseg k.next k.back (term_value w m) (term_value w n) (term_value w d.1) (term_value w d.0) part
                × ((location : ℕ) → term_value w d.3 ≡ loc location → part location ≡ None))
                ⋆ Dseg k.next k.back (term_value w d.2) (term_value w d.3) (term_value w m) (term_value w n)) heap).
                double-sat w some bindings k.place k.next k.back k.from k.before k.last k.to d heap want.bound four
                (dseg-append z.first.1 z.splits z.first.0 z.second))
                (star-assoc_left (star-of splits (first, end-elsewhere w s e free taken a x d.3 o at known)
                want.satisfied));
          });
    }

-- the atom is a doubly linked segment from there
double-joined_is : (s : State) (a : ℕ) (v p u : Term) (x : Atom) (e : Term × Term) → double_joined s a v p u x ≡ Some e
    → (x ≡ Dll v p e.1 e.0) × (is_constant u || allocated s u (Some a) ≡ true)
double-joined_is s a v p u (Points t fields) e i = absurd (cc)
double-joined_is s a v p u (Ls t w) e i = absurd (cc)
double-joined_is s a v p u (Tree t) e i = absurd (cc)
double-joined_is s a v p u (Dll t q m w) e i =
    let known = is_constant u || allocated s u (Some a) in
    let (so, is) = cond_some (same_term t v && (same_term q p && known)) (w, m) e i in
    let others = and-right (same_term t v) (same_term q p && known) so in
    let from : t ≡ v = same_term_is t v (and-left (same_term t v) (same_term q p && known) so) in
    let before : q ≡ p = same_term_is q p (and-left (same_term q p) known others) in
    let to : w ≡ e.0 = ap (λ (z : Term × Term). z.0) is in
    let last : m ≡ e.1 = ap (λ (z : Term × Term). z.1) is in
    (cc, and-right (same_term q p) known others)

double-join_there : (a : ℕ) (s : State) (bindings : List (Option Term)) (k : WantedDouble) (cs : Conjuncts Term)
    (after : Want) (d : Term × Term × Term × Term)
    → IsFormed (wanting_first s bindings (double k) cs) → HasFour bindings k.from k.before k.last k.to d
    → double_join_there a s bindings k cs d ≡ Some after → Subtracts (wanting_first s bindings (double k) cs) after
double-join_there a s bindings k cs after d formed four row =
    option_and_then_some
    (λ x. option_map (λ e. removed (handed s a x) bindings (also (double_from k e.0 e.1 d.2 d.3) cs))
    (double_joined s a d.0 d.1 d.3 x)) (atom_at s.atoms a) after row
    (λ x found at_joined.
    let (e, joins, is) = option_map-some
    (λ (e : Term × Term). removed (handed s a x) bindings (also (double_from k e.0 e.1 d.2 d.3) cs))
    (double_joined s a d.0 d.1 d.3 x) after at_joined in
    let (same, known) = double-joined_is s a d.0 d.1 d.3 x e joins in
    subst (Subtracts (wanting_first s bindings (double k) cs))
    (ap (λ z. removed (handed s a z) bindings (also (double_from k e.0 e.1 d.2 d.3) cs)) (sym same) ∙ sym is)
    (double-join_one a s bindings k cs d e.1 e.0 formed four (found ∙ ap Some same) known))

double_join_keeps_wants : (a : ℕ) → KeepsWants (double_join_step a)
double_join_keeps_wants a = by_double (double_join_there a) (double-join_there a)

pub join_keeps_wants : JoinKeepsWants
unfolding JoinKeepsWants
join_keeps_wants a =
    either-keeps (list_join_step a) (double_join_step a) (list_join_keeps_wants a) (double_join_keeps_wants a)
