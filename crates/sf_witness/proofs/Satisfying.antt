-- The witness of a normal state satisfies what the state knows.
-- Names: `value-LAW` of values of terms, `fields-LAW` of cells' fields, `FORM-holds` of an atom, `atoms-hold`.
use Rattle.std.proofs.Common.{◌≡◌, ◌≢◌, ◌<◌, ◌==◌, ◌||◌, ◌&&◌, not, ℕ, suc, Bool, true, false, cond, List, [], ◌∷◌, ◌++◌, Option, Some, None, is_some, refl, sym, ap, ◌∙◌, subst, arith}
use Rattle.std.specs.List.{AllByRecursion, IsDistinct, list_all, list_any}
use Rattle.std.specs.Option.{option_or}
use Rattle.std.proofs.lemmas.Bool.Decides.{Decides-eqb, Decides-int_eq, nat_tests}
use Rattle.std.proofs.lemmas.Grind.{flat_map-append}
use Rattle.std.proofs.lemmas.Option.{none-some}
use Rattle.sf_base.specs.declared.ids.FieldId.{FieldId}
use Rattle.sf_base.specs.declared.ids.Var.{Var}
use Rattle.sf_base.specs.declared.value.Value.{Value}
use Rattle.sf_base.specs.declared.value.Value.TheVariants.{Nil as nil}
use Rattle.sf_base.specs.HeapStore.{Apart, Cell, Heap, IsEmpty, IsOne, Splits, put_field}
use Rattle.sf_base.proofs.Bools.{and-left, and-right, or_three-parts}
use Rattle.sf_base.proofs.HeapSplits.{at-other, at-same, at-self}
use Rattle.sf_base.proofs.MapSplits.{empty_map, empty-holds, splits-empty_right, splits-union}
use Rattle.sf_core.proofs.Assertions.DoubleSegments.{dseg-one}
use Rattle.sf_core.specs.Assertions.Sat.{Dseg, HasFields, empty, end, cell, leaf, linked, node}
use Rattle.sf_core.specs.declared.fields.Links.{Links}
use Rattle.sf_sym.specs.declared.atom.Atom.{Atom}
use Rattle.sf_sym.specs.declared.atom.Atom.TheVariants.{Points, Ls, Tree, Dll}
use Rattle.sf_sym.specs.declared.atom.Numbered.{Numbered}
use Rattle.sf_sym.specs.declared.term.Term.{Term}
use Rattle.sf_sym.specs.declared.term.Term.TheVariants.{Nil, Int, Sym}
use Rattle.sf_sym.specs.Checked.Lemmas.{same_term_is}
use Rattle.sf_sym.specs.Fields.{AreAfter, AreOrdered}
use Rattle.sf_sym.specs.Holds.{Agrees, AtomHolds, AtomsHold, Differ, DsegAlong, SegAlong, TreeAlong, term_value}
use Rattle.sf_sym.specs.Tests.{has_repeat, is_constant, is_impossible, parts, same_term}
use Rattle.sf_witness.specs.Checked.Laws.{WitnessesSatisfy}
use Rattle.sf_witness.specs.Located.{located, value_at}
use Rattle.sf_witness.specs.Normal.{all_roots, is_open, roots}
use Rattle.sf_witness.specs.Satisfied.{HasCell, HaveValues}
use Rattle.sf_witness.specs.WitnessState.{beside, double_cell, heap_of_atom, heap_of_atoms, nil_cell, one_cell, values, with_fields, with_link}
use Rattle.sf_witness.proofs.Heaps.{atoms-append}
use Rattle.sf_witness.proofs.Normality.{open_parts}

-- VALUES terms with one value are one
pub value-injective : (t u : Term) → value_at t ≡ value_at u → same_term t u ≡ true
value-injective Nil Nil e = refl
value-injective Nil (Int j) e = absurd (cc)
value-injective Nil (Sym n) e = absurd (cc)
value-injective (Int i) Nil e = absurd (cc)
value-injective (Int i) (Int j) e = (Decides-int_eq i j).1 (cc)
value-injective (Int i) (Sym n) e = absurd (cc)
value-injective (Sym m) Nil e = absurd (cc)
value-injective (Sym m) (Int j) e = absurd (cc)
value-injective (Sym m) (Sym n) e = let same : suc m ≡ suc n = cc in (Decides-eqb m n).1 (omega (arith, same))

-- different terms have different values
value-differs : (t u : Term) → same_term t u ≡ false → value_at t ≢ value_at u
value-differs t u e same = let k = value-injective t u same in absurd (cc)

-- variables with these values agree with the state's
vars-agree : (e : Var → Option Value) (vars : List (Var × Term)) → HaveValues e (values vars)
    → AllByRecursion (Agrees located e) vars
vars-agree e [] a = tt
vars-agree e (v ∷ vs) a = (a.0, vars-agree e vs a.1)

-- no pair is of one term
pairs-differ : (ps : List (Term × Term)) → list_any (λ p. same_term p.0 p.1) ps ≡ false
    → AllByRecursion (Differ located) ps
pairs-differ [] e = tt
pairs-differ (p ∷ ps) e = go (same_term p.0 p.1) refl e (pairs-differ ps)
  where
    go : (b : Bool) → same_term p.0 p.1 ≡ b → b || list_any (λ p. same_term p.0 p.1) ps ≡ false
        → (list_any (λ p. same_term p.0 p.1) ps ≡ false → AllByRecursion (Differ located) ps)
        → AllByRecursion (Differ located) (p ∷ ps)
    go true s f rest = absurd (cc)
    go false s f rest = (value-differs p.0 p.1 s, rest f)

-- FIELDS a field that isn't among these stays
fields-other : (fs : List (FieldId × Term)) (c : Cell) (n : ℕ) → AreAfter n fs → with_fields fs c n ≡ c n
fields-other [] c n a = refl
fields-other (f ∷ fs) c n a =
    fields-other fs (put_field c f.0.0 (value_at f.1)) n a.1
    ∙ ap (λ b. cond b (value_at f.1) (c n)) (before n f.0.0 a.0)
  where
    before : (m k : ℕ) → m < k → m == k ≡ false
    before m k h = grind (arith, nat_tests)

-- fields in order have their values
fields-has : (fs : List (FieldId × Term)) (c : Cell) → AreOrdered fs
    → HasFields (term_value located) fs (with_fields fs c)
fields-has [] c o = tt
fields-has (f ∷ fs) c o = (
  fields-other fs (put_field c f.0.0 (value_at f.1)) f.0.0 o.0
      ∙ ap (λ b. cond b (value_at f.1) (c f.0.0)) (at-self f.0.0),
  fields-has fs (put_field c f.0.0 (value_at f.1)) o.1,
)

-- CELLS one cell at a symbol
one-is : (n : ℕ) (c : Cell) → IsOne (suc n) c (one_cell (Sym n) c)
one-is n c = record {
  here = ap (λ b. cond b (Some c) None) (at-self (suc n));
  elsewhere = λ l other. ap (λ b. cond b (Some c) None) (at-other (suc n) l other);
}

nothing : IsEmpty {K = ℕ} {X = Cell} (λ l. None)
nothing = record { none = λ l. refl }

-- a segment is empty, or one cell
ls-holds : (tl : Option FieldId) (t u : Term) → is_some tl ≡ true → (b : Bool) → same_term t u ≡ b
    → AllByRecursion (λ r. is_constant r ≡ false) (cond b [] (t ∷ []))
    → SegAlong tl (value_at t) (value_at u) (cond b (λ l. None) (one_cell t (with_link tl u nil_cell)))
ls-holds None t u e b s a = absurd (cc)
ls-holds (Some next) t u e true s a = end (ap value_at (same_term_is t u s)) nothing
ls-holds (Some next) Nil u e false s a = absurd (cc (a.0))
ls-holds (Some next) (Int i) u e false s a = absurd (cc (a.0))
ls-holds (Some next) (Sym n) u e false s a =
    cell (value-differs (Sym n) u s) (suc n) (put_field nil_cell next.0 (value_at u))
    (one_cell (Sym n) (put_field nil_cell next.0 (value_at u))) empty_map refl
    (one-is n (put_field nil_cell next.0 (value_at u))) (splits-empty_right empty-holds)
    (end (ap (λ b. cond b (value_at u) nil) (at-self next.0)) empty-holds)

-- a tree is empty, or one cell
tree-holds : (l r : Option FieldId) (t : Term) → is_some l ≡ true → is_some r ≡ true → (b : Bool)
    → same_term t Nil ≡ b → AllByRecursion (λ r. is_constant r ≡ false) (cond b [] (t ∷ []))
    → TreeAlong l r (value_at t) (cond b (λ l. None) (one_cell t nil_cell))
tree-holds None r t e f b s a = absurd (cc)
tree-holds (Some l) None t e f b s a = absurd (cc)
tree-holds (Some l) (Some r) t e f true s a = leaf (ap value_at (same_term_is t Nil s)) nothing
tree-holds (Some l) (Some r) Nil e f false s a = absurd (cc (a.0))
tree-holds (Some l) (Some r) (Int i) e f false s a = absurd (cc (a.0))
tree-holds (Some l) (Some r) (Sym n) e f false s a =
    node (suc n) nil_cell (one_cell (Sym n) nil_cell) empty_map empty_map empty_map refl (one-is n nil_cell)
    (splits-empty_right empty-holds) (splits-empty_right empty-holds) (leaf refl empty-holds) (leaf refl empty-holds)

-- TESTS of lists
any-left : {X : Type 0} (p : X → Bool) (xs ys : List X) → list_any p xs ≡ true → list_any p (xs ++ ys) ≡ true
any-left p [] ys e = absurd (cc)
any-left p (x ∷ xs) ys e = go (p x) e (any-left p xs ys)
  where
    go : (b : Bool) → b || list_any p xs ≡ true → (list_any p xs ≡ true → list_any p (xs ++ ys) ≡ true)
        → b || list_any p (xs ++ ys) ≡ true
    go true f rest = refl
    go false f rest = rest f

any-right : {X : Type 0} (p : X → Bool) (xs ys : List X) → list_any p ys ≡ true → list_any p (xs ++ ys) ≡ true
any-right p [] ys e = e
any-right p (x ∷ xs) ys e = go (p x) (any-right p xs ys e)
  where
    go : (b : Bool) → list_any p (xs ++ ys) ≡ true → b || list_any p (xs ++ ys) ≡ true
    go true f = refl
    go false f = f

-- DOUBLY LINKED SEGMENTS along two fields that differ
module _ (next back : FieldId) (differ : Some next ≢ Some back) where
  -- a cell that leads there, and back to that
  abbrev cell_to : (to before : Term) → Cell
  cell_to to before = double_cell (Some next) (Some back) to before

  leads-back : (to before : Term) → cell_to to before back.0 ≡ value_at before
  leads-back to before =
      ap (λ b. cond b (value_at before) (put_field nil_cell next.0 (value_at to) back.0)) (at-self back.0)

  leads-to : (to before : Term) → cell_to to before next.0 ≡ value_at to
  leads-to to before =
      ap (λ b. cond b (value_at before) (put_field nil_cell next.0 (value_at to) next.0))
      (at-other back.0 next.0 (λ e. differ (ap (λ (n : ℕ). Some (record { 0 = n })) e)))
      ∙ ap (λ b. cond b (value_at to) nil) (at-self next.0)

  -- two cells at different symbols are apart
  cells-apart : (n k : ℕ) (one other : Cell) → same_term (Sym k) (Sym n) ≡ false
      → (l : ℕ) → Apart (one_cell (Sym n) one l) (one_cell (Sym k) other l)
  cells-apart n k one other s l = go (l == suc n) refl (l == suc k) refl
    where
      go : (a : Bool) → (l == suc n) ≡ a → (b : Bool) → (l == suc k) ≡ b
          → Apart (cond a (Some one) None) (cond b (Some other) None)
      go false i b j = tt
      go true i false j = tt
      go true i true j =
          let both : suc k ≡ suc n = sym (at-same (suc k) l j) ∙ at-same (suc n) l i in
          let same : k == n ≡ true = (Decides-eqb k n).1 (omega (arith, both)) in
          absurd (cc)

  -- one that isn't empty is one cell, or two
  cells-hold : (n k : ℕ) (p u : Term) → same_term (Sym n) u ≡ false → same_term (Sym k) u ≡ false
      → (b : Bool) → same_term (Sym k) (Sym n) ≡ b
      → Dseg next back (value_at (Sym k)) (value_at u) (value_at p) (value_at (Sym n))
      (cond b (one_cell (Sym n) (cell_to (cond b u (Sym k)) p))
      (beside (one_cell (Sym n) (cell_to (cond b u (Sym k)) p)) (one_cell (Sym k) (cell_to u (Sym n)))))
  cells-hold n k p u d e true s =
      dseg-one (suc n) (cell_to u p) (value-differs (Sym n) u d) refl
      (ap value_at (sym (same_term_is (Sym k) (Sym n) s))) (one-is n (cell_to u p)) (leads-back u p) (leads-to u p)
  cells-hold n k p u d e false s =
      let first = cell_to (Sym k) p in
      let last = cell_to u (Sym n) in
      linked (value-differs (Sym n) u d) (suc n) first (one_cell (Sym n) first) (one_cell (Sym k) last) refl
      (one-is n first) (splits-union (cells-apart n k first last s)) (leads-back (Sym k) p)
      (subst (λ x. Dseg next back (value_at (Sym k)) (value_at u) (value_at (Sym n)) x (one_cell (Sym k) last))
      (sym (leads-to (Sym k) p))
      (dseg-one (suc k) last (value-differs (Sym k) u e) refl refl (one-is k last) (leads-back u (Sym n))
      (leads-to u (Sym n))))

-- neither of two tests is true
neither : (a b : Bool) → not (a || b) ≡ true → (a ≡ false) × (b ≡ false)
neither true b e = absurd (cc)
neither false true e = absurd (cc)
neither false false e = (refl, refl)

-- the terms at which a doubly linked segment has its cells are symbols
symbols-two : (v l : Term) → AllByRecursion (λ r. is_constant r ≡ false) (v ∷ cond (same_term l v) [] (l ∷ []))
    → (is_constant v ≡ false) × (is_constant l ≡ false)
symbols-two v l a = (a.0, go (same_term l v) refl a.1)
  where
    go : (b : Bool) → same_term l v ≡ b → AllByRecursion (λ r. is_constant r ≡ false) (cond b [] (l ∷ []))
        → is_constant l ≡ false
    go true e r = ap is_constant (same_term_is l v e) ∙ a.0
    go false e r = r.0

-- a doubly linked segment is empty, one cell, or two
double-holds : (next back : Option FieldId) (v p l u : Term) → is_some next ≡ true → is_some back ≡ true → next ≢ back
    → (b : Bool) → same_term v u && same_term p l ≡ b
    → AllByRecursion (λ r. is_constant r ≡ false) (cond b [] (v ∷ cond (same_term l v) [] (l ∷ [])))
    → b || not (same_term v u || same_term l u) ≡ true
    → DsegAlong next back (value_at v) (value_at p) (value_at l) (value_at u)
    (cond b (λ location. None)
    (cond (same_term l v) (one_cell v (double_cell next back (cond (same_term l v) u l) p))
    (beside (one_cell v (double_cell next back (cond (same_term l v) u l) p)) (one_cell l (double_cell next back u v)))))
double-holds None back v p l u e f d b s r o = absurd (cc)
double-holds (Some next) None v p l u e f d b s r o = absurd (cc)
double-holds (Some next) (Some back) v p l u e f d true s r o =
    empty (ap value_at (same_term_is v u (and-left (same_term v u) (same_term p l) s)))
    (ap value_at (same_term_is p l (and-right (same_term v u) (same_term p l) s))) nothing
double-holds (Some next) (Some back) Nil p l u e f d false s r o = absurd (cc (r.0))
double-holds (Some next) (Some back) (Int i) p l u e f d false s r o = absurd (cc (r.0))
double-holds (Some next) (Some back) (Sym n) p Nil u e f d false s r o =
    let k = (symbols-two (Sym n) Nil r).1 in absurd (cc)
double-holds (Some next) (Some back) (Sym n) p (Int i) u e f d false s r o =
    let k = (symbols-two (Sym n) (Int i) r).1 in absurd (cc)
double-holds (Some next) (Some back) (Sym n) p (Sym k) u e f d false s r o =
    let ends = neither (same_term (Sym n) u) (same_term (Sym k) u) o in
    cells-hold next back d n k p u ends.0 ends.1 (same_term (Sym k) (Sym n)) refl

-- ATOMS an atom holds on its heap
atom-holds : (links : Links) (a : Atom) → HasCell links a → AllByRecursion (λ r. is_constant r ≡ false) (roots a)
    → is_open a ≡ true → AtomHolds located links a (heap_of_atom links a)
atom-holds links (Points Nil fields) h r o = absurd (cc (r.0))
atom-holds links (Points (Int i) fields) h r o = absurd (cc (r.0))
atom-holds links (Points (Sym n) fields) h r o =
    (suc n, with_fields fields nil_cell, refl, one-is n (with_fields fields nil_cell), fields-has fields nil_cell h)
atom-holds links (Ls t u) h r o = ls-holds links.tl t u h (same_term t u) refl r
atom-holds links (Tree t) h r o = tree-holds links.l links.r t h.0 h.1 (same_term t Nil) refl r
atom-holds links (Dll v p l u) h r o =
    double-holds links.tl links.pv v p l u h.0 h.1 h.2 (same_term v u && same_term p l) refl r o

-- where one cell is, it has its symbol
abbrev IsRootAt : List Term → ℕ → Type 0
IsRootAt ts l = (n : ℕ) × (l ≡ suc n) × (list_any (λ t. same_term t (Sym n)) ts ≡ true)

cell-there : (t : Term) (others : List Term) (k c : Cell) (l : ℕ) → one_cell t k l ≡ Some c → IsRootAt (t ∷ others) l
cell-there Nil others k c l e = absurd (none-some c e)
cell-there (Int i) others k c l e = absurd (none-some c e)
cell-there (Sym n) others k c l e = at (l == suc n) refl e
  where
    at : (b : Bool) → (l == suc n) ≡ b → cond b (Some k) None ≡ Some c → IsRootAt (Sym n ∷ others) l
    at true s f =
        (n, at-same (suc n) l s, ap (λ b. b || list_any (λ t. same_term t (Sym n)) others) (at-self n))
    at false s f = absurd (none-some c f)

behind : (t : Term) (ts : List Term) (l : ℕ) → IsRootAt ts l → IsRootAt (t ∷ ts) l
behind t ts l w = (w.0, w.1, any-right (λ u. same_term u (Sym w.0)) (t ∷ []) ts w.2)

-- where an atom has a cell it has one of its roots
atom-there : (links : Links) (a : Atom) (l : ℕ) (c : Cell) → heap_of_atom links a l ≡ Some c → IsRootAt (roots a) l
atom-there links (Points t fields) l c e = cell-there t [] (with_fields fields nil_cell) c l e
atom-there links (Ls t u) l c e = go (same_term t u) e
  where
    go : (b : Bool) → cond b (λ (location : ℕ). None) (one_cell t (with_link links.tl u nil_cell)) l ≡ Some c
        → IsRootAt (cond b [] (t ∷ [])) l
    go true f = absurd (none-some c f)
    go false f = cell-there t [] (with_link links.tl u nil_cell) c l f
atom-there links (Tree t) l c e = go (same_term t Nil) e
  where
    go : (b : Bool) → cond b (λ (location : ℕ). None) (one_cell t nil_cell) l ≡ Some c
        → IsRootAt (cond b [] (t ∷ [])) l
    go true f = absurd (none-some c f)
    go false f = cell-there t [] nil_cell c l f
atom-there links (Dll v p m u) l c e = go (same_term v u && same_term p m) (same_term m v) e
  where
    second : (first last : Cell) (o : Option Cell) → one_cell v first l ≡ o
        → option_or o (one_cell m last l) ≡ Some c → IsRootAt (v ∷ m ∷ []) l
    second first last (Some k) i f = cell-there v (m ∷ []) first k l i
    second first last None i f = behind v (m ∷ []) l (cell-there m [] last c l f)

    go : (b same : Bool)
        → cond b (λ (location : ℕ). None)
        (cond same (one_cell v (double_cell links.tl links.pv (cond same u m) p))
        (beside (one_cell v (double_cell links.tl links.pv (cond same u m) p))
        (one_cell m (double_cell links.tl links.pv u v)))) l ≡ Some c
        → IsRootAt (cond b [] (v ∷ cond same [] (m ∷ []))) l
    go true same f = absurd (none-some c f)
    go false true f = cell-there v [] (double_cell links.tl links.pv u p) c l f
    go false false f =
        second (double_cell links.tl links.pv m p) (double_cell links.tl links.pv u v)
        (one_cell v (double_cell links.tl links.pv m p) l) refl f

-- where atoms have a cell one of them has its root
atoms-there : (links : Links) (xs : List Numbered) (l : ℕ) (c : Cell) → heap_of_atoms links xs l ≡ Some c
    → (n : ℕ) × (l ≡ suc n) × (list_any (λ t. same_term t (Sym n)) (all_roots xs) ≡ true)
atoms-there links [] l c e = absurd (none-some c e)
atoms-there links (x ∷ xs) l c e =
    go (heap_of_atom links x.atom l) refl e (atoms-there links xs l c)
  where
    go : (o : Option Cell) → heap_of_atom links x.atom l ≡ o
        → option_or o (heap_of_atoms links xs l) ≡ Some c
        → (heap_of_atoms links xs l ≡ Some c
        → (n : ℕ) × (l ≡ suc n) × (list_any (λ t. same_term t (Sym n)) (all_roots xs) ≡ true))
        → (n : ℕ) × (l ≡ suc n) × (list_any (λ t. same_term t (Sym n)) (all_roots (x ∷ xs)) ≡ true)
    go (Some k) i f rest =
        let w = atom-there links x.atom l k i in
        (w.0, w.1, any-left (λ t. same_term t (Sym w.0)) (roots x.atom) (all_roots xs) w.2)
    go None i f rest =
        let w = rest f in
        (w.0, w.1, any-right (λ t. same_term t (Sym w.0)) (roots x.atom) (all_roots xs) w.2)

-- DISTINCT one symbol isn't in two lists that have no repeat together
not-again : (n : ℕ) (t : Term) (ts : List Term) → same_term t (Sym n) ≡ true
    → AllByRecursion (λ u. same_term t u ≡ false) ts → list_any (λ u. same_term u (Sym n)) ts ≡ true → ⊥
not-again n t [] e a i = absurd (cc)
not-again n t (u ∷ us) e a i = go (same_term u (Sym n)) refl i (not-again n t us e a.1)
  where
    go : (b : Bool) → same_term u (Sym n) ≡ b → b || list_any (λ u. same_term u (Sym n)) us ≡ true
        → (list_any (λ u. same_term u (Sym n)) us ≡ true → ⊥) → ⊥
    go true s f rest =
        let both : t ≡ u = same_term_is t (Sym n) e ∙ sym (same_term_is u (Sym n) s) in
        let k : same_term t u ≡ true = value-injective t u (ap value_at both) in absurd (cc (a.0))
    go false s f rest = rest f

all-right : {X : Type 0} (P : X → Type 0) (xs ys : List X) → AllByRecursion P (xs ++ ys) → AllByRecursion P ys
all-right P [] ys a = a
all-right P (x ∷ xs) ys a = all-right P xs ys a.1

all-left : {X : Type 0} (P : X → Type 0) (xs ys : List X) → AllByRecursion P (xs ++ ys) → AllByRecursion P xs
all-left P [] ys a = tt
all-left P (x ∷ xs) ys a = (a.0, all-left P xs ys a.1)

distinct-left : (ts us : List Term) → IsDistinct same_term (ts ++ us) → IsDistinct same_term ts
unfolding IsDistinct
distinct-left [] us d = tt
distinct-left (t ∷ ts) us d = (all-left (λ u. same_term t u ≡ false) ts us d.0, distinct-left ts us d.1)

distinct-right : (ts us : List Term) → IsDistinct same_term (ts ++ us) → IsDistinct same_term us
unfolding IsDistinct
distinct-right [] us d = d
distinct-right (t ∷ ts) us d = distinct-right ts us d.1

distinct-apart : (n : ℕ) (ts us : List Term) → IsDistinct same_term (ts ++ us)
    → list_any (λ t. same_term t (Sym n)) ts ≡ true → list_any (λ t. same_term t (Sym n)) us ≡ true → ⊥
unfolding IsDistinct
distinct-apart n [] us d i j = absurd (cc)
distinct-apart n (t ∷ ts) us d i j =
    go (same_term t (Sym n)) refl i (λ k. distinct-apart n ts us d.1 k j)
    (λ e. not-again n t us e (all-right (λ u. same_term t u ≡ false) ts us d.0) j)
  where
    go : (b : Bool) → same_term t (Sym n) ≡ b → b || list_any (λ u. same_term u (Sym n)) ts ≡ true
        → (list_any (λ u. same_term u (Sym n)) ts ≡ true → ⊥) → (same_term t (Sym n) ≡ true → ⊥) → ⊥
    go true s f rest here = here s
    go false s f rest here = rest f

-- two heaps whose cells are at symbols of such lists are apart
heaps-apart : (ts us : List Term) (one other : Heap) → IsDistinct same_term (ts ++ us)
    → ((l : ℕ) (c : Cell) → one l ≡ Some c
    → (n : ℕ) × (l ≡ suc n) × (list_any (λ t. same_term t (Sym n)) ts ≡ true))
    → ((l : ℕ) (c : Cell) → other l ≡ Some c
    → (n : ℕ) × (l ≡ suc n) × (list_any (λ t. same_term t (Sym n)) us ≡ true))
    → (l : ℕ) → Apart (one l) (other l)
heaps-apart ts us one other d f g l = go (one l) (other l) refl refl
  where
    go : (o p : Option Cell) → one l ≡ o → other l ≡ p → Apart o p
    go None p i j = tt
    go (Some c) None i j = tt
    go (Some c) (Some k) i j =
        let v = f l c i in
        let w = g l k j in
        let same : v.0 ≡ w.0 = omega (arith, v.1, w.1) in
        distinct-apart w.0 ts us d (subst (λ n. list_any (λ t. same_term t (Sym n)) ts ≡ true) same v.2) w.2

-- atoms hold on their heap
atoms-hold : (links : Links) (xs : List Numbered) → AllByRecursion (λ (a : Numbered). HasCell links a.atom) xs
    → AllByRecursion (λ r. is_constant r ≡ false) (all_roots xs) → IsDistinct same_term (all_roots xs)
    → list_all (λ a. is_open a.atom) xs ≡ true
    → AtomsHold located links xs (heap_of_atoms links xs)
atoms-hold links [] h r d o = nothing
atoms-hold links (x ∷ xs) h r d o = record {
  left = heap_of_atom links x.atom;
  right = heap_of_atoms links xs;
  splits = splits-union (heaps-apart (roots x.atom) (all_roots xs) (heap_of_atom links x.atom) (heap_of_atoms links xs) d
      (atom-there links x.atom) (atoms-there links xs));
  first = atom-holds links x.atom h.0 (all-left (λ t. is_constant t ≡ false) (roots x.atom) (all_roots xs) r)
      (and-left (is_open x.atom) (list_all (λ a. is_open a.atom) xs) o);
  second = atoms-hold links xs h.1 (all-right (λ t. is_constant t ≡ false) (roots x.atom) (all_roots xs) r)
      (distinct-right (roots x.atom) (all_roots xs) d)
      (and-right (is_open x.atom) (list_all (λ a. is_open a.atom) xs) o);
}

-- the roots of two lists
roots-append : (xs ys : List Numbered) → all_roots (xs ++ ys) ≡ all_roots xs ++ all_roots ys
roots-append xs ys = flat_map-append (λ a. roots a.atom) xs ys

-- the witness satisfies what the state knows
pub witnesses_satisfy : WitnessesSatisfy
unfolding WitnessesSatisfy
witnesses_satisfy s n h e have =
    let apart : list_any (λ p. same_term p.0 p.1) s.apart ≡ false =
    (or_three-parts (list_any (λ p. same_term p.0 p.1) s.apart)
    (list_any (λ a. is_impossible s.apart a.atom) (parts s)) (has_repeat s.apart (parts s)) n.possible).0 in
    let roots_in = roots-append s.atoms s.taken in
    let symbols = subst (AllByRecursion (λ r. is_constant r ≡ false)) roots_in n.symbols in
    let own = subst (IsDistinct same_term) roots_in n.own in
    let ends = open_parts s ∙ n.ends in
    let one = list_all (λ a. is_open a.atom) s.atoms in
    let two = list_all (λ a. is_open a.atom) s.taken in
    record {
      vars = vars-agree e s.vars have;
      apart = pairs-differ s.apart apart;
      heaps = record {
        left = heap_of_atoms s.links s.atoms;
        right = heap_of_atoms s.links s.taken;
        splits = subst (λ (heap : Heap). Splits heap (heap_of_atoms s.links s.atoms) (heap_of_atoms s.links s.taken))
            (atoms-append s.links s.atoms s.taken)
            (splits-union (heaps-apart (all_roots s.atoms) (all_roots s.taken) (heap_of_atoms s.links s.atoms)
            (heap_of_atoms s.links s.taken) own (atoms-there s.links s.atoms) (atoms-there s.links s.taken)));
        first = atoms-hold s.links s.atoms
            (all-left (λ (a : Numbered). HasCell s.links a.atom) s.atoms s.taken h)
            (all-left (λ r. is_constant r ≡ false) (all_roots s.atoms) (all_roots s.taken) symbols)
            (distinct-left (all_roots s.atoms) (all_roots s.taken) own) (and-left one two ends);
        second = record {
          left = heap_of_atoms s.links s.taken;
          right = empty_map;
          splits = splits-empty_right empty-holds;
          first = atoms-hold s.links s.taken
              (all-right (λ (a : Numbered). HasCell s.links a.atom) s.atoms s.taken h)
              (all-right (λ r. is_constant r ≡ false) (all_roots s.atoms) (all_roots s.taken) symbols)
              (distinct-right (all_roots s.atoms) (all_roots s.taken) own) (and-right one two ends);
          second = empty-holds;
        };
      };
    }
