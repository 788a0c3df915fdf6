-- What the atoms of a state tell of the heap: where they have cells, and that no two have one.
-- Names: `located-LAW` speaks of a value that is the location of a cell, `atom-LAW` of one atom,
-- `atoms-LAW` of a list of atoms.
use Rattle.std.specs.List.{list_any, AllByRecursion}
use Rattle.std.proofs.Common.{◌≡◌, ◌≢◌, ℕ, Bool, true, ◌&&◌, List, [], ◌∷◌, Option, Some, None, refl, sym, ap, ◌∙◌, subst, inl, inr}
use Rattle.std.proofs.lemmas.Bool.{or_cases}
use Rattle.std.proofs.lemmas.Option.{none-some}
use Rattle.sf_base.specs.declared.ids.FieldId.{FieldId}
use Rattle.sf_base.specs.declared.value.Value.{Value}
use Rattle.sf_base.specs.declared.value.Value.TheVariants.{Nil as nil, Int as int}
use Rattle.sf_base.specs.HeapStore.{Heap, Splits}
use Rattle.sf_sym.specs.declared.atom.Atom.{Atom}
use Rattle.sf_sym.specs.declared.atom.Atom.TheVariants.{Points, Ls, Tree, Dll}
use Rattle.sf_sym.specs.declared.atom.Numbered.{Numbered}
use Rattle.sf_core.specs.declared.fields.Links.{Links}
use Rattle.sf_sym.specs.declared.term.Term.{Term}
use Rattle.sf_sym.specs.declared.term.Term.TheVariants.{Nil, Int, Sym}
use Rattle.sf_sym.specs.Holds.{term_value, Differ, DsegAlong, SegAlong, TreeAlong, AtomHolds, AtomsHold}
use Rattle.sf_sym.specs.Checked.Laws.{IsLocationIn}
use Rattle.sf_sym.specs.Tests.{same_term, begins, is_allocated_in, is_at_constant, is_constant, roots, has_cell, allocates, is_integer_tree, is_impossible, has_repeat}
use Rattle.sf_base.proofs.MapSplits.{splits-has_left, splits-has_right, splits-lacks_right}
use Rattle.sf_base.proofs.HeapSplits.{one-in}
use Rattle.sf_base.proofs.Bools.{and-left, and-right}
use Rattle.sf_core.proofs.Assertions.DoubleSegments.{dseg-first_cell, dseg-last_cell}
use Rattle.sf_core.proofs.Assertions.Segments.{loc-same, seg-first}
use Rattle.sf_core.proofs.Assertions.Trees.{tree-root}
use Rattle.sf_sym.specs.Checked.Lemmas.{same_term_is}
use Rattle.sf_sym.specs.Checked.Lemmas.Terms.{term-constant_no_location, direct-differs}

-- a location of the left part is one of the whole
pub located-left : {h g k : Heap} {v : Value} → Splits h g k → IsLocationIn g v → IsLocationIn h v
located-left s l =
    record {
      location = l.location;
      here = l.here;
      is = l.is;
      there = splits-has_left l.location l.here s l.there;
    }

-- a location of the right part is one of the whole
pub located-right : {h g k : Heap} {v : Value} → Splits h g k → IsLocationIn k v → IsLocationIn h v
located-right s l =
    record {
      location = l.location;
      here = l.here;
      is = l.is;
      there = splits-has_right l.location l.here s l.there;
    }

-- locations of disjoint heaps differ
pub located-apart : {h g k : Heap} {v u : Value} → Splits h g k → IsLocationIn g v → IsLocationIn k u → v ≢ u
located-apart {h} {g} {k} s a b e =
    let same : a.location ≡ b.location = loc-same a.location b.location (sym a.is ∙ e ∙ b.is) in
    none-some b.here (sym (splits-lacks_right a.location a.here s a.there) ∙ ap k same ∙ b.there)

-- one of the terms passes a test, and is as all of them are
one-of : (P : Term → Type 0) (p : Term → Bool) (ts : List Term) → AllByRecursion P ts → list_any p ts ≡ true
    → (t : Term) × P t × (p t ≡ true)
one-of P p [] all e = absurd (cc)
one-of P p (t ∷ ts) all e = elim (or_cases (p t) (list_any p ts) e) [
  | inl here ↦ (t, all.0, here)
  | inr later ↦ one-of P p ts all.1 later
]

-- a segment whose ends differ begins at a location
pub seg_along-located : (next : Option FieldId) (from to : Value) (h : Heap) → from ≢ to
    → SegAlong next from to h → IsLocationIn h from
seg_along-located None from to h n s = absurd s
seg_along-located (Some next) from to h n s =
    let f = seg-first n s in record { location = f.0; here = f.1; is = f.2; there = f.3 }

-- a doubly linked segment whose ends differ has a cell at its first and one at its last location
pub dseg_along-located : (next back : Option FieldId) (from before last to : Value) (h : Heap) → from ≢ to
    → DsegAlong next back from before last to h → IsLocationIn h from × IsLocationIn h last
dseg_along-located None back from before last to h n s = absurd s
dseg_along-located (Some next) None from before last to h n s = absurd s
dseg_along-located (Some next) (Some back) from before last to h n s =
    let f = dseg-first_cell n s in
    let g = dseg-last_cell n s in (
      record { location = f.0; here = f.1; is = f.2; there = f.3 },
      record { location = g.0; here = g.1; is = g.2; there = g.3 },
    )

-- a tree of another value than nil has its root at a location
pub tree_along-located : (left right : Option FieldId) (v : Value) (h : Heap) → v ≢ nil
    → TreeAlong left right v h → IsLocationIn h v
tree_along-located None right v h n s = absurd s
tree_along-located (Some left) None v h n s = absurd s
tree_along-located (Some left) (Some right) v h n s =
    let r = tree-root n s in
    record { location = r.location; here = r.here; is = r.is; there = one-in r.cell r.splits }

module _ (w : ℕ → Value) (links : Links) (apart : List (Term × Term))
    (differ : AllByRecursion (Differ w) apart) where
  -- an atom with a cell has one at the value of each of its roots
  pub atom-located : (a : Atom) (h : Heap) → has_cell apart a ≡ true → AtomHolds w links a h
      → AllByRecursion (λ t. IsLocationIn h (term_value w t)) (roots a)
  atom-located (Points t fields) h e (location, here, is, one, f) =
      (record { location = location; here = here; is = is; there = one.here }, tt)
  atom-located (Ls t u) h e s = (seg_along-located links.tl _ _ h (direct-differs w apart t u differ e) s, tt)
  atom-located (Tree t) h e s =
      (tree_along-located links.l links.r _ h (direct-differs w apart t Nil differ e) s, tt)
  atom-located (Dll v p l u) h e s =
      let both = dseg_along-located links.tl links.pv _ _ _ _ h (direct-differs w apart v u differ e) s in
      (both.0, (both.1, tt))

  -- a term that an atom allocates is a location
  pub atom-allocated : (t : Term) (a : Atom) (h : Heap) → allocates apart t a ≡ true → AtomHolds w links a h
      → IsLocationIn h (term_value w t)
  atom-allocated t a h e s =
      let (r, here, is) = one-of (λ r. IsLocationIn h (term_value w r)) (λ r. same_term r t) (roots a)
      (atom-located a h (and-right (begins t a) (has_cell apart a) e) s)
      (and-left (begins t a) (has_cell apart a) e) in
      subst (λ u. IsLocationIn h (term_value w u)) (same_term_is r t is) here

  -- a term that one of the atoms allocates is a location
  pub atoms-located : (t : Term) (p : Numbered → Bool)
      → ((a : Numbered) → p a ≡ true → allocates apart t a.atom ≡ true)
      → (xs : List Numbered) (h : Heap) → list_any p xs ≡ true → AtomsHold w links xs h
      → IsLocationIn h (term_value w t)
  atoms-located t p tells [] h e s = absurd (cc)
  atoms-located t p tells (a ∷ xs) h e s = elim (or_cases (p a) (list_any p xs) e) [
    | inl y ↦ located-left s.splits (atom-allocated t a.atom s.left (tells a y) s.first)
    | inr y ↦ located-right s.splits (atoms-located t p tells xs s.right y s.second)
  ]

  -- two terms that different atoms allocate have different values
  pub atoms-differ : (t u : Term) (p q : Numbered → Bool)
      → ((a : Numbered) → p a ≡ true → allocates apart t a.atom ≡ true)
      → ((a : Numbered) → q a ≡ true → allocates apart u a.atom ≡ true)
      → ((a : Numbered) → p a ≡ true → q a ≡ true → ⊥)
      → (xs : List Numbered) (h : Heap) → list_any p xs ≡ true → list_any q xs ≡ true
      → AtomsHold w links xs h → term_value w t ≢ term_value w u
  atoms-differ t u p q tp tq never [] h e f s = absurd (cc)
  atoms-differ t u p q tp tq never (a ∷ xs) h e f s = elim (or_cases (p a) (list_any p xs) e) [
    | inl y ↦ elim (or_cases (q a) (list_any q xs) f) [
      | inl z ↦ absurd (never a y z)
      | inr z ↦
          located-apart s.splits (atom-allocated t a.atom s.left (tp a y) s.first)
          (atoms-located u q tq xs s.right z s.second)
    ]
    | inr y ↦ elim (or_cases (q a) (list_any q xs) f) [
      | inl z ↦
          λ i. located-apart s.splits (atom-allocated u a.atom s.left (tq a z) s.first)
          (atoms-located t p tp xs s.right y s.second) (sym i)
      | inr z ↦ atoms-differ t u p q tp tq never xs s.right y z s.second
    ]
  ]

  -- no heap has the tree of an integer
  pub atom-no_integer_tree : (a : Atom) (h : Heap) → is_integer_tree a ≡ true → AtomHolds w links a h → ⊥
  atom-no_integer_tree (Points t fields) h e s = absurd (cc)
  atom-no_integer_tree (Ls t u) h e s = absurd (cc)
  atom-no_integer_tree (Tree Nil) h e s = absurd (cc)
  atom-no_integer_tree (Tree (Int i)) h e s =
      let l = tree_along-located links.l links.r (int i) h (λ p. absurd (cc)) s in
      term-constant_no_location w (Int i) l.location refl l.is
  atom-no_integer_tree (Tree (Sym n)) h e s = absurd (cc)
  atom-no_integer_tree (Dll v p l u) h e s = absurd (cc)

  -- no heap has an impossible atom
  pub atom-possible : (a : Atom) (h : Heap) → is_impossible apart a ≡ true → AtomHolds w links a h → ⊥
  atom-possible a h e s = elim (or_cases (is_at_constant apart a) (is_integer_tree a) e) [
    | inl y ↦
        let (r, l, is) = one-of (λ r. IsLocationIn h (term_value w r)) is_constant (roots a)
        (atom-located a h (and-right (list_any is_constant (roots a)) (has_cell apart a) y) s)
        (and-left (list_any is_constant (roots a)) (has_cell apart a) y) in
        term-constant_no_location w r l.location is l.is
    | inr y ↦ atom-no_integer_tree a h y s
  ]

  -- no heap has atoms of which one is impossible
  pub atoms-possible : (xs : List Numbered) (h : Heap)
      → list_any (λ a. is_impossible apart a.atom) xs ≡ true → AtomsHold w links xs h → ⊥
  atoms-possible [] h e s = absurd (cc)
  atoms-possible (a ∷ xs) h e s =
      elim (or_cases (is_impossible apart a.atom) (list_any (λ a. is_impossible apart a.atom) xs) e) [
        | inl y ↦ atom-possible a.atom s.left y s.first
        | inr y ↦ atoms-possible xs s.right y s.second
      ]

  -- no heap has atoms of which two allocate one term
  pub atoms-no_repeat : (xs : List Numbered) (h : Heap) → has_repeat apart xs ≡ true
      → AtomsHold w links xs h → ⊥
  atoms-no_repeat [] h e s = absurd (cc)
  atoms-no_repeat (a ∷ xs) h e s =
      elim (or_cases (list_any (is_allocated_in apart xs) (roots a.atom) && has_cell apart a.atom)
      (has_repeat apart xs) e) [
        | inl y ↦
            let (r, here, is) = one-of (λ r. IsLocationIn s.left (term_value w r)) (is_allocated_in apart xs)
            (roots a.atom)
            (atom-located a.atom s.left (and-right (list_any (is_allocated_in apart xs) (roots a.atom))
            (has_cell apart a.atom) y) s.first)
            (and-left (list_any (is_allocated_in apart xs) (roots a.atom)) (has_cell apart a.atom) y) in
            located-apart s.splits here
            (atoms-located r (λ b. allocates apart r b.atom) (λ b z. z) xs s.right is s.second) refl
        | inr y ↦ atoms-no_repeat xs s.right y s.second
      ]
