-- Lists of atoms: one is taken out, one comes in place of another, one more comes, and what is said of every one.
-- Names: `atoms-LAW` of the heap that atoms hold on, `without-LAW` of a list without one, `numbers-LAW` of their numbers.
use Rattle.std.specs.List.{list_any, AllByRecursion}
use Rattle.std.proofs.Common.{◌≡◌, ℕ, ◌==◌, Bool, true, false, cond, List, [], ◌∷◌, ◌++◌, Some, refl, sym, ap, subst, inl, inr}
use Rattle.std.proofs.lemmas.Bool.{or_cases, or_left, or_right}
use Rattle.std.proofs.lemmas.Bool.Decides.{Decides-eqb}
use Rattle.sf_base.proofs.HeapSplits.{star-comm, star-empty_right, star-map_left, star-map_right, star-swap}
use Rattle.sf_base.specs.declared.ids.FieldId.{FieldId}
use Rattle.sf_base.specs.declared.value.Value.{Value}
use Rattle.sf_base.specs.HeapStore.{Heap, ◌⋆◌}
use Rattle.sf_core.specs.declared.fields.Links.{Links}
use Rattle.sf_sym.specs.Cells.{atom_at, cell_at, fields_at, with_fields, without}
use Rattle.sf_sym.specs.declared.atom.Atom.{Atom}
use Rattle.sf_sym.specs.declared.atom.Atom.TheVariants.{Points}
use Rattle.sf_sym.specs.declared.atom.Numbered.{Numbered}
use Rattle.sf_sym.specs.declared.term.Term.{Term}
use Rattle.sf_sym.specs.Holds.{AtomHolds, AtomsHold}
use Rattle.sf_sym.specs.Numbers.{numbers}
use Rattle.sf_sym.specs.Checked.Lemmas.{atoms-append, points_at}

-- a cell at a term is the atom of its number
pub at-cell : (atoms : List Numbered) (a : ℕ) (t : Term) (fields : List (FieldId × Term))
    → cell_at atoms a t ≡ Some fields → atom_at atoms a ≡ Some (Points t fields)
at-cell [] a t fields e = absurd (cc)
at-cell (y ∷ ys) a t fields e = go (y.number == a) e (λ i. at-cell ys a t fields i)
  where
    go : (b : Bool) → cond b (fields_at y.atom t) (cell_at ys a t) ≡ Some fields
        → (cell_at ys a t ≡ Some fields → atom_at ys a ≡ Some (Points t fields))
        → cond b (Some y.atom) (atom_at ys a) ≡ Some (Points t fields)
    go true i r = let same : y.atom ≡ Points t fields = points_at y.atom t fields i in cc
    go false i r = r i

-- the first atom of a number stays that where others come behind
pub at-append : (xs ys : List Numbered) (a : ℕ) (x : Atom) → atom_at xs a ≡ Some x
    → atom_at (xs ++ ys) a ≡ Some x
at-append [] ys a x e = absurd (cc)
at-append (y ∷ xs) ys a x e = go (y.number == a) e (λ i. at-append xs ys a x i)
  where
    go : (b : Bool) → cond b (Some y.atom) (atom_at xs a) ≡ Some x
        → (atom_at xs a ≡ Some x → atom_at (xs ++ ys) a ≡ Some x)
        → cond b (Some y.atom) (atom_at (xs ++ ys) a) ≡ Some x
    go true i r = i
    go false i r = r i

module _ (w : ℕ → Value) (links : Links) where
  -- the atom of a number holds beside the others
  pub atoms-out : (atoms : List Numbered) (a : ℕ) (x : Atom) (heap : Heap) → atom_at atoms a ≡ Some x
      → AtomsHold w links atoms heap → (AtomHolds w links x ⋆ AtomsHold w links (without atoms a)) heap
  atoms-out [] a x heap e s = absurd (cc)
  atoms-out (y ∷ ys) a x heap e s = go (y.number == a) e (λ part i d. atoms-out ys a x part i d)
    where
      go : (b : Bool) → cond b (Some y.atom) (atom_at ys a) ≡ Some x
          →
          ((part : Heap) → atom_at ys a ≡ Some x → AtomsHold w links ys part
          → (AtomHolds w links x ⋆ AtomsHold w links (without ys a)) part)
          → (AtomHolds w links x ⋆ AtomsHold w links (cond b ys (y ∷ without ys a))) heap
      go true i r =
          let same : y.atom ≡ x = cc in
          star-map_left (λ part d. subst (λ z. AtomHolds w links z part) same d) s
      go false i r = star-swap (star-map_right (λ part d. r part i d) s)

  -- a cell in place of one of the same number holds beside the others
  pub atoms-in_place : (atoms : List Numbered) (a : ℕ) (x : Atom) (t : Term) (fields : List (FieldId × Term))
      (heap : Heap)
      → atom_at atoms a ≡ Some x
      → (AtomHolds w links (Points t fields) ⋆ AtomsHold w links (without atoms a)) heap
      → AtomsHold w links (with_fields atoms a t fields) heap
  atoms-in_place [] a x t fields heap e s = absurd (cc)
  atoms-in_place (y ∷ ys) a x t fields heap e s =
      go (y.number == a) e (λ part i d. atoms-in_place ys a x t fields part i d) s
    where
      go : (b : Bool) → cond b (Some y.atom) (atom_at ys a) ≡ Some x
          →
          ((part : Heap) → atom_at ys a ≡ Some x
          → (AtomHolds w links (Points t fields) ⋆ AtomsHold w links (without ys a)) part
          → AtomsHold w links (with_fields ys a t fields) part)
          → (AtomHolds w links (Points t fields) ⋆ AtomsHold w links (cond b ys (y ∷ without ys a))) heap
          → AtomsHold w links
          (cond b (record { number = a; atom = Points t fields } ∷ ys) (y ∷ with_fields ys a t fields)) heap
      go true i r d = d
      go false i r d = star-map_right (λ part f. r part i f) (star-swap d)

  -- one more atom holds beside the others
  pub atoms-one_more : (atoms : List Numbered) (x : Numbered) (heap : Heap)
      → (AtomHolds w links x.atom ⋆ AtomsHold w links atoms) heap → AtomsHold w links (atoms ++ x ∷ []) heap
  atoms-one_more atoms x heap s =
      atoms-append w links atoms (x ∷ []) heap (star-map_right (λ part d. star-empty_right d) (star-comm s))

-- a test that the atom of that number fails finds among the others what it finds among all
pub without-any : (p : Numbered → Bool) (atoms : List Numbered) (a : ℕ)
    → ((x : Numbered) → x.number == a ≡ true → p x ≡ false) → list_any p atoms ≡ true
    → list_any p (without atoms a) ≡ true
without-any p [] a fails e = e
without-any p (y ∷ ys) a fails e = go (y.number == a) refl (λ i. without-any p ys a fails i)
  where
    go : (b : Bool) → y.number == a ≡ b → (list_any p ys ≡ true → list_any p (without ys a) ≡ true)
        → list_any p (cond b ys (y ∷ without ys a)) ≡ true
    go true i r = elim (or_cases (p y) (list_any p ys) e) [
      | inl here ↦ let not_here : p y ≡ false = fails y i in absurd (cc)
      | inr rest ↦ rest
    ]
    go false i r = elim (or_cases (p y) (list_any p ys) e) [
      | inl here ↦ or_left (p y) (list_any p (without ys a)) here
      | inr rest ↦ or_right (p y) (list_any p (without ys a)) (r rest)
    ]

module _ (Q : Atom → Type 0) where
  -- what is said of every atom is said of that of a number
  pub at-all : (atoms : List Numbered) (a : ℕ) (x : Atom) → atom_at atoms a ≡ Some x
      → AllByRecursion (λ (y : Numbered). Q y.atom) atoms → Q x
  at-all [] a x e h = absurd (cc)
  at-all (y ∷ ys) a x e h = go (y.number == a) e (λ i. at-all ys a x i h.1)
    where
      go : (b : Bool) → cond b (Some y.atom) (atom_at ys a) ≡ Some x → (atom_at ys a ≡ Some x → Q x) → Q x
      go true i r = let same : y.atom ≡ x = cc in subst Q same h.0
      go false i r = r i

  -- and of every one but that
  pub without-all : (atoms : List Numbered) (a : ℕ) → AllByRecursion (λ (y : Numbered). Q y.atom) atoms
      → AllByRecursion (λ (y : Numbered). Q y.atom) (without atoms a)
  without-all [] a h = tt
  without-all (y ∷ ys) a h = go (y.number == a) (without-all ys a h.1)
    where
      go : (b : Bool) → AllByRecursion (λ (y : Numbered). Q y.atom) (without ys a)
          → AllByRecursion (λ (y : Numbered). Q y.atom) (cond b ys (y ∷ without ys a))
      go true r = h.1
      go false r = (h.0, r)

  -- and of every one with a cell in place of one
  pub with_fields-all : (atoms : List Numbered) (a : ℕ) (t : Term) (fields : List (FieldId × Term))
      → AllByRecursion (λ (y : Numbered). Q y.atom) atoms → Q (Points t fields)
      → AllByRecursion (λ (y : Numbered). Q y.atom) (with_fields atoms a t fields)
  with_fields-all [] a t fields h n = tt
  with_fields-all (y ∷ ys) a t fields h n = go (y.number == a) (with_fields-all ys a t fields h.1 n)
    where
      go : (b : Bool) → AllByRecursion (λ (y : Numbered). Q y.atom) (with_fields ys a t fields)
          → AllByRecursion (λ (y : Numbered). Q y.atom)
          (cond b (record { number = a; atom = Points t fields } ∷ ys) (y ∷ with_fields ys a t fields))
      go true r = (n, h.1)
      go false r = (h.0, r)

-- the numbers stay where a cell comes in place of the atom of its number
pub numbers-fields : (xs : List Numbered) (a : ℕ) (t : Term) (fields : List (FieldId × Term))
    → numbers (with_fields xs a t fields) ≡ numbers xs
numbers-fields [] a t fields = refl
numbers-fields (x ∷ xs) a t fields = go (x.number == a) refl (numbers-fields xs a t fields)
  where
    go : (b : Bool) → x.number == a ≡ b → numbers (with_fields xs a t fields) ≡ numbers xs
        → numbers (cond b (record { number = a; atom = Points t fields } ∷ xs) (x ∷ with_fields xs a t fields))
        ≡ x.number ∷ numbers xs
    go true e rest = ap (λ n. n ∷ numbers xs) (sym ((Decides-eqb x.number a).0 e))
    go false e rest = ap (λ ns. x.number ∷ ns) rest
