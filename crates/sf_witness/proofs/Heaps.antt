-- Heaps beside each other, and a cell that is put into one.
-- Names: `beside-LAW`, `put-CASE`.
use Rattle.std.proofs.Common.{◌≡◌, ◌↔◌, ◌==◌, ℕ, suc, ◌+◌, Bool, true, false, cond, List, [], ◌∷◌, ◌++◌, Option, Some, None, IsTrue, is_some, length, sym, ap, ◌∙◌, refl, subst, arith}
use Rattle.std.specs.FinMap.{empty, empty_of_len, get, get-empty, get-insert, insert, len, len-empty, nat_cmp-IsAntisymmetric, same_map}
use Rattle.std.specs.Option.{option_map, option_or}
use Rattle.std.specs.Ordering.{nat_cmp}
use Rattle.std.specs.Cmp.{unsigned_ties}
use Rattle.std.proofs.lemmas.Bool.Decides.{nat_tests}
use Rattle.std.proofs.lemmas.Cmp.{nat_cmp_total}
use Rattle.sf_base.specs.HeapStore.{Cell, Heap, IsEmpty}
use Rattle.sf_base.proofs.HeapSplits.{at-same}
use Rattle.sf_heap.specs.Cells.{Cells, FieldValues, HasCell, cell_of, heap_of}
use Rattle.sf_core.specs.declared.fields.Links.{Links}
use Rattle.sf_sym.specs.declared.atom.Atom.{Atom}
use Rattle.sf_sym.specs.declared.atom.Atom.TheVariants.{Points, Ls, Tree, Dll}
use Rattle.sf_sym.specs.declared.atom.Numbered.{Numbered}
use Rattle.sf_sym.specs.declared.term.Term.{Term}
use Rattle.sf_sym.specs.declared.term.Term.TheVariants.{Sym}
use Rattle.sf_sym.specs.Known.{is_nothing}
use Rattle.sf_sym.specs.Tests.{root, same_term}
use Rattle.sf_witness.specs.WitnessState.{beside, cell_of_atom, double_cell, heap_of_atom, heap_of_atoms, one_cell, with_last}

-- nothing beside a heap
pub beside-nothing : (h : Heap) → beside h (λ l. None) ≡ h
beside-nothing h = λ i l. at (h l) i
  where
    at : (o : Option Cell) → option_or o None ≡ o
    at None = refl
    at (Some c) = refl

-- heaps may be grouped
pub beside-assoc : (a b c : Heap) → beside (beside a b) c ≡ beside a (beside b c)
beside-assoc a b c = λ i l. at l (a l) i
  where
    at : (l : ℕ) (o : Option Cell) → option_or (option_or o (b l)) (c l) ≡ option_or o (option_or (b l) (c l))
    at l None = refl
    at l (Some d) = refl

-- the last cell of an atom comes behind what there is
pub last-beside : (links : Links) (a : Atom) (h g : Heap)
    → with_last links a (beside h g) ≡ beside h (with_last links a g)
last-beside links (Points t fields) h g = refl
last-beside links (Ls t u) h g = refl
last-beside links (Tree t) h g = refl
last-beside links (Dll v p l u) h g = go (same_term l v)
  where
    cell : Heap
    cell = one_cell l (double_cell links.tl links.pv u v)

    go : (b : Bool) → cond b (beside h g) (beside (beside h g) cell) ≡ beside h (cond b g (beside g cell))
    go true = refl
    go false = beside-assoc h g cell

-- so the cells of an atom that isn't empty come one after the other
pub atom-added : (links : Links) (a : Atom) (t : Term) (cell : Cell) (old first new : Heap) → is_nothing a ≡ false
    → t ≡ root a → cell ≡ cell_of_atom links a → first ≡ beside old (one_cell t cell) → new ≡ with_last links a first
    → new ≡ beside old (heap_of_atom links a)
atom-added links a t cell old first new some at is put last =
    last
    ∙ ap (with_last links a) (put ∙ (λ i. beside old (one_cell (at i) (is i))))
    ∙ last-beside links a old (one_cell (root a) (cell_of_atom links a))
    ∙ sym (ap (λ b. beside old
    (cond b (λ location. None) (with_last links a (one_cell (root a) (cell_of_atom links a))))) some)

-- one more atom's heap comes before those of the others
pub atoms-next : (links : Links) (h after : Heap) (a : Numbered) (rest : List Numbered)
    → after ≡ beside h (heap_of_atom links a.atom)
    → beside after (heap_of_atoms links rest) ≡ beside h (heap_of_atoms links (a ∷ rest))
atoms-next links h after a rest e =
    ap (λ z. beside z (heap_of_atoms links rest)) e
    ∙ beside-assoc h (heap_of_atom links a.atom) (heap_of_atoms links rest)

-- no atoms are left
pub atoms-none : (links : Links) (h : Heap) (xs : List Numbered) → length xs ≡ 0
    → h ≡ beside h (heap_of_atoms links xs)
atoms-none links h [] e = sym (beside-nothing h)
atoms-none links h (x ∷ xs) e = absurd (omega (arith, e))

-- the atoms of two lists
pub atoms-append : (links : Links) (xs ys : List Numbered)
    → beside (heap_of_atoms links xs) (heap_of_atoms links ys) ≡ heap_of_atoms links (xs ++ ys)
atoms-append links [] ys = refl
atoms-append links (x ∷ xs) ys =
    beside-assoc (heap_of_atom links x.atom) (heap_of_atoms links xs) (heap_of_atoms links ys)
    ∙ ap (beside (heap_of_atom links x.atom)) (atoms-append links xs ys)

-- a cell put where none is stands beside the others
pub put-new : (m : Cells) (n : ℕ) (k : FieldValues) → (HasCell m (suc n) → ⊥)
    → heap_of (insert m (suc n) k) ≡ beside (heap_of m) (one_cell (Sym n) (cell_of k))
put-new m n k none = λ i l. at l (l == suc n) refl i
  where
    absent : (o : Option FieldValues) → (IsTrue (is_some o) → ⊥) → o ≡ None
    absent None h = refl
    absent (Some v) h = absurd (h (cc))

    inserted : (l : ℕ) → heap_of (insert m (suc n) k) l ≡ option_map cell_of (cond (l == suc n) (Some k) (get m l))
    inserted l = ap (option_map cell_of)
        (get-insert nat_cmp_total m (suc n) k l ∙ ap (λ b. cond b (Some k) (get m l)) (sym (unsigned_ties l (suc n))))

    or-none : (o : Option Cell) → o ≡ option_or o None
    or-none None = refl
    or-none (Some c) = refl

    at : (l : ℕ) (b : Bool) → (l == suc n) ≡ b
        → heap_of (insert m (suc n) k) l ≡ option_or (heap_of m l) (cond (l == suc n) (Some (cell_of k)) None)
    at l true e =
        inserted l ∙ ap (λ b. option_map cell_of (cond b (Some k) (get m l))) e
        ∙ sym (ap (λ o. option_or (option_map cell_of o) (cond (l == suc n) (Some (cell_of k)) None))
        (absent (get m l) (λ t. none (subst (λ k. IsTrue (is_some (get m k))) (at-same (suc n) l e) t)))
        ∙ ap (λ b. cond b (Some (cell_of k)) None) e)
    at l false e =
        inserted l ∙ ap (λ b. option_map cell_of (cond b (Some k) (get m l))) e
        ∙ or-none (heap_of m l)
        ∙ sym (ap (λ b. option_or (heap_of m l) (cond b (Some (cell_of k)) None)) e)

-- where one is, it stays as it was
pub put-present : (m : Cells) (n : ℕ) (c : Cell) → HasCell m (suc n)
    → heap_of m ≡ beside (heap_of m) (one_cell (Sym n) c)
put-present m n c there = λ i l. at l (l == suc n) refl i
  where
    or-none : (o : Option Cell) → o ≡ option_or o None
    or-none None = refl
    or-none (Some d) = refl

    or-some : (o : Option FieldValues) (d : Option Cell) → IsTrue (is_some o)
        → option_map cell_of o ≡ option_or (option_map cell_of o) d
    or-some None d h = absurd (cc)
    or-some (Some v) d h = refl

    at : (l : ℕ) (b : Bool) → (l == suc n) ≡ b
        → heap_of m l ≡ option_or (heap_of m l) (cond (l == suc n) (Some c) None)
    at l true e = or-some (get m l) (cond (l == suc n) (Some c) None)
        (subst (λ k. IsTrue (is_some (get m k))) (sym (at-same (suc n) l e)) there)
    at l false e = or-none (heap_of m l) ∙ sym (ap (λ b. option_or (heap_of m l) (cond b (Some c) None)) e)

-- as the code puts it
pub put-ok : (m new : Cells) (n at : ℕ) (t : Term) (k : FieldValues) → new ≡ insert m (at + 1) k → at ≡ n
    → t ≡ Sym n → (HasCell m (at + 1) → ⊥) → heap_of new ≡ beside (heap_of m) (one_cell t (cell_of k))
put-ok m new n at t k e f h none =
    let s : at + 1 ≡ suc n = omega (arith, f) in
    ap heap_of e ∙ (λ i. heap_of (insert m (s i) k))
    ∙ put-new m n k (λ c. none (subst (HasCell m) (sym s) c))
    ∙ ap (λ z. beside (heap_of m) (one_cell z (cell_of k))) (sym h)

-- a heap that was empty has just the atoms that were added
pub first-atoms : (m : Cells) (heap : Heap) (one two : Links) (xs ys : List Numbered) → m ≡ empty
    → heap ≡ beside (heap_of m) (heap_of_atoms one xs) → one ≡ two → xs ≡ ys → heap ≡ heap_of_atoms two ys
first-atoms m heap one two xs ys e h l s =
    h ∙ ap (λ z. beside z (heap_of_atoms one xs)) (ap heap_of e ∙ none)
    ∙ (λ i. heap_of_atoms (l i) (s i))
  where
    none : heap_of empty ≡ (λ l. None)
    none = λ i l. option_map cell_of (get-empty nat_cmp l i)

-- and then those of the second list
pub then-atoms : (heap new : Heap) (one two : Links) (xs ys zs : List Numbered) → heap ≡ heap_of_atoms two xs
    → new ≡ beside heap (heap_of_atoms one ys) → one ≡ two → ys ≡ zs → new ≡ heap_of_atoms two (xs ++ zs)
then-atoms heap new one two xs ys zs e h l s =
    h ∙ ap (λ z. beside z (heap_of_atoms one ys)) e
    ∙ (λ i. beside (heap_of_atoms two xs) (heap_of_atoms (l i) (s i)))
    ∙ atoms-append two xs zs

-- a heap without cells is empty
pub len-decides : (m : Cells) (n : ℕ) → n ≡ len m → IsTrue (n == 0) ↔ IsEmpty (heap_of m)
len-decides m n e = (
  λ i. let z : len m ≡ 0 = grind (arith, nat_tests) in
      record { none = λ l. ap (λ k. heap_of k l) (empty_of_len m z) ∙ ap (option_map cell_of) (get-empty nat_cmp l) },
  λ w. let z : n ≡ 0 = e ∙ ap len (same_map nat_cmp_total nat_cmp-IsAntisymmetric m empty (λ l. absent (get m l) (w.none l) ∙ sym (get-empty nat_cmp l)))
      ∙ len-empty nat_cmp FieldValues in grind (arith, nat_tests),
)
  where
    absent : (o : Option FieldValues) → option_map cell_of o ≡ None → o ≡ None
    absent None h = refl
    absent (Some v) h = absurd (cc)
