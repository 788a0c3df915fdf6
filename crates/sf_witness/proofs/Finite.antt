-- The heap of atoms as a finite map, with each cell as a list of values.
-- Names: `put-LAW`, `cells-LAW`.
use Rattle.std.proofs.Common.{◌≡◌, ◌==◌, ◌+◌, ℕ, zero, suc, Bool, true, false, cond, List, [], ◌∷◌, ◌++◌, Option, Some, None, get_or, replicate, set, refl, sym, ap, ◌∙◌, arith}
use Rattle.std.specs.FinMap.{empty, get, get-empty, get-insert, insert}
use Rattle.std.specs.Option.{option_map, option_or}
use Rattle.std.specs.Ordering.{nat_cmp}
use Rattle.std.specs.Cmp.{unsigned_ties}
use Rattle.std.proofs.lemmas.Cmp.{nat_cmp_total}
use Rattle.std.proofs.lemmas.List.{length-append, length-replicate}
use Rattle.sf_base.proofs.Lists.{replicate-default}
use Rattle.sf_base.specs.declared.ids.FieldId.{FieldId}
use Rattle.sf_base.specs.declared.value.Value.{Value}
use Rattle.sf_base.specs.declared.value.Value.TheVariants.{Nil as nil}
use Rattle.sf_base.specs.HeapStore.{Cell, Heap, put_field}
use Rattle.sf_core.specs.declared.fields.Links.{Links}
use Rattle.sf_heap.specs.Cells.{Cells, FieldValues, cell_of, heap_of}
use Rattle.sf_sym.specs.declared.atom.Atom.{Atom}
use Rattle.sf_sym.specs.declared.atom.Atom.TheVariants.{Points, Ls, Tree, Dll}
use Rattle.sf_sym.specs.declared.atom.Numbered.{Numbered}
use Rattle.sf_sym.specs.declared.term.Term.{Term}
use Rattle.sf_sym.specs.declared.term.Term.TheVariants.{Nil, Int, Sym}
use Rattle.sf_sym.specs.Known.{is_nothing}
use Rattle.sf_sym.specs.Tests.{root, same_term}
use Rattle.sf_witness.specs.Located.{value_at}
use Rattle.sf_witness.specs.WitnessState.{beside, cell_of_atom, double_cell, heap_of_atoms, one_cell, with_fields, with_last, with_link}
use Rattle.sf_witness.proofs.CellValues.{cell-put}
use Rattle.sf_witness.proofs.Heaps.{beside-assoc}

-- a value in a list that is made long enough
abbrev pub put_value : List Value → ℕ → Value → List Value
put_value xs n v = set (xs ++ replicate (n + 1) nil) n v

-- more nils change nothing
padded : (k : ℕ) (xs : List Value) → cell_of (xs ++ replicate k nil) ≡ cell_of xs
padded k xs = λ i n. at xs n i
  where
    at : (ys : List Value) (n : ℕ) → get_or (ys ++ replicate k nil) n nil ≡ get_or ys n nil
    at [] n = replicate-default nil k n
    at (y ∷ ys) zero = refl
    at (y ∷ ys) (suc n) = at ys n

put-cell : (xs : List Value) (n : ℕ) (v : Value) → cell_of (put_value xs n v) ≡ put_field (cell_of xs) n v
put-cell xs n v =
    cell-put (xs ++ replicate (n + 1) nil) n v
    (omega (arith, length-append xs (replicate (n + 1) nil), length-replicate (n + 1) nil))
    ∙ ap (λ c. put_field c n v) (padded (n + 1) xs)

-- the values of fields
abbrev pub values_of_fields : List (FieldId × Term) → List Value → List Value
values_of_fields [] xs = xs
values_of_fields (f ∷ fs) xs = values_of_fields fs (put_value xs f.0.0 (value_at f.1))

fields-cell : (fs : List (FieldId × Term)) (xs : List Value)
    → cell_of (values_of_fields fs xs) ≡ with_fields fs (cell_of xs)
fields-cell [] xs = refl
fields-cell (f ∷ fs) xs =
    fields-cell fs (put_value xs f.0.0 (value_at f.1))
    ∙ ap (with_fields fs) (put-cell xs f.0.0 (value_at f.1))

abbrev pub link_values : Option FieldId → Term → List Value → List Value
link_values None t xs = xs
link_values (Some link) t xs = put_value xs link.0 (value_at t)

link-cell : (link : Option FieldId) (t : Term) (xs : List Value)
    → cell_of (link_values link t xs) ≡ with_link link t (cell_of xs)
link-cell None t xs = refl
link-cell (Some link) t xs = put-cell xs link.0 (value_at t)

abbrev pub double_values : (next back : Option FieldId) → (to before : Term) → List Value
double_values next back to before = link_values back before (link_values next to [])

double-cell : (next back : Option FieldId) (to before : Term)
    → cell_of (double_values next back to before) ≡ double_cell next back to before
double-cell next back to before =
    link-cell back before (link_values next to []) ∙ ap (with_link back before) (link-cell next to [])

-- the values of an atom's cell
abbrev pub atom_values : Links → Atom → List Value
atom_values links (Points t fields) = values_of_fields fields []
atom_values links (Ls t u) = link_values links.tl u []
atom_values links (Tree t) = []
atom_values links (Dll v p l u) = double_values links.tl links.pv (cond (same_term l v) u l) p

atom-cell : (links : Links) (a : Atom) → cell_of (atom_values links a) ≡ cell_of_atom links a
atom-cell links (Points t fields) = fields-cell fields []
atom-cell links (Ls t u) = link-cell links.tl u []
atom-cell links (Tree t) = refl
atom-cell links (Dll v p l u) = double-cell links.tl links.pv (cond (same_term l v) u l) p

-- a cell put at a term
abbrev pub put_at : Term → FieldValues → Cells → Cells
put_at Nil v m = m
put_at (Int i) v m = m
put_at (Sym n) v m = insert m (suc n) v

put-beside : (t : Term) (v : FieldValues) (m : Cells)
    → heap_of (put_at t v m) ≡ beside (one_cell t (cell_of v)) (heap_of m)
put-beside Nil v m = refl
put-beside (Int i) v m = refl
put-beside (Sym n) v m = λ i l. at l (l == suc n) refl i
  where
    inserted : (l : ℕ) → heap_of (insert m (suc n) v) l ≡ option_map cell_of (cond (l == suc n) (Some v) (get m l))
    inserted l = ap (option_map cell_of)
        (get-insert nat_cmp_total m (suc n) v l ∙ ap (λ b. cond b (Some v) (get m l)) (sym (unsigned_ties l (suc n))))

    at : (l : ℕ) (b : Bool) → (l == suc n) ≡ b
        → heap_of (insert m (suc n) v) l ≡ option_or (cond (l == suc n) (Some (cell_of v)) None) (heap_of m l)
    at l true e =
        inserted l ∙ ap (λ b. option_map cell_of (cond b (Some v) (get m l))) e
        ∙ sym (ap (λ b. option_or (cond b (Some (cell_of v)) None) (heap_of m l)) e)
    at l false e =
        inserted l ∙ ap (λ b. option_map cell_of (cond b (Some v) (get m l))) e
        ∙ sym (ap (λ b. option_or (cond b (Some (cell_of v)) None) (heap_of m l)) e)

-- the last cell of an atom, put among others
abbrev pub put_last : Links → Atom → Cells → Cells
put_last links (Points t fields) m = m
put_last links (Ls t u) m = m
put_last links (Tree t) m = m
put_last links (Dll v p l u) m = cond (same_term l v) m (put_at l (double_values links.tl links.pv u v) m)

last-cells : (links : Links) (a : Atom) (h : Heap) (m : Cells)
    → beside h (heap_of (put_last links a m)) ≡ beside (with_last links a h) (heap_of m)
last-cells links (Points t fields) h m = refl
last-cells links (Ls t u) h m = refl
last-cells links (Tree t) h m = refl
last-cells links (Dll v p l u) h m = go (same_term l v)
  where
    values : FieldValues
    values = double_values links.tl links.pv u v

    cell : Cell
    cell = double_cell links.tl links.pv u v

    go : (b : Bool) → beside h (heap_of (cond b m (put_at l values m)))
        ≡ beside (cond b h (beside h (one_cell l cell))) (heap_of m)
    go true = refl
    go false =
        ap (beside h)
        (put-beside l values m ∙ ap (λ c. beside (one_cell l c) (heap_of m)) (double-cell links.tl links.pv u v))
        ∙ sym (beside-assoc h (one_cell l cell) (heap_of m))

-- the cells of atoms
abbrev pub cells_of_atoms : Links → List Numbered → Cells
cells_of_atoms links [] = empty
cells_of_atoms links (a ∷ rest) =
    cond (is_nothing a.atom) (cells_of_atoms links rest)
    (put_at (root a.atom) (atom_values links a.atom) (put_last links a.atom (cells_of_atoms links rest)))

-- they are their heap
pub cells-heap : (links : Links) (xs : List Numbered) → heap_of (cells_of_atoms links xs) ≡ heap_of_atoms links xs
cells-heap links [] = λ i l. option_map cell_of (get-empty nat_cmp l i)
cells-heap links (x ∷ xs) = go (is_nothing x.atom) refl (cells-heap links xs)
  where
    go : (b : Bool) → is_nothing x.atom ≡ b → heap_of (cells_of_atoms links xs) ≡ heap_of_atoms links xs
        → heap_of (cond b (cells_of_atoms links xs)
        (put_at (root x.atom) (atom_values links x.atom) (put_last links x.atom (cells_of_atoms links xs))))
        ≡ beside
        (cond b (λ location. None) (with_last links x.atom (one_cell (root x.atom) (cell_of_atom links x.atom))))
        (heap_of_atoms links xs)
    go true e h = h
    go false e h =
        put-beside (root x.atom) (atom_values links x.atom) (put_last links x.atom (cells_of_atoms links xs))
        ∙ last-cells links x.atom (one_cell (root x.atom) (cell_of (atom_values links x.atom))) (cells_of_atoms links xs)
        ∙ (λ i. beside (with_last links x.atom (one_cell (root x.atom) (atom-cell links x.atom i))) (h i))
