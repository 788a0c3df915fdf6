-- WitnessState: the values of the variables and the heap of a state's witness.
-- Berdine, Calcagno, O'Hearn, "Symbolic Execution with Separation Logic" (2005), section 4: each symbol a cell of its own,
-- lists and trees as short as they can be.
use Rattle.std.specs.Prelude.{suc, ◌==◌, cond, Option, Some, None, List, [], ◌∷◌, map}
use Rattle.std.specs.Option.{option_or}
use Rattle.sf_base.specs.declared.ids.FieldId.{FieldId}
use Rattle.sf_base.specs.declared.ids.Var.{Var}
use Rattle.sf_base.specs.declared.value.Value.{Value}
use Rattle.sf_base.specs.declared.value.Value.TheVariants.{Nil as nil}
use Rattle.sf_base.specs.HeapStore.{Cell, Heap, put_field}
use Rattle.sf_core.specs.declared.fields.Links.{Links}
use Rattle.sf_sym.specs.declared.atom.Atom.{Atom}
use Rattle.sf_sym.specs.declared.atom.Atom.TheVariants.{Points, Ls, Tree, Dll}
use Rattle.sf_sym.specs.declared.atom.Numbered.{Numbered}
use Rattle.sf_sym.specs.declared.term.Term.{Term}
use Rattle.sf_sym.specs.declared.term.Term.TheVariants.{Nil, Int, Sym}
use Rattle.sf_sym.specs.Known.{is_nothing}
use Rattle.sf_sym.specs.Tests.{root, same_term}
use Rattle.sf_witness.specs.Located.{value_at}

-- each variable has the value of its term
abbrev pub values : List (Var × Term) → List (Var × Value)
values vars = map (λ v. (v.0, value_at v.1)) vars

-- the cell all of whose fields are nil
abbrev pub nil_cell : Cell
nil_cell field = nil

-- the cell in which these fields have the values of these terms
abbrev pub with_fields : List (FieldId × Term) → Cell → Cell
with_fields [] cell = cell
with_fields (f ∷ fs) cell = with_fields fs (put_field cell f.0.0 (value_at f.1))

-- the cell whose link has the value of the term, where there is such a field
abbrev pub with_link : Option FieldId → Term → Cell → Cell
with_link None t cell = cell
with_link (Some link) t cell = put_field cell link.0 (value_at t)

-- the cell of a doubly linked segment that leads there, and back to that
abbrev pub double_cell : (next back : Option FieldId) → (to before : Term) → Cell
double_cell next back to before = with_link back before (with_link next to nil_cell)

-- the first cell of an atom that has one: its known fields; the end of a segment as its link; a tree without branches; of
-- a doubly linked segment the last cell as its link, where that is another, and what stands before it. All other fields
-- are nil
abbrev pub cell_of_atom : Links → Atom → Cell
cell_of_atom links (Points t fields) = with_fields fields nil_cell
cell_of_atom links (Ls t u) = with_link links.tl u nil_cell
cell_of_atom links (Tree t) = nil_cell
cell_of_atom links (Dll v p l u) = double_cell links.tl links.pv (cond (same_term l v) u l) p

-- the heap with that cell at a symbol; a constant is no location
abbrev pub one_cell : Term → Cell → Heap
one_cell Nil cell location = None
one_cell (Int i) cell location = None
one_cell (Sym n) cell location = cond (location == suc n) (Some cell) None

-- two heaps together
abbrev pub beside : Heap → Heap → Heap
beside one other = λ location. option_or (one location) (other location)

-- a heap, and the last cell of a doubly linked segment, where that is another than its first: it leads to the end, and
-- back to the first
abbrev pub with_last : Links → Atom → Heap → Heap
with_last links (Points t fields) heap = heap
with_last links (Ls t u) heap = heap
with_last links (Tree t) heap = heap
with_last links (Dll v p l u) heap =
    cond (same_term l v) heap (beside heap (one_cell l (double_cell links.tl links.pv u v)))

-- the heap of an atom: an empty segment or tree has no cell
abbrev pub heap_of_atom : Links → Atom → Heap
heap_of_atom links a =
    cond (is_nothing a) (λ location. None) (with_last links a (one_cell (root a) (cell_of_atom links a)))

-- the heap of these atoms
abbrev pub heap_of_atoms : Links → List Numbered → Heap
heap_of_atoms links [] = λ location. None
heap_of_atoms links (a ∷ rest) = beside (heap_of_atom links a.atom) (heap_of_atoms links rest)
