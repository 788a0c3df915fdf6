-- How the text of a failure writes what a state knows: places, variables, pairs, parts of the heap.
-- Ordinary: the notation of assertions, with terms in place of expressions.
use Rattle.std.specs.Prelude.{◌++◌, List, [], ◌∷◌, codes, decimal}
use Rattle.sf_base.specs.declared.ids.FieldId.{FieldId}
use Rattle.sf_base.specs.declared.ids.ProcId.{ProcId}
use Rattle.sf_base.specs.declared.ids.Var.{Var}
use Rattle.sf_base.specs.declared.place.Place.{Place}
use Rattle.sf_core.specs.Program.Syntax.{Program}
use Rattle.sf_sym.specs.declared.atom.Atom.{Atom}
use Rattle.sf_sym.specs.declared.atom.Atom.TheVariants.{Points, Ls, Tree, Dll}
use Rattle.sf_sym.specs.declared.atom.Numbered.{Numbered}
use Rattle.sf_sym.specs.declared.term.Term.{Term}
use Rattle.sf_proof.specs.ProofText.{Text, term_text}
use Rattle.sf_sym.specs.declared.stuck.Stuck.{Stuck}
use Rattle.sf_sym.specs.declared.stuck.Stuck.TheVariants.{NoCell, NotEqual, NotDifferent, NoAtom, Leak, EndNotAllocated}
use Rattle.sf_report.specs.Names.{field_text, variable_text}

-- the name of a kind of failure
abbrev pub kind_text : Stuck → Text
kind_text NoCell = codes "NoCell"
kind_text NotEqual = codes "NotEqual"
kind_text NotDifferent = codes "NotDifferent"
kind_text NoAtom = codes "NoAtom"
kind_text Leak = codes "Leak"
kind_text EndNotAllocated = codes "EndNotAllocated"

-- a place
abbrev pub place_text : Place → Text
place_text place = decimal place.line ++ codes ":" ++ decimal place.column

-- how things are written one after the other, with one text before the first and another between
-- them
abbrev pub joined : {X : Type 0} → (X → Text) → (before between : Text) → List X → Text
joined write before between [] = []
joined write before between (x ∷ xs) = before ++ write x ++ joined write between between xs

-- a variable and its term
abbrev pub value_text : Program → ProcId → Var × Term → Text
value_text p f v = variable_text p f v.0 ++ codes " = " ++ term_text v.1

-- two terms that differ
abbrev pub pair_text : Term × Term → Text
pair_text pair = term_text pair.0 ++ codes " != " ++ term_text pair.1

-- a field of a cell and its term
abbrev pub known_text : Program → FieldId × Term → Text
known_text p f = field_text p f.0 ++ codes ":" ++ term_text f.1

-- a segment between two terms, each as it is written
abbrev pub segment_text : (from to : Text) → Text
segment_text from to = codes "ls(" ++ from ++ codes "," ++ to ++ codes ")"

-- a doubly linked segment between two terms, with what stands before it and its last cell, each as it is written
abbrev pub double_text : (from before last to : Text) → Text
double_text from before last to =
    codes "dll(" ++ from ++ codes "," ++ before ++ codes "," ++ last ++ codes "," ++ to ++ codes ")"

-- a tree from a term, as it is written
abbrev pub tree_text : Text → Text
tree_text root = codes "tree(" ++ root ++ codes ")"

-- a cell at a term, as it is written, with these fields
abbrev pub cell_text : {X : Type 0} → (X → Text) → (root : Text) → (fields : List X) → Text
cell_text write root fields = root ++ codes "|->" ++ joined write [] (codes ",") fields

-- a part of the heap
abbrev pub shape_text : Program → Atom → Text
shape_text p (Points t fields) = cell_text (known_text p) (term_text t) fields
shape_text p (Ls t u) = segment_text (term_text t) (term_text u)
shape_text p (Tree t) = tree_text (term_text t)
shape_text p (Dll v b l u) = double_text (term_text v) (term_text b) (term_text l) (term_text u)

-- the same with its number
abbrev pub numbered_text : Program → Numbered → Text
numbered_text p a = decimal a.number ++ codes ": " ++ shape_text p a.atom

-- a line: its word, and then what it lists
abbrev pub line_text : {X : Type 0} → (word : Text) → (X → Text) → List X → Text
line_text word write xs = word ++ joined write (codes " ") (codes ", ") xs ++ codes "\n"
