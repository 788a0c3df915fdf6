-- Made: the file of so many procedures that `demo` makes and verifies.
-- Its two procedures are those of Berdine, Calcagno, O'Hearn, "Smallfoot" (2005): a tree that is
-- given up by two tasks, and the memory manager.
use Rattle.std.specs.Prelude.{ℕ, zero, suc, List, ◌++◌, ◌%◌, ◌==◌, codes, cond, decimal}

-- a text as its bytes
abbrev pub Text : Type 0
Text = List ℕ

-- the name of the procedure of that number
abbrev pub name_text : (number : ℕ) → Text
name_text n = codes "d" ++ decimal n

-- the procedure of that number which gives a tree up, its two subtrees by two tasks
abbrev pub tree_text : (number : ℕ) → Text
tree_text n =
    (name_text n ++ codes "(p) [tree(p)] { local i, j; if (p == nil) { } else { i = p->l; j = p->r; ")
    ++ (name_text n ++ codes "(i) || ") ++ (name_text n ++ codes "(j); dispose(p); } } []\n")

-- the procedure of that number which hands a cell over to the resource
abbrev pub hand_text : (number : ℕ) → Text
hand_text n =
    name_text n ++ codes "(y) [y|->] { with mm when (true) { y->tl = f; f = y; } } []\n"

-- the procedure of that number: odd ones give up a tree, even ones hand a cell over
abbrev pub procedure_text : (number : ℕ) → Text
procedure_text n = cond (n % 2 == 1) (tree_text n) (hand_text n)

-- the file of so many procedures, which are numbered from 1: the resource's line, and a line for
-- each of them
abbrev pub made_text : (procedures : ℕ) → Text
made_text zero = codes "resource mm (f) [list(f)]\n"
made_text (suc n) = made_text n ++ procedure_text (suc n)
