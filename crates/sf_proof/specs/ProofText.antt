-- The text of a proof: the line of the verdict, and then a line for each tag.
-- Numbers are decimal, as The Open Group's "printf" prints them (2018).
use Rattle.std.specs.Prelude.{ℕ, List, [], ◌∷◌, ◌++◌, codes, decimal}
use Rattle.std.specs.Fmt.{signed_decimal}
use Rattle.sf_base.specs.declared.ids.ProcId.{ProcId}
use Rattle.sf_core.specs.Program.Named.{name_of}
use Rattle.sf_core.specs.Program.Syntax.{Program}
use Rattle.sf_sym.specs.declared.tag.Tag.{Tag}
use Rattle.sf_sym.specs.declared.tag.Tag.TheVariants as t
use Rattle.sf_sym.specs.declared.term.Term.{Term}
use Rattle.sf_sym.specs.declared.term.Term.TheVariants.{Nil, Int, Sym}

-- a text as its bytes
abbrev pub Text : Type 0
Text = List ℕ

-- a term
abbrev pub term_text : Term → Text
term_text Nil = codes "nil"
term_text (Int i) = signed_decimal i
term_text (Sym n) = codes "s" ++ decimal n

-- a tag and the number of an atom
abbrev pub atom_text : Text → ℕ → Text
atom_text tag a = tag ++ codes " " ++ decimal a

-- the tag that begins a procedure
abbrev pub procedure_text : Program → ProcId → Text
procedure_text p f = codes "procedure " ++ name_of p f

-- the tag that splits by two terms
abbrev pub split_text : Term → Term → Text
split_text x y = codes "split " ++ term_text x ++ codes " " ++ term_text y

-- a tag
abbrev pub tag_text : Program → Tag → Text
tag_text p (t.Procedure f) = procedure_text p f
tag_text p t.Absurd = codes "absurd"
tag_text p (t.Drop a) = atom_text (codes "drop") a
tag_text p (t.Force a) = atom_text (codes "force") a
tag_text p (t.Split x y) = split_text x y
tag_text p (t.Unroll a) = atom_text (codes "unroll") a
tag_text p (t.Back a) = atom_text (codes "back") a
tag_text p t.Assign = codes "assign"
tag_text p (t.Look a) = atom_text (codes "look") a
tag_text p (t.Mutate a) = atom_text (codes "mutate") a
tag_text p t.New = codes "new"
tag_text p (t.Dispose a) = atom_text (codes "dispose") a
tag_text p t.Then = codes "then"
tag_text p t.Else = codes "else"
tag_text p t.Loop = codes "loop"
tag_text p t.Around = codes "around"
tag_text p t.Again = codes "again"
tag_text p t.Call = codes "call"
tag_text p t.Fork = codes "fork"
tag_text p t.Enter = codes "enter"
tag_text p t.Exit = codes "exit"
tag_text p t.Return = codes "return"
tag_text p t.Give = codes "give"
tag_text p t.End = codes "end"
tag_text p t.Add = codes "add"
tag_text p t.Bind = codes "bind"
tag_text p t.Same = codes "same"
tag_text p t.Apart = codes "apart"
tag_text p (t.Cell a) = atom_text (codes "cell") a
tag_text p t.Empty = codes "empty"
tag_text p (t.Exact a) = atom_text (codes "exact") a
tag_text p (t.Head a) = atom_text (codes "head") a
tag_text p (t.Join a) = atom_text (codes "join") a
tag_text p (t.Node a) = atom_text (codes "node") a

-- the lines of tags
abbrev pub lines_of : Program → List Tag → Text
lines_of p [] = []
lines_of p (tag ∷ tags) = tag_text p tag ++ codes "\n" ++ lines_of p tags

-- the text of a proof
abbrev pub proof_text : Program → List Tag → Text
proof_text p tags = codes "accepted\n" ++ lines_of p tags
