-- The assertions of a file, numbered, and what is wrong with names in them.
-- The assertions of Berdine, Calcagno and O'Hearn, "Smallfoot" (2005), with this project's own numbering.
use Rattle.std.specs.Prelude.{Bool, not, List, [], ◌∷◌, ◌++◌, Option, Some, None, unwrap_or}
use Rattle.sf_base.specs.declared.ids.FieldId.{FieldId}
use Rattle.sf_base.specs.declared.place.Place.{Place}
use Rattle.sf_ast.specs.declared.assertion.SurfaceField.{SurfaceField}
use Rattle.sf_ast.specs.declared.word.SurfaceOperand.{SurfaceOperand}
use Rattle.sf_ast.specs.declared.word.SurfaceOperand.TheVariants as o
use Rattle.sf_ast.specs.Surface.{Note, blank, filled}
use Rattle.sf_core.specs.declared.assertion.Operand.{Operand}
use Rattle.sf_core.specs.declared.assertion.Operand.TheVariants.{Known, Exists}
use Rattle.sf_core.specs.declared.command.Expr.{Expr}
use Rattle.sf_core.specs.Program.Syntax as c
use Rattle.sf_core.specs.Program.View.{conjuncts}
use Rattle.sf_elab.specs.declared.fault.Fault.{Fault}
use Rattle.sf_elab.specs.declared.fault.Fault.TheVariants.{Twice, Missing}
use Rattle.sf_elab.specs.declared.fault.Link.{Link}
use Rattle.sf_elab.specs.declared.fault.Link.TheVariants.{Next, Back, Left, Right}
use Rattle.sf_elab.specs.declared.levels.Levels.{Levels}
use Rattle.sf_elab.specs.Annotations.Existentials.{no_levels, opened, made_by, taking, names_after, names_after_level}
use Rattle.sf_elab.specs.Annotations.Flat.{Flat, holds, points, segment, doubly, tree, choose, Flats, none, also, level_in}
use Rattle.sf_elab.specs.Files.Faults.{where_, link_name}
use Rattle.sf_elab.specs.Names.InEnv.{Env, expr_of, expr_faults, test_of, test_faults, field_of, field_faults}
use Rattle.sf_elab.specs.Names.Table.{Table, find, has, declare}
use Rattle.sf_elab.specs.Names.Texts.{text}

-- an operand; an existential stands for the one in reach
abbrev pub operand_of : Env → Levels → SurfaceOperand → Operand Expr
operand_of s l (o.Known e) = Known (expr_of s e)
operand_of s l (o.Existential w) = Exists (unwrap_or (find (text s.bytes w) l.reach) 0)

-- what is wrong with it
abbrev pub operand_faults : Env → SurfaceOperand → List Fault
operand_faults s (o.Known e) = expr_faults s e
operand_faults s (o.Existential w) = []

-- the fields of a cell with their values, in the order in which they are written
abbrev pub values_of : Env → Levels → List SurfaceField → List (FieldId × Operand Expr)
values_of s l [] = []
values_of s l (f ∷ fs) = (field_of s f.name, operand_of s l f.value) ∷ values_of s l fs

-- what is wrong with them, those fields being given already
abbrev pub values_faults : Env → Table FieldId → List SurfaceField → List Fault
values_faults s given [] = []
values_faults s given (f ∷ fs) =
    field_faults s f.name ++ where_ (has (text s.bytes f.name) given) (Twice f.name) ++ operand_faults s f.value
    ++ values_faults s (declare (text s.bytes f.name) (field_of s f.name) given) fs

-- the field that predicates follow; some field where it isn't declared
abbrev pub link_of : Env → Link → FieldId
link_of s k = unwrap_or (find (link_name k) s.declared.fields) (record { 0 = 0 })

-- whether it is declared
abbrev pub has_link : Env → Link → Bool
has_link s k = has (link_name k) s.declared.fields

-- a segment at that place needs its field
abbrev pub segment_faults : Env → Place → List Fault
segment_faults s p = where_ (not (has_link s Next)) (Missing p Next)

-- a doubly linked segment at that place needs both of its fields; the first that is missing is named
abbrev pub doubly_faults : Env → Place → List Fault
doubly_faults s p = where_ (not (has_link s Next)) (Missing p Next) ++ where_ (not (has_link s Back)) (Missing p Back)

-- what is wrong with four operands
abbrev pub four_faults : Env → (from before last to : SurfaceOperand) → List Fault
four_faults s x b l y =
    operand_faults s x ++ (operand_faults s b ++ (operand_faults s l ++ operand_faults s y))

-- a tree at that place needs both of its fields; the first that is missing is named
abbrev pub tree_faults : Env → Place → List Fault
tree_faults s p = where_ (not (has_link s Left)) (Missing p Left) ++ where_ (not (has_link s Right)) (Missing p Right)

-- a level that has those conjuncts, with what it makes
abbrev pub level_with : Env → Levels → Flats → List (c.Conjunct Expr) → c.Level Expr
level_with s l a cs = c.level (made_by s.bytes l a) (conjuncts cs)

abbrev mutual
  -- a conjunct; of a choice the second level is read after the first
  pub conjunct_of : Env → Levels → Flat → c.Conjunct Expr
  conjunct_of s l (holds p t) = c.holds p (test_of (operand_of s l) t)
  conjunct_of s l (points p x fs) = c.points p (operand_of s l x) (values_of s l fs)
  conjunct_of s l (segment p x y) = c.segment p (link_of s Next) (operand_of s l x) (operand_of s l y)
  conjunct_of s l (doubly p x b e y) =
      c.doubly p (link_of s Next) (link_of s Back) (operand_of s l x) (operand_of s l b) (operand_of s l e) (operand_of s l y)
  conjunct_of s l (tree p x) = c.tree p (link_of s Left) (link_of s Right) (operand_of s l x)
  conjunct_of s l (choose p t a b) =
      let m = taking l (names_after_level s.bytes l a) in
      c.choose p (test_of (operand_of s l) t) (level_with s l a (conjuncts_of s (opened s.bytes l a) a)) (level_with s m b (conjuncts_of s (opened s.bytes m b) b))

  -- those of a level that was entered
  pub conjuncts_of : Env → Levels → Flats → List (c.Conjunct Expr)
  conjuncts_of s l none = []
  conjuncts_of s l (also d ds) = conjunct_of s l d ∷ conjuncts_of s (taking l (names_after s.bytes l d)) ds

-- a level with what it makes
abbrev pub level_of : Env → Levels → Flats → c.Level Expr
level_of s l a = level_with s l a (conjuncts_of s (opened s.bytes l a) a)

abbrev mutual
  -- what is wrong with names in a conjunct: for lack of the fields that it follows, in its operands and fields, in its branches
  pub conjunct_faults : Env → Flat → List Fault
  conjunct_faults s (holds p t) = test_faults (operand_faults s) t
  conjunct_faults s (points p x fs) = operand_faults s x ++ values_faults s [] fs
  conjunct_faults s (segment p x y) = segment_faults s p ++ operand_faults s x ++ operand_faults s y
  conjunct_faults s (doubly p x b l y) = doubly_faults s p ++ four_faults s x b l y
  conjunct_faults s (tree p x) = tree_faults s p ++ operand_faults s x
  conjunct_faults s (choose p t a b) = test_faults (operand_faults s) t ++ level_faults s a ++ level_faults s b

  -- in each of a level, in text order
  pub level_faults : Env → Flats → List Fault
  level_faults s none = []
  level_faults s (also d ds) = conjunct_faults s d ++ level_faults s ds

-- what occurs in square brackets, as a whole assertion; nothing is `emp`
abbrev pub annotation_of : Env → Note → c.Assertion
annotation_of s blank = record { names = []; level = c.level (record { first = 0; count = 0 }) c.none }
annotation_of s (filled a) = record { names = names_after_level s.bytes no_levels (level_in a); level = level_of s no_levels (level_in a) }

-- what is wrong with it
abbrev pub annotation_faults : Env → Note → List Fault
annotation_faults s blank = []
annotation_faults s (filled a) = level_faults s (level_in a)

-- one that may be left out, which is `emp` too
abbrev pub maybe_of : Env → Option Note → c.Assertion
maybe_of s None = annotation_of s blank
maybe_of s (Some n) = annotation_of s n

-- what is wrong with it
abbrev pub maybe_faults : Env → Option Note → List Fault
maybe_faults s None = []
maybe_faults s (Some n) = annotation_faults s n
