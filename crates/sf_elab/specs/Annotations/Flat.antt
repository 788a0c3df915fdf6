-- Assertions made flat: what a level has is one list of tests, cells, segments, trees and choices of two levels; and the existentials in it.
-- `emp` and parentheses vanish. `list(E)` is `ls(E,nil)`, and `lseg` is `ls`.
-- The assertions of Berdine, Calcagno and O'Hearn, "Smallfoot" (2005), in this project's own profile.
use Rattle.std.specs.Prelude.{List, [], ◌∷◌, ◌++◌}
use Rattle.sf_base.specs.declared.place.Place.{Place}
use Rattle.sf_ast.specs.declared.assertion.SurfaceField.{SurfaceField}
use Rattle.sf_ast.specs.declared.word.SurfaceExpr.TheVariants.{Nil}
use Rattle.sf_ast.specs.declared.word.SurfaceOperand.{SurfaceOperand}
use Rattle.sf_ast.specs.declared.word.SurfaceOperand.TheVariants.{Known, Existential}
use Rattle.sf_ast.specs.declared.word.SurfaceTest.{SurfaceTest}
use Rattle.sf_ast.specs.declared.word.SurfaceTest.TheVariants.{True, Equal, Differ}
use Rattle.sf_ast.specs.declared.word.Word.{Word}
use Rattle.sf_ast.specs.Surface as s
use Rattle.sf_elab.specs.declared.flat.Flat.{Flat as CodeFlat}
use Rattle.sf_elab.specs.declared.flat.Flat.TheFolds.{fold-Flat}
use Rattle.sf_elab.specs.declared.flat.Flat.TheOpen.{Flat-F}
use Rattle.sf_elab.specs.declared.flat.Flat.TheOpen as f
use Rattle.sf_elab.specs.Names.InEnv.{expr_place}

mutual
  -- one conjunct
  pub data Flat : Type 0 where
    holds : Place → SurfaceTest SurfaceOperand → Flat
    points : Place → SurfaceOperand → List SurfaceField → Flat
    segment : Place → (from to : SurfaceOperand) → Flat
    doubly : Place → (from before last to : SurfaceOperand) → Flat
    tree : Place → SurfaceOperand → Flat
    choose : Place → SurfaceTest SurfaceOperand → (then otherwise : Flats) → Flat

  -- those of a level
  pub data Flats : Type 0 where
    none : Flats
    also : Flat → Flats → Flats

-- a list as a level
abbrev pub flats : List Flat → Flats
flats [] = none
flats (c ∷ cs) = also c (flats cs)

-- where the first token of an operand is
abbrev pub operand_place : SurfaceOperand → Place
operand_place (Known e) = expr_place e
operand_place (Existential w) = w.place

abbrev mutual
  -- a conjunct: nothing of `emp`, and those inside parentheses
  pub flat : s.Conjunct → List Flat
  flat (s.emp p) = []
  flat (s.group a) = flat_all a
  flat (s.choose p k t a b) = choose p t (flats (flat_all a)) (flats (flat_all b)) ∷ []
  flat (s.equal x y) = holds (operand_place x) (Equal x y) ∷ []
  flat (s.differ x y) = holds (operand_place x) (Differ x y) ∷ []
  flat (s.points x fs) = points (operand_place x) x fs ∷ []
  flat (s.ls p k x y) = segment p x y ∷ []
  flat (s.list p x) = segment p x (Known (Nil p)) ∷ []
  flat (s.dll p x b l y) = doubly p x b l y ∷ []
  flat (s.tree p x) = tree p x ∷ []

  -- one after the other
  pub flat_all : s.Assertion → List Flat
  flat_all (s.only c) = flat c
  flat_all (s.star c a) = flat c ++ flat_all a

-- the level that an assertion is
abbrev pub level_in : s.Assertion → Flats
level_in a = flats (flat_all a)

-- the existential that an operand is
abbrev pub words_in_operand : SurfaceOperand → List Word
words_in_operand (Known e) = []
words_in_operand (Existential w) = w ∷ []

-- the existentials of a test
abbrev pub words_in_test : SurfaceTest SurfaceOperand → List Word
words_in_test (True p) = []
words_in_test (Equal x y) = words_in_operand x ++ words_in_operand y
words_in_test (Differ x y) = words_in_operand x ++ words_in_operand y

-- those among the values of fields
abbrev pub words_in_fields : List SurfaceField → List Word
words_in_fields [] = []
words_in_fields (f ∷ fs) = words_in_operand f.value ++ words_in_fields fs

-- those of a conjunct itself, in text order: of a choice its test belongs to the level, and its branches don't
abbrev pub words_in_flat : Flat → List Word
words_in_flat (holds p t) = words_in_test t
words_in_flat (points p x fs) = words_in_operand x ++ words_in_fields fs
words_in_flat (segment p x y) = words_in_operand x ++ words_in_operand y
words_in_flat (doubly p x b l y) =
    words_in_operand x ++ (words_in_operand b ++ (words_in_operand l ++ words_in_operand y))
words_in_flat (tree p x) = words_in_operand x
words_in_flat (choose p t a b) = words_in_test t

-- those of a level itself
abbrev pub words_in : Flats → List Word
words_in none = []
words_in (also c cs) = words_in_flat c ++ words_in cs

-- one of the code, its branches being read already
abbrev pub flat_step : Flat-F Flat → Flat
flat_step (f.Test p t) = holds p t
flat_step (f.Points p x fs) = points p x fs.items
flat_step (f.Segment p x y) = segment p x y
flat_step (f.Doubly p x b l y) = doubly p x b l y
flat_step (f.Tree p x) = tree p x
flat_step (f.If p t a b) = choose p t (flats a.items) (flats b.items)

-- one of the code
abbrev pub flat_of : CodeFlat → Flat
flat_of = fold-Flat Flat flat_step
