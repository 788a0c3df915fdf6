-- What is wrong with the shape of the procedure named `init`, and with calls of it.
-- It has no parameter, and no conjunct in its pre and post; and no call names it. This project's own rule.
use Rattle.std.specs.Prelude.{ℕ, Bool, List, [], ◌∷◌, ◌++◌, map}
use Rattle.std.specs.Str.{bytes_eq}
use Rattle.sf_base.specs.declared.place.Place.{Place}
use Rattle.sf_ast.specs.declared.word.Word.{Word}
use Rattle.sf_core.specs.declared.command.Expr.{Expr}
use Rattle.sf_core.specs.Program.Init.{init_name}
use Rattle.sf_core.specs.Program.Syntax.{Conjunct, holds, points, segment, doubly, tree, choose, Level, level, Conjuncts, none, also}
use Rattle.sf_elab.specs.declared.fault.Fault.{Fault}
use Rattle.sf_elab.specs.declared.fault.Fault.TheVariants.{InitShape, InitCalled}
use Rattle.sf_elab.specs.Files.Faults.{where_}
use Rattle.sf_elab.specs.Names.Texts.{text}

-- whether the word is that name
abbrev pub names_init : List ℕ → Word → Bool
names_init bytes w = bytes_eq (text bytes w) init_name

-- where a conjunct is
abbrev pub conjunct_place : Conjunct Expr → Place
conjunct_place (holds p t) = p
conjunct_place (points p x fs) = p
conjunct_place (segment p next x y) = p
conjunct_place (doubly p next back x b z y) = p
conjunct_place (tree p left right x) = p
conjunct_place (choose p t a b) = p

-- where each of them is
abbrev pub conjunct_places : Conjuncts Expr → List Place
conjunct_places none = []
conjunct_places (also c cs) = conjunct_place c ∷ conjunct_places cs

-- where those of a level are
abbrev pub level_places : Level Expr → List Place
level_places (level made cs) = conjunct_places cs

-- a fault at each of those words, and at each conjunct of those levels
abbrev pub shape_faults : (references values : List Word) → (pre post : Level Expr) → List Fault
shape_faults references values pre post =
    map (λ w. InitShape w.place) references ++ map (λ w. InitShape w.place) values
    ++ map InitShape (level_places pre) ++ map InitShape (level_places post)

-- what is wrong with the name of a call
abbrev pub name_faults : List ℕ → Word → List Fault
name_faults bytes w = where_ (names_init bytes w) (InitCalled w)
