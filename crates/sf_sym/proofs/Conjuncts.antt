-- Levels of the code, and what they are to the definitions; conjuncts with other things in place of what has a value.
use Rattle.std.proofs.Common.{◌≡◌, List, [], ◌∷◌, map, Vec, Global, refl, sym, ap, ◌∙◌}
use Rattle.sf_base.specs.declared.ids.FieldId.{FieldId}
use Rattle.sf_base.specs.declared.place.Place.{Place}
use Rattle.sf_core.specs.declared.assertion.Conjunct.{Conjunct as CodeConjunct, Points}
use Rattle.sf_core.specs.declared.assertion.Conjunct.TheVariants.{rolls-Points}
use Rattle.sf_core.specs.declared.assertion.Operand.{Operand}
use Rattle.sf_core.specs.declared.assertion.Conjunct.TheFolds.{fold-roll-Conjunct, fold-roll-Level, fold_out-Level}
use Rattle.sf_core.specs.declared.assertion.Conjunct.TheOpen.{Level-F}
use Rattle.sf_core.specs.declared.assertion.Level.{Level as CodeLevel, roll-Level, out-Level}
use Rattle.sf_core.specs.Program.Syntax.{Conjunct, also, points, Level, level}
use Rattle.sf_core.specs.Program.View.{conjuncts, conjunct_of, level_of, conjunct_step, level_step}
use Rattle.sf_sym.specs.declared.term.Term.{Term}
use Rattle.sf_sym.specs.Mapped.{conjunct_with, conjuncts_with}

-- conjuncts one by one are conjuncts at once
pub conjuncts_with-map : {E F : Type 0} (to : E → F) (cs : List (Conjunct E))
    → conjuncts (map (conjunct_with to) cs) ≡ conjuncts_with to (conjuncts cs)
conjuncts_with-map to [] = refl
conjuncts_with-map to (c ∷ cs) = ap (also (conjunct_with to c)) (conjuncts_with-map to cs)

-- a level is what it was made with, and its conjuncts
pub level_of-roll : {E : Type 0} (x : Level-F E (CodeConjunct E) (CodeLevel E))
    → level_of {E = E} (roll-Level E x) ≡ level x.made (conjuncts (map conjunct_of x.conjuncts.items))
level_of-roll {E} x = fold-roll-Level E (Conjunct E) (Level E) conjunct_step level_step x

pub level_of-out : {E : Type 0} (l : CodeLevel E)
    → level_of {E = E} l
    ≡ level (out-Level E l).made (conjuncts (map conjunct_of (out-Level E l).conjuncts.items))
level_of-out {E} l = fold_out-Level E (Conjunct E) (Level E) conjunct_step level_step l

-- a points-to is its root and its fields
pub conjunct_of-points : (p : Place) (x : Operand Term) (v : Vec (FieldId × Operand Term) Global)
    → conjunct_of {E = Term} (Points p x v) ≡ points p x v.items
conjunct_of-points p x v =
    ap (conjunct_of {E = Term}) (sym (rolls-Points p x v))
    ∙ fold-roll-Conjunct Term (Conjunct Term) (Level Term) conjunct_step level_step _

-- so that one with the same fields is the same
pub points_copied : (c : CodeConjunct Term) (p : Place) (x : Operand Term)
    (xs ys : Vec (FieldId × Operand Term) Global) → c ≡ Points p x xs → ys.items ≡ xs.items
    → conjunct_of {E = Term} (Points p x ys) ≡ conjunct_of {E = Term} c
points_copied c p x xs ys is e =
    conjunct_of-points p x ys ∙ ap (points p x) e ∙ sym (conjunct_of-points p x xs)
    ∙ ap (conjunct_of {E = Term}) (sym is)
