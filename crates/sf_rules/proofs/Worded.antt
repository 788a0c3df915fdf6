-- Conjuncts with terms in place of expressions.
use Rattle.std.proofs.Common.{◌≡◌, List, [], ◌∷◌, map, Vec, Global, refl, sym, ap, ◌∙◌}
use Rattle.sf_base.specs.declared.ids.FieldId.{FieldId}
use Rattle.sf_base.specs.declared.place.Place.{Place}
use Rattle.sf_core.specs.declared.assertion.Operand.{Operand}
use Rattle.sf_core.specs.declared.command.Expr.{Expr}
use Rattle.sf_core.specs.declared.assertion.Conjunct.{Conjunct as CodeConjunct, Points}
use Rattle.sf_core.specs.declared.assertion.Conjunct.TheVariants.{rolls-Points}
use Rattle.sf_core.specs.declared.assertion.Conjunct.TheFolds.{fold-roll-Conjunct, fold-roll-Level}
use Rattle.sf_core.specs.declared.assertion.Conjunct.TheOpen.{Level-F}
use Rattle.sf_core.specs.declared.assertion.Level.{Level as CodeLevel, roll-Level}
use Rattle.sf_core.specs.Program.Syntax.{Conjunct, also, points, Level, level}
use Rattle.sf_core.specs.Program.View.{conjuncts, conjunct_of, level_of, conjunct_step, level_step}
use Rattle.sf_sym.specs.declared.term.Term.{Term}
use Rattle.sf_sym.specs.Mapped.{operand_with, conjunct_with, conjuncts_with}

pub conjuncts_with-map : {X : Type 0} (to : Expr → Term) (f : X → Conjunct Expr) (xs : List X)
    → conjuncts (map (λ x. conjunct_with to (f x)) xs) ≡ conjuncts_with to (conjuncts (map f xs))
conjuncts_with-map to f [] = refl
conjuncts_with-map to f (x ∷ xs) = ap (also (conjunct_with to (f x))) (conjuncts_with-map to f xs)

pub conjuncts_with-of : {X Y : Type 0} (to : Expr → Term) (f : X → Conjunct Expr) (g : Y → Conjunct Term)
    (xs : List X) (ys : List Y)
    → map g ys ≡ map (λ x. conjunct_with to (f x)) xs
    → conjuncts (map g ys) ≡ conjuncts_with to (conjuncts (map f xs))
conjuncts_with-of to f g xs ys e = ap conjuncts e ∙ conjuncts_with-map to f xs

pub level_of-roll : (x : Level-F Term (CodeConjunct Term) (CodeLevel Term))
    → level_of {E = Term} (roll-Level Term x) ≡ level x.made (conjuncts (map conjunct_of x.conjuncts.items))
level_of-roll x = fold-roll-Level Term (Conjunct Term) (Level Term) conjunct_step level_step x

conjunct_of-points : (p : Place) (x : Operand Term) (v : Vec (FieldId × Operand Term) Global)
    → conjunct_of {E = Term} (Points p x v) ≡ points p x v.items
conjunct_of-points p x v =
    ap (conjunct_of {E = Term}) (sym (rolls-Points p x v))
    ∙ fold-roll-Conjunct Term (Conjunct Term) (Level Term) conjunct_step level_step _

conjunct_of-points_before : (p : Place) (x : Operand Expr) (v : Vec (FieldId × Operand Expr) Global)
    → conjunct_of {E = Expr} (Points p x v) ≡ points p x v.items
conjunct_of-points_before p x v =
    ap (conjunct_of {E = Expr}) (sym (rolls-Points p x v))
    ∙ fold-roll-Conjunct Expr (Conjunct Expr) (Level Expr) conjunct_step level_step _

pub points_with : (to : Expr → Term) (c : CodeConjunct Expr) (p : Place) (x : Operand Expr)
    (xs : Vec (FieldId × Operand Expr) Global) (y : Operand Term) (ys : Vec (FieldId × Operand Term) Global)
    → c ≡ Points p x xs → y ≡ operand_with to x → ys.items ≡ map (λ f. (f.0, operand_with to f.1)) xs.items
    → conjunct_of {E = Term} (Points p y ys) ≡ conjunct_with to (conjunct_of {E = Expr} c)
points_with to c p x xs y ys is a b =
    conjunct_of-points p y ys ∙ ap (λ z. points p z ys.items) a ∙ ap (points p (operand_with to x)) b
    ∙ ap (conjunct_with to) (sym (ap (conjunct_of {E = Expr}) is ∙ conjunct_of-points_before p x xs))
