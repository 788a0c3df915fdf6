-- How the code's conjuncts and levels of any expressions are read, form by form. None is a definition.
-- Names: `view-FORM`.
use Rattle.std.proofs.Common.{◌≡◌, map, Vec, Global, sym, ap, ◌∙◌}
use Rattle.sf_base.specs.declared.ids.FieldId.{FieldId}
use Rattle.sf_base.specs.declared.place.Place.{Place}
use Rattle.sf_core.specs.declared.assertion.Operand.{Operand}
use Rattle.sf_core.specs.declared.assertion.Test.{Test}
use Rattle.sf_core.specs.declared.assertion.Conjunct.{Holds, Points, Segment, Doubly, Tree, If}
use Rattle.sf_core.specs.declared.assertion.Conjunct.TheVariants.{rolls-Holds, rolls-Points, rolls-Segment, rolls-Doubly, rolls-Tree, rolls-If}
use Rattle.sf_core.specs.declared.assertion.Conjunct.TheFolds.{fold-roll-Conjunct, fold_out-Level}
use Rattle.sf_core.specs.declared.assertion.Level.{Level as CodeLevel, out-Level}
use Rattle.sf_core.specs.Program.Syntax.{Conjunct, holds, points, segment, doubly, tree, choose, Level, level}
use Rattle.sf_core.specs.Program.View.{conjuncts, conjunct_of, level_of, conjunct_step, level_step}

module _ {E : Type 0} where
  pub view-holds : (p : Place) (t : Test (Operand E)) → conjunct_of {E = E} (Holds p t) ≡ holds p t
  view-holds p t = ap (conjunct_of {E = E}) (sym (rolls-Holds p t))
      ∙ fold-roll-Conjunct E (Conjunct E) (Level E) conjunct_step level_step _

  pub view-points : (p : Place) (x : Operand E) (v : Vec (FieldId × Operand E) Global)
      → conjunct_of {E = E} (Points p x v) ≡ points p x v.items
  view-points p x v = ap (conjunct_of {E = E}) (sym (rolls-Points p x v))
      ∙ fold-roll-Conjunct E (Conjunct E) (Level E) conjunct_step level_step _

  pub view-segment : (p : Place) (f : FieldId) (x y : Operand E)
      → conjunct_of {E = E} (Segment p f x y) ≡ segment p f x y
  view-segment p f x y = ap (conjunct_of {E = E}) (sym (rolls-Segment p f x y))
      ∙ fold-roll-Conjunct E (Conjunct E) (Level E) conjunct_step level_step _

  pub view-doubly : (p : Place) (f g : FieldId) (x b l y : Operand E)
      → conjunct_of {E = E} (Doubly p f g x b l y) ≡ doubly p f g x b l y
  view-doubly p f g x b l y = ap (conjunct_of {E = E}) (sym (rolls-Doubly p f g x b l y))
      ∙ fold-roll-Conjunct E (Conjunct E) (Level E) conjunct_step level_step _

  pub view-tree : (p : Place) (l r : FieldId) (x : Operand E)
      → conjunct_of {E = E} (Tree p l r x) ≡ tree p l r x
  view-tree p l r x = ap (conjunct_of {E = E}) (sym (rolls-Tree p l r x))
      ∙ fold-roll-Conjunct E (Conjunct E) (Level E) conjunct_step level_step _

  pub view-if : (p : Place) (t : Test (Operand E)) (this that : CodeLevel E)
      → conjunct_of {E = E} (If p t this that) ≡ choose p t (level_of this) (level_of that)
  view-if p t this that = ap (conjunct_of {E = E}) (sym (rolls-If p t this that))
      ∙ fold-roll-Conjunct E (Conjunct E) (Level E) conjunct_step level_step _

  pub view-level : (l : CodeLevel E)
      → level_of {E = E} l
      ≡ level (out-Level E l).made (conjuncts (map conjunct_of (out-Level E l).conjuncts.items))
  view-level l = fold_out-Level E (Conjunct E) (Level E) conjunct_step level_step l
