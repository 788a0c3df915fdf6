-- An example: tags that prove a small program, so that it is sound.
-- It is in the manner of Berdine, Calcagno, O'Hearn, "Smallfoot" (2005).
use Rattle.std.specs.Prelude.{List, [], ◌∷◌, codes}
use Rattle.std.specs.List.{All}
use Rattle.sf_base.specs.declared.ids.FieldId.{FieldId}
use Rattle.sf_base.specs.declared.ids.Var.TheVariants.{Own}
use Rattle.sf_base.specs.declared.place.Place.{Place}
use Rattle.sf_core.specs.declared.assertion.Operand.{Operand}
use Rattle.sf_core.specs.declared.assertion.Operand.TheVariants.{Known}
use Rattle.sf_core.specs.Checked.Machine.Examples.{procedure}
use Rattle.sf_core.specs.declared.command.Expr.{Expr}
use Rattle.sf_calls.specs.FirstBreach.{Conditions}
use Rattle.sf_core.specs.Assertions.Determined.{Determined}
use Rattle.sf_core.specs.declared.command.Expr.TheVariants.{Var as Variable, Nil}
use Rattle.sf_core.specs.Program.Formed.{IsFormed}
use Rattle.sf_core.specs.Program.Syntax.{level, none, also, points, mutate, fork, done, then, Assertion, Call, Procedure, Program}
use Rattle.sf_precise.specs.Annotations.{annotations_in}
use Rattle.sf_rules.specs.Setting.{IsSettingOf, Setting}
use Rattle.sf_sym.specs.declared.tag.Tag.{Tag}
use Rattle.sf_sym.specs.declared.tag.Tag.TheVariants as t
use Rattle.sf_rules.specs.Proving.{Proves}
use Rattle.sf_core.specs.Machine.Sound.{IsSound}

-- the place of all of it
abbrev pub place : Place
place = record { line = 1; column = 1 }

-- the field hd
abbrev pub hd : FieldId
hd = record { 0 = 0 }

-- the parameter x
abbrev pub x : Expr
x = Variable (record { var = Own 0; place = place })

-- there is a cell at x, with these fields
abbrev pub at_x : List (FieldId × Operand Expr) → Assertion
at_x fields =
    record {
      names = [];
      level = level (record { first = 0; count = 0 }) (also (points place (Known x) fields) none);
    }

-- f(x) [x|->] { x->hd = nil; } [x|->hd:nil]
abbrev pub clears : Procedure
clears = record (procedure (codes "x" ∷ []) 0 1 (at_x []) (then (mutate place x hd Nil) done)) {
  post = at_x ((hd, Known Nil) ∷ []);
}

-- the parameter y
abbrev pub y : Expr
y = Variable (record { var = Own 1; place = place })

-- there is a cell at x and another one at y, with these fields
abbrev pub at_both : List (FieldId × Operand Expr) → Assertion
at_both fields =
    record {
      names = [];
      level = level (record { first = 0; count = 0 })
          (also (points place (Known x) fields) (also (points place (Known y) fields) none));
    }

-- f of that value
abbrev pub clear : Expr → Call
clear e = record { callee = record { 0 = 0 }; place = place; references = []; values = e ∷ [] }

-- g(x, y) [x|-> * y|->] { f(x) || f(y); } [x|->hd:nil * y|->hd:nil]
abbrev pub clears_both : Procedure
clears_both = record (procedure (codes "x" ∷ codes "y" ∷ []) 0 2 (at_both [])
    (then (fork place (clear x) (clear y)) done)) {
      name = codes "g";
      post = at_both ((hd, Known Nil) ∷ []);
    }

-- the program with both procedures
abbrev pub pair : Program
pair = record { fields = codes "hd" ∷ []; resources = []; procedures = clears ∷ clears_both ∷ [] }

-- the tags of its proof
abbrev pub pair_tags : List Tag
pair_tags =
    t.Procedure (record { 0 = 0 }) ∷ t.Add ∷ t.Mutate 1 ∷ t.Return ∷ t.Cell 1 ∷ t.End
    ∷ t.Procedure (record { 0 = 1 }) ∷ t.Add ∷ t.Add ∷ t.Fork ∷ t.Cell 1 ∷ t.Cell 2 ∷ t.Give ∷ t.Add ∷ t.Add
    ∷ t.Return ∷ t.Cell 3 ∷ t.Cell 4 ∷ t.End ∷ []

-- ExampleIsSound: the program keeps what the theorem asks of one, the tags prove it by the rows of the whole table, and it
-- is sound
pub record ExampleIsSound (p : Program) (tags : List Tag) : Type 0 where
  pub formed : IsFormed p
  pub conditions : Conditions p
  pub determined : All (λ a. Determined a.level) (annotations_in p)
  pub setting : Setting
  pub own_setting : IsSettingOf p setting
  pub proves : Proves setting tags
  pub sound : IsSound p

-- the program with both procedures is so, by these tags
abbrev pub PairIsSound : Type 0
PairIsSound = ExampleIsSound pair pair_tags
