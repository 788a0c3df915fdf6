-- Examples of doubly linked segments: what the definition says of two cells.
use Rattle.std.specs.Prelude.{◌≡◌, ◌↔◌, cond, ◌==◌, Some, None}
use Rattle.sf_base.specs.declared.ids.FieldId.{FieldId}
use Rattle.sf_base.specs.declared.value.Value.{Value}
use Rattle.sf_base.specs.declared.value.Value.TheVariants.{Nil as nil, Loc as loc}
use Rattle.sf_core.specs.declared.command.Expr.{Expr}
use Rattle.sf_base.specs.HeapStore.{Cell, Heap}
use Rattle.sf_core.specs.Checked.Assertions.Examples.{Satisfies, no_scope, nothing, one_scope, place, tl, two_cells, unknown, x, y}
use Rattle.sf_core.specs.Program.Syntax.{Level, level, none, also, doubly}

-- the field pv, by which doubly linked segments lead back
abbrev pub pv : FieldId
pv = record { 0 = 3 }

-- the cell with these values in tl and pv, and nil in every other field
abbrev pub between : (after before : Value) → Cell
between after before = λ field. cond (field == 0) after (cond (field == 3) before nil)

-- @1 with tl=@2, and @2 with pv=@1; all other fields are nil
abbrev pub two_linked : Heap
two_linked = λ location. cond (location == 1) (Some (between (loc 2) nil))
    (cond (location == 2) (Some (between nil (loc 1))) None)

-- dll(x,nil,y,nil)
abbrev pub both_ways : Level Expr
both_ways = level no_scope (also (doubly place tl pv x nothing y nothing) none)

-- two cells that lead to each other are a doubly linked segment whose last cell is the second, and no other
unfoldable pub LastCellIsTheSecond : Type 0
LastCellIsTheSecond = (w : Value) → Satisfies two_linked both_ways (loc 1) w ↔ (w ≡ loc 2)

-- dll(x,y,_u,nil)
abbrev pub after_y : Level Expr
after_y = level one_scope (also (doubly place tl pv x y unknown nothing) none)

-- they are one before which stands what the first cell leads back to, and nothing else
unfoldable pub FirstCellLeadsBack : Type 0
FirstCellLeadsBack = (w : Value) → Satisfies two_linked after_y (loc 1) w ↔ (w ≡ nil)

-- two cells of a list, the second of which doesn't lead back to the first, are none
unfoldable pub OneWayIsNotBothWays : Type 0
OneWayIsNotBothWays = (w : Value) → Satisfies two_cells both_ways (loc 1) w → ⊥

-- dll(x,nil,x,y) * dll(y,x,y,nil)
abbrev pub one_and_one : Level Expr
one_and_one = level no_scope (also (doubly place tl pv x nothing x y) (also (doubly place tl pv y x y nothing) none))

-- two cells that lead to each other are also two doubly linked segments, the second after the first
unfoldable pub EachCellIsOne : Type 0
EachCellIsOne = Satisfies two_linked one_and_one (loc 1) (loc 2)

-- dll(x,nil,x,y) * dll(y,nil,y,nil)
abbrev pub one_beside_one : Level Expr
one_beside_one = level no_scope (also (doubly place tl pv x nothing x y) (also (doubly place tl pv y nothing y nothing) none))

-- but not two before both of which stands nil
unfoldable pub SecondIsAfterTheFirst : Type 0
SecondIsAfterTheFirst = Satisfies two_linked one_beside_one (loc 1) (loc 2) → ⊥
