-- Examples of small heaps and assertions: what the definitions say of each.
-- The assertions are in the manner of Berdine, Calcagno, O'Hearn, "Smallfoot" (2005).
use Rattle.std.specs.Prelude.{◌≡◌, ◌≢◌, ◌↔◌, ℕ, zero, suc, false, cond, ◌==◌, [], ◌∷◌, Some, None}
use Rattle.sf_base.specs.declared.ids.FieldId.{FieldId}
use Rattle.sf_base.specs.declared.ids.Var.{Var}
use Rattle.sf_base.specs.declared.ids.Var.TheVariants.{Own, Shared}
use Rattle.sf_base.specs.declared.place.Place.{Place}
use Rattle.sf_base.specs.declared.value.Value.{Value}
use Rattle.sf_base.specs.declared.value.Value.TheVariants.{Nil as nil, Loc as loc}
use Rattle.sf_core.specs.declared.assertion.Operand.{Operand}
use Rattle.sf_core.specs.declared.assertion.Operand.TheVariants.{Known, Exists}
use Rattle.sf_core.specs.declared.assertion.Scope.{Scope}
use Rattle.sf_core.specs.declared.assertion.Test.TheVariants.{Equal}
use Rattle.sf_core.specs.declared.command.Expr.{Expr}
use Rattle.sf_core.specs.declared.command.Expr.TheVariants.{Var as Variable, Nil}
use Rattle.sf_core.specs.Assertions.Determined.{CanBeTaken, Determined}
use Rattle.sf_base.specs.HeapStore.{Cell, Heap, IsEmpty, IsOne, Splits}
use Rattle.sf_core.specs.Assertions.Occurs.{OccursInAll}
use Rattle.sf_core.specs.Assertions.Sat.{Sat, SatAll, value}
use Rattle.sf_core.specs.Program.Syntax.{Conjunct, Conjuncts, Level, level, none, also, points, segment, tree, choose, holds}

-- the place of all of it
abbrev pub place : Place
place = record { line = 1; column = 1 }

-- the field tl of lists
abbrev pub tl : FieldId
tl = record { 0 = 0 }

-- the left field of trees
abbrev pub l : FieldId
l = record { 0 = 1 }

-- the right field of trees
abbrev pub r : FieldId
r = record { 0 = 2 }

-- the variable x
abbrev pub x : Operand Expr
x = Known (Variable (record { var = Own 0; place = place }))

-- the variable y
abbrev pub y : Operand Expr
y = Known (Variable (record { var = Own 1; place = place }))

-- nil
abbrev pub nothing : Operand Expr
nothing = Known Nil

-- the existential of number 0
abbrev pub unknown : Operand Expr
unknown = Exists 0

-- the value of x, and that of y and every later variable of the procedure; variables of resources are nil
abbrev pub where_are : Value → Value → Var → Value
where_are v w (Own zero) = v
where_are v w (Own (suc n)) = w
where_are v w (Shared s n) = nil

-- no existentials are made
abbrev pub no_scope : Scope
no_scope = record { first = 0; count = 0 }

-- the existential of number 0 is made
abbrev pub one_scope : Scope
one_scope = record { first = 0; count = 1 }

-- a heap satisfies an assertion where x and y have these values
abbrev pub Satisfies : Heap → Level Expr → Value → Value → Type 0
Satisfies heap a v w = Sat a (value (where_are v w)) (λ n. nil) heap

-- the cell with that value in tl, and nil in every other field
abbrev pub tail : Value → Cell
tail v = λ field. cond (field == 0) v nil

-- the heap with one cell
abbrev pub one_cell : ℕ → Cell → Heap
one_cell location cell = λ other. cond (other == location) (Some cell) None

-- @1 with tl=@2, and @2 with tl=nil
abbrev pub two_cells : Heap
two_cells = λ location. cond (location == 1) (Some (tail (loc 2)))
    (cond (location == 2) (Some (tail nil)) None)

-- x|->tl:y * ls(y,nil)
abbrev pub cell_and_list : Level Expr
cell_and_list = level no_scope (also (points place x ((tl, y) ∷ [])) (also (segment place tl y nothing) none))

-- two cells are a cell and the list after it
unfoldable pub TwoCellsAreACellAndAList : Type 0
TwoCellsAreACellAndAList = Satisfies two_cells cell_and_list (loc 1) (loc 2)

-- no smaller part of the two cells is
unfoldable pub NoLessIsACellAndAList : Type 0
NoLessIsACellAndAList = (part rest : Heap) → Splits two_cells part rest
    → Satisfies part cell_and_list (loc 1) (loc 2) → part ≡ two_cells

-- if x == y then emp else x|->
abbrev pub choice : Level Expr
choice = level no_scope (also (choose place (Equal x y) (level no_scope none)
    (level no_scope (also (points place x []) none))) none)

-- the choice is the empty heap where x and y are the same, and else one cell at x
unfoldable pub ChoiceGoesByItsTest : Type 0
ChoiceGoesByItsTest = (v w : Value) (heap : Heap)
    → (v ≡ w → Satisfies heap choice v w ↔ IsEmpty heap)
    × (v ≢ w → Satisfies heap choice v w
    ↔ ((location : ℕ) × (cell : Cell) × (v ≡ loc location) × IsOne location cell heap))

-- x|->tl:_u * _u == y
abbrev pub field_is : Level Expr
field_is = level one_scope (also (points place x ((tl, unknown) ∷ []))
    (also (holds place (Equal unknown y)) none))

-- an existential in a points-to is the value that the field has
unfoldable pub ExistentialIsTheFieldsValue : Type 0
ExistentialIsTheFieldsValue = (location : ℕ) (cell : Cell) (w : Value)
    → Satisfies (one_cell location cell) field_is (loc location) w ↔ (cell 0 ≡ w)

-- x|->tl:_u * if _u == nil then emp else y|->
abbrev pub field_decides : Level Expr
field_decides = level one_scope (
    also (points place x ((tl, unknown) ∷ []))
    (also (choose place (Equal unknown nothing) (level no_scope none)
    (level no_scope (also (points place y []) none))) none))

-- an existential in the test of a choice decides it: of one cell this holds exactly where its field is nil
unfoldable pub ExistentialDecidesAChoice : Type 0
ExistentialDecidesAChoice = (location : ℕ) (cell : Cell) (w : Value)
    → Satisfies (one_cell location cell) field_decides (loc location) w ↔ (cell 0 ≡ nil)

-- if x == nil then emp else (x|->tl:_u * _u|->)
abbrev pub branch_makes : Level Expr
branch_makes = level no_scope (
    also (choose place (Equal x nothing) (level no_scope none)
    (level one_scope (also (points place x ((tl, unknown) ∷ [])) (also (points place unknown []) none))))
    none)

-- an existential of a branch has a value where that branch is chosen, and is no matter where the other is
unfoldable pub ExistentialOfABranchIsMadeThere : Type 0
ExistentialOfABranchIsMadeThere = (w : Value) → Satisfies two_cells branch_makes (loc 1) w
    × ((heap : Heap) → Satisfies heap branch_makes nil w ↔ IsEmpty heap)

-- a node whose fields are nil is a tree
unfoldable pub OneNodeIsATree : Type 0
OneNodeIsATree = (location : ℕ) (w : Value) → Satisfies (one_cell location (λ field. nil))
    (level no_scope (also (tree place l r x) none)) (loc location) w

-- ls(x,y)
abbrev pub list : Level Expr
list = level no_scope (also (segment place tl x y) none)

-- a segment may end at a location that has no cell
unfoldable pub SegmentMayEndAtAnAbsentCell : Type 0
SegmentMayEndAtAnAbsentCell = Satisfies (one_cell 1 (tail (loc 9))) list (loc 1) (loc 9)

-- a cell that leads to itself is no segment, wherever it is to end
unfoldable pub CircleIsNoSegment : Type 0
CircleIsNoSegment = (w : Value) → Satisfies (one_cell 1 (tail (loc 1))) list (loc 1) w → ⊥

-- ls(_u,nil) * x|->tl:_u is determined: its second conjunct comes first
unfoldable pub OrderIsFound : Type 0
OrderIsFound = Determined (level one_scope (also (segment place tl unknown nothing)
    (also (points place x ((tl, unknown) ∷ [])) none)))

-- tree(_u) is not determined
unfoldable pub TreeOfAnUnknownIsUndetermined : Type 0
TreeOfAnUnknownIsUndetermined = Determined (level one_scope (also (tree place l r unknown) none)) → ⊥

-- x|->tl:_u
abbrev pub cell_of_unknown : Conjuncts Expr
cell_of_unknown = also (points place x ((tl, unknown) ∷ [])) none

-- x|->tl:_u is determined, and so fixes _u: on the heap of one cell it holds with the field's value, and with
-- no other
unfoldable pub ExistentialIsFixed : Type 0
ExistentialIsFixed = Determined (level one_scope cell_of_unknown) × OccursInAll cell_of_unknown unknown
    × ((location : ℕ) (cell : Cell) (w : Value) (some : ℕ → Value)
    → SatAll cell_of_unknown (value (where_are (loc location) w)) some (one_cell location cell)
    ↔ (some 0 ≡ cell 0))

-- if y == nil then emp else ls(_u,nil)
abbrev pub late_choice : Conjunct Expr
late_choice = choose place (Equal y nothing) (level no_scope none)
    (level no_scope (also (segment place tl unknown nothing) none))

-- a choice waits for what its branches take from outside: (if y == nil then emp else ls(_u,nil)) * x|->tl:_u
-- is determined, and the choice can't come first
unfoldable pub ChoiceWaitsForAnExistential : Type 0
ChoiceWaitsForAnExistential = Determined (level one_scope (also late_choice cell_of_unknown))
    × (CanBeTaken (λ n. false) late_choice → ⊥)

-- if x == nil then emp else (ls(_u,nil) * x|->tl:_u)
abbrev pub unrolled_list : Level Expr
unrolled_list = level no_scope (also (choose place (Equal x nothing) (level no_scope none)
    (level one_scope (also (segment place tl unknown nothing) cell_of_unknown))) none)

-- an existential that a branch makes becomes known inside it, and its choice doesn't wait for it
unfoldable pub BranchMakesItsExistentialKnown : Type 0
BranchMakesItsExistentialKnown = Determined unrolled_list
