-- Safe: what a frame needs of what it owns so that its next events, as many as are asked for, go well.
-- After Vafeiadis, "Concurrent Separation Logic and Operational Semantics" (2011); rules: O'Hearn, Brookes (2007).
use Rattle.std.specs.Prelude.{◌≡◌, ◌≢◌, ℕ, zero, suc, List, [], ◌∷◌, ◌++◌, Some, None, length, ◌<◌}
use Rattle.sf_base.specs.declared.ids.ResId.{ResId}
use Rattle.sf_base.specs.declared.value.Value.TheVariants.{Loc as loc}
use Rattle.sf_base.specs.HeapStore.{Cell, put_field}
use Rattle.sf_core.specs.declared.assertion.Test.{Test}
use Rattle.sf_core.specs.declared.command.Expr.{Expr}
use Rattle.sf_core.specs.Assertions.Sat.{IsTrueOf}
use Rattle.sf_core.specs.Machine.Config.{Item, command, leave, items, Room}
use Rattle.sf_core.specs.Machine.Step.{callee_frame, arguments, room_for, room_count, procedure_at, Finds}
use Rattle.sf_core.specs.Program.Syntax.{Call, assign, look_up, mutate, new, dispose, if, while, call, fork, with, Procedure, Program}
use Rattle.sf_safe.specs.Checked.Own.{Own, Parts, HasSlot, HasExpr, HasTest, HasAll, put_slot, put_cell, new_slots}
use Rattle.sf_safe.specs.Checked.Contract.{Known, see, Entered, Ended, Returned, FreeShare}

-- the frame that a call of g makes in that room, with the values of the value arguments
abbrev pub callee : Known → Own → Call → Procedure → Room → Known
callee k w c g room = record {
  fixed = (callee_frame k.fixed.slots c g room).fixed;
  values = arguments k.fixed.slots w.slots c;
}

-- the part is enough for the call: beside the call's new slots the callee begins with it
abbrev pub Enters : Program → Known → Own → Call → Procedure → Room → (part : Own) → Type 0
Enters p k w c g room part = (begun : Own)
    → Parts begun part (new_slots room (arguments k.fixed.slots w.slots c))
    → Entered p (callee k w c g room) begun

-- a frame may be at a cell: the expression's variable and the cell that it names are owned
pub record OwnsCell (k : Known) (w : Own) (root : Expr) : Type 0 where
  pub location : ℕ
  pub cell : Cell
  pub reads : HasExpr w k.fixed.slots root
  pub finds : Finds (see k w) w.cells root location cell

-- the test's variables are owned, and each way that it may go is all right: the rules of branches and loops
pub record Branches (k : Known) (w : Own) (test : Test Expr) (This That : Type 0) : Type 0 where
  pub reads : HasTest w k.fixed.slots test
  pub this : IsTrueOf (see k w) test → This
  pub that : (IsTrueOf (see k w) test → ⊥) → That

-- a call: a part is given that makes the callee begin, the rest is kept, and with whatever the callee gives
-- back beside it the frame goes on. The rule of procedure calls with the frame rule
pub record Calls (p : Program) (k : Known) (w : Own) (c : Call) (g : Procedure) (Next : Own → Type 0)
    : Type 0 where
  pub given : Own
  pub kept : Own
  pub parts : Parts w given kept
  pub enters : (event : ℕ) → Enters p k w c g (room_for g event 0) given
  pub goes_on : (event : ℕ) (back after : Own) → Returned p (callee k w c g (room_for g event 0)) back
      → Parts after back kept → Next after

-- two calls: two disjoint parts are given, one for each, and with whatever the two callees give back,
-- disjoint, beside the rest the frame goes on. The rule of parallel composition with the frame rule
pub record Forks (p : Program) (k : Known) (w : Own) (c d : Call) (g h : Procedure) (Next : Own → Type 0)
    : Type 0 where
  pub given : Own
  pub left : Own
  pub right : Own
  pub kept : Own
  pub parts : Parts w given kept
  pub apart : Parts given left right
  pub enters_left : (event : ℕ) → Enters p k w c g (room_for g event 0) left
  pub enters_right : (event : ℕ) → Enters p k w d h (room_for h event (room_count g)) right
  pub goes_on : (event : ℕ) (one two back after : Own)
      → Returned p (callee k w c g (room_for g event 0)) one
      → Returned p (callee k w d h (room_for h event (room_count g))) two → Parts back one two
      → Parts after back kept → Next after

-- an entry: with whatever share the free resource has, the condition can be tested, and where it is true the
-- frame goes on with both. The rule of critical regions
pub record EntersRegion (p : Program) (k : Known) (w : Own) (r : ResId) (test : Test Expr) (Next : Own → Type 0)
    : Type 0 where
  pub there : r.0 < length p.resources
  pub reads : (share both : Own) → FreeShare p r share → Parts both w share → HasTest both k.fixed.slots test
  pub goes_on : (share both : Own) → FreeShare p r share → Parts both w share → IsTrueOf (see k both) test
      → Next both

-- an exit: a part is given up that is the share of a free resource, and the frame goes on with the rest
pub record LeavesRegion (p : Program) (w : Own) (r : ResId) (Next : Own → Type 0) : Type 0 where
  pub share : Own
  pub kept : Own
  pub parts : Parts w share kept
  pub free : FreeShare p r share
  pub goes_on : Next kept

-- Safe: for that many events the frame, which has these items still to do and owns w, finds what it needs in
-- w, whatever other tasks do to what it doesn't own
abbrev pub Safe : Program → (events : ℕ) → Known → List Item → Own → Type 0
Safe p zero k todo w = Unit {0}
-- at its end it owns just what its postcondition says
Safe p (suc n) k [] w = Ended p k w
-- an assignment writes an owned variable and reads owned ones
Safe p (suc n) k (command (assign place x e) ∷ rest) w =
    HasSlot w (k.fixed.slots x.var) × HasExpr w k.fixed.slots e
    × Safe p n k rest (put_slot (k.fixed.slots x.var) (see k w e) w)
-- a look-up reads an owned cell into an owned variable
Safe p (suc n) k (command (look_up place x e field) ∷ rest) w =
    HasSlot w (k.fixed.slots x.var) × (at : OwnsCell k w e)
    × Safe p n k rest (put_slot (k.fixed.slots x.var) (at.cell field.0) w)
-- a mutation writes an owned cell
Safe p (suc n) k (command (mutate place e field v) ∷ rest) w =
    HasExpr w k.fixed.slots v × (at : OwnsCell k w e)
    × Safe p n k rest (put_cell at.location (Some (put_field at.cell field.0 (see k w v))) w)
-- a new cell is owned, wherever it comes and whatever it has in its fields
Safe p (suc n) k (command (new place x) ∷ rest) w =
    HasSlot w (k.fixed.slots x.var)
    × ((location : ℕ) (cell : Cell) → location ≢ 0 → w.cells location ≡ None
    → Safe p n k rest (put_slot (k.fixed.slots x.var) (loc location) (put_cell location (Some cell) w)))
-- a dispose gives up an owned cell
Safe p (suc n) k (command (dispose place e) ∷ rest) w =
    (at : OwnsCell k w e) × Safe p n k rest (put_cell at.location None w)
Safe p (suc n) k (command (if place test this that) ∷ rest) w =
    Branches k w test (Safe p n k (items this ++ rest) w) (Safe p n k (items that ++ rest) w)
Safe p (suc n) k (command (while place test kept body) ∷ rest) w =
    Branches k w test (Safe p n k (items body ++ (command (while place test kept body) ∷ rest)) w)
    (Safe p n k rest w)
-- a call of whatever procedure the program has under that number
Safe p (suc n) k (command (call place c) ∷ rest) w =
    HasAll w k.fixed.slots c.values
    × ((g : Procedure) → procedure_at p c.callee ≡ Some g → Calls p k w c g (Safe p n k rest))
Safe p (suc n) k (command (fork place c d) ∷ rest) w =
    HasAll w k.fixed.slots c.values × HasAll w k.fixed.slots d.values
    × ((g h : Procedure) → procedure_at p c.callee ≡ Some g → procedure_at p d.callee ≡ Some h
    → Forks p k w c d g h (Safe p n k rest))
Safe p (suc n) k (command (with place r test body) ∷ rest) w =
    EntersRegion p k w r test (Safe p n k (items body ++ (leave r ∷ rest)))
Safe p (suc n) k (leave r ∷ rest) w = LeavesRegion p w r (Safe p n k rest)
