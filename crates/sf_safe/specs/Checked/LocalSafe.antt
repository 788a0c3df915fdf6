-- LocalSafe: Safe for a frame that is seen from inside, by the values of its variables: what rules of proof show.
-- After Vafeiadis (2011); rules: O'Hearn (2007), Brookes (2007).
use Rattle.std.specs.Prelude.{◌≡◌, ◌≢◌, ℕ, zero, suc, List, [], ◌∷◌, ◌++◌, Some, None, length, ◌<◌}
use Rattle.sf_base.specs.declared.ids.ProcId.{ProcId}
use Rattle.sf_base.specs.declared.ids.ResId.{ResId}
use Rattle.sf_base.specs.declared.value.Value.{Value}
use Rattle.sf_base.specs.declared.value.Value.TheVariants.{Loc as loc}
use Rattle.sf_base.specs.HeapStore.{Cell, put_field}
use Rattle.sf_calls.specs.FirstBreach.{Conditions}
use Rattle.sf_core.specs.declared.assertion.Test.{Test}
use Rattle.sf_core.specs.declared.command.Expr.{Expr}
use Rattle.sf_core.specs.Assertions.Sat.{IsTrueOf}
use Rattle.sf_core.specs.Machine.Config.{Item, command, leave, items}
use Rattle.sf_core.specs.Machine.Step.{Finds, procedure_at}
use Rattle.sf_core.specs.Program.Formed.{IsFormed}
use Rattle.sf_core.specs.Program.Syntax.{Call, assign, look_up, mutate, new, dispose, if, while, call, fork, with, Procedure, Program}
use Rattle.sf_core.specs.Machine.Sound.{IsSound}
use Rattle.sf_safe.specs.Checked.Law.{BodiesAreSafe}
use Rattle.sf_safe.specs.Checked.Local.{Begins, ComesBack, Ends, Fits, HasIn, HasInAll, HasInTest, HasVar, IsShare, Lends, Local, LocalParts, arguments_in, look, put_local, put_variable}

-- the frame has the variable and the cell that a command needs
pub record HasCell (l : Local) (root : Expr) : Type 0 where
  pub location : ℕ
  pub cell : Cell
  pub reads : HasIn l root
  pub finds : Finds (look l) l.cells root location cell

-- a test: each way that it may go is all right
pub record LocalBranches (l : Local) (test : Test Expr) (This That : Type 0) : Type 0 where
  pub reads : HasInTest l test
  pub this : IsTrueOf (look l) test → This
  pub that : (IsTrueOf (look l) test → ⊥) → That

-- a call: a part is lent, and with whatever comes back beside the rest the frame goes on
pub record LocalCalls (p : Program) (l : Local) (c : Call) (g : Procedure) (Next : Local → Type 0) : Type 0 where
  pub fits : Fits p c g
  pub lent : Local
  pub kept : Local
  pub parts : LocalParts l lent kept
  pub lends : Lends p c g (arguments_in l c) lent
  pub goes_on : (back after : Local) → ComesBack p c g (arguments_in l c) back → LocalParts after back kept
      → Next after

-- two calls: two disjoint parts are lent, and with whatever comes back beside the rest the frame goes on
pub record LocalForks (p : Program) (l : Local) (c d : Call) (g h : Procedure) (Next : Local → Type 0)
    : Type 0 where
  pub fits_left : Fits p c g
  pub fits_right : Fits p d h
  pub lent : Local
  pub left : Local
  pub right : Local
  pub kept : Local
  pub parts : LocalParts l lent kept
  pub apart : LocalParts lent left right
  pub lends_left : Lends p c g (arguments_in l c) left
  pub lends_right : Lends p d h (arguments_in l d) right
  pub goes_on : (one two back after : Local) → ComesBack p c g (arguments_in l c) one
      → ComesBack p d h (arguments_in l d) two → LocalParts back one two → LocalParts after back kept
      → Next after

-- an entry: with whatever share the free resource has
pub record LocalEnters (p : Program) (l : Local) (r : ResId) (test : Test Expr) (Next : Local → Type 0)
    : Type 0 where
  pub there : r.0 < length p.resources
  pub reads : (share both : Local) → IsShare p r share → LocalParts both l share → HasInTest both test
  pub goes_on : (share both : Local) → IsShare p r share → LocalParts both l share → IsTrueOf (look both) test
      → Next both

-- an exit: a part is given up that is the share of a free resource
pub record LocalLeaves (p : Program) (l : Local) (r : ResId) (Next : Local → Type 0) : Type 0 where
  pub share : Local
  pub kept : Local
  pub parts : LocalParts l share kept
  pub free : IsShare p r share
  pub goes_on : Next kept

-- LocalSafe: for that many events a frame that has these items still to do finds what it needs in what it has, and
-- where they are done what is wanted of the end holds
abbrev pub LocalSafe : Program → (events : ℕ) → (End : Local → Type 0) → List Item → Local → Type 0
LocalSafe p zero End todo l = Unit {0}
LocalSafe p (suc n) End [] l = End l
LocalSafe p (suc n) End (command (assign place x e) ∷ rest) l =
    HasVar l x.var × HasIn l e × LocalSafe p n End rest (put_variable x.var (look l e) l)
LocalSafe p (suc n) End (command (look_up place x e field) ∷ rest) l =
    HasVar l x.var × (at : HasCell l e)
    × LocalSafe p n End rest (put_variable x.var (at.cell field.0) l)
LocalSafe p (suc n) End (command (mutate place e field v) ∷ rest) l =
    HasIn l v × (at : HasCell l e)
    × LocalSafe p n End rest (put_local at.location (Some (put_field at.cell field.0 (look l v))) l)
LocalSafe p (suc n) End (command (new place x) ∷ rest) l =
    HasVar l x.var × ((location : ℕ) (cell : Cell) → location ≢ 0 → l.cells location ≡ None
    → LocalSafe p n End rest (put_variable x.var (loc location) (put_local location (Some cell) l)))
LocalSafe p (suc n) End (command (dispose place e) ∷ rest) l =
    (at : HasCell l e) × LocalSafe p n End rest (put_local at.location None l)
LocalSafe p (suc n) End (command (if place test this that) ∷ rest) l =
    LocalBranches l test (LocalSafe p n End (items this ++ rest) l)
    (LocalSafe p n End (items that ++ rest) l)
LocalSafe p (suc n) End (command (while place test kept body) ∷ rest) l =
    LocalBranches l test
    (LocalSafe p n End (items body ++ (command (while place test kept body) ∷ rest)) l)
    (LocalSafe p n End rest l)
LocalSafe p (suc n) End (command (call place c) ∷ rest) l =
    HasInAll l c.values
    × ((g : Procedure) → procedure_at p c.callee ≡ Some g → LocalCalls p l c g (LocalSafe p n End rest))
LocalSafe p (suc n) End (command (fork place c d) ∷ rest) l =
    HasInAll l c.values × HasInAll l d.values
    × ((g h : Procedure) → procedure_at p c.callee ≡ Some g → procedure_at p d.callee ≡ Some h
    → LocalForks p l c d g h (LocalSafe p n End rest))
LocalSafe p (suc n) End (command (with place r test body) ∷ rest) l =
    LocalEnters p l r test (LocalSafe p n End (items body ++ (leave r ∷ rest)))
LocalSafe p (suc n) End (leave r ∷ rest) l = LocalLeaves p l r (LocalSafe p n End rest)

-- each procedure's body is safe for every number of events, seen from inside, from whatever it may begin with
abbrev pub BodiesAreLocallySafe : Program → Type 0
BodiesAreLocallySafe p = (f : ProcId) (g : Procedure) → procedure_at p f ≡ Some g → (values : ℕ → Value) (n : ℕ)
    (l : Local) → Begins p f g values l → LocalSafe p n (Ends p f values) (items g.body) l

-- bodies that are safe, seen from inside, are safe
unfoldable pub LocallySafeBodiesAreSafe : Type 0
LocallySafeBodiesAreSafe = (p : Program) → IsFormed p → BodiesAreLocallySafe p → BodiesAreSafe p

-- a program that is formed, meets the conditions on variables and whose bodies are safe, seen from inside, is sound
unfoldable pub LocallySafeProgramsAreSound : Type 0
LocallySafeProgramsAreSound = (p : Program) → IsFormed p → Conditions p → BodiesAreLocallySafe p → IsSound p
