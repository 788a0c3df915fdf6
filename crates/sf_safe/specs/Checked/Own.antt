-- Own: what a frame owns, which is cells, slots and the tokens of resources, and how it splits in two.
-- O'Hearn (2007) for ownership of cells; Bornat, Calcagno, Yang (2006) for variables owned like cells.
use Rattle.std.specs.Prelude.{◌≡◌, ℕ, Option, Some, None, List, [], ◌∷◌, cond, ◌==◌, length, ltb, ◌-◌}
use Rattle.sf_base.specs.declared.ids.ResId.{ResId}
use Rattle.sf_base.specs.declared.ids.Var.{Var}
use Rattle.sf_base.specs.declared.value.Value.{Value}
use Rattle.sf_base.specs.HeapStore.{Map, Splits, Cell, Heap, Slot, same_slot, Store}
use Rattle.sf_core.specs.declared.assertion.Test.{Test}
use Rattle.sf_core.specs.declared.assertion.Test.TheVariants.{True, Equal, Differ}
use Rattle.sf_core.specs.declared.command.Expr.{Expr}
use Rattle.sf_core.specs.declared.command.Expr.TheVariants.{Var as Variable, Nil, Int}
use Rattle.sf_core.specs.Machine.Config.{Room, in_room, Common}
use Rattle.sf_core.specs.Machine.Step.{index_of}
use Rattle.sf_core.specs.Program.Syntax.{Program}

-- Own: cells of the heap, slots of the store with their values, and the tokens of resources; who has entered
-- a region owns its token, and a free resource owns its own
pub record Own : Type 0 where
  pub cells : Heap
  pub slots : Store
  pub tokens : Map ResId (Unit {0})

-- the two parts are disjoint, and together they are the whole
pub record Parts (whole left right : Own) : Type 0 where
  pub cells : Splits whole.cells left.cells right.cells
  pub slots : Splits whole.slots left.slots right.slots
  pub tokens : Splits whole.tokens left.tokens right.tokens

-- nothing at all
abbrev pub nothing : Own
nothing = record { cells = λ location. None; slots = λ slot. None; tokens = λ r. None }

-- what is owned splits into two disjoint parts, one for each: the separating conjunction
pub record ◌⋆◌ (P Q : Own → Type 0) (whole : Own) : Type 0 where
  pub left : Own
  pub right : Own
  pub parts : Parts whole left right
  pub first : P left
  pub second : Q right

infixr 40 ◌⋆◌
-- all that there is: the heap, the store, and a token for each resource of the program
abbrev pub everything : Program → Common → Own
everything p s = record {
  cells = s.heap;
  slots = s.store;
  tokens = λ r. cond (ltb r.0 (length p.resources)) (Some tt) None;
}

-- the slot is owned
abbrev pub HasSlot : Own → Slot → Type 0
HasSlot w slot = (v : Value) × (w.slots slot ≡ Some v)

-- the variable that an expression reads is owned
abbrev pub HasExpr : Own → (Var → Slot) → Expr → Type 0
HasExpr w slots (Variable x) = HasSlot w (slots x.var)
HasExpr w slots Nil = Unit {0}
HasExpr w slots (Int i) = Unit {0}

-- the variables that a test reads are owned
abbrev pub HasTest : Own → (Var → Slot) → Test Expr → Type 0
HasTest w slots True = Unit {0}
HasTest w slots (Equal x y) = HasExpr w slots x × HasExpr w slots y
HasTest w slots (Differ x y) = HasExpr w slots x × HasExpr w slots y

-- the variables that value arguments read are owned
abbrev pub HasAll : Own → (Var → Slot) → List Expr → Type 0
HasAll w slots [] = Unit {0}
HasAll w slots (e ∷ es) = HasExpr w slots e × HasAll w slots es

-- the same with that value in that slot
abbrev pub put_slot : Slot → Value → Own → Own
put_slot slot v w = record w { slots = λ other. cond (same_slot other slot) (Some v) (w.slots other) }

-- the same with that cell at that location, or none
abbrev pub put_cell : ℕ → Option Cell → Own → Own
put_cell location c w = record w { cells = λ other. cond (other == location) c (w.cells other) }

-- just the new slots of a room, with these values by their places in the room
abbrev pub new_slots : Room → (ℕ → Value) → Own
new_slots room v = record {
  cells = λ location. None;
  slots = λ slot. cond (in_room room slot) (Some (v (index_of slot - room.first))) None;
  tokens = λ r. None;
}

-- the same without the slots of a room
abbrev pub without_room : Room → Own → Own
without_room room w = record w { slots = λ slot. cond (in_room room slot) None (w.slots slot) }
