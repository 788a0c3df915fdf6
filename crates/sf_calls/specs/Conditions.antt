-- What a call of a procedure may enter and use: the least sets on which the conditions on variables
-- rest. The resources that it holds are HasThroughout's.
-- After the variable conditions of Berdine, Calcagno and O'Hearn, "Smallfoot" (2005), carried along calls.
use Rattle.std.specs.Prelude.{◌≡◌, ◌⊎◌, Option, Some, None, slice_get}
use Rattle.sf_base.specs.declared.ids.ProcId.{ProcId}
use Rattle.sf_base.specs.declared.ids.ResId.{ResId}
use Rattle.sf_base.specs.declared.ids.Var.{Var}
use Rattle.sf_base.specs.declared.ids.Var.TheVariants.{Own, Shared}
use Rattle.sf_core.specs.Assertions.Occurs.{VarOccursIn}
use Rattle.sf_core.specs.Program.Syntax.{Procedure, Program}
use Rattle.sf_calls.specs.Reaches.{Reaches}
use Rattle.sf_calls.specs.Outside.{owner, OccursOutside, CallsIn, EntersIn}

-- the procedure of that number has that property
abbrev pub Has : Program → (Procedure → Type 0) → ProcId → Type 0
Has p P f = (h : Procedure) × (slice_get p.procedures f.0 ≡ Some h) × P h

-- f's body calls g outside the regions of the resource that is left out
abbrev pub Calls : Program → Option ResId → ProcId → ProcId → Type 0
Calls p but f g = Has p (λ h. CallsIn but g h.body) f

-- f's body has a region of r
abbrev pub Enters : Program → ResId → ProcId → Type 0
Enters p r f = Has p (λ h. EntersIn r h.body) f

-- x occurs in f's pre or post, or in its body outside the regions of its resource
abbrev pub Mentions : Program → Var → ProcId → Type 0
Mentions p x f =
    Has p (λ h. VarOccursIn h.pre.level x ⊎ (VarOccursIn h.post.level x ⊎ OccursOutside x h.body)) f

-- Takes: f's body has a region of r, or f calls a procedure that takes r
abbrev pub Takes : Program → ProcId → ResId → Type 0
Takes p f r = Reaches (Enters p r) (Calls p None) f

-- it is a variable of a resource
abbrev pub IsShared : Var → Type 0
IsShared (Own n) = ⊥
IsShared (Shared r i) = Unit {0}

-- f mentions x, or calls a procedure outside the regions of x's resource that has x free
abbrev pub FreeIn : Program → ProcId → Var → Type 0
FreeIn p f x = Reaches (Mentions p x) (Calls p (owner x)) f

-- Free: a resource's variable that f mentions, or that is free in a procedure which f calls outside the
-- regions of its resource
abbrev pub Free : Program → ProcId → Var → Type 0
Free p f x = IsShared x × FreeIn p f x
