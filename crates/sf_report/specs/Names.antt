-- How the text of a failure names variables and fields.
-- Ordinary: a resource's variable after the resource's name and a dot; what isn't there has no
-- name.
use Rattle.std.specs.Prelude.{ℕ, ◌++◌, get_or, Option, Some, None, List, [], codes, slice_get}
use Rattle.sf_base.specs.declared.ids.FieldId.{FieldId}
use Rattle.sf_base.specs.declared.ids.ProcId.{ProcId}
use Rattle.sf_base.specs.declared.ids.Var.{Var}
use Rattle.sf_base.specs.declared.ids.Var.TheVariants.{Own, Shared}
use Rattle.sf_core.specs.Program.Syntax.{Procedure, Program, Resource}
use Rattle.sf_proof.specs.ProofText.{Text}

-- the names of a procedure's own variables
abbrev pub names_in : Option Procedure → List Text
names_in None = []
names_in (Some f) = f.names

-- those of a program's procedure of that number
abbrev pub own_names : Program → ProcId → List Text
own_names p f = names_in (slice_get p.procedures f.0)

-- a variable of a resource
abbrev pub shared_text : Option Resource → ℕ → Text
shared_text None n = []
shared_text (Some r) n = r.name ++ codes "." ++ get_or r.variables n []

-- a variable, as a procedure names it
abbrev pub variable_text : Program → ProcId → Var → Text
variable_text p f (Own n) = get_or (own_names p f) n []
variable_text p f (Shared r n) = shared_text (slice_get p.resources r.0) n

-- a field
abbrev pub field_text : Program → FieldId → Text
field_text p f = get_or p.fields f.0 []
