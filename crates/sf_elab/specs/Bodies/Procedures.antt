-- The procedures and resources of a file, numbered, and what is wrong with names in them.
-- A value parameter that the body sets or passes as a reference is a fresh local in the body, its name with a prime; the body begins with an assignment to it.
-- The procedures of Berdine, Calcagno and O'Hearn, "Smallfoot" (2005); the primed locals are this project's own.
use Rattle.std.specs.Prelude.{ℕ, ◌+◌, Bool, true, false, if◌then◌else◌, List, [], ◌∷◌, ◌++◌, map, length}
use Rattle.std.specs.List.{filter, list_any}
use Rattle.std.specs.Str.{bytes_eq}
use Rattle.sf_base.specs.declared.ids.Var.{Var}
use Rattle.sf_base.specs.declared.ids.Var.TheVariants.{Own}
use Rattle.sf_base.specs.declared.limits.TheConstants.{OWN_VARIABLES}
use Rattle.sf_base.specs.declared.place.Place.{Place}
use Rattle.sf_ast.specs.declared.word.Word.{Word}
use Rattle.sf_ast.specs.Surface.{Names, Resource, Procedure}
use Rattle.sf_core.specs.declared.command.Expr.TheVariants.{Var as Variable}
use Rattle.sf_core.specs.declared.command.Occurrence.{Occurrence}
use Rattle.sf_core.specs.Program.Syntax as c
use Rattle.sf_core.specs.Program.View as v
use Rattle.sf_elab.specs.declared.declared.Declared.{Declared}
use Rattle.sf_elab.specs.declared.fault.Fault.{Fault}
use Rattle.sf_elab.specs.Annotations.Assertions.{annotation_of, maybe_of, maybe_faults}
use Rattle.sf_elab.specs.Bodies.Shape.{names_init, shape_faults}
use Rattle.sf_elab.specs.Bodies.Commands.{commands_of, commands_faults, set_in_all}
use Rattle.sf_elab.specs.Names.Declarations.{words_of, references_of, values_of, numbered, numbered_faults, shared_by}
use Rattle.sf_elab.specs.Names.InEnv.{Env}
use Rattle.sf_elab.specs.Names.Table.{Table, declare}
use Rattle.sf_elab.specs.Names.Texts.{text}

-- the words of several `local`s
abbrev pub local_words : List Names → List Word
local_words [] = []
local_words (ns ∷ nss) = words_of ns ++ local_words nss

-- a name is the text of one of those words
abbrev pub is_among : List ℕ → List Word → List ℕ → Bool
is_among bytes ws name = list_any (λ w. bytes_eq name (text bytes w)) ws

-- a value parameter that is primed: its name is set in the body
abbrev pub is_primed : List ℕ → Procedure → Word → Bool
is_primed bytes f w = is_among bytes (set_in_all f.body) (text bytes w)

-- the parameters, as pre and post see them
abbrev pub parameters_of : List ℕ → Procedure → Table Var
parameters_of bytes f = numbered bytes Own (length (references_of f.parameters)) (values_of f.parameters) (numbered bytes Own 0 (references_of f.parameters) [])

-- how many references and values there are
abbrev pub parameter_count : Procedure → ℕ
parameter_count f = length (references_of f.parameters) + length (values_of f.parameters)

-- how many references, values and declared locals there are
abbrev pub declared_count : Procedure → ℕ
declared_count f = parameter_count f + length (local_words f.locals)

-- values as the body sees them: the one of number k stands for itself, or for its primed local, of which the next has number p
abbrev pub body_values : List ℕ → (Word → Bool) → (k p : ℕ) → List Word → Table Var → Table Var
body_values bytes primed k p [] t = t
body_values bytes primed k p (w ∷ ws) t =
    if primed w then body_values bytes primed (k + 1) (p + 1) ws (declare (text bytes w) (Own p) t)
    else body_values bytes primed (k + 1) p ws (declare (text bytes w) (Own k) t)

-- parameters and locals as the body sees them
abbrev pub body_variables : List ℕ → Procedure → Table Var
body_variables bytes f =
    numbered bytes Own (parameter_count f) (local_words f.locals)
    (body_values bytes (is_primed bytes f) (length (references_of f.parameters)) (declared_count f) (values_of f.parameters) (numbered bytes Own 0 (references_of f.parameters) []))

-- the names of all own variables, by number
abbrev pub own_names : List ℕ → Procedure → List (List ℕ)
own_names bytes f =
    map (text bytes) (references_of f.parameters) ++ map (text bytes) (values_of f.parameters) ++ map (text bytes) (local_words f.locals)
    ++ map (λ w. text bytes w ++ 39 ∷ []) (filter (is_primed bytes f) (values_of f.parameters))

-- an own variable at that place
abbrev pub own_at : Place → ℕ → Occurrence
own_at p k = record { var = Own k; place = p }

-- the assignments with which the body begins: the primed local has the value of its parameter
abbrev pub first_assignments : (Word → Bool) → Place → (k p : ℕ) → List Word → List c.Command
first_assignments primed at k p [] = []
first_assignments primed at k p (w ∷ ws) =
    if primed w then c.assign at (own_at at p) (Variable (own_at at k)) ∷ first_assignments primed at (k + 1) (p + 1) ws
    else first_assignments primed at (k + 1) p ws

-- what a procedure's pre and post see
abbrev pub outside_of : List ℕ → Declared → Procedure → Env
outside_of bytes d f = record { bytes = bytes; declared = d; own = parameters_of bytes f; in_invariant = false }

-- what its body sees
abbrev pub inside_of : List ℕ → Declared → Procedure → Env
inside_of bytes d f = record { bytes = bytes; declared = d; own = body_variables bytes f; in_invariant = false }

-- a procedure
abbrev pub procedure_of : List ℕ → Declared → Procedure → c.Procedure
procedure_of bytes d f = record {
  name = text bytes f.name;
  place = f.name.place;
  names = own_names bytes f;
  references = length (references_of f.parameters);
  values = length (values_of f.parameters);
  locals = length (local_words f.locals);
  pre = maybe_of (outside_of bytes d f) f.pre;
  post = maybe_of (outside_of bytes d f) f.post;
  body = v.block (
      first_assignments (is_primed bytes f) f.opens (length (references_of f.parameters)) (declared_count f) (values_of f.parameters)
      ++ commands_of (inside_of bytes d f) f.body);
  end = f.closes;
}

-- what is wrong with its parameters
abbrev pub parameter_faults : List ℕ → Procedure → List Fault
parameter_faults bytes f =
    numbered_faults bytes OWN_VARIABLES Own 0 (references_of f.parameters) []
    ++ numbered_faults bytes OWN_VARIABLES Own (length (references_of f.parameters)) (values_of f.parameters) (numbered bytes Own 0 (references_of f.parameters) [])

-- what is wrong with its declared locals
abbrev pub local_faults : List ℕ → Procedure → List Fault
local_faults bytes f = numbered_faults bytes OWN_VARIABLES Own (parameter_count f) (local_words f.locals) (parameters_of bytes f)

-- what is wrong with it where it is named `init`: it has a parameter, or a conjunct in its pre or post
abbrev pub init_faults : List ℕ → Declared → Procedure → List Fault
init_faults bytes d f =
    if names_init bytes f.name then shape_faults (references_of f.parameters) (values_of f.parameters) (maybe_of (outside_of bytes d f) f.pre).level (maybe_of (outside_of bytes d f) f.post).level
    else []

-- what is wrong with a procedure
abbrev pub procedure_faults : List ℕ → Declared → Procedure → List Fault
procedure_faults bytes d f =
    parameter_faults bytes f ++ maybe_faults (outside_of bytes d f) f.pre ++ maybe_faults (outside_of bytes d f) f.post
    ++ init_faults bytes d f ++ local_faults bytes f ++ commands_faults (inside_of bytes d f) f.body

-- what the invariant of the resource of that number sees: its own variables
abbrev pub invariant_of : List ℕ → Declared → ℕ → Resource → Env
invariant_of bytes d k r = record { bytes = bytes; declared = d; own = numbered bytes (shared_by k) 0 r.variables []; in_invariant = true }

-- the resource of that number
abbrev pub resource_of : List ℕ → Declared → ℕ → Resource → c.Resource
resource_of bytes d k r = record { name = text bytes r.name; variables = map (text bytes) r.variables; invariant = annotation_of (invariant_of bytes d k r) r.invariant }
