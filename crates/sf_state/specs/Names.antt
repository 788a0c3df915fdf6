-- The names in a state's text, in canonical order: the entry's references, its values, the
-- variables of resources.
-- Ordinary: identifiers, those of a resource qualified by its name.
use Rattle.std.specs.Prelude.{ℕ, ◌+◌, ◌||◌, ◌&&◌, Bool, false, Option, Some, None, List, ◌++◌, codes, length, map, take}
use Rattle.std.specs.List.{flat_map, list_any, position}
use Rattle.std.specs.Option.{option_map}
use Rattle.std.specs.Str.{bytes_eq}
use Rattle.sf_base.specs.declared.ids.FieldId.{FieldId}
use Rattle.sf_lex.specs.Whole.{is_name}
use Rattle.sf_core.specs.Program.Init.{is_init}
use Rattle.sf_core.specs.Program.Syntax.{Procedure, Program, Resource}
use Rattle.sf_lines.specs.Lines.{Text, split_once}

-- the name of a resource's variable
abbrev pub qualified : Text → Text → Text
qualified resource name = resource ++ codes "." ++ name

-- the names of the variables of a resource
abbrev pub names_of_resource : Resource → List Text
names_of_resource r = map (qualified r.name) r.variables

-- the names of the entry's references and values
abbrev pub parameters : Procedure → List Text
parameters g = take (g.references + g.values) g.names

-- the names of all variables of which a state has a value
abbrev pub names_of : Program → Procedure → List Text
names_of p g = parameters g ++ flat_map names_of_resource p.resources

-- the format of the states of a procedure: the names of the fields, those of all variables, how many of these
-- are its own, and whether the program has a procedure that sets up the others, which come after them
pub record Format : Type 0 where
  pub fields : List Text
  pub names : List Text
  pub own : ℕ
  pub init : Bool

-- whether a procedure of the program sets the resources up
abbrev pub has_init : Program → Bool
has_init p = list_any is_init p.procedures

-- the format of the states of that procedure
abbrev pub format_of : Program → Procedure → Format
format_of p g = record {
  fields = p.fields;
  names = names_of p g;
  own = length (parameters g);
  init = has_init p;
}

-- the number of the first of these that is the name, None where none is
abbrev pub place_of : List Text → Text → Option ℕ
place_of names name = position (λ n. bytes_eq n name) names

-- the field that has a number
abbrev pub field_at : ℕ → FieldId
field_at number = record { 0 = number }

-- the field of that name, None where there is none
abbrev pub field_named : List Text → Text → Option FieldId
field_named fields name = option_map field_at (place_of fields name)

-- both parts are names
abbrev pub are_names : Option (Text × Text) → Bool
are_names None = false
are_names (Some parts) = is_name parts.0 && is_name parts.1

-- it has the form of a variable's name: a name, or two with a dot between them
abbrev pub is_target : Text → Bool
is_target text = is_name text || are_names (split_once 46 text)
