-- What the items of a file declare, and what is wrong with their names and counts.
-- Fields, resources, variables and procedures have separate names. Of two things of one name the first counts.
-- This project's own kinds of names, usual fields and limits.
use Rattle.std.specs.Prelude.{ℕ, ◌+◌, nat_le, if◌then◌else◌, List, [], ◌∷◌, ◌++◌, map, length, codes}
use Rattle.sf_base.specs.declared.ids.FieldId.{FieldId}
use Rattle.sf_base.specs.declared.ids.ResId.{ResId}
use Rattle.sf_base.specs.declared.ids.Var.{Var}
use Rattle.sf_base.specs.declared.ids.Var.TheVariants.{Shared}
use Rattle.sf_base.specs.declared.limits.TheConstants.{PROCEDURES, RESOURCES, FIELDS, RESOURCE_VARIABLES}
use Rattle.sf_base.specs.declared.place.Place.{Place}
use Rattle.sf_ast.specs.declared.word.Word.{Word}
use Rattle.sf_ast.specs.Surface.{Names, Parameters, only_values, references_and_values, Resource, Procedure, Item, fields, resource, procedure}
use Rattle.sf_core.specs.Program.Links.{next_name, left_name, right_name}
use Rattle.sf_elab.specs.declared.declared.Declared.{Declared}
use Rattle.sf_elab.specs.declared.declared.Header.{Header}
use Rattle.sf_elab.specs.declared.fault.Fault.{Fault}
use Rattle.sf_elab.specs.declared.fault.Fault.TheVariants.{Twice, OwnedTwice, TooMany}
use Rattle.sf_elab.specs.Files.Faults.{where_}
use Rattle.sf_elab.specs.Names.Table.{Table, has, declare}
use Rattle.sf_elab.specs.Names.Texts.{text}

-- one name and those after it
abbrev pub words_of : Names → List Word
words_of ns = ns.first ∷ ns.more

-- the names of all fields that a file declares
abbrev pub field_words : List Item → List Word
field_words [] = []
field_words (fields ns ∷ is) = words_of ns ++ field_words is
field_words (resource r ∷ is) = field_words is
field_words (procedure f ∷ is) = field_words is

-- its resources
abbrev pub resources_in : List Item → List Resource
resources_in [] = []
resources_in (fields ns ∷ is) = resources_in is
resources_in (resource r ∷ is) = r ∷ resources_in is
resources_in (procedure f ∷ is) = resources_in is

-- its procedures
abbrev pub procedures_in : List Item → List Procedure
procedures_in [] = []
procedures_in (fields ns ∷ is) = procedures_in is
procedures_in (resource r ∷ is) = procedures_in is
procedures_in (procedure f ∷ is) = f ∷ procedures_in is

-- the references of a procedure; without a `;` there are none
abbrev pub references_of : Parameters → List Word
references_of (only_values ws) = []
references_of (references_and_values rs ws) = rs

-- its value parameters
abbrev pub values_of : Parameters → List Word
values_of (only_values ws) = ws
values_of (references_and_values rs ws) = ws

-- names declared one after the other, numbered from there on
abbrev pub numbered : {A : Type 0} → List ℕ → (ℕ → A) → ℕ → List Word → Table A → Table A
numbered bytes stands k [] t = t
numbered bytes stands k (w ∷ ws) t = numbered bytes stands (k + 1) ws (declare (text bytes w) (stands k) t)

-- what is beyond a limit: the one of that number, where so many are allowed
abbrev pub beyond : (limit number : ℕ) → Place → List Fault
beyond limit k p = where_ (nat_le limit k) (TooMany p)

-- what is wrong with names that are declared one after the other, where so many are allowed
abbrev pub numbered_faults : {A : Type 0} → List ℕ → (limit : ℕ) → (ℕ → A) → ℕ → List Word → Table A → List Fault
numbered_faults bytes limit stands k [] t = []
numbered_faults bytes limit stands k (w ∷ ws) t =
    where_ (has (text bytes w) t) (Twice w) ++ beyond limit k w.place ++ numbered_faults bytes limit stands (k + 1) ws (declare (text bytes w) (stands k) t)

-- a field by its number
abbrev pub nth_field : ℕ → FieldId
nth_field k = record { 0 = k }

-- names with the numbers from there on
abbrev pub fields_from : ℕ → List (List ℕ) → Table FieldId
fields_from k [] = []
fields_from k (n ∷ ns) = (n, nth_field k) ∷ fields_from (k + 1) ns

-- the names of the fields that a file has where it declares none
abbrev pub usual_names : List (List ℕ)
usual_names = codes "hd" ∷ next_name ∷ left_name ∷ right_name ∷ []

-- those fields
abbrev pub usual_fields : Table FieldId
usual_fields = fields_from 0 usual_names

-- the fields of a file that declares those
abbrev pub field_table : List ℕ → List Word → Table FieldId
field_table bytes [] = usual_fields
field_table bytes (w ∷ ws) = numbered bytes nth_field 0 (w ∷ ws) []

-- their names by number
abbrev pub field_names : List ℕ → List Word → List (List ℕ)
field_names bytes [] = usual_names
field_names bytes (w ∷ ws) = map (text bytes) (w ∷ ws)

-- the resources from that number on
abbrev pub resource_table : List ℕ → ℕ → List Resource → Table ResId → Table ResId
resource_table bytes k [] t = t
resource_table bytes k (r ∷ rs) t = resource_table bytes (k + 1) rs (declare (text bytes r.name) (record { 0 = k }) t)

-- what is wrong with the names of the resources, and with their count
abbrev pub resource_name_faults : List ℕ → ℕ → List Resource → Table ResId → List Fault
resource_name_faults bytes k [] t = []
resource_name_faults bytes k (r ∷ rs) t =
    where_ (has (text bytes r.name) t) (Twice r.name) ++ beyond RESOURCES k r.place ++ resource_name_faults bytes (k + 1) rs (declare (text bytes r.name) (record { 0 = k }) t)

-- a variable of the resource of that number
abbrev pub shared_by : ℕ → ℕ → Var
shared_by k i = Shared (record { 0 = k }) i

-- the variables of the resources from that number on
abbrev pub shared_table : List ℕ → ℕ → List Resource → Table Var → Table Var
shared_table bytes k [] t = t
shared_table bytes k (r ∷ rs) t = shared_table bytes (k + 1) rs (numbered bytes (shared_by k) 0 r.variables t)

-- what is wrong with a variable of a resource: the resource has it already, or an earlier one has
abbrev pub owner_faults : List ℕ → (own all : Table Var) → Word → List Fault
owner_faults bytes own all w = if has (text bytes w) own then Twice w ∷ [] else where_ (has (text bytes w) all) (OwnedTwice w)

-- what is wrong with the variables of the resource of that number, from its i-th on, so many variables of resources being there already
abbrev pub shared_faults : List ℕ → (k before i : ℕ) → List Word → (own all : Table Var) → List Fault
shared_faults bytes k before i [] own all = []
shared_faults bytes k before i (w ∷ ws) own all =
    owner_faults bytes own all w ++ beyond RESOURCE_VARIABLES before w.place
    ++ shared_faults bytes k (before + 1) (i + 1) ws (declare (text bytes w) (shared_by k i) own) (declare (text bytes w) (shared_by k i) all)

-- the same of the resources from that number on
abbrev pub all_shared_faults : List ℕ → (k before : ℕ) → List Resource → Table Var → List Fault
all_shared_faults bytes k before [] all = []
all_shared_faults bytes k before (r ∷ rs) all =
    shared_faults bytes k before 0 r.variables [] all
    ++ all_shared_faults bytes (k + 1) (before + length r.variables) rs (numbered bytes (shared_by k) 0 r.variables all)

-- what calls see of the procedure of that number
abbrev pub header_of : ℕ → Procedure → Header
header_of k f = record { id = record { 0 = k }; references = length (references_of f.parameters); values = length (values_of f.parameters) }

-- the procedures from that number on
abbrev pub procedure_table : List ℕ → ℕ → List Procedure → Table Header → Table Header
procedure_table bytes k [] t = t
procedure_table bytes k (f ∷ fs) t = procedure_table bytes (k + 1) fs (declare (text bytes f.name) (header_of k f) t)

-- what is wrong with their names and their count
abbrev pub procedure_name_faults : List ℕ → ℕ → List Procedure → Table Header → List Fault
procedure_name_faults bytes k [] t = []
procedure_name_faults bytes k (f ∷ fs) t =
    where_ (has (text bytes f.name) t) (Twice f.name) ++ beyond PROCEDURES k f.name.place ++ procedure_name_faults bytes (k + 1) fs (declare (text bytes f.name) (header_of k f) t)

-- all that a file declares
abbrev pub declared_by : List ℕ → List Item → Declared
declared_by bytes is = record {
  fields = field_table bytes (field_words is);
  resources = resource_table bytes 0 (resources_in is) [];
  shared = shared_table bytes 0 (resources_in is) [];
  procedures = procedure_table bytes 0 (procedures_in is) [];
}

-- what is wrong with that
abbrev pub declared_faults : List ℕ → List Item → List Fault
declared_faults bytes is =
    numbered_faults bytes FIELDS nth_field 0 (field_words is) [] ++ resource_name_faults bytes 0 (resources_in is) []
    ++ all_shared_faults bytes 0 0 (resources_in is) [] ++ procedure_name_faults bytes 0 (procedures_in is) []
