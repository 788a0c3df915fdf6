-- What a file without faults declares is within the limits.
use Rattle.std.proofs.Common.{◌≡◌, ◌≤◌, ◌<◌, ◌+◌, ℕ, nat_le, List, [], ◌∷◌, length, arith}
use Rattle.std.proofs.lemmas.Bool.{leb-false}
use Rattle.std.proofs.lemmas.List.{length-map}
use Rattle.std.proofs.lemmas.List.Sums.{sum_by-cons}
use Rattle.std.specs.List.{sum_by}
use Rattle.sf_ast.specs.declared.word.Word.{Word}
use Rattle.sf_ast.specs.Surface.{Resource, Procedure}
use Rattle.sf_base.specs.declared.ids.ResId.{ResId}
use Rattle.sf_base.specs.declared.ids.Var.{Var}
use Rattle.sf_base.specs.declared.ids.Var.TheVariants.{Own}
use Rattle.sf_base.specs.declared.limits.TheConstants.{PROCEDURES, RESOURCES, FIELDS, OWN_VARIABLES, RESOURCE_VARIABLES}
use Rattle.sf_base.specs.declared.place.Place.{Place}
use Rattle.sf_core.specs.Program.Syntax as c
use Rattle.sf_elab.specs.declared.declared.Declared.{Declared}
use Rattle.sf_elab.specs.declared.declared.Header.{Header}
use Rattle.sf_elab.specs.declared.fault.Fault.TheVariants.{Twice, TooMany}
use Rattle.sf_elab.specs.Names.Declarations.{references_of, values_of, numbered, beyond, numbered_faults, nth_field, field_names, resource_name_faults, shared_by, owner_faults, shared_faults, all_shared_faults, header_of, procedure_name_faults}
use Rattle.sf_elab.specs.Files.Elaborated.{resources_from}
use Rattle.sf_elab.specs.Files.Faults.{where_}
use Rattle.sf_elab.specs.Bodies.Procedures.{resource_of, local_words, parameters_of, parameter_count, declared_count, parameter_faults, local_faults}
use Rattle.sf_elab.specs.Names.Table.{Table, has, declare}
use Rattle.sf_elab.specs.Names.Texts.{text}
use Rattle.sf_elab.proofs.Names.NoFaults.{none_both, none_three, none_where}

-- the one of that number is allowed
allowed : (limit k : ℕ) (p : Place) → beyond limit k p ≡ [] → k < limit
allowed limit k p h = leb-false limit k (none_where (nat_le limit k) (TooMany p) h)

pub numbered_few : {A : Type 0} (bytes : List ℕ) (limit : ℕ) (stands : ℕ → A) (k : ℕ) (ws : List Word) (t : Table A) → k ≤ limit → numbered_faults bytes limit stands k ws t ≡ [] → k + length ws ≤ limit
numbered_few bytes limit stands k [] t l h = omega arith
numbered_few bytes limit stands k (w ∷ ws) t l h =
    let all = none_three (where_ (has (text bytes w) t) (Twice w)) (beyond limit k w.place) (numbered_faults bytes limit stands (k + 1) ws (declare (text bytes w) (stands k) t)) h in
    let here : k < limit = allowed limit k w.place all.1 in
    omega (arith, numbered_few bytes limit stands (k + 1) ws (declare (text bytes w) (stands k) t) (omega arith) all.2)

pub resources_few : (bytes : List ℕ) (k : ℕ) (rs : List Resource) (t : Table ResId) → k ≤ RESOURCES → resource_name_faults bytes k rs t ≡ [] → k + length rs ≤ RESOURCES
resources_few bytes k [] t l h = omega arith
resources_few bytes k (r ∷ rs) t l h =
    let all = none_three (where_ (has (text bytes r.name) t) (Twice r.name)) (beyond RESOURCES k r.place) (resource_name_faults bytes (k + 1) rs (declare (text bytes r.name) (record { 0 = k }) t)) h in
    let here : k < RESOURCES = allowed RESOURCES k r.place all.1 in
    omega (arith, resources_few bytes (k + 1) rs (declare (text bytes r.name) (record { 0 = k }) t) (omega arith) all.2)

pub procedures_few : (bytes : List ℕ) (k : ℕ) (fs : List Procedure) (t : Table Header) → k ≤ PROCEDURES → procedure_name_faults bytes k fs t ≡ [] → k + length fs ≤ PROCEDURES
procedures_few bytes k [] t l h = omega arith
procedures_few bytes k (f ∷ fs) t l h =
    let all = none_three (where_ (has (text bytes f.name) t) (Twice f.name)) (beyond PROCEDURES k f.name.place) (procedure_name_faults bytes (k + 1) fs (declare (text bytes f.name) (header_of k f) t)) h in
    let here : k < PROCEDURES = allowed PROCEDURES k f.name.place all.1 in
    omega (arith, procedures_few bytes (k + 1) fs (declare (text bytes f.name) (header_of k f) t) (omega arith) all.2)

pub fields_few : (bytes : List ℕ) (ws : List Word) → numbered_faults bytes FIELDS nth_field 0 ws [] ≡ [] → length (field_names bytes ws) ≤ FIELDS
fields_few bytes [] h = omega arith
fields_few bytes (w ∷ ws) h = omega (arith, length-map (w ∷ ws) (text bytes), numbered_few bytes FIELDS nth_field 0 (w ∷ ws) [] (omega arith) h)

shared_few : (bytes : List ℕ) (k before i : ℕ) (ws : List Word) (own all : Table Var) → before ≤ RESOURCE_VARIABLES → shared_faults bytes k before i ws own all ≡ [] → before + length ws ≤ RESOURCE_VARIABLES
shared_few bytes k before i [] own all l h = omega arith
shared_few bytes k before i (w ∷ ws) own all l h =
    let parts = none_three (owner_faults bytes own all w) (beyond RESOURCE_VARIABLES before w.place) (shared_faults bytes k (before + 1) (i + 1) ws (declare (text bytes w) (shared_by k i) own) (declare (text bytes w) (shared_by k i) all)) h in
    let here : before < RESOURCE_VARIABLES = allowed RESOURCE_VARIABLES before w.place parts.1 in
    omega (arith, shared_few bytes k (before + 1) (i + 1) ws (declare (text bytes w) (shared_by k i) own) (declare (text bytes w) (shared_by k i) all) (omega arith) parts.2)

pub all_shared_few : (bytes : List ℕ) (d : Declared) (k before : ℕ) (rs : List Resource) (all : Table Var) → before ≤ RESOURCE_VARIABLES → all_shared_faults bytes k before rs all ≡ []
    → before + sum_by (λ (r : c.Resource). length r.variables) (resources_from bytes d k rs) ≤ RESOURCE_VARIABLES
all_shared_few bytes d k before [] all l h = omega arith
all_shared_few bytes d k before (r ∷ rs) all l h =
    let more : Table Var = numbered bytes (shared_by k) 0 r.variables all in
    let both = none_both (shared_faults bytes k before 0 r.variables [] all) (all_shared_faults bytes (k + 1) (before + length r.variables) rs more) h in
    let here : before + length r.variables ≤ RESOURCE_VARIABLES = shared_few bytes k before 0 r.variables [] all l both.0 in
    omega (arith, sum_by-cons (λ (r : c.Resource). length r.variables) (resource_of bytes d k r) (resources_from bytes d (k + 1) rs), length-map r.variables (text bytes), all_shared_few bytes d (k + 1) (before + length r.variables) rs more here both.1)

-- the parameters and the declared locals of a procedure
pub own_few : (bytes : List ℕ) (f : Procedure) → parameter_faults bytes f ≡ [] → local_faults bytes f ≡ [] → declared_count f ≤ OWN_VARIABLES
own_few bytes f h j =
    let references : Table Var = numbered bytes Own 0 (references_of f.parameters) [] in
    let both = none_both (numbered_faults bytes OWN_VARIABLES Own 0 (references_of f.parameters) []) (numbered_faults bytes OWN_VARIABLES Own (length (references_of f.parameters)) (values_of f.parameters) references) h in
    let one : 0 + length (references_of f.parameters) ≤ OWN_VARIABLES = numbered_few bytes OWN_VARIABLES Own 0 (references_of f.parameters) [] (omega arith) both.0 in
    let two : length (references_of f.parameters) + length (values_of f.parameters) ≤ OWN_VARIABLES = numbered_few bytes OWN_VARIABLES Own (length (references_of f.parameters)) (values_of f.parameters) references (omega arith) both.1 in
    numbered_few bytes OWN_VARIABLES Own (parameter_count f) (local_words f.locals) (parameters_of bytes f) two j
