-- Elaborates: the program that a file's tree is, and its first fault where it is none.
-- The numbering of names is the usual resolution of identifiers; the scopes are this language's own.
use Rattle.std.specs.Prelude.{◌≡◌, ℕ, ◌+◌, List, [], ◌∷◌, ◌++◌, map}
use Rattle.sf_base.specs.First.{IsFirstAmong}
use Rattle.sf_ast.specs.Surface.{Resource, Item}
use Rattle.sf_core.specs.Program.Syntax as c
use Rattle.sf_elab.specs.declared.declared.Declared.{Declared}
use Rattle.sf_elab.specs.declared.fault.Fault.{Fault}
use Rattle.sf_elab.specs.declared.fault.NameFault.{NameFault}
use Rattle.sf_elab.specs.Annotations.Assertions.{annotation_faults}
use Rattle.sf_elab.specs.Bodies.Commands.{all_faults}
use Rattle.sf_elab.specs.Names.Declarations.{field_words, field_names, resources_in, procedures_in, declared_by, declared_faults}
use Rattle.sf_elab.specs.Files.Faults.{is_earlier, named_fault}
use Rattle.sf_elab.specs.Bodies.Procedures.{procedure_of, procedure_faults, invariant_of, resource_of}

-- the resources from that number on
abbrev pub resources_from : List ℕ → Declared → ℕ → List Resource → List c.Resource
resources_from bytes d k [] = []
resources_from bytes d k (r ∷ rs) = resource_of bytes d k r ∷ resources_from bytes d (k + 1) rs

-- what is wrong with names in their invariants
abbrev pub invariants_faults : List ℕ → Declared → ℕ → List Resource → List Fault
invariants_faults bytes d k [] = []
invariants_faults bytes d k (r ∷ rs) = annotation_faults (invariant_of bytes d k r) r.invariant ++ invariants_faults bytes d (k + 1) rs

-- the numbered program; where a name stands for nothing, some number occurs in its place
abbrev pub elaborated : List ℕ → List Item → c.Program
elaborated bytes is = record {
  fields = field_names bytes (field_words is);
  resources = resources_from bytes (declared_by bytes is) 0 (resources_in is);
  procedures = map (procedure_of bytes (declared_by bytes is)) (procedures_in is);
}

-- all that is wrong with names and counts in a file
abbrev pub faults : List ℕ → List Item → List Fault
faults bytes is =
    declared_faults bytes is ++ invariants_faults bytes (declared_by bytes is) 0 (resources_in is)
    ++ all_faults (procedure_faults bytes (declared_by bytes is)) (procedures_in is)

-- Elaborates: nothing is wrong, and this is the program
pub record Elaborates (bytes : List ℕ) (is : List Item) (p : c.Program) : Type 0 where
  pub sound : faults bytes is ≡ []
  pub same : p ≡ elaborated bytes is

-- FirstFault: this is the first of what is wrong, by its place, at one place by its kind, and of several of one
-- kind there the one that the walk comes to first
pub record FirstFault (bytes : List ℕ) (is : List Item) (e : NameFault) : Type 0 where
  pub fault : Fault
  pub first : IsFirstAmong is_earlier (faults bytes is) fault
  pub named : e ≡ named_fault bytes fault
