-- What the names of a file stand for is in its program: resources, their variables, procedures.
use Rattle.std.proofs.Common.{◌≡◌, ◌≤◌, ◌<◌, ◌+◌, ℕ, zero, suc, List, [], ◌∷◌, map, length, slice_get, Some, refl, sym, ◌∙◌, ap, subst, arith}
use Rattle.std.proofs.lemmas.List.{length-map}
use Rattle.std.proofs.lemmas.Option.{slice_get-map}
use Rattle.std.specs.Option.{option_map}
use Rattle.sf_ast.specs.Surface.{Resource, Procedure, Item}
use Rattle.sf_base.specs.declared.ids.ResId.{ResId}
use Rattle.sf_base.specs.declared.ids.Var.{Var}
use Rattle.sf_base.specs.declared.ids.Var.TheVariants.{Own, Shared}
use Rattle.sf_core.specs.Program.Formed.{variable_count}
use Rattle.sf_core.specs.Program.Syntax as c
use Rattle.sf_elab.specs.declared.declared.Declared.{Declared}
use Rattle.sf_elab.specs.declared.declared.Header.{Header}
use Rattle.sf_elab.specs.Names.Declarations.{numbered, resource_table, shared_by, shared_table, header_of, procedure_table, resources_in, procedures_in, declared_by}
use Rattle.sf_elab.specs.Files.Elaborated.{resources_from, elaborated}
use Rattle.sf_elab.specs.Bodies.Procedures.{procedure_of, resource_of}
use Rattle.sf_elab.specs.Names.Table.{Table, declare}
use Rattle.sf_elab.specs.Names.Texts.{text}
use Rattle.sf_elab.proofs.Bodies.CommandsWithin.{IsHeader}
use Rattle.sf_elab.proofs.Names.TableLaws.{Finds, finds_none, finds_declared, finds_numbered}

-- a property of numbers that is kept where they are counted from the next
next_number : (P : ℕ → Type 0) (k j : ℕ) → P (k + suc j) → P (k + 1 + j)
next_number P k j h = let same : k + suc j ≡ k + 1 + j = omega arith in subst P same h

here_number : (P : ℕ → Type 0) (k : ℕ) → P (k + 0) → P k
here_number P k h = let same : k + 0 ≡ k = omega arith in subst P same h

finds_resources : (P : List ℕ → ResId → Type 0) (bytes : List ℕ) (k : ℕ) (rs : List Resource) (t : Table ResId) → ((name : List ℕ) (i : ℕ) → k ≤ i → i < k + length rs → P name (record { 0 = i })) → Finds P t → Finds P (resource_table bytes k rs t)
finds_resources P bytes k [] t p f = f
finds_resources P bytes k (r ∷ rs) t p f =
    finds_resources P bytes (k + 1) rs (declare (text bytes r.name) (record { 0 = k }) t) (λ name i l m. p name i (omega arith) (omega arith))
    (finds_declared P (text bytes r.name) (record { 0 = k }) t (p (text bytes r.name) k (omega arith) (omega arith)) f)

finds_shared : (P : List ℕ → Var → Type 0) (bytes : List ℕ) (k : ℕ) (rs : List Resource) (t : Table Var)
    → ((j : ℕ) (r : Resource) → slice_get rs j ≡ Some r → (name : List ℕ) (i : ℕ) → i < length r.variables → P name (shared_by (k + j) i)) → Finds P t → Finds P (shared_table bytes k rs t)
finds_shared P bytes k [] t p f = f
finds_shared P bytes k (r ∷ rs) t p f =
    finds_shared P bytes (k + 1) rs (numbered bytes (shared_by k) 0 r.variables t) (λ j s e name i l. next_number (λ n. P name (shared_by n i)) k j (p (suc j) s e name i l))
    (finds_numbered P bytes (shared_by k) 0 r.variables t (λ name i l m. here_number (λ n. P name (shared_by n i)) k (p 0 r refl name i (omega arith))) f)

finds_procedures : (P : List ℕ → Header → Type 0) (bytes : List ℕ) (k : ℕ) (fs : List Procedure) (t : Table Header)
    → ((j : ℕ) (f : Procedure) → slice_get fs j ≡ Some f → P (text bytes f.name) (header_of (k + j) f)) → Finds P t → Finds P (procedure_table bytes k fs t)
finds_procedures P bytes k [] t p f = f
finds_procedures P bytes k (g ∷ gs) t p f =
    finds_procedures P bytes (k + 1) gs (declare (text bytes g.name) (header_of k g) t) (λ j h e. next_number (λ n. P (text bytes h.name) (header_of n h)) k j (p (suc j) h e))
    (finds_declared P (text bytes g.name) (header_of k g) t (here_number (λ n. P (text bytes g.name) (header_of n g)) k (p 0 g refl)) f)

pub resources_many : (bytes : List ℕ) (d : Declared) (k : ℕ) (rs : List Resource) → length (resources_from bytes d k rs) ≡ length rs
resources_many bytes d k [] = refl
resources_many bytes d k (r ∷ rs) = omega (arith, resources_many bytes d (k + 1) rs)

resource_at : (bytes : List ℕ) (d : Declared) (k : ℕ) (rs : List Resource) (j : ℕ) (r : Resource) → slice_get rs j ≡ Some r → slice_get (resources_from bytes d k rs) j ≡ Some (resource_of bytes d (k + j) r)
resource_at bytes d k [] j r e = absurd cc
resource_at bytes d k (s ∷ rs) zero r e =
    let same : s ≡ r = cc in
    let number : k ≡ k + 0 = omega arith in
    ap (λ s. Some (resource_of bytes d k s)) same ∙ ap (λ n. Some (resource_of bytes d n r)) number
resource_at bytes d k (s ∷ rs) (suc j) r e =
    let number : k + 1 + j ≡ k + suc j = omega arith in
    resource_at bytes d (k + 1) rs j r e ∙ ap (λ n. Some (resource_of bytes d n r)) number

-- a resource of the program is one of the file
pub resource_from : (bytes : List ℕ) (d : Declared) (k : ℕ) (rs : List Resource) (j : ℕ) (r : c.Resource) → slice_get (resources_from bytes d k rs) j ≡ Some r → (s : Resource) × (slice_get rs j ≡ Some s) × (resource_of bytes d (k + j) s ≡ r)
resource_from bytes d k [] j r e = absurd cc
resource_from bytes d k (s ∷ rs) zero r e =
    let same : resource_of bytes d k s ≡ r = cc in
    let number : k + 0 ≡ k = omega arith in
    (s, refl, ap (λ n. resource_of bytes d n s) number ∙ same)
resource_from bytes d k (s ∷ rs) (suc j) r e =
    let found = resource_from bytes d (k + 1) rs j r e in
    let number : k + suc j ≡ k + 1 + j = omega arith in
    (found.0, found.1, ap (λ n. resource_of bytes d n found.0) number ∙ found.2)

-- a procedure of the program is one of the file
pub procedure_from : (bytes : List ℕ) (d : Declared) (fs : List Procedure) (j : ℕ) (g : c.Procedure) → slice_get (map (procedure_of bytes d) fs) j ≡ Some g → (f : Procedure) × (slice_get fs j ≡ Some f) × (procedure_of bytes d f ≡ g)
procedure_from bytes d [] j g e = absurd cc
procedure_from bytes d (f ∷ fs) zero g e = let same : procedure_of bytes d f ≡ g = cc in (f, refl, same)
procedure_from bytes d (f ∷ fs) (suc j) g e = procedure_from bytes d fs j g e

-- a variable of one of the program's resources
abbrev pub IsShared : c.Program → Var → Type 0
IsShared p (Own n) = ⊥
IsShared p (Shared r i) = i < variable_count (slice_get p.resources r.0)

module _ (bytes : List ℕ) (is : List Item) where
  pub resources_there : Finds (λ name (r : ResId). r.0 < length (c.Program.resources (elaborated bytes is))) (Declared.resources (declared_by bytes is))
  resources_there =
      finds_resources (λ name (r : ResId). r.0 < length (c.Program.resources (elaborated bytes is))) bytes 0 (resources_in is) [] (λ name i l m. omega (arith, resources_many bytes (declared_by bytes is) 0 (resources_in is)))
      (finds_none (λ name (r : ResId). r.0 < length (c.Program.resources (elaborated bytes is))))

  pub shared_there : Finds (λ name v. IsShared (elaborated bytes is) v) (Declared.shared (declared_by bytes is))
  shared_there = finds_shared (λ name v. IsShared (elaborated bytes is) v) bytes 0 (resources_in is) [] each (finds_none (λ name v. IsShared (elaborated bytes is) v))
    where
      each : (j : ℕ) (r : Resource) → slice_get (resources_in is) j ≡ Some r → (name : List ℕ) (i : ℕ) → i < length r.variables → i < variable_count (slice_get (c.Program.resources (elaborated bytes is)) (0 + j))
      each j r e name i l =
          let number : j ≡ 0 + j = omega arith in
          let count : length r.variables ≡ variable_count (slice_get (c.Program.resources (elaborated bytes is)) j) =
          sym (length-map r.variables (text bytes)) ∙ sym (ap variable_count (resource_at bytes (declared_by bytes is) 0 (resources_in is) j r e)) in
          subst (λ n. i < variable_count (slice_get (c.Program.resources (elaborated bytes is)) n)) number (subst (λ n. i < n) count l)

  pub procedures_there : Finds (λ name h. IsHeader (elaborated bytes is) name h) (Declared.procedures (declared_by bytes is))
  procedures_there = finds_procedures (λ name h. IsHeader (elaborated bytes is) name h) bytes 0 (procedures_in is) [] each (finds_none (λ name h. IsHeader (elaborated bytes is) name h))
    where
      each : (j : ℕ) (f : Procedure) → slice_get (procedures_in is) j ≡ Some f → IsHeader (elaborated bytes is) (text bytes f.name) (header_of (0 + j) f)
      each j f e =
          let number : 0 + j ≡ j = omega arith in
          record {
            procedure = procedure_of bytes (declared_by bytes is) f;
            here = ap (slice_get (c.Program.procedures (elaborated bytes is))) number ∙ slice_get-map (procedure_of bytes (declared_by bytes is)) (procedures_in is) j ∙ ap (option_map (procedure_of bytes (declared_by bytes is))) e;
            named = refl;
            references = refl;
            values = refl;
          }
