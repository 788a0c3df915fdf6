-- Names of a file without faults: no two of one kind are the same.
use Rattle.std.proofs.Common.{◌≡◌, ◌⊎◌, inl, inr, ℕ, zero, suc, ◌+◌, Bool, true, false, cond, List, [], ◌∷◌, ◌++◌, map, take, length, codes, slice_get, Some, refl, sym, ◌∙◌, ap, subst, append_assoc}
use Rattle.std.proofs.lemmas.List.{append-nil}
use Rattle.std.proofs.Math.Seq.{take-append_seam}
use Rattle.std.specs.List.{flat_map, filter}
use Rattle.sf_ast.specs.declared.word.Word.{Word}
use Rattle.sf_ast.specs.Surface.{Resource, Procedure, Item}
use Rattle.sf_base.specs.declared.ids.FieldId.{FieldId}
use Rattle.sf_base.specs.declared.ids.ResId.{ResId}
use Rattle.sf_base.specs.declared.ids.Var.{Var}
use Rattle.sf_base.specs.declared.ids.Var.TheVariants.{Own}
use Rattle.sf_base.specs.declared.limits.TheConstants.{PROCEDURES, RESOURCES, FIELDS, OWN_VARIABLES, RESOURCE_VARIABLES}
use Rattle.sf_core.specs.Program.Links.{next_name, left_name, right_name}
use Rattle.sf_core.specs.Program.Syntax as c
use Rattle.sf_elab.specs.declared.declared.Declared.{Declared}
use Rattle.sf_elab.specs.declared.declared.Header.{Header}
use Rattle.sf_elab.specs.declared.fault.Fault.{Fault}
use Rattle.sf_elab.specs.declared.fault.Fault.TheVariants.{Twice, OwnedTwice}
use Rattle.sf_elab.specs.Bodies.Commands.{all_faults, commands_faults}
use Rattle.sf_elab.specs.Annotations.Assertions.{maybe_faults}
use Rattle.sf_elab.specs.Names.Declarations.{field_words, resources_in, procedures_in, references_of, values_of, numbered, beyond, numbered_faults, nth_field, usual_names, usual_fields, field_names, resource_name_faults, shared_by, owner_faults, shared_faults, all_shared_faults, header_of, procedure_name_faults, declared_by, declared_faults}
use Rattle.sf_elab.specs.Files.Elaborated.{resources_from, invariants_faults, elaborated, faults}
use Rattle.sf_elab.specs.Files.Faults.{where_}
use Rattle.sf_elab.specs.Checked.Laws.{AreDistinct, NamesAreUnique}
use Rattle.sf_elab.specs.Bodies.Procedures.{local_words, is_primed, parameters_of, parameter_count, own_names, outside_of, inside_of, procedure_of, parameter_faults, init_faults, local_faults, procedure_faults}
use Rattle.sf_elab.specs.Names.Table.{Table, has, declare}
use Rattle.sf_elab.specs.Names.Texts.{text}
use Rattle.sf_elab.proofs.Names.DeclaredThings.{procedure_from}
use Rattle.sf_elab.proofs.Names.NoFaults.{none_both, none_three, none_four, none_six, none_where, none_at}
use Rattle.sf_elab.proofs.Names.OwnVariables.{declared_many}
use Rattle.sf_elab.proofs.Names.TableLaws.{kept_declared, there_declared}

-- none of those names is known, and no two of them are the same
pub record Fresh (K : List ℕ → Type 0) (ns : List (List ℕ)) : Type 0 where
  pub new : (i : ℕ) (n : List ℕ) → slice_get ns i ≡ Some n → K n → ⊥
  pub apart : AreDistinct ns

fresh_none : (K : List ℕ → Type 0) → Fresh K []
fresh_none K = record { new = λ i n h k. absurd cc; apart = λ i j n h g. absurd cc }

-- one more before them, which is known to those after it
fresh_one : (K : List ℕ → Type 0) (n : List ℕ) (ns : List (List ℕ)) → (K n → ⊥) → Fresh (λ m. K m ⊎ (m ≡ n)) ns → Fresh K (n ∷ ns)
fresh_one K n ns h f = record { new = new; apart = apart }
  where
    new : (i : ℕ) (m : List ℕ) → slice_get (n ∷ ns) i ≡ Some m → K m → ⊥
    new zero m e k = let same : n ≡ m = cc in h (subst K (sym same) k)
    new (suc i) m e k = f.new i m e (inl k)

    apart : AreDistinct (n ∷ ns)
    apart zero zero m d e = refl
    apart zero (suc j) m d e = let same : m ≡ n = cc in absurd (f.new j m e (inr same))
    apart (suc i) zero m d e = let same : m ≡ n = cc in absurd (f.new i m d (inr same))
    apart (suc i) (suc j) m d e = ap suc (f.apart i j m d e)

-- fewer are known
fresh_fewer : (K L : List ℕ → Type 0) (ns : List (List ℕ)) → ((m : List ℕ) → K m → L m) → Fresh L ns → Fresh K ns
fresh_fewer K L ns h f = record { new = λ i n e k. f.new i n e (h n k); apart = f.apart }

-- a name is declared, and those after it are new then
abbrev Known : {A : Type 0} → Table A → List ℕ → Type 0
Known t m = has m t ≡ true

fresh_declared : {A : Type 0} (n : List ℕ) (a : A) (t : Table A) (ns : List (List ℕ)) → has n t ≡ false → Fresh (Known (declare n a t)) ns → Fresh (Known t) (n ∷ ns)
fresh_declared n a t ns h f =
    fresh_one (Known t) n ns (λ k. absurd cc)
    (fresh_fewer (λ m. Known t m ⊎ (m ≡ n)) (Known (declare n a t)) ns (λ m k. elim k [
      | inl k ↦ kept_declared m n a t k
      | inr e ↦ subst (λ (x : List ℕ). has x (declare n a t) ≡ true) (sym e) (there_declared n a t)
    ]) f)

-- names that are numbered, and those that come after them
fresh_numbered : {A : Type 0} (bytes : List ℕ) (limit : ℕ) (stands : ℕ → A) (k : ℕ) (ws : List Word) (t : Table A) (ns : List (List ℕ)) → numbered_faults bytes limit stands k ws t ≡ []
    → Fresh (Known (numbered bytes stands k ws t)) ns → Fresh (Known t) (map (text bytes) ws ++ ns)
fresh_numbered bytes limit stands k [] t ns h f = f
fresh_numbered bytes limit stands k (w ∷ ws) t ns h f =
    let more = declare (text bytes w) (stands k) t in
    let all = none_three (where_ (has (text bytes w) t) (Twice w)) (beyond limit k w.place) (numbered_faults bytes limit stands (k + 1) ws more) h in
    fresh_declared (text bytes w) (stands k) t (map (text bytes) ws ++ ns) (none_where (has (text bytes w) t) (Twice w) all.0) (fresh_numbered bytes limit stands (k + 1) ws more ns all.2 f)

-- the names of resources
fresh_resources : (bytes : List ℕ) (d : Declared) (k j : ℕ) (rs : List Resource) (t : Table ResId) → resource_name_faults bytes k rs t ≡ [] → Fresh (Known t) (map (λ (r : c.Resource). r.name) (resources_from bytes d j rs))
fresh_resources bytes d k j [] t h = fresh_none (Known t)
fresh_resources bytes d k j (r ∷ rs) t h =
    let more : Table ResId = declare (text bytes r.name) (record { 0 = k }) t in
    let all = none_three (where_ (has (text bytes r.name) t) (Twice r.name)) (beyond RESOURCES k r.place) (resource_name_faults bytes (k + 1) rs more) h in
    fresh_declared (text bytes r.name) (record { 0 = k }) t (map (λ (q : c.Resource). q.name) (resources_from bytes d (j + 1) rs)) (none_where (has (text bytes r.name) t) (Twice r.name) all.0)
    (fresh_resources bytes d (k + 1) (j + 1) rs more all.2)

-- the names of procedures
pub fresh_procedures : (bytes : List ℕ) (d : Declared) (k : ℕ) (fs : List Procedure) (t : Table Header) → procedure_name_faults bytes k fs t ≡ [] → Fresh (Known t) (map (λ (f : c.Procedure). f.name) (map (procedure_of bytes d) fs))
fresh_procedures bytes d k [] t h = fresh_none (Known t)
fresh_procedures bytes d k (f ∷ fs) t h =
    let more : Table Header = declare (text bytes f.name) (header_of k f) t in
    let all = none_three (where_ (has (text bytes f.name) t) (Twice f.name)) (beyond PROCEDURES k f.name.place) (procedure_name_faults bytes (k + 1) fs more) h in
    fresh_declared (text bytes f.name) (header_of k f) t (map (λ (g : c.Procedure). g.name) (map (procedure_of bytes d) fs)) (none_where (has (text bytes f.name) t) (Twice f.name) all.0)
    (fresh_procedures bytes d (k + 1) fs more all.2)

-- what no resource has already
not_owned : (own all : Bool) (f g : Fault) → cond own (f ∷ []) (where_ all g) ≡ [] → all ≡ false
not_owned true all f g h = absurd cc
not_owned false all f g h = none_where all g h

-- the variables of one resource, and those that come after them
fresh_shared : (bytes : List ℕ) (k before i : ℕ) (ws : List Word) (own all : Table Var) (ns : List (List ℕ)) → shared_faults bytes k before i ws own all ≡ []
    → Fresh (Known (numbered bytes (shared_by k) i ws all)) ns → Fresh (Known all) (map (text bytes) ws ++ ns)
fresh_shared bytes k before i [] own all ns h f = f
fresh_shared bytes k before i (w ∷ ws) own all ns h f =
    let one : Var = shared_by k i in
    let parts = none_three (owner_faults bytes own all w) (beyond RESOURCE_VARIABLES before w.place) (shared_faults bytes k (before + 1) (i + 1) ws (declare (text bytes w) one own) (declare (text bytes w) one all)) h in
    fresh_declared (text bytes w) one all (map (text bytes) ws ++ ns) (not_owned (has (text bytes w) own) (has (text bytes w) all) (Twice w) (OwnedTwice w) parts.0)
    (fresh_shared bytes k (before + 1) (i + 1) ws (declare (text bytes w) one own) (declare (text bytes w) one all) ns parts.2 f)

-- the variables of all resources
fresh_all_shared : (bytes : List ℕ) (d : Declared) (k before j : ℕ) (rs : List Resource) (all : Table Var) → all_shared_faults bytes k before rs all ≡ []
    → Fresh (Known all) (flat_map (λ (r : c.Resource). r.variables) (resources_from bytes d j rs))
fresh_all_shared bytes d k before j [] all h = fresh_none (Known all)
fresh_all_shared bytes d k before j (r ∷ rs) all h =
    let more : Table Var = numbered bytes (shared_by k) 0 r.variables all in
    let both = none_both (shared_faults bytes k before 0 r.variables [] all) (all_shared_faults bytes (k + 1) (before + length r.variables) rs more) h in
    fresh_shared bytes k before 0 r.variables [] all (flat_map (λ (q : c.Resource). q.variables) (resources_from bytes d (j + 1) rs)) both.0
    (fresh_all_shared bytes d (k + 1) (before + length r.variables) (j + 1) rs more both.1)

-- the usual fields
usual_distinct : AreDistinct usual_names
usual_distinct =
    let one : Table FieldId = declare (codes "hd") (nth_field 0) [] in
    let two : Table FieldId = declare next_name (nth_field 1) one in
    let three : Table FieldId = declare left_name (nth_field 2) two in
    (fresh_declared (codes "hd") (nth_field 0) [] (next_name ∷ left_name ∷ right_name ∷ []) refl (fresh_declared next_name (nth_field 1) one (left_name ∷ right_name ∷ []) refl
    (fresh_declared left_name (nth_field 2) two (right_name ∷ []) refl (fresh_declared right_name (nth_field 3) three [] refl (fresh_none (Known usual_fields)))))).apart

fields_distinct : (bytes : List ℕ) (ws : List Word) → numbered_faults bytes FIELDS nth_field 0 ws [] ≡ [] → AreDistinct (field_names bytes ws)
fields_distinct bytes [] h = usual_distinct
fields_distinct bytes (w ∷ ws) h =
    subst AreDistinct (append-nil (map (text bytes) (w ∷ ws))) (fresh_numbered bytes FIELDS nth_field 0 (w ∷ ws) [] [] h (fresh_none (Known (numbered bytes nth_field 0 (w ∷ ws) [])))).apart

-- the parameters and the declared locals of a procedure
own_distinct : (bytes : List ℕ) (f : Procedure) → parameter_faults bytes f ≡ [] → local_faults bytes f ≡ []
    → AreDistinct (take (length (references_of f.parameters) + length (values_of f.parameters) + length (local_words f.locals)) (own_names bytes f))
own_distinct bytes f h j =
    let references : List (List ℕ) = map (text bytes) (references_of f.parameters) in
    let values : List (List ℕ) = map (text bytes) (values_of f.parameters) in
    let locals : List (List ℕ) = map (text bytes) (local_words f.locals) in
    let primed : List (List ℕ) = map (λ w. text bytes w ++ 39 ∷ []) (filter (is_primed bytes f) (values_of f.parameters)) in
    let first : Table Var = numbered bytes Own 0 (references_of f.parameters) [] in
    let both = none_both (numbered_faults bytes OWN_VARIABLES Own 0 (references_of f.parameters) []) (numbered_faults bytes OWN_VARIABLES Own (length (references_of f.parameters)) (values_of f.parameters) first) h in
    let behind : Fresh (Known (parameters_of bytes f)) (locals ++ []) = fresh_numbered bytes OWN_VARIABLES Own (parameter_count f) (local_words f.locals) (parameters_of bytes f) [] j (fresh_none (Known (numbered bytes Own (parameter_count f) (local_words f.locals) (parameters_of bytes f)))) in
    let all = fresh_numbered bytes OWN_VARIABLES Own 0 (references_of f.parameters) [] (values ++ (locals ++ [])) both.0
    (fresh_numbered bytes OWN_VARIABLES Own (length (references_of f.parameters)) (values_of f.parameters) first (locals ++ []) both.1 behind) in
    let same : references ++ (values ++ (locals ++ [])) ≡ (references ++ values) ++ locals = ap (λ (x : List (List ℕ)). references ++ (values ++ x)) (append-nil locals) ∙ sym (append_assoc references values locals) in
    let part : take (length (references_of f.parameters) + length (values_of f.parameters) + length (local_words f.locals)) (own_names bytes f) ≡ (references ++ values) ++ locals = rw (← declared_many bytes f) (take-append_seam ((references ++ values) ++ locals) primed) in
    subst AreDistinct (same ∙ sym part) all.apart

-- what is declared has no faults
declared_sound : (bytes : List ℕ) (is : List Item) → faults bytes is ≡ []
    → (numbered_faults bytes FIELDS nth_field 0 (field_words is) [] ≡ []) × (resource_name_faults bytes 0 (resources_in is) [] ≡ []) × (all_shared_faults bytes 0 0 (resources_in is) [] ≡ []) × (procedure_name_faults bytes 0 (procedures_in is) [] ≡ [])
declared_sound bytes is h =
    let all = none_three (declared_faults bytes is) (invariants_faults bytes (declared_by bytes is) 0 (resources_in is)) (all_faults (procedure_faults bytes (declared_by bytes is)) (procedures_in is)) h in
    none_four (numbered_faults bytes FIELDS nth_field 0 (field_words is) []) (resource_name_faults bytes 0 (resources_in is) []) (all_shared_faults bytes 0 0 (resources_in is) []) (procedure_name_faults bytes 0 (procedures_in is) []) all.0

-- the own variables of a procedure that is there
own_unique : (bytes : List ℕ) (is : List Item) (k : ℕ) (g : c.Procedure) → faults bytes is ≡ [] → slice_get (c.Program.procedures (elaborated bytes is)) k ≡ Some g → AreDistinct (take (g.references + g.values + g.locals) g.names)
own_unique bytes is k g h e =
    let d = declared_by bytes is in
    let all = none_three (declared_faults bytes is) (invariants_faults bytes d 0 (resources_in is)) (all_faults (procedure_faults bytes d) (procedures_in is)) h in
    let found = procedure_from bytes d (procedures_in is) k g e in
    let f = found.0 in
    let sound = none_at (procedure_faults bytes d) (procedures_in is) k f found.1 all.2 in
    let parts = none_six (parameter_faults bytes f) (maybe_faults (outside_of bytes d f) f.pre) (maybe_faults (outside_of bytes d f) f.post) (init_faults bytes d f) (local_faults bytes f) (commands_faults (inside_of bytes d f) f.body) sound in
    subst (λ (x : c.Procedure). AreDistinct (take (x.references + x.values + x.locals) x.names)) found.2 (own_distinct bytes f parts.0 parts.4)

pub names_are_unique : NamesAreUnique
names_are_unique = record {
  fields = λ bytes is p e. subst (λ (q : c.Program). AreDistinct q.fields) (sym e.same) (fields_distinct bytes (field_words is) (declared_sound bytes is e.sound).0);
  resources = λ bytes is p e. subst (λ (q : c.Program). AreDistinct (map (λ (r : c.Resource). r.name) q.resources)) (sym e.same) (fresh_resources bytes (declared_by bytes is) 0 0 (resources_in is) [] (declared_sound bytes is e.sound).1).apart;
  variables = λ bytes is p e. subst (λ (q : c.Program). AreDistinct (flat_map (λ (r : c.Resource). r.variables) q.resources)) (sym e.same)
      (fresh_all_shared bytes (declared_by bytes is) 0 0 0 (resources_in is) [] (declared_sound bytes is e.sound).2).apart;
  procedures = λ bytes is p e. subst (λ (q : c.Program). AreDistinct (map (λ (f : c.Procedure). f.name) q.procedures)) (sym e.same) (fresh_procedures bytes (declared_by bytes is) 0 (procedures_in is) [] (declared_sound bytes is e.sound).3).apart;
  own = λ bytes is p k f e h. own_unique bytes is k f e.sound (subst (λ (q : c.Program). slice_get q.procedures k ≡ Some f) e.same h);
}
