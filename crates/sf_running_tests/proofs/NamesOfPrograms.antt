-- The names of the program that a file is are its words, so they are names where these are, and those of one kind differ.
use Rattle.std.proofs.Common.{◌≡◌, ◌≤◌, ◌+◌, ℕ, zero, suc, true, List, [], ◌∷◌, ◌++◌, map, take, length, slice_get, Some, refl, sym, ap, ◌∙◌, subst, arith, append_assoc, length-append}
use Rattle.std.proofs.Math.Seq.{take-append_seam}
use Rattle.std.proofs.lemmas.List.{length-map}
use Rattle.std.specs.List.{AllByRecursion, filter, flat_map}
use Rattle.sf_ast.specs.declared.word.Word.{Word}
use Rattle.sf_ast.specs.Surface as s
use Rattle.sf_base.proofs.Elements.{all_by-append}
use Rattle.sf_core.specs.Program.Syntax.{Procedure, Program, Resource}
use Rattle.sf_elab.specs.Bodies.Procedures.{is_primed, local_words, own_names, procedure_of}
use Rattle.sf_elab.specs.declared.declared.Declared.{Declared}
use Rattle.sf_elab.specs.Files.Elaborated.{Elaborates, resources_from}
use Rattle.sf_elab.specs.Checked.Laws.{AreDistinct, NamesAreUnique}
use Rattle.sf_elab.specs.Names.Declarations.{declared_by, field_names, field_words, procedures_in, references_of, resources_in, values_of}
use Rattle.sf_elab.specs.Names.Texts.{text}
use Rattle.sf_lex.specs.Whole.{is_name}
use Rattle.sf_state.specs.Names.{parameters}
use Rattle.sf_state.specs.Checked.Written.{AreNames, HasNames}
use Rattle.sf_running_tests.proofs.NamesInTrees.{AreNamedItems, IsNamed, IsNamedProcedure, IsNamedResource}

-- the text is a name
abbrev IsName : List ℕ → Type 0
IsName name = is_name name ≡ true

-- what each has, that at a place has
all-at : {A : Type 0} (P : A → Type 0) (xs : List A) (k : ℕ) (x : A) → AllByRecursion P xs → slice_get xs k ≡ Some x → P x
all-at P [] k x h e = absurd cc
all-at P (y ∷ xs) zero x h e = let same : y ≡ x = cc in subst P same h.0
all-at P (y ∷ xs) (suc k) x h e = all-at P xs k x h.1 e

are_names : (names : List (List ℕ)) → AllByRecursion IsName names → AreDistinct names → AreNames names
are_names names h d = record { named = λ k name e. all-at IsName names k name h e; differ = d }

texts-named : (bytes : List ℕ) (ws : List Word) → AllByRecursion (IsNamed bytes) ws → AllByRecursion IsName (map (text bytes) ws)
texts-named bytes [] h = tt
texts-named bytes (w ∷ ws) h = (h.0, texts-named bytes ws h.1)

-- the fields that a file declares, or the usual ones
fields-named : (bytes : List ℕ) (ws : List Word) → AllByRecursion (IsNamed bytes) ws → AllByRecursion IsName (field_names bytes ws)
fields-named bytes [] h = (refl, (refl, (refl, (refl, tt))))
fields-named bytes (w ∷ ws) h = texts-named bytes (w ∷ ws) h

-- the resources, and the variables of each
resources-named : (bytes : List ℕ) (d : Declared) (k : ℕ) (rs : List s.Resource) → AllByRecursion (IsNamedResource bytes) rs → AllByRecursion IsName (map (λ (r : Resource). r.name) (resources_from bytes d k rs))
resources-named bytes d k [] h = tt
resources-named bytes d k (r ∷ rs) h = (h.0.name, resources-named bytes d (k + 1) rs h.1)

variables-named : (bytes : List ℕ) (d : Declared) (k : ℕ) (rs : List s.Resource) → AllByRecursion (IsNamedResource bytes) rs → AllByRecursion (λ (r : Resource). AllByRecursion IsName r.variables) (resources_from bytes d k rs)
variables-named bytes d k [] h = tt
variables-named bytes d k (r ∷ rs) h = (texts-named bytes r.variables h.0.variables, variables-named bytes d (k + 1) rs h.1)

-- the procedures, and the parameters of each
procedures-named : (bytes : List ℕ) (d : Declared) (fs : List s.Procedure) → AllByRecursion (IsNamedProcedure bytes) fs → AllByRecursion IsName (map (λ (g : Procedure). g.name) (map (procedure_of bytes d) fs))
procedures-named bytes d [] h = tt
procedures-named bytes d (f ∷ fs) h = (h.0.name, procedures-named bytes d fs h.1)

own-named : (bytes : List ℕ) (d : Declared) (f : s.Procedure) → IsNamedProcedure bytes f → AllByRecursion IsName (parameters (procedure_of bytes d f))
own-named bytes d f h =
    let references : List (List ℕ) = map (text bytes) (references_of f.parameters) in
    let values : List (List ℕ) = map (text bytes) (values_of f.parameters) in
    let locals : List (List ℕ) = map (text bytes) (local_words f.locals) in
    let primed : List (List ℕ) = map (λ w. text bytes w ++ 39 ∷ []) (filter (is_primed bytes f) (values_of f.parameters)) in
    let many : length (references ++ values) ≡ length (references_of f.parameters) + length (values_of f.parameters) =
    omega (arith, length-append references values, length-map (references_of f.parameters) (text bytes), length-map (values_of f.parameters) (text bytes)) in
    let first : parameters (procedure_of bytes d f) ≡ references ++ values =
    ap (λ (n : ℕ). take n (own_names bytes f)) (sym many) ∙ ap (take (length (references ++ values))) (append_assoc (references ++ values) locals primed)
    ∙ take-append_seam (references ++ values) (locals ++ primed) in
    subst (AllByRecursion IsName) (sym first)
    (all_by-append IsName references values (texts-named bytes (references_of f.parameters) h.references) (texts-named bytes (values_of f.parameters) h.values))

parameters-named : (bytes : List ℕ) (d : Declared) (fs : List s.Procedure) → AllByRecursion (IsNamedProcedure bytes) fs → AllByRecursion (λ (g : Procedure). AllByRecursion IsName (parameters g)) (map (procedure_of bytes d) fs)
parameters-named bytes d [] h = tt
parameters-named bytes d (f ∷ fs) h = (own-named bytes d f h.0, parameters-named bytes d fs h.1)

-- a part of names that differ
append-at_left : (xs ys : List (List ℕ)) (k : ℕ) (x : List ℕ) → slice_get xs k ≡ Some x → slice_get (xs ++ ys) k ≡ Some x
append-at_left [] ys k x e = absurd cc
append-at_left (z ∷ xs) ys zero x e = e
append-at_left (z ∷ xs) ys (suc k) x e = append-at_left xs ys k x e

append-at_right : (xs ys : List (List ℕ)) (k : ℕ) (x : List ℕ) → slice_get ys k ≡ Some x → slice_get (xs ++ ys) (length xs + k) ≡ Some x
append-at_right [] ys k x e = let same : k ≡ 0 + k = omega arith in subst (λ (n : ℕ). slice_get ys n ≡ Some x) same e
append-at_right (z ∷ xs) ys k x e =
    let same : suc (length xs + k) ≡ suc (length xs) + k = omega arith in
    subst (λ (n : ℕ). slice_get (z ∷ (xs ++ ys)) n ≡ Some x) same (append-at_right xs ys k x e)

distinct-left : (xs ys : List (List ℕ)) → AreDistinct (xs ++ ys) → AreDistinct xs
distinct-left xs ys d i j x e f = d i j x (append-at_left xs ys i x e) (append-at_left xs ys j x f)

distinct-right : (xs ys : List (List ℕ)) → AreDistinct (xs ++ ys) → AreDistinct ys
distinct-right xs ys d i j x e f =
    let same : length xs + i ≡ length xs + j = d (length xs + i) (length xs + j) x (append-at_right xs ys i x e) (append-at_right xs ys j x f) in
    omega arith

-- the variables of one resource
distinct-part : (rs : List Resource) (k : ℕ) (r : Resource) → AreDistinct (flat_map (λ (q : Resource). q.variables) rs) → slice_get rs k ≡ Some r → AreDistinct r.variables
distinct-part [] k r d e = absurd cc
distinct-part (q ∷ rs) zero r d e =
    let same : q ≡ r = cc in
    subst (λ (x : Resource). AreDistinct x.variables) same (distinct-left q.variables (flat_map (λ (x : Resource). x.variables) rs) d)
distinct-part (q ∷ rs) (suc k) r d e = distinct-part rs k r (distinct-right q.variables (flat_map (λ (x : Resource). x.variables) rs) d) e

-- the first of them
take-at : (n m : ℕ) (xs : List (List ℕ)) (k : ℕ) (x : List ℕ) → n ≤ m → slice_get (take n xs) k ≡ Some x → slice_get (take m xs) k ≡ Some x
take-at zero m xs k x h e = absurd cc
take-at (suc n) zero xs k x h e = absurd (omega arith)
take-at (suc n) (suc m) [] k x h e = absurd cc
take-at (suc n) (suc m) (z ∷ xs) zero x h e = e
take-at (suc n) (suc m) (z ∷ xs) (suc k) x h e = take-at n m xs k x (omega arith) e

distinct-first : (n m : ℕ) (xs : List (List ℕ)) → n ≤ m → AreDistinct (take m xs) → AreDistinct (take n xs)
distinct-first n m xs h d i j x e f = d i j x (take-at n m xs i x h e) (take-at n m xs j x h f)

pub program-named : (bytes : List ℕ) (is : List s.Item) (p : Program) → AreNamedItems bytes is → NamesAreUnique → Elaborates bytes is p → HasNames p
program-named bytes is p h unique e =
    let d = declared_by bytes is in
    let fields : AllByRecursion IsName p.fields = subst (λ (q : Program). AllByRecursion IsName q.fields) (sym e.same) (fields-named bytes (field_words is) h.fields) in
    let resources : AllByRecursion IsName (map (λ (r : Resource). r.name) p.resources) = subst (λ (q : Program). AllByRecursion IsName (map (λ (r : Resource). r.name) q.resources)) (sym e.same) (resources-named bytes d 0 (resources_in is) h.resources) in
    let procedures : AllByRecursion IsName (map (λ (g : Procedure). g.name) p.procedures) = subst (λ (q : Program). AllByRecursion IsName (map (λ (g : Procedure). g.name) q.procedures)) (sym e.same) (procedures-named bytes d (procedures_in is) h.procedures) in
    let variables : AllByRecursion (λ (r : Resource). AllByRecursion IsName r.variables) p.resources = subst (λ (q : Program). AllByRecursion (λ (r : Resource). AllByRecursion IsName r.variables) q.resources) (sym e.same) (variables-named bytes d 0 (resources_in is) h.resources) in
    let own : AllByRecursion (λ (g : Procedure). AllByRecursion IsName (parameters g)) p.procedures = subst (λ (q : Program). AllByRecursion (λ (g : Procedure). AllByRecursion IsName (parameters g)) q.procedures) (sym e.same) (parameters-named bytes d (procedures_in is) h.procedures) in
    record {
      fields = are_names p.fields fields (unique.fields bytes is p e);
      resources = are_names (map (λ (r : Resource). r.name) p.resources) resources (unique.resources bytes is p e);
      procedures = are_names (map (λ (g : Procedure). g.name) p.procedures) procedures (unique.procedures bytes is p e);
      variables = λ k r there. are_names r.variables (all-at (λ (x : Resource). AllByRecursion IsName x.variables) p.resources k r variables there) (distinct-part p.resources k r (unique.variables bytes is p e) there);
      own = λ k g there. are_names (parameters g) (all-at (λ (x : Procedure). AllByRecursion IsName (parameters x)) p.procedures k g own there)
          (distinct-first (g.references + g.values) (g.references + g.values + g.locals) g.names (omega arith) (unique.own bytes is p k g e there));
    }
