-- A file without faults elaborates to a program in order.
use Rattle.std.proofs.Common.{◌≡◌, ◌≤◌, ◌+◌, ℕ, zero, suc, true, if◌then◌else◌, max, List, [], ◌∷◌, map, length, slice_get, Some, None, refl, sym, ◌∙◌, ap, subst, arith}
use Rattle.std.proofs.lemmas.List.{length-map}
use Rattle.std.proofs.lemmas.List.Sums.{length-filter, count_by-le-length}
use Rattle.std.specs.List.{AllByRecursion}
use Rattle.sf_ast.specs.declared.word.Word.{Word}
use Rattle.sf_ast.specs.Depth as d
use Rattle.sf_ast.specs.Surface as s
use Rattle.sf_base.specs.declared.ids.Var.{Var}
use Rattle.sf_base.specs.declared.ids.Var.TheVariants.{Own, Shared}
use Rattle.sf_base.specs.declared.limits.TheConstants.{NESTING, PROCEDURES, RESOURCES, FIELDS, OWN_VARIABLES}
use Rattle.sf_core.specs.Program.Formed.{IsInBody, IsSettable, IsParameter, IsOfResource, AssertionWithin, ProcedureWithin, IsFormed}
use Rattle.sf_base.proofs.Equality.{bytes_eq-same}
use Rattle.sf_core.specs.declared.command.Expr.{Expr}
use Rattle.sf_core.specs.Program.Init.{HasNoConjunct, IsBare, init_name, is_init}
use Rattle.sf_core.specs.Program.Syntax as c
use Rattle.sf_elab.specs.declared.declared.Declared.{Declared}
use Rattle.sf_elab.specs.Annotations.Assertions.{annotation_faults, maybe_faults, maybe_of}
use Rattle.sf_elab.specs.declared.fault.Fault.TheVariants.{InitShape}
use Rattle.sf_elab.specs.Bodies.Shape.{level_places, shape_faults}
use Rattle.sf_elab.specs.Bodies.Commands.{all_faults, commands_of, commands_faults, set_in_all}
use Rattle.sf_elab.specs.Names.Declarations.{field_words, resources_in, procedures_in, references_of, values_of, numbered, numbered_faults, nth_field, shared_by, resource_name_faults, all_shared_faults, procedure_name_faults, declared_by, declared_faults}
use Rattle.sf_elab.specs.Files.Elaborated.{invariants_faults, elaborated, faults}
use Rattle.sf_elab.specs.Bodies.Procedures.{is_among, is_primed, parameters_of, declared_count, body_variables, first_assignments, outside_of, inside_of, procedure_of, parameter_faults, init_faults, local_faults, procedure_faults, invariant_of, resource_of}
use Rattle.sf_elab.specs.Names.Table.{find}
use Rattle.sf_elab.specs.Names.Texts.{text}
use Rattle.sf_elab.proofs.Annotations.AssertionsWithin.{annotation_within, maybe_within}
use Rattle.sf_elab.proofs.Bodies.CommandsWithin.{SeesProgram, MayAllBeSet, blocks_joined, commands_within}
use Rattle.sf_elab.proofs.Names.Among.{each_among}
use Rattle.sf_elab.proofs.Names.DeclaredThings.{IsShared, resources_many, resource_from, procedure_from, resources_there, shared_there, procedures_there}
use Rattle.sf_elab.proofs.Annotations.Depths.{body_no_deeper}
use Rattle.sf_elab.proofs.Names.Limits.{resources_few, procedures_few, fields_few, all_shared_few, own_few}
use Rattle.sf_elab.proofs.Names.NamedFields.{fields_named}
use Rattle.sf_elab.proofs.Names.NoFaults.{none_both, none_three, none_four, none_six, none_at}
use Rattle.sf_elab.proofs.Names.OwnVariables.{names_many, finds_parameters, finds_body, first_within}
use Rattle.sf_elab.proofs.Names.TableLaws.{Finds, finds_none, finds_numbered}
use Rattle.sf_elab.proofs.Names.UniqueNames.{fresh_procedures}
use Rattle.sf_elab.proofs.Names.VariablesWithin.{Sees, seen_otherwise}

-- the number of a name is that of its procedure
name_at : (gs : List c.Procedure) (k : ℕ) (g : c.Procedure) → slice_get gs k ≡ Some g → slice_get (map (λ (g : c.Procedure). g.name) gs) k ≡ Some g.name
name_at [] k g e = absurd cc
name_at (h ∷ gs) zero g e = let same : h ≡ g = cc in ap (λ (z : c.Procedure). Some z.name) same
name_at (h ∷ gs) (suc k) g e = name_at gs k g e

-- a level without places has no conjunct
without_places : (a : c.Level Expr) → map InitShape (level_places a) ≡ [] → HasNoConjunct a
without_places (c.level made c.none) h = tt
without_places (c.level made (c.also d ds)) h = absurd cc

-- nor are there words without faults
without_words : (ws : List Word) → map (λ (w : Word). InitShape w.place) ws ≡ [] → length ws ≡ 0
without_words [] h = refl
without_words (w ∷ ws) h = absurd cc

-- no variable of a procedure hides that those of resources may be named anywhere in it
shared_in_body : (p : c.Program) (g : c.Procedure) (v : Var) → IsShared p v → IsInBody p g v
shared_in_body p g (Own n) h = absurd h
shared_in_body p g (Shared r i) h = h

shared_settable : (p : c.Program) (g : c.Procedure) (v : Var) → IsShared p v → IsSettable p g v
shared_settable p g (Own n) h = absurd h
shared_settable p g (Shared r i) h = h

shared_parameter : (p : c.Program) (g : c.Procedure) (v : Var) → IsShared p v → IsParameter p g v
shared_parameter p g (Own n) h = absurd h
shared_parameter p g (Shared r i) h = h

-- the depth of an item of a file
procedure_shallow : (is : List s.Item) (k : ℕ) (f : s.Procedure) → slice_get (procedures_in is) k ≡ Some f → d.item_depth (s.procedure f) ≤ d.items_depth is
procedure_shallow [] k f e = absurd cc
procedure_shallow (s.fields ns ∷ is) k f e = omega (arith, procedure_shallow is k f e)
procedure_shallow (s.resource r ∷ is) k f e = omega (arith, procedure_shallow is k f e)
procedure_shallow (s.procedure g ∷ is) zero f e =
    let same : g ≡ f = cc in
    subst (λ (h : s.Procedure). d.item_depth (s.procedure h) ≤ max (d.item_depth (s.procedure g)) (d.items_depth is)) same (omega arith)
procedure_shallow (s.procedure g ∷ is) (suc k) f e = omega (arith, procedure_shallow is k f e)

resource_shallow : (is : List s.Item) (k : ℕ) (r : s.Resource) → slice_get (resources_in is) k ≡ Some r → d.annotation_depth r.invariant ≤ d.items_depth is
resource_shallow [] k r e = absurd cc
resource_shallow (s.fields ns ∷ is) k r e = omega (arith, resource_shallow is k r e)
resource_shallow (s.procedure f ∷ is) k r e = omega (arith, resource_shallow is k r e)
resource_shallow (s.resource q ∷ is) zero r e =
    let same : q ≡ r = cc in
    subst (λ (h : s.Resource). d.annotation_depth h.invariant ≤ max (d.annotation_depth q.invariant) (d.items_depth is)) same (omega arith)
resource_shallow (s.resource q ∷ is) (suc k) r e = omega (arith, resource_shallow is k r e)

invariant_sound : (bytes : List ℕ) (e : Declared) (k : ℕ) (rs : List s.Resource) (j : ℕ) (r : s.Resource) → slice_get rs j ≡ Some r → invariants_faults bytes e k rs ≡ [] → annotation_faults (invariant_of bytes e (k + j) r) r.invariant ≡ []
invariant_sound bytes e k [] j r h n = absurd cc
invariant_sound bytes e k (q ∷ rs) zero r h n =
    let same : q ≡ r = cc in
    let number : k ≡ k + 0 = omega arith in
    let here = (none_both (annotation_faults (invariant_of bytes e k q) q.invariant) (invariants_faults bytes e (k + 1) rs) n).0 in
    subst (λ i. annotation_faults (invariant_of bytes e i r) r.invariant ≡ []) number (subst (λ (q : s.Resource). annotation_faults (invariant_of bytes e k q) q.invariant ≡ []) same here)
invariant_sound bytes e k (q ∷ rs) (suc j) r h n =
    let number : k + 1 + j ≡ k + suc j = omega arith in
    let rest = (none_both (annotation_faults (invariant_of bytes e k q) q.invariant) (invariants_faults bytes e (k + 1) rs) n).1 in
    subst (λ i. annotation_faults (invariant_of bytes e i r) r.invariant ≡ []) number (invariant_sound bytes e (k + 1) rs j r h rest)

module _ (bytes : List ℕ) (is : List s.Item) where
  abbrev whole : c.Program
  whole = elaborated bytes is

  abbrev declared : Declared
  declared = declared_by bytes is

  -- what an invariant sees
  invariant_sees : (k : ℕ) (r : s.Resource) → Sees (c.Program.fields whole) (IsOfResource k (length r.variables)) (invariant_of bytes declared k r)
  invariant_sees k r = record {
    variables = λ w v e. seen_otherwise (IsOfResource k (length r.variables)) (find (text bytes w) (numbered bytes (shared_by k) 0 r.variables [])) None v (own (text bytes w)) (λ u h. absurd cc) e;
    named = fields_named bytes (field_words is);
  }
    where
      own : Finds (λ name v. IsOfResource k (length r.variables) v) (numbered bytes (shared_by k) 0 r.variables [])
      own = finds_numbered (λ name v. IsOfResource k (length r.variables) v) bytes (shared_by k) 0 r.variables [] (λ name i l m. (refl, omega arith)) (finds_none (λ name v. IsOfResource k (length r.variables) v))

  module _ (f : s.Procedure) where
    abbrev one : c.Procedure
    one = procedure_of bytes declared f

    -- what pre and post see
    outside_sees : Sees (c.Program.fields whole) (IsParameter whole one) (outside_of bytes declared f)
    outside_sees = record {
      variables = λ w v e. seen_otherwise (IsParameter whole one) (find (text bytes w) (parameters_of bytes f)) (find (text bytes w) declared.shared) v (own (text bytes w)) (λ u h. shared_parameter whole one u (shared_there bytes is (text bytes w) u h)) e;
      named = fields_named bytes (field_words is);
    }
      where
        own : Finds (λ name v. IsParameter whole one v) (parameters_of bytes f)
        own = finds_parameters (λ name v. IsParameter whole one v) bytes f (λ name i l. l)

    -- what the body sees
    own_read : Finds (λ name v. IsInBody whole one v) (body_variables bytes f)
    own_read =
        finds_body (λ name v. IsInBody whole one v) bytes f (λ name i l. omega (arith, names_many bytes f)) (λ w i e l. omega (arith, names_many bytes f)) (λ name i l m. omega (arith, names_many bytes f))

    inside_sees : Sees (c.Program.fields whole) (IsInBody whole one) (inside_of bytes declared f)
    inside_sees = record {
      variables = λ w v e. seen_otherwise (IsInBody whole one) (find (text bytes w) (body_variables bytes f)) (find (text bytes w) declared.shared) v (own_read (text bytes w)) (λ u h. shared_in_body whole one u (shared_there bytes is (text bytes w) u h)) e;
      named = fields_named bytes (field_words is);
    }

    body_sees : SeesProgram whole one (inside_of bytes declared f)
    body_sees = record { names = inside_sees; resources = resources_there bytes is; procedures = procedures_there bytes is }

    -- what has a name that is set is no value parameter
    own_set : Finds (λ name v. is_among bytes (set_in_all f.body) name ≡ true → IsSettable whole one v) (body_variables bytes f)
    own_set =
        finds_body (λ name v. is_among bytes (set_in_all f.body) name ≡ true → IsSettable whole one v) bytes f
        (λ name i l e. (omega (arith, names_many bytes f), λ m. l)) (λ w i p l e. absurd cc) (λ name i l m e. (omega (arith, names_many bytes f), λ n. absurd (omega arith)))

    may_set : (ws : List Word) → AllByRecursion (λ w. is_among bytes (set_in_all f.body) (text bytes w) ≡ true) ws → MayAllBeSet whole one (inside_of bytes declared f) ws
    may_set [] h = tt
    may_set (w ∷ ws) h = (
      (λ v e. seen_otherwise (IsSettable whole one) (find (text bytes w) (body_variables bytes f)) (find (text bytes w) declared.shared) v (λ u k. own_set (text bytes w) u k h.0)
          (λ u k. shared_settable whole one u (shared_there bytes is (text bytes w) u k)) e),
      may_set ws h.1,
    )

    -- one named `init` without faults of shape is bare
    bare : is_init one ≡ true → init_faults bytes declared f ≡ [] → IsBare one
    bare e h =
        let pre = (maybe_of (outside_of bytes declared f) f.pre).level in
        let post = (maybe_of (outside_of bytes declared f) f.post).level in
        let shape : shape_faults (references_of f.parameters) (values_of f.parameters) pre post ≡ [] =
        sym (ap (λ b. if b then shape_faults (references_of f.parameters) (values_of f.parameters) pre post else []) e) ∙ h in
        let all = none_four (map (λ (w : Word). InitShape w.place) (references_of f.parameters)) (map (λ (w : Word). InitShape w.place) (values_of f.parameters)) (map InitShape (level_places pre)) (map InitShape (level_places post)) shape in
        record {
          references = without_words (references_of f.parameters) all.0;
          values = without_words (values_of f.parameters) all.1;
          pre = without_places pre all.2;
          post = without_places post all.3;
        }

    -- a procedure is in order
    pub procedure_within : procedure_faults bytes declared f ≡ [] → d.item_depth (s.procedure f) ≤ NESTING → ProcedureWithin whole one
    procedure_within h k =
        let all = none_six (parameter_faults bytes f) (maybe_faults (outside_of bytes declared f) f.pre) (maybe_faults (outside_of bytes declared f) f.post) (init_faults bytes declared f) (local_faults bytes f) (commands_faults (inside_of bytes declared f) f.body) h in
        let few : declared_count f ≤ OWN_VARIABLES = own_few bytes f all.0 all.4 in
        record {
          declared_count = few;
          declared = omega (arith, names_many bytes f);
          primed = omega (arith, names_many bytes f, length-filter (is_primed bytes f) (values_of f.parameters), count_by-le-length (is_primed bytes f) (values_of f.parameters));
          pre = maybe_within outside_sees f.pre all.1 (omega arith);
          post = maybe_within outside_sees f.post all.2 (omega arith);
          body = blocks_joined whole one (first_assignments (is_primed bytes f) f.opens (length (references_of f.parameters)) (declared_count f) (values_of f.parameters)) (commands_of (inside_of bytes declared f) f.body)
              (first_within whole one (is_primed bytes f) f.opens (length (references_of f.parameters)) (declared_count f) (values_of f.parameters) (λ i l m. omega (arith, names_many bytes f))
              (λ i l m. (omega (arith, names_many bytes f), λ n. absurd (omega arith))))
              (commands_within body_sees f.body (may_set (set_in_all f.body) (each_among bytes (set_in_all f.body))) all.5 (omega arith));
          depth = body_no_deeper (inside_of bytes declared f) (is_primed bytes f) f.opens (length (references_of f.parameters)) (declared_count f) (values_of f.parameters) f.body NESTING (omega arith) (omega arith);
          init = λ e. bare e all.3;
        }

  -- a resource is in order
  resource_within : (k : ℕ) (r : s.Resource) → annotation_faults (invariant_of bytes declared k r) r.invariant ≡ [] → d.annotation_depth r.invariant ≤ NESTING
      → AssertionWithin (c.Program.fields whole) (IsOfResource k (length (c.Resource.variables (resource_of bytes declared k r)))) (c.Resource.invariant (resource_of bytes declared k r))
  resource_within k r h n =
      subst (λ m. AssertionWithin (c.Program.fields whole) (IsOfResource k m) (c.Resource.invariant (resource_of bytes declared k r))) (sym (length-map r.variables (text bytes)))
      (annotation_within (invariant_sees k r) r.invariant h n)

  -- the whole program is in order
  pub program_formed : d.items_depth is ≤ NESTING → faults bytes is ≡ [] → IsFormed whole
  program_formed k h =
      let all = none_three (declared_faults bytes is) (invariants_faults bytes declared 0 (resources_in is)) (all_faults (procedure_faults bytes declared) (procedures_in is)) h in
      let names = none_four (numbered_faults bytes FIELDS nth_field 0 (field_words is) []) (resource_name_faults bytes 0 (resources_in is) []) (all_shared_faults bytes 0 0 (resources_in is) []) (procedure_name_faults bytes 0 (procedures_in is) []) all.0 in
      let few_resources : 0 + length (resources_in is) ≤ RESOURCES = resources_few bytes 0 (resources_in is) [] (omega arith) names.1 in
      let few_procedures : 0 + length (procedures_in is) ≤ PROCEDURES = procedures_few bytes 0 (procedures_in is) [] (omega arith) names.3 in
      record {
        procedures = λ j g e.
            let found = procedure_from bytes declared (procedures_in is) j g e in
            let sound = none_at (procedure_faults bytes declared) (procedures_in is) j found.0 found.1 all.2 in
            let shallow : d.item_depth (s.procedure found.0) ≤ NESTING = omega (arith, procedure_shallow is j found.0 found.1) in
            subst (ProcedureWithin whole) found.2 (procedure_within found.0 sound shallow);
        resources = λ j r e.
            let found = resource_from bytes declared 0 (resources_in is) j r e in
            let number : 0 + j ≡ j = omega arith in
            let same : resource_of bytes declared j found.0 ≡ r = subst (λ n. resource_of bytes declared n found.0 ≡ r) number found.2 in
            let sound : annotation_faults (invariant_of bytes declared j found.0) (s.Resource.invariant found.0) ≡ [] =
            subst (λ n. annotation_faults (invariant_of bytes declared n found.0) (s.Resource.invariant found.0) ≡ []) number (invariant_sound bytes declared 0 (resources_in is) j found.0 found.1 all.1) in
            let shallow : d.annotation_depth (s.Resource.invariant found.0) ≤ NESTING = omega (arith, resource_shallow is j found.0 found.1) in
            subst (λ (q : c.Resource). AssertionWithin (c.Program.fields whole) (IsOfResource j (length q.variables)) q.invariant) same (resource_within j found.0 sound shallow);
        procedure_count = omega (arith, few_procedures, length-map (procedures_in is) (procedure_of bytes declared));
        resource_count = omega (arith, few_resources, resources_many bytes declared 0 (resources_in is));
        field_count = fields_few bytes (field_words is) names.0;
        variables = omega (arith, all_shared_few bytes declared 0 0 (resources_in is) [] (omega arith) names.2);
        one_init = λ j l f g e i a b.
            (fresh_procedures bytes declared 0 (procedures_in is) [] names.3).apart j l init_name
            (name_at (c.Program.procedures whole) j f e ∙ ap Some (bytes_eq-same (c.Procedure.name f) init_name a))
            (name_at (c.Program.procedures whole) l g i ∙ ap Some (bytes_eq-same (c.Procedure.name g) init_name b));
      }
