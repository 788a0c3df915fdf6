-- What commands without faults elaborate to mentions only what a body may name, sets no value parameter, and calls with the right counts.
use Rattle.std.proofs.Common.{◌≡◌, ◌≤◌, ◌<◌, ◌==◌, ℕ, true, false, not, cond, List, [], ◌∷◌, ◌++◌, length, slice_get, Option, Some, None, is_some, unwrap_or, refl, sym, ◌∙◌, ap, subst, arith}
use Rattle.std.proofs.lemmas.Bool.{and_parts, eqb-true, not-false}
use Rattle.std.proofs.lemmas.List.{length-map}
use Rattle.std.proofs.lemmas.List.Elements.{All-from_recursion, All-map}
use Rattle.std.specs.List.{AllByRecursion}
use Rattle.sf_base.proofs.Options.{unwrap-some}
use Rattle.sf_ast.specs.declared.word.SurfaceExpr.{SurfaceExpr}
use Rattle.sf_ast.specs.declared.word.SurfaceTest.{SurfaceTest}
use Rattle.sf_ast.specs.declared.word.Word.{Word}
use Rattle.sf_ast.specs.Depth as d
use Rattle.sf_ast.specs.Surface as s
use Rattle.sf_base.specs.declared.ids.ResId.{ResId}
use Rattle.sf_base.specs.declared.ids.Var.{Var}
use Rattle.sf_base.specs.declared.ids.Var.TheVariants.{Own}
use Rattle.sf_base.specs.declared.limits.TheConstants.{NESTING}
use Rattle.sf_core.specs.declared.command.Occurrence.{Occurrence}
use Rattle.sf_core.specs.Program.Formed.{IsInBody, IsSettable, ExprWithin, TestWithin, HasCounts, CallWithin, BlockWithin}
use Rattle.std.specs.Str.{bytes_eq}
use Rattle.sf_core.specs.Program.Init.{init_name, sets_up}
use Rattle.sf_core.proofs.Inits.{sets_up-is}
use Rattle.sf_core.specs.Program.Syntax as c
use Rattle.sf_core.specs.Program.View.{block}
use Rattle.sf_elab.specs.declared.declared.Header.{Header}
use Rattle.sf_elab.specs.declared.fault.Fault.TheVariants.{Unknown, Foreign, Arity, InitCalled}
use Rattle.sf_elab.specs.Annotations.Assertions.{maybe_faults}
use Rattle.sf_elab.specs.Bodies.Commands.{references_in, values_in, call_of, fits, all_faults, callee_faults, call_faults, command_of, commands_of, command_faults, commands_faults, set_in, set_in_all}
use Rattle.sf_elab.specs.Bodies.Shape.{name_faults, names_init}
use Rattle.sf_elab.specs.Files.Faults.{where_}
use Rattle.sf_elab.specs.Names.InEnv.{Env, variable, occurrence, variable_faults, expr_of, expr_faults, test_of, test_faults, field_faults, resource_named, resource_faults, no_header, header_named}
use Rattle.sf_elab.specs.Names.Table.{find}
use Rattle.sf_elab.specs.Names.Texts.{text}
use Rattle.sf_elab.proofs.Annotations.AssertionsWithin.{maybe_within}
use Rattle.sf_elab.proofs.Names.NoFaults.{none_both, none_three, none_four, none_where, there}
use Rattle.sf_elab.proofs.Names.TableLaws.{Finds}
use Rattle.sf_elab.proofs.Names.VariablesWithin.{Sees, expr_within, test_within, field_within}

-- the procedure that a header speaks of is there, and has that name
pub record IsHeader (p : c.Program) (name : List ℕ) (h : Header) : Type 0 where
  pub procedure : c.Procedure
  pub here : slice_get p.procedures h.id.0 ≡ Some procedure
  pub named : procedure.name ≡ name
  pub references : procedure.references ≡ h.references
  pub values : procedure.values ≡ h.values

-- what a body of the program has in sight
pub record SeesProgram (p : c.Program) (f : c.Procedure) (i : Env) : Type 0 where
  pub names : Sees p.fields (IsInBody p f) i
  pub resources : Finds (λ name (r : ResId). r.0 < length p.resources) i.declared.resources
  pub procedures : Finds (λ name (h : Header). IsHeader p name h) i.declared.procedures

-- a word that may be set
abbrev pub MayBeSet : c.Program → c.Procedure → Env → Word → Type 0
MayBeSet p f i w = (v : Var) → variable i w ≡ Some v → IsSettable p f v

-- each of those may be
abbrev pub MayAllBeSet : c.Program → c.Procedure → Env → List Word → Type 0
MayAllBeSet p f i ws = AllByRecursion (MayBeSet p f i) ws

set_both : (p : c.Program) (f : c.Procedure) (i : Env) (xs ys : List Word) → MayAllBeSet p f i (xs ++ ys) → MayAllBeSet p f i xs × MayAllBeSet p f i ys
set_both p f i [] ys h = (tt, h)
set_both p f i (x ∷ xs) ys h = let rest = set_both p f i xs ys h.1 in ((h.0, rest.0), rest.1)

set_within : (p : c.Program) (f : c.Procedure) (i : Env) (w : Word) → MayBeSet p f i w → variable_faults i w ≡ [] → IsSettable p f (occurrence i w).var
set_within p f i w m h =
    let found = there (variable i w) (cond i.in_invariant (Foreign w) (Unknown w)) h in
    let is : unwrap_or (variable i w) (Own 0) ≡ found.0 = unwrap-some (variable i w) found.0 (Own 0) found.1 in
    subst (IsSettable p f) (sym is) (m found.0 found.1)

all_set : (p : c.Program) (f : c.Procedure) (i : Env) (ws : List Word) → MayAllBeSet p f i ws → all_faults (variable_faults i) ws ≡ [] → AllByRecursion (λ w. IsSettable p f (occurrence i w).var) ws
all_set p f i [] m h = tt
all_set p f i (w ∷ ws) m h = let both = none_both (variable_faults i w) (all_faults (variable_faults i) ws) h in (set_within p f i w m.0 both.0, all_set p f i ws m.1 both.1)

all_read : {p : c.Program} {f : c.Procedure} {i : Env} → SeesProgram p f i → (xs : List SurfaceExpr) → all_faults (expr_faults i) xs ≡ [] → AllByRecursion (λ x. ExprWithin (IsInBody p f) (expr_of i x)) xs
all_read see [] h = tt
all_read {p} {f} {i} see (x ∷ xs) h = let both = none_both (expr_faults i x) (all_faults (expr_faults i) xs) h in (expr_within see.names x both.0, all_read see xs both.1)

-- a procedure that is there, with the counts of the call
counts_fit : {p : c.Program} {f : c.Procedure} {i : Env} → SeesProgram p f i → (x : s.Call) → callee_faults i x ≡ [] → HasCounts (slice_get p.procedures (header_named i x.name).id.0) (call_of i x)
counts_fit {p} {f} {i} see x h = go (find (text i.bytes x.name) i.declared.procedures) refl h
  where
    go : (o : Option Header) → find (text i.bytes x.name) i.declared.procedures ≡ o → cond (is_some o) (where_ (not (fits i x)) (Arity x.name)) (Unknown x.name ∷ []) ≡ [] → HasCounts (slice_get p.procedures (header_named i x.name).id.0) (call_of i x)
    go None e k = absurd cc
    go (Some g) e k =
        let head = see.procedures (text i.bytes x.name) g e in
        let is : header_named i x.name ≡ g = unwrap-some (find (text i.bytes x.name) i.declared.procedures) g no_header e in
        let unfit : not (fits i x) ≡ false = none_where (not (fits i x)) (Arity x.name) k in
        let fit : fits i x ≡ true = not-false (fits i x) unfit in
        let parts = and_parts (length (references_in x.arguments) == (header_named i x.name).references) (length (values_in x.arguments) == (header_named i x.name).values) fit in
        let references : length (references_in x.arguments) ≡ (header_named i x.name).references = eqb-true _ _ parts.0 in
        let values : length (values_in x.arguments) ≡ (header_named i x.name).values = eqb-true _ _ parts.1 in
        let procedure : slice_get p.procedures (header_named i x.name).id.0 ≡ Some head.procedure = ap (λ (g : Header). slice_get p.procedures g.id.0) is ∙ head.here in
        subst (λ (o : Option c.Procedure). HasCounts o (call_of i x)) (sym procedure) (
          length-map (references_in x.arguments) (occurrence i) ∙ references ∙ ap (λ (g : Header). g.references) is ∙ sym head.references,
          length-map (values_in x.arguments) (expr_of i) ∙ values ∙ ap (λ (g : Header). g.values) is ∙ sym head.values,
        )

-- a call that isn't of `init`, to a procedure that is there
calls_other : {p : c.Program} {f : c.Procedure} {i : Env} → SeesProgram p f i → (x : s.Call) → callee_faults i x ≡ [] → name_faults i.bytes x.name ≡ [] → sets_up p (header_named i x.name).id ≡ false
calls_other {p} {f} {i} see x h n = go (find (text i.bytes x.name) i.declared.procedures) refl h
  where
    go : (o : Option Header) → find (text i.bytes x.name) i.declared.procedures ≡ o → cond (is_some o) (where_ (not (fits i x)) (Arity x.name)) (Unknown x.name ∷ []) ≡ [] → sets_up p (header_named i x.name).id ≡ false
    go None e k = absurd cc
    go (Some g) e k =
        let head = see.procedures (text i.bytes x.name) g e in
        let is : header_named i x.name ≡ g = unwrap-some (find (text i.bytes x.name) i.declared.procedures) g no_header e in
        let procedure : slice_get p.procedures (header_named i x.name).id.0 ≡ Some head.procedure = ap (λ (g : Header). slice_get p.procedures g.id.0) is ∙ head.here in
        sets_up-is p (header_named i x.name).id head.procedure procedure ∙ ap (λ z. bytes_eq z init_name) head.named ∙ none_where (names_init i.bytes x.name) (InitCalled x.name) n

call_within : {p : c.Program} {f : c.Procedure} {i : Env} → SeesProgram p f i → (x : s.Call) → MayAllBeSet p f i (references_in x.arguments) → call_faults i x ≡ [] → CallWithin p f (call_of i x)
call_within {p} {f} {i} see x m h =
    let all = none_four (callee_faults i x) (name_faults i.bytes x.name) (all_faults (variable_faults i) (references_in x.arguments)) (all_faults (expr_faults i) (values_in x.arguments)) h in
    record {
      callee = counts_fit see x all.0;
      no_init = calls_other see x all.0 all.1;
      references = All-map (λ (x : Occurrence). IsSettable p f x.var) (occurrence i) (references_in x.arguments) (All-from_recursion (λ w. IsSettable p f (occurrence i w).var) (references_in x.arguments) (all_set p f i (references_in x.arguments) m all.2));
      values = All-map (ExprWithin (IsInBody p f)) (expr_of i) (values_in x.arguments) (All-from_recursion (λ x. ExprWithin (IsInBody p f) (expr_of i x)) (values_in x.arguments) (all_read see (values_in x.arguments) all.3));
    }

resource_within : {p : c.Program} {f : c.Procedure} {i : Env} → SeesProgram p f i → (w : Word) → resource_faults i w ≡ [] → (resource_named i w).0 < length p.resources
resource_within {p} {f} {i} see w h =
    let found = there (find (text i.bytes w) i.declared.resources) (Unknown w) h in
    let is : resource_named i w ≡ found.0 = unwrap-some (find (text i.bytes w) i.declared.resources) found.0 (record { 0 = 0 }) found.1 in
    subst (λ (r : ResId). r.0 < length p.resources) (sym is) (see.resources (text i.bytes w) found.0 found.1)

condition_within : {p : c.Program} {f : c.Procedure} {i : Env} → SeesProgram p f i → (t : SurfaceTest SurfaceExpr) → test_faults (expr_faults i) t ≡ [] → TestWithin (ExprWithin (IsInBody p f)) (test_of (expr_of i) t)
condition_within {p} {f} {i} see t h = test_within (ExprWithin (IsInBody p f)) (expr_of i) (expr_faults i) (λ x k. expr_within see.names x k) t h

pub blocks_joined : (p : c.Program) (f : c.Procedure) (xs ys : List c.Command) → BlockWithin p f (block xs) → BlockWithin p f (block ys) → BlockWithin p f (block (xs ++ ys))
blocks_joined p f [] ys h k = k
blocks_joined p f (x ∷ xs) ys h k = (h.0, blocks_joined p f xs ys h.1 k)

mutual
  command_within : {p : c.Program} {f : c.Procedure} {i : Env} → SeesProgram p f i → (x : s.Command) → MayAllBeSet p f i (set_in x) → command_faults i x ≡ [] → d.invariant_depth x ≤ NESTING → BlockWithin p f (block (command_of i x))
  command_within {p} {f} {i} see (s.assign x e) m h k =
      let both = none_both (variable_faults i x) (expr_faults i e) h in
      ((set_within p f i x m.0 both.0, expr_within see.names e both.1), tt)
  command_within {p} {f} {i} see (s.look_up x e g) m h k =
      let all = none_three (variable_faults i x) (expr_faults i e) (field_faults i g) h in
      ((set_within p f i x m.0 all.0, expr_within see.names e all.1, field_within see.names g all.2), tt)
  command_within {p} {f} {i} see (s.new x) m h k = (set_within p f i x m.0 h, tt)
  command_within {p} {f} {i} see (s.mutate e g x) m h k =
      let all = none_three (expr_faults i e) (field_faults i g) (expr_faults i x) h in
      ((expr_within see.names e all.0, field_within see.names g all.1, expr_within see.names x all.2), tt)
  command_within see (s.dispose q b e) m h k = (expr_within see.names e h, tt)
  command_within {p} {f} {i} see (s.if_alone q t x) m h k =
      let both = none_both (test_faults (expr_faults i) t) (command_faults i x) h in
      ((condition_within see t both.0, command_within see x m both.1 k, tt), tt)
  command_within {p} {f} {i} see (s.if q t x y) m h k =
      let all = none_three (test_faults (expr_faults i) t) (command_faults i x) (command_faults i y) h in
      let set = set_both p f i (set_in x) (set_in y) m in
      ((condition_within see t all.0, command_within see x set.0 all.1 (omega arith), command_within see y set.1 all.2 (omega arith)), tt)
  command_within {p} {f} {i} see (s.while q t n x) m h k =
      let all = none_three (test_faults (expr_faults i) t) (maybe_faults i n) (command_faults i x) h in
      ((condition_within see t all.0, maybe_within see.names n all.1 (omega arith), command_within see x m all.2 (omega arith)), tt)
  command_within {p} {f} {i} see (s.with q r t x) m h k =
      let all = none_three (resource_faults i r) (test_faults (expr_faults i) t) (command_faults i x) h in
      ((resource_within see r all.0, condition_within see t all.1, command_within see x m all.2 k), tt)
  command_within see (s.call x) m h k = (call_within see x m h, tt)
  command_within {p} {f} {i} see (s.fork x y) m h k =
      let both = none_both (call_faults i x) (call_faults i y) h in
      let set = set_both p f i (references_in x.arguments) (references_in y.arguments) m in
      ((call_within see x set.0 both.0, call_within see y set.1 both.1), tt)
  command_within see (s.block q xs o) m h k = commands_within see xs m h k

  -- commands without faults are in order
  pub commands_within : {p : c.Program} {f : c.Procedure} {i : Env} → SeesProgram p f i → (xs : s.Commands) → MayAllBeSet p f i (set_in_all xs) → commands_faults i xs ≡ [] → d.invariants_depth xs ≤ NESTING → BlockWithin p f (block (commands_of i xs))
  commands_within see s.done m h k = tt
  commands_within {p} {f} {i} see (s.then x xs) m h k =
      let both = none_both (command_faults i x) (commands_faults i xs) h in
      let set = set_both p f i (set_in x) (set_in_all xs) m in
      blocks_joined p f (command_of i x) (commands_of i xs) (command_within see x set.0 both.0 (omega arith)) (commands_within see xs set.1 both.1 (omega arith))
