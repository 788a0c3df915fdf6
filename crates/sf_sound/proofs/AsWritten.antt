-- Where the annotations of a program are in order as they stand, its rows are those for annotations
-- as they stand, save those of loops; so what tags leave can be computed.
-- Names: `WORD-same` says that a row or a run is the same for annotations as they stand.
use Rattle.std.specs.Prelude.{◌≡◌, ℕ, suc, Bool, true, false, cond, List, [], ◌∷◌, ◌++◌, map, Option, Some, None}
use Rattle.std.specs.List.{list_all, slice_get}
use Rattle.std.specs.Option.{option_and_then}
use Rattle.std.proofs.Common.{ap, ap₂, refl, subst, ◌∙◌}
use Rattle.std.proofs.lemmas.Bool.{and_parts}
use Rattle.std.proofs.lemmas.List.{append-nil}
use Rattle.sf_base.specs.declared.ids.ResId.{ResId}
use Rattle.sf_base.specs.declared.place.Place.{Place}
use Rattle.sf_core.specs.Program.Init.{is_init}
use Rattle.sf_core.specs.Program.Syntax.{assign, look_up, mutate, new, dispose, if, while, call, fork, with, Call, Command, Procedure, Resource}
use Rattle.sf_rules.specs.First.{first_goal, first_state_of}
use Rattle.sf_rules.specs.Proving.{ProvesFrom}
use Rattle.sf_rules.specs.Checked.Rows.Calls.{call_row, called, called_with, fork_row, forked, forked_with}
use Rattle.sf_rules.specs.Checked.Rows.Front.{at_command, at_exit}
use Rattle.sf_rules.specs.Checked.Rows.Regions.{enter_row, entered, entered_with, exit_row}
use Rattle.sf_rules.specs.Resources.{variables_from}
use Rattle.sf_rules.specs.Checked.Rows.Whole.{row, row_of}
use Rattle.sf_rules.specs.Setting.{Setting}
use Rattle.sf_rules.specs.Rules.{has_numbers}
use Rattle.sf_rules.specs.Words.{to_add, to_take}
use Rattle.sf_sound.proofs.Running.{Shown, run, run-shown, shown-nothing, shown-procedure}
use Rattle.sf_sym.specs.declared.tag.Tag.{Tag}
use Rattle.sf_sym.specs.declared.tag.Tag.TheVariants as t
use Rattle.sf_sym.specs.Goal.{Item, run as runs, add, take, gave, head, again, exit, return, end, Goal, one_goal, to_run}
use Rattle.sf_sym.specs.State.{State, term}

-- the same setting, with annotations as they stand
abbrev pub as_written : Setting → Setting
as_written d = record d { ordered = λ a. a }

-- the annotations of the program that rows ask for are in order as they stand
pub record IsAsWritten (d : Setting) : Type 0 where
  pub procedures : (k : ℕ) (g : Procedure) → slice_get d.program.procedures k ≡ Some g
      → (d.ordered g.pre ≡ g.pre) × (d.ordered g.post ≡ g.post)
  pub resources : (k : ℕ) (r : Resource) → slice_get d.program.resources k ≡ Some r
      → d.ordered r.invariant ≡ r.invariant

-- the tag is none of a loop
abbrev pub is_straight : Tag → Bool
is_straight t.Loop = false
is_straight t.Around = false
is_straight t.Again = false
is_straight _ = true

-- what follows an option is the same where it is so for what is there
and_then-same : {A B : Type 0} (f g : A → Option B) (o : Option A) → ((x : A) → o ≡ Some x → f x ≡ g x)
    → option_and_then f o ≡ option_and_then g o
and_then-same f g None h = refl
and_then-same f g (Some x) h = h x refl

-- a row of commands is the same where it is so for each command
command-same : (f g : Command → List Item → Option (List Goal)) → ((c : Command) (rest : List Item) → f c rest ≡ g c rest)
    → (todo : List Item) → at_command f todo ≡ at_command g todo
command-same f g h [] = refl
command-same f g h (runs c ∷ rest) = h c rest
command-same f g h (add p given ∷ rest) = refl
command-same f g h (take p want names ∷ rest) = refl
command-same f g h (gave p set removed ∷ rest) = refl
command-same f g h (head p test invariant body ∷ rest) = refl
command-same f g h (again p invariant ∷ rest) = refl
command-same f g h (exit p r ∷ rest) = refl
command-same f g h (return p post ∷ rest) = refl
command-same f g h (end p ∷ rest) = refl

-- so is a row of the ends of regions
exit-same : (f g : Place → ResId → List Item → Option (List Goal))
    → ((p : Place) (r : ResId) (rest : List Item) → f p r rest ≡ g p r rest)
    → (todo : List Item) → at_exit f todo ≡ at_exit g todo
exit-same f g h [] = refl
exit-same f g h (runs c ∷ rest) = refl
exit-same f g h (add p given ∷ rest) = refl
exit-same f g h (take p want names ∷ rest) = refl
exit-same f g h (gave p set removed ∷ rest) = refl
exit-same f g h (head p test invariant body ∷ rest) = refl
exit-same f g h (again p invariant ∷ rest) = refl
exit-same f g h (exit p r ∷ rest) = h p r rest
exit-same f g h (return p post ∷ rest) = refl
exit-same f g h (end p ∷ rest) = refl

module _ (d : Setting) (kept : IsAsWritten d) where
  -- the rows that ask for annotations
  call-same : (s : State) (c : Command) (rest : List Item) → call_row d s c rest ≡ call_row (as_written d) s c rest
  call-same s (call p c) rest =
      and_then-same (called d s p c rest) (called (as_written d) s p c rest)
      (slice_get d.program.procedures c.callee.0) (λ g e.
      let k = kept.procedures c.callee.0 g e in ap₂ (λ a b. called_with d.sets s p c a b rest) k.0 k.1)
  call-same s c rest = refl

  two-same : (s : State) (p : Place) (c e : Call) (rest : List Item) (g h : Procedure)
      → slice_get d.program.procedures c.callee.0 ≡ Some g → slice_get d.program.procedures e.callee.0 ≡ Some h
      → forked d s p c e rest g h ≡ forked (as_written d) s p c e rest g h
  two-same s p c e rest g h i j =
      let k = kept.procedures c.callee.0 g i in
      let l = kept.procedures e.callee.0 h j in
      ap₂ (λ a b. forked_with d.sets s p c e a b (d.ordered h.pre) (d.ordered h.post) rest) k.0 k.1
      ∙ ap₂ (λ a b. forked_with d.sets s p c e g.pre g.post a b rest) l.0 l.1

  fork-same : (s : State) (c : Command) (rest : List Item) → fork_row d s c rest ≡ fork_row (as_written d) s c rest
  fork-same s (fork p c e) rest =
      and_then-same
      (λ g. option_and_then (forked d s p c e rest g) (slice_get d.program.procedures e.callee.0))
      (λ g. option_and_then (forked (as_written d) s p c e rest g) (slice_get d.program.procedures e.callee.0))
      (slice_get d.program.procedures c.callee.0) (λ g i.
      and_then-same (forked d s p c e rest g) (forked (as_written d) s p c e rest g)
      (slice_get d.program.procedures e.callee.0) (λ h j. two-same s p c e rest g h i j))
  fork-same s c rest = refl

  enter-same : (s : State) (c : Command) (rest : List Item) → enter_row d s c rest ≡ enter_row (as_written d) s c rest
  enter-same s (with p r test body) rest =
      and_then-same (entered d s p r test body rest) (entered (as_written d) s p r test body rest)
      (slice_get d.program.resources r.0) (λ of e.
      ap (λ a. entered_with s p (variables_from r 0 of.variables) a test (to_run body ++ (exit p r ∷ rest)))
      (kept.resources r.0 of e))
  enter-same s c rest = refl

  leave-same : (s : State) (p : Place) (r : ResId) (rest : List Item)
      → exit_row d s p r rest ≡ exit_row (as_written d) s p r rest
  leave-same s p r rest =
      and_then-same
      (λ (of : Resource). one_goal s
      (to_take p (term s.vars) (d.ordered of.invariant) ++ (gave p [] (variables_from r 0 of.variables) ∷ rest)))
      (λ (of : Resource). one_goal s
      (to_take p (term s.vars) of.invariant ++ (gave p [] (variables_from r 0 of.variables) ∷ rest)))
      (slice_get d.program.resources r.0) (λ of e.
      ap (λ a. one_goal s (to_take p (term s.vars) a ++ (gave p [] (variables_from r 0 of.variables) ∷ rest)))
      (kept.resources r.0 of e))

  -- so the others are the same too
  row_of-same : (goal : Goal) (tag : Tag) → is_straight tag ≡ true → row_of d goal tag ≡ row_of (as_written d) goal tag
  row_of-same g (t.Procedure f) h = refl
  row_of-same g t.Absurd h = refl
  row_of-same g (t.Drop a) h = refl
  row_of-same g (t.Force a) h = refl
  row_of-same g (t.Split x y) h = refl
  row_of-same g (t.Unroll a) h = refl
  row_of-same g (t.Back a) h = refl
  row_of-same g t.Assign h = refl
  row_of-same g (t.Look a) h = refl
  row_of-same g (t.Mutate a) h = refl
  row_of-same g t.New h = refl
  row_of-same g (t.Dispose a) h = refl
  row_of-same g t.Then h = refl
  row_of-same g t.Else h = refl
  row_of-same g t.Loop h = absurd (cc)
  row_of-same g t.Around h = absurd (cc)
  row_of-same g t.Again h = absurd (cc)
  row_of-same g t.Call h =
      command-same (call_row d g.state) (call_row (as_written d) g.state) (call-same g.state) g.todo
  row_of-same g t.Fork h =
      command-same (fork_row d g.state) (fork_row (as_written d) g.state) (fork-same g.state) g.todo
  row_of-same g t.Enter h =
      command-same (enter_row d g.state) (enter_row (as_written d) g.state) (enter-same g.state) g.todo
  row_of-same g t.Exit h =
      exit-same (exit_row d g.state) (exit_row (as_written d) g.state) (leave-same g.state) g.todo
  row_of-same g t.Return h = refl
  row_of-same g t.Give h = refl
  row_of-same g t.End h = refl
  row_of-same g t.Add h = refl
  row_of-same g t.Bind h = refl
  row_of-same g t.Same h = refl
  row_of-same g t.Apart h = refl
  row_of-same g (t.Cell a) h = refl
  row_of-same g t.Empty h = refl
  row_of-same g (t.Exact a) h = refl
  row_of-same g (t.Head a) h = refl
  row_of-same g (t.Join a) h = refl
  row_of-same g (t.Node a) h = refl

  row-same : (goal : Goal) (tag : Tag) → is_straight tag ≡ true → row d goal tag ≡ row (as_written d) goal tag
  row-same g tag h = ap (λ z. cond (has_numbers g.state) z None) (row_of-same g tag h)

  -- so what tags leave is the same
  run-same : (tags : List Tag) → list_all is_straight tags ≡ true → (goals : List Goal)
      → run d goals tags ≡ run (as_written d) goals tags
  run-same [] h goals = refl
  run-same (tag ∷ tags) h [] = refl
  run-same (tag ∷ tags) h (goal ∷ goals) =
      let both = and_parts (is_straight tag) (list_all is_straight tags) h in
      ap (option_and_then (λ l. run d (l ++ goals) tags)) (row-same goal tag both.0)
      ∙ and_then-same (λ l. run d (l ++ goals) tags) (λ l. run (as_written d) (l ++ goals) tags)
      (row (as_written d) goal tag) (λ l e. run-same tags both.1 (l ++ goals))

  -- what its return owes is in order as it stands
  invariants-same : (rs : List Resource) → ((i : ℕ) (r : Resource) → slice_get rs i ≡ Some r
      → d.ordered r.invariant ≡ r.invariant)
      → map d.ordered (map (λ r. r.invariant) rs) ≡ map (λ a. a) (map (λ r. r.invariant) rs)
  invariants-same [] same = refl
  invariants-same (r ∷ rs) same =
      ap₂ (λ a others. a ∷ others) (same 0 r refl) (invariants-same rs (λ i q e. same (suc i) q e))

  owed-same : (sets_up : Bool) (g : Procedure) → d.ordered g.post ≡ g.post
      → map d.ordered (cond sets_up (map (λ r. r.invariant) d.program.resources) (g.post ∷ []))
      ≡ map (λ a. a) (cond sets_up (map (λ r. r.invariant) d.program.resources) (g.post ∷ []))
  owed-same true g e = invariants-same d.program.resources kept.resources
  owed-same false g e = ap (λ a. a ∷ []) e

  first-same : (f : ℕ) (g : Procedure) → slice_get d.program.procedures f ≡ Some g
      → first_goal d (record { 0 = f }) g ≡ first_goal (as_written d) (record { 0 = f }) g
  first-same f g e =
      let k = kept.procedures f g e in
      ap₂ (λ a b. record {
        state = first_state_of d (record { 0 = f }) g;
        todo = to_add g.place (term (first_state_of d (record { 0 = f }) g).vars) a
            ++ (to_run g.body ++ (return g.end b ∷ []));
      }) k.0 (owed-same (is_init g) g k.1)

  -- tags that leave nothing of a procedure's first goal, for annotations as they stand, prove it
  pub procedure-proved : (f : ℕ) (g : Procedure) (gs : List Procedure) (tags more : List Tag)
      → slice_get d.program.procedures f ≡ Some g → list_all is_straight tags ≡ true
      → run (as_written d) (first_goal (as_written d) (record { 0 = f }) g ∷ []) tags ≡ Some []
      → ProvesFrom d (suc f) gs more
      → ProvesFrom d f (g ∷ gs) (t.Procedure (record { 0 = f }) ∷ (tags ++ more))
  procedure-proved f g gs tags more e h r rest =
      let goal = first_goal d (record { 0 = f }) g in
      let runs : run d (goal ∷ []) tags ≡ Some [] =
      run-same tags h (goal ∷ []) ∙ ap (λ z. run (as_written d) (z ∷ []) tags) (first-same f g e) ∙ r in
      shown-procedure d f g gs tags more
      (subst (Shown d (goal ∷ [])) (append-nil tags) (run-shown d tags [] (goal ∷ []) [] runs (shown-nothing d))) rest
