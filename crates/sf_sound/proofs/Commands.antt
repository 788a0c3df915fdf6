-- What goals with a command in front claim: the event finds what it needs, and the goal that is left claims the rest.
-- Names: `COMMAND-claims` of that command's row.
use Rattle.std.specs.List.{AllByRecursion}
use Rattle.std.proofs.Common.{◌≡◌, ℕ, zero, suc, Bool, true, false, cond, Option, Some, None, List, [], ◌∷◌, ◌++◌, sym, subst, subst₂, inl, inr}
use Rattle.sf_base.specs.declared.ids.FieldId.{FieldId}
use Rattle.sf_base.specs.declared.ids.Var.{Var}
use Rattle.sf_base.specs.declared.place.Place.{Place}
use Rattle.sf_base.specs.declared.value.Value.{Value}
use Rattle.sf_base.specs.declared.value.Value.TheVariants.{Loc as loc}
use Rattle.sf_base.specs.HeapStore.{Heap, put_field}
use Rattle.sf_core.specs.Assertions.Sat.{IsTrueOf}
use Rattle.sf_core.specs.declared.assertion.Test.{Test}
use Rattle.sf_core.specs.declared.command.Expr.{Expr}
use Rattle.sf_core.specs.declared.command.Occurrence.{Occurrence}
use Rattle.sf_core.specs.Machine.Config.{items}
use Rattle.sf_core.specs.Program.Syntax.{Block, Command, assign, look_up, mutate, new, dispose, if}
use Rattle.sf_rules.specs.Checked.LawsOfCommands.{before_command, Executed, AssignFollowsEvent, LookFollowsEvent, MutateFollowsEvent, NewFollowsEvent, DisposeFollowsEvent, ThenFollowsTest, ElseFollowsTest}
use Rattle.sf_rules.specs.Checked.Rows.Branches.{branch_row, then_row, else_row}
use Rattle.sf_rules.specs.Checked.Rows.Commands.{assign_row, look_row, mutate_row, new_row, dispose_row}
use Rattle.sf_rules.specs.Setting.{Setting}
use Rattle.sf_safe.specs.Checked.Local.{Local, look, put_local, put_variable}
use Rattle.sf_safe.specs.Checked.LocalSafe.{LocalSafe}
use Rattle.sf_rules.specs.Checked.Lemmas.Forms.{body-run, form-command}
use Rattle.sf_rules.specs.Checked.Lemmas.CommandChildren.{IsOrdered, Stays, assign-stays, branch-stays, dispose-stays, look-stays, mutate-stays, new-stays}
use Rattle.sf_sound.proofs.Standing.{body-does, domain-has, domain-in, domain-put, domain-test, owed-run, steps-run, suits-run, value-expr, value-test}
use Rattle.sf_sound.specs.Checked.Claims.{Does, Owed, steps}
use Rattle.sf_sound.specs.Checked.Suits.{Claim, Domain, HasDomain, Suits, TodoSuits}
use Rattle.sf_sym.specs.Goal.{Item, run, Goal, to_run}
use Rattle.sf_sym.specs.HoldsIn.{HoldsIn}
use Rattle.sf_sym.specs.Checked.Laws.{HoldsStill, SomeOf}
use Rattle.sf_sym.specs.Ready.{HasTestValues, value_at}
use Rattle.sf_sym.specs.State.{State}
use Rattle.sf_sym.specs.Shape.{HasShape, IsBody}

-- one of the goals has the property that one of them has, and those that all have
pub record Picked (P Q R S : Goal → Type 0) : Type 0 where
  pub goal : Goal
  pub one : P goal
  pub first : Q goal
  pub second : R goal
  pub third : S goal

pub pick : (P Q R S : Goal → Type 0) (left : List Goal) → SomeOf P left → AllByRecursion Q left
    → AllByRecursion R left → AllByRecursion S left → Picked P Q R S
pick P Q R S [] p q r s = absurd p
pick P Q R S (g ∷ gs) (inl p) q r s = record { goal = g; one = p; first = q.0; second = r.0; third = s.0 }
pick P Q R S (g ∷ gs) (inr p) q r s = pick P Q R S gs p q.1 r.1 s.1

-- a goal with a command in front, and a goal that its row leaves, which has that to do
module _ (d : Setting) (D : Domain) (s : State) (c : Command) (rest todo : List Item) (child : Goal)
    (u : Suits d D (before_command s c rest)) (st : Stays s todo child) (body : IsBody todo)
    (suits : TodoSuits d D todo) where
  child-suits : Suits d D child
  child-suits = record {
    listed = λ x e. st.listed x (u.listed x e);
    todo = subst (TodoSuits d D) (sym st.to_do) suits;
  }

  -- where that goal holds after the event, the machine goes on
  pub goes-on : (n : ℕ) (w : ℕ → Value) (l : Local) (taken : Heap) → Claim d child → HasDomain D l
      → HoldsIn w child l.values l.cells taken → LocalSafe d.program n (Owed todo) (steps todo) l
  goes-on n w l taken claim has holds =
      body-does d.program n w todo l body
      (subst (λ z. Does d.program n w z l) st.to_do (claim n w D l taken child-suits has holds))

module _ (d : Setting) (s : State) (rest : List Item) (left : List Goal) (claims : AllByRecursion
    (Claim d) left) where
  ordered : (c : Command) → HasShape (before_command s c rest) → IsOrdered s
  ordered c shape = record { vars = shape.vars; fields = shape.fields }

  pub assign-claims : AssignFollowsEvent → (p : Place) (x : Occurrence) (e : Expr)
      → assign_row s (assign p x e) rest ≡ Some left
      → HasShape (before_command s (assign p x e) rest) → Claim d (before_command s (assign p x e) rest)
  unfolding AssignFollowsEvent
  assign-claims law p x e row shape zero w D l taken u has holds = tt
  assign-claims law p x e row shape (suc n) w D l taken u has holds =
      let c = assign p x e in
      let r = law s rest left p x e shape row in
      let m = pick _ _ _ _ left (r.after w l.values l.cells taken holds) r.follow
      (assign-stays s rest left p x e (ordered c shape) row) claims in
      let after = m.one (value-expr D l has e u.todo.0.1) in (
        domain-has D l has x.var u.todo.0.0,
        domain-in D l has e u.todo.0.1,
        goes-on d D s c rest rest m.goal u m.second (form-command s c rest shape.form).0 u.todo.1 n
            after.values (put_variable x.var (look l e) l) taken m.third
            (domain-put D l x.var (look l e) u.todo.0.0 has) after.holds,
      )

  pub look-claims : LookFollowsEvent → (p : Place) (x : Occurrence) (e : Expr) (f : FieldId) (a : ℕ)
      → look_row a s (look_up p x e f) rest ≡ Some left
      → HasShape (before_command s (look_up p x e f) rest) → Claim d (before_command s (look_up p x e f) rest)
  unfolding LookFollowsEvent
  look-claims law p x e f a row shape zero w D l taken u has holds = tt
  look-claims law p x e f a row shape (suc n) w D l taken u has holds =
      let c = look_up p x e f in
      let r = law s rest left p x e f a shape row in
      let m = pick _ _ _ _ left (r.after w l.values l.cells taken holds) r.follow
      (look-stays s rest left p x e f a (ordered c shape) row) claims in
      let found = m.one (value-expr D l has e u.todo.0.1) in
      let after = found.follows in (
        domain-has D l has x.var u.todo.0.0,
        record {
          location = found.location;
          cell = found.cell;
          reads = domain-in D l has e u.todo.0.1;
          finds = found.finds;
        },
        goes-on d D s c rest rest m.goal u m.second (form-command s c rest shape.form).0 u.todo.1 n
            after.values (put_variable x.var (found.cell f.0) l) taken m.third
            (domain-put D l x.var (found.cell f.0) u.todo.0.0 has) after.holds,
      )

  pub mutate-claims : MutateFollowsEvent → (p : Place) (e : Expr) (f : FieldId) (v : Expr) (a : ℕ)
      → mutate_row a s (mutate p e f v) rest ≡ Some left
      → HasShape (before_command s (mutate p e f v) rest) → Claim d (before_command s (mutate p e f v) rest)
  unfolding MutateFollowsEvent
  mutate-claims law p e f v a row shape zero w D l taken u has holds = tt
  mutate-claims law p e f v a row shape (suc n) w D l taken u has holds =
      let c = mutate p e f v in
      let r = law s rest left p e f v a shape row in
      let m = pick _ _ _ _ left (r.after w l.values l.cells taken holds) r.follow
      (mutate-stays s rest left p e f v a (ordered c shape) row) claims in
      let found = m.one (value-expr D l has e u.todo.0.0)
      (value-expr D l has v u.todo.0.1) in
      let after = found.follows in (
        domain-in D l has v u.todo.0.1,
        record {
          location = found.location;
          cell = found.cell;
          reads = domain-in D l has e u.todo.0.0;
          finds = found.finds;
        },
        goes-on d D s c rest rest m.goal u m.second (form-command s c rest shape.form).0 u.todo.1 n
            after.values (put_local found.location (Some (put_field found.cell f.0 (look l v))) l) taken m.third
            (record { variables = has.variables; tokens = has.tokens }) after.holds,
      )

  pub dispose-claims : DisposeFollowsEvent → (p : Place) (e : Expr) (a : ℕ)
      → dispose_row a s (dispose p e) rest ≡ Some left
      → HasShape (before_command s (dispose p e) rest) → Claim d (before_command s (dispose p e) rest)
  unfolding DisposeFollowsEvent
  dispose-claims law p e a row shape zero w D l taken u has holds = tt
  dispose-claims law p e a row shape (suc n) w D l taken u has holds =
      let c = dispose p e in
      let r = law s rest left p e a shape row in
      let m = pick _ _ _ _ left (r.after w l.values l.cells taken holds) r.follow
      (dispose-stays s rest left p e a (ordered c shape) row) claims in
      let found = m.one (value-expr D l has e u.todo.0) in
      let after = found.follows in (
        record {
          location = found.location;
          cell = found.cell;
          reads = domain-in D l has e u.todo.0;
          finds = found.finds;
        },
        goes-on d D s c rest rest m.goal u m.second (form-command s c rest shape.form).0 u.todo.1 n
            after.values (put_local found.location None l) taken m.third
            (record { variables = has.variables; tokens = has.tokens }) after.holds,
      )

  pub new-claims : NewFollowsEvent → (p : Place) (x : Occurrence) → new_row s (new p x) rest ≡ Some left
      → HasShape (before_command s (new p x) rest) → Claim d (before_command s (new p x) rest)
  unfolding NewFollowsEvent
  new-claims law p x row shape zero w D l taken u has holds = tt
  new-claims law p x row shape (suc n) w D l taken u has holds =
      let c = new p x in
      let form = form-command s c rest shape.form in
      let r = law s rest left p x shape row in
      let m = pick _ _ _ _ left (r.after w l.values l.cells taken holds) r.follow
      (new-stays s rest left p x (ordered c shape) row) claims in (
        domain-has D l has x.var u.todo.0,
        λ location cell i free.
            let after = m.one location cell free in
            goes-on d D s c rest rest m.goal u m.second form.0 u.todo.1 n after.values
            (put_variable x.var (loc location) (put_local location (Some cell) l)) taken m.third
            (domain-put D (put_local location (Some cell) l) x.var (loc location) u.todo.0
            (record { variables = has.variables; tokens = has.tokens })) after.holds,
      )

  -- a branch goes on as the machine does
  branch-on : (D : Domain) (n : ℕ) (w : ℕ → Value) (l : Local) (taken : Heap) (c : Command) (b : Block) (child : Goal)
      → (u : Suits d D (before_command s c rest)) → HasShape (before_command s c rest)
      → Stays s (to_run b ++ rest) child → TodoSuits d D (to_run b ++ rest) → Claim d child → HasDomain D l
      → HoldsIn w child l.values l.cells taken
      → LocalSafe d.program n (Owed rest) (items b ++ steps rest) l
  branch-on D n w l taken c b child u shape stays suits claim has holds =
      subst₂ (λ e ss. LocalSafe d.program n e ss l) (owed-run b rest) (steps-run b rest)
      (goes-on d D s c rest (to_run b ++ rest) child u stays
      (body-run b rest (form-command s c rest shape.form).0) suits n w l taken claim has holds)

  -- a row that leaves the branch of the test's value: what it says of the test holds, and the branch goes on
  branch-goes : (so : Bool) (Says : (Var → Option Value) → Type 0) (p : Place) (t : Test Expr) (this that : Block)
      → (HasShape (before_command s (if p t this that) rest)
      → Executed (before_command s (if p t this that) rest) left
      (λ w e free taken child. HasTestValues e t
      → Says e × HoldsStill w (before_command s (if p t this that) rest) e free taken child))
      → branch_row so s (run (if p t this that) ∷ rest) ≡ Some left
      → HasShape (before_command s (if p t this that) rest) → (n : ℕ) (w : ℕ → Value) (D : Domain) (l : Local) (taken : Heap)
      → (u : Suits d D (before_command s (if p t this that) rest)) → HasDomain D l
      → HoldsIn w (before_command s (if p t this that) rest) l.values l.cells taken
      → TodoSuits d D (to_run (cond so this that) ++ rest)
      → Says l.values × LocalSafe d.program n (Owed rest) (items (cond so this that) ++ steps rest) l
  branch-goes so Says p t this that law row shape n w D l taken u has holds suits =
      let c = if p t this that in
      let r = law shape in
      let m = pick _ _ _ _ left (r.after w l.values l.cells taken holds) r.follow
      (branch-stays so s rest left p t this that (ordered c shape) row) claims in
      let (is, after) = m.one (value-test D l has t u.todo.0.0) in (
        is,
        branch-on D n after.values l taken c (cond so this that) m.goal u shape m.second suits m.third has
            after.holds,
      )

  pub then-claims : ThenFollowsTest → (p : Place) (t : Test Expr) (this that : Block)
      → then_row s (run (if p t this that) ∷ rest) ≡ Some left → HasShape (before_command s (if p t this that) rest)
      → Claim d (before_command s (if p t this that) rest)
  unfolding ThenFollowsTest
  then-claims law p t this that row shape zero w D l taken u has holds = tt
  then-claims law p t this that row shape (suc n) w D l taken u has holds =
      let (is, on) = branch-goes true (λ e. IsTrueOf (value_at e) t) p t this that
      (λ r. law s rest left p t this that r row) row shape n w D l taken u has holds
      (suits-run d D this rest u.todo.0.1 u.todo.1) in
      record { reads = domain-test D l has t u.todo.0.0; this = λ i. on; that = λ i. absurd (i is) }

  pub else-claims : ElseFollowsTest → (p : Place) (t : Test Expr) (this that : Block)
      → else_row s (run (if p t this that) ∷ rest) ≡ Some left → HasShape (before_command s (if p t this that) rest)
      → Claim d (before_command s (if p t this that) rest)
  unfolding ElseFollowsTest
  else-claims law p t this that row shape zero w D l taken u has holds = tt
  else-claims law p t this that row shape (suc n) w D l taken u has holds =
      let (is, on) = branch-goes false (λ e. IsTrueOf (value_at e) t → ⊥) p t this that
      (λ r. law s rest left p t this that r row) row shape n w D l taken u has holds
      (suits-run d D that rest u.todo.0.2 u.todo.1) in
      record { reads = domain-test D l has t u.todo.0.0; this = λ i. absurd (is i); that = λ i. on }
