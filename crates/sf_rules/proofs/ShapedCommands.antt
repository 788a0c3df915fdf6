-- The rows of commands keep the shape of goals: assign, look, mutate, new, dispose, and a choice among commands.
-- Names: `COMMAND-keeps`.
use Rattle.std.specs.Option.{option_and_then, option_map}
use Rattle.std.proofs.Common.{◌≡◌, ℕ, ◌+◌, Bool, true, false, cond, Option, Some, None, List, [], ◌∷◌, ◌++◌, refl, sym, ◌∙◌, arith}
use Rattle.sf_base.specs.declared.ids.FieldId.{FieldId}
use Rattle.sf_base.specs.declared.ids.Var.{Var}
use Rattle.sf_base.specs.declared.place.Place.{Place}
use Rattle.sf_core.specs.declared.assertion.Test.{Test}
use Rattle.sf_core.specs.declared.command.Expr.{Expr}
use Rattle.sf_core.specs.declared.command.Occurrence.{Occurrence}
use Rattle.sf_core.specs.Program.Syntax.{Block, Command, assign, look_up, mutate, new, dispose, if}
use Rattle.sf_rules.specs.Checked.Rows.Branches.{branch_row}
use Rattle.sf_rules.specs.Checked.Rows.Commands.{assign_row, look_row, mutate_row, new_row, dispose_row, looked}
use Rattle.sf_rules.specs.Rules.{with_var}
use Rattle.sf_rules.specs.Setting.{Setting}
use Rattle.sf_rules.proofs.Fitting.{to_run-below, to_run-fits}
use Rattle.sf_rules.proofs.FittingStates.{StateShaped, cell-shaped, fields-shaped, symbols-shaped, vars-shaped, without-shaped}
use Rattle.sf_rules.specs.Checked.Lemmas.FreshVariables.{term-below}
use Rattle.sf_rules.proofs.ShapedGoals.{AllKeep, Keeps, Rises, keeps-goal, one-keeps, rest-below, rises-none, state-shaped}
use Rattle.sf_rules.specs.Shape.{BlockFits}
use Rattle.sf_rules.proofs.Fits.{IsFitting}
use Rattle.sf_sym.specs.Below.{AllInAtom, IsBelow}
use Rattle.sf_sym.specs.Cells.{cell_at, with_cell, with_fields, without}
use Rattle.sf_sym.specs.Decided.{command_test, is_decided}
use Rattle.sf_sym.specs.declared.atom.Atom.TheVariants.{Points}
use Rattle.sf_sym.specs.declared.term.Term.{Term}
use Rattle.sf_sym.specs.declared.term.Term.TheVariants.{Sym}
use Rattle.sf_sym.specs.Fields.{field_term, put_term}
use Rattle.sf_sym.specs.Goal.{Item, run, Goal, one_goal, to_run}
use Rattle.sf_sym.specs.Checked.Lemmas.AtomLists.{at-all, at-cell}
use Rattle.sf_sym.specs.Checked.Lemmas.Below.{below-symbol, put-all}
use Rattle.sf_sym.specs.Checked.Lemmas.CellFields.{field-all}
use Rattle.sf_sym.specs.Checked.Lemmas.KnownValues.{set-all}
use Rattle.sf_sym.specs.State.{State, term, with_symbols}

-- the terms of a cell are below
cell-below : (s : State) (a : ℕ) (root : Term) (fields : List (FieldId × Term)) (d : Setting) → StateShaped d s
    → cell_at s.atoms a root ≡ Some fields → AllInAtom (IsBelow s.next_sym) (Points root fields)
cell-below s a root fields d h e =
    at-all (AllInAtom (IsBelow s.next_sym)) s.atoms a (Points root fields) (at-cell s.atoms a root fields e) h.below.atoms

module _ (d : Setting) (s : State) (rest : List Item) (left : List Goal) where
  abbrev Before : Command → Type 0
  Before c = IsFitting d (record { state = s; todo = run c ∷ rest })

  module _ (c : Command) (h : Before c) where
    shaped : StateShaped d s
    shaped = state-shaped d (record { state = s; todo = run c ∷ rest }) h

    value-below : (e : Expr) → IsBelow s.next_sym (term s.vars e)
    value-below e = term-below s.next_sym s.vars h.below.state.vars e

    -- the one goal that is left, which has the rest to do
    next-keeps : (s2 : State) → one_goal s2 rest ≡ Some left → StateShaped d s2 → Rises s s2 → AllKeep d s left
    next-keeps s2 e k r =
        one-keeps d s _ left e (keeps-goal d s s2 rest k r (rest-below s s2 rest r h.below.todo.1) h.todo.1)

    -- a variable has another term
    var-shaped : (s2 : State) (x : Var) (t : Term) → StateShaped d s2 → IsBelow s2.next_sym t
        → StateShaped d (with_var x t s2)
    var-shaped s2 x t k b =
        vars-shaped d s2 k _ (set-all (IsBelow s2.next_sym) x t s2.vars b k.below.vars)

    -- a cell's field is written
    written-shaped : (s2 : State) (a : ℕ) (root : Term) (fields : List (FieldId × Term)) (f : FieldId) (u : Term)
        → StateShaped d s2 → cell_at s2.atoms a root ≡ Some fields → IsBelow s2.next_sym u
        → StateShaped d (record s2 { atoms = with_fields s2.atoms a root (put_term f u fields) })
    written-shaped s2 a root fields f u k e b =
        let m = cell-below s2 a root fields d k e in
        fields-shaped d s2 k a root (put_term f u fields) m.0 (put-all (IsBelow s2.next_sym) f u fields b m.1)

  pub assign-keeps : (p : Place) (x : Occurrence) (e : Expr) → Before (assign p x e)
      → assign_row s (assign p x e) rest ≡ Some left → AllKeep d s left
  assign-keeps p x e h row =
      let c = assign p x e in
      next-keeps c h (with_var x.var (term s.vars e) s) row
      (var-shaped c h s x.var (term s.vars e) (shaped c h) (value-below c h e)) (rises-none s _ refl refl)

  pub new-keeps : (p : Place) (x : Occurrence) → Before (new p x) → new_row s (new p x) rest ≡ Some left
      → AllKeep d s left
  new-keeps p x h row =
      let c = new p x in
      let fresh = below-symbol (s.next_sym + 1) s.next_sym (omega arith) in
      let s2 = with_var x.var (Sym s.next_sym) (with_symbols 1 s) in
      next-keeps c h (with_cell s2 (Sym s.next_sym) []) row
      (cell-shaped d s2 (var-shaped c h (with_symbols 1 s) x.var (Sym s.next_sym)
      (symbols-shaped d s (shaped c h) 1) fresh) (Sym s.next_sym) [] fresh tt)
      (record { kept = omega arith; symbols = omega arith; atoms = omega arith })

  pub dispose-keeps : (p : Place) (root : Expr) (a : ℕ) → Before (dispose p root)
      → dispose_row a s (dispose p root) rest ≡ Some left → AllKeep d s left
  dispose-keeps p root a h row = go (cell_at s.atoms a (term s.vars root)) row
    where
      go : (c : Option (List (FieldId × Term)))
          → option_and_then (λ fields. one_goal (record s { atoms = without s.atoms a }) rest) c ≡ Some left
          → AllKeep d s left
      go None e = absurd (cc)
      go (Some fields) e =
          next-keeps (dispose p root) h (record s { atoms = without s.atoms a }) e
          (without-shaped d s (shaped (dispose p root) h) a) (rises-none s _ refl refl)

  pub mutate-keeps : (p : Place) (root : Expr) (f : FieldId) (v : Expr) (a : ℕ) → Before (mutate p root f v)
      → mutate_row a s (mutate p root f v) rest ≡ Some left → AllKeep d s left
  mutate-keeps p root f v a h row = go (cell_at s.atoms a (term s.vars root)) refl row
    where
      go : (c : Option (List (FieldId × Term))) → cell_at s.atoms a (term s.vars root) ≡ c
          → option_and_then (λ after. one_goal after rest) (option_map (λ fields. record s {
            atoms = with_fields s.atoms a (term s.vars root) (put_term f (term s.vars v) fields);
          }) c)
          ≡ Some left
          → AllKeep d s left
      go None found e = absurd (cc)
      go (Some fields) found e =
          let c = mutate p root f v in
          next-keeps c h _ e
          (written-shaped c h s a (term s.vars root) fields f (term s.vars v) (shaped c h) found (value-below c h v))
          (rises-none s _ refl refl)

  look-known : (p : Place) (x : Occurrence) (root : Expr) (f : FieldId) (a : ℕ) → Before (look_up p x root f)
      → (fields : List (FieldId × Term)) → cell_at s.atoms a (term s.vars root) ≡ Some fields → (t : Option Term)
      → ((u : Term) → t ≡ Some u → IsBelow s.next_sym u)
      → option_and_then (λ after. one_goal after rest) (looked s (term s.vars root) f a x.var t) ≡ Some left
      → AllKeep d s left
  look-known p x root f a h fields found (Some t) b e =
      let c = look_up p x root f in
      next-keeps c h (with_var x.var t s) e (var-shaped c h s x.var t (shaped c h) (b t refl)) (rises-none s _ refl refl)
  look-known p x root f a h fields found None b e = go (cell_at s.atoms a (term s.vars root)) found e
    where
      go : (o : Option (List (FieldId × Term))) → o ≡ Some fields
          → option_and_then (λ after. one_goal after rest) (option_map (with_var x.var (Sym s.next_sym))
          (option_map (λ gs. record (with_symbols 1 s) {
            atoms = with_fields s.atoms a (term s.vars root) (put_term f (Sym s.next_sym) gs);
          }) o))
          ≡ Some left
          → AllKeep d s left
      go None i e = absurd (cc)
      go (Some gs) i e =
          let c = look_up p x root f in
          let s1 = with_symbols 1 s in
          let fresh = below-symbol (s.next_sym + 1) s.next_sym (omega arith) in
          let s2 = record s1 { atoms = with_fields s.atoms a (term s.vars root) (put_term f (Sym s.next_sym) gs) } in
          next-keeps c h (with_var x.var (Sym s.next_sym) s2) e
          (var-shaped c h s2 x.var (Sym s.next_sym) (written-shaped c h s1 a (term s.vars root) gs f (Sym s.next_sym)
          (symbols-shaped d s (shaped c h) 1) (found ∙ sym i) fresh) fresh)
          (record { kept = omega arith; symbols = omega arith; atoms = omega arith })

  pub look-keeps : (p : Place) (x : Occurrence) (root : Expr) (f : FieldId) (a : ℕ) → Before (look_up p x root f)
      → look_row a s (look_up p x root f) rest ≡ Some left → AllKeep d s left
  look-keeps p x root f a h row = go (cell_at s.atoms a (term s.vars root)) refl row
    where
      go : (c : Option (List (FieldId × Term))) → cell_at s.atoms a (term s.vars root) ≡ c
          → option_and_then (λ fields. option_and_then (λ after. one_goal after rest)
          (looked s (term s.vars root) f a x.var (field_term fields f))) c
          ≡ Some left
          → AllKeep d s left
      go None found e = absurd (cc)
      go (Some fields) found e =
          let m = cell-below s a (term s.vars root) fields d (shaped (look_up p x root f) h) found in
          look-known p x root f a h fields found (field_term fields f)
          (λ u i. field-all (IsBelow s.next_sym) fields f u i m.1) e

  -- a choice: its branch comes first
  pub choice-keeps : (so : Bool) (p : Place) (t : Test Expr) (this that : Block) → Before (if p t this that)
      → branch_row so s (run (if p t this that) ∷ rest) ≡ Some left → AllKeep d s left
  choice-keeps so p t this that h row = go (is_decided so s (command_test (term s.vars) t)) row
    where
      branch : (so : Bool) → Keeps d s (record { state = s; todo = to_run (cond so this that) ++ rest })
      branch so =
          let c = if p t this that in
          let r = rises-none s s refl refl in
          keeps-goal d s s (to_run (cond so this that) ++ rest) (shaped c h) r
          (to_run-below (IsBelow s.next_sym) (cond so this that) rest h.below.todo.1)
          (to_run-fits d (cond so this that) rest (fits so) h.todo.1)
        where
          fits : (so : Bool) → BlockFits d (cond so this that)
          fits true = h.todo.0.0
          fits false = h.todo.0.1

      go : (b : Bool) → cond b (one_goal s (to_run (cond so this that) ++ rest)) None ≡ Some left → AllKeep d s left
      go true e = one-keeps d s _ left e (branch so)
      go false e = absurd (cc)
