-- What the goal that a command's row leaves has of the state before: its variables and fields are in order, each
-- variable that had a term has one, and what was handed over is the same.
-- Names: `COMMAND-stays` of that command's row.
use Rattle.std.specs.List.{AllByRecursion}
use Rattle.std.specs.Option.{option_and_then, option_map}
use Rattle.std.proofs.Common.{◌≡◌, ℕ, Bool, true, false, cond, Option, Some, None, List, [], ◌∷◌, ◌++◌, refl, sym, ◌∙◌, subst}
use Rattle.std.proofs.lemmas.Option.{same_Some}
use Rattle.sf_base.proofs.Elements.{all_by-append}
use Rattle.sf_base.specs.declared.ids.FieldId.{FieldId}
use Rattle.sf_base.specs.declared.ids.Var.{Var}
use Rattle.sf_base.specs.declared.place.Place.{Place}
use Rattle.sf_core.specs.declared.assertion.Test.{Test}
use Rattle.sf_core.specs.declared.command.Expr.{Expr}
use Rattle.sf_core.specs.declared.command.Occurrence.{Occurrence}
use Rattle.sf_core.specs.Program.Syntax.{Block, assign, look_up, mutate, new, dispose, if}
use Rattle.sf_rules.specs.Checked.Rows.Branches.{branch_row}
use Rattle.sf_rules.specs.Checked.Rows.Commands.{assign_row, look_row, mutate_row, new_row, dispose_row, looked}
use Rattle.sf_rules.specs.Rules.{with_var}
use Rattle.sf_rules.specs.Checked.Lemmas.VariableTerms.{set-listed}
use Rattle.sf_sym.specs.Cells.{cell_at, with_fields, without}
use Rattle.sf_sym.specs.Decided.{command_test, is_decided}
use Rattle.sf_sym.specs.declared.atom.Atom.TheVariants.{Points}
use Rattle.sf_sym.specs.declared.atom.Numbered.{Numbered}
use Rattle.sf_sym.specs.declared.term.Term.{Term}
use Rattle.sf_sym.specs.declared.term.Term.TheVariants.{Sym}
use Rattle.sf_sym.specs.Fields.{field_term, put_term}
use Rattle.sf_sym.specs.Goal.{Item, run, Goal, one_goal, to_run}
use Rattle.sf_sym.specs.Checked.Lemmas.Updates.{put-order, set-order}
use Rattle.sf_sym.specs.Checked.Lemmas.AtomLists.{at-all, at-cell, with_fields-all, without-all}
use Rattle.sf_sym.specs.Ready.{HasOrder, is_listed}
use Rattle.sf_sym.specs.Variables.{AreInOrder}
use Rattle.sf_sym.specs.State.{State, term, with_symbols}

-- the state's lists are in order
pub record IsOrdered (s : State) : Type 0 where
  pub vars : AreInOrder s.vars
  pub fields : AllByRecursion (λ (a : Numbered). HasOrder a.atom) s.atoms

-- the goal has that to do, and what it has of the state
pub record Stays (s : State) (todo : List Item) (child : Goal) : Type 0 where
  pub to_do : child.todo ≡ todo
  pub ordered : IsOrdered child.state
  pub listed : (x : Var) → is_listed s.vars x ≡ true → is_listed child.state.vars x ≡ true
  pub taken : child.state.taken ≡ s.taken

-- the one goal that is left
one-stays : (s : State) (todo : List Item) (child : Goal) (left : List Goal) → Some (child ∷ []) ≡ Some left
    → Stays s todo child → AllByRecursion (Stays s todo) left
one-stays s todo child left e h = subst (AllByRecursion (Stays s todo)) (same_Some (child ∷ []) left e) (h, tt)

-- a variable is set
set-stays : (s : State) (x : Var) (t : Term) (s2 : State) (rest : List Item) → IsOrdered s
    → s2.vars ≡ s.vars → AllByRecursion (λ (a : Numbered). HasOrder a.atom) s2.atoms → s2.taken ≡ s.taken
    → Stays s rest (record { state = with_var x t s2; todo = rest })
set-stays s x t s2 rest o vars fields taken = record {
  to_do = refl;
  ordered = record { vars = set-order x t s2.vars (subst AreInOrder (sym vars) o.vars); fields = fields };
  listed = λ y e. set-listed x t s2.vars y (subst (λ vs. is_listed vs y ≡ true) (sym vars) e);
  taken = taken;
}

pub assign-stays : (s : State) (rest : List Item) (left : List Goal) (p : Place) (x : Occurrence) (e : Expr)
    → IsOrdered s → assign_row s (assign p x e) rest ≡ Some left → AllByRecursion (Stays s rest) left
assign-stays s rest left p x e o row = one-stays s rest _ left row
    (set-stays s x.var (term s.vars e) s rest o refl o.fields refl)

pub new-stays : (s : State) (rest : List Item) (left : List Goal) (p : Place) (x : Occurrence)
    → IsOrdered s → new_row s (new p x) rest ≡ Some left → AllByRecursion (Stays s rest) left
new-stays s rest left p x o row = one-stays s rest _ left row (record {
  to_do = refl;
  ordered = record {
    vars = set-order x.var (Sym s.next_sym) s.vars o.vars;
    fields = all_by-append (λ (a : Numbered). HasOrder a.atom) s.atoms _ o.fields (tt, tt);
  };
  listed = λ y e. set-listed x.var (Sym s.next_sym) s.vars y e;
  taken = refl;
})

pub dispose-stays : (s : State) (rest : List Item) (left : List Goal) (p : Place) (root : Expr) (a : ℕ)
    → IsOrdered s → dispose_row a s (dispose p root) rest ≡ Some left → AllByRecursion (Stays s rest) left
dispose-stays s rest left p root a o row = go (cell_at s.atoms a (term s.vars root)) row
  where
    go : (c : Option (List (FieldId × Term)))
        → option_and_then (λ fields. one_goal (record s { atoms = without s.atoms a }) rest) c ≡ Some left
        → AllByRecursion (Stays s rest) left
    go None e = absurd (cc)
    go (Some fields) e = one-stays s rest _ left e (record {
      to_do = refl;
      ordered = record { vars = o.vars; fields = without-all HasOrder s.atoms a o.fields };
      listed = λ y i. i;
      taken = refl;
    })

-- a cell with a field that is put
written : (s : State) (a : ℕ) (t : Term) (fields : List (FieldId × Term)) (f : FieldId) (u : Term) → IsOrdered s
    → cell_at s.atoms a t ≡ Some fields
    → AllByRecursion (λ (b : Numbered). HasOrder b.atom) (with_fields s.atoms a t (put_term f u fields))
written s a t fields f u o found =
    with_fields-all HasOrder s.atoms a t (put_term f u fields) o.fields
    (put-order f u fields (at-all HasOrder s.atoms a (Points t fields) (at-cell s.atoms a t fields found) o.fields))

pub mutate-stays : (s : State) (rest : List Item) (left : List Goal) (p : Place) (root : Expr) (f : FieldId)
    (v : Expr) (a : ℕ) → IsOrdered s → mutate_row a s (mutate p root f v) rest ≡ Some left
    → AllByRecursion (Stays s rest) left
mutate-stays s rest left p root f v a o row = go (cell_at s.atoms a (term s.vars root)) refl row
  where
    go : (c : Option (List (FieldId × Term))) → cell_at s.atoms a (term s.vars root) ≡ c
        →
        option_and_then (λ after. one_goal after rest)
        (option_map (λ fields. record s {
          atoms = with_fields s.atoms a (term s.vars root) (put_term f (term s.vars v) fields);
        }) c)
        ≡ Some left
        → AllByRecursion (Stays s rest) left
    go None found e = absurd (cc)
    go (Some fields) found e = one-stays s rest _ left e (record {
      to_do = refl;
      ordered = record {
        vars = o.vars;
        fields = written s a (term s.vars root) fields f (term s.vars v) o found;
      };
      listed = λ y i. i;
      taken = refl;
    })

look-known : (s : State) (rest : List Item) (left : List Goal) (root : Term) (f : FieldId) (a : ℕ) (x : Var)
    (fields : List (FieldId × Term)) → IsOrdered s → cell_at s.atoms a root ≡ Some fields → (t : Option Term)
    → option_and_then (λ after. one_goal after rest) (looked s root f a x t) ≡ Some left
    → AllByRecursion (Stays s rest) left
look-known s rest left root f a x fields o found (Some t) e =
    one-stays s rest _ left e (set-stays s x t s rest o refl o.fields refl)
look-known s rest left root f a x fields o found None e = go (cell_at s.atoms a root) found e
  where
    go : (c : Option (List (FieldId × Term))) → c ≡ Some fields
        →
        option_and_then (λ after. one_goal after rest)
        (option_map (with_var x (Sym s.next_sym)) (option_map (λ gs. record (with_symbols 1 s) {
          atoms = with_fields s.atoms a root (put_term f (Sym s.next_sym) gs);
        }) c))
        ≡ Some left
        → AllByRecursion (Stays s rest) left
    go None i e = absurd (cc)
    go (Some gs) i e = one-stays s rest _ left e
        (set-stays s x (Sym s.next_sym)
        (record (with_symbols 1 s) { atoms = with_fields s.atoms a root (put_term f (Sym s.next_sym) gs) })
        rest o refl (written s a root gs f (Sym s.next_sym) o (found ∙ sym i)) refl)

pub look-stays : (s : State) (rest : List Item) (left : List Goal) (p : Place) (x : Occurrence) (root : Expr)
    (f : FieldId) (a : ℕ) → IsOrdered s → look_row a s (look_up p x root f) rest ≡ Some left
    → AllByRecursion (Stays s rest) left
look-stays s rest left p x root f a o row = go (cell_at s.atoms a (term s.vars root)) refl row
  where
    go : (c : Option (List (FieldId × Term))) → cell_at s.atoms a (term s.vars root) ≡ c
        →
        option_and_then (λ fields. option_and_then (λ after. one_goal after rest)
        (looked s (term s.vars root) f a x.var (field_term fields f))) c
        ≡ Some left
        → AllByRecursion (Stays s rest) left
    go None found e = absurd (cc)
    go (Some fields) found e =
        look-known s rest left (term s.vars root) f a x.var fields o found (field_term fields f) e

-- a choice among commands: its branch comes first
pub branch-stays : (so : Bool) (s : State) (rest : List Item) (left : List Goal) (p : Place) (t : Test Expr)
    (this that : Block) → IsOrdered s → branch_row so s (run (if p t this that) ∷ rest) ≡ Some left
    → AllByRecursion (Stays s (to_run (cond so this that) ++ rest)) left
branch-stays so s rest left p t this that o row = go (is_decided so s (command_test (term s.vars) t)) row
  where
    go : (b : Bool) → cond b (one_goal s (to_run (cond so this that) ++ rest)) None ≡ Some left
        → AllByRecursion (Stays s (to_run (cond so this that) ++ rest)) left
    go true e = one-stays s (to_run (cond so this that) ++ rest) _ left e (record {
      to_do = refl;
      ordered = o;
      listed = λ y i. i;
      taken = refl;
    })
    go false e = absurd (cc)
