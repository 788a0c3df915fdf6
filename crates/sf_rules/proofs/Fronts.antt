-- Fronts: in front of a run of commands is a command, so that no row of another kind applies there.
use Rattle.std.proofs.Common.{◌≡◌, ◌++◌, ◌∷◌, [], ℕ, List, Option, None, false, length, map, refl, ◌∙◌, ap, subst}
use Rattle.std.specs.Borrow.{Bor}
use Rattle.std.specs.Prelude.{◌==◌}
use Rattle.sf_base.specs.declared.ids.ResId.{ResId}
use Rattle.sf_base.specs.declared.ids.Var.{Var}
use Rattle.sf_base.specs.declared.place.Place.{Place}
use Rattle.sf_core.specs.declared.assertion.Test.{Test}
use Rattle.sf_core.specs.declared.command.Command.{Command as CodeCommand}
use Rattle.sf_core.specs.declared.command.Expr.{Expr}
use Rattle.sf_core.specs.Program.Syntax.{Assertion, Block, Command}
use Rattle.sf_core.specs.Program.View.{command_of}
use Rattle.sf_sym.specs.declared.goal.Item.{Item as CodeItem}
use Rattle.sf_sym.specs.declared.goal.Item.TheVariants.{Run}
use Rattle.sf_sym.specs.declared.term.Term.{Term}
use Rattle.sf_sym.specs.Goal.{Goal, Item, items_of, run}
use Rattle.sf_sym.specs.Pending.{Pending}
use Rattle.sf_sym.specs.Checked.Items.{is_nothing}
use Rattle.sf_rules.specs.Checked.Rows.Front.{at_add, at_again, at_end, at_exit, at_gave, at_head, at_return, at_take}

-- a row that applies to no command doesn't apply to a run of them
run_first : (at : List Item → Option (List Goal)) → ((c : Command) (more : List Item) → at (run c ∷ more) ≡ None)
    → (i : CodeItem) (commands : Bor (List CodeCommand)) (xs rest : List Item) → i ≡ Run commands
    → xs ≡ items_of i ++ rest → is_nothing i ≡ false → at xs ≡ None
run_first at none i commands xs rest is all some =
    ap at (all ∙ ap (λ j. items_of j ++ rest) is) ∙ go commands.now (subst (λ j. is_nothing j ≡ false) is some)
  where
    go : (cs : List CodeCommand) → (length cs == 0) ≡ false → at (map (λ c. run (command_of c)) cs ++ rest) ≡ None
    go [] e = absurd (cc)
    go (c ∷ cs) e = none (command_of c) (map (λ c. run (command_of c)) cs ++ rest)

pub no_add_at_run : (i : CodeItem) (commands : Bor (List CodeCommand)) (xs rest : List Item) → i ≡ Run commands
    → xs ≡ items_of i ++ rest → is_nothing i ≡ false
    → (row : Place → Pending → List Item → Option (List Goal)) → at_add row xs ≡ None
no_add_at_run i commands xs rest is all some row = run_first (at_add row) (λ _ _. refl) i commands xs rest is all some

pub no_take_at_run : (i : CodeItem) (commands : Bor (List CodeCommand)) (xs rest : List Item) → i ≡ Run commands
    → xs ≡ items_of i ++ rest → is_nothing i ≡ false
    → (row : Place → Pending → List (List ℕ) → List Item → Option (List Goal)) → at_take row xs ≡ None
no_take_at_run i commands xs rest is all some row = run_first (at_take row) (λ _ _. refl) i commands xs rest is all some

pub no_gave_at_run : (i : CodeItem) (commands : Bor (List CodeCommand)) (xs rest : List Item) → i ≡ Run commands
    → xs ≡ items_of i ++ rest → is_nothing i ≡ false
    → (row : Place → List (Var × Term) → List Var → List Item → Option (List Goal)) → at_gave row xs ≡ None
no_gave_at_run i commands xs rest is all some row = run_first (at_gave row) (λ _ _. refl) i commands xs rest is all some

pub no_head_at_run : (i : CodeItem) (commands : Bor (List CodeCommand)) (xs rest : List Item) → i ≡ Run commands
    → xs ≡ items_of i ++ rest → is_nothing i ≡ false
    → (row : Place → Test Expr → Assertion → Block → List Item → Option (List Goal)) → at_head row xs ≡ None
no_head_at_run i commands xs rest is all some row = run_first (at_head row) (λ _ _. refl) i commands xs rest is all some

pub no_again_at_run : (i : CodeItem) (commands : Bor (List CodeCommand)) (xs rest : List Item) → i ≡ Run commands
    → xs ≡ items_of i ++ rest → is_nothing i ≡ false
    → (row : Place → Assertion → List Item → Option (List Goal)) → at_again row xs ≡ None
no_again_at_run i commands xs rest is all some row = run_first (at_again row) (λ _ _. refl) i commands xs rest is all some

pub no_exit_at_run : (i : CodeItem) (commands : Bor (List CodeCommand)) (xs rest : List Item) → i ≡ Run commands
    → xs ≡ items_of i ++ rest → is_nothing i ≡ false
    → (row : Place → ResId → List Item → Option (List Goal)) → at_exit row xs ≡ None
no_exit_at_run i commands xs rest is all some row = run_first (at_exit row) (λ _ _. refl) i commands xs rest is all some

pub no_return_at_run : (i : CodeItem) (commands : Bor (List CodeCommand)) (xs rest : List Item) → i ≡ Run commands
    → xs ≡ items_of i ++ rest → is_nothing i ≡ false
    → (row : Place → List Assertion → List Item → Option (List Goal)) → at_return row xs ≡ None
no_return_at_run i commands xs rest is all some row = run_first (at_return row) (λ _ _. refl) i commands xs rest is all some

pub no_end_at_run : (i : CodeItem) (commands : Bor (List CodeCommand)) (xs rest : List Item) → i ≡ Run commands
    → xs ≡ items_of i ++ rest → is_nothing i ≡ false
    → (row : Place → List Item → Option (List Goal)) → at_end row xs ≡ None
no_end_at_run i commands xs rest is all some row = run_first (at_end row) (λ _ _. refl) i commands xs rest is all some
