-- The branch of a choice in the choice's place.
use Rattle.std.proofs.Common.{◌≡◌, Bool, true, false, cond, List, [], ◌∷◌, ◌++◌, Some, None, Vec, Global, map, refl, sym, ap, ◌∙◌}
use Rattle.std.specs.Option.{option_and_then}
use Rattle.sf_base.specs.declared.place.Place.{Place}
use Rattle.sf_core.specs.declared.assertion.Conjunct.{Conjunct as CodeConjunct}
use Rattle.sf_core.specs.declared.assertion.Conjunct.TheFolds.{fold-roll-Conjunct, fold_out-Level}
use Rattle.sf_core.specs.declared.assertion.Conjunct.TheVariants.{If, rolls-If}
use Rattle.sf_core.specs.declared.assertion.Level.{Level as CodeLevel}
use Rattle.sf_core.specs.declared.assertion.Operand.{Operand}
use Rattle.sf_core.specs.declared.assertion.Test.{Test}
use Rattle.sf_core.specs.declared.command.Command.{Command as CodeCommand, If as CodeIf}
use Rattle.sf_core.specs.declared.command.Command.TheVariants.{rolls-If as choice-rolls}
use Rattle.sf_core.specs.declared.command.Command.TheFolds.{fold-roll-Command}
use Rattle.sf_core.specs.declared.command.Expr.{Expr}
use Rattle.sf_core.specs.Program.Syntax.{Command, Conjunct, Conjuncts, Level, level, also, choose, if}
use Rattle.sf_core.specs.Program.View.{block, command_of, command_step, conjunct_of, conjuncts, level_of, conjunct_step, level_step}
use Rattle.sf_sym.specs.Decided.{command_test, is_decided, test_of_terms}
use Rattle.sf_sym.specs.Goal.{Item, one_goal, run, to_run}
use Rattle.sf_sym.specs.declared.term.Term.{Term}
use Rattle.sf_sym.specs.Pending.{Given, before, conjuncts_of, pending_of, with_branch}
use Rattle.sf_sym.specs.State.{State, term}
use Rattle.sf_rules.specs.Checked.Rows.Branches.{branch_row, chosen}
use Rattle.sf_rules.proofs.Items.{to_run_of}

-- conjuncts one after the other
before_is : (xs ys : List (CodeConjunct Term))
    → conjuncts (map (conjunct_of {E = Term}) (xs ++ ys))
    ≡ before (conjuncts (map (conjunct_of {E = Term}) xs)) (conjuncts (map (conjunct_of {E = Term}) ys))
before_is [] ys = refl
before_is (x ∷ xs) ys = ap (also (conjunct_of {E = Term} x)) (before_is xs ys)

-- a level is its scope and its conjuncts
level_is : (l : CodeLevel Term)
    → level_of {E = Term} l ≡ level l.made (conjuncts (map (conjunct_of {E = Term}) l.conjuncts.items))
level_is l = fold_out-Level Term (Conjunct Term) (Level Term) conjunct_step level_step l

-- so is a choice
view_if : (p : Place) (t : Test (Operand Term)) (this that : CodeLevel Term)
    → conjunct_of {E = Term} (If p t this that) ≡ choose p t (level_of {E = Term} this) (level_of {E = Term} that)
view_if p t this that =
    ap (conjunct_of {E = Term}) (sym (rolls-If p t this that))
    ∙ fold-roll-Conjunct Term (Conjunct Term) (Level Term) conjunct_step level_step _

branch_is : (so : Bool) (this that branch : CodeLevel Term) → branch ≡ cond so this that
    → conjuncts_of (cond so (level_of {E = Term} this) (level_of {E = Term} that))
    ≡ conjuncts (map (conjunct_of {E = Term}) branch.conjuncts.items)
branch_is true this that branch e =
    ap conjuncts_of (level_is this)
    ∙ ap (λ (l : CodeLevel Term). conjuncts (map (conjunct_of {E = Term}) l.conjuncts.items)) (sym e)
branch_is false this that branch e =
    ap conjuncts_of (level_is that)
    ∙ ap (λ (l : CodeLevel Term). conjuncts (map (conjunct_of {E = Term}) l.conjuncts.items)) (sym e)

-- a choice that is decided so, and what was put in its place
pub chosen_is : (so : Bool) (s : State) (old new : Given) (p : Place) (t : Test (Operand Term))
    (this that branch : CodeLevel Term) (c : CodeConjunct Term) (rest : List (CodeConjunct Term)) (test : Test Term)
    → old.conjuncts ≡ c ∷ rest → c ≡ If p t this that → test_of_terms old.bindings t ≡ Some test
    → is_decided so s test ≡ true → branch ≡ cond so this that → new.conjuncts ≡ branch.conjuncts.items ++ rest
    → new.bindings ≡ old.bindings
    → Some (pending_of new) ≡ chosen so s (pending_of old) (pending_of old).conjuncts
chosen_is so s old new p t this that branch c rest test o i e d b n k =
    let tail : Conjuncts Term = conjuncts (map (conjunct_of {E = Term}) rest) in
    let here : new.conjuncts ≡ branch.conjuncts.items ++ rest = n in
    let made : conjuncts (map (conjunct_of {E = Term}) new.conjuncts)
    ≡ before (conjuncts_of (cond so (level_of {E = Term} this) (level_of {E = Term} that))) tail =
    ap (λ (xs : List (CodeConjunct Term)). conjuncts (map (conjunct_of {E = Term}) xs)) here
    ∙ before_is branch.conjuncts.items rest
    ∙ ap (λ (cs : Conjuncts Term). before cs tail) (sym (branch_is so this that branch b)) in
    let now : Some (pending_of new)
    ≡ Some (with_branch (pending_of old) (cond so (level_of {E = Term} this) (level_of {E = Term} that)) tail) =
    λ j. Some (record { conjuncts = made j; bindings = k j }) in
    let by_test : option_and_then (λ x. cond (is_decided so s x) (Some (with_branch (pending_of old)
    (cond so (level_of {E = Term} this) (level_of {E = Term} that)) tail)) None) (test_of_terms old.bindings t)
    ≡ Some (with_branch (pending_of old) (cond so (level_of {E = Term} this) (level_of {E = Term} that)) tail) =
    ap (option_and_then (λ x. cond (is_decided so s x) (Some (with_branch (pending_of old)
    (cond so (level_of {E = Term} this) (level_of {E = Term} that)) tail)) None)) e
    ∙ ap (λ (u : Bool). cond u (Some (with_branch (pending_of old)
    (cond so (level_of {E = Term} this) (level_of {E = Term} that)) tail)) None) d in
    now ∙ sym by_test
    ∙ ap (λ (x : Conjunct Term). chosen so s (pending_of old) (also x tail)) (sym (view_if p t this that))
    ∙ ap (λ (xs : List (CodeConjunct Term)). chosen so s (pending_of old) (conjuncts (map (conjunct_of {E = Term}) xs)))
    (sym (o ∙ ap (λ (x : CodeConjunct Term). x ∷ rest) i))

-- a command that is decided so, and its branch in its place
pub command_is : (so : Bool) (s : State) (p : Place) (t : Test Expr) (this that branch : List CodeCommand)
    (rest todo : List Item) → is_decided so s (command_test (term s.vars) t) ≡ true → branch ≡ cond so this that
    → todo ≡ map (λ c. run (command_of c)) branch ++ rest
    → Some (record { state = s; todo = todo } ∷ [])
    ≡ branch_row so s (run (if p t (block (map command_of this)) (block (map command_of that))) ∷ rest)
command_is true s p t this that branch rest todo d b e =
    ap (λ ys. Some (record { state = s; todo = ys } ∷ []))
    (e ∙ ap (λ ys. ys ++ rest) (ap (map (λ c. run (command_of c))) b ∙ sym (to_run_of this)))
    ∙ sym (ap (λ (u : Bool). cond u (one_goal s (to_run (block (map command_of this)) ++ rest)) None) d)
command_is false s p t this that branch rest todo d b e =
    ap (λ ys. Some (record { state = s; todo = ys } ∷ []))
    (e ∙ ap (λ ys. ys ++ rest) (ap (map (λ c. run (command_of c))) b ∙ sym (to_run_of that)))
    ∙ sym (ap (λ (u : Bool). cond u (one_goal s (to_run (block (map command_of that)) ++ rest)) None) d)

-- how a command is read that is a choice
pub choice_view : (p : Place) (t : Test Expr) (this that : Vec CodeCommand Global)
    → command_of (CodeIf p t this that) ≡ if p t (block (map command_of this.items)) (block (map command_of that.items))
choice_view p t this that =
    ap command_of (sym (choice-rolls p t this that)) ∙ fold-roll-Command Command command_step _
