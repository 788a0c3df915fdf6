-- Lists of the code's items, with the next one last.
use Rattle.std.proofs.Common.{◌≡◌, List, [], ◌∷◌, ◌++◌, map, refl, sym, ap, ◌∙◌}
use Rattle.std.specs.Borrow.{Bor}
use Rattle.sf_base.specs.declared.place.Place.{Place}
use Rattle.sf_core.specs.declared.command.Command.{Command as CodeCommand}
use Rattle.sf_core.specs.declared.ordered.Ordered.{Ordered}
use Rattle.sf_core.specs.Program.View.{assertion_of, block_of, command_of, block}
use Rattle.sf_sym.specs.declared.goal.Item.{Item as CodeItem}
use Rattle.sf_sym.specs.declared.goal.Item.TheVariants.{Run, Return}
use Rattle.sf_core.specs.declared.command.Expr.{Expr}
use Rattle.sf_rules.specs.Words.{to_take, to_take_each}
use Rattle.sf_sym.specs.declared.term.Term.{Term}
use Rattle.sf_sym.specs.Goal.{Item, to_run, run, return, todo_of}
use Rattle.sf_sym.specs.Checked.Lemmas.{todo_of_push}

pub to_run_of : (cs : List CodeCommand)
    → to_run (block (map command_of cs)) ≡ map (λ c. run (command_of c)) cs
to_run_of [] = refl
to_run_of (c ∷ cs) = ap (λ ys. run (command_of c) ∷ ys) (to_run_of cs)

-- the body's commands, and after them the return
pub run_and_return : (close : Place) (owed : Bor (List Ordered)) (commands : Bor (List CodeCommand))
    (body : List CodeCommand) (xs ys zs : List CodeItem)
    → xs ≡ [] → ys ≡ xs ++ Return close owed ∷ [] → zs ≡ ys ++ Run commands ∷ [] → commands.now ≡ body
    → todo_of zs ≡ to_run (block_of body)
    ++ (return close (map (λ o. assertion_of o.assertion) owed.now) ∷ [])
run_and_return close owed commands body xs ys zs e f g h =
    ap todo_of g ∙ todo_of_push ys (Run commands)
    ∙ ap (λ us. map (λ c. run (command_of c)) us ++ todo_of ys) h
    ∙ ap (λ us. us ++ todo_of ys) (sym (to_run_of body))
    ∙ ap (λ us. to_run (block_of body) ++ us) (ap todo_of f ∙ todo_of_push xs (Return close owed)
    ∙ ap (λ us. return close (map (λ o. assertion_of o.assertion) owed.now) ∷ todo_of us) e)

-- assertions that are shown one after the other: the last one first before what comes after them
each_last : (p : Place) (to : Expr → Term) (rest : List Ordered) (last : Ordered) (after : List Item)
    → to_take_each p to (map (λ o. assertion_of o.assertion) (rest ++ last ∷ [])) after
    ≡ to_take_each p to (map (λ o. assertion_of o.assertion) rest) (to_take p to (assertion_of last.assertion) ++ after)
each_last p to [] last after = refl
each_last p to (o ∷ rest) last after =
    ap (λ ys. to_take p to (assertion_of o.assertion) ++ ys) (each_last p to rest last after)

pub each_next : (p : Place) (to : Expr → Term) (all left rest : List Ordered) (last : Ordered)
    (after before now : List Item)
    → to_take_each p to (map (λ o. assertion_of o.assertion) all) after
    ≡ to_take_each p to (map (λ o. assertion_of o.assertion) left) before
    → left ≡ rest ++ last ∷ [] → now ≡ to_take p to (assertion_of last.assertion) ++ before
    → to_take_each p to (map (λ o. assertion_of o.assertion) all) after
    ≡ to_take_each p to (map (λ o. assertion_of o.assertion) rest) now
each_next p to all left rest last after before now e l n =
    e ∙ ap (λ os. to_take_each p to (map (λ o. assertion_of o.assertion) os) before) l
    ∙ each_last p to rest last before
    ∙ ap (to_take_each p to (map (λ o. assertion_of o.assertion) rest)) (sym n)
