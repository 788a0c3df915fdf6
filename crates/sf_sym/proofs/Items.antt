-- Lists of the code's items, with the next one last.
use Rattle.std.proofs.Common.{◌≡◌, ◌==◌, true, List, [], ◌∷◌, ◌++◌, length, map, refl, sym, ap, ◌∙◌, arith}
use Rattle.sf_core.specs.declared.command.Command.{Command as CodeCommand}
use Rattle.sf_core.specs.declared.assertion.Conjunct.{Conjunct as CodeConjunct}
use Rattle.sf_core.specs.Program.View.{command_of, conjunct_of, conjuncts}
use Rattle.sf_sym.specs.declared.goal.Item.{Item as CodeItem}
use Rattle.sf_sym.specs.declared.goal.Item.TheVariants.{Run, Add, Take, Gave, Head, Again, Exit, Return, End}
use Rattle.sf_sym.specs.declared.term.Term.{Term}
use Rattle.sf_sym.specs.Goal.{Item, items_of, run, unless_none}
use Rattle.sf_sym.specs.Checked.Items.{is_nothing}

no_commands : (cs : List CodeCommand) → (length cs == 0) ≡ true → map (λ c. run (command_of c)) cs ≡ []
no_commands [] e = refl
no_commands (c ∷ cs) e = grind arith

-- an item that is nothing to do has no items
pub nothing_of : (x : CodeItem) → is_nothing x ≡ true → items_of x ≡ []
nothing_of (Run commands) e = no_commands commands.now e
nothing_of (Add p given) e = absurd (cc)
nothing_of (Take p want names) e = absurd (cc)
nothing_of (Gave p set removed) e = absurd (cc)
nothing_of (Head p test invariant body) e = absurd (cc)
nothing_of (Again p invariant) e = absurd (cc)
nothing_of (Exit p r) e = absurd (cc)
nothing_of (Return p post) e = absurd (cc)
nothing_of (End p) e = absurd (cc)

unless_none_of : (ys : List (CodeConjunct Term)) (item : Item) → length ys ≡ 0
    → unless_none (conjuncts (map (conjunct_of {E = Term}) ys)) item ≡ []
unless_none_of [] item e = refl
unless_none_of (y ∷ ys) item e = absurd (omega (arith, e))

unless_some_of : (ys : List (CodeConjunct Term)) (item : Item) → (length ys ≡ 0 → ⊥)
    → unless_none (conjuncts (map (conjunct_of {E = Term}) ys)) item ≡ item ∷ []
unless_some_of [] item e = absurd (e refl)
unless_some_of (y ∷ ys) item e = refl

-- with the item first, unless there are no conjuncts
pub unless_empty_before : (xs : List (CodeConjunct Term)) (item : Item) (rest : List Item) → length xs ≡ 0
    → rest ≡ unless_none (conjuncts (map (conjunct_of {E = Term}) xs)) item ++ rest
unless_empty_before xs item rest e = sym (ap (λ ys. ys ++ rest) (unless_none_of xs item e))

pub unless_some_before : (xs : List (CodeConjunct Term)) (item : Item) (rest all : List Item)
    → (length xs ≡ 0 → ⊥) → all ≡ item ∷ rest
    → all ≡ unless_none (conjuncts (map (conjunct_of {E = Term}) xs)) item ++ rest
unless_some_before xs item rest all e is = is ∙ sym (ap (λ ys. ys ++ rest) (unless_some_of xs item e))
