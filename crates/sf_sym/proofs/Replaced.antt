-- A symbol is replaced in what is kept the other way round: the next conjunct last, the next item last.
-- Names: `reversed` speaks of such a list.
use Rattle.std.proofs.Common.{◌≡◌, List, [], ◌∷◌, ◌++◌, map, reverse, refl, sym, ap, ◌∙◌}
use Rattle.std.specs.List.{flat_map}
use Rattle.std.proofs.lemmas.List.{map-append, reverse-append}
use Rattle.std.proofs.lemmas.List.Folds.{flat_map-map}
use Rattle.sf_core.specs.declared.assertion.Conjunct.{Conjunct as CodeConjunct}
use Rattle.sf_core.specs.declared.command.Command.{Command as CodeCommand}
use Rattle.sf_core.specs.Program.View.{command_of, conjunct_of, conjuncts}
use Rattle.sf_sym.specs.declared.goal.Item.{Item as CodeItem}
use Rattle.sf_sym.specs.declared.term.Term.{Term}
use Rattle.sf_sym.specs.Equalities.{item_with}
use Rattle.sf_sym.specs.Goal.{run, items_of}
use Rattle.sf_sym.specs.Mapped.{conjunct_with, conjuncts_with}
use Rattle.sf_sym.proofs.Conjuncts.{conjuncts_with-map}

reversed-map : {X Y : Type 0} (f : X → Y) (xs : List X) → map f (reverse xs) ≡ reverse (map f xs)
reversed-map f [] = refl
reversed-map f (x ∷ xs) =
    ap (map f) (reverse-append (x ∷ []) xs) ∙ map-append f (reverse xs) (x ∷ [])
    ∙ ap (λ ys. ys ++ f x ∷ []) (reversed-map f xs) ∙ sym (reverse-append (f x ∷ []) (map f xs))

-- what is mapped where it is viewed is mapped from the other end too
reversed-viewed : {X Y : Type 0} (view : X → Y) (f : Y → Y) (xs ys : List X)
    → map view ys ≡ map f (map view xs) → map view (reverse ys) ≡ map f (map view (reverse xs))
reversed-viewed view f xs ys e =
    reversed-map view ys ∙ ap reverse e ∙ sym (reversed-map f (map view xs))
    ∙ ap (map f) (sym (reversed-map view xs))

-- conjuncts, the next one last
pub reversed_conjuncts : (to : Term → Term) (xs ys : List (CodeConjunct Term))
    → map conjunct_of ys ≡ map (conjunct_with to) (map conjunct_of xs)
    → conjuncts (map conjunct_of (reverse ys)) ≡ conjuncts_with to (conjuncts (map conjunct_of (reverse xs)))
reversed_conjuncts to xs ys e =
    ap conjuncts (reversed-viewed conjunct_of (conjunct_with to) xs ys e)
    ∙ conjuncts_with-map to (map conjunct_of (reverse xs))

-- conjuncts that are the same one by one, the next one last
pub reversed_conjuncts_same : (xs ys : List (CodeConjunct Term)) → map conjunct_of ys ≡ map conjunct_of xs
    → conjuncts (map (conjunct_of {E = Term}) (reverse ys)) ≡ conjuncts (map (conjunct_of {E = Term}) (reverse xs))
reversed_conjuncts_same xs ys e =
    ap conjuncts (reversed-map conjunct_of ys ∙ ap reverse e ∙ sym (reversed-map conjunct_of xs))

-- things to do that are the same one by one, the next one last
pub reversed_same : (xs ys : List CodeItem) → map items_of ys ≡ map items_of xs
    → flat_map items_of (reverse ys) ≡ flat_map items_of (reverse xs)
reversed_same xs ys e =
    sym (flat_map-map (λ z. z) items_of (reverse ys))
    ∙ ap (flat_map (λ z. z)) (reversed-map items_of ys ∙ ap reverse e ∙ sym (reversed-map items_of xs))
    ∙ flat_map-map (λ z. z) items_of (reverse xs)

flat-map : {X Y : Type 0} (f : X → Y) (zs : List (List X))
    → flat_map (λ z. z) (map (map f) zs) ≡ map f (flat_map (λ z. z) zs)
flat-map f [] = refl
flat-map f (z ∷ zs) =
    ap (λ r. map f z ++ r) (flat-map f zs) ∙ sym (map-append f z (flat_map (λ z. z) zs))

-- things to do, the next one last
pub reversed_items : (to : Term → Term) (xs ys : List CodeItem)
    → map items_of ys ≡ map (map (item_with to)) (map items_of xs)
    → flat_map items_of (reverse ys) ≡ map (item_with to) (flat_map items_of (reverse xs))
reversed_items to xs ys e =
    sym (flat_map-map (λ z. z) items_of (reverse ys))
    ∙ ap (flat_map (λ z. z)) (reversed-viewed items_of (map (item_with to)) xs ys e)
    ∙ flat-map (item_with to) (map items_of (reverse xs))
    ∙ ap (map (item_with to)) (flat_map-map (λ z. z) items_of (reverse xs))

-- commands have no terms
pub run-same : (to : Term → Term) (cs : List CodeCommand)
    → map (λ c. run (command_of c)) cs ≡ map (item_with to) (map (λ c. run (command_of c)) cs)
run-same to [] = refl
run-same to (c ∷ cs) = ap (λ items. run (command_of c) ∷ items) (run-same to cs)
