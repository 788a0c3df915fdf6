-- The conjuncts of an assertion, made flat one after the other.
use Rattle.std.proofs.Common.{◌≡◌, List, [], ◌∷◌, ◌++◌, map, sym, ◌∙◌, ap, append-nil, append_assoc}
use Rattle.sf_ast.specs.Surface as s
use Rattle.sf_ast.specs.View.{conjuncts, conjunct_of, assertion_of, conjunct_step, assertion_step}
use Rattle.sf_ast.specs.declared.assertion.SurfaceAssertion.{SurfaceAssertion}
use Rattle.sf_ast.specs.declared.assertion.SurfaceConjunct.TheFolds as folds
use Rattle.sf_elab.specs.Annotations.Flat.{Flat, flat, flat_all}

-- those of a list of conjuncts
abbrev pub flat_rest : List s.Conjunct → List Flat
flat_rest [] = []
flat_rest (c ∷ cs) = flat c ++ flat_rest cs

all_are : (c : s.Conjunct) (cs : List s.Conjunct) → flat_all (conjuncts c cs) ≡ flat c ++ flat_rest cs
all_are c [] = sym (append-nil (flat c))
all_are c (d ∷ ds) = ap (λ xs. flat c ++ xs) (all_are d ds)

-- after the first conjunct are those of the others
pub flat_pushed : (before after : List Flat) (a : SurfaceAssertion) → after ≡ before ++ flat (conjunct_of a.first.value) → after ++ flat_rest (map conjunct_of a.more.items) ≡ before ++ flat_all (assertion_of a)
flat_pushed before after a p =
    let c : s.Conjunct = conjunct_of a.first.value in
    let cs : List s.Conjunct = map conjunct_of a.more.items in
    let is : assertion_of a ≡ conjuncts c cs = folds.fold_out-SurfaceAssertion _ _ conjunct_step assertion_step a in
    ap (λ xs. xs ++ flat_rest cs) p ∙ append_assoc before (flat c) (flat_rest cs) ∙ ap (λ xs. before ++ xs) (sym (all_are c cs)) ∙ ap (λ t. before ++ flat_all t) (sym is)
