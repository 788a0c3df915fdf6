-- The existentials that conjuncts take from the scopes around them, listed conjunct by conjunct.
use Rattle.std.proofs.Common.{◌≡◌, ℕ, not, List, [], ◌∷◌, ◌++◌, map, filter, Vec, Global, refl, sym, ap, ap₂, ◌∙◌}
use Rattle.std.specs.List.{AllZip, flat_map}
use Rattle.std.proofs.lemmas.List.Elements.{filter-append}
use Rattle.sf_core.specs.declared.assertion.Level.{Level as CodeLevel, out-Level}
use Rattle.sf_core.specs.declared.assertion.Scope.{Scope}
use Rattle.sf_core.specs.declared.command.Expr.{Expr}
use Rattle.sf_core.specs.Assertions.Scopes.{is_made_by}
use Rattle.sf_core.specs.Program.Syntax.{Conjunct}
use Rattle.sf_core.specs.Program.View.{conjunct_of, conjuncts, level_of}
use Rattle.sf_precise.specs.Checked.Outer.{outer_of, outer_of_all, outer_of_level}
use Rattle.sf_precise.proofs.Views.{view-level}

-- those of each conjunct that the scope does not make are those of all of them
flat-outer : {A B : Type 0} (made : Scope) (f : A → Conjunct Expr) (g : B → List ℕ) (cs : List A)
    (ls : List B)
    → AllZip (λ c l. g l ≡ outer_of (f c)) cs ls
    → flat_map (λ l. filter (λ n. not (is_made_by made n)) (g l)) ls
    ≡ filter (λ n. not (is_made_by made n)) (outer_of_all (conjuncts (map f cs)))
flat-outer made f g [] [] a = refl
flat-outer made f g [] (l ∷ ls) a = absurd a
flat-outer made f g (c ∷ cs) [] a = absurd a
flat-outer made f g (c ∷ cs) (l ∷ ls) a =
    ap₂ ◌++◌ (ap (filter (λ n. not (is_made_by made n))) a.0) (flat-outer made f g cs ls a.1)
    ∙ sym
    (filter-append (λ n. not (is_made_by made n)) (outer_of (f c))
    (outer_of_all (conjuncts (map f cs))))

-- the same for a level of the code
pub level-outer : (b : CodeLevel Expr) (ls : List (Vec ℕ Global))
    → AllZip (λ c l. l.items ≡ outer_of (conjunct_of c)) (out-Level Expr b).conjuncts.items ls
    → flat_map (λ l. filter (λ n. not (is_made_by (out-Level Expr b).made n)) l.items) ls
    ≡ outer_of_level (level_of b)
level-outer b ls a =
    flat-outer (out-Level Expr b).made conjunct_of (λ l. l.items) (out-Level Expr b).conjuncts.items ls a
    ∙ ap outer_of_level (sym (view-level b))
