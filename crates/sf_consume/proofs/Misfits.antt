-- A first field that doesn't fit is found exactly where not all fit.
-- Names: `meets-LAW` of one field, `misfit-LAW` of all.
use Rattle.std.proofs.Common.{◌≡◌, ℕ, false, get_or, is_none, is_some, Option, Some, None, List, [], ◌∷◌, refl, ap, ◌∙◌}
use Rattle.std.specs.Option.{option_and_then, option_map}
use Rattle.sf_base.specs.declared.ids.FieldId.{FieldId}
use Rattle.sf_consume.specs.declared.differing.Misfit.{Misfit}
use Rattle.sf_consume.specs.Misfit.{first_misfit, meeting_at, misfit_of, unless_fit}
use Rattle.sf_consume.specs.Subtract.{Fit, fit_existential, fit_field, fit_fields}
use Rattle.sf_core.specs.declared.assertion.Operand.{Operand}
use Rattle.sf_core.specs.declared.assertion.Operand.TheVariants.{Known, Exists}
use Rattle.sf_sym.specs.declared.term.Term.{Term}
use Rattle.sf_sym.specs.Fields.{field_term}

-- in a field that doesn't fit two things meet
meets-misfit : (f : Fit) (w : FieldId × Operand Term) → fit_field f w ≡ None → is_none (meeting_at f w) ≡ false
meets-misfit f (field, Known u) e = refl
meets-misfit f (field, Exists n) e = go (get_or f.bindings n None) e
  where
    go : (o : Option Term) → fit_existential f field n o ≡ None
        → is_none {T = Option Term × Term} (option_map (λ u. (field_term f.fields field, u)) o) ≡ false
    go (Some u) h = refl
    go None h = absurd (cc)

misfit-fields : (f : Fit) (ws : List (FieldId × Operand Term))
    → is_none (first_misfit f ws) ≡ is_some (fit_fields f ws)
misfit-fields f [] = refl
misfit-fields f (w ∷ ws) = go (λ after. misfit-fields after ws) (fit_field f w) refl
  where
    go : ((after : Fit) → is_none (first_misfit after ws) ≡ is_some (fit_fields after ws)) → (o : Option Fit)
        → fit_field f w ≡ o
        → is_none (unless_fit o (λ after. first_misfit after ws) (meeting_at f w))
        ≡ is_some (option_and_then (λ after. fit_fields after ws) o)
    go others None e = meets-misfit f w e
    go others (Some after) e = others after

none-map : (next : ℕ) (m : Option Misfit) → is_none m ≡ is_none (option_map (misfit_of next) m)
none-map next None = refl
none-map next (Some x) = refl

-- what the code finds
pub misfit-none : (next : ℕ) (f : Fit) (ws : List (FieldId × Operand Term)) (m : Option Misfit)
    → option_map (misfit_of next) m ≡ first_misfit f ws → is_none m ≡ is_some (fit_fields f ws)
misfit-none next f ws m e = none-map next m ∙ ap is_none e ∙ misfit-fields f ws
