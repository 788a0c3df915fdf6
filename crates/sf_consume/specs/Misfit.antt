-- Where a wanted cell doesn't fit a cell: its first field that doesn't, what is there, and what is wanted.
-- Berdine, Calcagno, O'Hearn, "Symbolic Execution with Separation Logic" (2005), section 5: subtraction.
use Rattle.std.specs.Prelude.{ℕ, ◌+◌, get_or, Option, Some, None, List, [], ◌∷◌}
use Rattle.std.specs.Option.{option_map}
use Rattle.sf_base.specs.declared.ids.FieldId.{FieldId}
use Rattle.sf_core.specs.declared.assertion.Operand.{Operand}
use Rattle.sf_core.specs.declared.assertion.Operand.TheVariants.{Known, Exists}
use Rattle.sf_sym.specs.declared.term.Term.{Term}
use Rattle.sf_sym.specs.declared.term.Term.TheVariants.{Sym}
use Rattle.sf_sym.specs.Fields.{field_term}
use Rattle.sf_consume.specs.declared.differing.Misfit.{Misfit}
use Rattle.sf_consume.specs.declared.meeting.Met.{Met}
use Rattle.sf_consume.specs.declared.meeting.Met.TheVariants.{Known as MetKnown, Fresh}
use Rattle.sf_consume.specs.Subtract.{Fit, fit_field}

-- the term that a wanted field is to have, and None for an existential without a term
abbrev pub due : Fit → Operand Term → Option Term
due f (Known u) = Some u
due f (Exists n) = get_or f.bindings n None

-- what is in the field, where that is known, and what is wanted there
abbrev pub meeting_at : Fit → FieldId × Operand Term → Option (Option Term × Term)
meeting_at f w = option_map (λ u. (field_term f.fields w.0, u)) (due f w.1)

-- what is there, or the next
abbrev pub unless_fit : {X : Type 0} → Option Fit → (Fit → X) → X → X
unless_fit None next here = here
unless_fit (Some after) next here = next after

-- what meets in the first wanted field that doesn't fit
abbrev pub first_misfit : Fit → List (FieldId × Operand Term) → Option (Option Term × Term)
first_misfit f [] = None
first_misfit f (w ∷ ws) = unless_fit (fit_field f w) (λ after. first_misfit after ws) (meeting_at f w)

-- the term that was met, where new symbols are numbered from `next` on
abbrev pub met_term : (next : ℕ) → Met → Term
met_term next (MetKnown t) = t
met_term next (Fresh n) = Sym (next + n)

-- a misfit as its two terms
abbrev pub misfit_of : (next : ℕ) → Misfit → Option Term × Term
misfit_of next m = (option_map (met_term next) m.there, met_term next m.wanted)
