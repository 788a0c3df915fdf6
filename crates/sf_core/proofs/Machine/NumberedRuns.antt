-- The worked examples of numbered runs.
-- Names: each lemma has the name of the example's function.
use Rattle.std.specs.Prelude.{ℕ, List, [], ◌∷◌}
use Rattle.std.proofs.Common.{refl, inl, inr, arith}
use Rattle.sf_core.specs.Machine.Config.{Config}
use Rattle.sf_core.specs.Machine.Enabled.{HasEnded}
use Rattle.sf_core.specs.Program.Syntax.{Program}
use Rattle.sf_core.specs.Machine.Alone.{finished, AloneFrom}
use Rattle.sf_core.specs.Checked.Machine.NumberedExamples.{CountsAnew, CountsDescendants, EndedFinishes, EvenFork, HandedBack, NoEventsAreNumbered, NoOtherNumber, NoUnitIsSpent, NoUnitNoEvent, OddFork, ThreeUnits}
use Rattle.sf_core.specs.Machine.Supplies.{has, units}

pub three_units : ThreeUnits
unfolding ThreeUnits
three_units = refl

pub even_fork : EvenFork
unfolding EvenFork
even_fork here = (2 ∷ 3 ∷ 4 ∷ 5 ∷ [], (refl, refl), refl)

pub odd_fork : OddFork
unfolding OddFork
odd_fork here = (2 ∷ 3 ∷ 4 ∷ [], (refl, refl), refl)

pub no_other_number : NoOtherNumber
unfolding NoOtherNumber
no_other_number here after t = absurd (omega (arith, t.1.0))

pub no_unit_no_event : NoUnitNoEvent
unfolding NoUnitNoEvent
no_unit_no_event here after t = t.1

pub handed_back : HandedBack
unfolding HandedBack
handed_back = refl

pub counts_anew : CountsAnew
unfolding CountsAnew
counts_anew = refl

pub counts_descendants : CountsDescendants
unfolding CountsDescendants
counts_descendants before after = (refl, refl)

pub no_events_are_numbered : NoEventsAreNumbered
unfolding NoEventsAreNumbered
no_events_are_numbered p c base count = record { supply = has (units base count); run = (refl, refl) }

ended : (p : Program) (c : Config) (us : List ℕ) → HasEnded [] c.tasks → AloneFrom p c us (finished c)
ended p c [] h = inl (h, refl)
ended p c (u ∷ us) h = inl (h, refl)

pub ended_finishes : EndedFinishes
unfolding EndedFinishes
ended_finishes = ended

pub no_unit_is_spent : NoUnitIsSpent
unfolding NoUnitIsSpent
no_unit_is_spent p c n = inr (n, refl)
