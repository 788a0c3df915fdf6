-- The law of parts, case by case.
-- Names: each lemma has the name of the law's function.
use Rattle.sf_part.specs.Checked.Laws.{ContentsInAnyOrder, EntriesAreSteps, EventsOfPartsDiffer, ExitsAreSteps, FirstPartsAreWhole, ForksAreSteps, JoinsAreSteps, LeadsCompose, NewCellsAreAbsent, PartsInAnyOrder, PrivateEventsAreSteps, SettlingIsAStep}
use Rattle.sf_part.proofs.Firsts.{first-whole}
use Rattle.sf_part.proofs.Forks.{forks-lead, joins-lead}
use Rattle.sf_part.proofs.Leads.{leads-compose}
use Rattle.sf_part.proofs.Numbers.{cells-absent, events-differ}
use Rattle.sf_part.proofs.Settling.{settling-leads}
use Rattle.sf_part.proofs.Private.{privates-lead}
use Rattle.sf_part.proofs.Regions.{entries-lead, exits-lead}
use Rattle.sf_part.proofs.Order.{whole-focus, whole-focus_content, whole-unfocus, whole-unfocus_content}

pub parts_in_any_order : PartsInAnyOrder
unfolding PartsInAnyOrder
parts_in_any_order before after a contents c =
    (λ w. whole-focus before after a contents c w, λ w. whole-unfocus before after a contents c w)

pub contents_in_any_order : ContentsInAnyOrder
unfolding ContentsInAnyOrder
contents_in_any_order parts before after k c = (
  λ w. whole-focus_content parts before after k c w,
  λ w. whole-unfocus_content parts before
      after k c w,
)

pub private_events_are_steps : PrivateEventsAreSteps
unfolding PrivateEventsAreSteps
private_events_are_steps = privates-lead

pub entries_are_steps : EntriesAreSteps
unfolding EntriesAreSteps
entries_are_steps = entries-lead

pub exits_are_steps : ExitsAreSteps
unfolding ExitsAreSteps
exits_are_steps = exits-lead

pub forks_are_steps : ForksAreSteps
unfolding ForksAreSteps
forks_are_steps = forks-lead

pub joins_are_steps : JoinsAreSteps
unfolding JoinsAreSteps
joins_are_steps = joins-lead

pub settling_is_a_step : SettlingIsAStep
unfolding SettlingIsAStep
settling_is_a_step = settling-leads

pub events_of_parts_differ : EventsOfPartsDiffer
unfolding EventsOfPartsDiffer
events_of_parts_differ = events-differ

pub new_cells_are_absent : NewCellsAreAbsent
unfolding NewCellsAreAbsent
new_cells_are_absent = cells-absent

pub leads_compose : LeadsCompose
unfolding LeadsCompose
leads_compose = leads-compose

pub first_parts_are_whole : FirstPartsAreWhole
unfolding FirstPartsAreWhole
first_parts_are_whole = first-whole
