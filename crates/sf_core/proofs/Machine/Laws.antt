-- The laws of the machine: each from the lemmas of its subject.
-- Names: each lemma has the name of the law's function.
use Rattle.sf_core.proofs.Machine.Commute.{step-commute}
use Rattle.sf_core.proofs.Machine.Determinism.{step-unique}
use Rattle.sf_core.proofs.Machine.Frames.{part-step, whole-step}
use Rattle.sf_core.proofs.Machine.GoodParts.{good-by_parts}
use Rattle.sf_core.proofs.Machine.InOrder.Kept.{step-keeps}
use Rattle.sf_core.proofs.Machine.InOrder.Met.{used-there, exit-held, task-may_stop}
use Rattle.sf_core.proofs.Machine.InOrder.Starts.{start-in_order, reach-keeps}
use Rattle.sf_core.proofs.Machine.Locality.{goes-local}
use Rattle.sf_core.proofs.Machine.Progress.{enabled-or_stop, step-stopped}
use Rattle.sf_core.proofs.Machine.RaceFree.{race_free-commute}
use Rattle.sf_core.proofs.Machine.Runs.{reach-cut, reach-join, reach-numbers}
use Rattle.sf_core.proofs.Machine.Steps.{next-footprint}
use Rattle.sf_core.proofs.Machine.Tasks.{enabled-diverge, ended-no_event, step-enabled, step-frames}
use Rattle.sf_core.specs.Machine.Next.{next}
use Rattle.sf_core.specs.Checked.GoodParts.{PartsMakeGood}
use Rattle.sf_core.specs.Checked.Machine.Laws.{ExitsAreOfHeldResources, OrderedTasksStopOnlyThere, RaceFreeStepsCommute, ReachedConfigsAreInOrder, StepsKeepOrder, UsedSlotsAreThere, EnabledTasksDiverge, EnabledTasksProgress, EndedRunsStop, OnlyEnabledTasksStep, RunsCompose, StepsAreDeterministic, StepsAreLocal, StepsAreMonotone, StepsCommute, StepsHaveFrames, StepsFrameOtherTasks, StepsWriteOnlyTheirFootprint, StoppedTasksDoNotStep, UsedNumbersGrow}

pub steps_write_only_their_footprint : StepsWriteOnlyTheirFootprint
unfolding StepsWriteOnlyTheirFootprint
steps_write_only_their_footprint p event s t task u d = next-footprint p event s t (next task) u d

pub steps_are_local : StepsAreLocal
unfolding StepsAreLocal
steps_are_local p event s t other task u d agrees = goes-local p event s t other (next task) u d agrees

pub steps_commute : StepsCommute
unfolding StepsCommute
steps_commute = step-commute

pub steps_are_monotone : StepsAreMonotone
unfolding StepsAreMonotone
steps_are_monotone p event whole part after cells variables task u h o d =
    part-step p event whole part cells variables (next task) h o after u d

pub steps_have_frames : StepsHaveFrames
unfolding StepsHaveFrames
steps_have_frames p event whole part after cells variables task u h o safe d =
    whole-step p event whole part cells variables (next task) h o after u safe d

pub steps_are_deterministic : StepsAreDeterministic
unfolding StepsAreDeterministic
steps_are_deterministic p event before after other s r = step-unique p event before after other s r

pub used_numbers_grow : UsedNumbersGrow
unfolding UsedNumbersGrow
used_numbers_grow p events before after r = reach-numbers p events before after r

pub runs_compose : RunsCompose
unfolding RunsCompose
runs_compose p events more before after = (
  λ r. reach-cut p events more before after r,
  λ k. reach-join p events more before k.0 after k.1 k.2,
)

pub steps_frame_other_tasks : StepsFrameOtherTasks
unfolding StepsFrameOtherTasks
steps_frame_other_tasks p event before after s = step-frames p event before after s

pub only_enabled_tasks_step : OnlyEnabledTasksStep
unfolding OnlyEnabledTasksStep
only_enabled_tasks_step p event before after s = step-enabled p event before after s

pub ended_runs_stop : EndedRunsStop
unfolding EndedRunsStop
ended_runs_stop p event before after h s = ended-no_event p event before after h s

pub parts_make_good : PartsMakeGood
unfolding PartsMakeGood
parts_make_good p now never s ends = good-by_parts p now never s ends

pub enabled_tasks_diverge : EnabledTasksDiverge
unfolding EnabledTasksDiverge
enabled_tasks_diverge now path other task another e f n = enabled-diverge now path other task another e f n

pub enabled_tasks_progress : EnabledTasksProgress
unfolding EnabledTasksProgress
enabled_tasks_progress = enabled-or_stop

pub stopped_tasks_do_not_step : StoppedTasksDoNotStep
unfolding StoppedTasksDoNotStep
stopped_tasks_do_not_step = step-stopped

pub steps_keep_order : StepsKeepOrder
unfolding StepsKeepOrder
steps_keep_order p entry event before after formed o s = step-keeps p entry event before after formed o s

pub reached_configs_are_in_order : ReachedConfigsAreInOrder
unfolding ReachedConfigsAreInOrder
reached_configs_are_in_order p f store heap start now events formed s r =
    reach-keeps p s.procedure events start now formed (start-in_order p f store heap start formed s) r

pub used_slots_are_there : UsedSlotsAreThere
unfolding UsedSlotsAreThere
used_slots_are_there p entry now path task slot o e h = used-there p entry now path o task slot e h

pub exits_are_of_held_resources : ExitsAreOfHeldResources
unfolding ExitsAreOfHeldResources
exits_are_of_held_resources p entry now path f below r rest o e = exit-held p entry now path o f below r rest e

pub ordered_tasks_stop_only_there : OrderedTasksStopOnlyThere
unfolding OrderedTasksStopOnlyThere
ordered_tasks_stop_only_there p entry now path task o e s = task-may_stop p entry now path o task e s

pub race_free_steps_commute : RaceFreeStepsCommute
unfolding RaceFreeStepsCommute
race_free_steps_commute = race_free-commute
