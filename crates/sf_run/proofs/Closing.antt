-- The laws of runs of one task, under the names of their functions in src/laws.rt.
use Rattle.std.specs.Prelude.{ℕ, Bool, List}
use Rattle.std.proofs.Common.{subst, sym}
use Rattle.sf_run.specs.Checked.Laws.{BasesAreFree, BeginningsAreStarts, BeginningsAreUnique, EndsAreNumbered, EndsAreUnique, InitSequentialIsDecided, LoneTasksFindRegionsFree, LoneTasksProgress, NumberedEndsComeAlone, NumberedRunsReach, OutcomesAreUnique, OutcomesExist, SequentialIsDecided, SequentialRunsAreLone, SpentRunsHaveUsedAll, SpentStepsComeAlone, StartsHaveOneOutcome, UnitsStayFree, WaitingRunsTryInVain, WaitsComeAlone}
use Rattle.sf_core.proofs.Machine.InOrder.Starts.{start-in_order, reach-keeps}
use Rattle.sf_core.specs.Machine.Alone.{finished, spent, waiting, Alone}
use Rattle.sf_core.specs.Machine.Config.{Config}
use Rattle.sf_core.specs.Machine.Supplies.{has, units}
use Rattle.sf_base.specs.declared.ids.ProcId.{ProcId}
use Rattle.sf_core.specs.Program.Formed.{IsFormed}
use Rattle.sf_core.specs.Program.Syntax.{Program}
use Rattle.sf_calls.specs.FirstBreach.{Conditions}
use Rattle.sf_calls.specs.Checked.Lemmas.Broken.{first_broken}
use Rattle.sf_calls.specs.declared.breach.Breach.TheVariants.{Reentered}
use Rattle.sf_foot.specs.declared.vars.Vars.{Vars}
use Rattle.sf_foot.specs.Starting.{StartsWith, store_of}
use Rattle.sf_heap.specs.Cells.{Cells, heap_of}
use Rattle.sf_machine.specs.Beginning.{Begins}
use Rattle.sf_run.specs.Checked.Lone.{IsLone}
use Rattle.sf_run.specs.Sequential.{IsSequentialStart}
use Rattle.sf_run.proofs.Beginnings.{begin-base, begin-one, begin-same, begin-sequential, begin-start, begin-starts}
use Rattle.sf_run.proofs.Finishes.{ends-same}
use Rattle.sf_run.proofs.Lone.{reach-lone, start-lone}
use Rattle.sf_run.proofs.Numbering.{alone-numbered, end-numbered, reach-numbered, spent-spending, waiting-numbered}
use Rattle.sf_run.proofs.Outcomes.{from-one}
use Rattle.sf_run.proofs.Prefix.{end-prefix, spent-prefix, waiting-prefix}
use Rattle.sf_run.proofs.Progress.{lone-outcome, lone-progress}
use Rattle.sf_run.proofs.Regions.{NeverReenters, reach-apart, region-free, start-apart}
use Rattle.sf_run.proofs.SettingUp.{init-told}
use Rattle.sf_run.proofs.Telling.{tell-sequential}
use Rattle.sf_run.proofs.Units.{start-free, step-free}

pub outcomes_are_unique : OutcomesAreUnique
unfolding OutcomesAreUnique
outcomes_are_unique p start base count one other a b = from-one p start (units base count) one other a b

pub sequential_runs_are_lone : SequentialRunsAreLone
unfolding SequentialRunsAreLone
sequential_runs_are_lone p f store heap start c events s n r =
    reach-lone p events start c (start-lone p f store heap start s n) r

pub bases_are_free : BasesAreFree
unfolding BasesAreFree
bases_are_free p f store heap start base s b = start-free p f store heap start base s b

pub units_stay_free : UnitsStayFree
unfolding UnitsStayFree
units_stay_free p unit c d free s = step-free p unit c d free s

-- a program that meets the conditions on variables never enters a region again inside of it
conditions-never : (p : Program) → IsFormed p → Conditions p → NeverReenters p
conditions-never p formed holds f place r b = (first_broken p formed).kept holds f (Reentered place r) b

pub lone_tasks_find_regions_free : LoneTasksFindRegionsFree
unfolding LoneTasksFindRegionsFree
lone_tasks_find_regions_free p f store heap start c events r formed holds s n reached at =
    let never = conditions-never p formed holds in
    region-free p s.procedure c r never
    (reach-keeps p s.procedure events start c formed (start-in_order p f store heap start formed s) reached)
    (reach-apart p events start c never (start-apart p f store heap start s n) reached) at

pub lone_tasks_progress : LoneTasksProgress
unfolding LoneTasksProgress
lone_tasks_progress p f store heap start c events unit formed holds s n reached good free =
    let never = conditions-never p formed holds in
    lone-progress p s.procedure unit c never
    (reach-keeps p s.procedure events start c formed (start-in_order p f store heap start formed s) reached)
    good free (reach-apart p events start c never (start-apart p f store heap start s n) reached)

pub outcomes_exist : OutcomesExist
unfolding OutcomesExist
outcomes_exist p f store heap start base count formed holds s n good b =
    lone-outcome p s.procedure count base start formed (conditions-never p formed holds)
    (start-in_order p f store heap start formed s) (start-apart p f store heap start s n) good
    (start-free p f store heap start base s b)

pub starts_have_one_outcome : StartsHaveOneOutcome
unfolding StartsHaveOneOutcome OutcomesExist OutcomesAreUnique
starts_have_one_outcome p f is_fresh vars heap parts unit count formed holds sound n s above =
    let store = store_of s.beginning s.procedure vars in
    let found = outcomes_exist p f store (heap_of heap) s.config unit count formed holds s.starts
    (begin-sequential p f is_fresh vars heap parts s n)
    (λ events c r. sound f store (heap_of heap) s.config c events s.starts r)
    (begin-base p f is_fresh vars heap parts s unit above) in
    record {
      out = found.0;
      comes = record { start = s.config; begins = begin-start p f is_fresh vars heap parts s; comes = found.1 };
      only = λ other k. outcomes_are_unique p s.config unit count found.0 other found.1
          (subst (λ (z : Config). Alone p z unit count other)
          (begin-one p f is_fresh vars heap parts s k.start k.begins) k.comes);
    }

pub ends_are_unique : EndsAreUnique
unfolding EndsAreUnique
ends_are_unique p f c vars other heap more a b = ends-same p f c vars other heap more a b

pub beginnings_are_starts : BeginningsAreStarts
unfolding BeginningsAreStarts
beginnings_are_starts p f is_fresh vars heap parts c s b =
    (store_of s.beginning s.procedure vars, begin-starts p f is_fresh vars heap parts s c b)

pub beginnings_are_unique : BeginningsAreUnique
unfolding BeginningsAreUnique
beginnings_are_unique p f is_fresh vars heap c d a b = begin-same p f is_fresh vars heap c d a b

pub numbered_runs_reach : NumberedRunsReach
unfolding NumberedRunsReach
numbered_runs_reach p start c base count events n =
    reach-numbered p events start c (has (units base count)) n.supply n.run

-- where a sequential procedure begins, there is a lone task
pub begins-lone : (p : Program) (f : ProcId) (is_fresh : Bool) (vars : Vars) (heap : Cells)
    (parts : List (List ℕ)) (start : Config) → IsSequentialStart p f is_fresh
    → StartsWith p f is_fresh vars heap parts → Begins p f is_fresh vars heap start → IsLone p start
begins-lone p f is_fresh vars heap parts start n s b =
    subst (IsLone p) (sym (begin-one p f is_fresh vars heap parts s start b))
    (start-lone p f (store_of s.beginning s.procedure vars) (heap_of heap) s.config s.starts
    (begin-sequential p f is_fresh vars heap parts s n))

pub ends_are_numbered : EndsAreNumbered
unfolding EndsAreNumbered
ends_are_numbered p f is_fresh vars heap parts start c base count n s b a =
    end-numbered p start c base count
    (alone-numbered p (units base count) start (finished c)
    (begins-lone p f is_fresh vars heap parts start n s b) a)

pub numbered_ends_come_alone : NumberedEndsComeAlone
unfolding NumberedEndsComeAlone
numbered_ends_come_alone p f is_fresh vars heap parts start c base count n s b e =
    end-prefix p start c base count (begins-lone p f is_fresh vars heap parts start n s b) e

pub spent_steps_come_alone : SpentStepsComeAlone
unfolding SpentStepsComeAlone
spent_steps_come_alone p f is_fresh vars heap parts start base count used n s b e =
    spent-prefix p start base count used (begins-lone p f is_fresh vars heap parts start n s b) e

pub waits_come_alone : WaitsComeAlone
unfolding WaitsComeAlone
waits_come_alone p f is_fresh vars heap parts start c base count events unit left r n s b e going w =
    waiting-prefix p start c base count events unit left r
    (begins-lone p f is_fresh vars heap parts start n s b) e going w

pub spent_runs_have_used_all : SpentRunsHaveUsedAll
unfolding SpentRunsHaveUsedAll
spent_runs_have_used_all p f store heap start base count s n a =
    spent-spending p start base count
    (alone-numbered p (units base count) start spent (start-lone p f store heap start s n) a)

pub waiting_runs_try_in_vain : WaitingRunsTryInVain
unfolding WaitingRunsTryInVain LoneTasksFindRegionsFree
waiting_runs_try_in_vain p f store heap start base count r formed holds s n a tries =
    let k = alone-numbered p (units base count) start (waiting r) (start-lone p f store heap start s n) a in
    waiting-numbered p start base count r k
    (λ q w. lone_tasks_find_regions_free p f store heap start k.last k.events q formed holds s n
    (reach-numbered p k.events start k.last (has (units base count)) (has k.left) k.run) w.0) tries

pub sequential_is_decided : SequentialIsDecided
unfolding SequentialIsDecided
sequential_is_decided p f = tell-sequential p f

pub init_sequential_is_decided : InitSequentialIsDecided
unfolding InitSequentialIsDecided
init_sequential_is_decided p formed = init-told p formed
