-- What is known where a run's tasks have come to their ends, or one has stopped before.
-- O'Hearn (2007): at the end each resource has its invariant, and the program's task what is its own.
use Rattle.std.specs.Prelude.{◌≡◌, List, [], ◌∷◌, map}
use Rattle.sf_base.specs.declared.ids.ProcId.{ProcId}
use Rattle.sf_core.specs.Machine.Config.{Config}
use Rattle.sf_core.specs.Machine.Whole.{Whole}
use Rattle.sf_core.specs.Program.Syntax.{Program}
use Rattle.sf_foot.specs.declared.start.Finish.{Finish}
use Rattle.sf_machine.specs.Ending.{Ends}
use Rattle.sf_part.specs.declared.content.Content.{Content}
use Rattle.sf_part.specs.declared.log.Log.{Log}
use Rattle.sf_part.specs.Parts.{entry_of}
use Rattle.sf_part.specs.Timed.{TimedPart}
use Rattle.sf_region.specs.declared.views.Begun.{Begun}
use Rattle.sf_region.specs.Plays.{Finished}
use Rattle.sf_region.specs.Waits.{Missed, contents_in}
use Rattle.sf_threads.specs.declared.stop.Stop.{Stop}
use Rattle.sf_threads.specs.declared.stop.Stop.TheVariants.{Steps, Waits, OutOfMemory}

-- IsClosed: the table that began so was closed with that part and these contents, and wherever they
-- are all there is, the run ends with what was answered; and the log is the part's
pub record IsClosed (p : Program) (f : ProcId) (b : Begun) (a : TimedPart) (finish : Finish)
    (log : Log) : Type 0 where
  pub contents : List Content
  pub finished : Finished b a contents
  pub ends : (c : Config) → Whole (a.part ∷ []) (contents_in contents) c
      → Ends p f c finish.vars finish.heap
  pub logged : map entry_of log.entries.items ≡ a.log

-- where a task has tried a region so often, its misses have their places
abbrev pub HasPlaces : Stop → Type 0
HasPlaces (Steps path used) = Unit {0}
HasPlaces (Waits path r misses) = Missed misses.begun misses.task misses.resource misses.count
HasPlaces OutOfMemory = Unit {0}
