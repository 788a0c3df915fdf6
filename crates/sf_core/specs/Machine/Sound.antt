-- IsSound: each run of a program, from each start and in each interleaving, is good at each moment.
-- Brookes (2007), Vafeiadis (2011): what soundness of concurrent separation logic says.
use Rattle.std.specs.Prelude.{List}
use Rattle.sf_base.specs.declared.ids.ProcId.{ProcId}
use Rattle.sf_base.specs.HeapStore.{Heap, Store}
use Rattle.sf_core.specs.Machine.Config.{Config}
use Rattle.sf_core.specs.Machine.Good.{Good}
use Rattle.sf_core.specs.Machine.Reach.{Reach}
use Rattle.sf_core.specs.Machine.Start.{Start}
use Rattle.sf_core.specs.Machine.Step.{Event}
use Rattle.sf_core.specs.Program.Syntax.{Program}

-- IsSound: every procedure, from every store and heap that it may start from, and by every list of
-- events, is only ever in good configurations
abbrev pub IsSound : Program → Type 0
IsSound p = (f : ProcId) (store : Store) (heap : Heap) (start reached : Config)
    (events : List Event) → Start p f store heap start → Reach p start events reached
    → Good p reached
