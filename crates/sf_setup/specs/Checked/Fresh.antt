-- Fresh: where a run begins whose resources are still to be set up.
-- O'Hearn (2007): a program with resources has a part that runs first and initializes them.
use Rattle.std.specs.Prelude.{ℕ, []}
use Rattle.sf_base.specs.declared.ids.ProcId.{ProcId}
use Rattle.sf_base.specs.HeapStore.{Heap, Store}
use Rattle.sf_core.specs.Machine.Config.{Config}
use Rattle.sf_core.specs.Machine.Start.{Start}
use Rattle.sf_core.specs.Program.Syntax.{Program}
use Rattle.sf_part.specs.Checked.LawsOfSettingUp.{IsFresh}
use Rattle.sf_part.specs.First.{First}
use Rattle.sf_part.specs.Timed.{TimedPart}

-- where a run begins: its entry, with which store and heap, in which configuration, and its units,
-- so many from a base on
pub record Origin : Type 0 where
  pub entry : ProcId
  pub store : Store
  pub heap : Heap
  pub config : Config
  pub base : ℕ
  pub count : ℕ

-- BeginsFresh: with that part a run begins there, whose resources are still to be set up
pub record BeginsFresh (p : Program) (o : Origin) (a : TimedPart) : Type 0 where
  pub start : Start p o.entry o.store o.heap o.config
  pub fresh : IsFresh start.beginning
  pub first : First p o.entry start.procedure start.beginning o.store o.heap o.base o.count a []
