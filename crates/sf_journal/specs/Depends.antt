-- DependsIn: the events of a list of which the one depends on the other, by the steps that they are where the list is
-- made.
-- Lamport (1978): happened before; Mazurkiewicz (1977): a list up to the order of what doesn't depend on one another.
use Rattle.std.specs.Prelude.{◌≡◌, List}
use Rattle.sf_core.specs.Machine.Config.{Config}
use Rattle.sf_core.specs.Machine.Step.{Event}
use Rattle.sf_core.specs.Program.Syntax.{Program}
use Rattle.sf_journal.specs.Before.{IsBefore}
use Rattle.sf_trace.specs.Trace.{Act, Depends, Traces, events_in}

-- DependsIn: a and b are events of the list, a before b, and their order counts, by the steps that they are when the
-- list is made from that start
pub record DependsIn (p : Program) (start : Config) (events : List Event) (a b : Event) : Type 0 where
  pub acts : List Act
  pub reached : Config
  pub traces : Traces p start acts reached
  pub are : events_in acts ≡ events
  pub one : Act
  pub two : Act
  pub first : one.event ≡ a
  pub second : two.event ≡ b
  pub before : IsBefore acts one two
  pub depends : Depends one two
