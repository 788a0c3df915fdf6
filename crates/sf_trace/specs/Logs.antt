-- Logs: what a log says of the events of a run: which there were, and in which order they may have
-- been.
-- Lamport (1978): stamps by clocks that are consistent with what happened before.
use Rattle.std.specs.Prelude.{◌≡◌, ◌⊎◌, ◌<◌, ℕ, true, List, [], ◌∷◌, map, Contains}
use Rattle.std.specs.List.Sorted.{IsPermutation}
use Rattle.sf_core.specs.Machine.Config.{Config}
use Rattle.sf_core.specs.Machine.Next.{Next, returns}
use Rattle.sf_core.specs.Machine.Step.{Event}
use Rattle.sf_core.specs.Program.Init.{sets_up}
use Rattle.sf_core.specs.Program.Syntax.{Program}
use Rattle.sf_part.specs.Timed.{Stamped}
use Rattle.sf_trace.specs.Trace.{Act, Depends, Traces, events_in}

-- an act with its stamp
pub record Timed : Type 0 where
  pub act : Act
  pub stamp : ℕ

-- the acts alone
abbrev pub acts_in : List Timed → List Act
acts_in timed = map (λ (x : Timed). x.act) timed

-- what a log says of an act: its stamp, its task and its number
abbrev pub entry_of : Timed → Stamped
entry_of x = record { stamp = x.stamp; task = x.act.event.task; number = x.act.event.number }

-- the procedure that sets the resources up returns, after which they are free
abbrev pub FreesAll : Program → Next → Type 0
FreesAll p (returns f below) = sets_up p f.procedure ≡ true
FreesAll p _ = ⊥

-- Precedes: the order of two counts, the first being the earlier; or one of them is the return of the
-- procedure that sets the resources up, which comes after all that it does and before all else
abbrev pub Precedes : Program → Act → Act → Type 0
Precedes p a b = Depends a b ⊎ (FreesAll p a.what ⊎ FreesAll p b.what)

-- Rising: of two such the later has the greater stamp
abbrev pub Rising : Program → List Timed → Type 0
Rising p [] = Unit {0}
Rising p (x ∷ timed) =
    ((y : Timed) → Contains timed y → Precedes p x.act y.act → x.stamp < y.stamp) × Rising p timed

-- IsLogOf: the log is of these events, which lead from the one configuration to the other: it has
-- just one entry for each, in some order, and their stamps rise where their order counts
pub record IsLogOf (p : Program) (c : Config) (events : List Event) (d : Config)
    (log : List Stamped) : Type 0 where
  pub timed : List Timed
  pub are : events_in (acts_in timed) ≡ events
  pub traces : Traces p c (acts_in timed) d
  pub entries : IsPermutation (map entry_of timed) log
  pub rising : Rising p timed
