-- Reorders: lists of the same events that keep what depends on one another in order, and what they lead to.
-- Mazurkiewicz (1977): all lists of one trace lead to one state.
use Rattle.std.specs.Prelude.{◌≡◌, List, [], ◌∷◌, None, Contains, IsPermutation}
use Rattle.sf_core.specs.Machine.Config.{Config}
use Rattle.sf_core.specs.Machine.Next.{Next, does, leaves, returns, joins, nothing, next}
use Rattle.sf_core.specs.Machine.Step.{Event, Step}
use Rattle.sf_core.specs.Program.Syntax.{Command, assign, look_up, mutate, new, dispose, if, while, call, fork, with, Program}
use Rattle.sf_journal.specs.Before.{IsBefore}
use Rattle.sf_journal.specs.Depends.{DependsIn}

-- the other list has the same events, and each two of which the one depends on the other in the same order
pub record Reorders (p : Program) (start : Config) (events others : List Event) : Type 0 where
  pub same : IsPermutation events others
  pub agrees : (a b : Event) → DependsIn p start events a b → IsBefore others a b

-- the command makes a cell
abbrev pub CommandIsNew : Command → Type 0
CommandIsNew (assign place x e) = ⊥
CommandIsNew (look_up place x e g) = ⊥
CommandIsNew (mutate place e g v) = ⊥
CommandIsNew (new place x) = Unit {0}
CommandIsNew (dispose place e) = ⊥
CommandIsNew (if place test this that) = ⊥
CommandIsNew (while place test kept body) = ⊥
CommandIsNew (call place c) = ⊥
CommandIsNew (fork place c d) = ⊥
CommandIsNew (with place r test body) = ⊥

-- the next step makes a cell
abbrev pub IsNew : Next → Type 0
IsNew (does f below c rest) = CommandIsNew c
IsNew (leaves f below r rest) = ⊥
IsNew (returns f below) = ⊥
IsNew (joins frames one two) = ⊥
IsNew nothing = ⊥

-- the events lead from the one configuration to the other, and each cell that one of them makes stands at the event's
-- number
abbrev pub ReachesByNumbers : Program → Config → List Event → Config → Type 0
ReachesByNumbers p c [] d = d ≡ c
ReachesByNumbers p c (event ∷ events) d = (between : Config) × (s : Step p event c between)
    × (IsNew (next s.from) → event.at ≡ event.number) × ReachesByNumbers p between events d

-- no event's number is a location of the heap
abbrev pub AreUnlocated : Config → List Event → Type 0
AreUnlocated c events = (event : Event) → Contains events event → c.common.heap event.number ≡ None
