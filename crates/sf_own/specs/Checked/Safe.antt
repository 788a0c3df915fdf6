-- Safe: that the part of a task is enough for its frames, however many events they make and
-- whatever the other tasks do.
-- O'Hearn (2007): a task acts on what it owns. Vafeiadis (2011) for safety that counts events.
use Rattle.std.specs.Prelude.{◌≡◌, ◌<◌, ℕ, true, cond, List, Some, None, length}
use Rattle.sf_base.specs.declared.ids.ResId.{ResId}
use Rattle.sf_core.specs.Machine.Config.{Frame}
use Rattle.sf_core.specs.Machine.Whole.{running, waiting, Part}
use Rattle.sf_core.specs.Program.Syntax.{Program}
use Rattle.sf_safe.specs.Checked.Contract.{Known}
use Rattle.sf_safe.specs.Checked.Invariant.{Running, Waiting}
use Rattle.sf_safe.specs.Checked.Own.{Own}

-- what a part owns: its cells, its slots, and the tokens of the resources that it holds
abbrev pub own_of : Part → Own
own_of a = record {
  cells = a.heap;
  slots = a.store;
  tokens = λ r. cond (a.holds r) (Some tt) None;
}

-- the part holds no resource but the program's
abbrev pub HoldsWithin : Program → Part → Type 0
HoldsWithin p a = (r : ResId) → a.holds r ≡ true → r.0 < length p.resources

-- IsSafe: the task runs, and is safe on just what its part owns, for every number of events; at its
-- end it owes what the return of that frame owes
pub record IsSafe (p : Program) (owed : Known) (a : Part) : Type 0 where
  pub within : HoldsWithin p a
  pub frames : List Frame
  pub runs : a.stand ≡ running frames
  pub safe : (events : ℕ) → Running p events owed frames (own_of a)

-- IsSafeWaiting: the task waits, and is safe on just what its part owns beside whatever its two
-- children give back, which owe what the returns of those two frames owe
pub record IsSafeWaiting (p : Program) (owed left right : Known) (a : Part) : Type 0 where
  pub within : HoldsWithin p a
  pub frames : List Frame
  pub waits : a.stand ≡ waiting frames
  pub safe : (events : ℕ) → Waiting p events owed frames left right (own_of a)

-- AreSafe: a parent that waits and its two children, which owe it what it waits for, are safe
pub record AreSafe (p : Program) (owed : Known) (parent one two : Part) : Type 0 where
  pub left : Known
  pub right : Known
  pub waits : IsSafeWaiting p owed left right parent
  pub first : IsSafe p left one
  pub second : IsSafe p right two
