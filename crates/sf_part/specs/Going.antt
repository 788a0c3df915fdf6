-- Going: how a task goes on by its own events and those of the tasks that it makes.
-- O'Hearn (2007), Brookes (2007): the actions of a task, its regions entered and left with what is
-- theirs, and its parallel calls one after the other.
use Rattle.std.specs.Prelude.{◌≡◌}
use Rattle.sf_core.specs.Machine.Step.{Event}
use Rattle.sf_core.specs.Program.Syntax.{Program}
use Rattle.sf_part.specs.Given.{Gives, IsContentOf}
use Rattle.sf_part.specs.Keeps.{Keeps}
use Rattle.sf_part.specs.Lent.{Lends}
use Rattle.sf_part.specs.Of.{IsOf}
use Rattle.sf_part.specs.Steps.{Private, Enters, Joins}
use Rattle.sf_part.specs.Timed.{TimedPart, TimedContent}

-- GoesTo: a task goes on from the one part to the other: it stays, or makes one event more of its
-- own; enters a region with a content that is just its resource's, or leaves one, and leaves just
-- that behind; or forks, with just their shares for its two children, and joins them after they have
-- gone on
pub data GoesTo (p : Program) : TimedPart → TimedPart → Type 0 where
  stays : {a b : TimedPart} → b ≡ a → GoesTo p a b
  steps : {a b c : TimedPart} (event : Event) → GoesTo p a b → Keeps b → IsOf p b.part
      → Private p event b c → GoesTo p a c
  enters : {a b c : TimedPart} (event : Event) (content : TimedContent) → GoesTo p a b
      → Enters p event b content c → IsContentOf p content.content → GoesTo p a c
  leaves : {a b c : TimedPart} (event : Event) (content : TimedContent) → GoesTo p a b
      → Gives p event b content c → GoesTo p a c
  forks : {a b c : TimedPart} (event later : Event) (waits one two left right : TimedPart)
      → GoesTo p a b → Keeps b → IsOf p b.part → Lends p event b waits one two
      → GoesTo p one left → GoesTo p two right → Joins p later waits left right c → GoesTo p a c

-- HaveGoneOn: a task has forked, and waits; and its two children have gone on since
pub record HaveGoneOn (p : Program) (before waits left right : TimedPart) : Type 0 where
  pub event : Event
  pub one : TimedPart
  pub two : TimedPart
  pub keeps : Keeps before
  pub of : IsOf p before.part
  pub lends : Lends p event before waits one two
  pub left_goes : GoesTo p one left
  pub right_goes : GoesTo p two right
