-- Going: how a task goes on alone, at no region, and by which events in which order.
-- O'Hearn (2007), Brookes (2007): the actions of a task, its parallel calls as if the left child
-- came first.
use Rattle.std.specs.Prelude.{◌≡◌, List, [], ◌∷◌, ◌++◌}
use Rattle.sf_core.specs.Machine.Step.{Event}
use Rattle.sf_core.specs.Program.Syntax.{Program}
use Rattle.sf_part.specs.Keeps.{Keeps}
use Rattle.sf_part.specs.Lent.{Lends}
use Rattle.sf_part.specs.Of.{IsOf}
use Rattle.sf_part.specs.Steps.{Private, Joins}
use Rattle.sf_part.specs.Timed.{TimedPart}

-- GoesBy: a task goes on from the one part to the other by these events: it stays, by none; makes
-- one event more of its own; or forks, with just their shares for its two children, and joins them:
-- after the fork come the events of the left child, then those of the right one, then the join
pub data GoesBy (p : Program) : TimedPart → List Event → TimedPart → Type 0 where
  stays : {a b : TimedPart} {all : List Event} → all ≡ [] → b ≡ a → GoesBy p a all b
  steps : {a c : TimedPart} {all : List Event} (b : TimedPart) (events : List Event) (event : Event)
      → GoesBy p a events b → Keeps b → IsOf p b.part → Private p event b c
      → all ≡ events ++ event ∷ [] → GoesBy p a all c
  forks : {a c : TimedPart} {all : List Event} (b waits one two left right : TimedPart)
      (events first second : List Event) (event later : Event)
      → GoesBy p a events b → Keeps b → IsOf p b.part → Lends p event b waits one two
      → GoesBy p one first left → GoesBy p two second right → Joins p later waits left right c
      → all ≡ events ++ event ∷ (first ++ (second ++ later ∷ [])) → GoesBy p a all c
