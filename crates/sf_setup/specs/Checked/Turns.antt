-- What a turn of a task that goes on alone comes to.
-- Ordinary: a case of the answer.
use Rattle.sf_core.specs.Program.Syntax.{Program}
use Rattle.sf_part.specs.declared.part.Part.{Part}
use Rattle.sf_setup.specs.Checked.Alone.{HasCome, HasMoved}
use Rattle.sf_setup.specs.declared.alone.Turned.{Turned}
use Rattle.sf_setup.specs.declared.alone.Turned.TheVariants.{Moves, Stands}

-- it has gone on, or has come to where it stands
abbrev pub HasTurned : Program → Part → Turned → Type 0
HasTurned p a (Moves b) = HasMoved p a b
HasTurned p a (Stands b) = HasCome p a b
