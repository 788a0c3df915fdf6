-- Assigned: the variables that commands may change.
-- The modified variables of Hoare logic, where a call changes the variables that its references name and
-- those that are free in its procedure.
use Rattle.std.specs.Prelude.{◌⊎◌}
use Rattle.sf_base.specs.declared.ids.Var.{Var}
use Rattle.sf_core.specs.Program.Formed.{BlockWithin}
use Rattle.sf_core.specs.Program.Heads.{Somewhere, head_sets}
use Rattle.sf_core.specs.Program.Syntax.{Block, Call, Procedure, Program}
use Rattle.sf_calls.specs.Conditions.{Free}
use Rattle.sf_calls.specs.Outside.{IsAmong, Makes}

-- the call may change it: one of its references names it, or it is free in its procedure
abbrev pub MayChange : Program → Call → Var → Type 0
MayChange p c x = IsAmong x c.references ⊎ Free p c.callee x

-- one of the commands of a block, or one inside them, sets it, or makes a call that may change it
abbrev pub Assigned : Program → Block → Var → Type 0
Assigned p b x = Somewhere (λ s. IsAmong x (head_sets s.command) ⊎ Makes s.command (λ d. MayChange p d x)) b

-- the commands are in order in the program, as those of its bodies are
abbrev pub AreInOrderIn : Program → Block → Type 0
AreInOrderIn p b = (f : Procedure) × BlockWithin p f b
