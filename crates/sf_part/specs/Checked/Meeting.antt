-- Commands at which tasks meet.
-- Ordinary: a case of the command.
use Rattle.std.specs.Prelude.{◌≡◌}
use Rattle.sf_core.specs.Program.Syntax.{Command, fork, with}
use Rattle.sf_part.specs.declared.local.Local.{Local}
use Rattle.sf_part.specs.declared.local.Local.TheVariants.{AtRegion, AtFork}

-- the command is a region of that resource, or a parallel call, and the answer says so
abbrev pub IsMeeting : Command → Local → Type 0
IsMeeting (with place r test body) answer = answer ≡ AtRegion r
IsMeeting (fork place c d) answer = answer ≡ AtFork
IsMeeting _ answer = ⊥
