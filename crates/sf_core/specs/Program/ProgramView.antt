-- A whole program of the code as the program of the definitions.
-- Apart from the views of its parts, since the program's own invariant cites those.
use Rattle.sf_core.specs.declared.program.Program.{Program as CodeProgram}
use Rattle.sf_core.specs.Program.Syntax.{Program}
use Rattle.sf_core.specs.Program.View.{program_with}

-- a program of the code
abbrev pub program_of : CodeProgram → Program
program_of p = program_with p.fields.items p.resources.items p.procedures.items
