-- A procedure's body, as the code has it: what it spells, how deep it is nested.
-- The language is that of Berdine, Calcagno and O'Hearn, "Smallfoot" (2005), in this project's own profile.
use Rattle.std.specs.Prelude.{List, ◌∷◌, map, Option}
use Rattle.sf_base.specs.declared.limits.TheConstants.{NESTING}
use Rattle.sf_ast.specs.declared.word.Word.{Word}
use Rattle.sf_ast.specs.Surface as s
use Rattle.sf_ast.specs.View as v
use Rattle.sf_parse.specs.Leaf.{Leaf}
use Rattle.sf_parse.specs.Leaf as k
use Rattle.sf_parse.specs.declared.item.Body.{Body}
use Rattle.sf_parse.specs.Grammar as g
use Rattle.sf_parse.specs.Nearest.{CommandsNearest}
use Rattle.sf_parse.specs.Nesting.{CommandsWithin}

-- its names
abbrev pub locals_of : Body → List s.Names
locals_of b = map v.names_of b.locals.items

-- its commands
abbrev pub commands_of : Body → s.Commands
commands_of b = v.commands (map v.command_of b.commands.items)

-- "{" { "local" names ";" } { command } "}"
abbrev pub body : Body → List Leaf → List Leaf
body b r = k.OpenBrace b.open ∷ g.locals (locals_of b) (g.commands (commands_of b) (k.CloseBrace b.close ∷ r))

-- its commands have the first level
abbrev pub BodyWithin : Body → List Leaf → Type 0
BodyWithin b r = CommandsWithin (commands_of b) 0 NESTING (k.CloseBrace b.close ∷ r)

-- each `else` in it belongs to the nearest `if`
abbrev pub BodyNearest : Body → Type 0
BodyNearest b = CommandsNearest (commands_of b)

-- the procedure that has it
abbrev pub procedure_with : Word → s.Parameters → Option s.Note → Body → Option s.Note → s.Procedure
procedure_with name parameters pre b post = record {
  name = name;
  parameters = parameters;
  pre = pre;
  opens = b.open;
  locals = locals_of b;
  body = commands_of b;
  closes = b.close;
  post = post;
}
