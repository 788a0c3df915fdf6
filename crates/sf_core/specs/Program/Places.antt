-- The place of a command in the text.
-- Ordinary: each command keeps the place of its first token.
use Rattle.sf_base.specs.declared.place.Place.{Place}
use Rattle.sf_core.specs.Program.Syntax.{Command, assign, look_up, mutate, new, dispose, if, while, call, fork, with}

-- the place of a command's first token
abbrev pub place_of : Command → Place
place_of (assign p x e) = p
place_of (look_up p x e field) = p
place_of (mutate p e field d) = p
place_of (new p x) = p
place_of (dispose p e) = p
place_of (if p t c d) = p
place_of (while p t a c) = p
place_of (call p c) = p
place_of (fork p c d) = p
place_of (with p r t c) = p
