-- Proven: tags that prove a program which the code has arranged.
-- This project's own notion: which function puts annotations in order is left open, since no more than one does.
use Rattle.std.specs.Prelude.{List}
use Rattle.sf_core.specs.Program.Syntax.{Assertion}
use Rattle.sf_precise.specs.declared.arranged.Arranged.{Arranged}
use Rattle.sf_precise.specs.Order.{IsOrdering}
use Rattle.sf_rules.specs.Proving.{Proves}
use Rattle.sf_rules.specs.Setting.{setting_of}
use Rattle.sf_sym.specs.declared.tag.Tag.{Tag}

-- Proven: the tags prove the program, its annotations put in order by some function that does
abbrev pub Proven : Arranged → List Tag → Type 0
Proven arranged tags =
    (in_order : Assertion → Assertion) × IsOrdering in_order × Proves (setting_of in_order arranged) tags
