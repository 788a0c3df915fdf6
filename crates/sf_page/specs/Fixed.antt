-- Fixed: the parts of a page that are the same in each.
-- Ours.
use Rattle.sf_page.specs.declared.fixed.Fixed.{Fixed}
use Rattle.sf_page.specs.declared.fixed.Fixed.TheVariants.{Head, Style, Script}
use Rattle.sf_page.specs.declared.fixed.TheConstants.{HEAD, STYLE, SCRIPT}
use Rattle.sf_page.specs.Markup.{Bytes}

-- the text of a fixed part
abbrev pub fixed_text : Fixed → Bytes
fixed_text Head = HEAD.now
fixed_text Style = STYLE.now
fixed_text Script = SCRIPT.now
