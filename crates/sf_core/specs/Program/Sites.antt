-- How the code's sites are read as the sites of the definitions.
-- Nothing is lost and nothing is computed here.
use Rattle.sf_core.specs.declared.walk.Site.{Site as CodeSite}
use Rattle.sf_core.specs.Program.Heads.{Site}
use Rattle.sf_core.specs.Program.View.{command_of}

-- a site of the code
abbrev pub site_of : CodeSite → Site
site_of s = record { entered = s.entered.items; command = command_of s.command.now }
