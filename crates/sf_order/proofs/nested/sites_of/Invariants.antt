use Rattle.std.proofs.Common.{◌≡◌, ◌++◌, [], drop, map}
use Rattle.std.specs.List.{flat_map}
use Rattle.sf_core.specs.Program.Heads.{sites}
use Rattle.sf_core.specs.Program.Sites.{site_of}
use Rattle.sf_order.specs.Checked.Rows.{all_sites}
use Rattle.sf_core.specs.Program.ProgramView.{program_of}
use Rattle.sf_order.proofs.nested.sites_of.Given as goal

-- those so far and those of the bodies that are left are all
abbrev pub invariant-loop-h : goal.invariant-loop-h
invariant-loop-h l =
    map site_of l.all.items ++ flat_map (λ h. sites [] h.body) (drop l.h-index (program_of l.p).procedures)
    ≡ all_sites (program_of l.p)
