use Rattle.std.proofs.Common.{◌∙◌, ◌++◌, ◌-◌, List, ap₂, length, map, subst, sym}
use Rattle.std.proofs.lemmas.List.{map-id}
use Rattle.sf_base.specs.declared.limits.TheConstants.{TURNS}
use Rattle.sf_core.specs.Checked.Machine.InOrder.{HasTurns}
use Rattle.sf_core.specs.Machine.Config.{Path}
use Rattle.sf_core.specs.Program.ProgramView.{program_of}
use Rattle.sf_machine.specs.Configs.{config_of}
use Rattle.sf_machine.specs.Paths.{paths_of}
use Rattle.sf_machine.specs.Tasks.{task_of}
use Rattle.sf_machine.proofs.Enabling.{in_order}
use Rattle.sf_machine.proofs.listing.paths.Goals as goal

pub add_paths-requires : goal.add_paths-requires
add_paths-requires c =
    subst (λ (z : Path). HasTurns (TURNS - length z) (task_of c.args.c.now.tasks)) (sym c.entry.ensures)
    (in_order (program_of c.args.p.now) (config_of c.args.c.now) c.args.p.now.formed c.requires).depth

pub returns : goal.returns
returns c = c.in_ok-add_paths.ensures
    ∙ ap₂ (λ (xs : List Path) (x : Path). xs ++ map (λ q. x ++ q) (paths_of (task_of c.args.c.now.tasks)))
    c.new-paths.ensures.items c.entry.ensures
    ∙ map-id (paths_of (task_of c.args.c.now.tasks))
