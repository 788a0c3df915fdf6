use Rattle.std.proofs.Common.{◌∙◌, ◌++◌, ap₂, map}
use Rattle.sf_core.specs.Machine.Config.{Path}
use Rattle.sf_machine.specs.declared.task.Task.{Task}
use Rattle.sf_machine.specs.Paths.{paths_of}
use Rattle.sf_machine.specs.Tasks.{task_of}
use Rattle.sf_machine.proofs.TaskPaths.{listed_waits}
use Rattle.sf_machine.proofs.listing.+add_paths.Goals as goal

pub returns-in_ok-add_paths-2 : goal.returns-in_ok-add_paths-2
returns-in_ok-add_paths-2 t c = rw c.in-Waits.is (listed_waits c.args.path
    (paths_of (task_of c.in-Waits.left.value)) (paths_of (task_of c.in-Waits.right.value))
    c.args.paths.now.items c.push.new.self.items c.add_paths.new.paths.items
    c.add_paths-in-Waits.new.paths.items c.in_ok-push.ensures.items
    (c.in_ok-add_paths.ensures ∙ ap₂ (λ (x : Path) (y : Task). c.push.new.self.items
    ++ map (λ q. x ++ q) (paths_of (task_of y))) c.child.ensures c.as_ref.ensures)
    (c.in_ok-add_paths-2.ensures ∙ ap₂ (λ (x : Path) (y : Task). c.add_paths.new.paths.items
    ++ map (λ q. x ++ q) (paths_of (task_of y))) c.child-in-Waits.ensures c.as_ref-in-Waits.ensures))
