use Rattle.std.proofs.Common.{ap, ◌∙◌, ◌≡◌, ◌↔◌, IsTrue, subst, sym}
use Rattle.sf_core.specs.Assertions.Sat.{IsTrueOf}
use Rattle.sf_core.specs.Machine.Config.{evaluate, Fixed}
use Rattle.sf_core.specs.Machine.Whole.{running}
use Rattle.sf_core.specs.Program.View.{command_of}
use Rattle.sf_frame.specs.Frames.{fixed_of, stack_of}
use Rattle.sf_frame.specs.Stores.{store_of, together}
use Rattle.sf_part.specs.Stands.{stand_in}
use Rattle.sf_part.proofs.Guarded.{guard-next}
use Rattle.sf_part.proofs.part.Part.condition.Goals as goal

pub returns-in-Does : goal.returns-in-Does
returns-in-Does c = λ f test s.
    let stands : running (stack_of c.in-Runs.stack) ≡ running s.0 = sym (ap stand_in c.in-Runs.is)
    ∙ s.1 in
    let frames : stack_of c.in-Runs.stack ≡ s.0 = cc in
    let next = c.in-Does.ensures in
    let same = guard-next s.0 c.args.content.now.resource f (fixed_of c.in-Does.frame.now) test
    (command_of c.in-Does.command.now) next.1 next.0 (sym frames ∙ next.2) s.2 in
    let both =
    together (store_of c.args.self.now.shared.store) (store_of c.args.content.now.store) in
    subst (λ (z : Fixed). IsTrue c.guard_holds.result ↔ IsTrueOf (evaluate z.slots both) test)
    (sym same.0)
    (c.guard_holds.ensures s.2.place c.args.content.now.resource test s.2.body same.1)
