use Rattle.sf_region.proofs.Parted.{Rejoins, rejoins}
use Rattle.sf_core.specs.Program.ProgramView.{program_of}
use Rattle.sf_region.specs.Waits.{program_in}
use Rattle.sf_region.proofs.task.Task.tell_spent_join.Goals.{After-ended_children_may_be_taken_back}
use Rattle.sf_region.proofs.task.Task.tell_spent_join.Goals as goal

-- what the three may do here, and what the join comes to
three : (c : After-ended_children_may_be_taken_back)
    → Rejoins (program_of c.args.p.now.program) c.args.self c.args.left c.args.right
    c.self.inside.seat c.left.inside.seat c.right.inside.seat c.self.inside.part
    c.left.inside.part c.right.inside.part
three c = rejoins (program_of c.args.p.now.program) c.ended_children_may_be_taken_back.ensures
    c.args.self c.args.left c.args.right c.self.inside.seat c.left.inside.seat
    c.right.inside.seat c.self.inside.part c.left.inside.part c.right.inside.part c.self.view_is
    c.left.view_is c.right.view_is c.requires.program c.requires.children.0
    c.requires.children.1 c.self.invariant c.left.invariant c.right.invariant c.requires.rests
    c.requires.gone c.requires.left_ended c.requires.right_ended

pub tell_spent_join-requires-clause-left : goal.tell_spent_join-requires-clause-left
tell_spent_join-requires-clause-left c =
    let h = three (goal.at.tell_spent_join-requires-clause-left c).After-ended_children_may_be_taken_back in
    h.left (program_in c.args.regions.now.1) c.requires.begun

pub tell_spent_join-requires-clause-right : goal.tell_spent_join-requires-clause-right
tell_spent_join-requires-clause-right c =
    let h = three (goal.at.tell_spent_join-requires-clause-right c).After-ended_children_may_be_taken_back in
    h.right (program_in c.args.regions.now.1) c.requires.begun
