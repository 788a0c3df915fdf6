use Rattle.sf_region.proofs.Parted.{Rejoins, rejoins}
use Rattle.sf_core.specs.Program.ProgramView.{program_of}
use Rattle.sf_region.specs.Waits.{program_in}
use Rattle.std.proofs.Common.{subst, sym}
use Rattle.atomic_table.specs.Seated.{TableId}
use Rattle.sf_part.specs.declared.part.Part.{Part}
use Rattle.sf_region.proofs.Fresh.{fresh-joined}
use Rattle.sf_region.specs.declared.views.View.{View}
use Rattle.sf_region.specs.Meeting.{IsAtRest}
use Rattle.sf_region.proofs.task.Task.join.Goals.{After-ended_children_may_be_taken_back}
use Rattle.sf_region.proofs.task.Task.join.Goals as goal

-- what the three may do here, and what the join comes to
three : (c : After-ended_children_may_be_taken_back)
    → Rejoins (program_of c.args.p.now.program) c.args.self c.args.left c.args.right
    c.self.inside.seat c.left.inside.seat c.right.inside.seat c.self.inside.part
    c.left.inside.part c.right.inside.part
three c = rejoins (program_of c.args.p.now.program) c.ended_children_may_be_taken_back.ensures
    c.args.self c.args.left c.args.right c.self.inside.seat c.left.inside.seat
    c.right.inside.seat c.self.inside.part c.left.inside.part c.right.inside.part c.self.view_is
    c.left.view_is c.right.view_is c.requires.program c.requires.children.0
    c.requires.children.1 c.self.invariant c.left.invariant c.right.invariant c.requires.rests
    c.requires.gone c.requires.left_ended c.requires.right_ended

pub join-requires-clause-left : goal.join-requires-clause-left
join-requires-clause-left c =
    let h = three (goal.at.join-requires-clause-left c).After-ended_children_may_be_taken_back in
    h.left (program_in c.args.regions.now.1) c.requires.begun

pub join-requires-clause-right : goal.join-requires-clause-right
join-requires-clause-right c =
    let h = three (goal.at.join-requires-clause-right c).After-ended_children_may_be_taken_back in
    h.right (program_in c.args.regions.now.1) c.requires.begun

pub join-requires-2 : goal.join-requires-2
join-requires-2 c =
    let h = three (goal.at.join-requires-2 c).After-ended_children_may_be_taken_back in
    h.may c.requires.unit c.join.ensures.separate

pub invariant_of-result : goal.invariant_of-result
invariant_of-result c =
    let h = three (goal.at.invariant_of-result c).After-ended_children_may_be_taken_back in
    h.seated c.join.new.seat.1 c.join-2.new.self c.in-Ok.ensures.ok.0
    (c.in-Ok.ensures.ok.1 (program_of c.args.p.now.program)) c.join.ensures.view
    c.in-Ok.ensures.of

pub returns-in-Ok-clause-joins : goal.returns-in-Ok-clause-joins
returns-in-Ok-clause-joins c =
    let h = three (goal.at.returns-in-Ok-clause-joins c).After-ended_children_may_be_taken_back in (
      c.in-Ok.ensures.ok.0,
      h.joins c.join-2.new.self c.in-Ok.ensures.ok.0
          (c.in-Ok.ensures.ok.1 (program_of c.args.p.now.program)),
    )

pub returns-in-Ok-clause-goes : goal.returns-in-Ok-clause-goes
returns-in-Ok-clause-goes c =
    let h = three (goal.at.returns-in-Ok-clause-goes c).After-ended_children_may_be_taken_back in
    h.goes c.join-2.new.self c.in-Ok.ensures.ok.0
    (c.in-Ok.ensures.ok.1 (program_of c.args.p.now.program)) c.joins_go_on.ensures

pub returns-in-Ok-clause-fresh : goal.returns-in-Ok-clause-fresh
returns-in-Ok-clause-fresh c =
    let rest = subst (λ (z : (TableId × View) × Part). IsAtRest z.0.1 z.1) (sym c.self.view_is) c.requires.rests in
    fresh-joined (program_of c.args.p.now.program) c.in-Ok.ensures.ok.0 c.self.inside.seat.1
    c.join.new.seat.1 c.self.inside.part c.join-2.new.self c.left.inside.part
    c.right.inside.part
    (c.in-Ok.ensures.ok.1 (program_of c.args.p.now.program)) rest c.join.ensures.view
