use Rattle.std.proofs.Common.{◌≡◌, ◌∙◌, ap, refl, sym, true≢false}
use Rattle.sf_core.specs.Program.ProgramView.{program_of}
use Rattle.sf_part.specs.Contents.{content_of}
use Rattle.sf_part.specs.Going.{enters, stays}
use Rattle.sf_region.specs.declared.views.View.{View}
use Rattle.sf_region.specs.Waits.{program_in}
use Rattle.sf_region.proofs.Seating.{may-enter, may-refuse, may-try, seated-in, seated-lost, seated-seen}
use Rattle.sf_region.proofs.Trying.{IsPlaced, got-exactly, placed, ready}
use Rattle.sf_region.proofs.task.Task.try_region.Goals.{After-make_room}
use Rattle.sf_region.proofs.task.Task.try_region.Goals as goal

-- the task where it stands, with room in its log
here : (c : After-make_room)
    → IsPlaced (program_of c.args.p.now.program) c.args.self c.self.inside.seat.1
    c.make_room.new.self
here c = placed (program_of c.args.p.now.program) c.args.self c.self.inside.seat
    c.self.inside.part c.make_room.new.self c.self.view_is c.self.invariant c.requires.program
    c.make_room.ensures.same (c.make_room.ensures.of (program_of c.args.p.now.program))

pub try_enter-requires-clause-may : goal.try_enter-requires-clause-may
try_enter-requires-clause-may c =
    let p = program_of c.args.p.now.program in
    let a = c.make_room.new.self in
    let v = c.self.inside.seat.1 in
    let h = here (goal.at.try_enter-requires-clause-may c).After-make_room in
    let at = ready c.regions_are_outside.ensures p c.args.p.now.program.formed
    (c.conditions_from_truncation.ensures p c.args.p.now.conditions) c.args.self v a c.args.r h
    c.requires.region c.requires.unit in
    may-try p v a h.here h.seated (program_in c.args.regions.now.1) c.args.r c.requires.begun
    at.below at.stands at.outside at.unit

pub invariant_of-result : goal.invariant_of-result
invariant_of-result c =
    let p = program_of c.args.p.now.program in
    let a = c.make_room.new.self in
    let v = c.self.inside.seat.1 in
    let h = here (goal.at.invariant_of-result c).After-make_room in
    seated-lost p v c.try_enter.new.seat.1 c.args.r a a h.here (c.in-Held.ensures.tells).0 refl
    h.of

pub returns-in-Held-clause-goes : goal.returns-in-Held-clause-goes
returns-in-Held-clause-goes c =
    let h = here (goal.at.returns-in-Held-clause-goes c).After-make_room in
    stays h.back

pub condition-requires-clause-of : goal.condition-requires-clause-of
condition-requires-clause-of c =
    let h = here (goal.at.condition-requires-clause-of c).After-make_room in
    h.of

pub enter-requires-clause-of : goal.enter-requires-clause-of
enter-requires-clause-of c =
    let h = here (goal.at.enter-requires-clause-of c).After-make_room in
    h.of

pub enter-requires-clause-may : goal.enter-requires-clause-may
enter-requires-clause-may c =
    let p = program_of c.args.p.now.program in
    let a = c.make_room.new.self in
    let v = c.self.inside.seat.1 in
    let h = here (goal.at.enter-requires-clause-may c).After-make_room in
    let at = ready c.regions_are_outside.ensures p c.args.p.now.program.formed
    (c.conditions_from_truncation.ensures p c.args.p.now.conditions) c.args.self v a c.args.r h
    c.requires.region c.requires.unit in
    may-enter v.begun a c.args.r c.in-Entered.content (c.in-Entered.ensures.tells).1 at.stands
    at.outside at.unit (λ f test is. (c.condition.ensures f test is).0 c.if-condition.true)

pub invariant_of-result-in-Ok : goal.invariant_of-result-in-Ok
invariant_of-result-in-Ok c =
    let p = program_of c.args.p.now.program in
    let a = c.make_room.new.self in
    let v = c.self.inside.seat.1 in
    let h = here (goal.at.invariant_of-result-in-Ok c).After-make_room in
    let e = c.in-Ok.ensures.ok in
    seated-in p v c.try_enter.new.seat.1 a a c.enter.new.self c.in-Entered.content e.0 h.here refl
    (c.in-Entered.ensures.tells).0 e.1 c.enter.ensures.of

pub returns-in-Ok-clause-goes : goal.returns-in-Ok-clause-goes
returns-in-Ok-clause-goes c =
    let p = program_of c.args.p.now.program in
    let a = c.make_room.new.self in
    let v = c.self.inside.seat.1 in
    let h = here (goal.at.returns-in-Ok-clause-goes c).After-make_room in
    let e = c.in-Ok.ensures.ok in
    enters e.0 (content_of c.in-Entered.content) (stays h.back) e.1
    (got-exactly p v a c.args.r c.in-Entered.content h.here (c.in-Entered.ensures.tells).1)

pub leave-requires-clause-may : goal.leave-requires-clause-may
leave-requires-clause-may c =
    let p = program_of c.args.p.now.program in
    let a = c.make_room.new.self in
    let v = c.self.inside.seat.1 in
    let h = here (goal.at.leave-requires-clause-may c).After-make_room in
    let at = ready c.regions_are_outside.ensures p c.args.p.now.program.formed
    (c.conditions_from_truncation.ensures p c.args.p.now.conditions) c.args.self v a c.args.r h
    c.requires.region c.requires.unit in
    may-refuse p v a h.here h.seated c.try_enter.new.seat.1 a (program_in c.args.regions.now.1)
    c.args.r c.in-Entered.content c.requires.begun refl (c.in-Entered.ensures.tells).0
    (c.in-Entered.ensures.tells).1 at.below
    (λ f test is holds. true≢false
    (sym ((c.condition.ensures f test is).1 holds) ∙ c.if-condition.false))

pub invariant_of-result-else-condition : goal.invariant_of-result-else-condition
invariant_of-result-else-condition c =
    let p = program_of c.args.p.now.program in
    let a = c.make_room.new.self in
    let h = here (goal.at.invariant_of-result-else-condition c).After-make_room in
    let begun : program_in c.try_enter.new.seat.1.begun ≡ p =
    ap (λ (z : View). program_in z.begun) (c.in-Entered.ensures.tells).0 ∙ h.here in
    seated-seen p c.try_enter.new.seat.1 c.leave.new.seat.1 a a begun c.leave.ensures.view refl
    h.of

pub returns-clause-goes : goal.returns-clause-goes
returns-clause-goes c =
    let h = here (goal.at.returns-clause-goes c).After-make_room in
    stays h.back
