use Rattle.sf_core.specs.Program.ProgramView.{program_of}
use Rattle.sf_frame.specs.Frames.{frame_of}
use Rattle.sf_part.proofs.Named.{first-as, named-listed}
use Rattle.sf_part.proofs.children.frame_spots.Goals as goal

pub returns : goal.returns
returns c = λ g there.
    let p = program_of c.args.p.now.program in
    named-listed p c.args.p.now.program.formed c.args.callee (frame_of c.args.frame.now) g
    (first-as p c.args.callee (frame_of c.args.frame.now) c.requires.0 g c.requires.1 there)
    c.args.p.now.calls
    (c.sets_from_truncation.ensures p c.args.p.now.calls c.args.p.now.sets) c.own_count.result
    (c.own_count.ensures g there) c.free_in.result.now c.free_in.ensures
    c.in_ok-spots.spots.items c.add_spots.new.spots.items c.in_ok-spots.ensures
    c.in_ok-add_spots.ensures
