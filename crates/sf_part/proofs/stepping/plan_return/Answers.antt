use Rattle.std.proofs.Common.{ap, ◌∙◌, [], sym}
use Rattle.sf_core.specs.Machine.Whole.{running}
use Rattle.sf_core.specs.Program.Init.{sets_up}
use Rattle.sf_core.specs.Program.ProgramView.{program_of}
use Rattle.sf_frame.specs.Checked.Nexts.{frames_with}
use Rattle.sf_part.proofs.Returning.{return-acts}
use Rattle.sf_part.proofs.stepping.plan_return.Goals as goal

pub returns : goal.returns
returns c =
    let stand = c.requires.next.1 ∙ ap running c.requires.next.2.2 in
    let init = ap (sets_up (program_of c.args.p.now)) c.requires.next.2.5
    ∙ sym c.is_init.ensures ∙ c.if-is_init.false in (
      frames_with c.requires.next.2.0 [] c.requires.next.2.1,
      stand,
      return-acts (program_of c.args.p.now) c.args.part.now c.requires.next.2.0 c.requires.next.2.1
          c.requires.next.2.4 init c.args.part.now.kept c.requires.of c.next.result c.next.ensures
          c.args.room
          c.requires.next.2.3 stand,
    )
