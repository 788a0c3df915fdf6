use Rattle.std.proofs.Common.{map}
use Rattle.std.specs.Prelude.{slice_get}
use Rattle.sf_base.proofs.Results.{ok-both}
use Rattle.sf_core.specs.Program.ProgramView.{program_of}
use Rattle.sf_part.specs.Parts.{entry_of}
use Rattle.sf_cli.proofs.RunReplies.{told-alone, told-end}
use Rattle.sf_cli.proofs.journal.say_end.Goals as goal

pub returns-then-kept : goal.returns-then-kept
returns-then-kept c =
    let p = program_of c.args.arranged.now.program in
    let said = c.in_ok-said.said in
    ok-both c.with_events.result _ _ _
    (λ more t s. told-end p (slice_get p.procedures c.args.f.0) c.args.kept c.args.end.now.vars c.args.end.now.heap
    (map entry_of c.args.log.entries.items) said.text.items more.text.items said.status more.status c.if-kept.true
    c.in_ok-said.ensures t s) c.with_events.ensures.text c.with_events.ensures.status

pub returns-else-kept : goal.returns-else-kept
returns-else-kept c =
    let p = program_of c.args.arranged.now.program in
    told-alone p (slice_get p.procedures c.args.f.0) c.args.kept c.args.end.now.vars c.args.end.now.heap
    (map entry_of c.args.log.entries.items) c.in_ok-said.said.text.items c.in_ok-said.said.status c.if-kept.false
    c.in_ok-said.ensures
