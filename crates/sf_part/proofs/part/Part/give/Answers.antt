use Rattle.std.proofs.Common.{Err, ap, ◌≡◌, length, subst}
use Rattle.sf_core.specs.Program.ProgramView.{program_of}
use Rattle.sf_part.specs.declared.fault.PartFault.TheVariants.{NoFootprint}
use Rattle.sf_part.specs.Checked.Stepping.{own_event}
use Rattle.sf_part.specs.Leaving.{HasNoContent}
use Rattle.sf_part.specs.PartView.{part_of}
use Rattle.sf_part.proofs.Exits.{exit-at, exit-content, exit-gives, exit-none, exit-of, exit-one, exit-there}
use Rattle.sf_part.proofs.part.Part.give.Goals as goal

pub resource_share-requires : goal.resource_share-requires
resource_share-requires c = exit-there (program_of c.args.p.now.program) c.args.p.now.program.formed
    c.args.self.now c.requires.of c.exit_of-r.result
    (exit-at c.args.self.now c.exit_of-r.result c.exit_of-r.ensures)

pub returns-in-Err-clause-none : goal.returns-in-Err-clause-none
returns-in-Err-clause-none c = λ e r h.
    let p = program_of c.args.p.now.program in
    let same : c.exit_of-r.result ≡ r =
    exit-one c.args.self.now c.exit_of-r.result r c.exit_of-r.ensures h in
    subst (HasNoContent p (part_of c.args.self.now).part) same
    (exit-none p c.args.self.now c.exit_of-r.result (c.in-Err.ensures.none
    (let fault : c.in-Err.fault ≡ NoFootprint = cc in ap Err fault)))

pub returns-in-Ok-clause-ok : goal.returns-in-Ok-clause-ok
returns-in-Ok-clause-ok c =
    let p = program_of c.args.p.now.program in
    let given = c.given_up.ensures.given in (
      own_event c.args.self.now given.0,
      exit-gives p c.args.p.now.program.formed c.args.self.now c.requires.of c.exit_of-r.result
          (exit-at c.args.self.now c.exit_of-r.result c.exit_of-r.ensures)
          (c.conditions_from_truncation.ensures p c.args.p.now.conditions) c.given_up.new.self
          c.given_up.result given.0 c.in-Ok.share c.in-Ok.ensures.ok given.1 given.2,
    )

pub returns-in-Ok-clause-content : goal.returns-in-Ok-clause-content
returns-in-Ok-clause-content c =
    let p = program_of c.args.p.now.program in
    let given = c.given_up.ensures.given in
    exit-content p c.args.p.now.program.formed c.args.self.now c.requires.of c.exit_of-r.result
    (exit-at c.args.self.now c.exit_of-r.result c.exit_of-r.ensures)
    (c.conditions_from_truncation.ensures p c.args.p.now.conditions) c.given_up.new.self
    c.given_up.result given.0 c.in-Ok.share c.in-Ok.ensures.ok given.1 given.2
    (c.given_up.ensures.content_width (length p.fields) c.requires.of.wide)

pub returns-in-Ok-clause-of : goal.returns-in-Ok-clause-of
returns-in-Ok-clause-of c =
    let p = program_of c.args.p.now.program in
    let given = c.given_up.ensures.given in
    exit-of p c.args.p.now.program.formed c.args.self.now c.requires.of c.exit_of-r.result
    (exit-at c.args.self.now c.exit_of-r.result c.exit_of-r.ensures)
    (c.conditions_from_truncation.ensures p c.args.p.now.conditions) c.given_up.new.self
    c.given_up.result given.0 c.in-Ok.share c.in-Ok.ensures.ok given.1 given.2
    (c.given_up.ensures.width (length p.fields) c.requires.of.wide)
