use Rattle.std.proofs.Common.{ap, ◌∙◌, length, sym}
use Rattle.std.proofs.lemmas.List.{length-replicate}
use Rattle.sf_base.specs.declared.value.Value.TheVariants.{Nil as nil}
use Rattle.sf_core.specs.Program.ProgramView.{program_of}
use Rattle.sf_frame.specs.Stores.{is_among}
use Rattle.sf_part.specs.Checked.Stepping.{own_event}
use Rattle.sf_part.specs.Given.{is_variable_of}
use Rattle.sf_part.proofs.Entrance.{enter-of, made-enters, made-standing, made-stands, on-ok}
use Rattle.sf_part.proofs.part.Part.enter.Goals as goal

pub entered-requires-clause-spots : goal.entered-requires-clause-spots
entered-requires-clause-spots c = λ slot h.
    ap (λ z. is_among z slot) c.as_slice.ensures.value ∙ c.in-Ok.ensures slot
    ∙ ap (λ n. is_variable_of c.args.content.resource n slot)
    (c.variable_count-count.ensures c.requires.content.resource c.requires.content.there)
    ∙ sym (c.requires.content.variables slot) ∙ h

pub entered-requires-clause-runs : goal.entered-requires-clause-runs
entered-requires-clause-runs c =
    let s = made-standing c.args.self.now c.args.content c.requires.may in
    made-stands c.args.self.now.stand _ s.below s.stand

pub returns-clause-ok : goal.returns-clause-ok
returns-clause-ok c = on-ok c.entered.result c.entered.ensures.ok (λ h. (
  own_event c.args.self.now h.0,
  made-enters (program_of c.args.p.now) c.args.p.now.formed c.args.self.now c.entered.new.self
      c.args.content h.0
      c.requires.of c.requires.content c.requires.may h.1 h.2
      (made-standing c.args.self.now c.args.content c.requires.may),
))

pub returns-clause-of : goal.returns-clause-of
returns-clause-of c = enter-of (program_of c.args.p.now) c.args.p.now.formed c.args.self.now
    c.entered.new.self
    c.args.content c.requires.of c.requires.content c.requires.may c.entered.result
    c.entered.ensures.ok
    c.entered.ensures.err c.entered.ensures.blank
    (c.entered.ensures.width (length (program_of c.args.p.now).fields)
    (ap length c.requires.of.blank ∙ length-replicate _ nil) c.requires.content.wide
    c.requires.of.wide)
