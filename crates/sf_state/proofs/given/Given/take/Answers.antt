use Rattle.sf_state.proofs.Keeping.{taken-nothing}
use Rattle.sf_state.proofs.given.Given.take.Goals as goal

pub returns-in-Nothing : goal.returns-in-Nothing
returns-in-Nothing c = λ es n k.
    taken-nothing c.args.p.now.fields.items c.args.names.now c.args.self.now es c.args.entry k c.in-Nothing.is
