use Rattle.sf_base.proofs.Decisions.{decides}
use Rattle.sf_lex.specs.declared.fault.LexFault.TheVariants.{OutOfMemory}
use Rattle.sf_lex.specs.Reading.{AreTokens, IsFault}
use Rattle.sf_lex.proofs.Once.{once}
use Rattle.sf_lex.proofs.scan.tokens.Goals as goal

pub returns-clause-decides : goal.returns-clause-decides
returns-clause-decides c =
    let bytes = c.args.bytes.now in
    let one = once bytes in
    decides c.scan.result (λ v. v.items.items) (AreTokens bytes) (IsFault bytes) OutOfMemory one.tokens one.faults one.apart c.scan.ensures.found c.scan.ensures.refused
