use Rattle.sf_cli.proofs.Refused.{refused-by, refused-tokens, refused-grammar, refused-names}
use Rattle.sf_cli.specs.FileFault.{ReadFault}
use Rattle.sf_cli.proofs.reading.read.Goals as goal

pub returns-in_err-tokens-clause-refused : goal.returns-in_err-tokens-clause-refused
returns-in_err-tokens-clause-refused c =
    refused-by c.from_residual.result (ReadFault c.args.bytes.now) _ c.from_residual.ensures.1 (refused-tokens c.args.bytes.now c.in_err-tokens.field-0.0 c.in_err-tokens.ensures.decides.refused)

pub returns-in_err-file-clause-refused : goal.returns-in_err-file-clause-refused
returns-in_err-file-clause-refused c =
    let bytes = c.args.bytes.now in
    let tokens = c.in_ok-tokens.tokens in
    refused-by c.from_residual-in_err-file.result (ReadFault bytes) _ c.from_residual-in_err-file.ensures.1
    (refused-grammar bytes tokens.end tokens.items.items c.in_err-file.field-0.0 c.in_ok-tokens.ensures.decides.found c.in_ok-tokens.ensures.end c.in_err-file.ensures.refused)

pub returns-in_err-elaborate-clause-refused : goal.returns-in_err-elaborate-clause-refused
returns-in_err-elaborate-clause-refused c =
    let bytes = c.args.bytes.now in
    let tokens = c.in_ok-tokens.tokens in
    refused-by c.from_residual-in_err-elaborate.result (ReadFault bytes) _ c.from_residual-in_err-elaborate.ensures.1
    (refused-names bytes tokens.items.items _ c.in_err-elaborate.field-0.0 c.in_ok-tokens.ensures.decides.found c.in_ok-file.ensures.found c.in_err-elaborate.ensures.refused)
