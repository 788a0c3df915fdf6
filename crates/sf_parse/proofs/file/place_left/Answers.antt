use Rattle.std.proofs.Common.{pos, arith}
use Rattle.sf_lex.specs.declared.token.Kind.TheVariants as k
use Rattle.sf_parse.proofs.Parser.Parsed.{place_at}
use Rattle.sf_parse.proofs.file.place_left.Goals as goal

pub returns : goal.returns
returns c = place_at c.args.end c.args.tokens.now c.args.left (record { kind = k.Name; value = pos 0; start = 0; end = 0; place = record { line = 0; column = 0 } }) (omega arith) c.requires
