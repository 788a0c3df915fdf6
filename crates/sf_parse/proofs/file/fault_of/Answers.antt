use Rattle.std.proofs.Common.{inr}
use Rattle.sf_parse.proofs.Parser.Parsed.{left_within, deep_within, unexpected_there, too_deep_there}
use Rattle.sf_parse.proofs.file.fault_of.Goals as goal

pub place_left-requires : goal.place_left-requires
place_left-requires c = left_within c.args.tokens.now c.in-Unexpected.left (rw c.in-Unexpected.is at c.requires)

pub place_left-requires-in-TooDeep : goal.place_left-requires-in-TooDeep
place_left-requires-in-TooDeep c = deep_within c.args.tokens.now c.in-TooDeep.left (rw c.in-TooDeep.is at c.requires)

pub returns-in-Unexpected : goal.returns-in-Unexpected
returns-in-Unexpected c = inr (unexpected_there c.args.end c.args.tokens.now c.in-Unexpected.left c.place_left.result (rw c.in-Unexpected.is at c.requires) c.place_left.ensures)

pub returns-in-TooDeep : goal.returns-in-TooDeep
returns-in-TooDeep c = inr (too_deep_there c.args.end c.args.tokens.now c.in-TooDeep.left c.place_left-in-TooDeep.result (rw c.in-TooDeep.is at c.requires) c.place_left-in-TooDeep.ensures)
