-- The laws of the crate, under the names of their functions in src/laws.rt.
use Rattle.sf_vars.proofs.Answered.{program_answered}
use Rattle.sf_vars.proofs.Exactly.{conditions-apart, fault-once}
use Rattle.sf_vars.proofs.NothingEarlier.{nothing_earlier}
use Rattle.sf_vars.specs.Checked.Laws.{EachProgramHasAnAnswer, EachProgramHasOneAnswer, NothingComesEarlier}

pub each_program_has_an_answer : EachProgramHasAnAnswer
each_program_has_an_answer = program_answered

pub each_program_has_one_answer : EachProgramHasOneAnswer
each_program_has_one_answer = record { one_fault = fault-once; not_both = conditions-apart }

pub nothing_comes_earlier : NothingComesEarlier
nothing_comes_earlier = nothing_earlier
