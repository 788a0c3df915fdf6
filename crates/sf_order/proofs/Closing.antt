-- The laws of the crate, under the names of their functions in src/laws.rt.
use Rattle.sf_order.specs.Checked.Laws.{EachProgramIsOrdered, RankedHaveNoCycle, RanksRise, ResourcesAreListedOnce}
use Rattle.sf_order.proofs.Listed.{listed-one, listed-some}
use Rattle.sf_order.proofs.Rising.{ranking-no_cycle, ranking-rises}
use Rattle.sf_order.proofs.Uniqueness.{is_ordered}

pub ranked_have_no_cycle : RankedHaveNoCycle
ranked_have_no_cycle pairs count ranks b k = ranking-no_cycle pairs count ranks b k

pub ranks_rise : RanksRise
ranks_rise pairs count ranks b k = ranking-rises pairs count ranks b k

pub each_program_is_ordered : EachProgramIsOrdered
each_program_is_ordered p formed = is_ordered p formed

pub resources_are_listed_once : ResourcesAreListedOnce
resources_are_listed_once count ranks = record {
  one = listed-one ranks count;
  some = listed-some ranks count;
}
