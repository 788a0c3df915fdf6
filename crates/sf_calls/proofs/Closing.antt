-- The laws of the crate, under the names of their functions in src/laws.rt.
use Rattle.sf_calls.specs.Checked.Lemmas.OneBreach.{conditions_had, one_breach}
use Rattle.sf_calls.specs.Checked.Laws.{ConditionsFromTruncation, FirstBreachIsBroken, FirstBreachIsUnique, FreeIsLeast, SetsFromTruncation, SetsExist, TakesIsLeast}
use Rattle.sf_calls.specs.Checked.Lemmas.Broken.{first_broken}
use Rattle.sf_calls.specs.Checked.Lemmas.Least.{free_least, takes_least}
use Rattle.sf_calls.proofs.SetsHad.{sets_had}
use Rattle.sf_calls.specs.Checked.Lemmas.SetsThere.{sets_there}

pub conditions_from_truncation : ConditionsFromTruncation
conditions_from_truncation = conditions_had

pub first_breach_is_broken : FirstBreachIsBroken
first_breach_is_broken = first_broken

pub first_breach_is_unique : FirstBreachIsUnique
first_breach_is_unique = one_breach

pub free_is_least : FreeIsLeast
free_is_least = free_least

pub sets_from_truncation : SetsFromTruncation
sets_from_truncation = sets_had

pub sets_exist : SetsExist
sets_exist = sets_there

pub takes_is_least : TakesIsLeast
takes_is_least = takes_least
