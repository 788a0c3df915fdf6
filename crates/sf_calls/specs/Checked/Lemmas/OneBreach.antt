-- A program has one first breach, or none; and there is one proof at most that it has none.
use Rattle.sf_calls.specs.FirstBreach.{IsNo, told, questions_from}
use Rattle.sf_calls.specs.Checked.Laws.{ConditionsFromTruncation, FirstBreachIsUnique}
use Rattle.sf_calls.specs.Checked.Lemmas.Firsts.{first-unique, none-once}
use Rattle.sf_calls.specs.Checked.Lemmas.Had.{had_once}

pub one_breach : FirstBreachIsUnique
one_breach p = first-unique (IsNo p) told (questions_from p 0 p.procedures)

-- there is one proof at most that no condition is broken
pub conditions_had : ConditionsFromTruncation
conditions_had p = had_once (none-once (IsNo p) told (questions_from p 0 p.procedures))
