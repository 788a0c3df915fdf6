-- A function that puts annotations in order, which a law of sf_precise says to be there.
use Rattle.sf_core.specs.Program.Syntax.{Assertion}
use Rattle.sf_precise.specs.Checked.Lemmas.Picked.{ordering-exists}
use Rattle.sf_precise.specs.Checked.Laws.{OrderingExists}
use Rattle.sf_precise.specs.Order.{IsOrdering}

abbrev pub ordered : Assertion → Assertion
unfolding OrderingExists
ordered = ordering-exists.0

pub is_ordering : IsOrdering ordered
unfolding OrderingExists
is_ordering = ordering-exists.1
