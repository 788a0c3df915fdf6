use Rattle.std.proofs.Common.{sym, ◌∙◌, ◌≡◌, ◌++◌, ◌∷◌, []}
use Rattle.sf_part.proofs.Ranges.{fit_last, numbers_next}
use Rattle.sf_part.proofs.supply.Supply.next.Goals as goal

pub returns : goal.returns
returns c =
    let all : c.self.inside.ranges.items ≡ c.in-Some.field-0-1.now ++ c.in-Some.units.now ∷ [] =
    sym c.as_slice.ensures.value ∙ c.in-Some.ensures.cases.0 in
    rw (← c.self.view_is) (numbers_next c.self.inside.ranges.items c.in-Some.field-0-1.now
    c.in-Some.units.now all
    (fit_last c.self.inside.ranges.items c.in-Some.field-0-1.now c.in-Some.units.now all
    c.self.invariant.0).0)
