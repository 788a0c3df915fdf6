use Rattle.std.proofs.Common.{◌↔◌, IsTrue, Option, sym, subst}
use Rattle.std.proofs.lemmas.Result.{IfOk-weaker}
use Rattle.sf_heap.specs.Cells.{heap_of}
use Rattle.sf_witness.specs.Checked.Wishes.{wish_of}
use Rattle.sf_witness.specs.declared.wanted.Want.{Want}
use Rattle.sf_witness.specs.Wanted.{IsIn}
use Rattle.sf_witness.proofs.wanted.has_wanted.Goals as goal

pub returns-in-Some : goal.returns-in-Some
returns-in-Some c = IfOk-weaker c.is_satisfied.result _ _ (λ b d.
    subst (λ (o : Option Want). IsTrue b ↔ IsIn (heap_of c.args.heap.now) (wish_of o))
    (sym c.in-Some.is) d) c.is_satisfied.ensures
