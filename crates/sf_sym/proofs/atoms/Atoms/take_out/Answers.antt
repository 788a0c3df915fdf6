use Rattle.std.proofs.Common.{sym, ap, ◌∙◌, subst}
use Rattle.std.specs.BTreeMap.{is_at}
use Rattle.std.specs.Ordering.{nat_cmp}
use Rattle.std.specs.Set.{remove_key}
use Rattle.sf_sym.specs.Checked.Empties.{empties}
use Rattle.sf_sym.specs.Numbers.{AreRising, numbers}
use Rattle.sf_sym.proofs.EmptyNumbers.{empty-without}
use Rattle.sf_sym.proofs.atoms.Atoms.take_out.Goals as goal

pub invariant_of-self : goal.invariant_of-self
invariant_of-self c =
    c.remove.ensures.keys ∙ ap (remove_key (is_at (nat_cmp c.args.a))) c.self.invariant
    ∙ empty-without c.args.a c.self.inside.parts (subst (λ xs. AreRising (numbers xs)) (sym c.self.view_is) c.requires)
    ∙ ap empties (sym c.take_out.ensures.others)
