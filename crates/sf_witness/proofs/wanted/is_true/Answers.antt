use Rattle.std.proofs.Common.{◌↔◌, IsTrue, true, sym, refl, subst}
use Rattle.sf_base.specs.declared.value.Value.TheVariants.{Nil as nil}
use Rattle.sf_core.specs.declared.assertion.Operand.{Operand}
use Rattle.sf_core.specs.declared.assertion.Test.{Test}
use Rattle.sf_sym.specs.declared.term.Term.{Term}
use Rattle.sf_witness.specs.Checked.Wishes.{IsTrueWith}
use Rattle.sf_witness.proofs.Equations.{default-bound, with_default}
use Rattle.sf_witness.proofs.wanted.is_true.Goals as goal

pub returns-in-True : goal.returns-in-True
returns-in-True c =
    subst (λ (t : Test (Operand Term)). IsTrue true ↔ IsTrueWith c.args.bindings.now t) (sym c.in-True.is)
    (λ i. (with_default c.args.bindings.now nil, default-bound c.args.bindings.now nil, tt), λ w. refl)
