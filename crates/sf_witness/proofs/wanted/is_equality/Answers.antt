use Rattle.std.proofs.Common.{◌↔◌, IsTrue, sym, ap, ◌∙◌, subst}
use Rattle.std.specs.Option.{option_map}
use Rattle.std.proofs.lemmas.Result.{IfOk-weaker}
use Rattle.sf_consume.specs.Misfit.{misfit_of}
use Rattle.sf_core.specs.Program.View.{conjunct_of}
use Rattle.sf_heap.specs.Cells.{heap_of}
use Rattle.sf_witness.specs.Checked.Wishes.{AreSame}
use Rattle.sf_witness.proofs.Views.{through}
use Rattle.sf_witness.proofs.Wants.{equality-none, equality-some}
use Rattle.sf_witness.proofs.wanted.is_equality.Goals as goal

pub returns-in-None : goal.returns-in-None
returns-in-None c = IfOk-weaker c.is_satisfied.result _ _ (λ b d.
    through b _ _ d
    (equality-none c.args.s.now (heap_of c.args.heap.now) c.args.want.bindings.now
    (conjunct_of c.args.want.conjunct.now)
    (sym c.in_ok-m.ensures ∙ ap (option_map (misfit_of c.args.s.now.next_sym)) c.in-None.is)))
    c.is_satisfied.ensures

pub returns-in-Some : goal.returns-in-Some
returns-in-Some c =
    let next = c.args.s.now.next_sym in
    through c.meets.result _ _
    (subst (λ n. IsTrue c.meets.result ↔ AreSame n (misfit_of n c.in-Some.m)) c.next_sym.ensures c.meets.ensures)
    (equality-some c.args.s.now (heap_of c.args.heap.now) c.args.want.bindings.now
    (conjunct_of c.args.want.conjunct.now) (misfit_of next c.in-Some.m)
    (sym c.in_ok-m.ensures ∙ ap (option_map (misfit_of next)) c.in-Some.is))
