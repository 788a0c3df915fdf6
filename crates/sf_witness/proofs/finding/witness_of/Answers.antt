use Rattle.std.proofs.Common.{List, sym, ap, ◌∙◌, subst₂}
use Rattle.sf_base.specs.declared.ids.Var.{Var}
use Rattle.sf_base.specs.declared.value.Value.{Value}
use Rattle.sf_base.specs.HeapStore.{Heap}
use Rattle.sf_witness.specs.Checked.Laws.{WitnessesSatisfy}
use Rattle.sf_witness.specs.Satisfied.{Satisfied}
use Rattle.sf_witness.specs.WitnessState.{values}
use Rattle.sf_witness.proofs.finding.witness_of.Goals as goal

pub returns-clause-satisfied : goal.returns-clause-satisfied
unfolding WitnessesSatisfy
returns-clause-satisfied c h =
    subst₂ (λ (vars : List (Var × Value)) (heap : Heap). Satisfied c.args.goal.now.state vars heap)
    (sym (c.in_ok-values.ensures ∙ ap values c.vars.ensures)) (sym c.in_ok-heap.ensures.heap)
    (c.witnesses_satisfy.ensures c.args.goal.now.state (c.in_ok-is_normal.ensures.0 c.if-not-branch.false) h)
