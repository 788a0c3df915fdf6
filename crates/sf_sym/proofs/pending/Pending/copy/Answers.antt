use Rattle.std.proofs.Common.{ap, ◌∙◌, sym, subst, map}
use Rattle.std.specs.List.{AllByRecursion}
use Rattle.sf_core.specs.Program.Syntax.{Conjunct}
use Rattle.sf_core.specs.Program.View.{conjunct_of}
use Rattle.sf_core.specs.Assertions.Occurs.{OccursInOne}
use Rattle.sf_sym.specs.declared.term.Term.{Term}
use Rattle.sf_sym.specs.Checked.Above.{BindingsBelow, OccurBelow}
use Rattle.sf_sym.specs.Pending.{pending_of}
use Rattle.sf_sym.proofs.Replaced.{reversed_conjuncts_same}
use Rattle.sf_sym.proofs.pending.Pending.copy.Goals as goal

pub invariant_of-result : goal.invariant_of-result
invariant_of-result c =
    let inside = c.self.inside in (
      subst (AllByRecursion (λ (x : Conjunct Term). OccurBelow inside.above (OccursInOne x)))
          (sym (c.in_ok-copy_conjuncts.ensures ∙ ap (map (conjunct_of {E = Term})) c.deref.ensures.value))
          c.self.invariant.0,
      subst (BindingsBelow inside.above inside.latest)
          (sym (c.in_ok-from_slice.ensures.items ∙ c.deref-2.ensures.value)) c.self.invariant.1,
    )

pub returns : goal.returns
returns c =
    let cs = reversed_conjuncts_same c.self.inside.conjuncts.items c.in_ok-copy_conjuncts.field-0.items
    (c.in_ok-copy_conjuncts.ensures ∙ ap (map conjunct_of) c.deref.ensures.value) in
    let bindings = c.in_ok-from_slice.ensures.items ∙ c.deref-2.ensures.value in
    (λ i. record { conjuncts = cs i; bindings = bindings i }) ∙ ap pending_of c.self.view_is
