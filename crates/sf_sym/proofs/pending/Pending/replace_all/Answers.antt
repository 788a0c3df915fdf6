use Rattle.std.proofs.Common.{◌≤◌, None, get_or, ap, ◌∙◌, arith}
use Rattle.std.specs.Option.{option_map}
use Rattle.sf_core.specs.Program.View.{conjunct_of}
use Rattle.sf_sym.specs.declared.term.Term.{Term}
use Rattle.sf_sym.specs.Checked.Lemmas.Below.{below-more}
use Rattle.sf_sym.specs.Equalities.{pending_with, put_for}
use Rattle.sf_sym.specs.Mapped.{conjunct_with}
use Rattle.sf_sym.specs.Pending.{pending_of}
use Rattle.sf_sym.proofs.AboveSymbols.{above-all_more, above-bindings_with, above-put, above-replaced}
use Rattle.sf_sym.proofs.InPlace.{vec-mapped, vec-viewed}
use Rattle.sf_sym.proofs.Replaced.{reversed_conjuncts}
use Rattle.sf_sym.proofs.pending.Pending.replace_all.Goals as goal

pub invariant_of-self : goal.invariant_of-self
invariant_of-self c =
    let inside = c.self.inside in
    let n = c.above_latest-self-inside.result in
    let to = put_for c.args.r.symbol c.args.r.by in
    let by = below-more c.above_term.result n c.above_latest-self-inside.ensures.least c.args.r.by
    c.above_term.ensures.below in
    let cs = vec-viewed (conjunct_of {E = Term}) (conjunct_with to) inside.conjuncts
    c.in_conjuncts.new.cs _ c.in_conjuncts.auto.cs c.deref_mut.ensures.value c.in_conjuncts.ensures in
    let bs = vec-mapped (option_map to) inside.bindings c.in_bindings.new.bindings _
    c.in_bindings.auto.bindings
    c.deref_mut-2.ensures.value c.in_bindings.ensures in
    let more : inside.above ≤ n =
    omega (arith, c.above_term.ensures.least, c.above_latest-self-inside.ensures.least) in (
      above-replaced n to (above-put n c.args.r.symbol c.args.r.by by) inside.conjuncts.items _ cs
          (above-all_more inside.above n inside.conjuncts.items more c.self.invariant.0),
      above-bindings_with inside.above n inside.latest c.args.r.symbol c.args.r.by inside.bindings.items _ more
          c.self.invariant.1
          (λ t e. c.above_latest-self-inside.ensures.below t
          (ap (λ bs. get_or bs inside.latest None) c.deref.ensures.value ∙ e)) by bs,
    )

pub returns : goal.returns
returns c =
    let to = put_for c.args.r.symbol c.args.r.by in
    let inside = c.self.inside in
    let cs = reversed_conjuncts to inside.conjuncts.items _
    (vec-viewed (conjunct_of {E = Term}) (conjunct_with to) inside.conjuncts c.in_conjuncts.new.cs _
    c.in_conjuncts.auto.cs c.deref_mut.ensures.value c.in_conjuncts.ensures) in
    let bindings = vec-mapped (option_map to) inside.bindings c.in_bindings.new.bindings _
    c.in_bindings.auto.bindings
    c.deref_mut-2.ensures.value c.in_bindings.ensures in
    (λ i. record { conjuncts = cs i; bindings = bindings i })
    ∙ ap (λ given. pending_with to (pending_of given)) c.self.view_is
