use Rattle.std.proofs.Common.{◌≤◌, sym, subst, ap, ◌∙◌, arith}
use Rattle.std.specs.Option.{option_map}
use Rattle.sf_sym.specs.Checked.Above.{BindingsBelow}
use Rattle.sf_sym.specs.Equalities.{pending_with, put_for}
use Rattle.sf_sym.specs.Pending.{pending_of}
use Rattle.sf_sym.proofs.AboveSymbols.{above-bindings_more, above-bindings_other, put-none}
use Rattle.sf_sym.proofs.InPlace.{vec-mapped}
use Rattle.sf_sym.proofs.Replaced.{reversed_conjuncts}
use Rattle.sf_sym.proofs.pending.Pending.replace.Goals as goal

pub replace_latest-requires : goal.replace_latest-requires
replace_latest-requires c =
    let inside = c.self.inside in
    let out : inside.above ≤ c.args.r.symbol = omega (arith, c.if-from-self.false, c.from.ensures) in
    above-bindings_more inside.above c.args.r.symbol inside.latest _ out
    (subst (BindingsBelow inside.above inside.latest) (sym c.deref_mut.ensures.value) c.self.invariant.1)

pub invariant_of-self : goal.invariant_of-self
invariant_of-self c =
    let inside = c.self.inside in
    let to = put_for c.args.r.symbol c.args.r.by in
    let bs = vec-mapped (option_map to) inside.bindings c.replace_latest.new.bindings _
    c.replace_latest.auto.bindings
    c.deref_mut.ensures.value c.replace_latest.ensures in
    let out : inside.above ≤ c.args.r.symbol = omega (arith, c.if-from-self.false, c.from.ensures) in (
      c.self.invariant.0,
      above-bindings_other inside.above inside.latest c.args.r.symbol c.args.r.by inside.bindings.items _ out
          c.self.invariant.1 bs,
    )

pub returns : goal.returns
returns c =
    let inside = c.self.inside in
    let to = put_for c.args.r.symbol c.args.r.by in
    let out : inside.above ≤ c.args.r.symbol = omega (arith, c.if-from-self.false, c.from.ensures) in
    let cs = reversed_conjuncts to inside.conjuncts.items inside.conjuncts.items
    (put-none c.args.r.symbol c.args.r.by inside.above inside.conjuncts.items out c.self.invariant.0) in
    let bindings = vec-mapped (option_map to) inside.bindings c.replace_latest.new.bindings _
    c.replace_latest.auto.bindings
    c.deref_mut.ensures.value c.replace_latest.ensures in
    (λ i. record { conjuncts = cs i; bindings = bindings i })
    ∙ ap (λ given. pending_with to (pending_of given)) c.self.view_is
