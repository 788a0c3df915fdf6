use Rattle.std.proofs.Common.{◌∙◌, All, is_some, refl, sym, ap, subst, arith}
use Rattle.std.proofs.lemmas.List.{take_all}
use Rattle.std.proofs.lemmas.List.Elements.{All-more}
use Rattle.sf_base.proofs.Options.{is_some-map}
use Rattle.sf_heap.specs.Cells.{HasCell}
use Rattle.sf_heap.proofs.heap.Heap.has_all.Goals as goal

-- one more location has a cell
pub loop-l-preserved : goal.loop-l-preserved
loop-l-preserved c =
    let has = ap is_some (sym c.get.ensures) ∙ is_some-map _ c.get.result ∙ c.if-is_none.ensures in
    All-more (HasCell c.args.self.now) c.as_slice-l-items.result.now c.loop-l.l-index 0 (omega (arith, c.loop-l-test.true)) c.loop-l.invariant has

-- all have one
pub returns : goal.returns
returns c =
    let xs = c.as_slice-l-items.result.now in
    let all = subst (All (HasCell c.args.self.now)) (take_all c.loop-l.l-index xs (omega (arith, c.loop-l-test.false)) ∙ c.as_slice-l-items.ensures.value) c.loop-l.invariant in
    ((λ _. all), (λ _. refl))
