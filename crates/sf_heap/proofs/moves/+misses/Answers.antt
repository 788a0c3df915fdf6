use Rattle.std.proofs.Common.{◌∙◌, is_some, refl, sym, ap, subst}
use Rattle.std.proofs.lemmas.Bool.{false≢true}
use Rattle.std.specs.FinMap.{get}
use Rattle.sf_base.proofs.Options.{is_some-map}
use Rattle.sf_heap.specs.Checked.Moves.{AreClear}
use Rattle.sf_heap.specs.Checked.Trees.{entries_of}
use Rattle.sf_heap.specs.declared.tree.Node.{Node}
use Rattle.sf_heap.proofs.Clears.{clear-append, clear-back, clear-first, clear-front, clear-more, clear-none, clear-rest}
use Rattle.sf_heap.proofs.moves.+misses.Goals as goal

-- one below is at such a location
pub returns-then-not-misses : goal.returns-then-not-misses
returns-then-not-misses t c =
    let f = get c.args.heap.now in
    let is = ap entries_of c.in-Fork.is in (
      (λ h. absurd (false≢true h)),
      (λ clear. c.if-not-misses.ensures.1 (subst (λ (m : Node). AreClear f (entries_of m.below)) (sym c.deref.ensures)
          (clear-front f _ _ (subst (AreClear f) is clear)))),
    )

-- the fork's own is
pub returns-then-is_some : goal.returns-then-is_some
returns-then-is_some t c =
    let f = get c.args.heap.now in
    let n = c.in-Fork.node.value in
    let is = ap entries_of c.in-Fork.is in
    let has = ap is_some (sym c.get.ensures) ∙ is_some-map _ c.get.result ∙ sym c.is_some.ensures ∙ c.if-is_some.true in (
      (λ h. absurd (false≢true h)),
      (λ clear. absurd (false≢true (sym (ap is_some (ap (λ (m : Node). f m.entry.at) c.deref-2.ensures
          ∙ clear-first f n.entry (entries_of n.above) (clear-back f (entries_of n.below) _ (subst (AreClear f) is clear)))) ∙ has))),
    )

-- one above is, or none
pub returns : goal.returns
returns t c =
    let f = get c.args.heap.now in
    let n = c.in-Fork.node.value in
    let is = ap entries_of c.in-Fork.is in
    let here = sym (ap (λ (m : Node). f m.entry.at) c.deref-2.ensures)
    ∙ clear-none f _ (λ has. false≢true (sym c.if-is_some.false ∙ c.is_some.ensures ∙ sym (is_some-map _ c.get.result) ∙ ap is_some c.get.ensures ∙ has)) in
    let below = subst (λ (m : Node). AreClear f (entries_of m.below)) c.deref.ensures (c.if-not-misses.ensures.0 refl) in (
      (λ h. subst (AreClear f) (sym is) (clear-append f _ _ below (clear-more f n.entry _ here
          (subst (λ (m : Node). AreClear f (entries_of m.above)) c.deref-3.ensures (c.misses-2.ensures.0 h))))),
      (λ clear. c.misses-2.ensures.1 (subst (λ (m : Node). AreClear f (entries_of m.above)) (sym c.deref-3.ensures)
          (clear-rest f n.entry (entries_of n.above) (clear-back f (entries_of n.below) _ (subst (AreClear f) is clear))))),
    )
