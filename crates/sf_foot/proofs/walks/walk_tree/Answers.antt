use Rattle.std.proofs.Common.{◌≡◌, ◌∙◌, ◌++◌, ◌∷◌, [], Some, reverse, ap, sym, subst}
use Rattle.std.proofs.lemmas.List.{nil_from_length, reverse-append}
use Rattle.std.specs.FinMap.{get}
use Rattle.sf_foot.specs.Checked.Walks.{TreesWalk, Walking}
use Rattle.sf_foot.proofs.Walking.{walking-leaf, walking-node, walking-trees_end}
use Rattle.sf_foot.proofs.walks.walk_tree.Goals as goal

-- nil is a whole tree
pub walk-preserved-in-Nil : goal.walk-preserved-in-Nil
walk-preserved-in-Nil c =
    let whole = TreesWalk c.args.heap.now c.args.left c.args.right (c.args.root ∷ []) in
    let roots = ap reverse c.in-Some.ensures.items ∙ reverse-append c.pop.new.self.items (c.in-Some.at ∷ [])
    ∙ ap (λ v. v ∷ reverse c.pop.new.self.items) c.in-Nil.is in
    walking-leaf c.args.heap.now c.args.left c.args.right _ whole _ _
    (subst (λ r. Walking whole (TreesWalk c.args.heap.now c.args.left c.args.right r) c.args.found.now.items c.walk.found.items) roots c.walk.invariant)

-- one node further
pub walk-preserved : goal.walk-preserved
walk-preserved c =
    let whole = TreesWalk c.args.heap.now c.args.left c.args.right (c.args.root ∷ []) in
    let before = reverse c.pop.new.self.items in
    let roots = ap reverse c.in-Some.ensures.items ∙ reverse-append c.pop.new.self.items (c.in-Some.at ∷ [])
    ∙ ap (λ v. v ∷ before) c.in-Loc.is in
    let there : get c.args.heap.now c.in-Loc.l ≡ Some c.in-Some-get.cell.now = sym c.in-Some-get.ensures in
    let start = subst (λ r. Walking whole (TreesWalk c.args.heap.now c.args.left c.args.right r) c.args.found.now.items c.walk.found.items) roots c.walk.invariant in
    let step = walking-node c.args.heap.now c.args.left c.args.right before whole _ _ c.in-Loc.l c.in-Some-get.cell.now there start in
    let after = ap reverse (c.in_ok-push-3.ensures.items ∙ ap (λ l. l ++ c.get-in-Some-2.result ∷ []) c.in_ok-push-2.ensures.items)
    ∙ reverse-append (c.pop.new.self.items ++ c.get-in-Some.result ∷ []) (c.get-in-Some-2.result ∷ [])
    ∙ ap (λ l. c.get-in-Some-2.result ∷ l) (reverse-append c.pop.new.self.items (c.get-in-Some.result ∷ [])) in
    rw (after, c.in_ok-push.ensures.items, c.get-in-Some.ensures, c.get-in-Some-2.ensures) step

-- no root is left
pub returns-clause-yes : goal.returns-clause-yes
returns-clause-yes c = λ _.
    let whole = TreesWalk c.args.heap.now c.args.left c.args.right (c.args.root ∷ []) in
    let none : c.walk.roots.items ≡ [] = nil_from_length _ (sym c.walk.roots.ok.0 ∙ c.in_default.ensures.cases.0) in
    walking-trees_end c.args.heap.now c.args.left c.args.right whole _ _
    (subst (λ r. Walking whole (TreesWalk c.args.heap.now c.args.left c.args.right r) c.args.found.now.items c.walk.found.items) (ap reverse none) c.walk.invariant)
