use Rattle.std.proofs.Common.{◌≡◌, ◌∷◌, ◌++◌, ◌∙◌, ◌<◌, rules, length, ap, sym, subst, arith}
use Rattle.sf_heap.specs.Checked.Entries.{Rises}
use Rattle.sf_heap.specs.Checked.Trees.{entries_in, entries_of}
use Rattle.sf_heap.specs.declared.tree.Node.{Node}
use Rattle.sf_heap.proofs.Forks.{Rises-left, Rises-right, comes_back, puts-left, puts-right, shorter}
use Rattle.sf_heap.proofs.tree.Tree.+put_in.Goals.{then-is_higher, else-is_higher, then-is_higher-2, else-is_higher-2}
use Rattle.sf_heap.proofs.tree.Tree.+put_in.Goals as goal

-- a lower location is below
pub put_in-back-requires : goal.put_in-back-requires
put_in-back-requires t c =
    let is = ap entries_of (sym c.in-Fork.ensures.value) ∙ ap entries_in (sym c.deref_mut.ensures.value) in
    let smaller : length (entries_of c.deref_mut.result.now.below) < length (entries_of c.args.self.now) =
    (shorter _ _ _ _ is).0 in
    (search rules, Rises-left _ _ _ (subst Rises is c.requires))

pub returns-then-deref : goal.returns-then-deref
returns-then-deref t c =
    let is = ap entries_of (sym c.in-Fork.ensures.value) ∙ ap entries_in (sym c.deref_mut.ensures.value) in
    let less = subst (λ (m : Node). c.args.new.value.entry.at < m.entry.at) (c.deref-2.ensures ∙ sym c.deref_mut.ensures.value)
    (subst (λ (m : Node). m.entry.at < c.deref-2.result.now.entry.at) c.deref.ensures c.if-deref.true) in
    let all : entries_of c.if-is_higher.self
    ≡ entries_of c.put_in-back.new.self ++ c.deref_mut.result.now.entry ∷ entries_of c.deref_mut.result.now.above =
    elim c.if-is_higher.branch [
      | then-is_higher w ↦ ap entries_of w.self-is ∙ w.mend.ensures
      | else-is_higher w ↦ ap entries_of w.self-is
    ] in
    rw (is, all) (puts-left _ _ _ _ c.put_in-back.result.0 _ less (subst Rises is c.requires) c.put_in-back.ensures)

-- a higher one above
pub put_in-back-requires-then-deref-2 : goal.put_in-back-requires-then-deref-2
put_in-back-requires-then-deref-2 t c =
    let is = ap entries_of (sym c.in-Fork.ensures.value) ∙ ap entries_in (sym c.deref_mut-then-deref-2.ensures.value) in
    let smaller : length (entries_of c.deref_mut-then-deref-2.result.now.above) < length (entries_of c.args.self.now) =
    (shorter _ _ _ _ is).1 in
    (search rules, Rises-right _ _ _ (subst Rises is c.requires))

pub returns-then-deref-2 : goal.returns-then-deref-2
returns-then-deref-2 t c =
    let is = ap entries_of (sym c.in-Fork.ensures.value) ∙ ap entries_in (sym c.deref_mut-then-deref-2.ensures.value) in
    let more = subst (λ (m : Node). m.entry.at < c.args.new.value.entry.at) (c.deref-3.ensures ∙ sym c.deref_mut-then-deref-2.ensures.value)
    (subst (λ (m : Node). c.deref-3.result.now.entry.at < m.entry.at) c.deref-4.ensures c.if-deref-2.true) in
    let all : entries_of c.if-is_higher-2.self
    ≡ entries_of c.deref_mut-then-deref-2.result.now.below
    ++ c.deref_mut-then-deref-2.result.now.entry ∷ entries_of c.put_in-back-then-deref-2.new.self =
    elim c.if-is_higher-2.branch [
      | then-is_higher-2 w ↦ ap entries_of w.self-is ∙ w.mend-then-is_higher-2.ensures
      | else-is_higher-2 w ↦ ap entries_of w.self-is
    ] in
    rw (is, all) (puts-right _ _ _ _ c.put_in-back-then-deref-2.result.0 _ more (subst Rises is c.requires) c.put_in-back-then-deref-2.ensures)

-- or it is the fork's own
pub returns : goal.returns
returns t c =
    let is = ap entries_of (sym c.in-Fork.ensures.value) in
    let same : c.args.new.value.entry.at ≡ c.in-Fork.node.value.entry.at = omega (
      arith,
      c.if-deref.false,
      c.if-deref-2.false,
      ap (λ (m : Node). m.entry.at) c.deref.ensures,
      ap (λ (m : Node). m.entry.at) c.deref-2.ensures,
      ap (λ (m : Node). m.entry.at) c.deref-3.ensures,
      ap (λ (m : Node). m.entry.at) c.deref-4.ensures,
    ) in
    rw (is) (comes_back _ _ _ _ same (subst Rises is c.requires))
