use Rattle.std.proofs.Common.{◌≡◌, ◌∷◌, ◌++◌, ◌∙◌, ◌<◌, rules, None, length, ap, sym, subst, arith}
use Rattle.std.proofs.lemmas.Option.{IfSome_then}
use Rattle.sf_heap.specs.Checked.Entries.{Rises, found}
use Rattle.sf_heap.specs.Checked.Trees.{entries_in, entries_of, IsTaken}
use Rattle.sf_heap.specs.declared.tree.Entry.{Entry}
use Rattle.sf_heap.specs.declared.tree.Node.{Node}
use Rattle.sf_heap.proofs.Forks.{Rises-left, Rises-right, found-left, found-right, none_then, shorter, taken-left, taken-right, taken-here}
use Rattle.sf_heap.proofs.tree.Tree.+take_out.Goals.{then-is_lower, else-is_lower, then-is_lower-2, else-is_lower-2}
use Rattle.sf_heap.proofs.tree.Tree.+take_out.Goals as goal

-- a lower location is below
pub take_out-taken-requires : goal.take_out-taken-requires
take_out-taken-requires t c =
    let is = ap entries_of (sym c.in-Fork.ensures.value) ∙ ap entries_in (sym c.deref_mut.ensures.value) in
    let smaller : length (entries_of c.deref_mut.result.now.below) < length (entries_of c.args.self.now) =
    (shorter _ _ _ _ is).0 in
    (search rules, Rises-left _ _ _ (subst Rises is c.requires))

pub returns-then-at-deref-clause-absent : goal.returns-then-at-deref-clause-absent
returns-then-at-deref-clause-absent t c =
    let is = ap entries_of (sym c.in-Fork.ensures.value) ∙ ap entries_in (sym c.deref_mut.ensures.value) in
    let less = subst (λ (m : Node). c.args.at < m.entry.at) (c.deref.ensures ∙ sym c.deref_mut.ensures.value) c.if-at-deref.true in
    none_then {A = found c.args.at (entries_of c.deref_mut.result.now.below) ≡ None} {B = found c.args.at (entries_of c.args.self.now) ≡ None}
    c.take_out-taken.result.0 c.take_out-taken.ensures.absent (λ none. ap (found c.args.at) is
    ∙ found-left _ _ _ (subst Rises is c.requires) c.args.at less ∙ none)

pub returns-then-at-deref-clause-taken : goal.returns-then-at-deref-clause-taken
returns-then-at-deref-clause-taken t c =
    let is = ap entries_of (sym c.in-Fork.ensures.value) ∙ ap entries_in (sym c.deref_mut.ensures.value) in
    let less = subst (λ (m : Node). c.args.at < m.entry.at) (c.deref.ensures ∙ sym c.deref_mut.ensures.value) c.if-at-deref.true in
    let left : entries_of c.if-is_lower.self
    ≡ entries_of c.take_out-taken.new.self ++ c.deref_mut.result.now.entry ∷ entries_of c.deref_mut.result.now.above =
    elim c.if-is_lower.branch [
      | then-is_lower w ↦ ap entries_of w.self-is ∙ w.mend.ensures
      | else-is_lower w ↦ ap entries_of w.self-is
    ] in
    IfSome_then c.take_out-taken.result.0
    {P = λ node. IsTaken (entries_of c.deref_mut.result.now.below) c.args.at node.value.entry (entries_of c.take_out-taken.new.self)}
    c.take_out-taken.ensures.taken (λ node k. rw (is, left) (taken-left _ _ _ _ _ _ less (subst Rises is c.requires) k))

-- a higher one above
pub take_out-taken-requires-then-deref-at : goal.take_out-taken-requires-then-deref-at
take_out-taken-requires-then-deref-at t c =
    let is = ap entries_of (sym c.in-Fork.ensures.value) ∙ ap entries_in (sym c.deref_mut-then-deref-at.ensures.value) in
    let smaller : length (entries_of c.deref_mut-then-deref-at.result.now.above) < length (entries_of c.args.self.now) =
    (shorter _ _ _ _ is).1 in
    (search rules, Rises-right _ _ _ (subst Rises is c.requires))

pub returns-then-deref-at-clause-absent : goal.returns-then-deref-at-clause-absent
returns-then-deref-at-clause-absent t c =
    let is = ap entries_of (sym c.in-Fork.ensures.value) ∙ ap entries_in (sym c.deref_mut-then-deref-at.ensures.value) in
    let more = subst (λ (m : Node). m.entry.at < c.args.at) (c.deref-2.ensures ∙ sym c.deref_mut-then-deref-at.ensures.value) c.if-deref-at.true in
    none_then {A = found c.args.at (entries_of c.deref_mut-then-deref-at.result.now.above) ≡ None}
    {B = found c.args.at (entries_of c.args.self.now) ≡ None}
    c.take_out-taken-then-deref-at.result.0 c.take_out-taken-then-deref-at.ensures.absent (λ none. ap (found c.args.at) is
    ∙ found-right _ _ _ (subst Rises is c.requires) c.args.at more ∙ none)

pub returns-then-deref-at-clause-taken : goal.returns-then-deref-at-clause-taken
returns-then-deref-at-clause-taken t c =
    let is = ap entries_of (sym c.in-Fork.ensures.value) ∙ ap entries_in (sym c.deref_mut-then-deref-at.ensures.value) in
    let more = subst (λ (m : Node). m.entry.at < c.args.at) (c.deref-2.ensures ∙ sym c.deref_mut-then-deref-at.ensures.value) c.if-deref-at.true in
    let left : entries_of c.if-is_lower-2.self
    ≡ entries_of c.deref_mut-then-deref-at.result.now.below
    ++ c.deref_mut-then-deref-at.result.now.entry ∷ entries_of c.take_out-taken-then-deref-at.new.self =
    elim c.if-is_lower-2.branch [
      | then-is_lower-2 w ↦ ap entries_of w.self-is ∙ w.mend-then-is_lower-2.ensures
      | else-is_lower-2 w ↦ ap entries_of w.self-is
    ] in
    IfSome_then c.take_out-taken-then-deref-at.result.0
    {P = λ node. IsTaken (entries_of c.deref_mut-then-deref-at.result.now.above) c.args.at node.value.entry
    (entries_of c.take_out-taken-then-deref-at.new.self)}
    c.take_out-taken-then-deref-at.ensures.taken (λ node k. rw (is, left) (taken-right _ _ _ _ _ _ more (subst Rises is c.requires) k))

-- or it is the fork's own
pub returns-clause-taken : goal.returns-clause-taken
returns-clause-taken t c =
    let is = ap entries_of (sym c.in-Fork.ensures.value) ∙ c.opened-below.ensures.entries in
    let same : c.args.at ≡ c.opened-below.result.1.value.entry.at = omega (
      arith,
      c.if-at-deref.false,
      c.if-deref-at.false,
      ap (λ (m : Node). m.entry.at) c.deref.ensures,
      ap (λ (m : Node). m.entry.at) c.deref-2.ensures,
      ap (λ (e : Entry). e.at) c.opened-below.ensures.entry,
    ) in
    rw (is, c.then.ensures) (taken-here _ _ _ c.args.at same (subst Rises is c.requires))
