use Rattle.std.proofs.Common.{inl, inr}
use Rattle.sf_sym.specs.Checked.Rows.{bare}
use Rattle.sf_sym.proofs.CellPairs.{joins-at}
use Rattle.sf_sym.proofs.Entering.{covered-still}
use Rattle.sf_sym.proofs.Indexed.{on-ok}
use Rattle.sf_sym.proofs.Kept.{kept-same}
use Rattle.sf_sym.proofs.index.Index.cover.Goals as goal

pub returns-in_err-cover_at-clause-kept : goal.returns-in_err-cover_at-clause-kept
returns-in_err-cover_at-clause-kept c =
    let s = c.args.self.now in
    λ apart rows atoms part kept.
    kept-same apart rows atoms s.roots s.cells s.marks kept part s.roots c.cover_at.new.cells
    c.cover_at.new.marks (λ t r h. h) (λ t r h. h) c.cover_at.ensures.still
    (λ t r h. elim (c.cover_at.ensures.only t r h) [
      | inl k ↦ kept.cells_of_rows t r k
      | inr k ↦ ((kept.of_rows k.0.0 r k.0.1).0, k.1)
    ])
    c.cover_at.ensures.marked
    (λ r h. elim (c.cover_at.ensures.marks r h) [ inl k ↦ kept.marked r k | inr k ↦ (kept.of_rows k.0 r k.1).0 ])

pub returns-clause-kept : goal.returns-clause-kept
returns-clause-kept c =
    let s = c.args.self.now in
    let one = c.cover_at.ensures in
    let two = c.cover_at-2.ensures in
    λ apart rows atoms part kept.
    kept-same apart rows atoms s.roots s.cells s.marks kept part s.roots c.cover_at-2.new.cells
    c.cover_at-2.new.marks (λ t r h. h) (λ t r h. h) (λ t r h. two.still t r (one.still t r h))
    (λ t r h. elim (two.only t r h) [
      | inl j ↦ elim (one.only t r j) [
        | inl k ↦ kept.cells_of_rows t r k
        | inr k ↦ ((kept.of_rows k.0.0 r k.0.1).0, k.1)
      ]
      | inr k ↦ ((kept.of_rows k.0.0 r k.0.1).0, k.1)
    ])
    (λ r h. two.marked r (one.marked r h))
    (λ r h. elim (two.marks r h) [
      | inl j ↦ elim (one.marks r j) [ inl k ↦ kept.marked r k | inr k ↦ (kept.of_rows k.0 r k.1).0 ]
      | inr k ↦ (kept.of_rows k.0 r k.1).0
    ])

pub returns-clause-ready : goal.returns-clause-ready
returns-clause-ready c =
    let s = c.args.self.now in
    let two = c.cover_at-2.ensures in
    on-ok c.cover_at-2.result
    (λ ok rows atoms kept r h j e. elim (joins-at c.args.t c.args.u (bare r.outline) j) [
      | inl b ↦ covered-still s.roots c.cover_at.new.cells c.cover_at-2.new.cells c.cover_at.new.marks c.cover_at-2.new.marks r
          two.still two.marked (c.in_ok-cover_at.ensures.ok r (kept.listed r h c.args.t b) j e)
      | inr b ↦ ok r (kept.listed r h c.args.u b) j e
    ]) two.ok
