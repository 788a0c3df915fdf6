use Rattle.std.proofs.Common.{inl, inr, sym, subst}
use Rattle.sf_sym.specs.Checked.Keeping.{AreMarksWith, In}
use Rattle.sf_sym.specs.Checked.Rows.{rows_at}
use Rattle.sf_sym.proofs.Entering.{also-both, marks-also}
use Rattle.sf_sym.proofs.Indexed.{none-left}
use Rattle.sf_sym.proofs.index.mark_all_at.Goals as goal

pub loop-term-preserved : goal.loop-term-preserved
loop-term-preserved c =
    let roots = c.args.roots.now in
    let at = c.in-Some.term.now in
    let inv = c.loop-term.invariant in
    let cases = c.in-Some.ensures.cases.0 in
    let told = c.add_all.ensures in
    record {
      done = λ t h. elim (inv.done t h) [
        | inl g ↦ elim (subst (In t) cases g) [
          | inl same ↦ inr (λ r k. c.in_ok-add_all.ensures.ok r
              (subst (In r) (sym c.at.ensures) (subst (λ z. In r (rows_at roots z)) same k)))
          | inr k ↦ inl k
        ]
        | inr g ↦ inr (λ r k. told.still r (g r k))
      ];
      still = λ r h. told.still r (inv.still r h);
      only = also-both roots c.args.marks.now c.loop-term.marks c.add_all.new.self inv.only
          (marks-also roots at c.loop-term.marks c.add_all.new.self
          (subst (λ rows. AreMarksWith rows c.loop-term.marks c.add_all.new.self) c.at.ensures told.only));
    }

pub returns-in_err-add_all-clause-still : goal.returns-in_err-add_all-clause-still
returns-in_err-add_all-clause-still c = λ r h. c.add_all.ensures.still r (c.loop-term.invariant.still r h)

pub returns-in_err-add_all-clause-only : goal.returns-in_err-add_all-clause-only
returns-in_err-add_all-clause-only c =
    let roots = c.args.roots.now in
    also-both roots c.args.marks.now c.loop-term.marks c.add_all.new.self c.loop-term.invariant.only
    (marks-also roots c.in-Some.term.now c.loop-term.marks c.add_all.new.self
    (subst (λ rows. AreMarksWith rows c.loop-term.marks c.add_all.new.self) c.at.ensures c.add_all.ensures.only))

pub returns-clause-ok : goal.returns-clause-ok
returns-clause-ok c = λ t h.
    elim (c.loop-term.invariant.done t h) [
      | inl g ↦ absurd (subst (In t) (none-left c.loop-term.left.now c.in_default.ensures.cases) g)
      | inr g ↦ g
    ]
