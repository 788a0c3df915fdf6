use Rattle.std.proofs.Common.{◌∙◌, cond, sym, ap, Some, None, is_some}
use Rattle.std.specs.Map.{lookup}
use Rattle.sf_sym.specs.Checked.Rows.{is_marked, rows_at, same_row}
use Rattle.sf_sym.specs.contracts.term.TermPartialEq.TheImpl.{eq-value}
use Rattle.sf_sym.proofs.Indexed.{put-more, put-same, at-err, shorter}
use Rattle.sf_sym.proofs.SameRows.{marked-more}
use Rattle.sf_sym.proofs.rows.Table.add.Goals as goal
use Rattle.sf_sym.proofs.rows.Table.add.Goals.{in-Some-1, in-None-1}

pub returns-in_ok-insert-in-Some-clause-ok : goal.returns-in_ok-insert-in-Some-clause-ok
returns-in_ok-insert-in-Some-clause-ok c =
    let w = c.insert.new.self in
    let through = c.get_mut.follows.holds w in
    put-more (λ v. v.keys) c.args.self.now c.self.inside.by_term.entries (c.get_mut.follows.lender w).entries c.args.t
    c.self.view_is _ w c.args.row c.in-Some.ensures.value
    (λ r. marked-more c.args.row r c.in-Some.rows.now.keys w.keys (c.in_ok-insert-in-Some.ensures.updates.0 r))
    (through.3 (ap is_some (sym c.in-Some.ensures.value))).0

pub returns-in_err-insert-in-Some-clause-err : goal.returns-in_err-insert-in-Some-clause-err
returns-in_err-insert-in-Some-clause-err c =
    let w = c.insert.new.self in
    let through = c.get_mut.follows.holds w in
    at-err c.from_residual.result
    (put-same (λ v. v.keys) c.args.self.now c.self.inside.by_term.entries (c.get_mut.follows.lender w).entries c.args.t
    c.self.view_is _ w c.in-Some.ensures.value c.in_err-insert-in-Some.ensures.err
    (through.3 (ap is_some (sym c.in-Some.ensures.value))).0)

pub returns-in_ok-insert-in-None-clause-ok : goal.returns-in_ok-insert-in-None-clause-ok
returns-in_ok-insert-in-None-clause-ok c =
    let same = c.get_mut.follows.holds-at-none in
    let w = c.in_ok-rows-in-None.rows in
    let done = put-more (λ v. v.keys) c.args.self.now c.self.inside.by_term.entries c.insert-in-None.new.self.entries
    c.args.t c.self.view_is None w c.args.row c.in-None.ensures.value
    (λ r. c.in_ok-rows-in-None.ensures r ∙ shorter (same_row r c.args.row))
    (λ u. c.in_ok-insert-in-None.ensures.updates.0 u
    ∙ ap (λ m. cond (eq-value.it c.args.t u) (Some w) (lookup (eq-value.it u) m.entries)) same) in
    elim c.match-branch-4.branch [
      | in-Some-1 v ↦ (λ u r. ap (λ s. is_marked (rows_at s u) r) v.self-is ∙ done u r)
      | in-None-1 v ↦ (λ u r. ap (λ s. is_marked (rows_at s u) r) v.self-is ∙ done u r)
    ]
