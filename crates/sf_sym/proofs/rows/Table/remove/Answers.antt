use Rattle.std.proofs.Common.{◌∙◌, map, cond, sym, ap, Some, None, is_some}
use Rattle.std.specs.Map.{lookup}
use Rattle.sf_sym.specs.Checked.Rows.{is_marked, rows_at}
use Rattle.sf_sym.specs.contracts.term.TermPartialEq.TheImpl.{eq-value}
use Rattle.sf_sym.proofs.Indexed.{put-less, put-twice, none-left, none-less, at-seen, items_or}
use Rattle.sf_sym.proofs.SameRows.{marked-less}
use Rattle.sf_sym.proofs.rows.Table.remove.Goals as goal
use Rattle.sf_sym.proofs.rows.Table.remove.Goals.{in-Some-1, in-None-1}

pub returns-else-is_empty : goal.returns-else-is_empty
returns-else-is_empty c =
    let w = c.swap_remove.new.self in
    let through = c.get_mut.follows.holds w in
    put-less (λ v. v.keys) c.args.self.now c.self.inside.by_term.entries (c.get_mut.follows.lender w).entries c.args.t
    c.self.view_is _ (Some w) c.args.row c.in-Some.ensures.value
    (λ r. marked-less c.args.row r c.in-Some.rows.now.keys w.keys (c.swap_remove.ensures.updates.0 r))
    (through.3 (ap is_some (sym c.in-Some.ensures.value))).0

pub returns-then-is_empty : goal.returns-then-is_empty
returns-then-is_empty c =
    let w = c.swap_remove.new.self in
    let through = c.get_mut.follows.holds w in
    let put = (through.3 (ap is_some (sym c.in-Some.ensures.value))).0 in
    let none = sym (none-left w.keys (c.is_empty.ensures.0 c.if-is_empty.true)) in
    let gone = c.swap_remove-then-is_empty.new.self in
    let done = put-less (λ v. v.keys) c.args.self.now c.self.inside.by_term.entries gone.entries c.args.t
    c.self.view_is _ None c.args.row c.in-Some.ensures.value
    (λ r. ap (λ z. is_marked z r) none
    ∙ marked-less c.args.row r c.in-Some.rows.now.keys w.keys (c.swap_remove.ensures.updates.0 r))
    (λ u. c.swap_remove-then-is_empty.ensures.updates.0 u
    ∙ ap (λ z. cond (eq-value.it c.args.t u) None z) (put u)
    ∙ put-twice (eq-value.it c.args.t u) None (Some w) (lookup (eq-value.it u) c.self.inside.by_term.entries)) in
    elim c.match-swap_remove.branch [
      | in-Some-1 v ↦ (λ u r. ap (λ s. is_marked (rows_at s u) r) v.self-is ∙ done u r)
      | in-None-1 v ↦ (λ u r. ap (λ s. is_marked (rows_at s u) r) v.self-is ∙ done u r)
    ]

pub returns-in_default : goal.returns-in_default
returns-in_default c = λ u r.
    let same = c.get_mut.follows.holds-at-none in
    let none = ap (λ s. rows_at s c.args.t) (sym c.self.view_is)
    ∙ at-seen (λ v. v.keys) c.self.inside.by_term.entries c.args.t
    ∙ ap (items_or (λ v. v.keys)) (sym c.in_default.ensures.value) in
    ap (λ s. is_marked (rows_at s u) r) (ap (λ x. map (λ e. (e.0, e.1.keys)) x.entries) same ∙ c.self.view_is)
    ∙ none-less c.args.self.now c.args.t c.args.row none u r
