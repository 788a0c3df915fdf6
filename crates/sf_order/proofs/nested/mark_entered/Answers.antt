use Rattle.std.proofs.Common.{◌<◌, ◌∙◌, [], ◌∷◌, ◌++◌, length, ap}
use Rattle.std.proofs.lemmas.List.{append-nil}
use Rattle.std.proofs.lemmas.List.Elements.{All-head, All-tail}
use Rattle.sf_base.specs.declared.ids.ResId.{ResId}
use Rattle.sf_core.specs.Program.Syntax.{Call}
use Rattle.sf_core.specs.Program.View.{call_of, command_of}
use Rattle.sf_order.specs.Checked.Rows.{taken_by}
use Rattle.sf_order.proofs.Rows.{all-left, all-right, marks-two}
use Rattle.sf_order.proofs.Views.{view_call, view_fork, view_with}
use Rattle.sf_order.proofs.nested.mark_entered.Goals as goal

pub mark-requires : goal.mark-requires
mark-requires c =
    let is = ap command_of c.in-With.is ∙ view_with c.in-With.field-0 c.in-With.r c.in-With.field-2 c.in-With.field-3 in
    All-head (λ (q : ResId). q.0 < length c.args.row.now.items) c.in-With.r [] (rw is at c.requires.within)

pub mark_taken-requires-clause-there : goal.mark_taken-requires-clause-there
mark_taken-requires-clause-there c =
    let is = ap command_of c.in-Call.is ∙ view_call c.in-Call.field-0 c.in-Call.call in
    All-head (λ (d : Call). d.callee.0 < length c.args.c.now.takes) (call_of c.in-Call.call) []
    (rw is at c.requires.callees)

pub mark_taken-requires-in-Fork-clause-there : goal.mark_taken-requires-in-Fork-clause-there
mark_taken-requires-in-Fork-clause-there c =
    let is = ap command_of c.in-Fork.is ∙ view_fork c.in-Fork.field-0 c.in-Fork.left c.in-Fork.right in
    All-head (λ (d : Call). d.callee.0 < length c.args.c.now.takes) (call_of c.in-Fork.left)
    (call_of c.in-Fork.right ∷ []) (rw is at c.requires.callees)

pub mark_taken-requires-in-Fork-2-clause-there : goal.mark_taken-requires-in-Fork-2-clause-there
mark_taken-requires-in-Fork-2-clause-there c =
    let is = ap command_of c.in-Fork.is ∙ view_fork c.in-Fork.field-0 c.in-Fork.left c.in-Fork.right in
    All-head (λ (d : Call). d.callee.0 < length c.args.c.now.takes) (call_of c.in-Fork.right) []
    (All-tail (λ (d : Call). d.callee.0 < length c.args.c.now.takes) (call_of c.in-Fork.left)
    (call_of c.in-Fork.right ∷ []) (rw is at c.requires.callees))

pub mark_taken-requires-in-Fork-clause-within : goal.mark_taken-requires-in-Fork-clause-within
mark_taken-requires-in-Fork-clause-within c =
    let is = ap command_of c.in-Fork.is ∙ view_fork c.in-Fork.field-0 c.in-Fork.left c.in-Fork.right in
    all-left (λ (q : ResId). q.0 < length c.args.row.now.items) (taken_by c.args.c.now c.in-Fork.left.callee)
    (taken_by c.args.c.now c.in-Fork.right.callee ++ []) (rw is at c.requires.within)

pub mark_taken-requires-in-Fork-2-clause-within : goal.mark_taken-requires-in-Fork-2-clause-within
mark_taken-requires-in-Fork-2-clause-within c =
    let is = ap command_of c.in-Fork.is ∙ view_fork c.in-Fork.field-0 c.in-Fork.left c.in-Fork.right in
    rw c.mark_taken-in-Fork.ensures.size
    (all-left (λ (q : ResId). q.0 < length c.args.row.now.items) (taken_by c.args.c.now c.in-Fork.right.callee) []
    (all-right (λ (q : ResId). q.0 < length c.args.row.now.items) (taken_by c.args.c.now c.in-Fork.left.callee)
    (taken_by c.args.c.now c.in-Fork.right.callee ++ []) (rw is at c.requires.within)))

pub returns-in-Fork : goal.returns-in-Fork
returns-in-Fork c =
    let is = ap command_of c.in-Fork.is ∙ view_fork c.in-Fork.field-0 c.in-Fork.left c.in-Fork.right in
    rw (is, append-nil (taken_by c.args.c.now c.in-Fork.right.callee))
    (marks-two _ _ _ (taken_by c.args.c.now c.in-Fork.left.callee) (taken_by c.args.c.now c.in-Fork.right.callee)
    c.mark_taken-in-Fork.ensures c.mark_taken-in-Fork-2.ensures)
