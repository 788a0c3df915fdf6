use Rattle.std.proofs.Common.{◌↔◌, ◌==◌, IsTrue, ap, ◌∙◌, subst}
use Rattle.std.proofs.lemmas.Result.{IfOk-weaker}
use Rattle.sf_base.specs.HeapStore.{Heap, IsEmpty}
use Rattle.sf_heap.specs.Cells.{heap_of}
use Rattle.sf_sym.specs.Goal.{goal_of, todo_of}
use Rattle.sf_witness.specs.Checked.Wishes.{wish_of}
use Rattle.sf_witness.specs.Wanted.{wanted}
use Rattle.sf_witness.proofs.Heaps.{len-decides}
use Rattle.sf_witness.proofs.Wants.{wants-equality, wants-leak, wants-part}
use Rattle.sf_witness.proofs.wanted.left_has.Goals as goal

pub returns-in-Leak : goal.returns-in-Leak
returns-in-Leak c other =
    wants-leak (goal_of c.args.goal.now) _ c.args.kind c.in-Leak.is
    (subst (λ (h : Heap). IsTrue (c.len.result == 0) ↔ IsEmpty h) c.requires (len-decides c.args.left.now c.len.result c.len.ensures))

pub returns-in-NotEqual : goal.returns-in-NotEqual
returns-in-NotEqual c = IfOk-weaker c.has_equality.result _ _ (λ b d other.
    wants-equality (goal_of c.args.goal.now) b c.args.kind (heap_of c.args.left.now) (wish_of c.wanted.result)
    c.in-NotEqual.is c.requires (c.wanted.ensures ∙ ap (λ xs. wanted (todo_of xs)) c.deref.ensures.value) d)
    c.has_equality.ensures

pub returns-in_default : goal.returns-in_default
returns-in_default c = IfOk-weaker c.has_wanted.result _ _ (λ b d other.
    wants-part (goal_of c.args.goal.now) b c.args.kind (heap_of c.args.left.now) (wish_of c.wanted-in_default.result)
    other c.in_default.not-NotEqual c.in_default.not-Leak c.requires
    (c.wanted-in_default.ensures ∙ ap (λ xs. wanted (todo_of xs)) c.deref-in_default.ensures.value) d)
    c.has_wanted.ensures
