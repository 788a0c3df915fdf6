use Rattle.std.proofs.Common.{◌≡◌, ◌↔◌, length, map, take}
use Rattle.sf_base.specs.declared.ids.ResId.{ResId}
use Rattle.sf_core.specs.Program.ProgramView.{program_of}
use Rattle.sf_core.specs.Program.Sites.{site_of}
use Rattle.sf_order.specs.Checked.Rows.{IsEnteredIn, IsMarked}
use Rattle.sf_order.proofs.nested.row_of.Given as goal

-- those that the commands so far may enter are marked
abbrev pub invariant-loop-s : goal.invariant-loop-s
invariant-loop-s l = record {
  size : length l.row.items ≡ length l.p.resources.items;
  marked : (q : ResId)
      → IsMarked l.row.items q ↔ IsEnteredIn (program_of l.p) (map site_of (take l.s-index l.all)) l.r q;
}
