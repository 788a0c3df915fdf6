use Rattle.std.proofs.Common.{◌≡◌, ◌+◌, ◌≤◌, length, vec_capacity, vec_len}
use Rattle.sf_sym.specs.Checked.Insertion.{insert_vars}
use Rattle.sf_sym.proofs.vars.set_all_in_room.Given as goal

abbrev pub invariant-loop-first : goal.invariant-loop-first
invariant-loop-first l = record {
  set : insert_vars l.xs l.initial.vars.items ≡ insert_vars l.left l.vars.items;
  room : vec_len l.vars + length l.left ≤ vec_capacity l.vars;
}

abbrev pub decreases-loop-first : goal.decreases-loop-first
decreases-loop-first l = length l.left
