use Rattle.std.proofs.Common.{◌≡◌, ◌+◌, ◌≤◌, ◌<◌, ◌^◌, length, vec_capacity, vec_len}
use Rattle.sf_sym.specs.Checked.Insertion.{insert_vars}
use Rattle.sf_sym.specs.Variables.{fresh_for}
use Rattle.sf_sym.proofs.vars.set_fresh_in_room.Given as goal

abbrev pub invariant-loop-first : goal.invariant-loop-first
invariant-loop-first l = record {
  set : insert_vars (fresh_for l.from l.xs) l.initial.vars.items ≡ insert_vars (fresh_for l.next l.left) l.vars.items;
  room : vec_len l.vars + length l.left ≤ vec_capacity l.vars;
  numbers : l.next + length l.left < 2 ^ 32;
}

abbrev pub decreases-loop-first : goal.decreases-loop-first
decreases-loop-first l = length l.left
