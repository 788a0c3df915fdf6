-- The table of rules: for a goal and a tag the goals that are left, or no row.
-- Berdine, Calcagno, O'Hearn, "Symbolic Execution with Separation Logic" (2005) and "Smallfoot" (2005); O'Hearn
-- (2007) for regions and parallel calls.
use Rattle.std.specs.Prelude.{cond, Option, None, List}
use Rattle.sf_rules.specs.Rules.{has_numbers}
use Rattle.sf_rules.specs.Checked.Rows.Add.{assume_row}
use Rattle.sf_sym.specs.declared.tag.Tag.{Tag}
use Rattle.sf_sym.specs.declared.tag.Tag.TheVariants as t
use Rattle.sf_sym.specs.Goal.{Goal}
use Rattle.sf_rules.specs.Checked.Rows.Branches.{then_row, else_row}
use Rattle.sf_rules.specs.Checked.Rows.Calls.{call_row, fork_row, give_row}
use Rattle.sf_rules.specs.Checked.Rows.Commands.{assign_row, look_row, mutate_row, new_row, dispose_row}
use Rattle.sf_rules.specs.Checked.Rows.Ends.{return_row, end_row}
use Rattle.sf_normal.specs.Knowledge.{absurd_row, back_row, drop_row, force_row, split_row, unroll_row}
use Rattle.sf_rules.specs.Checked.Rows.Front.{at_command, at_add, at_take, at_gave, at_head, at_again, at_exit, at_return, at_end}
use Rattle.sf_rules.specs.Checked.Rows.Loops.{loop_row, around_row, again_row}
use Rattle.sf_rules.specs.Checked.Rows.Regions.{enter_row, exit_row}
use Rattle.sf_rules.specs.Checked.Rows.Take.{subtract_row}
use Rattle.sf_rules.specs.Setting.{Setting}

-- the rows of the table; `procedure` begins a proof and has none
abbrev pub row_of : Setting → Goal → Tag → Option (List Goal)
row_of d g (t.Procedure f) = None
row_of d g t.Absurd = absurd_row g
row_of d g (t.Drop a) = drop_row g a
row_of d g (t.Force a) = force_row g a
row_of d g (t.Split x y) = split_row g x y
row_of d g (t.Unroll a) = unroll_row g a
row_of d g (t.Back a) = back_row g a
row_of d g t.Assign = at_command (assign_row g.state) g.todo
row_of d g (t.Look a) = at_command (look_row a g.state) g.todo
row_of d g (t.Mutate a) = at_command (mutate_row a g.state) g.todo
row_of d g t.New = at_command (new_row g.state) g.todo
row_of d g (t.Dispose a) = at_command (dispose_row a g.state) g.todo
row_of d g t.Then = then_row g.state g.todo
row_of d g t.Else = else_row g.state g.todo
row_of d g t.Loop = at_command (loop_row d g.state) g.todo
row_of d g t.Around = at_head (around_row d g.state) g.todo
row_of d g t.Again = at_again (again_row d g.state) g.todo
row_of d g t.Call = at_command (call_row d g.state) g.todo
row_of d g t.Fork = at_command (fork_row d g.state) g.todo
row_of d g t.Enter = at_command (enter_row d g.state) g.todo
row_of d g t.Exit = at_exit (exit_row d g.state) g.todo
row_of d g t.Return = at_return (return_row g.state) g.todo
row_of d g t.Give = at_gave (give_row g.state) g.todo
row_of d g t.End = at_end (end_row g.state) g.todo
row_of d g t.Add = at_add (assume_row g.state) g.todo
row_of d g t.Bind = at_take (subtract_row t.Bind g.state) g.todo
row_of d g t.Same = at_take (subtract_row t.Same g.state) g.todo
row_of d g t.Apart = at_take (subtract_row t.Apart g.state) g.todo
row_of d g (t.Cell a) = at_take (subtract_row (t.Cell a) g.state) g.todo
row_of d g t.Empty = at_take (subtract_row t.Empty g.state) g.todo
row_of d g (t.Exact a) = at_take (subtract_row (t.Exact a) g.state) g.todo
row_of d g (t.Head a) = at_take (subtract_row (t.Head a) g.state) g.todo
row_of d g (t.Join a) = at_take (subtract_row (t.Join a) g.state) g.todo
row_of d g (t.Node a) = at_take (subtract_row (t.Node a) g.state) g.todo

-- the goals that are left by a tag at a goal, or None where there is no row
abbrev pub row : Setting → Goal → Tag → Option (List Goal)
row d g tag = cond (has_numbers g.state) (row_of d g tag) None
