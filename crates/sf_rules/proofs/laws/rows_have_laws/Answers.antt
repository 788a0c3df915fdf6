use Rattle.sf_rules.proofs.laws.rows_have_laws.Goals as goal

pub returns : goal.returns
returns c = record {
  cases = c.rows_have_cases.ensures;
  absurd_law = c.absurd_keeps_goals.ensures;
  drop_law = c.drop_keeps_goals.ensures;
  force_law = c.force_keeps_goals.ensures;
  split_law = c.split_keeps_goals.ensures;
  unroll_law = c.unroll_keeps_goals.ensures;
  back_law = c.back_keeps_goals.ensures;
  assign_law = c.assign_follows_event.ensures;
  look_law = c.look_follows_event.ensures;
  mutate_law = c.mutate_follows_event.ensures;
  new_law = c.new_follows_event.ensures;
  dispose_law = c.dispose_follows_event.ensures;
  then_law = c.then_follows_test.ensures;
  else_law = c.else_follows_test.ensures;
  assume_law = c.assume_keeps_goals.ensures;
  assumed_branch_law = c.assumed_branch_keeps_goals.ensures;
  subtraction_law = c.subtraction_leaves_rest.ensures;
  shown_branch_law = c.shown_branch_leaves_rest.ensures;
}
