-- What every row keeps or does, as one fact: its law, and that each row has one of the cases.
-- Ordinary: the laws side by side.
use Rattle.sf_normal.specs.Checked.Laws.{AbsurdKeepsGoals, BackKeepsGoals, DropKeepsGoals, ForceKeepsGoals, SplitKeepsGoals, UnrollKeepsGoals}
use Rattle.sf_rules.specs.Checked.LawsOfCommands.{AssignFollowsEvent, DisposeFollowsEvent, ElseFollowsTest, LookFollowsEvent, MutateFollowsEvent, NewFollowsEvent, ThenFollowsTest}
use Rattle.sf_rules.specs.Checked.LawsOfConjuncts.{AssumeKeepsGoals, AssumedBranchKeepsGoals, ShownBranchLeavesRest, SubtractionLeavesRest}
use Rattle.sf_rules.specs.Checked.RowCases.{RowsHaveCases}

-- the laws of the rows
pub record RowLaws : Type 0 where
  pub cases : RowsHaveCases
  pub absurd_law : AbsurdKeepsGoals
  pub drop_law : DropKeepsGoals
  pub force_law : ForceKeepsGoals
  pub split_law : SplitKeepsGoals
  pub unroll_law : UnrollKeepsGoals
  pub back_law : BackKeepsGoals
  pub assign_law : AssignFollowsEvent
  pub look_law : LookFollowsEvent
  pub mutate_law : MutateFollowsEvent
  pub new_law : NewFollowsEvent
  pub dispose_law : DisposeFollowsEvent
  pub then_law : ThenFollowsTest
  pub else_law : ElseFollowsTest
  pub assume_law : AssumeKeepsGoals
  pub assumed_branch_law : AssumedBranchKeepsGoals
  pub subtraction_law : SubtractionLeavesRest
  pub shown_branch_law : ShownBranchLeavesRest
