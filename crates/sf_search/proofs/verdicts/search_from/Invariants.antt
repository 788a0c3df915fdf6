use Rattle.std.proofs.Common.{◌≤◌, ◌-◌, [], ◌∷◌, length}
use Rattle.std.specs.List.{AllByRecursion}
use Rattle.sf_base.specs.declared.limits.TheConstants.{PROCEDURE_TAGS}
use Rattle.sf_rules.specs.Checked.Children.{stack_of}
use Rattle.sf_search.proofs.Leading.{Leads}
use Rattle.sf_search.proofs.Reached.{IsReached}
use Rattle.sf_sym.specs.Goal.{goal_of}
use Rattle.sf_search.proofs.verdicts.search_from.Given as goal

abbrev pub invariant-loop-goal : goal.invariant-loop-goal
invariant-loop-goal g l = record {
  leads : Leads g.d (goal_of l.fn.first ∷ []) (stack_of l.stack.items) l.tags.items;
  count : length l.tags.items ≤ PROCEDURE_TAGS;
  reached : AllByRecursion (IsReached g.d (goal_of l.fn.first) (length l.tags.items)) (stack_of l.stack.items);
}

abbrev pub decreases-loop-goal : goal.decreases-loop-goal
decreases-loop-goal g l = PROCEDURE_TAGS - length l.tags.items

abbrev pub ghost-follow : goal.ghost-follow
ghost-follow g a = g.d
