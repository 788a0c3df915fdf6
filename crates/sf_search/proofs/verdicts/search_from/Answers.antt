use Rattle.std.proofs.Common.{◌≡◌, ◌+◌, ◌<◌, ◌∙◌, ap, sym, subst, [], ◌∷◌, ◌++◌, Some, is_some, length, arith, refl, rules, length-append}
use Rattle.std.specs.List.{AllByRecursion}
use Rattle.sf_base.specs.declared.limits.TheConstants.{PROCEDURE_TAGS}
use Rattle.sf_rules.specs.Checked.Children.{stack_of}
use Rattle.sf_rules.specs.Checked.Rows.Whole.{row}
use Rattle.sf_search.proofs.Leading.{Leads, leads_on, leads_end, no_goals, stack_push}
use Rattle.sf_search.proofs.Reached.{IsReached, reached_first, reached_next, reached_row}
use Rattle.sf_search.specs.Judge.{Search, large, proved, stuck}
use Rattle.sf_sym.specs.Goal.{goal_of}
use Rattle.sf_search.proofs.verdicts.search_from.Goals as goal

pub loop-goal-init : goal.loop-goal-init
loop-goal-init g c =
    let items : c.push.new.self.items ≡ c.args.first ∷ [] = search rules in
    record {
      leads = search rules;
      count = search (rules, arith);
      reached = reached_first g.d (goal_of c.args.first) _ (stack_of c.push.new.self.items) (ap stack_of items);
    }

pub loop-goal-preserved : goal.loop-goal-preserved
loop-goal-preserved g c =
    let first = goal_of c.args.first in
    let tags = c.loop-goal.tags.items in
    let tag = c.in-Takes.tag in
    let others = stack_of c.pop.new.self.items in
    let stack = ap stack_of c.in-Some.ensures.items ∙ stack_push c.pop.new.self.items c.in-Some.goal in
    let leads = subst (λ gs. Leads g.d (first ∷ []) gs tags) stack c.loop-goal.invariant.leads in
    let reached = subst (AllByRecursion (IsReached g.d first (length tags))) stack c.loop-goal.invariant.reached in
    let chosen = sym c.in_ok-tag.ensures.choice ∙ c.in-Takes.is in
    let left = c.in_ok-follow.ensures.left in
    let row = subst (λ h. row g.d (goal_of h) tag ≡ Some left.0) c.decide.ensures.same left.1 in
    let longer : length c.follow.new.tags.items ≡ length tags + 1 =
    ap length c.in_ok-follow.ensures.tags ∙ length-append tags (tag ∷ []) in
    let below : length tags < PROCEDURE_TAGS = search (rules, arith) in
    record {
      leads =
          subst (Leads g.d (first ∷ []) (stack_of c.follow.new.stack.items)) (sym c.in_ok-follow.ensures.tags)
          (subst (λ gs. Leads g.d (first ∷ []) gs (tags ++ tag ∷ [])) (sym left.2)
          (leads_on g.d (first ∷ []) others (goal_of c.in-Some.goal) tags tag left.0 leads chosen row));
      count = omega (arith, longer, below);
      reached =
          subst (λ n. AllByRecursion (IsReached g.d first n) (stack_of c.follow.new.stack.items)) (sym longer)
          (subst (AllByRecursion (IsReached g.d first (length tags + 1))) (sym left.2)
          (reached_next g.d first (length tags) (goal_of c.in-Some.goal) others tag left.0 row reached));
    }

-- the goal is among those that a search comes to, so the tag has a row
pub follow-requires : goal.follow-requires
follow-requires g c =
    let stack = ap stack_of c.in-Some.ensures.items ∙ stack_push c.pop.new.self.items c.in-Some.goal in
    let reached = subst (AllByRecursion (IsReached g.d (goal_of c.args.first) (length c.loop-goal.tags.items))) stack
    c.loop-goal.invariant.reached in
    let chosen = sym c.in_ok-tag.ensures.choice ∙ c.in-Takes.is in
    let left = reached_row g.d (goal_of c.args.first) c.requires.1.1 (length c.loop-goal.tags.items)
    (goal_of c.in-Some.goal) c.in-Takes.tag c.loop-goal.invariant.count reached.0 chosen in
    let row = subst (λ h. row g.d (goal_of h) c.in-Takes.tag ≡ Some left.0) (sym c.decide.ensures.same) left.1 in
    (c.requires.0, (c.requires.1.0, ap is_some row))

pub returns-in-Stays-clause-err : goal.returns-in-Stays-clause-err
returns-in-Stays-clause-err g c =
    let first = goal_of c.args.first in
    let tags = c.loop-goal.tags.items in
    let goal = c.in-Some.goal in
    let kind = c.in-Stays.kind in
    let stack = ap stack_of c.in-Some.ensures.items ∙ stack_push c.pop.new.self.items goal in
    let leads = subst (λ gs. Leads g.d (first ∷ []) gs tags) stack c.loop-goal.invariant.leads in
    let count : length tags ≡ c.len.result = search rules in
    let chosen = sym c.in_ok-tag.ensures.choice ∙ c.in-Stays.is in
    let ends : Search g.d first tags (stuck (goal_of goal) kind) = record {
      chosen = leads_end g.d (first ∷ []) (goal_of goal ∷ stack_of c.pop.new.self.items) tags
          (stuck (goal_of goal) kind) leads (refl, chosen);
      within = c.loop-goal.invariant.count;
    } in
    (tags, count, subst (λ h. Search g.d first tags (stuck (goal_of h) kind)) (sym c.decide.ensures.same) ends)

pub returns-then-len-eq-PROCEDURE_TAGS-clause-err : goal.returns-then-len-eq-PROCEDURE_TAGS-clause-err
returns-then-len-eq-PROCEDURE_TAGS-clause-err g c =
    let stack = ap stack_of c.in-Some.ensures.items ∙ stack_push c.pop.new.self.items c.in-Some.goal in
    let leads = subst (λ gs. Leads g.d (goal_of c.args.first ∷ []) gs c.loop-goal.tags.items) stack
    c.loop-goal.invariant.leads in (
      c.loop-goal.tags.items,
      record {
        chosen = leads_end g.d (goal_of c.args.first ∷ [])
            (goal_of c.in-Some.goal ∷ stack_of c.pop.new.self.items) c.loop-goal.tags.items large leads
            (c.in-Takes.tag, sym c.in_ok-tag.ensures.choice ∙ c.in-Takes.is);
        within = search (rules, arith);
      },
    )

pub returns-clause-ok : goal.returns-clause-ok
returns-clause-ok g c =
    let stack : stack_of c.loop-goal.stack.items ≡ [] =
    no_goals c.loop-goal.stack.items (search (rules, arith)) in
    let leads = subst (λ gs. Leads g.d (goal_of c.args.first ∷ []) gs c.loop-goal.tags.items) stack
    c.loop-goal.invariant.leads in
    record {
      chosen = leads_end g.d (goal_of c.args.first ∷ []) [] c.loop-goal.tags.items proved leads tt;
      within = c.loop-goal.invariant.count;
    }
