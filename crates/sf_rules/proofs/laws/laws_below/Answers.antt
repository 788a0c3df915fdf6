use Rattle.sf_rules.proofs.laws.laws_below.Goals as goal

pub returns : goal.returns
returns c = record {
  assigned = c.changes_are_assigned.ensures;
  breaches = c.first_breach_is_broken.ensures;
  held = c.held_resources_are_there.ensures;
  decided = c.undetermined_has_place.ensures;
  never = c.never_taken_is_undetermined.ensures;
  ordered = c.determined_has_order.ensures;
  form = c.order_keeps_form.ensures;
}
