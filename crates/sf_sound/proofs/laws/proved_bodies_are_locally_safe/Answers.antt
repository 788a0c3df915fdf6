use Rattle.sf_sound.proofs.Soundness.{proved_bodies_are_locally_safe}
use Rattle.sf_sound.proofs.laws.proved_bodies_are_locally_safe.Goals as goal

pub returns : goal.returns
returns c = proved_bodies_are_locally_safe (record {
  rows = c.rows_have_laws.ensures;
  first = c.first_goals_are_shaped.ensures;
  keep = c.rows_keep_shape.ensures;
  breaches = c.first_breach_is_broken.ensures;
  changes = c.changes_are_assigned.ensures;
  meaning = c.order_keeps_meaning.ensures;
  determined = c.ordered_is_determined.ensures;
  form = c.order_keeps_form.ensures;
  order = c.determined_has_order.ensures;
})
