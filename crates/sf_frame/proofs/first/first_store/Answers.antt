use Rattle.std.proofs.Common.{◌∙◌, ◌-◌, List, Some, ap, cond, get_or}
use Rattle.sf_base.specs.declared.value.Value.{Value}
use Rattle.sf_base.specs.declared.value.Value.TheVariants.{Nil as nil}
use Rattle.sf_core.specs.Machine.Config.{in_room}
use Rattle.sf_core.specs.Machine.Step.{index_of}
use Rattle.sf_frame.specs.Stores.{store_of}
use Rattle.sf_frame.specs.Checked.Frames.{first_slots}
use Rattle.sf_frame.proofs.Firsts.{first_all}
use Rattle.sf_frame.proofs.first.first_store.Goals as goal

pub returns : goal.returns
returns c = first_all c.args.p.now.resources.items c.args.vars.now c.args.count (store_of c.add_resources.new.store)
    (store_of c.open.new.store) (store_of c.new-store.result) c.new-store.ensures (λ slot. c.in_ok-open.ensures.ok slot
    ∙ ap (λ (vs : List Value). cond (in_room (first_slots 0 0 c.args.count) slot)
    (Some (get_or vs (index_of slot - 0) nil)) (store_of c.new-store.result slot)) c.deref.ensures.value)
    c.in_ok-add_resources.ensures
