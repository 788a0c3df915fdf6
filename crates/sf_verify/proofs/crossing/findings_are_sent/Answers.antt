use denote.Param.Send.{IsSend, IsSync, sendable}
use denote.Param.SendFields.{as_row_send, declared_send, variants_send}
use denote.Ref.{NamedLft}
use denote.Struct.Field.{row_field}
use Rattle.std.proofs.Crossing.{Vec-send, crosses}
use Rattle.std.specs.contracts.alloc.Global as global
use Rattle.std.specs.contracts.impls.GlobalAllocator.TheImpl.{ghosts}
use Rattle.std.specs.contracts.result.Result as either
use Rattle.std.specs.contracts.vec.Vec as vec
use Rattle.sf_base.specs.contracts.name.Name as name
use Rattle.sf_base.specs.contracts.place.Place as place
use Rattle.sf_core.specs.contracts.assertion.Assertion as assertion
use Rattle.sf_core.specs.contracts.assertion.Test as test
use Rattle.sf_core.specs.contracts.command.Command as command
use Rattle.sf_core.specs.contracts.command.Expr as expr
use Rattle.sf_core.specs.contracts.ordered.Ordered as ordered
use Rattle.sf_search.specs.contracts.verdicts.SearchFault as fault
use Rattle.sf_sym.specs.contracts.goal.Goal as whole
use Rattle.sf_sym.specs.contracts.goal.Item as item
use Rattle.sf_sym.specs.contracts.pending.Pending as pending
use Rattle.sf_sym.specs.contracts.state.State as state
use Rattle.sf_sym.specs.contracts.tag.Tag as tag
use Rattle.sf_verify.specs.contracts.board.Found as found
use Rattle.sf_verify.proofs.crossing.findings_are_sent.Goals as goal

place_send : IsSend place.the_row
place_send = search sendable depth 30

name_sync : IsSync name.the_row
name_sync = search (sendable, crosses) depth 30

test_sync : IsSync (test.the_row expr.the_row)
test_sync = search sendable depth 30

item_send : (κ : NamedLft) → IsSync command.the_row → IsSync assertion.the_row → IsSync ordered.the_row
    → IsSend pending.the_row
    → IsSend (item.the_row κ)
item_send κ c a o p =
    variants_send (item.enum κ) (
      (search (sendable, c) depth 30, tt),
      (
        (place_send, (p, tt)),
        (
          (place_send, (p, (search (sendable, name_sync) depth 30, tt))),
          (
            (place_send, (search (sendable, crosses) depth 30, (search (sendable, crosses) depth 30, tt))),
            (
              (
                place_send,
                (
                  search (sendable, test_sync) depth 30,
                  (search (sendable, a, o) depth 30, (search (sendable, c) depth 30, tt)),
                ),
              ),
              (
                (place_send, (search (sendable, a, o) depth 30, tt)),
                (
                  (place_send, (search sendable depth 30, tt)),
                  (
                    (place_send, (search (sendable, a, o) depth 30, tt)),
                    (
                      (place_send, tt),
                      tt,
                    ),
                  ),
                ),
              ),
            ),
          ),
        ),
      ),
    )

goal_send : (κ : NamedLft) → IsSend (item.the_row κ) → IsSend state.the_row → IsSend (whole.the_row κ)
goal_send κ i s = declared_send (whole.the_type κ) (s, (search (sendable, crosses, i) depth 30, tt))

fault_send : (κ : NamedLft) → IsSend (whole.the_row κ) → IsSend (fault.the_row κ)
fault_send κ g = variants_send (fault.enum κ) (
  (g, (search sendable depth 30, (search sendable depth 30, tt))),
  (tt, (tt, tt)),
)

end_send : (κ : NamedLft) → IsSend tag.the_row → IsSend (fault.the_row κ)
    → IsSend (either.the_row (vec.the_row tag.the_row global.the_row ghosts) (fault.the_row κ))
end_send κ t f =
    variants_send (either.enum (vec.the_row tag.the_row global.the_row ghosts) (fault.the_row κ)) (
      (as_row_send (row_field (vec.the_row tag.the_row global.the_row ghosts)) (Vec-send tag.the_row t), tt),
      ((as_row_send (row_field (fault.the_row κ)) f, tt), tt),
    )

found_send : (κ : NamedLft) → IsSend tag.the_row → IsSend (fault.the_row κ) → IsSend (found.the_row κ)
found_send κ t f = declared_send (found.the_type κ) (end_send κ t f, tt)

pub returns : goal.returns
returns c κ =
    let commands = c.commands_are_shared.ensures in
    let states = c.states_and_tags_are_sent.ensures in
    let orders = c.sets_and_orders_are_shared.ensures in
    let items = item_send κ commands.command commands.assertion orders.ordered states.pending in
    found_send κ states.tag (fault_send κ (goal_send κ items states.state))
