use denote.Param.Send.{IsSend, IsSync, sendable, shr_send}
use denote.Param.SendFields.{as_row_send, declared_send, variants_send}
use denote.Ref.{NamedLft, ShrRef}
use denote.Struct.Field.{row_field}
use Rattle.std.specs.contracts.alloc.AllocError as alloc_error
use Rattle.std.specs.contracts.result.Result as either
use Rattle.sf_precise.specs.contracts.arranged.Arranged as arranged
use Rattle.sf_region.specs.contracts.regions.Regions as regions
use Rattle.sf_region.specs.contracts.task.Task as task
use Rattle.sf_parting_tests.specs.contracts.meetings.Child as child
use Rattle.sf_parting_tests.proofs.meetings.beside.Goals as goal

-- a child, with the table
child_send : IsSync arranged.the_row → ((κ : NamedLft) → IsSync (regions.the_row κ))
    → ((κ : NamedLft) → IsSend (task.the_row κ)) → (κ κ' : NamedLft) → IsSend (child.the_row κ κ')
child_send program tables tasks κ κ' = declared_send (child.the_type κ κ') (
  as_row_send (row_field (ShrRef κ'.mir κ'.lft arranged.the_row)) (shr_send _ _ _ program),
  (
    as_row_send (row_field (ShrRef κ.mir κ.lft (regions.the_row κ')))
        (shr_send _ _ _ (tables κ')),
    (as_row_send (row_field (task.the_row κ')) (tasks κ'), tt),
  ),
)

-- what it comes to
result_send : ((κ : NamedLft) → IsSend (task.the_row κ)) → (κ : NamedLft)
    → IsSend (either.the_row (task.the_row κ) alloc_error.the_row)
result_send tasks κ = variants_send (either.enum (task.the_row κ) alloc_error.the_row) (
  (as_row_send (row_field (task.the_row κ)) (tasks κ), tt),
  ((search sendable depth 30, tt), tt),
)

pub join-left-requires-send-F : goal.join-left-requires-send-F
join-left-requires-send-F g c κs within =
    let children =
    child_send c.arranged_programs_are_shared.ensures c.tables_are_shared.ensures
    c.tasks_are_sent.ensures in
    search (sendable, children) depth 30

pub join-left-requires-send-A : goal.join-left-requires-send-A
join-left-requires-send-A g c κs within =
    let results = result_send c.tasks_are_sent.ensures in
    search (sendable, results) depth 30
