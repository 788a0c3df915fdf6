use denote.Param.{param}
use denote.Param.Send.{IsSend, IsSync, param_send, sendable, shr_send, shr_sync, struct_send}
use denote.Param.SendFields.{as_row_send, as_row_sync, declared_send, declared_sync, variants_send}
use denote.RattleType.{RattleType}
use denote.Ref.{NamedLft, ShrRef}
use denote.Signature.{named_lft}
use denote.Struct.Field.{row_field}
use Rattle.std.specs.Prelude.{IfOk}
use Rattle.std.proofs.Common.{[], ◌∷◌, rules, subst}
use Rattle.std.specs.contracts.result.Result as either
use Rattle.sf_core.specs.Program.ProgramView.{program_of}
use Rattle.sf_part.specs.Answers.{Answers}
use Rattle.sf_part.specs.PartView.{part_of}
use Rattle.sf_precise.specs.contracts.arranged.Arranged as arranged
use Rattle.sf_region.specs.contracts.receipt.Misses as misses
use Rattle.sf_region.specs.contracts.regions.Regions as regions
use Rattle.sf_region.specs.contracts.task.Task as task
use Rattle.sf_threads.specs.contracts.forks.Child as child
use Rattle.sf_threads.specs.contracts.stop.Stop as stop
use Rattle.sf_threads.specs.contracts.tasks.Crew as crew
use Rattle.sf_threads.proofs.Moves.{ended-again, moved-private, no-absence, no-setting, way-more, way-none}
use Rattle.sf_threads.proofs.Parted.{fork-may-meet, if-ended, if-moved}
use Rattle.sf_threads.proofs.+tasks.Lts-forks-fork.{arg-8-1}
use Rattle.sf_threads.specs.Checked.Running.{HasEnded}
use Rattle.sf_threads.proofs.+tasks.Goals as goal

-- what tasks share
crew_sync : (G : RattleType) → IsSync G → IsSync arranged.the_row
    → ((κ : NamedLft) → IsSync (regions.the_row κ)) → (κ κ' : NamedLft)
    → IsSync (crew.the_row κ κ' G)
crew_sync G gate program tables κ κ' = declared_sync (crew.the_type κ κ' G) (
  search (sendable, program) depth 30,
  (
    as_row_sync (row_field (ShrRef κ.mir κ.lft (regions.the_row κ'))) (shr_sync _ _ _ (tables κ')),
    (
      as_row_sync (row_field (ShrRef κ.mir κ.lft G)) (shr_sync _ _ _ gate),
      (search sendable depth 30, tt),
    ),
  ),
)

-- a child with it
child_send : (G : RattleType) → ((κ κ' : NamedLft) → IsSync (crew.the_row κ κ' G))
    → ((κ : NamedLft) → IsSend (task.the_row κ)) → (κ κ' : NamedLft)
    → IsSend (child.the_row κ κ' G)
child_send G crews tasks κ κ' = declared_send (child.the_type κ κ' G) (
  as_row_send (row_field (ShrRef κ.mir κ.lft (crew.the_row κ κ' G)))
      (shr_send _ _ _ (crews κ κ')),
  (as_row_send (row_field (task.the_row κ')) (tasks κ'), tt),
)

-- why it stops, and what it comes to
stop_send : ((κ : NamedLft) → IsSend (misses.the_row κ)) → (κ : NamedLft)
    → IsSend (stop.the_row κ)
stop_send receipts κ = variants_send (stop.enum κ) (
  (search sendable depth 30, (search sendable depth 30, tt)),
  (
    (search sendable depth 30, (search sendable depth 30, (receipts κ, tt))),
    (tt, tt),
  ),
)

result_send : ((κ : NamedLft) → IsSend (task.the_row κ))
    → ((κ : NamedLft) → IsSend (misses.the_row κ)) → (κ κ' : NamedLft)
    → IsSend (either.the_row (task.the_row κ) (stop.the_row κ'))
result_send tasks receipts κ κ' =
    variants_send (either.enum (task.the_row κ) (stop.the_row κ')) (
      (as_row_send (row_field (task.the_row κ)) (tasks κ), tt),
      ((as_row_send (row_field (stop.the_row κ')) (stop_send receipts κ'), tt), tt),
    )

pub forks::fork-join-left-requires-send-F : goal.forks::fork-join-left-requires-send-F
forks::fork-join-left-requires-send-F g t c κs within =
    let gate : IsSync (param 1 g.row.G) = search rules in
    let runtime : IsSync (param 0 g.row.R) = search rules in
    let gate_sync : IsSync g.row.G = record { shared = gate.shared } in
    let runtime_sync : IsSync g.row.R = record { shared = runtime.shared } in
    let crews = crew_sync g.row.G gate_sync c.arranged_programs_are_shared.ensures
    c.tables_are_shared.ensures in
    let children = child_send g.row.G crews c.tasks_are_sent.ensures in
    let closure = arg-8-1 g.row.R g.row.G g.R.laws g.G.laws g.R.Threads-dict g.G.Gate-dict κs in
    let runtime_at = named_lft 10 6 tt κs in
    let of_child = child.the_row (named_lft 10 7 tt κs) (named_lft 10 4 tt κs) g.row.G in
    let fields = ShrRef runtime_at.mir runtime_at.lft g.row.R ∷ of_child ∷ [] in
    let by_fields = struct_send (record { name = []; args = []; types = []; fields = fields })
    (shr_send _ _ _ runtime_sync, (children _ _, tt)) in
    let sent : IsSend closure = record {
      owned = λ x vs. by_fields.owned (x.0, (x.1, tt)) vs;
      leaving = λ k x w. by_fields.leaving k (x.0, (x.1, tt)) w;
    } in
    param_send 1 closure sent

pub forks::fork-join-left-requires-send-A : goal.forks::fork-join-left-requires-send-A
forks::fork-join-left-requires-send-A g t c κs within =
    let results = result_send c.tasks_are_sent.ensures c.receipts_are_sent.ensures in
    search (sendable, results) depth 30

pub forks::fork-meet-requires-clause-meet : goal.forks::fork-meet-requires-clause-meet
forks::fork-meet-requires-clause-meet g t c κs within =
    let p = program_of c.args.crew.now.program.now.program in
    let b = c.args.crew.now.regions.now in
    let f = c.in_ok-waits.field-0 in
    let e = c.in_ok-left.ensures.ended in
    let one : IfOk c.join-left.result.0 (HasEnded p b f.left) = c.join-left.ensures.first.0 in
    let two : IfOk c.join-left.result.1 (HasEnded p b f.right) = c.join-left.ensures.second.0 in (
      c.args.task,
      fork-may-meet c.run_laws.ensures p c.requires.accepted b c.args.task c.requires.running f
          c.in_ok-left.left c.in_ok-left.right c.in_ok-waits.ensures.parted
          (if-ended p b f.left c.in_ok-left.left c.join-left.result.0 one e.0)
          (if-ended p b f.right c.in_ok-left.right c.join-left.result.1 two e.1),
    )

pub forks::fork-returns-clause-moved : goal.forks::fork-returns-clause-moved
forks::fork-returns-clause-moved g t c =
    let p = program_of c.args.crew.now.program.now.program in
    let b = c.args.crew.now.regions.now in
    let f = c.in_ok-waits.field-0 in
    let e = c.in_ok-left.ensures.ended in
    let one : IfOk c.join-left.result.0 (HasEnded p b f.left) = c.join-left.ensures.first.0 in
    let two : IfOk c.join-left.result.1 (HasEnded p b f.right) = c.join-left.ensures.second.0 in
    if-moved p b c.args.task f.waits c.in_ok-left.left c.in_ok-left.right c.meet.result
    c.meet.ensures.moved
    (fork-may-meet c.run_laws.ensures p c.requires.accepted b c.args.task c.requires.running f
    c.in_ok-left.left c.in_ok-left.right c.in_ok-waits.ensures.parted
    (if-ended p b f.left c.in_ok-left.left c.join-left.result.0 one e.0)
    (if-ended p b f.right c.in_ok-left.right c.join-left.result.1 two e.1))

pub tasks::run_task-loop-next-init : goal.tasks::run_task-loop-next-init
tasks::run_task-loop-next-init g t c =
    way-none (program_of c.args.crew.now.program.now.program) c.args.crew.now.regions.now
    c.args.task c.requires.running

pub tasks::run_task-returns-then-has_ended-clause-ended :
    goal.tasks::run_task-returns-then-has_ended-clause-ended
tasks::run_task-returns-then-has_ended-clause-ended g t c =
    ended-again c.run_laws.ensures (program_of c.args.crew.now.program.now.program)
    c.requires.accepted c.args.crew.now.regions.now c.args.task c.loop-next.current
    c.in_ok-next.next c.loop-next.invariant.goes (c.in_ok-next.ensures.ended c.if-has_ended.true)

pub tasks::run_task-loop-next-preserved : goal.tasks::run_task-loop-next-preserved
tasks::run_task-loop-next-preserved g t c =
    way-more c.run_laws.ensures (program_of c.args.crew.now.program.now.program)
    c.requires.accepted c.args.crew.now.regions.now c.args.task c.loop-next.current
    c.in_ok-next.next c.loop-next.invariant (c.in_ok-next.ensures.moved c.if-has_ended.false)

pub tasks::turn-unreachable-requires : goal.tasks::turn-unreachable-requires
tasks::turn-unreachable-requires g t c =
    let p = program_of c.args.crew.now.program.now.program in
    no-setting c.run_laws.ensures p c.requires.accepted c.args.crew.now.regions.now c.args.task
    c.requires.running
    (subst (λ z. Answers p (part_of c.args.task.1) z) c.in-AtInit.is c.in_ok-step.ensures.answers)

pub tasks::turn-unreachable-requires-in-Absent : goal.tasks::turn-unreachable-requires-in-Absent
tasks::turn-unreachable-requires-in-Absent g t c =
    let p = program_of c.args.crew.now.program.now.program in
    no-absence c.run_laws.ensures p c.requires.accepted c.args.crew.now.regions.now c.args.task
    c.in-Absent.field-0 c.requires.running
    (subst (λ z. Answers p (part_of c.args.task.1) z) c.in-Absent.is c.in_ok-step.ensures.answers)

pub tasks::turn-returns-in-Moved-clause-moved : goal.tasks::turn-returns-in-Moved-clause-moved
tasks::turn-returns-in-Moved-clause-moved g t c =
    let p = program_of c.args.crew.now.program.now.program in
    let e = c.in_ok-step.ensures in
    let made = e.moved c.in-Moved.is in
    λ _. moved-private c.run_laws.ensures p c.requires.accepted c.args.crew.now.regions.now
    c.args.task c.step.new.self made.0 c.requires.running made.1 e.goes e.seat
    (e.fresh c.in-Moved.is)
