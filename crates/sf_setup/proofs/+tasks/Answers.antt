-- Tasks that go on alone, with those that they make.
use denote.Param.{param}
use denote.Param.Send.{IsSend, IsSync, param_send, sendable, struct_send, shr_send}
use denote.Param.SendFields.{as_row_send, declared_send, variants_send}
use denote.RattleType.{RattleType}
use denote.Ref.{NamedLft, ShrRef}
use denote.Struct.Field.{row_field}
use denote.Signature.{named_lft}
use Rattle.std.specs.contracts.result.Result as either
use Rattle.sf_part.specs.contracts.part.Part as part
use Rattle.sf_precise.specs.contracts.arranged.Arranged as arranged
use Rattle.sf_setup.specs.contracts.forks.Child as child
use Rattle.sf_setup.specs.contracts.stop.SetUpStop as stop
use Rattle.std.proofs.Common.{[], ◌∷◌, ◌∙◌, ap, arith, inl, inr, sym, subst, rules}
use Rattle.sf_core.specs.Program.ProgramView.{program_of}
use Rattle.sf_part.specs.declared.local.Local.TheVariants.{Absent, AtExit, AtFork, AtInit, AtRegion, Done, Spent}
use Rattle.sf_part.specs.PartView.{part_of}
use Rattle.sf_part.specs.Steps.{Private}
use Rattle.sf_part.specs.Timed.{TimedPart}
use Rattle.sf_setup.proofs.Meeting.{both-met, both-stopped, drained-later, drained-spent, err-also, ok-also}
use Rattle.sf_setup.proofs.Staying.{alone-same, at-answer, come-ended, come-here, gone-come, gone-moved, gone-nowhere, moved-private, no-absent, no-exit, no-region}
use Rattle.sf_setup.proofs.Units.{other-done, other-fork, other-init, other-spent}
use Rattle.sf_setup.proofs.+tasks.Lts-forks-run_both.{arg-2-1}
use Rattle.sf_setup.proofs.+tasks.Goals as goal

pub alone::run_alone-turns-init : goal.alone::run_alone-turns-init
alone::run_alone-turns-init g t c =
    gone-nowhere c.run_laws.ensures (program_of c.args.p.now.program) c.requires.accepted
    c.args.part c.requires.alone

pub alone::run_alone-turns-smaller : goal.alone::run_alone-turns-smaller
alone::run_alone-turns-smaller g t c =
    let h = rw c.in-Ok-Moves.field-0-is at c.in-Ok-Moves.ensures.turned in
    let later = h.later in
    let limit = h.limit in
    omega (arith, later, limit)

pub alone::run_alone-turns-preserved : goal.alone::run_alone-turns-preserved
alone::run_alone-turns-preserved g t c =
    gone-moved c.run_laws.ensures (program_of c.args.p.now.program) c.requires.accepted
    c.args.part c.turns.part c.in-Ok-Moves.next c.turns.invariant
    (rw c.in-Ok-Moves.field-0-is at c.in-Ok-Moves.ensures.turned)

pub alone::run_alone-returns-in-Ok-Stands-clause-come :
    goal.alone::run_alone-returns-in-Ok-Stands-clause-come
alone::run_alone-returns-in-Ok-Stands-clause-come g t c =
    gone-come c.run_laws.ensures (program_of c.args.p.now.program) c.requires.accepted
    c.args.part c.turns.part c.in-Ok-Stands.last c.turns.invariant
    (rw c.in-Ok-Stands.field-0-is at c.in-Ok-Stands.ensures.turned)

pub alone::run_alone-returns-in-Err-clause-drained :
    goal.alone::run_alone-returns-in-Err-clause-drained
alone::run_alone-returns-in-Err-clause-drained g t c =
    drained-later (program_of c.args.p.now.program) (part_of c.args.part) (part_of c.turns.part)
    c.turns.invariant.events c.in-Err.stop c.turns.invariant.goes c.in-Err.ensures.drained

pub alone::turn-step_local-requires-clause-of : goal.alone::turn-step_local-requires-clause-of
alone::turn-step_local-requires-clause-of g t c =
    c.make_room.ensures.of (program_of c.args.p.now.program) c.requires.alone.of

pub alone::turn-returns-in-Moved-clause-turned : goal.alone::turn-returns-in-Moved-clause-turned
alone::turn-returns-in-Moved-clause-turned g t c =
    let p = program_of c.args.p.now.program in
    let m = c.in_ok-step_local.ensures.moved c.in-Moved.is in
    moved-private c.run_laws.ensures p c.requires.accepted c.args.part c.step_local.new.self m.0
    c.requires.alone c.task-path.ensures.keeps c.step_local.ensures.of
    (subst (λ z. Private p m.0 z (part_of c.step_local.new.self)) c.make_room.ensures.same m.1)

pub alone::turn-returns-in-Done-clause-turned : goal.alone::turn-returns-in-Done-clause-turned
alone::turn-returns-in-Done-clause-turned g t c =
    let p = program_of c.args.p.now.program in
    let other = other-done c.in_ok-step_local.field-0 c.in-Done.is in
    come-here c.run_laws.ensures p c.requires.accepted c.args.part c.step_local.new.self
    c.requires.alone c.task-path.ensures.keeps c.step_local.ensures.of
    (c.in_ok-step_local.ensures.unchanged other ∙ c.make_room.ensures.same)
    (inl (at-answer c.run_laws.ensures p c.requires.accepted c.args.part c.make_room.new.self
    c.in_ok-step_local.field-0 Done c.make_room.ensures.same c.in_ok-step_local.ensures.answers
    c.in-Done.is))

pub alone::turn-returns-in-AtInit-clause-turned : goal.alone::turn-returns-in-AtInit-clause-turned
alone::turn-returns-in-AtInit-clause-turned g t c =
    let p = program_of c.args.p.now.program in
    let other = other-init c.in_ok-step_local.field-0 c.in-AtInit.is in
    come-here c.run_laws.ensures p c.requires.accepted c.args.part c.step_local.new.self
    c.requires.alone c.task-path.ensures.keeps c.step_local.ensures.of
    (c.in_ok-step_local.ensures.unchanged other ∙ c.make_room.ensures.same)
    (inr (at-answer c.run_laws.ensures p c.requires.accepted c.args.part c.make_room.new.self
    c.in_ok-step_local.field-0 AtInit c.make_room.ensures.same c.in_ok-step_local.ensures.answers
    c.in-AtInit.is))

pub alone::turn-fork-requires-clause-alone : goal.alone::turn-fork-requires-clause-alone
alone::turn-fork-requires-clause-alone g t c κs within =
    let p = program_of c.args.p.now.program in
    let other = other-fork c.in_ok-step_local.field-0 c.in-AtFork.is in
    alone-same c.run_laws.ensures p c.requires.accepted c.args.part c.step_local.new.self
    c.requires.alone c.step_local.ensures.of
    (c.in_ok-step_local.ensures.unchanged other ∙ c.make_room.ensures.same)

pub alone::turn-fork-requires-clause-at : goal.alone::turn-fork-requires-clause-at
alone::turn-fork-requires-clause-at g t c κs within =
    let p = program_of c.args.p.now.program in
    let other = other-fork c.in_ok-step_local.field-0 c.in-AtFork.is in
    at-answer c.run_laws.ensures p c.requires.accepted c.step_local.new.self
    c.make_room.new.self c.in_ok-step_local.field-0 AtFork
    (sym (c.in_ok-step_local.ensures.unchanged other)) c.in_ok-step_local.ensures.answers
    c.in-AtFork.is

pub alone::turn-returns-in-Spent-clause-drained : goal.alone::turn-returns-in-Spent-clause-drained
alone::turn-returns-in-Spent-clause-drained g t c =
    let p = program_of c.args.p.now.program in
    let other = other-spent c.in_ok-step_local.field-0 c.in-Spent.is in
    drained-spent p (part_of c.args.part) c.task-path.result c.given.result
    (at-answer c.run_laws.ensures p c.requires.accepted c.args.part c.make_room.new.self
    c.in_ok-step_local.field-0 Spent c.make_room.ensures.same c.in_ok-step_local.ensures.answers
    c.in-Spent.is)
    c.task-path.ensures.path
    (c.given.ensures ∙ ap (λ (z : TimedPart). z.given)
    (c.in_ok-step_local.ensures.unchanged other ∙ c.make_room.ensures.same))

pub alone::turn-unreachable-requires : goal.alone::turn-unreachable-requires
alone::turn-unreachable-requires g t c =
    let p = program_of c.args.p.now.program in
    no-region c.run_laws.ensures p c.requires.accepted c.args.part c.requires.alone
    c.in-AtRegion.field-0
    (at-answer c.run_laws.ensures p c.requires.accepted c.args.part c.make_room.new.self
    c.in_ok-step_local.field-0 (AtRegion c.in-AtRegion.field-0) c.make_room.ensures.same
    c.in_ok-step_local.ensures.answers c.in-AtRegion.is)

pub alone::turn-unreachable-requires-in-AtExit : goal.alone::turn-unreachable-requires-in-AtExit
alone::turn-unreachable-requires-in-AtExit g t c =
    let p = program_of c.args.p.now.program in
    no-exit c.run_laws.ensures p c.requires.accepted c.args.part c.requires.alone
    c.in-AtExit.field-0
    (at-answer c.run_laws.ensures p c.requires.accepted c.args.part c.make_room.new.self
    c.in_ok-step_local.field-0 (AtExit c.in-AtExit.field-0) c.make_room.ensures.same
    c.in_ok-step_local.ensures.answers c.in-AtExit.is)

pub alone::turn-unreachable-requires-in-Absent : goal.alone::turn-unreachable-requires-in-Absent
alone::turn-unreachable-requires-in-Absent g t c =
    let p = program_of c.args.p.now.program in
    no-absent c.run_laws.ensures p c.requires.accepted c.args.part c.requires.alone
    c.in-Absent.field-0
    (at-answer c.run_laws.ensures p c.requires.accepted c.args.part c.make_room.new.self
    c.in_ok-step_local.field-0 (Absent c.in-Absent.field-0) c.make_room.ensures.same
    c.in_ok-step_local.ensures.answers c.in-Absent.is)

pub forks::fork-run_both-requires-clause-parted : goal.forks::fork-run_both-requires-clause-parted
forks::fork-run_both-requires-clause-parted g t c κs within =
    (c.args.part, c.in-Ok.ensures.parted)

pub forks::fork-meet-requires-clause-met : goal.forks::fork-meet-requires-clause-met
forks::fork-meet-requires-clause-met g t c =
    (c.args.part, c.in-Ok-run_both.ensures.met c.args.part c.in-Ok.ensures.parted)

pub forks::fork-returns-in-Ok-run_both-clause-moved :
    goal.forks::fork-returns-in-Ok-run_both-clause-moved
forks::fork-returns-in-Ok-run_both-clause-moved g t c =
    ok-also c.meet.result c.meet.ensures.moved
    (λ x h. h c.args.part (c.in-Ok-run_both.ensures.met c.args.part c.in-Ok.ensures.parted))

pub forks::fork-returns-in-Ok-run_both-clause-drained :
    goal.forks::fork-returns-in-Ok-run_both-clause-drained
forks::fork-returns-in-Ok-run_both-clause-drained g t c =
    err-also c.meet.result c.meet.ensures.drained
    (λ x h. h c.args.part (c.in-Ok-run_both.ensures.met c.args.part c.in-Ok.ensures.parted))

-- a child with the program and the gate
child_send : (G : RattleType) → IsSync G → IsSync arranged.the_row
    → ((κ : NamedLft) → IsSend (part.the_row κ)) → (κ κ' : NamedLft)
    → IsSend (child.the_row κ κ' G)
child_send G gate program parts κ κ' = declared_send (child.the_type κ κ' G) (
  search (sendable, program) depth 30,
  (
    as_row_send (row_field (ShrRef κ.mir κ.lft G)) (search (sendable, gate) depth 30),
    (as_row_send (row_field (part.the_row κ')) (parts κ'), tt),
  ),
)

-- why it stops, and what it comes to
stop_send : IsSend stop.the_row
stop_send = search sendable depth 30

result_send : ((κ : NamedLft) → IsSend (part.the_row κ)) → (κ : NamedLft)
    → IsSend (either.the_row (part.the_row κ) stop.the_row)
result_send parts κ = variants_send (either.enum (part.the_row κ) stop.the_row) (
  (as_row_send (row_field (part.the_row κ)) (parts κ), tt),
  ((as_row_send (row_field stop.the_row) stop_send, tt), tt),
)

pub forks::run_both-join-left-requires-send-F : goal.forks::run_both-join-left-requires-send-F
forks::run_both-join-left-requires-send-F g t c κs within =
    let gate : IsSync (param 1 g.row.G) = search rules in
    let runtime : IsSync (param 0 g.row.R) = search rules in
    let gate_sync : IsSync g.row.G = record { shared = gate.shared } in
    let runtime_sync : IsSync g.row.R = record { shared = runtime.shared } in
    let children = child_send g.row.G gate_sync c.arranged_programs_are_shared.ensures
    c.parts_are_sent.ensures in
    let closure = arg-2-1 g.row.R g.row.G g.R.laws g.G.laws g.R.Threads-dict g.G.Gate-dict κs in
    let runtime_at = named_lft 10 6 tt κs in
    let of_child = child.the_row (named_lft 10 7 tt κs) (named_lft 10 4 tt κs) g.row.G in
    let fields = ShrRef runtime_at.mir runtime_at.lft g.row.R ∷ of_child ∷ [] in
    let by_fields = struct_send (record { name = []; args = []; types = []; fields = fields })
    (shr_send _ _ _ runtime_sync, (children _ _, tt)) in
    let sent : IsSend closure = record {
      owned = λ x vs. by_fields.owned (x.0, (x.1, tt)) vs;
      leaving = λ k x w. by_fields.leaving k (x.0, (x.1, tt)) w;
    } in
    param_send 1 closure sent

pub forks::run_both-join-left-requires-send-A : goal.forks::run_both-join-left-requires-send-A
forks::run_both-join-left-requires-send-A g t c κs within =
    let results = result_send c.parts_are_sent.ensures in
    search (sendable, results) depth 30

pub forks::run_both-join-left-requires-after_bounds :
    goal.forks::run_both-join-left-requires-after_bounds
forks::run_both-join-left-requires-after_bounds g t c κs within =
    let h = c.requires.parted.1 in
    let turns = h.turns in
    let left = h.left_deeper in
    let right = h.right_deeper in (
      (
        search (rules, arith),
        (
          (λ a m. m),
          (
            (λ a m. m),
            (
              (search rules, c.requires.accepted, h.left, h.left_past),
              search rules,
            ),
          ),
        ),
      ),
      (
        search (rules, arith),
        (
          (λ a m. m),
          (
            (λ a m. m),
            (
              (search rules, c.requires.accepted, h.right, h.right_past),
              search rules,
            ),
          ),
        ),
      ),
    )

pub forks::run_both-returns-in-Err-clause-drained :
    goal.forks::run_both-returns-in-Err-clause-drained
forks::run_both-returns-in-Err-clause-drained g t c = λ a h.
    both-stopped (program_of c.args.p.now.program) a c.args.parted c.join-left.result.0
    c.join-left.result.1 h c.join-left.ensures.first.0 c.join-left.ensures.first.1
    c.join-left.ensures.second.0 c.join-left.ensures.second.1 c.in-Err.stop
    c.in-Err.ensures.stops

pub forks::run_both-returns-clause-met : goal.forks::run_both-returns-clause-met
forks::run_both-returns-clause-met g t c = λ a h.
    both-met (program_of c.args.p.now.program) a c.args.parted c.join-left.result.0
    c.join-left.result.1 h c.join-left.ensures.first.0 c.join-left.ensures.first.1
    c.join-left.ensures.second.0 c.join-left.ensures.second.1 c.in-Ok.both.0
    c.in-Ok.both.1 c.in-Ok.ensures.both.0 c.in-Ok.ensures.both.1

pub forks::run_child-returns-clause-ended : goal.forks::run_child-returns-clause-ended
forks::run_child-returns-clause-ended g t c =
    ok-also c.run_alone.result c.run_alone.ensures.come
    (λ b h. come-ended c.run_laws.ensures (program_of c.args.child.p.now.program)
    c.requires.accepted c.args.child.part b c.requires.past h)
