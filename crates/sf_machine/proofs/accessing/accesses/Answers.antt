use Rattle.std.proofs.Common.{◌≡◌, ◌∙◌, true≢false, true, sym, refl, subst, inl, inr}
use Rattle.sf_core.specs.Machine.Config.{Room, in_room}
use Rattle.sf_core.specs.Program.ProgramView.{program_of}
use Rattle.sf_core.specs.Program.View.{command_of}
use Rattle.sf_machine.specs.Configs.{config_of}
use Rattle.sf_frame.specs.Frames.{fixed_of, room_of}
use Rattle.sf_machine.proofs.Enabling.{accesses_does, accesses_joins, accesses_leaves, accesses_none, accesses_returns, accesses_shut, idle_stays, none_there, there_is, used_fits}
use Rattle.sf_machine.proofs.accessing.accesses.Goals as goal
use Rattle.sf_machine.proofs.accessing.accesses.Goals.{in-Some+in-Does+then-not-is_shut+in_ok-note_reads-in-Does+in_ok-note_writes-in-Does, in-Some+in-Does+else-not-is_shut, in-Some+in-Returns+in_ok-note_room-in-Returns, in-Some+in-Leaves, in-Some+in-Joins, in-Some+in-Nothing, in_default}

pub note_reads-requires : goal.note_reads-requires
note_reads-requires c = λ slot h.
    used_fits (program_of c.args.p.now) (config_of c.args.c.now) c.args.c.now.common.store c.args.task _ slot
    c.args.p.now.formed c.requires refl
    (there_is _ _ c.args.task c.turns.result.now _ c.in-Some.ensures c.turns.ensures c.in-Does.ensures.2) (inl h)

pub note_writes-requires : goal.note_writes-requires
note_writes-requires c = λ slot h.
    used_fits (program_of c.args.p.now) (config_of c.args.c.now) c.args.c.now.common.store c.args.task _ slot
    c.args.p.now.formed c.requires refl
    (there_is _ _ c.args.task c.turns.result.now _ c.in-Some.ensures c.turns.ensures c.in-Does.ensures.2) (inr h)

pub note_room-requires : goal.note_room-requires
note_room-requires c = λ slot h.
    used_fits (program_of c.args.p.now) (config_of c.args.c.now) c.args.c.now.common.store c.args.task _ slot
    c.args.p.now.formed c.requires refl
    (there_is _ _ c.args.task c.turns.result.now _ c.in-Some.ensures c.turns.ensures c.in-Returns.ensures.2)
    (inr (subst (λ (z : Room). in_room z slot ≡ true) (sym c.in-Returns.ensures.3) h))

pub returns : goal.returns
returns c = elim c.match-at.branch [
  | in-Some+in-Does+then-not-is_shut+in_ok-note_reads-in-Does+in_ok-note_writes-in-Does w ↦
      rw (w.reads-is, w.writes-is) (accesses_does (config_of c.args.c.now) c.args.task
      (fixed_of w.in-Does.frame.now) w.in-Does.ensures.0 (command_of w.in-Does.command.now)
      w.in-Does.ensures.1 c.new-reads.result.items _ c.new-writes.result.items _
      (there_is _ _ c.args.task c.turns.result.now _ w.in-Some.ensures c.turns.ensures w.in-Does.ensures.2)
      (λ h. true≢false (sym (w.is_shut.ensures.1 h) ∙ w.if-not-is_shut.true))
      c.new-reads.ensures.items c.new-writes.ensures.items
      w.in_ok-note_reads-in-Does.ensures w.in_ok-note_writes-in-Does.ensures)
  | in-Some+in-Does+else-not-is_shut w ↦
      rw (w.reads-is, w.writes-is) (accesses_shut (config_of c.args.c.now) c.args.task
      (fixed_of w.in-Does.frame.now) w.in-Does.ensures.0 (command_of w.in-Does.command.now)
      w.in-Does.ensures.1 _ _
      (there_is _ _ c.args.task c.turns.result.now _ w.in-Some.ensures c.turns.ensures w.in-Does.ensures.2)
      (w.is_shut.ensures.0 w.if-not-is_shut.false) c.new-reads.ensures.items c.new-writes.ensures.items)
  | in-Some+in-Returns+in_ok-note_room-in-Returns w ↦
      rw (w.reads-is, w.writes-is) (accesses_returns (config_of c.args.c.now) c.args.task
      w.in-Returns.ensures.0 w.in-Returns.ensures.1 (room_of w.in-Returns.room) w.len.result
      _ c.new-writes.result.items _
      (there_is _ _ c.args.task c.turns.result.now _ w.in-Some.ensures c.turns.ensures w.in-Returns.ensures.2)
      w.in-Returns.ensures.3 w.len.ensures.count w.in-Returns.ensures.4
      c.new-reads.ensures.items c.new-writes.ensures.items w.in_ok-note_room-in-Returns.ensures)
  | in-Some+in-Leaves w ↦
      rw (w.reads-is, w.writes-is) (accesses_leaves (config_of c.args.c.now) c.args.task
      w.in-Leaves.ensures.0 w.in-Leaves.ensures.1 w.in-Leaves.field-0 w.in-Leaves.ensures.2 _ _
      (there_is _ _ c.args.task c.turns.result.now _ w.in-Some.ensures c.turns.ensures w.in-Leaves.ensures.3)
      c.new-reads.ensures.items c.new-writes.ensures.items)
  | in-Some+in-Joins w ↦
      rw (w.reads-is, w.writes-is) (accesses_joins (config_of c.args.c.now) c.args.task
      w.in-Joins.ensures.0 w.in-Joins.ensures.1 w.in-Joins.ensures.2 _ _
      (there_is _ _ c.args.task c.turns.result.now _ w.in-Some.ensures c.turns.ensures w.in-Joins.ensures.3)
      w.in-Joins.ensures.4 w.in-Joins.ensures.5 c.new-reads.ensures.items c.new-writes.ensures.items)
  | in-Some+in-Nothing w ↦
      rw (w.reads-is, w.writes-is) (accesses_none (config_of c.args.c.now) c.args.task _ _
      (λ task en. idle_stays (config_of c.args.c.now) c.args.task _ task w.len.result w.len.ensures.count
      w.in-Nothing.ensures
      (there_is _ _ c.args.task c.turns.result.now _ w.in-Some.ensures c.turns.ensures refl) en)
      c.new-reads.ensures.items c.new-writes.ensures.items)
  | in_default w ↦
      rw (w.reads-is, w.writes-is) (accesses_none (config_of c.args.c.now) c.args.task _ _
      (λ task en. none_there c.args.task c.turns.result.now _ task w.in_default.ensures c.turns.ensures en.there)
      c.new-reads.ensures.items c.new-writes.ensures.items)
]
