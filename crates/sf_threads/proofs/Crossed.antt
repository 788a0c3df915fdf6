-- Seats and tables of the kit may cross threads, where what a slot holds may.
-- Names: `TYPE_send`, `TYPE_sync`.
use denote.Builtin.{u64}
use denote.Hole.{as_row}
use denote.RattleType.{RattleType}
use denote.Param.Send.{IsSend, IsSync, part_keyless, sendable}
use denote.Param.SendFields.{declared_sync}
use denote.Struct.Owning.{shape}
use denote.Struct.Struct.{Struct}
use Rattle.std.proofs.Crossing.{frees}
use Rattle.std.specs.contracts.alloc.Global as global
use Rattle.std.specs.contracts.impls.GlobalAllocator.TheImpl.{ghosts}
use Rattle.atomic_table.proofs.Rights.{right_send}
use Rattle.atomic_table.proofs.Sent.{seat_keyless, shares_keyless}
use Rattle.atomic_table.specs.contracts.owned.Table as table
use Rattle.atomic_table.specs.contracts.send_lease.SendLease as lease
use Rattle.atomic_table.specs.contracts.shared.Seat as seat
use Rattle.atomic_table.specs.contracts.shared.Shared as shared
use Rattle.atomic_table.specs.declared.shared.TableRule.{Ghosts}

pub seat_send : (S V : RattleType) → IsSend S → IsSend (seat.the_row S V)
seat_send S V s = record {
  owned = λ d vs. (
    (λ vss. (tt, ((λ uss. (tt, tt)), tt))),
    seat_keyless S s V.coded.code d.table_id d.id d.me,
  );
  leaving = λ k f vs. tt;
}

pub shared_sync : (S V K P : RattleType) (g : Ghosts P.Denot S.Denot V.Denot K.Denot) → IsSend S
    → IsSync (shared.the_row S V K P g)
shared_sync S V K P g s =
    let fields : IsSync (Struct (shape (shared.the_type S V K P g))) = search sendable depth 20 in
    record {
      shared = λ d b o ν. (
        fields.shared (d.words, (d.slots, (tt, tt))) b o ν,
        shares_keyless S s V.coded.code d.table_id (g.holds d.key) d.words d.slots ν,
      );
    }

pub lease_sync : (T : RattleType) → IsSync (lease.the_row T global.the_row ghosts)
lease_sync T = record {
  shared = λ d b o ν q. part_keyless (lease.the_row T global.the_row ghosts)
      (right_send T global.the_row ghosts frees) q d b o;
}

pub table_sync : (S V K P : RattleType) (g : Ghosts P.Denot S.Denot V.Denot K.Denot) → IsSend S
    → IsSync (as_row (table.the_field S V K P global.the_row g ghosts))
table_sync S V K P g s = declared_sync (table.the_type S V K P global.the_row g ghosts) (
  shared_sync S V K P g s,
  (
    search sendable depth 30,
    (
      search sendable depth 30,
      (lease_sync u64, (lease_sync S, (search sendable depth 30, tt))),
    ),
  ),
)
