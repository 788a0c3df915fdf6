use denote.Param.Send.{AllSync, IsSend, IsSync, sendable, shr_sync, struct_sync, view_send}
use denote.Param.SendFields.{as_row_send, as_row_sync, declared_send, declared_sync, variants_send}
use denote.Ref.{NamedLft, ShrRef}
use denote.Struct.Field.{row_field}
use denote.Signature.{named_lft}
use Rattle.std.proofs.Common.{[], ◌∷◌}
use Rattle.std.proofs.Crossing.{Vec-send, crosses}
use Rattle.std.specs.contracts.alloc.Global as global
use Rattle.std.specs.contracts.option.Option as option
use Rattle.sf_verify.specs.contracts.board.Board as board
use Rattle.sf_verify.specs.contracts.board.Board.TheInside as inside
use Rattle.sf_verify.specs.contracts.board.Found as found
use Rattle.sf_verify.specs.contracts.workers.Shared as shared
use Rattle.sf_verify.proofs.workers.work_all.Goals as goal

place_send : (κ : NamedLft) → IsSend (found.the_row κ) → IsSend (option.the_row (found.the_row κ))
place_send κ f = variants_send (option.enum (found.the_row κ)) (tt, ((as_row_send (row_field (found.the_row κ)) f, tt), tt))

pub call_beside-requires-sync-F : goal.call_beside-requires-sync-F
call_beside-requires-sync-F g c κs within =
    let found_send = c.findings_are_sent.ensures in
    let arranged_sync = c.arranged_programs_are_shared.ensures in
    let b = λ (κ : NamedLft). declared_send (inside.the_type κ g.row.K g.K.Subject)
    (Vec-send (option.the_row (found.the_row κ)) (place_send κ (found_send κ)), (search sendable depth 30, (search sendable depth 30, (search sendable depth 30, tt)))) in
    let board_send : (κ : NamedLft) → IsSend (board.the_row κ g.row.K g.K.Subject) = λ κ. search (view_send, b) in
    let gate_sync : IsSync g.row.G = record { shared = c.type_bounds.sync-G.shared } in
    let shared_sync : (κ κ' : NamedLft) → IsSync (shared.the_row κ κ' g.row.K g.row.G g.K.Subject) =
    λ κ κ'. let places = board_send κ in
    declared_sync (shared.the_type κ κ' g.row.K g.row.G g.K.Subject) (
      search (sendable, arranged_sync) depth 30,
      (
        as_row_sync (row_field (ShrRef κ'.mir κ'.lft g.row.G)) (search (sendable, gate_sync) depth 30),
        (search (sendable, crosses) depth 30, (search (sendable, crosses, places) depth 30, tt)),
      ),
    ) in
    let runtime_sync : IsSync g.row.R = record { shared = c.type_bounds.sync-R.shared } in
    let memory_sync : IsSync global.the_row = search (sendable, crosses) depth 30 in
    let runtime = named_lft 9 4 tt κs in
    let memory = named_lft 9 5 tt κs in
    let work = named_lft 9 6 tt κs in
    let of_work = shared.the_row (named_lft 9 7 tt κs) (named_lft 9 8 tt κs) g.row.K g.row.G g.K.Subject in
    let fields = ShrRef runtime.mir runtime.lft g.row.R ∷ ShrRef memory.mir memory.lft global.the_row
    ∷ ShrRef work.mir work.lft of_work ∷ [] in
    let captured : AllSync fields =
    (shr_sync _ _ _ runtime_sync, (shr_sync _ _ _ memory_sync, (shr_sync _ _ _ (shared_sync _ _), tt))) in
    let by_fields = struct_sync (record { name = []; args = []; types = []; fields = fields }) captured in
    record { shared = λ x b o κ. by_fields.shared (x.0, (x.1, (x.2, tt))) b o κ }
