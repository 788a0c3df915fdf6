-- What a call hands to its callee.
-- Names: `call_LAW`.
use Rattle.std.specs.Prelude.{◌≡◌, ℕ, zero, suc, List, [], ◌∷◌, map}
use Rattle.std.proofs.Common.{◌∙◌, refl}
use Rattle.sf_base.specs.declared.ids.Var.{Var}
use Rattle.sf_base.specs.declared.ids.Var.TheVariants.{Own as own_variable, Shared as shared_variable}
use Rattle.sf_base.specs.HeapStore.{Slot}
use Rattle.sf_core.specs.declared.command.Call.{Call as CodeCall}
use Rattle.sf_core.specs.declared.command.Occurrence.{Occurrence}
use Rattle.sf_core.specs.declared.program.Proc.{Proc}
use Rattle.sf_core.specs.Machine.Step.{callee_frame, own_slot, slots_of}
use Rattle.sf_core.specs.Program.View.{call_of, procedure_of}
use Rattle.sf_frame.specs.declared.frame.Frame.{Frame as CodeFrame}
use Rattle.sf_frame.specs.declared.frame.Room.{Room as CodeRoom}
use Rattle.sf_frame.specs.declared.spot.Spot.{Spot}
use Rattle.sf_frame.specs.Checked.Calls.{AreReferences}
use Rattle.sf_frame.specs.Spots.{slot_of}
use Rattle.sf_frame.specs.Frames.{block_items, frame_of, own_slot_in, room_of, slots_in, todo_of}
use Rattle.sf_frame.proofs.Entries.{items_block}

-- the slots of the callee's own variables
call_own : (caller : Var → Slot) (xs : List Occurrence) (ss : List Spot) (room : CodeRoom)
    → map slot_of ss ≡ map (λ x. caller x.var) xs → (i : ℕ)
    → own_slot_in ss room i ≡ own_slot caller xs (room_of room) i
call_own caller [] [] room e i = refl
call_own caller [] (s ∷ ss) room e i = cc
call_own caller (x ∷ xs) [] room e i = cc
call_own caller (x ∷ xs) (s ∷ ss) room e zero = let first : slot_of s ≡ caller x.var = cc in first
call_own caller (x ∷ xs) (s ∷ ss) room e (suc i) =
    let rest : map slot_of ss ≡ map (λ x. caller x.var) xs = cc in call_own caller xs ss room rest i

-- the slots of the callee's variables
call_slots : (caller : Var → Slot) (c : CodeCall) (ss : List Spot) (room : CodeRoom)
    → AreReferences caller c.references.items ss → (x : Var)
    → slots_in ss room x ≡ slots_of caller (call_of c) (room_of room) x
call_slots caller c ss room e (own_variable i) = call_own caller c.references.items ss room e i
call_slots caller c ss room e (shared_variable r i) = refl

-- the callee's frame
pub call_frame : (caller : Var → Slot) (c : CodeCall) (g : Proc) (frame : CodeFrame) → frame.procedure ≡ c.callee
    → AreReferences caller c.references.items frame.references.items
    → todo_of frame.todo.items ≡ block_items g.body.items
    → frame_of frame ≡ callee_frame caller (call_of c) (procedure_of g) (room_of frame.room)
call_frame caller c g frame e h todo = λ i. record {
  fixed = record {
    procedure = e i;
    slots = λ x. call_slots caller c frame.references.items frame.room h x i;
    room = room_of frame.room;
  };
  todo = (todo ∙ items_block g.body.items) i;
}
