-- What the code finds that a command does.
-- Names: `act_KIND` for each kind of command, `refuse_KIND` where its event is none.
use Rattle.std.specs.Prelude.{◌≡◌, ◌≢◌, ◌⊎◌, ℕ, true, false, Option, Some, None, is_some}
use Rattle.std.specs.FinMap.{get}
use Rattle.std.specs.Option.{option_copied, option_map}
use Rattle.std.proofs.Common.{Bor, true≢false, sym, ap, ◌∙◌, refl, inl, inr}
use Rattle.sf_base.proofs.Options.{is_some-false}
use Rattle.sf_base.specs.declared.ids.FieldId.{FieldId}
use Rattle.sf_base.specs.declared.ids.ResId.{ResId}
use Rattle.sf_base.specs.declared.value.Value.{Value}
use Rattle.sf_base.specs.declared.value.Value.TheVariants.{Loc as loc}
use Rattle.sf_base.specs.HeapStore.{put_field, Heap, Slot}
use Rattle.sf_core.specs.declared.assertion.Test.{Test}
use Rattle.sf_core.specs.declared.command.Expr.{Expr}
use Rattle.sf_core.specs.declared.command.Occurrence.{Occurrence}
use Rattle.sf_core.specs.Assertions.Sat.{IsTrueOf}
use Rattle.sf_core.specs.Machine.Bad.{IsAbsent}
use Rattle.sf_core.specs.Machine.Config.{Fixed, Common, evaluate}
use Rattle.sf_core.specs.Machine.Step.{Event, set_slot, set_cell}
use Rattle.sf_core.specs.Program.Syntax.{Block, Command}
use Rattle.sf_heap.specs.Cells.{Cells, FieldValues, cell_of, heap_of}
use Rattle.sf_frame.specs.declared.act.Act.{Act}
use Rattle.sf_frame.specs.declared.act.Act.TheVariants.{Edits, Makes, Enters, Calls, Forks, Refused}
use Rattle.sf_frame.specs.declared.effect.Edit.TheVariants.{Nothing, Set, Put, Remove}
use Rattle.sf_frame.specs.declared.refusal.Refusal.TheVariants.{Absent, Waiting, Stale}
use Rattle.sf_frame.specs.declared.frame.Way.TheVariants.{Past, Into, Else}
use Rattle.sf_frame.specs.declared.spot.Spot.{Spot}
use Rattle.sf_frame.specs.Refusals.{FindsNone}
use Rattle.sf_frame.specs.Checked.Acts.{IsCellAt, IsCellOf, ActsAssign, ActsDispose, ActsIf, ActsLookUp, ActsMutate, ActsNew, ActsWhile, ActsWith, FitsAct, IsEdit}
use Rattle.sf_frame.specs.Checked.Plans.{TakesRoom}
use Rattle.sf_frame.specs.Spots.{slot_of}

-- an edit takes no room
pub fits_edit : (one : Command) (act : Act) → IsEdit act → FitsAct one act
fits_edit one (Edits edit way) e = tt
fits_edit one (Makes spot) e = absurd e
fits_edit one (Enters r) e = absurd e
fits_edit one (Calls c) e = tt
fits_edit one (Forks c d) e = tt
fits_edit one (Refused why) e = tt

-- a command whose event may take room may do anything
pub fits_room : (one : Command) (act : Act) → TakesRoom one → FitsAct one act
fits_room one (Edits edit way) t = tt
fits_room one (Makes spot) t = t
fits_room one (Enters r) t = t
fits_room one (Calls c) t = tt
fits_room one (Forks c d) t = tt
fits_room one (Refused why) t = tt

-- `x = E`
pub act_assign : (s : Common) (f : Fixed) (x : Occurrence) (e : Expr) (spot : Spot) (v : Value)
    → is_some (s.store (f.slots x.var)) ≡ true → slot_of spot ≡ f.slots x.var
    → v ≡ evaluate f.slots s.store e
    → ActsAssign s f x e (Edits (Set spot v) Past)
act_assign s f x e spot v there same is = λ p ev place below rest. (
  (
    λ i. set_slot (same i) (is i) s,
    refl,
  ),
  ap (λ (z : Slot). is_some (s.store z)) same ∙ there,
  tt,
)

-- `x = E->f`
pub act_look_up : (s : Common) (f : Fixed) (x : Occurrence) (e : Expr) (field : FieldId)
    (spot : Spot)
    (root v : Value) (values : FieldValues) → is_some (s.store (f.slots x.var)) ≡ true
    → slot_of spot ≡ f.slots x.var → root ≡ evaluate f.slots s.store e → IsCellOf s.heap root values
    → v ≡ cell_of values field.0 → ActsLookUp s f x e field (Edits (Set spot v) Past)
act_look_up s f x e field spot root v values there same is k at = λ p ev place below rest. (
  (
    k.location,
    cell_of values,
    record { is = sym is ∙ k.is; there = k.there },
    λ i. set_slot (same i) (at i) s,
    refl,
  ),
  ap (λ (z : Slot). is_some (s.store z)) same ∙ there,
  tt,
)

-- no cell is where the expression says
refuse_at : (see : Expr → Value) (heap : Heap) (e : Expr) (root : Value) → root ≡ see e
    → IsAbsent heap root
    → FindsNone see heap e (Absent root)
refuse_at see heap e root is none = (sym is, none)

-- a look-up that finds no cell
pub refuse_look_up : (s : Common) (f : Fixed) (x : Occurrence) (e : Expr) (field : FieldId)
    (root : Value)
    → root ≡ evaluate f.slots s.store e → IsAbsent s.heap root
    → ActsLookUp s f x e field (Refused (Absent root))
refuse_look_up s f x e field root is none = λ p ev place below rest. refuse_at
    (evaluate f.slots s.store) s.heap e root is none

-- the cell that is there
cell_there : {X : Type 0} (o : Option X) → is_some o ≡ true → (x : X) × (o ≡ Some x)
cell_there None h = absurd (true≢false (sym h))
cell_there (Some x) h = (x, refl)

-- `E->f = F`
pub act_mutate : (s : Common) (f : Fixed) (e : Expr) (field : FieldId) (v : Expr)
    (root value : Value) (at : ℕ)
    → root ≡ evaluate f.slots s.store e → IsCellAt s.heap root at
    → value ≡ evaluate f.slots s.store v
    → ActsMutate s f e field v (Edits (Put at field value) Past)
act_mutate s f e field v root value at is k same = λ p ev place within below rest.
    let here = cell_there (s.heap at) k.there in (
      (
        at,
        here.0,
        record { is = sym is ∙ k.is; there = here.1 },
        λ i. set_cell at (option_map (λ c. put_field c field.0 (same i)) (here.1 i)) s,
        refl,
      ),
      k.there,
      within,
    )

-- a mutation that finds no cell
pub refuse_mutate : (s : Common) (f : Fixed) (e : Expr) (field : FieldId) (v : Expr) (root : Value)
    → root ≡ evaluate f.slots s.store e → IsAbsent s.heap root
    → ActsMutate s f e field v (Refused (Absent root))
refuse_mutate s f e field v root is none = λ p ev place within below rest. refuse_at
    (evaluate f.slots s.store) s.heap e root is none

-- no cell is where none was found
pub none_found : (cells : Cells) (at : ℕ) (r : Option (Bor FieldValues))
    → option_copied r ≡ get cells at
    → is_some r ≡ false → heap_of cells at ≡ None
none_found cells at r e n = ap (option_map cell_of) (sym e ∙ ap option_copied (is_some-false r n))

-- `x = new()`
pub act_new : (ev : Event) (s : Common) (f : Fixed) (x : Occurrence) (spot : Spot)
    → is_some (s.store (f.slots x.var)) ≡ true → slot_of spot ≡ f.slots x.var → ev.at ≢ 0
    → s.heap ev.at ≡ None
    → ActsNew ev s f x (Makes spot)
act_new ev s f x spot there same above none = λ p place below rest. (
  (
    above,
    none,
    λ i. set_slot (same i) (loc ev.at) (set_cell ev.at (Some ev.fields) s),
    refl,
  ),
  (ap (λ (z : Slot). is_some (s.store z)) same ∙ there, none),
  tt,
)

-- a `new` at 0, or at a location that is there
pub refuse_new : (ev : Event) (s : Common) (f : Fixed) (x : Occurrence)
    → (ev.at ≡ 0) ⊎ (s.heap ev.at ≢ None)
    → ActsNew ev s f x (Refused Stale)
refuse_new ev s f x why = λ p place below rest. (refl, why)

-- `dispose(E)`
pub act_dispose : (s : Common) (f : Fixed) (e : Expr) (root : Value) (at : ℕ)
    → root ≡ evaluate f.slots s.store e → IsCellAt s.heap root at
    → ActsDispose s f e (Edits (Remove at) Past)
act_dispose s f e root at is k = λ p ev place below rest.
    let here = cell_there (s.heap at) k.there in (
      (
        at,
        here.0,
        record { is = sym is ∙ k.is; there = here.1 },
        refl,
        refl,
      ),
      tt,
      tt,
    )

-- a dispose that finds no cell
pub refuse_dispose : (s : Common) (f : Fixed) (e : Expr) (root : Value)
    → root ≡ evaluate f.slots s.store e
    → IsAbsent s.heap root → ActsDispose s f e (Refused (Absent root))
refuse_dispose s f e root is none = λ p ev place below rest. refuse_at
    (evaluate f.slots s.store) s.heap e root is none

-- `if (B) C else D` where B is true
pub act_if : (s : Common) (f : Fixed) (test : Test Expr) (this that : Block)
    → IsTrueOf (evaluate f.slots s.store) test → ActsIf s f test this that (Edits Nothing Into)
act_if s f test this that h = λ p ev place below rest. ((refl, inl (h, refl)), tt, tt)

-- and where it isn't
pub act_else : (s : Common) (f : Fixed) (test : Test Expr) (this that : Block)
    → (IsTrueOf (evaluate f.slots s.store) test → ⊥)
    → ActsIf s f test this that (Edits Nothing Else)
act_else s f test this that h = λ p ev place below rest. ((refl, inr (h, refl)), tt, tt)

-- `while (B) C` where B is true
pub act_while : (s : Common) (f : Fixed) (test : Test Expr) (body : Block)
    → IsTrueOf (evaluate f.slots s.store) test → ActsWhile s f test body (Edits Nothing Into)
act_while s f test body h = λ kept p ev place below rest. ((refl, inl (h, refl)), tt, tt)

-- and where it isn't
pub act_leave : (s : Common) (f : Fixed) (test : Test Expr) (body : Block)
    → (IsTrueOf (evaluate f.slots s.store) test → ⊥) → ActsWhile s f test body (Edits Nothing Past)
act_leave s f test body h = λ kept p ev place below rest. ((refl, inr (h, refl)), tt, tt)

-- `with r when (B) C`
pub act_with : (s : Common) (f : Fixed) (r : ResId) (test : Test Expr) (body : Block)
    → s.held r ≡ None
    → IsTrueOf (evaluate f.slots s.store) test → ActsWith s f r test body (Enters r)
act_with s f r test body free h = λ p ev place below rest. ((free, h, refl, refl), tt, tt)

-- a region that is held, or whose condition is false
pub refuse_with : (s : Common) (f : Fixed) (r : ResId) (test : Test Expr) (body : Block)
    → (s.held r ≢ None) ⊎ (IsTrueOf (evaluate f.slots s.store) test → ⊥)
    → ActsWith s f r test body (Refused (Waiting r))
refuse_with s f r test body why = λ p ev place below rest. (refl, why)
