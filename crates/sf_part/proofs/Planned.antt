-- Plans of private events: what a command's makes of a part.
-- Names: `own-LAW` of a command.
use Rattle.std.specs.Prelude.{◌≡◌, ◌≢◌, ◌⊎◌, ◌<◌, ℕ, zero, suc, List, [], ◌∷◌, drop, length, replicate, slice_index_or, Some, None, Contains}
use Rattle.std.proofs.Common.{sym, ap, ◌∙◌, refl, subst, inl, arith}
use Rattle.sf_base.proofs.Elements.{contains-cons}
use Rattle.sf_base.specs.declared.value.Value.{Value}
use Rattle.sf_base.specs.declared.value.Value.TheVariants.{Nil as nil}
use Rattle.sf_base.specs.HeapStore.{Slot, own}
use Rattle.sf_core.specs.Checked.Machine.InOrder.{regions}
use Rattle.sf_core.specs.Machine.Config.{Item, command, Fixed, Frame, runs, Path}
use Rattle.sf_core.specs.Machine.Enabled.{variable, HasEnded, Reads, Writes}
use Rattle.sf_core.specs.Machine.Next.{does}
use Rattle.sf_core.specs.Machine.Supplies.{has, NextTakes}
use Rattle.sf_core.specs.Machine.Whole.{Range, running, numbers}
use Rattle.sf_core.specs.Program.Formed.{IsFormed}
use Rattle.sf_core.specs.Program.Syntax.{Command, assign, look_up, mutate, new, dispose, if, while, call, fork, with, Program}
use Rattle.sf_core.proofs.Machine.Frames.{goes-not_at_no_cell}
use Rattle.sf_foot.specs.Starting.{HasWidth}
use Rattle.sf_frame.specs.Commons.{common_of}
use Rattle.sf_frame.specs.Checked.Effects.{EffectWithin, HasField}
use Rattle.sf_frame.specs.Checked.Frames.{moved}
use Rattle.sf_frame.specs.Checked.Nexts.{frames_with}
use Rattle.sf_frame.specs.Checked.Plans.{CallsSome, FitsPlan, IsReady, PlansCommand, TakesRoom}
use Rattle.sf_frame.specs.declared.calling.Callee.{Callee}
use Rattle.sf_frame.specs.declared.effect.Effect.{Effect}
use Rattle.sf_frame.specs.declared.effect.Edit.TheVariants.{Nothing, Set, Put, Remove, Free, Close}
use Rattle.sf_frame.specs.declared.effect.Effect.TheVariants.{Edits, Make, Hold, Open, OpenBoth}
use Rattle.sf_frame.specs.declared.plan.Plan.TheVariants.{Acts as acts, Forks as forks, Refused as refused}
use Rattle.sf_frame.specs.declared.refusal.Refusal.{Refusal}
use Rattle.sf_frame.specs.declared.stack.Change.{Change}
use Rattle.sf_heap.specs.Cells.{Cells, FieldValues, cell_of}
use Rattle.sf_part.specs.Answers.{CommandNeedsRoom, GoesOn}
use Rattle.sf_part.specs.Checked.Stepping.{PlansOf, acted, own_event}
use Rattle.sf_part.specs.declared.local.Local.TheVariants.{Spent, Absent}
use Rattle.sf_part.specs.declared.part.Part.{Part}
use Rattle.sf_part.specs.declared.stepping.Plan.TheVariants.{Acts, Says}
use Rattle.sf_part.specs.Keeps.{IsUnmade, Keeps}
use Rattle.sf_part.specs.Of.{FramesAreOf, StandIsOf}
use Rattle.sf_part.specs.PartView.{IsPartOf, part_of}
use Rattle.sf_part.specs.Stands.{stand_in}
use Rattle.sf_part.specs.Steps.{IsLocal}
use Rattle.sf_part.proofs.Beside.{takes-at}
use Rattle.sf_part.proofs.Owned.{Goes, command-there, goes-local}
use Rattle.sf_part.proofs.Ready.{IsMissing, local-outside, local-refused, local-runs, local-takes, ready}
use Rattle.sf_part.proofs.Unmade.{unmade-after, unmade-heap, unmade-store}

-- a command that is the task's own affair takes room only where it makes a cell or calls
pub local-room : (c : Command) → IsLocal c → TakesRoom c → CommandNeedsRoom c
local-room (assign place x e) l t = t
local-room (look_up place x e field) l t = t
local-room (mutate place e field v) l t = t
local-room (new place x) l t = tt
local-room (dispose place e) l t = t
local-room (if place test this that) l t = t
local-room (while place test kept body) l t = t
local-room (call place c) l t = tt
local-room (fork place one two) l t = absurd l
local-room (with place r test body) l t = absurd l

-- so does one that calls
pub calls-room : (c : Command) → IsLocal c → CallsSome c → CommandNeedsRoom c
calls-room (assign place x e) l t = t
calls-room (look_up place x e field) l t = t
calls-room (mutate place e field v) l t = t
calls-room (new place x) l t = absurd t
calls-room (dispose place e) l t = t
calls-room (if place test this that) l t = t
calls-room (while place test kept body) l t = t
calls-room (call place c) l t = tt
calls-room (fork place one two) l t = absurd l
calls-room (with place r test body) l t = absurd l

-- a list of nils has nil everywhere
nils-at : (n field : ℕ) → slice_index_or (replicate n nil) field nil ≡ nil
nils-at zero field = refl
nils-at (suc n) zero = refl
nils-at (suc n) (suc field) = nils-at n field

-- the cell of a `new` has nil in each field
pub blank-cell : (n : ℕ) (values : FieldValues) → values ≡ replicate n nil
    → cell_of values ≡ (λ field. nil)
blank-cell n values e = λ i. λ field. (ap (λ z. slice_index_or z field nil) e ∙ nils-at n field) i

-- a field that is set is there
field-there : (p : Program) (effect : Effect) (cells : Cells) → HasWidth (length p.fields) cells
    → EffectWithin p effect → HasField effect cells
field-there p (Edits (Put at f v)) cells w e =
    λ values h. subst (λ z. f.0 < z) (sym (w at values h)) e
field-there p (Edits Nothing) cells w e = tt
field-there p (Edits (Set spot v)) cells w e = tt
field-there p (Edits (Remove at)) cells w e = tt
field-there p (Edits (Free r)) cells w e = tt
field-there p (Edits (Close room all)) cells w e = tt
field-there p (Make spot) cells w e = tt
field-there p (Hold r) cells w e = tt
field-there p (Open o) cells w e = tt
field-there p (OpenBoth o q) cells w e = tt

-- a task that has something to do hasn't ended
not-ended : (path : Path) (f : Fixed) (i : Item) (rest : List Item) (below : List Frame)
    → HasEnded path (runs (frames_with f (i ∷ rest) below)) → ⊥
not-ended [] f i rest [] h = absurd (cc)
not-ended [] f i rest (g ∷ below) h = h
not-ended (turn ∷ path) f i rest below h = h

-- where there is a next unit, some are left
pub units-left : (supply : List Range) (number : ℕ)
    → numbers supply ≡ number ∷ drop 1 (numbers supply)
    → numbers supply ≢ []
units-left supply number units none = absurd (let h = sym units ∙ none in cc)

-- without a number such a command is not done
pub own-unable : (p : Program) (a : Part) (f : Fixed) (below : List Frame) (c : Command)
    (rest : List Item) → IsLocal c → numbers a.supply ≡ []
    → PlansOf p a (frames_with f (command c ∷ rest) below) (Says Spent)
own-unable p a f below c rest l none = (
  (λ e. absurd (cc)),
  (
    record { going = not-ended a.task f (command c) rest below; private = l },
    none,
  ),
)

module _ (p : Program) (formed : IsFormed p) (a : Part) (keeps : Keeps (part_of a))
    (of : IsPartOf p a)
    (number : ℕ) (units : numbers a.supply ≡ number ∷ drop 1 (numbers a.supply)) where
  -- the number is no location, and no number of a slot
  free-number : IsUnmade (common_of a.shared).heap (common_of a.shared).store number
  free-number = keeps.unmade number (subst (λ z. Contains z number) (sym units)
      ((contains-cons number (drop 1 (numbers a.supply)) number).1 (inl refl)))

  free-slots : (i : ℕ) → (common_of a.shared).store (own number i) ≡ None
  free-slots = unmade-store (common_of a.shared).heap (common_of a.shared).store number free-number

  free-cell : (common_of a.shared).heap number ≡ None
  free-cell = unmade-heap (common_of a.shared).heap (common_of a.shared).store number free-number

  some-units : numbers a.supply ≢ []
  some-units = units-left a.supply number units

  module _ (f : Fixed) (below : List Frame) (c : Command) (rest : List Item) (l : IsLocal c)
      (stand : stand_in a.stand ≡ running (frames_with f (command c ∷ rest) below)) where
    -- the frames are the program's
    frames-of : FramesAreOf p (common_of a.shared).store (frames_with f (command c ∷ rest) below)
    frames-of = subst (StandIsOf p (common_of a.shared).store) stand of.is.stands

    -- the event has what it rests on
    pub own-ready : IsReady p number (common_of a.shared) f c
    own-ready = ready p formed (common_of a.shared) f c rest number frames-of.0 l free-slots

    -- it goes on by itself
    own-goes : GoesOn p (part_of a) (frames_with f (command c ∷ rest) below)
    own-goes = record { going = not-ended a.task f (command c) rest below; private = l }

    -- why its event is none
    pub own-missing : (why : Refusal) → PlansCommand p (own_event a number) (common_of a.shared) f
        below c rest
        (refused why) → IsMissing (common_of a.shared) f c why
    own-missing why h = local-refused (own_event a number) (common_of a.shared) f c why l
        (λ zero. let above = free-number.positive in absurd (omega arith)) free-cell h

    pub own-absent : (why : Refusal) → (m : IsMissing (common_of a.shared) f c why)
        → PlansOf p a (frames_with f (command c ∷ rest) below) (Says (Absent m.root))
    own-absent why m = ((λ e. absurd (cc)), (some-units, m.misses))

    -- no parallel call is planned
    pub own-runs : (one two : Callee)
        → PlansCommand p (own_event a number) (common_of a.shared) f below c rest (forks one two)
        → ⊥
    own-runs one two h = local-runs p (own_event a number) (common_of a.shared) _ f below c rest _ _
        _ l h.0

    module _ (effect : Effect) (change : Change)
        (planned : PlansCommand p (own_event a number) (common_of a.shared) f below c rest
        (acts effect change)) (fits : FitsPlan c (acts effect change)) where
      takes : NextTakes (own_event a number) (does f below c rest) (has (numbers a.supply))
          (has (drop 1 (numbers a.supply)))
      takes = local-takes (own_event a number) c (numbers a.supply) (drop 1 (numbers a.supply)) l
          units refl
          (blank-cell (length p.fields) a.blank of.blank)

      slots : (slot : Slot) → Reads (common_of a.shared).store (does f below c rest) (variable slot)
          ⊎ Writes (common_of a.shared).store (does f below c rest) (variable slot)
          → (v : Value) × ((common_of a.shared).store slot ≡ Some v)
      slots slot h = command-there p formed (common_of a.shared).store f c rest frames-of.0
          (local-outside c l) slot h

      goes : Goes p (common_of a.shared) (frames_with f (command c ∷ rest) below)
          (acted a number effect)
          (runs (moved change (frames_with f (command c ∷ rest) below)))
      goes = goes-local p formed (own_event a number) (common_of a.shared) f below c rest
          (acted a number effect) (runs (moved change (frames_with f (command c ∷ rest) below))) l
          free-slots
          frames-of planned.0

      same-frames : goes.frames ≡ moved change (frames_with f (command c ∷ rest) below)
      same-frames = let e = goes.is in cc

      pub own-acts : PlansOf p a (frames_with f (command c ∷ rest) below)
          (Acts number effect change)
      own-acts = (
        (
          own-goes,
          some-units,
          goes-not_at_no_cell p (own_event a number) (common_of a.shared) (acted a number effect)
              (does f below c rest) (runs (moved change (frames_with f (command c ∷ rest) below)))
              planned.0,
        ),
        record {
          private = l;
          steps = planned.0;
          takes = takes;
          slots = slots;
          own = record {
            suits = planned.1;
            field = field-there p effect a.shared.heap of.wide planned.2;
            unmade = unmade-after p (own_event a number) (common_of a.shared)
                (acted a number effect)
                (does f below c rest) (runs (moved change (frames_with f (command c ∷ rest) below)))
                planned.0
                slots (takes-at p (own_event a number) (does f below c rest)
                (has (numbers a.supply))
                (has (drop 1 (numbers a.supply))) takes);
            held = goes.held;
          };
          of = subst (FramesAreOf p (acted a number effect).store) same-frames goes.of;
          regions = λ r. ap (regions p r) (sym same-frames) ∙ goes.regions r;
          room = λ h. local-room c l (fits h);
        },
      )
