-- Plans of private events: what the return of a frame makes of a part.
-- Names: `return-LAW`.
use Rattle.std.specs.Prelude.{◌≡◌, ◌≢◌, ◌⊎◌, ◌==◌, ℕ, true, false, List, [], ◌∷◌, drop, length, Some}
use Rattle.std.proofs.Common.{sym, ap, ◌∙◌, refl, subst, inl, inr}
use Rattle.sf_base.specs.declared.value.Value.{Value}
use Rattle.sf_base.specs.HeapStore.{Slot}
use Rattle.sf_core.specs.Checked.Machine.InOrder.{regions}
use Rattle.sf_core.specs.Machine.Config.{Fixed, Frame, runs, Path, IsCalled}
use Rattle.sf_core.specs.Machine.Enabled.{variable, HasEnded, Reads, Writes}
use Rattle.sf_core.specs.Machine.Next.{returns}
use Rattle.sf_core.specs.Machine.Step.{close_room, free_all_if, TaskStep}
use Rattle.sf_core.specs.Machine.Supplies.{has, NextTakes}
use Rattle.sf_core.specs.Machine.Whole.{running, numbers}
use Rattle.sf_core.specs.Program.Init.{sets_up}
use Rattle.sf_core.specs.Program.Syntax.{Program}
use Rattle.sf_frame.specs.Commons.{common_of}
use Rattle.sf_frame.specs.Checked.Nexts.{frames_with}
use Rattle.sf_frame.specs.declared.effect.Edit.TheVariants.{Close}
use Rattle.sf_frame.specs.declared.effect.Effect.TheVariants.{Edits}
use Rattle.sf_frame.specs.declared.frame.Room.{Room as CodeRoom}
use Rattle.sf_frame.specs.declared.stack.Change.TheVariants.{Return}
use Rattle.sf_frame.specs.Frames.{room_of}
use Rattle.sf_part.specs.Answers.{GoesOn}
use Rattle.sf_part.specs.Checked.Stepping.{PlansOf, acted, own_event}
use Rattle.sf_part.specs.declared.local.Local.TheVariants.{Spent}
use Rattle.sf_part.specs.declared.part.Part.{Part}
use Rattle.sf_part.specs.declared.stepping.Plan.TheVariants.{Acts, Says}
use Rattle.sf_part.specs.Keeps.{Keeps}
use Rattle.sf_part.specs.Of.{FramesAreOf, StandIsOf}
use Rattle.sf_part.specs.PartView.{IsPartOf, part_of}
use Rattle.sf_part.specs.Stands.{stand_in}
use Rattle.sf_part.proofs.Owned.{Goes, goes-return, room-there}
use Rattle.sf_part.proofs.Planned.{units-left}
use Rattle.sf_part.proofs.Unmade.{unmade-after}

-- a frame that is returned from isn't the entry's own
called : (path : Path) (below : List Frame) → ((length path == 0) ≡ true → below ≢ [])
    → IsCalled path below
called [] [] h = h refl refl
called [] (f ∷ below) h = tt
called (turn ∷ path) below h = tt

not-over : (path : Path) (f : Fixed) (below : List Frame) → ((length path == 0) ≡ true → below ≢ [])
    → HasEnded path (runs (frames_with f [] below)) → ⊥
not-over [] f [] h e = h refl refl
not-over [] f (g ∷ below) h e = e
not-over (turn ∷ path) f below h e = e

module _ (p : Program) (a : Part) (f : Fixed) (below : List Frame)
    (alone : (length a.task == 0) ≡ true → below ≢ []) (init : sets_up p f.procedure ≡ false) where
  -- it goes on by itself
  return-goes : GoesOn p (part_of a) (frames_with f [] below)
  return-goes = record { going = not-over a.task f below alone; private = init }

  pub return-spent : numbers a.supply ≡ [] → PlansOf p a (frames_with f [] below) (Says Spent)
  return-spent none = ((λ e. absurd (cc)), (return-goes, none))

  module _ (keeps : Keeps (part_of a)) (of : IsPartOf p a) (number : ℕ)
      (units : numbers a.supply ≡ number ∷ drop 1 (numbers a.supply)) (room : CodeRoom)
      (same : f.room ≡ room_of room) (stand : stand_in a.stand ≡ running (frames_with f [] below))
    where
      -- the frames are the program's
      frames-of : FramesAreOf p (common_of a.shared).store (frames_with f [] below)
      frames-of = subst (StandIsOf p (common_of a.shared).store) stand of.is.stands

      steps : TaskStep p (own_event a number) (common_of a.shared) (runs (frames_with f [] below))
          (acted a number (Edits (Close room false))) (runs below)
      steps = (
        called a.task below alone,
        (λ i. free_all_if (sym init i) (close_room (sym same i) (common_of a.shared))),
        refl,
      )

      slots : (slot : Slot) → Reads (common_of a.shared).store (returns f below) (variable slot)
          ⊎ Writes (common_of a.shared).store (returns f below) (variable slot)
          → (v : Value) × ((common_of a.shared).store slot ≡ Some v)
      slots slot h = elim h [
        | inl r ↦ absurd r
        | inr w ↦ room-there p (common_of a.shared).store (record { fixed = f; todo = [] })
            frames-of.0 slot w
      ]

      takes : NextTakes (own_event a number) (returns f below) (has (numbers a.supply))
          (has (drop 1 (numbers a.supply)))
      takes = subst (λ z. NextTakes (own_event a number) (returns f below) (has z)
          (has (drop 1 (numbers a.supply)))) (sym units)
          (drop 1 (numbers a.supply), (refl, refl), refl)

      goes : Goes p (common_of a.shared) (frames_with f [] below)
          (acted a number (Edits (Close room false))) (runs below)
      goes = goes-return p (common_of a.shared) f below (acted a number (Edits (Close room false)))
          (runs below) init
          frames-of steps.1 refl

      same-frames : goes.frames ≡ below
      same-frames = let e = goes.is in cc

      pub return-acts : PlansOf p a (frames_with f [] below)
          (Acts number (Edits (Close room false)) Return)
      return-acts = (
        (
          return-goes,
          units-left a.supply number units,
          (λ h. h),
        ),
        record {
          private = init;
          steps = steps;
          takes = takes;
          slots = slots;
          own = record {
            suits = tt;
            field = tt;
            unmade = unmade-after p (own_event a number) (common_of a.shared)
                (acted a number (Edits (Close room false)))
                (returns f below) (runs below) steps slots (λ location m. absurd m);
            held = goes.held;
          };
          of = subst (FramesAreOf p (acted a number (Edits (Close room false))).store) same-frames
              goes.of;
          regions = λ r. ap (regions p r) (sym same-frames) ∙ goes.regions r;
          room = λ h. elim h [
            | inl more ↦ absurd more
            | inr more ↦ absurd more
          ];
        },
      )
