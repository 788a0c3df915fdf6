-- What is planned for a parallel call that is next.
-- Names: `plan-LAW`.
use Rattle.std.specs.Prelude.{◌≡◌, ◌<◌, ℕ, List, [], ◌∷◌, drop, length, Contains, is_some}
use Rattle.std.proofs.Common.{sym, ap, ◌∙◌, refl, subst, inl, inr, arith}
use Rattle.sf_base.proofs.Elements.{contains-cons}
use Rattle.sf_base.specs.declared.limits.TheConstants.{TURNS}
use Rattle.sf_base.specs.declared.place.Place.{Place}
use Rattle.sf_core.specs.Machine.Config.{Item, command, Fixed, Frame, runs}
use Rattle.sf_core.specs.Machine.Step.{Does, fork_task}
use Rattle.sf_core.specs.Machine.Whole.{running, numbers}
use Rattle.sf_core.specs.Program.Formed.{IsFormed}
use Rattle.sf_core.specs.Program.Heads.{head_regions}
use Rattle.sf_core.specs.Program.Syntax.{Call, Command, fork, Program}
use Rattle.sf_frame.specs.Checked.Effects.{applied}
use Rattle.sf_frame.specs.Checked.Frames.{moved}
use Rattle.sf_frame.specs.Checked.Nexts.{frames_with}
use Rattle.sf_frame.specs.Checked.Plans.{IsReady, PlansCommand}
use Rattle.sf_frame.specs.Commons.{common_of}
use Rattle.sf_frame.specs.declared.effect.Effect.{Effect}
use Rattle.sf_frame.specs.declared.plan.Plan.TheVariants.{Acts, Forks, Refused}
use Rattle.sf_frame.specs.declared.refusal.Refusal.{Refusal}
use Rattle.sf_frame.specs.declared.stack.Change.{Change}
use Rattle.sf_part.specs.Checked.Splitting.{IsForked}
use Rattle.sf_part.specs.Checked.Standing.{Runs}
use Rattle.sf_part.specs.Checked.Stepping.{own_event}
use Rattle.sf_part.specs.declared.part.Part.{Part}
use Rattle.sf_part.specs.declared.splitting.Forked.{Forked}
use Rattle.sf_part.specs.declared.stand.Stand.{Stand as CodeStand}
use Rattle.sf_part.specs.declared.stand.Stand.TheVariants.{Runs as CodeRuns, Waits, Over}
use Rattle.sf_part.specs.Keeps.{Keeps}
use Rattle.sf_part.specs.Of.{FramesAreOf, StandIsOf, inside}
use Rattle.sf_part.specs.PartView.{IsPartOf, part_of}
use Rattle.sf_part.specs.Stands.{stand_in}
use Rattle.sf_part.proofs.Owned.{command-there, command-within}
use Rattle.sf_part.proofs.Ready.{ready-callees, ready-field}
use Rattle.sf_part.proofs.Sites.{sites-first}
use Rattle.sf_part.proofs.Unmade.{unmade-store}

-- a task that has frames to run runs them
pub plan-runs : (stand : CodeStand) (f : Frame) (below : List Frame)
    → stand_in stand ≡ running (f ∷ below) → Runs stand
plan-runs (CodeRuns stack) f below e = tt
plan-runs (Waits stack) f below e = absurd (cc)
plan-runs Over f below e = absurd (let h : [] ≡ f ∷ below = cc in cc)

module _ (p : Program) (a : Part) (number : ℕ) (f : Fixed) (below : List Frame) (c : Command)
    (rest : List Item) (place : Place) (one two : Call) (is : c ≡ fork place one two)
    (stand : stand_in a.stand ≡ running (frames_with f (command c ∷ rest) below)) where
  -- the event has what it rests on
  pub plan-ready : IsFormed p → IsPartOf p a → Keeps (part_of a)
      → numbers a.supply ≡ number ∷ drop 1 (numbers a.supply)
      → IsReady p number (common_of a.shared) f c
  plan-ready formed of keeps units =
      let store = (common_of a.shared).store in
      let frames : FramesAreOf p store (frames_with f (command c ∷ rest) below) =
      subst (StandIsOf p store) stand of.is.stands in
      let caller = frames.0 in
      let outside : head_regions c ≡ [] = ap head_regions is in
      let within = command-within p formed f c rest caller.procedure caller.there
      (caller.todo (record { entered = inside rest; command = c }) (sites-first c rest)) in
      let free = keeps.unmade number (subst (λ z. Contains z number) (sym units)
      ((contains-cons number (drop 1 (numbers a.supply)) number).1 (inl refl))) in
      record {
        written = λ slot w.
            let (v, e) = command-there p formed store f c rest caller outside slot (inr w) in
            ap is_some e;
        callees = ready-callees p caller.procedure c within;
        field = ready-field p caller.procedure c within;
        fresh = unmade-store (common_of a.shared).heap store number free;
      }

  -- its task waits after it
  pub plan-waits : (effect : Effect) (change : Change)
      → PlansCommand p (own_event a number) (common_of a.shared) f below c rest
      (Acts effect change) → ⊥
  plan-waits effect change planned =
      let s = common_of a.shared in
      let ev = own_event a number in
      let after = moved change (frames_with f (command c ∷ rest) below) in
      let d : Does p ev s f below (fork place one two) rest (applied ev effect s) (runs after) =
      subst (λ z. Does p ev s f below z rest (applied ev effect s) (runs after)) is planned.0 in
      let h : runs after ≡ fork_task f.slots one d.1 two d.2 number
      (record { fixed = f; todo = rest } ∷ below) = d.6 in
      absurd (cc)

  -- and there is a turn left
  pub plan-turns : length a.task < TURNS → (why : Refusal)
      → PlansCommand p (own_event a number) (common_of a.shared) f below c rest (Refused why) → ⊥
  plan-turns few why planned =
      let r = subst (λ z. PlansCommand p (own_event a number) (common_of a.shared) f below z rest
      (Refused why)) is planned in
      let many = r.1 in
      absurd (omega arith)

  -- so it is a fork
  pub plan-forked : (x : Forked) → x.callees.0 ≡ one.callee → x.callees.1 ≡ two.callee
      → PlansCommand p (own_event a number) (common_of a.shared) f below c rest
      (Forks x.left x.right) → IsForked p a number x
  plan-forked x left right planned =
      let fork_next = subst (λ z. PlansCommand p (own_event a number) (common_of a.shared) f below z
      rest (Forks x.left x.right)) is planned in
      record {
        fixed = f;
        below = below;
        rest = rest;
        place = place;
        one = one;
        two = two;
        stand = stand ∙ ap (λ z. running (frames_with f (command z ∷ rest) below)) is;
        left_is = left;
        right_is = right;
        does = fork_next.0;
        suits = fork_next.1;
      }
