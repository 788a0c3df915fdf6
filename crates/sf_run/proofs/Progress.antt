-- That a lone task of a good configuration has ended, waits for a condition, or goes on; and that its run comes to
-- something.
-- Names: `WHAT-progress`, `WHAT-outcome`.
use Rattle.std.specs.Prelude.{◌≡◌, ◌≢◌, ◌⊎◌, ℕ, zero, suc, List, [], ◌∷◌, Some, None}
use Rattle.std.proofs.Common.{true≢false, sym, ap, ◌∙◌, refl, subst, inl, inr, arith}
use Rattle.sf_base.specs.declared.ids.ResId.{ResId}
use Rattle.sf_core.specs.Machine.Alone.{Outcome, finished, spent, waiting, WaitsAlone, event_alone, AloneFrom}
use Rattle.sf_core.specs.Machine.Bad.{TouchesNoCell, IsAtNoCell}
use Rattle.sf_core.specs.Machine.Config.{Item, command, leave, Fixed, Frame, runs, Config, evaluate}
use Rattle.sf_core.specs.Machine.Enabled.{cell, HasEnded, IsShut, IsBlocked, IsEnabled}
use Rattle.sf_core.specs.Machine.Good.{Good}
use Rattle.sf_core.specs.Checked.Machine.InOrder.{IsInOrder}
use Rattle.sf_core.specs.Checked.Machine.Laws.{CommandMakes, Makes, CommandMayStop, MayStop}
use Rattle.sf_core.specs.Machine.Next.{Next, does, leaves, returns, joins, nothing, frame_next, next}
use Rattle.sf_core.specs.Machine.SpentWaits.{IsAtRegion}
use Rattle.sf_core.specs.Machine.Step.{task_with}
use Rattle.sf_core.specs.Machine.Supplies.{units}
use Rattle.sf_core.specs.Program.Formed.{IsFormed}
use Rattle.sf_core.specs.Program.Syntax.{Command, assign, look_up, mutate, new, dispose, if, while, call, fork, with, Procedure, Program}
use Rattle.sf_core.proofs.Machine.InOrder.Kept.{step-keeps}
use Rattle.sf_core.proofs.Machine.InOrder.Met.{task-may_stop}
use Rattle.sf_core.proofs.Machine.Progress.{enabled-or_stop}
use Rattle.sf_run.specs.Checked.Laws.{GoesAlone, StaysGood}
use Rattle.sf_run.specs.Checked.Lone.{IsLone, IsFreeFrom}
use Rattle.sf_run.proofs.Regions.{NeverReenters, IsApart, step-apart, region-free}
use Rattle.sf_run.proofs.Units.{step-free}

-- whether a task with these frames has ended
ended-or_not : (frames : List Frame) → HasEnded [] (runs frames) ⊎ (HasEnded [] (runs frames) → ⊥)
ended-or_not [] = inl tt
ended-or_not (f ∷ []) = go f.todo refl
  where
    go : (todo : List Item) → f.todo ≡ todo → (f.todo ≡ []) ⊎ (f.todo ≡ [] → ⊥)
    go [] e = inl e
    go (item ∷ todo) e = inr (λ i. let none : item ∷ todo ≡ [] = sym e ∙ i in absurd (cc))
ended-or_not (f ∷ g ∷ below) = inr (λ h. h)

-- whether a lone task has
lone-ended : (p : Program) (c : Config) → IsLone p c
    → HasEnded [] c.tasks ⊎ (HasEnded [] c.tasks → ⊥)
lone-ended p c k = subst (λ z. HasEnded [] z ⊎ (HasEnded [] z → ⊥)) (sym k.alone) (ended-or_not k.frames)

module _ (p : Program) (g : Procedure) (unit : ℕ) (c : Config) (o : IsInOrder p g c) (good : Good p c)
    (free : IsFreeFrom unit c) (going : HasEnded [] c.tasks → ⊥)
    (open_ : (r : ResId) → IsAtRegion c [] r → c.common.held r ≡ None) where
  -- the unit is not the start's number
  unit-not_zero : unit ≢ 0
  unit-not_zero e = true≢false (sym o.start ∙ ap c.used (sym e) ∙ (free unit (omega arith)).0)

  at-unit : (location : ℕ) → cell location ≡ cell unit → (location ≢ 0) × (c.common.heap location ≡ None)
  at-unit location e =
      let same : location ≡ unit = cc in
      (λ z. unit-not_zero (sym same ∙ z), ap c.common.heap same ∙ (free unit (omega arith)).1)

  -- what a command makes is a cell at the unit
  command-makes : (one : Command) (location : ℕ) → CommandMakes p (event_alone unit) one (cell location)
      → (location ≢ 0) × (c.common.heap location ≡ None)
  command-makes (assign place x e) location m = absurd m
  command-makes (look_up place x e field) location m = absurd m
  command-makes (mutate place e field v) location m = absurd m
  command-makes (new place x) location m = at-unit location m
  command-makes (dispose place e) location m = absurd m
  command-makes (if place test this that) location m = absurd m
  command-makes (while place test kept body) location m = absurd m
  command-makes (call place one) location m = absurd m.2
  command-makes (fork place one two) location m = absurd (elim m.4 [ inl h ↦ h | inr h ↦ h ])
  command-makes (with place r test body) location m = absurd m

  next-makes : (n : Next) (location : ℕ) → Makes p (event_alone unit) n (cell location)
      → (location ≢ 0) × (c.common.heap location ≡ None)
  next-makes (does f below one rest) location m = command-makes one location m
  next-makes (leaves f below r rest) location m = absurd m
  next-makes (returns f below) location m = absurd m
  next-makes (joins frames one two) location m = absurd m
  next-makes nothing location m = absurd m

  -- a region that the task is at isn't shut
  command-open : (f : Fixed) (one : Command) (rest : List Item) (below : List Frame)
      → c.tasks ≡ task_with f (command one ∷ rest) below → IsShut c.common.held one → ⊥
  command-open f (with place r test body) rest below alone shut = shut (open_ r (record {
    frame = f;
    below = below;
    place = place;
    test = test;
    body = body;
    rest = rest;
    there = ap Some alone;
  }))
  command-open f _ rest below alone shut = absurd shut

  frame-open : (f : Fixed) (todo : List Item) (below : List Frame) → c.tasks ≡ task_with f todo below
      → IsBlocked c.common.held (frame_next f below todo) → ⊥
  frame-open f [] below alone b = b
  frame-open f (command one ∷ rest) below alone b = command-open f one rest below alone b
  frame-open f (leave r ∷ rest) below alone b = b

  -- the task needn't wait for others
  lone-open : (frames : List Frame) → c.tasks ≡ runs frames → IsBlocked c.common.held (next (runs frames)) → ⊥
  lone-open [] alone b = b
  lone-open (f ∷ below) alone b = frame-open f.fixed f.todo below alone b

  module _ (enabled : IsEnabled c [] c.tasks) where
    -- it isn't about to touch an absent cell
    never-absent : IsAtNoCell c.common (next c.tasks) → ⊥
    never-absent h = good.never_bad (inl (record { path = []; task = c.tasks; enabled = enabled; absent = h }))

    -- what may keep it is that it waits
    command-waits : (f : Fixed) (one : Command) (rest : List Item) (below : List Frame)
        → c.tasks ≡ task_with f (command one ∷ rest) below
        → (TouchesNoCell (evaluate f.slots c.common.store) c.common.heap one → ⊥)
        → CommandMayStop [] c.common f one → (r : ResId) × WaitsAlone c r
    command-waits f (fork place one two) rest below alone touch m = absurd (omega (arith, m))
    command-waits f (with place r test body) rest below alone touch m = (
      r,
      (
        record {
          frame = f;
          below = below;
          place = place;
          test = test;
          body = body;
          rest = rest;
          there = ap Some alone;
        },
        m,
      ),
    )
    command-waits f (assign place x e) rest below alone touch m = absurd (touch m)
    command-waits f (look_up place x e field) rest below alone touch m = absurd (touch m)
    command-waits f (mutate place e field v) rest below alone touch m = absurd (touch m)
    command-waits f (new place x) rest below alone touch m = absurd (touch m)
    command-waits f (dispose place e) rest below alone touch m = absurd (touch m)
    command-waits f (if place test this that) rest below alone touch m = absurd (touch m)
    command-waits f (while place test kept body) rest below alone touch m = absurd (touch m)
    command-waits f (call place one) rest below alone touch m = absurd (touch m)

    frame-waits : (f : Fixed) (todo : List Item) (below : List Frame) → c.tasks ≡ task_with f todo below
        → MayStop [] c.common (frame_next f below todo) → (r : ResId) × WaitsAlone c r
    frame-waits f [] below alone m = absurd m
    frame-waits f (command one ∷ rest) below alone m = command-waits f one rest below alone
        (λ h. never-absent (subst (λ z. IsAtNoCell c.common (next z)) (sym alone) h)) m
    frame-waits f (leave r ∷ rest) below alone m = absurd m

    lone-waits : (frames : List Frame) → c.tasks ≡ runs frames → MayStop [] c.common (next (runs frames))
        → (r : ResId) × WaitsAlone c r
    lone-waits [] alone m = absurd m
    lone-waits (f ∷ below) alone m = frame-waits f.fixed f.todo below alone m

    lone-goes : (frames : List Frame) → c.tasks ≡ runs frames → GoesAlone p unit c
    lone-goes frames alone =
        elim (enabled-or_stop p (event_alone unit) c c.tasks enabled (free unit (omega arith)).0
        (next-makes (next c.tasks))) [
          | inl k ↦ inr (inr k)
          | inr s ↦ inr (inl (lone-waits frames alone
              (subst (λ z. MayStop [] c.common (next z)) alone
              (task-may_stop p g c [] o c.tasks refl s))))
        ]

  -- a lone task that hasn't ended goes on, or waits
  going-progress : IsLone p c → GoesAlone p unit c
  going-progress k = lone-goes (record {
    there = refl;
    going = going;
    free = λ b. lone-open k.frames k.alone (subst (λ z. IsBlocked c.common.held (next z)) k.alone b);
  }) k.frames k.alone

-- so does each lone task that is apart, or it has ended
pub lone-progress : (p : Program) (g : Procedure) (unit : ℕ) (c : Config) → NeverReenters p → IsInOrder p g c
    → Good p c → IsFreeFrom unit c → IsApart p c → GoesAlone p unit c
lone-progress p g unit c n o good free k = elim (lone-ended p c k.lone) [
  | inl h ↦ inl h
  | inr going ↦ going-progress p g unit c o good free going (λ r at. region-free p g c r n o k at) k.lone
]

-- from such a configuration each number of units leads to an outcome
pub lone-outcome : (p : Program) (g : Procedure) (count base : ℕ) (c : Config) → IsFormed p → NeverReenters p
    → IsInOrder p g c → IsApart p c → StaysGood p c → IsFreeFrom base c
    → (out : Outcome) × AloneFrom p c (units base count) out
lone-outcome p g zero base c formed n o k good free = elim (lone-ended p c k.lone) [
  | inl h ↦ (finished c, inl (h, refl))
  | inr going ↦ (spent, inr (going, refl))
]
lone-outcome p g (suc count) base c formed n o k good free = elim (lone-ended p c k.lone) [
  | inl h ↦ (finished c, inl (h, refl))
  | inr going ↦ elim (lone-progress p g base c n o (good [] c refl) free k) [
    | inl h ↦ absurd (going h)
    | inr (inl (r, w)) ↦ (waiting r, inr (going, inl (r, w, refl)))
    | inr (inr (d, s)) ↦
        let later = lone-outcome p g count (suc base) d formed n (step-keeps p g (event_alone base) c d formed o s)
        (step-apart p (event_alone base) c d n k s) (λ events e r. good (event_alone base ∷ events) e (d, s, r))
        (step-free p base c d free s) in
        (later.0, inr (going, inr (d, s, later.1)))
  ]
]
