-- A task that sets the resources up, or was made by one that does, comes to no region, and its
-- forks make only such tasks.
-- Names: `none-WHO` takes no resource; `quiet-LAW`.
use Rattle.std.specs.Prelude.{◌≡◌, ◌⊎◌, ℕ, true, false, List, [], ◌∷◌, None, Contains}
use Rattle.std.proofs.Common.{true≢false, sym, ap, ◌∙◌, refl, subst, inl, inr}
use Rattle.sf_base.proofs.Elements.{contains-cons, contains-rest, contains-single, contains-single_of}
use Rattle.sf_base.specs.declared.ids.ProcId.{ProcId}
use Rattle.sf_base.specs.declared.ids.ResId.{ResId}
use Rattle.sf_base.specs.declared.place.Place.{Place}
use Rattle.sf_calls.specs.Checked.Lemmas.Least.{takes_within}
use Rattle.sf_calls.specs.Conditions.{Calls, Takes}
use Rattle.sf_calls.specs.FirstBreach.{Conditions}
use Rattle.sf_calls.specs.Reaches.{directly, through}
use Rattle.sf_core.specs.Machine.Config.{Item, command, leave, Fixed, Frame, runs, waits}
use Rattle.sf_core.specs.Machine.HasThroughout.{HasThroughout}
use Rattle.sf_core.specs.Machine.Next.{does, leaves, returns, frame_next, next}
use Rattle.sf_core.specs.Machine.Step.{Event, Does, TaskStep, callee_frame, room_count, room_for}
use Rattle.sf_core.specs.Machine.Whole.{Part, running}
use Rattle.sf_core.specs.Program.Formed.{IsFormed}
use Rattle.sf_core.specs.Program.Heads.{head_calls}
use Rattle.sf_core.specs.Program.Init.{sets_up}
use Rattle.sf_core.specs.Program.Syntax.{Call, Command, fork, with, Program}
use Rattle.sf_frame.specs.Checked.Nexts.{frames_with}
use Rattle.sf_own.specs.Checked.Safe.{IsSafe, own_of}
use Rattle.sf_part.specs.Checked.Lemmas.Shapes.{next-shape}
use Rattle.sf_part.proofs.Orders.{has-called}
use Rattle.sf_part.proofs.Sites.{sites-first}
use Rattle.sf_part.proofs.Unheld.{held-called, held-entered}
use Rattle.sf_part.specs.Answers.{Answers}
use Rattle.sf_part.specs.Checked.LawsOfGoing.{IsPastSetup}
use Rattle.sf_part.specs.Checked.LawsOfSettingUp.{IsSettingUp}
use Rattle.sf_part.specs.declared.local.Local.TheVariants.{AtExit, AtRegion}
use Rattle.sf_part.specs.Lent.{Lends}
use Rattle.sf_part.specs.Of.{AreInOrder, FrameIsOf, FramesAreOf, IsOf, StandIsOf, frames_in, inside}
use Rattle.sf_part.specs.Steps.{common_of, IsEntry, IsExit}
use Rattle.sf_part.specs.Timed.{TimedPart}
use Rattle.sf_safe.specs.Checked.Contract.{Known}
use Rattle.sf_safe.specs.Checked.Invariant.{Callers, Running, known}
use Rattle.sf_safe.specs.Checked.Own.{Own}
use Rattle.sf_setup.proofs.Goes.{HasSetter}
use Rattle.sf_setup.specs.Checked.Alone.{IsBelow}

module _ (p : Program) (formed : IsFormed p) (conditions : Conditions p) (r : ResId) where
  -- the procedure that sets the resources up holds all of them, so it takes none
  none-setter : (n : ProcId) → sets_up p n ≡ true → Takes p n r → ⊥
  none-setter n up takes = go takes (inr (up, takes_within p formed n r takes))
    where
      go : Takes p n r → HasThroughout p n r → ⊥
      go (directly enters) = held-entered p formed conditions r n enters
      go (through f calls more) = held-called p formed conditions r n f calls more

  -- nor does what is called above it
  none-above : (f : Frame) (below : List Frame) → AreInOrder p (f ∷ below)
      → HasSetter p (f ∷ below) → Takes p f.fixed.procedure r → ⊥
  none-above f [] order (s, m, up) takes = none-setter f.fixed.procedure
      (ap (λ (z : Frame). sets_up p z.fixed.procedure) (contains-single f s m) ∙ up) takes
  none-above f (g ∷ more) (entered, inr (so, nothing, none), o) h takes =
      none-setter f.fixed.procedure so takes
  none-above f (g ∷ more) (entered, inl called, o) (s, m, up) takes =
      elim ((contains-cons f (g ∷ more) s).0 m) [
        | inl same ↦ none-setter f.fixed.procedure
            (ap (λ (z : Frame). sets_up p z.fixed.procedure) same ∙ up) takes
        | inr k ↦ none-above g more o (s, k, up)
            (through f.fixed.procedure (has-called p g f.fixed.procedure called) takes)
      ]

  -- nor what is called by what takes none
  none-called : (owed : Known) (n : ℕ) (f : Frame) (values : ℕ → _) (below : List Frame) (w : Own)
      → Callers p n (known f values) below owed w → AreInOrder p (f ∷ below)
      → ((g : Frame) → Contains (f ∷ below) g → sets_up p g.fixed.procedure ≡ false)
      → (Takes p owed.fixed.procedure r → ⊥) → Takes p f.fixed.procedure r → ⊥
  none-called owed n f values [] w (same, nothing) order past none takes =
      none (subst (λ (z : Known). Takes p z.fixed.procedure r) same takes)
  none-called owed n f values (g ∷ more) w (others, k) (entered, inl called, order) past none takes =
      none-called owed n g others more k.right k.second order
      (λ z m. past z (contains-rest f (g ∷ more) z m)) none
      (through f.fixed.procedure (has-called p g f.fixed.procedure called) takes)
  none-called owed n f values (g ∷ more) w h (entered, inr (so, nothing, alone), order) past none takes =
      absurd (true≢false (sym so ∙ past f ((contains-cons f (g ∷ more) f).1 (inl refl))))

-- the procedure of a list of one frame
first-procedure : {f g : Frame} → f ∷ [] ≡ g ∷ [] → f.fixed.procedure ≡ g.fixed.procedure
first-procedure {f} {g} e = let same : f ≡ g = cc in ap (λ (z : Frame). z.fixed.procedure) same

-- a task of which that is so
module _ (p : Program) (formed : IsFormed p) (conditions : Conditions p) (owed : Known) (a : Part)
    (of : IsOf p a) (safe : IsSafe p owed a)
    (quiet : IsSettingUp p a ⊎ IsBelow p owed a) where
  -- its innermost frame's procedure takes no resource
  pub quiet-top : (f : Frame) (below : List Frame) → a.stand ≡ running (f ∷ below) → (r : ResId)
      → Takes p f.fixed.procedure r → ⊥
  quiet-top f below stand r takes = elim quiet [
    | inl up ↦ none-above p formed conditions r f below order
        (subst (λ z. HasSetter p (frames_in z)) stand up) takes
    | inr h ↦
        let past = subst (λ z. (g : Frame) → Contains (frames_in z) g
        → sets_up p g.fixed.procedure ≡ false) stand h.past in
        none-called p formed conditions r owed 0 f running_safe.0 below running_safe.1.right
        running_safe.1.second order past (h.takes r) takes
  ]
    where
      order : AreInOrder p (f ∷ below)
      order = subst (λ z. AreInOrder p (frames_in z)) stand of.order

      same : safe.frames ≡ f ∷ below
      same = let e : running safe.frames ≡ running (f ∷ below) = sym safe.runs ∙ stand in cc

      running_safe : Running p 0 owed (f ∷ below) (own_of a)
      running_safe = subst (λ z. Running p 0 owed z (own_of a)) same (safe.safe 0)

  -- so it is at no region
  pub quiet-region : (frames : List Frame) (r : ResId) → a.stand ≡ running frames
      → IsEntry (next (runs frames)) r → ⊥
  quiet-region frames r stand (f, below, place, test, body, rest, is) =
      let shape = next-shape frames f below (with place r test body) rest is in
      let here : a.stand ≡ running (frames_with f (command (with place r test body) ∷ rest) below) =
      stand ∙ ap running shape in
      let top : FramesAreOf p a.store (frames_with f (command (with place r test body) ∷ rest) below)
      = subst (StandIsOf p a.store) here of.stands in
      quiet-top (record { fixed = f; todo = command (with place r test body) ∷ rest }) below here r
      (directly (
        (top.0).procedure,
        (top.0).there,
        (
          record { entered = inside rest; command = with place r test body },
          (top.0).todo _ (sites-first (with place r test body) rest),
          contains-single_of r r refl,
        ),
      ))

  -- and leaves none
  pub quiet-exit : (frames : List Frame) (r : ResId) → a.stand ≡ running frames
      → IsExit (next (runs frames)) r → ⊥
  quiet-exit [] r stand (f, below, rest, is) = absurd (cc)
  quiet-exit (g ∷ others) r stand (f, below, rest, is) = go g.todo refl
    where
      go : (todo : List Item) → g.todo ≡ todo → ⊥
      go [] e = let k : returns g.fixed others ≡ leaves f below r rest =
          sym (ap (frame_next g.fixed others) e) ∙ is in cc
      go (command c ∷ todo) e = let k : does g.fixed others c todo ≡ leaves f below r rest =
          sym (ap (frame_next g.fixed others) e) ∙ is in cc
      go (leave q ∷ todo) e =
          let k : leaves g.fixed others q todo ≡ leaves f below r rest =
          sym (ap (frame_next g.fixed others) e) ∙ is in
          let same : q ≡ r = cc in
          let todo_is : g.todo ≡ leave r ∷ todo = e ∙ ap (λ z. leave z ∷ todo) same in
          let order : AreInOrder p (g ∷ others) =
          subst (λ z. AreInOrder p (frames_in z)) stand of.order in
          quiet-top g others stand r
          (directly ((order.0).regions r
          (subst (λ z. Contains (inside z) r) (sym todo_is)
          ((contains-cons r (inside todo) r).1 (inl refl)))))

  pub quiet-no_region : (t : TimedPart) → t.part ≡ a → (r : ResId) → Answers p t (AtRegion r) → ⊥
  quiet-no_region t e r (frames, stand, entry) =
      quiet-region frames r (ap (λ (z : Part). z.stand) (sym e) ∙ stand) entry

  pub quiet-no_exit : (t : TimedPart) → t.part ≡ a → (r : ResId) → Answers p t (AtExit r) → ⊥
  quiet-no_exit t e r (frames, stand, exit) =
      quiet-exit frames r (ap (λ (z : Part). z.stand) (sym e) ∙ stand) exit

-- a child that begins with one frame doesn't set the resources up
pub child-past : (p : Program) (a : Part) (f : Frame) → IsOf p a → a.stand ≡ running (f ∷ [])
    → IsPastSetup p a
child-past p a f of stand =
    let order : AreInOrder p (f ∷ []) = subst (λ z. AreInOrder p (frames_in z)) stand of.order in
    subst (λ z. (g : Frame) → Contains (frames_in z) g → sets_up p g.fixed.procedure ≡ false)
    (sym stand)
    (λ g m. ap (λ (z : Frame). sets_up p z.fixed.procedure) (sym (contains-single f g m))
    ∙ order.1)

-- what such a child owes is what its frame owes
child-owed : (p : Program) (owed : Known) (a : Part) (f : Frame) → IsSafe p owed a
    → a.stand ≡ running (f ∷ []) → owed.fixed ≡ f.fixed
child-owed p owed a f safe stand =
    let same : safe.frames ≡ f ∷ [] =
    let e : running safe.frames ≡ running (f ∷ []) = sym safe.runs ∙ stand in cc in
    let h : Running p 0 owed (f ∷ []) (own_of a) =
    subst (λ z. Running p 0 owed z (own_of a)) same (safe.safe 0) in
    ap (λ (z : Known). z.fixed) (sym (h.1.second).0)

-- what a fork calls takes no resource either
module _ (p : Program) (formed : IsFormed p) (conditions : Conditions p) (owed : Known)
    (event : Event) (a b one two : TimedPart) (x : Lends p event a b one two)
    (of : IsOf p a.part) (safe : IsSafe p owed a.part)
    (quiet : IsSettingUp p a.part ⊎ IsBelow p owed a.part) where
  module _ (f : Fixed) (below : List Frame) (place : Place) (c d : Call) (rest : List Item)
      (is : next (runs x.forks.frames) ≡ does f below (fork place c d) rest) where
    abbrev now : List Frame
    now = frames_with f (command (fork place c d) ∷ rest) below

    shape : x.forks.frames ≡ now
    shape = next-shape x.forks.frames f below (fork place c d) rest is

    stand : a.part.stand ≡ running now
    stand = x.forks.acts.from_is ∙ ap running shape

    step : Does p event (common_of a.part) f below (fork place c d) rest (common_of x.forks.all)
        (waits x.forks.kept (runs x.forks.left_frames) (runs x.forks.right_frames))
    step = subst (λ z. TaskStep p event (common_of a.part) (runs z) (common_of x.forks.all)
        (waits x.forks.kept (runs x.forks.left_frames) (runs x.forks.right_frames))) shape
        x.forks.acts.steps

    none-callee : (e : Call) → Contains (head_calls (fork place c d)) e → (r : ResId)
        → Takes p e.callee r → ⊥
    none-callee e k r takes =
        let top : FramesAreOf p a.part.store now = subst (StandIsOf p a.part.store) stand of.stands
        in
        quiet-top p formed conditions owed a.part of safe quiet
        (record { fixed = f; todo = command (fork place c d) ∷ rest }) below stand r
        (through e.callee (calls-of (fork place c d) e rest k top.0) takes)
      where
        calls-of : (h : Command) (i : Call) (todo : List Item) → Contains (head_calls h) i
            → FrameIsOf p a.part.store (record { fixed = f; todo = command h ∷ todo })
            → Calls p None f.procedure i.callee
        calls-of h i todo m there = (
          there.procedure,
          there.there,
          (
            record { entered = inside todo; command = h },
            there.todo _ (sites-first h todo),
            (tt, (i, m, refl)),
          ),
        )

    child-none : (child : Part) (k : Known) (first : Frame) (e : Call)
        → Contains (head_calls (fork place c d)) e → IsSafe p k child
        → child.stand ≡ running (first ∷ []) → first.fixed.procedure ≡ e.callee → (r : ResId)
        → Takes p k.fixed.procedure r → ⊥
    child-none child k first e m child_safe at same r takes =
        none-callee e m r
        (subst (λ z. Takes p z r)
        (ap (λ (z : Fixed). z.procedure) (child-owed p k child first child_safe at) ∙ same) takes)

    left_procedure : x.left.fixed.procedure ≡ c.callee
    left_procedure =
        let e : running (x.left ∷ []) ≡ running x.forks.left_frames =
        sym x.left_runs ∙ x.forks.left_begins.stand in
        let same : x.left ∷ [] ≡ x.forks.left_frames = cc in
        let begins : x.forks.left_frames
        ≡ callee_frame f.slots c step.1 (room_for step.1 event.number 0) ∷ [] =
        let k = step.6 in cc in
        first-procedure (same ∙ begins)

    right_procedure : x.right.fixed.procedure ≡ d.callee
    right_procedure =
        let e : running (x.right ∷ []) ≡ running x.forks.right_frames =
        sym x.right_runs ∙ x.forks.right_begins.stand in
        let same : x.right ∷ [] ≡ x.forks.right_frames = cc in
        let begins : x.forks.right_frames
        ≡ callee_frame f.slots d step.2 (room_for step.2 event.number (room_count step.1)) ∷ [] =
        let k = step.6 in cc in
        first-procedure (same ∙ begins)

    left-none : (k : Known) → IsSafe p k one.part → (r : ResId) → Takes p k.fixed.procedure r → ⊥
    left-none k child_safe r takes =
        child-none one.part k x.left c ((contains-cons c (d ∷ []) c).1 (inl refl)) child_safe
        x.left_runs left_procedure r takes

    right-none : (k : Known) → IsSafe p k two.part → (r : ResId) → Takes p k.fixed.procedure r → ⊥
    right-none k child_safe r takes =
        child-none two.part k x.right d
        ((contains-cons c (d ∷ []) d).1 (inr ((contains-cons d [] d).1 (inl refl)))) child_safe
        x.right_runs right_procedure r takes

  -- so its children are below one that sets the resources up
  pub left-below : (k : Known) → IsSafe p k one.part → IsOf p one.part → IsBelow p k one.part
  left-below k child_safe child_of =
      let (f, below, place, c, d, rest, is) = x.forks.fork in
      record {
        past = child-past p one.part x.left child_of x.left_runs;
        takes = left-none f below place c d rest is k child_safe;
      }

  pub right-below : (k : Known) → IsSafe p k two.part → IsOf p two.part → IsBelow p k two.part
  right-below k child_safe child_of =
      let (f, below, place, c, d, rest, is) = x.forks.fork in
      record {
        past = child-past p two.part x.right child_of x.right_runs;
        takes = right-none f below place c d rest is k child_safe;
      }
