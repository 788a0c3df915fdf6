-- That no frame of a task sets the resources up stays so: nothing calls that procedure.
-- Names: `past-LAW` of frames; else those of the laws' functions.
use Rattle.std.specs.Prelude.{◌≡◌, true, false, List, [], ◌∷◌, ◌++◌, Contains}
use Rattle.std.proofs.Common.{true≢false, sym, ap, ◌∙◌, refl, subst, inl, inr}
use Rattle.sf_base.proofs.Elements.{contains-cons, contains-nil}
use Rattle.sf_core.proofs.HeadsWithin.{calls-within, sites-within}
use Rattle.sf_core.specs.Machine.Config.{Item, command, leave, items, Fixed, Frame, Task, runs, waits, Common}
use Rattle.sf_core.specs.Machine.Next.{does, leaves, returns, frame_next, next}
use Rattle.sf_core.specs.Machine.Step.{Event, Does, TaskStep, callee_frame, room_count, room_for, task_with}
use Rattle.sf_core.specs.Machine.Whole.{running, waiting, Part, stand_of}
use Rattle.sf_core.specs.Program.Formed.{IsFormed}
use Rattle.sf_core.specs.Program.Heads.{head_calls}
use Rattle.sf_core.specs.Program.Init.{sets_up}
use Rattle.sf_core.specs.Program.Syntax.{Call, Command, assign, look_up, mutate, new, dispose, if, while, call, fork, with, Program}
use Rattle.sf_frame.specs.Checked.Nexts.{frames_with}
use Rattle.sf_part.specs.Checked.Lemmas.Shapes.{next-shape}
use Rattle.sf_part.proofs.Sites.{sites-first}
use Rattle.sf_part.specs.Checked.LawsOfGoing.{ChildrenArePastSetup, GoingStaysPastSetup, IsPastSetup, PastSetupNothingSettles}
use Rattle.sf_part.specs.Going.{GoesTo, stays, steps, enters, leaves, forks}
use Rattle.sf_part.specs.Of.{FrameIsOf, FramesAreOf, IsOf, StandIsOf, frames_in, inside}
use Rattle.sf_part.specs.Steps.{IsEntry, IsExit, IsFork, IsLocal, IsPrivate, IsSettling, common_of}
use Rattle.sf_part.specs.Timed.{TimedPart}

-- none of these frames is of that procedure
abbrev pub ArePast : Program → List Frame → Type 0
ArePast p frames = (f : Frame) → Contains frames f → sets_up p f.fixed.procedure ≡ false

-- the frames of a task after an event are such
pub record Past (p : Program) (u : Task) : Type 0 where
  pub frames : List Frame
  pub is : stand_of u ≡ running frames
  pub past : ArePast p frames

past-cons : (p : Program) (f : Frame) (frames : List Frame) → sets_up p f.fixed.procedure ≡ false
    → ArePast p frames → ArePast p (f ∷ frames)
past-cons p f frames own h g m = elim ((contains-cons f frames g).0 m) [
  | inl e ↦ ap (λ (z : Frame). sets_up p z.fixed.procedure) (sym e) ∙ own
  | inr k ↦ h g k
]

past-first : (p : Program) (f : Frame) (frames : List Frame) → ArePast p (f ∷ frames)
    → sets_up p f.fixed.procedure ≡ false
past-first p f frames h = h f ((contains-cons f frames f).1 (inl refl))

past-rest : (p : Program) (f : Frame) (frames : List Frame) → ArePast p (f ∷ frames)
    → ArePast p frames
past-rest p f frames h g m = h g ((contains-cons f frames g).1 (inr m))

-- the same frame with other things to do
past-top : (p : Program) (f : Fixed) (old todo : List Item) (below : List Frame)
    → ArePast p (frames_with f old below) → ArePast p (frames_with f todo below)
past-top p f old todo below h =
    past-cons p (record { fixed = f; todo = todo }) below
    (past-first p (record { fixed = f; todo = old }) below h)
    (past-rest p (record { fixed = f; todo = old }) below h)

-- a call of the body is of another procedure
past-callee : (p : Program) (formed : IsFormed p) (store : _) (f : Fixed) (c : Command) (d : Call)
    (rest : List Item) → Contains (head_calls c) d
    → FrameIsOf p store (record { fixed = f; todo = command c ∷ rest })
    → sets_up p d.callee ≡ false
past-callee p formed store f c d rest k of =
    let command_there = sites-within p of.procedure [] (of.procedure).body
    (formed.procedures (f.procedure).0 of.procedure of.there).body
    (record { entered = inside rest; command = c })
    (of.todo (record { entered = inside rest; command = c }) (sites-first c rest)) in
    (calls-within p of.procedure c command_there d k).no_init

module _ (p : Program) (f : Fixed) (below : List Frame) (c : Command) (rest : List Item) (u : Task)
    (h : ArePast p (frames_with f (command c ∷ rest) below)) where
  goes-on : (todo : List Item) → u ≡ task_with f todo below → Past p u
  goes-on todo is = record {
    frames = frames_with f todo below;
    is = ap stand_of is;
    past = past-top p f (command c ∷ rest) todo below h;
  }

-- after an event of its own
past-local : (p : Program) (formed : IsFormed p) (ev : Event) (s : Common) (f : Fixed)
    (below : List Frame) (c : Command) (rest : List Item) (t : Common) (u : Task) → IsLocal c
    → FrameIsOf p s.store (record { fixed = f; todo = command c ∷ rest })
    → ArePast p (frames_with f (command c ∷ rest) below) → Does p ev s f below c rest t u → Past p u
past-local p formed ev s f below (assign q x e) rest t u l of h d =
    goes-on p f below (assign q x e) rest u h rest d.1
past-local p formed ev s f below (look_up q x e k) rest t u l of h d =
    goes-on p f below (look_up q x e k) rest u h rest d.4
past-local p formed ev s f below (mutate q e k v) rest t u l of h d =
    goes-on p f below (mutate q e k v) rest u h rest d.4
past-local p formed ev s f below (new q x) rest t u l of h d =
    goes-on p f below (new q x) rest u h rest d.3
past-local p formed ev s f below (dispose q e) rest t u l of h d =
    goes-on p f below (dispose q e) rest u h rest d.4
past-local p formed ev s f below (if q test this that) rest t u l of h d = elim d.1 [
  | inl y ↦ goes-on p f below (if q test this that) rest u h (items this ++ rest) y.1
  | inr m ↦ goes-on p f below (if q test this that) rest u h (items that ++ rest) m.1
]
past-local p formed ev s f below (while q test kept body) rest t u l of h d = elim d.1 [
  | inl y ↦ goes-on p f below (while q test kept body) rest u h
      (items body ++ command (while q test kept body) ∷ rest) y.1
  | inr m ↦ goes-on p f below (while q test kept body) rest u h rest m.1
]
past-local p formed ev s f below (call q c) rest t u l of h d =
    let frame = callee_frame f.slots c d.0 (room_for d.0 ev.number 0) in
    record {
      frames = frame ∷ frames_with f rest below;
      is = ap stand_of d.3;
      past = past-cons p frame (frames_with f rest below)
          (past-callee p formed s.store f (call q c) c rest
          ((contains-cons c [] c).1 (inl refl)) of)
          (past-top p f (command (call q c) ∷ rest) rest below h);
    }
past-local p formed ev s f below (fork q c e) rest t u l of h d = absurd l
past-local p formed ev s f below (with q r test body) rest t u l of h d = absurd l

past-private : (p : Program) (formed : IsFormed p) (ev : Event) (s t : Common)
    (frames : List Frame) (u : Task) → IsPrivate p (next (runs frames))
    → FramesAreOf p s.store frames → ArePast p frames → TaskStep p ev s (runs frames) t u → Past p u
past-private p formed ev s t [] u l of h d = absurd l
past-private p formed ev s t (f ∷ below) u l of h d = go f.todo refl
  where
    go : (todo : List Item) → f.todo ≡ todo → Past p u
    go [] e =
        let step = subst (λ z. TaskStep p ev s (runs (frames_with f.fixed z below)) t u) e d in
        record { frames = below; is = ap stand_of step.2; past = past-rest p f below h }
    go (leave r ∷ todo) e =
        absurd (subst (λ z. IsPrivate p (next (runs (frames_with f.fixed z below)))) e l)
    go (command c ∷ todo) e =
        past-local p formed ev s f.fixed below c todo t u
        (subst (λ z. IsPrivate p (next (runs (frames_with f.fixed z below)))) e l)
        (subst (λ z. FrameIsOf p s.store (record { fixed = f.fixed; todo = z })) e of.0)
        (subst (λ z. ArePast p (frames_with f.fixed z below)) e h)
        (subst (λ z. TaskStep p ev s (runs (frames_with f.fixed z below)) t u) e d)

-- after the entry of a region
past-entry : (p : Program) (ev : Event) (s t : Common) (frames : List Frame) (u : Task) (r : _)
    → IsEntry (next (runs frames)) r → ArePast p frames → TaskStep p ev s (runs frames) t u
    → Past p u
past-entry p ev s t frames u r (f, below, place, test, body, rest, is) h d =
    let shape = next-shape frames f below (with place r test body) rest is in
    let step = subst (λ z. TaskStep p ev s (runs z) t u) shape d in
    goes-on p f below (with place r test body) rest u (subst (ArePast p) shape h)
    (items body ++ (leave r ∷ rest)) step.3

-- after the exit from one
past-exit : (p : Program) (ev : Event) (s t : Common) (frames : List Frame) (u : Task) (r : _)
    → IsExit (next (runs frames)) r → ArePast p frames → TaskStep p ev s (runs frames) t u
    → Past p u
past-exit p ev s t [] u r (f, below, rest, is) h d = absurd (cc)
past-exit p ev s t (g ∷ others) u r (f, below, rest, is) h d = go g.todo refl
  where
    go : (todo : List Item) → g.todo ≡ todo → Past p u
    go [] e = absurd (let k : returns g.fixed others ≡ leaves f below r rest =
        sym (ap (frame_next g.fixed others) e) ∙ is in cc)
    go (command c ∷ todo) e = absurd (let k : does g.fixed others c todo ≡ leaves f below r rest =
        sym (ap (frame_next g.fixed others) e) ∙ is in cc)
    go (leave q ∷ todo) e =
        let step = subst (λ z. TaskStep p ev s (runs (frames_with g.fixed z others)) t u) e d in
        record {
          frames = frames_with g.fixed todo others;
          is = ap stand_of step.2;
          past = past-top p g.fixed g.todo todo others h;
        }

-- after a fork the frames of the parent and of its children are such
record PastAll (p : Program) (u : Task) : Type 0 where
  frames : List Frame
  left_frames : List Frame
  right_frames : List Frame
  is : u ≡ waits frames (runs left_frames) (runs right_frames)
  past : ArePast p frames
  left_past : ArePast p left_frames
  right_past : ArePast p right_frames

past-fork : (p : Program) (formed : IsFormed p) (ev : Event) (s t : Common) (frames : List Frame)
    (u : Task) → IsFork (next (runs frames)) → FramesAreOf p s.store frames → ArePast p frames
    → TaskStep p ev s (runs frames) t u → PastAll p u
past-fork p formed ev s t frames u (f, below, place, c, d, rest, is) of h step =
    let shape = next-shape frames f below (fork place c d) rest is in
    let here = subst (λ z. TaskStep p ev s (runs z) t u) shape step in
    let top = subst (FramesAreOf p s.store) shape of in
    let g = here.1 in
    let k = here.2 in
    let one = callee_frame f.slots c g (room_for g ev.number 0) in
    let two = callee_frame f.slots d k (room_for k ev.number (room_count g)) in
    record {
      frames = frames_with f rest below;
      left_frames = one ∷ [];
      right_frames = two ∷ [];
      is = here.6;
      past = past-top p f (command (fork place c d) ∷ rest) rest below (subst (ArePast p) shape h);
      left_past = past-cons p one [] (past-callee p formed s.store f (fork place c d) c rest
          ((contains-cons c (d ∷ []) c).1 (inl refl)) top.0) (λ x m. absurd (contains-nil x m));
      right_past = past-cons p two [] (past-callee p formed s.store f (fork place c d) d rest
          ((contains-cons c (d ∷ []) d).1 (inr ((contains-cons d [] d).1 (inl refl)))) top.0)
          (λ x m. absurd (contains-nil x m));
    }

-- of a part, by its frames
in-stand : (p : Program) (a : Part) (frames : List Frame) → a.stand ≡ running frames
    → ArePast p frames → IsPastSetup p a
in-stand p a frames e h = subst (λ z. ArePast p (frames_in z)) (sym e) h

of-stand : (p : Program) (a : Part) (frames : List Frame) → a.stand ≡ running frames
    → IsPastSetup p a → ArePast p frames
of-stand p a frames e h = subst (λ z. ArePast p (frames_in z)) e h

of-frames : (p : Program) (a : Part) (frames : List Frame) → a.stand ≡ running frames → IsOf p a
    → FramesAreOf p a.store frames
of-frames p a frames e of = subst (StandIsOf p a.store) e of.stands

module _ (p : Program) (formed : IsFormed p) where
  stays-past : (a b : TimedPart) → GoesTo p a b → IsPastSetup p a.part → IsPastSetup p b.part
  stays-past a b (stays same) h = subst (λ (z : TimedPart). IsPastSetup p z.part) (sym same) h
  stays-past a c (steps {b = b} event before keeps of e) h =
      let k = past-private p formed event (common_of b.part) (common_of c.part) e.frames
      (runs e.kept) e.private (of-frames p b.part e.frames (e.acts).from_is of)
      (of-stand p b.part e.frames (e.acts).from_is (stays-past a b before h)) (e.acts).steps in
      in-stand p c.part k.frames ((e.acts).to_is ∙ k.is) k.past
  stays-past a c (enters {b = b} event content before e of) h =
      let at = sym ((e.hand).stand) ∙ (e.acts).from_is in
      let k = past-entry p event (common_of e.both) (common_of c.part) e.frames (runs e.kept)
      content.content.resource e.entry
      (of-stand p b.part e.frames at (stays-past a b before h)) (e.acts).steps in
      in-stand p c.part k.frames ((e.acts).to_is ∙ k.is) k.past
  stays-past a c (leaves {b = b} event content before e) h =
      let x = e.exits in
      let k = past-exit p event (common_of b.part) (common_of x.both) x.frames (runs x.kept)
      content.content.resource x.exit
      (of-stand p b.part x.frames (x.acts).from_is (stays-past a b before h)) (x.acts).steps in
      in-stand p c.part k.frames (sym ((x.hand).stand) ∙ ((x.acts).to_is ∙ k.is)) k.past
  stays-past a c
      (forks {b = b} event later waiting_one one two left right before keeps of e go_left go_right j)
      h =
      let x = e.forks in
      let k = past-fork p formed event (common_of b.part) (common_of x.all) x.frames
      (waits x.kept (runs x.left_frames) (runs x.right_frames)) x.fork
      (of-frames p b.part x.frames (x.acts).from_is of)
      (of-stand p b.part x.frames (x.acts).from_is (stays-past a b before h)) (x.acts).steps in
      let same : x.kept ≡ k.frames = let is = k.is in cc in
      let waits_on : waiting_one.part.stand ≡ waiting k.frames =
      sym ((x.children).stand) ∙ ((x.acts).to_is ∙ ap waiting same) in
      let from : waiting_one.part.stand ≡ waiting j.frames =
      sym ((j.children).stand) ∙ (j.acts).from_is in
      let frames_same : j.frames ≡ k.frames = ap frames_in (sym from ∙ waits_on) in
      let goes : j.kept ≡ j.frames = let step = (j.acts).steps in
      let is : runs j.kept ≡ runs j.frames = step.3 in cc in
      in-stand p c.part k.frames ((j.acts).to_is ∙ ap running (goes ∙ frames_same)) k.past

pub going_stays_past_setup : GoingStaysPastSetup
unfolding GoingStaysPastSetup
going_stays_past_setup p a b formed go h = stays-past p formed a b go h

pub children_are_past_setup : ChildrenArePastSetup
unfolding ChildrenArePastSetup
children_are_past_setup p event a b one two formed of x h =
    let k = past-fork p formed event (common_of a.part) (common_of x.all) x.frames
    (waits x.kept (runs x.left_frames) (runs x.right_frames)) x.fork
    (of-frames p a.part x.frames (x.acts).from_is of)
    (of-stand p a.part x.frames (x.acts).from_is h) (x.acts).steps in
    let left_same : x.left_frames ≡ k.left_frames = let is = k.is in cc in
    let right_same : x.right_frames ≡ k.right_frames = let is = k.is in cc in (
      in-stand p one.part k.left_frames ((x.left_begins).stand ∙ ap running left_same) k.left_past,
      in-stand p two.part k.right_frames ((x.right_begins).stand ∙ ap running right_same)
          k.right_past,
    )

pub past_setup_nothing_settles : PastSetupNothingSettles
unfolding PastSetupNothingSettles
past_setup_nothing_settles p a [] past e k = k
past_setup_nothing_settles p a (f ∷ below) past e k = go f.todo refl
  where
    go : (todo : List Item) → f.todo ≡ todo → ⊥
    go [] i =
        let one : sets_up p f.fixed.procedure ≡ true =
        subst (λ z. IsSettling p (next (runs (frames_with f.fixed z below)))) i k in
        true≢false (sym one ∙ past-first p f below (of-stand p a (f ∷ below) e past))
    go (command c ∷ todo) i =
        subst (λ z. IsSettling p (next (runs (frames_with f.fixed z below)))) i k
    go (leave r ∷ todo) i =
        subst (λ z. IsSettling p (next (runs (frames_with f.fixed z below)))) i k
