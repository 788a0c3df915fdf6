-- While a task runs the procedure that sets the resources up, it meets no other.
-- Names: `keeps-LAW` of the frame of that procedure; else the names of the laws' functions.
use Rattle.std.specs.Prelude.{◌≡◌, ◌==◌, ◌&&◌, ◌<◌, ◌≤◌, ◌+◌, ℕ, Bool, true, false, cond, ltb, List, [], ◌∷◌, ◌++◌, length, Contains}
use Rattle.std.proofs.Common.{true≢false, sym, ap, ap₂, ◌∙◌, refl, subst, inl, inr, arith}
use Rattle.std.proofs.lemmas.Bool.Decides.{nat_tests}
use Rattle.sf_base.proofs.Elements.{contains-cons, contains-nil, contains-single}
use Rattle.sf_base.proofs.HeapSplits.{at-self}
use Rattle.sf_base.specs.declared.ids.ResId.{ResId}
use Rattle.sf_calls.specs.Checked.Lemmas.Least.{takes_within}
use Rattle.sf_calls.specs.Conditions.{Enters}
use Rattle.sf_calls.specs.Reaches.{directly}
use Rattle.sf_core.proofs.Inits.{sets_up-is}
use Rattle.sf_core.specs.Checked.Machine.InOrder.{exits, regions, throughout}
use Rattle.sf_core.specs.Machine.Config.{Item, command, leave, items, Fixed, Frame, Task, runs, Path, Common}
use Rattle.sf_core.specs.Machine.Enabled.{HasEnded}
use Rattle.sf_core.specs.Machine.Next.{does, leaves, returns, frame_next, next}
use Rattle.sf_core.specs.Machine.Start.{Beginning, settled, fresh, BeginsWith, first_frames, init_frame, entry_frame}
use Rattle.sf_core.specs.Machine.Step.{Event, Does, TaskStep, callee_frame, room_for, task_with}
use Rattle.sf_core.specs.Machine.Whole.{running, Part}
use Rattle.sf_core.specs.Program.Formed.{IsFormed}
use Rattle.sf_core.specs.Program.Init.{sets_up}
use Rattle.sf_core.specs.Program.Syntax.{Command, assign, look_up, mutate, new, dispose, if, while, call, fork, with, Program}
use Rattle.sf_frame.specs.Checked.Nexts.{frames_with}
use Rattle.sf_part.proofs.Held.{times-regions}
use Rattle.sf_part.proofs.Outside.{regions_are_outside}
use Rattle.sf_part.specs.Checked.LawsOfWhole.{RegionsAreOutside}
use Rattle.sf_part.specs.Checked.LawsOfSettingUp.{FreshPartsSetUp, IsFresh, IsSettingUp, SettingUpGoesOn, SettingUpIsAlone}
use Rattle.sf_part.specs.Of.{AreInOrder, IsOf, frames_in, inside, times_held}
use Rattle.sf_part.specs.Steps.{common_of, IsExit, IsLocal, IsPrivate}

-- one of these frames is of the procedure that sets the resources up
abbrev pub HasSetter : Program → List Frame → Type 0
HasSetter p frames = (f : Frame) × Contains frames f × (sets_up p f.fixed.procedure ≡ true)

-- the frames of a task after an event have such a frame
pub record Keeps (p : Program) (u : Task) : Type 0 where
  pub frames : List Frame
  pub is : u ≡ runs frames
  pub setter : HasSetter p frames

-- the same frame with other things to do
keeps-top : (p : Program) (f : Fixed) (old todo : List Item) (below : List Frame)
    → HasSetter p (record { fixed = f; todo = old } ∷ below)
    → HasSetter p (record { fixed = f; todo = todo } ∷ below)
keeps-top p f old todo below (g, m, e) =
    elim ((contains-cons (record { fixed = f; todo = old }) below g).0 m) [
      | inl same ↦ (
        record { fixed = f; todo = todo },
        (contains-cons (record { fixed = f; todo = todo }) below _).1 (inl refl),
        ap (λ (z : Frame). sets_up p z.fixed.procedure) same ∙ e,
      )
      | inr k ↦ (g, (contains-cons (record { fixed = f; todo = todo }) below g).1 (inr k), e)
    ]

-- one more
keeps-more : (p : Program) (f : Frame) (frames : List Frame) → HasSetter p frames
    → HasSetter p (f ∷ frames)
keeps-more p f frames (g, m, e) = (g, (contains-cons f frames g).1 (inr m), e)

-- one less that is of another procedure
keeps-fewer : (p : Program) (f : Frame) (below : List Frame) → sets_up p f.fixed.procedure ≡ false
    → HasSetter p (f ∷ below) → HasSetter p below
keeps-fewer p f below other (g, m, e) = elim ((contains-cons f below g).0 m) [
  | inl same ↦ absurd (true≢false (sym e
      ∙ ap (λ (z : Frame). sets_up p z.fixed.procedure) (sym same) ∙ other))
  | inr k ↦ (g, k, e)
]

module _ (p : Program) (f : Fixed) (below : List Frame) (c : Command) (rest : List Item) (u : Task)
    (h : HasSetter p (record { fixed = f; todo = command c ∷ rest } ∷ below)) where
  goes-on : (todo : List Item) → u ≡ task_with f todo below → Keeps p u
  goes-on todo is = record {
    frames = record { fixed = f; todo = todo } ∷ below;
    is = is;
    setter = keeps-top p f (command c ∷ rest) todo below h;
  }

-- a command that is the task's own affair
keeps-local : (p : Program) (ev : Event) (s : Common) (f : Fixed) (below : List Frame) (c : Command)
    (rest : List Item) (t : Common) (u : Task) → IsLocal c
    → HasSetter p (record { fixed = f; todo = command c ∷ rest } ∷ below)
    → Does p ev s f below c rest t u → Keeps p u
keeps-local p ev s f below (assign q x e) rest t u l h d =
    goes-on p f below (assign q x e) rest u h rest d.1
keeps-local p ev s f below (look_up q x e k) rest t u l h d =
    goes-on p f below (look_up q x e k) rest u h rest d.4
keeps-local p ev s f below (mutate q e k v) rest t u l h d =
    goes-on p f below (mutate q e k v) rest u h rest d.4
keeps-local p ev s f below (new q x) rest t u l h d =
    goes-on p f below (new q x) rest u h rest d.3
keeps-local p ev s f below (dispose q e) rest t u l h d =
    goes-on p f below (dispose q e) rest u h rest d.4
keeps-local p ev s f below (if q test this that) rest t u l h d = elim d.1 [
  | inl y ↦ goes-on p f below (if q test this that) rest u h (items this ++ rest) y.1
  | inr m ↦ goes-on p f below (if q test this that) rest u h (items that ++ rest) m.1
]
keeps-local p ev s f below (while q test kept body) rest t u l h d = elim d.1 [
  | inl y ↦ goes-on p f below (while q test kept body) rest u h
      (items body ++ command (while q test kept body) ∷ rest) y.1
  | inr m ↦ goes-on p f below (while q test kept body) rest u h rest m.1
]
keeps-local p ev s f below (call q c) rest t u l h d = record {
  frames = callee_frame f.slots c d.0 (room_for d.0 ev.number 0)
      ∷ record { fixed = f; todo = rest } ∷ below;
  is = d.3;
  setter = keeps-more p (callee_frame f.slots c d.0 (room_for d.0 ev.number 0))
      (record { fixed = f; todo = rest } ∷ below)
      (keeps-top p f (command (call q c) ∷ rest) rest below h);
}
keeps-local p ev s f below (fork q c e) rest t u l h d = absurd l
keeps-local p ev s f below (with q r test body) rest t u l h d = absurd l

-- whatever is its own affair
keeps-private : (p : Program) (ev : Event) (s t : Common) (frames : List Frame) (u : Task)
    → IsPrivate p (next (runs frames)) → HasSetter p frames → TaskStep p ev s (runs frames) t u
    → Keeps p u
keeps-private p ev s t [] u l h d = absurd l
keeps-private p ev s t (f ∷ below) u l h d = go f.todo refl
  where
    go : (todo : List Item) → f.todo ≡ todo → Keeps p u
    go [] e =
        let own : sets_up p f.fixed.procedure ≡ false =
        subst (λ z. IsPrivate p (next (runs (frames_with f.fixed z below)))) e l in
        let step = subst (λ z. TaskStep p ev s (runs (frames_with f.fixed z below)) t u) e d in
        record { frames = below; is = step.2; setter = keeps-fewer p f below own h }
    go (leave r ∷ todo) e = absurd (subst (λ z. IsPrivate p (next (runs (frames_with f.fixed z below)))) e l)
    go (command c ∷ todo) e =
        keeps-local p ev s f.fixed below c todo t u (subst (λ z. IsPrivate p (next (runs (frames_with f.fixed z below)))) e l)
        (subst (λ z. HasSetter p (frames_with f.fixed z below)) e h) (subst (λ z. TaskStep p ev s (runs (frames_with f.fixed z below)) t u) e d)

-- such a frame has each resource of the program
setter-has : (p : Program) (r : ResId) → r.0 < length p.resources → (frames : List Frame)
    → HasSetter p frames → 1 ≤ regions p r frames
setter-has p r l [] (g, m, e) = absurd (contains-nil g m)
setter-has p r l (f ∷ below) (g, m, e) = elim ((contains-cons f below g).0 m) [
  | inl same ↦
      let here : throughout p r f.fixed ≡ 1 = setter-throughout p r l f.fixed
      (ap (λ (z : Frame). sets_up p z.fixed.procedure) same ∙ e) in
      omega arith
  | inr k ↦ let more = setter-has p r l below (g, k, e) in omega (arith, more)
]
  where
    setter-throughout : (p : Program) (r : ResId) → r.0 < length p.resources → (f : Fixed)
        → sets_up p f.procedure ≡ true → throughout p r f ≡ 1
    setter-throughout p r l f e =
        let under : ltb r.0 (length p.resources) ≡ true = grind (arith, nat_tests) in
        ap₂ (λ a b. cond {A = ℕ} (a && b) 1 0) e under

pub fresh_parts_set_up : FreshPartsSetUp
unfolding FreshPartsSetUp
fresh_parts_set_up p f store heap c base count a contents s first =
    go s.beginning s.begins first.stand
  where
    go : (z : Beginning) → BeginsWith z p s.procedure store heap
        → a.part.stand ≡ running (first_frames z f s.procedure) → IsFresh z → IsSettingUp p a.part
    go settled begins e k = absurd k
    go (fresh n h) begins e k =
        let top = init_frame n h (length (s.procedure).names) in
        let entry = entry_frame f s.procedure in
        subst (λ z. HasSetter p (frames_in z)) (sym e)
        (top, (contains-cons top (entry ∷ []) top).1 (inl refl), sets_up-is p n h begins.0 ∙ begins.1)

pub setting_up_goes_on : SettingUpGoesOn
unfolding SettingUpGoesOn
setting_up_goes_on p event a b e h =
    let k = keeps-private p event (common_of a.part) (common_of b.part) e.frames (runs e.kept) e.private
    (subst (λ z. HasSetter p (frames_in z)) (e.acts).from_is h) (e.acts).steps in
    let same : e.kept ≡ k.frames = let is : runs e.kept ≡ runs k.frames = k.is in cc in
    subst (λ z. HasSetter p (frames_in z)) (sym ((e.acts).to_is ∙ ap running same)) k.setter

module _ (p : Program) (formed : IsFormed p) (a : Part) (of : IsOf p a) (h : IsSettingUp p a) where
  -- it has each resource once
  has-one : (r : ResId) → r.0 < length p.resources → (1 ≤ regions p r (frames_in a.stand))
      × (regions p r (frames_in a.stand) ≤ 1)
  has-one r l =
      let same : regions p r (frames_in a.stand) ≡ cond (a.holds r) 1 0 =
      sym (times-regions p r (frames_in a.stand)) ∙ of.inside r in
      let least = setter-has p r l (frames_in a.stand) h in
      (least, most (a.holds r) (regions p r (frames_in a.stand)) same)
    where
      most : (x : Bool) (n : ℕ) → n ≡ cond x 1 0 → n ≤ 1
      most true n e = omega (arith, e)
      most false n e = omega (arith, e)

  -- it isn't about to leave a region, which would be one more
  at-no_exit : (frames : List Frame) (r : ResId) → a.stand ≡ running frames
      → IsExit (next (runs frames)) r → ⊥
  at-no_exit [] r stand (f, below, rest, e) = absurd (cc)
  at-no_exit (g ∷ below) r stand exit = go g.todo refl
    where
      is : a.stand ≡ running (g ∷ below)
      is = stand

      go : (todo : List Item) → g.todo ≡ todo → ⊥
      go [] e = let (f, under, rest, i) = exit in
          let k : returns g.fixed below ≡ leaves f under r rest =
          sym (ap (frame_next g.fixed below) e) ∙ i in cc
      go (command c ∷ todo) e = let (f, under, rest, i) = exit in
          let k : does g.fixed below c todo ≡ leaves f under r rest =
          sym (ap (frame_next g.fixed below) e) ∙ i in cc
      go (leave q ∷ todo) e =
          let (f, under, rest, i) = exit in
          let k : leaves g.fixed below q todo ≡ leaves f under r rest =
          sym (ap (frame_next g.fixed below) e) ∙ i in
          let same : q ≡ r = cc in
          let todo_is : g.todo ≡ leave r ∷ todo = e ∙ ap (λ z. leave z ∷ todo) same in
          let order = subst (λ z. AreInOrder p (frames_in z)) is of.order in
          let enters : Enters p r g.fixed.procedure = (order.0).regions r
          (subst (λ z. Contains (inside z) r) (sym todo_is)
          ((contains-cons r (inside todo) r).1 (inl refl))) in
          let l = takes_within p formed g.fixed.procedure r (directly enters) in
          let one : exits r g.todo ≡ cond (r.0 == r.0) 1 0 + exits r todo = ap (exits r) todo_is in
          let self : ◌≡◌ {A = ℕ} (cond (r.0 == r.0) 1 0) 1 = ap (λ b. cond b 1 0) (at-self r.0) in
          let frames = subst (λ z. HasSetter p (frames_in z)) is h in
          let most : regions p r (g ∷ below) ≤ 1 =
          subst (λ z. regions p r (frames_in z) ≤ 1) is (has-one r l).1 in
          elim ((contains-cons g below frames.0).0 frames.1) [
            | inl top ↦
                let under_ : ltb r.0 (length p.resources) ≡ true = grind (arith, nat_tests) in
                let here : throughout p r g.fixed ≡ 1 = ap₂ (λ x y. cond {A = ℕ} (x && y) 1 0)
                (ap (λ (z : Frame). sets_up p z.fixed.procedure) top ∙ frames.2) under_ in
                omega (arith, here, one, self, most)
            | inr m ↦
                let more = setter-has p r l below (frames.0, m, frames.2) in
                omega (arith, more, one, self, most)
          ]

  -- nor has it ended: that frame has the entry's below it
  not-ended : (frames : List Frame) (path : Path) → a.stand ≡ running frames
      → HasEnded path (runs frames) → ⊥
  not-ended [] path stand end =
      let (g, m, e) = subst (λ z. HasSetter p (frames_in z)) stand h in contains-nil g m
  not-ended (f ∷ []) [] stand end =
      let (g, m, e) = subst (λ z. HasSetter p (frames_in z)) stand h in
      let order = subst (λ z. AreInOrder p (frames_in z)) stand of.order in
      true≢false (sym e
      ∙ ap (λ (z : Frame). sets_up p z.fixed.procedure) (sym (contains-single f g m)) ∙ order.1)
  not-ended (f ∷ g ∷ below) [] stand end = end
  not-ended (f ∷ below) (turn ∷ path) stand end = end

pub setting_up_is_alone : SettingUpIsAlone
unfolding SettingUpIsAlone RegionsAreOutside
setting_up_is_alone p a formed conditions of h = record {
  region = λ r at.
      let out = regions_are_outside p a r formed conditions of at in
      let none : times_held p r (frames_in a.stand) ≡ 0 =
      of.inside r ∙ ap (λ b. cond {A = ℕ} b 1 0) out.1 in
      let least = (has-one p formed a of h r out.0).0 in
      let same = times-regions p r (frames_in a.stand) in
      omega (arith, none, least, same);
  exit = λ r frames stand at. at-no_exit p formed a of h frames r stand at;
  going = λ frames stand end. not-ended p formed a of h frames a.task stand end;
}
