-- How a task goes on alone: what it keeps, whose its events are, and what it spends.
-- Names: `keeps-WHAT`; `under-LAW` of events at a path or below it; else those of the laws'
-- functions.
use Rattle.std.specs.Prelude.{◌≡◌, ◌≤◌, ◌+◌, ◌∷◌, ◌++◌, ℕ, max, true, List, [], length, Contains}
use Rattle.std.specs.List.{AllByRecursion}
use Rattle.std.proofs.Common.{sym, ap, ◌∙◌, refl, subst, inl, inr, arith, length-append}
use Rattle.std.proofs.lemmas.List.{append-nil, append_assoc}
use Rattle.sf_base.proofs.Elements.{contains-cons}
use Rattle.sf_base.specs.declared.path.Turn.{Turn}
use Rattle.sf_base.specs.declared.path.Turn.TheVariants.{Left as left_turn, Right as right_turn}
use Rattle.sf_core.specs.Machine.Config.{Item, command, Fixed, Frame, Path, runs, waits}
use Rattle.sf_core.specs.Machine.Next.{next}
use Rattle.sf_core.specs.Machine.SpentSteps.{is_at_or_above}
use Rattle.sf_core.specs.Machine.Step.{Event, TaskStep}
use Rattle.sf_core.specs.Machine.Whole.{numbers, running, waiting}
use Rattle.sf_core.specs.Program.Init.{sets_up}
use Rattle.sf_core.specs.Program.Syntax.{fork, Program}
use Rattle.sf_frame.specs.Checked.Nexts.{frames_with}
use Rattle.sf_part.proofs.Beside.{takes-fork, takes-join, takes-one}
use Rattle.sf_part.specs.Checked.Lemmas.Shapes.{next-shape}
use Rattle.sf_part.specs.Checked.LawsOfSettingUp.{IsSettingUp, SettingUpGoesOn}
use Rattle.sf_part.specs.Going.{GoesTo, stays as to_stays, steps as to_steps, forks as to_forks}
use Rattle.sf_part.specs.Of.{frames_in}
use Rattle.sf_part.specs.Steps.{Forks, Joins, common_of}
use Rattle.sf_part.specs.Timed.{TimedPart}
use Rattle.sf_setup.specs.Checked.Laws.{GoingAloneComposes, GoingAloneIsGoing}
use Rattle.sf_setup.specs.Going.{GoesBy, stays, steps, forks}

-- Going on
module _ (p : Program) where
  pub forget : (a b : TimedPart) (events : List Event) → GoesBy p a events b → GoesTo p a b
  forget a b events (stays none same) = to_stays same
  forget a c all (steps b events event go keeps of e is) =
      to_steps event (forget a b events go) keeps of e
  forget a c all (forks b waiting_one one two left right events first second event later go keeps of e go_left go_right j is) =
      to_forks event later waiting_one one two left right (forget a b events go) keeps of e
      (forget one left first go_left) (forget two right second go_right) j

  -- twice
  pub composes : (a b c : TimedPart) (first more : List Event) → GoesBy p a first b → GoesBy p b more c
      → GoesBy p a (first ++ more) c
  composes a b c before all go (stays none same) =
      subst (λ z. GoesBy p a z c) (after-none before all none) (subst (GoesBy p a before) (sym same) go)
    where
      after-none : (xs ys : List Event) → ys ≡ [] → xs ≡ xs ++ ys
      after-none xs ys e = sym (append-nil xs) ∙ ap (λ z. xs ++ z) (sym e)
  composes a b d before all go (steps c events event more keeps of e is) =
      steps c (before ++ events) event (composes a b c before events go more) keeps of e
      (ap (λ z. before ++ z) is ∙ sym (append_assoc before events (event ∷ [])))
  composes a b d before all go (forks c waiting_one one two left right events first second event later more keeps of e go_left go_right j is) =
      forks c waiting_one one two left right (before ++ events) first second event later
      (composes a b c before events go more) keeps of e go_left go_right j
      (ap (λ z. before ++ z) is
      ∙ sym (append_assoc before events (event ∷ (first ++ (second ++ later ∷ [])))))

  -- What it keeps
  pub keeps-path : (a b : TimedPart) (events : List Event) → GoesBy p a events b
      → b.part.task ≡ a.part.task
  keeps-path a b events (stays none same) = ap (λ (z : TimedPart). z.part.task) same
  keeps-path a c all (steps b events event go keeps of e is) =
      (e.acts).task ∙ keeps-path a b events go
  keeps-path a c all (forks b waiting_one one two left right events first second event later go keeps of e go_left go_right j is) =
      (j.acts).task ∙ ((j.children).task ∙ (sym (((e.forks).children).task)
      ∙ (((e.forks).acts).task ∙ keeps-path a b events go)))

  pub keeps-given : (a b : TimedPart) (events : List Event) → GoesBy p a events b
      → b.given ≡ a.given
  keeps-given a b events (stays none same) = ap (λ (z : TimedPart). z.given) same
  keeps-given a c all (steps b events event go keeps of e is) =
      (e.notes).given ∙ keeps-given a b events go
  keeps-given a c all (forks b waiting_one one two left right events first second event later go keeps of e go_left go_right j is) =
      (j.notes).given ∙ (((e.forks).notes).given ∙ keeps-given a b events go)

  pub keeps-log : (a b : TimedPart) (events : List Event) → GoesBy p a events b
      → b.keeps ≡ a.keeps
  keeps-log a b events (stays none same) = ap (λ (z : TimedPart). z.keeps) same
  keeps-log a c all (steps b events event go keeps of e is) =
      (e.notes).keeps ∙ keeps-log a b events go
  keeps-log a c all (forks b waiting_one one two left right events first second event later go keeps of e go_left go_right j is) =
      (j.notes).keeps ∙ (((e.forks).notes).keeps ∙ keeps-log a b events go)

-- Paths
pub under-self : (path more : Path) → is_at_or_above path (path ++ more) ≡ true
under-self [] more = refl
under-self (left_turn ∷ path) more = under-self path more
under-self (right_turn ∷ path) more = under-self path more

-- what is at a path or below it has the path first
pub under-split : (path other : Path) → is_at_or_above path other ≡ true
    → (more : Path) × (other ≡ path ++ more)
under-split [] other e = (other, refl)
under-split (turn ∷ path) [] e = absurd (cc)
under-split (left_turn ∷ path) (left_turn ∷ other) e =
    let r = under-split path other e in (r.0, ap (λ z. left_turn ∷ z) r.1)
under-split (left_turn ∷ path) (right_turn ∷ other) e = absurd (cc)
under-split (right_turn ∷ path) (left_turn ∷ other) e = absurd (cc)
under-split (right_turn ∷ path) (right_turn ∷ other) e =
    let r = under-split path other e in (r.0, ap (λ z. right_turn ∷ z) r.1)

-- what is below a child is below its parent
pub under-child : (path other : Path) (turn : Turn)
    → is_at_or_above (path ++ turn ∷ []) other ≡ true → is_at_or_above path other ≡ true
under-child path other turn e =
    let r = under-split (path ++ turn ∷ []) other e in
    subst (λ z. is_at_or_above path z ≡ true)
    (sym (r.1 ∙ append_assoc path (turn ∷ []) r.0)) (under-self path (turn ∷ r.0))

-- all these events are of the task at that path, or of tasks below it
abbrev pub AreUnder : Path → List Event → Type 0
AreUnder path events = AllByRecursion (λ (ev : Event). is_at_or_above path ev.task ≡ true) events

pub under-append : (path : Path) (xs ys : List Event) → AreUnder path xs → AreUnder path ys
    → AreUnder path (xs ++ ys)
under-append path [] ys a b = b
under-append path (x ∷ xs) ys a b = (a.0, under-append path xs ys a.1 b)

pub under-widen : (path : Path) (turn : Turn) (events : List Event)
    → AreUnder (path ++ turn ∷ []) events → AreUnder path events
under-widen path turn [] h = tt
under-widen path turn (ev ∷ events) h =
    (under-child path ev.task turn h.0, under-widen path turn events h.1)

pub under-at : (path other : Path) → other ≡ path → is_at_or_above path other ≡ true
under-at path other e = subst (λ z. is_at_or_above path z ≡ true)
    (append-nil path ∙ sym e) (under-self path [])

module _ (p : Program) where
  -- all events of a task that goes on alone are its own, or of tasks below it
  pub under-going : (a b : TimedPart) (events : List Event) → GoesBy p a events b
      → AreUnder a.part.task events
  under-going a b events (stays none same) = subst (AreUnder a.part.task) (sym none) tt
  under-going a c all (steps b events event go keeps of e is) =
      subst (AreUnder a.part.task) (sym is)
      (under-append a.part.task events (event ∷ []) (under-going a b events go)
      (under-at a.part.task event.task ((e.acts).own ∙ keeps-path p a b events go), tt))
  under-going a c all (forks b waiting_one one two left right events first second event later go keeps of e go_left go_right j is) =
      let path = a.part.task in
      let here = keeps-path p a b events go in
      let x = e.forks in
      let waits_at : waiting_one.part.task ≡ path =
      sym ((x.children).task) ∙ ((x.acts).task ∙ here) in
      let to_left : one.part.task ≡ path ++ left_turn ∷ [] =
      ((x.children).left_one).task ∙ ap (λ z. z ++ left_turn ∷ []) waits_at in
      let to_right : two.part.task ≡ path ++ right_turn ∷ [] =
      ((x.children).right_one).task ∙ ap (λ z. z ++ right_turn ∷ []) waits_at in
      let firsts = under-widen path left_turn first
      (subst (λ z. AreUnder z first) to_left (under-going one left first go_left)) in
      let seconds = under-widen path right_turn second
      (subst (λ z. AreUnder z second) to_right (under-going two right second go_right)) in
      let last = under-at path later.task ((j.acts).own ∙ ((j.children).task ∙ waits_at)) in
      subst (AreUnder path) (sym is)
      (under-append path events (event ∷ (first ++ (second ++ later ∷ [])))
      (under-going a b events go) (
        under-at path event.task ((x.acts).own ∙ here),
        under-append path first (second ++ later ∷ []) firsts
            (under-append path second (later ∷ []) seconds (last, tt)),
      ))

  -- What it spends
  abbrev units_of : TimedPart → ℕ
  units_of a = length (numbers a.part.supply)

  pub spends-units : (a b : TimedPart) (events : List Event) → GoesBy p a events b
      → units_of b ≤ units_of a
  spends-units a b events (stays none same) = let e = ap units_of same in omega (arith, e)
  spends-units a c all (steps b events event go keeps of e is) =
      let h = spends-units a b events go in
      let u = ap length (takes-one event (next (runs e.frames)) (numbers b.part.supply)
      (numbers c.part.supply) e.spends) in
      omega (arith, h, u)
  spends-units a c all (forks b waiting_one one two left right events first second event later go keeps of e go_left go_right j is) =
      let h = spends-units a b events go in
      let x = e.forks in
      let u = ap length (takes-fork event (next (runs x.frames)) (numbers b.part.supply)
      (numbers one.part.supply) (numbers two.part.supply) x.fork x.spends) in
      let v = length-append (numbers one.part.supply) (numbers two.part.supply) in
      let l = spends-units one left first go_left in
      let r = spends-units two right second go_right in
      let w = ap length (takes-join later (next (waits j.frames (runs []) (runs [])))
      (numbers left.part.supply) (numbers right.part.supply) (numbers c.part.supply) j.spends) in
      let m = length-append (numbers left.part.supply) (numbers right.part.supply) in
      omega (arith, h, u, v, l, r, w, m)

  -- at a fork, one for it, and all others go to the children
  pub spends-fork : (event : Event) (a b one two : TimedPart) → Forks p event a b one two
      → units_of a ≡ 1 + (units_of one + units_of two)
  spends-fork event a b one two x =
      let u = ap length (takes-fork event (next (runs x.frames)) (numbers a.part.supply)
      (numbers one.part.supply) (numbers two.part.supply) x.fork x.spends) in
      let v = length-append (numbers one.part.supply) (numbers two.part.supply) in
      omega (arith, u, v)

  -- its clock rises by one event at most for each unit that it has less
  pub spends-time : (a b : TimedPart) (events : List Event) → GoesBy p a events b
      → b.clock + units_of b ≤ a.clock + units_of a
  spends-time a b events (stays none same) =
      let e = ap units_of same in
      let f = ap (λ (z : TimedPart). z.clock) same in
      omega (arith, e, f)
  spends-time a c all (steps b events event go keeps of e is) =
      let h = spends-time a b events go in
      let u = ap length (takes-one event (next (runs e.frames)) (numbers b.part.supply)
      (numbers c.part.supply) e.spends) in
      let t = (e.notes).clock_is in
      omega (arith, h, u, t)
  spends-time a c all (forks b waiting_one one two left right events first second event later go keeps of e go_left go_right j is) =
      let h = spends-time a b events go in
      let x = e.forks in
      let u = spends-fork event b waiting_one one two x in
      let l = spends-time one left first go_left in
      let r = spends-time two right second go_right in
      let ls = spends-units one left first go_left in
      let rs = spends-units two right second go_right in
      let w = ap length (takes-join later (next (waits j.frames (runs []) (runs [])))
      (numbers left.part.supply) (numbers right.part.supply) (numbers c.part.supply) j.spends) in
      let m = length-append (numbers left.part.supply) (numbers right.part.supply) in
      let t = (x.notes).clock_is in
      let s = (j.notes).clock_is in
      let lc = (x.left_begins).clock in
      let rc = (x.right_begins).clock in
      let y = within (waiting_one.clock) (left.clock) (right.clock) (units_of left)
      (units_of right) (b.clock + units_of b) (omega (arith, t, u, ls, rs))
      (omega (arith, t, u, l, lc, rs)) (omega (arith, t, u, r, rc, ls)) in
      omega (arith, h, y, w, m, s)
    where
      within : (x y z m n k : ℕ) → x + (m + n) ≤ k → y + (m + n) ≤ k → z + (m + n) ≤ k
          → max x (max y z) + (m + n) ≤ k
      within x y z m n k a b c = omega arith

  -- the clocks of children leave room for what they hand back
  pub spends-meeting : (a waiting_one one two left right : TimedPart) (event : Event)
      (first second : List Event)
      → Forks p event a waiting_one one two → GoesBy p one first left → GoesBy p two second right
      → max waiting_one.clock (max left.clock right.clock) + (units_of left + units_of right)
      ≤ a.clock + units_of a
  spends-meeting a waiting_one one two left right event first second x go_left go_right =
      let u = spends-fork event a waiting_one one two x in
      let l = spends-time one left first go_left in
      let r = spends-time two right second go_right in
      let ls = spends-units one left first go_left in
      let rs = spends-units two right second go_right in
      let t = (x.notes).clock_is in
      let lc = (x.left_begins).clock in
      let rc = (x.right_begins).clock in
      within (waiting_one.clock) (left.clock) (right.clock) (units_of left)
      (units_of right) (a.clock + units_of a) (omega (arith, t, u, ls, rs))
      (omega (arith, t, u, l, lc, rs)) (omega (arith, t, u, r, rc, ls))
    where
      within : (x y z m n k : ℕ) → x + (m + n) ≤ k → y + (m + n) ≤ k → z + (m + n) ≤ k
          → max x (max y z) + (m + n) ≤ k
      within x y z m n k a b c = omega arith

-- Setting up
-- one of these frames sets the resources up
abbrev pub HasSetter : Program → List Frame → Type 0
HasSetter p frames = (f : Frame) × Contains frames f × (sets_up p f.fixed.procedure ≡ true)

-- the same frame with other things to do
pub setter-top : (p : Program) (f : Fixed) (old todo : List Item) (below : List Frame)
    → HasSetter p (frames_with f old below) → HasSetter p (frames_with f todo below)
setter-top p f old todo below (g, m, e) =
    elim ((contains-cons (record { fixed = f; todo = old }) below g).0 m) [
      | inl same ↦ (
        record { fixed = f; todo = todo },
        (contains-cons (record { fixed = f; todo = todo }) below _).1 (inl refl),
        ap (λ (z : Frame). sets_up p z.fixed.procedure) same ∙ e,
      )
      | inr k ↦ (g, (contains-cons (record { fixed = f; todo = todo }) below g).1 (inr k), e)
    ]

-- after a fork and its join a task has the frames that it had, with less to do
module _ (p : Program) (event later : Event) (a b one two left right c : TimedPart)
    (x : Forks p event a b one two) (j : Joins p later b left right c) where
  joined-setter : HasSetter p (frames_in a.part.stand) → HasSetter p (frames_in c.part.stand)
  joined-setter h =
      let (f, below, place, d, e, rest, is) = x.fork in
      let shape = next-shape x.frames f below (fork place d e) rest is in
      let steps_is : TaskStep p event (common_of a.part)
      (runs (frames_with f (command (fork place d e) ∷ rest) below)) (common_of x.all)
      (waits x.kept (runs x.left_frames) (runs x.right_frames)) =
      subst (λ z. TaskStep p event (common_of a.part) (runs z) (common_of x.all)
      (waits x.kept (runs x.left_frames) (runs x.right_frames))) shape (x.acts).steps in
      let kept : x.kept ≡ frames_with f rest below = let k = steps_is.6 in cc in
      let had : HasSetter p (frames_with f (command (fork place d e) ∷ rest) below) =
      subst (HasSetter p) shape (subst (λ z. HasSetter p (frames_in z)) (x.acts).from_is h) in
      let waits_with : b.part.stand ≡ waiting x.kept =
      sym ((x.children).stand) ∙ (x.acts).to_is in
      let from : b.part.stand ≡ waiting j.frames =
      sym ((j.children).stand) ∙ (j.acts).from_is in
      let same : j.frames ≡ x.kept = ap frames_in (sym from ∙ waits_with) in
      let on : j.kept ≡ j.frames =
      let step : runs j.kept ≡ runs j.frames = ((j.acts).steps).3 in cc in
      let to : c.part.stand ≡ running j.kept = (j.acts).to_is in
      subst (λ z. HasSetter p (frames_in z)) (sym (to ∙ ap running (on ∙ (same ∙ kept))))
      (setter-top p f (command (fork place d e) ∷ rest) rest below had)

-- a task that sets the resources up does so as long as it goes on alone
pub setting-going : SettingUpGoesOn → (p : Program) (a b : TimedPart) (events : List Event)
    → GoesBy p a events b → IsSettingUp p a.part → IsSettingUp p b.part
unfolding SettingUpGoesOn
setting-going law p a b events (stays none same) h =
    subst (λ (z : TimedPart). IsSettingUp p z.part) (sym same) h
setting-going law p a c all (steps b events event go keeps of e is) h =
    law p event b c e (setting-going law p a b events go h)
setting-going law p a c all (forks b waiting_one one two left right events first second event later go keeps of e go_left go_right j is) h =
    joined-setter p event later b waiting_one one two left right c e.forks j
    (setting-going law p a b events go h)

pub going_alone_is_going : GoingAloneIsGoing
unfolding GoingAloneIsGoing
going_alone_is_going p a b events go = forget p a b events go

pub going_alone_composes : GoingAloneComposes
unfolding GoingAloneComposes
going_alone_composes p a b c events more first second = composes p a b c events more first second
