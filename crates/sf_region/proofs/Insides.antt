-- The regions that a task is inside of, event by event.
-- Names: `inside-LAW` of what is still to be done, `KIND-inside` of an event of that kind,
-- `KIND-holds` of what a part holds after it.
use Rattle.std.specs.Prelude.{◌≡◌, ◌≢◌, ◌⊎◌, ◌==◌, ◌+◌, ℕ, cond, Bool, true, false, List, [], ◌∷◌, ◌++◌, map, Option, Some, None}
use Rattle.std.proofs.Common.{sym, ap, ◌∙◌, refl, subst, inl, inr, arith, true≢false, eq-eqb, ne_eqb}
use Rattle.std.proofs.lemmas.List.Sums.{sum_by-cons}
use Rattle.std.proofs.lemmas.Option.{none-some}
use mathlib.Core.Logic.{dite}
use native.Mathlib.Decide.{ℕ_discrete}
use Rattle.sf_base.specs.declared.ids.ResId.{ResId}
use Rattle.sf_core.specs.Machine.Config.{Item, command, leave, items, Fixed, Frame, Task, runs, waits, Path, Common}
use Rattle.sf_core.specs.Machine.Next.{Next, does, leaves, returns, joins, nothing, frame_next, next}
use Rattle.sf_core.specs.Machine.Step.{Event, Does, Goes, task_with, set_holder, free_all_if}
use Rattle.sf_core.specs.Program.Init.{sets_up}
use Rattle.sf_core.specs.Program.Syntax.{Block, done, then, Command, assign, look_up, mutate, new, dispose, if, while, call, fork, with, Program}
use Rattle.sf_part.specs.Of.{inside}
use Rattle.sf_part.specs.Steps.{Private, Enters, Exits, Forks, Joins, IsPrivate, IsLocal, IsEntry, IsExit, IsFork, common_of}
use Rattle.sf_part.specs.Timed.{TimedPart, TimedContent}
use Rattle.sf_region.specs.Holdings.{inside_of, entered}
use Rattle.sf_region.specs.Rule.{times, IsTidy}

abbrev inside_todo : List Item → List ℕ
inside_todo todo = map (λ (r : ResId). r.0) (inside todo)

-- what is left after what comes next, but for what that goes into
abbrev inside_next : Next → List ℕ
inside_next (does f below c rest) = inside_todo rest ++ inside_of below
inside_next (leaves f below r rest) = r.0 ∷ (inside_todo rest ++ inside_of below)
inside_next (returns f below) = inside_of below
inside_next (joins frames one two) = inside_of frames
inside_next nothing = []

inside-frame : (f : Fixed) (below : List Frame) (todo : List Item)
    → inside_todo todo ++ inside_of below ≡ inside_next (frame_next f below todo)
inside-frame f below [] = refl
inside-frame f below (command c ∷ todo) = refl
inside-frame f below (leave r ∷ todo) = refl

inside-frames : (frames : List Frame) → inside_of frames ≡ inside_next (next (runs frames))
inside-frames [] = refl
inside-frames (f ∷ below) = inside-frame f.fixed below f.todo

inside-block : (b : Block) (rest : List Item) → inside_todo (items b ++ rest) ≡ inside_todo rest
inside-block done rest = refl
inside-block (then c b) rest = inside-block b rest

inside-body : (b : Block) → inside_todo (items b) ≡ []
inside-body done = refl
inside-body (then c b) = inside-body b

abbrev frames_or : Task → List Frame
frames_or (runs frames) = frames
frames_or (waits frames one two) = frames

-- the left and the right child of a task that waits
abbrev left_or : Task → Task
left_or (runs frames) = runs frames
left_or (waits frames one two) = one

abbrev right_or : Task → Task
right_or (runs frames) = runs frames
right_or (waits frames one two) = two

-- the frames after an event
kept-is : (kept frames : List Frame) → runs kept ≡ runs frames → inside_of kept ≡ inside_of frames
kept-is kept frames e = ap (λ z. inside_of (frames_or z)) e

module _ (p : Program) (ev : Event) (s t : Common) (kept : List Frame) where
  chooses-inside : {B : Type 0} (this that : List Item) (f : Fixed) (below : List Frame) (ns :
      List ℕ)
      (A : Type 0)
      → (A × (runs kept ≡ task_with f this below)) ⊎ (B × (runs kept ≡ task_with f that below))
      → inside_todo this ≡ ns → inside_todo that ≡ ns → inside_of kept ≡ ns ++ inside_of below
  chooses-inside this that f below ns A (inl (x, e)) h k =
      kept-is kept (record { fixed = f; todo = this } ∷ below) e ∙ ap (λ z. z ++ inside_of below) h
  chooses-inside this that f below ns A (inr (x, e)) h k =
      kept-is kept (record { fixed = f; todo = that } ∷ below) e ∙ ap (λ z. z ++ inside_of below) k

  abbrev held : Common → ResId → Option Path
  held x = x.held

  local-inside : (f : Fixed) (below : List Frame) (c : Command) (rest : List Item) → IsLocal c
      → Does p ev s f below c rest t (runs kept)
      → (inside_of kept ≡ inside_todo rest ++ inside_of below) × (t.held ≡ s.held)
  local-inside f below (assign place x e) rest l (h, u) =
      (kept-is kept (record { fixed = f; todo = rest } ∷ below) u, ap held h)
  local-inside f below (look_up place x e g) rest l (n, cell, finds, h, u) =
      (kept-is kept (record { fixed = f; todo = rest } ∷ below) u, ap held h)
  local-inside f below (mutate place e g v) rest l (n, cell, finds, h, u) =
      (kept-is kept (record { fixed = f; todo = rest } ∷ below) u, ap held h)
  local-inside f below (new place x) rest l (some', none', h, u) =
      (kept-is kept (record { fixed = f; todo = rest } ∷ below) u, ap held h)
  local-inside f below (dispose place e) rest l (n, cell, finds, h, u) =
      (kept-is kept (record { fixed = f; todo = rest } ∷ below) u, ap held h)
  local-inside f below (if place test this that) rest l (h, u) = (
    chooses-inside (items this ++ rest) (items that ++ rest) f below (inside_todo rest) _ u
        (inside-block this rest) (inside-block that rest),
    ap held h,
  )
  local-inside f below (while place test inv body) rest l (h, u) = (
    chooses-inside (items body ++ (command (while place test inv body) ∷ rest)) rest f below
        (inside_todo rest) _ u (inside-block body (command (while place test inv body) ∷ rest))
        refl,
    ap held h,
  )
  local-inside f below (call place c) rest l (g, there, h, u) = (
    ap (λ z. inside_of (frames_or z)) u
        ∙ ap (λ z. z ++ (inside_todo rest ++ inside_of below)) (inside-body g.body),
    ap held h,
  )
  local-inside f below (fork place c d) rest l h = absurd l
  local-inside f below (with place r test body) rest l h = absurd l

  free-none : (b : Bool) → b ≡ false → (free_all_if b s).held ≡ s.held
  free-none true e = absurd (true≢false e)
  free-none false e = refl

  private-goes : (what : Next) → IsPrivate p what → Goes p ev s what t (runs kept)
      → (inside_of kept ≡ inside_next what) × (t.held ≡ s.held)
  private-goes (does f below c rest) i h = local-inside f below c rest i h
  private-goes (leaves f below r rest) i h = absurd i
  private-goes (returns f below) i (called, h, u) =
      (kept-is kept below u, ap held h ∙ free-none' (sets_up p f.procedure) i)
    where
      free-none' : (b : Bool) → b ≡ false
          → (free_all_if b (Rattle.sf_core.specs.Machine.Step.close_room f.room s)).held ≡ s.held
      free-none' true e = absurd (true≢false e)
      free-none' false e = refl
  private-goes (joins frames one two) i h = absurd i
  private-goes nothing i h = absurd i

  entry-goes : (what : Next) (r : ResId) → IsEntry what r → Goes p ev s what t (runs kept)
      → (inside_of kept ≡ r.0 ∷ inside_next what) × (s.held r ≡ None)
      × (t ≡ set_holder r (Some ev.task) s)
  entry-goes what r (f, below, place, test, body, rest, is) h =
      let (free, so, t_is, u) = subst (λ z. Goes p ev s z t (runs kept)) is h in (
        ap (λ z. inside_of (frames_or z)) u
            ∙ (ap (λ z. z ++ inside_of below) (inside-block body (leave r ∷ rest))
            ∙ ap (λ z. r.0 ∷ inside_next z) (sym is)),
        free,
        t_is,
      )

  exit-goes : (what : Next) (r : ResId) → IsExit what r → Goes p ev s what t (runs kept)
      → (inside_next what ≡ r.0 ∷ inside_of kept) × (s.held r ≡ Some ev.task)
      × (t ≡ set_holder r None s)
  exit-goes what r (f, below, rest, is) h =
      let (mine, t_is, u) = subst (λ z. Goes p ev s z t (runs kept)) is h in (
        ap inside_next is ∙ ap (λ z. r.0 ∷ z)
            (sym (kept-is kept (record { fixed = f; todo = rest } ∷ below) u)),
        mine,
        t_is,
      )

  fork-goes : (what : Next) (ones twos : List Frame) → IsFork what
      → Goes p ev s what t (waits kept (runs ones) (runs twos))
      → (inside_of kept ≡ inside_next what) × (inside_of ones ≡ []) × (inside_of twos ≡ [])
      × (t.held ≡ s.held)
  fork-goes what ones twos (f, below, place, c, d, rest, is) h =
      let (less, g, k, first, second, t_is, u) =
      subst (λ z. Goes p ev s z t (waits kept (runs ones) (runs twos))) is h in (
        ap (λ z. inside_of (frames_or z)) u ∙ ap inside_next (sym is),
        ap (λ z. inside_of (frames_or (left_or z))) u
            ∙ ap (λ z. z ++ []) (inside-body g.body),
        ap (λ z. inside_of (frames_or (right_or z))) u
            ∙ ap (λ z. z ++ []) (inside-body k.body),
        ap held t_is,
      )

-- what is held by a task is what its part holds
holds-same : (b c : Bool) (x y : Path) → cond b (Some x) None ≡ cond c (Some y) None → b ≡ c
holds-same true true x y e = refl
holds-same true false x y e = absurd (none-some x (sym e))
holds-same false true x y e = absurd (none-some y e)
holds-same false false x y e = refl

holds-none : (b : Bool) (x : Path) → cond b (Some x) None ≡ None → b ≡ false
holds-none true x e = absurd (none-some x (sym e))
holds-none false x e = refl

holds-some : (b : Bool) (x y : Path) → cond b (Some x) None ≡ Some y → b ≡ true
holds-some true x y e = refl
holds-some false x y e = absurd (none-some y e)

pub private-inside : (p : Program) (ev : Event) (a b : TimedPart) → Private p ev a b
    → (entered b.part.stand ≡ entered a.part.stand)
    × ((r : ResId) → b.part.holds r ≡ a.part.holds r)
private-inside p ev a b e =
    let h = private-goes p ev (common_of a.part) (common_of b.part) e.kept (next (runs e.frames))
    e.private e.acts.steps in (
      ap entered e.acts.to_is ∙ (h.0 ∙ (sym (inside-frames e.frames)
          ∙ ap entered (sym e.acts.from_is))),
      λ r. holds-same (b.part.holds r) (a.part.holds r) b.part.task a.part.task
          (ap (λ z. z r) h.1),
    )

pub entry-inside : (p : Program) (ev : Event) (a b : TimedPart) (k : TimedContent)
    → Enters p ev a k b
    → (entered b.part.stand ≡ k.content.resource.0 ∷ entered a.part.stand)
    × (a.part.holds k.content.resource ≡ false)
    × (b.part.holds k.content.resource ≡ true)
    × ((r : ResId) → r.0 ≢ k.content.resource.0 → b.part.holds r ≡ a.part.holds r)
entry-inside p ev a b k e =
    let q = k.content.resource in
    let h = entry-goes p ev (common_of e.both) (common_of b.part) e.kept (next (runs e.frames)) q
    e.entry e.acts.steps in
    let same : (r : ResId) → e.both.holds r ≡ a.part.holds r = λ r. ap (λ z. z r) e.hand.holds in
    let after : (r : ResId) → cond (b.part.holds r) (Some b.part.task) None
    ≡ cond (r.0 == q.0) (Some ev.task) (cond (e.both.holds r) (Some e.both.task) None) =
    λ r. ap (λ (z : Common). z.held r) h.2 in (
      ap entered e.acts.to_is ∙ (h.0 ∙ ap (λ z. q.0 ∷ z) (sym (inside-frames e.frames)
          ∙ (ap entered (sym e.acts.from_is) ∙ ap entered e.hand.stand))),
      sym (same q) ∙ holds-none (e.both.holds q) e.both.task h.1,
      holds-some (b.part.holds q) b.part.task ev.task
          (after q ∙ ap (λ z. cond z (Some ev.task)
          (cond (e.both.holds q) (Some e.both.task) None)) (eq-eqb q.0 q.0 refl)),
      λ r ne. holds-same (b.part.holds r) (e.both.holds r) b.part.task e.both.task
          (after r ∙ ap (λ z. cond z (Some ev.task)
          (cond (e.both.holds r) (Some e.both.task) None)) (ne_eqb r.0 q.0 ne)) ∙ same r,
    )

pub exit-inside : (p : Program) (ev : Event) (a b : TimedPart) (k : TimedContent)
    → Exits p ev a k b
    → (entered a.part.stand ≡ k.content.resource.0 ∷ entered b.part.stand)
    × (a.part.holds k.content.resource ≡ true)
    × (b.part.holds k.content.resource ≡ false)
    × ((r : ResId) → r.0 ≢ k.content.resource.0 → b.part.holds r ≡ a.part.holds r)
exit-inside p ev a b k e =
    let q = k.content.resource in
    let h = exit-goes p ev (common_of a.part) (common_of e.both) e.kept (next (runs e.frames)) q
    e.exit e.acts.steps in
    let same : (r : ResId) → e.both.holds r ≡ b.part.holds r = λ r. ap (λ z. z r) e.hand.holds in
    let after : (r : ResId) → cond (e.both.holds r) (Some e.both.task) None
    ≡ cond (r.0 == q.0) None (cond (a.part.holds r) (Some a.part.task) None) =
    λ r. ap (λ (z : Common). z.held r) h.2 in (
      ap entered e.acts.from_is ∙ (inside-frames e.frames ∙ (h.0 ∙ ap (λ z. q.0 ∷ z)
          (ap entered (sym e.acts.to_is) ∙ ap entered e.hand.stand))),
      holds-some (a.part.holds q) a.part.task ev.task h.1,
      sym (same q) ∙ holds-none (e.both.holds q) e.both.task
          (after q ∙ ap (λ z. cond z None
          (cond (a.part.holds q) (Some a.part.task) None)) (eq-eqb q.0 q.0 refl)),
      λ r ne. sym (same r) ∙ holds-same (e.both.holds r) (a.part.holds r) e.both.task a.part.task
          (after r ∙ ap (λ z. cond z None
          (cond (a.part.holds r) (Some a.part.task) None)) (ne_eqb r.0 q.0 ne)),
    )

pub fork-inside : (p : Program) (ev : Event) (a b one two : TimedPart) → Forks p ev a b one two
    → (entered b.part.stand ≡ entered a.part.stand)
    × ((r : ResId) → b.part.holds r ≡ a.part.holds r)
    × (entered one.part.stand ≡ []) × (entered two.part.stand ≡ [])
fork-inside p ev a b one two e =
    let h = fork-goes p ev (common_of a.part) (common_of e.all) e.kept (next (runs e.frames))
    e.left_frames e.right_frames e.fork e.acts.steps in (
      ap entered (sym e.children.stand ∙ e.acts.to_is) ∙ (h.0 ∙ (sym (inside-frames e.frames)
          ∙ ap entered (sym e.acts.from_is))),
      λ r. sym (ap (λ z. z r) e.children.holds) ∙ holds-same (e.all.holds r) (a.part.holds r)
          e.all.task a.part.task (ap (λ z. z r) h.3),
      ap entered e.left_begins.stand ∙ h.1,
      ap entered e.right_begins.stand ∙ h.2,
    )

pub join-inside : (p : Program) (ev : Event) (a one two b : TimedPart) → Joins p ev a one two b
    → (entered b.part.stand ≡ entered a.part.stand)
    × ((r : ResId) → b.part.holds r ≡ a.part.holds r)
join-inside p ev a one two b e =
    let (left, right, same, u) = e.acts.steps in (
      ap entered e.acts.to_is ∙ (kept-is e.kept e.frames u
          ∙ ap entered (sym (sym e.children.stand ∙ e.acts.from_is))),
      λ r. holds-same (b.part.holds r) (e.all.holds r) b.part.task e.all.task
          (ap (λ (z : Common). z.held r) same) ∙ ap (λ z. z r) e.children.holds,
    )

-- Counts
pub times-cons : (n m : ℕ) (ns : List ℕ) → times n (m ∷ ns) ≡ cond (m == n) 1 0 + times n ns
times-cons n m ns = sum_by-cons (λ z. cond (z == n) 1 0) m ns

abbrev pub one_if : Bool → ℕ
one_if b = cond b 1 0

cond-bool : (b c : Bool) → b ≡ c → one_if b ≡ one_if c
cond-bool b c e = ap one_if e

-- a part that is inside of one region more, and holds its resource besides, is one further in both counts
one-further : (out into : TimedPart) (q r : ResId)
    → entered into.part.stand ≡ q.0 ∷ entered out.part.stand
    → out.part.holds q ≡ false → into.part.holds q ≡ true
    → (r.0 ≢ q.0 → into.part.holds r ≡ out.part.holds r)
    → times r.0 (entered into.part.stand) + one_if (out.part.holds r)
    ≡ times r.0 (entered out.part.stand) + one_if (into.part.holds r)
one-further out into q r inside free held others =
    let y : times r.0 (entered into.part.stand) ≡ times r.0 (q.0 ∷ entered out.part.stand) =
    ap (times r.0) inside in
    let z = times-cons r.0 q.0 (entered out.part.stand) in
    dite (ℕ_discrete r.0 q.0)
    (λ s. let u : one_if (q.0 == r.0) ≡ 1 = ap one_if (eq-eqb q.0 r.0 (sym s)) in
    let same : r ≡ q = λ j. record { 0 = s j } in
    let v = cond-bool (out.part.holds r) false (ap out.part.holds same ∙ free) in
    let w = cond-bool (into.part.holds r) true (ap into.part.holds same ∙ held) in omega arith)
    (λ ne. let u : one_if (q.0 == r.0) ≡ 0 =
    ap one_if (ne_eqb q.0 r.0 (λ s. ne (sym s))) in
    let w = cond-bool (into.part.holds r) (out.part.holds r) (others ne) in omega arith)

pub entry-tidy : (p : Program) (ev : Event) (a b : TimedPart) (k : TimedContent)
    → Enters p ev a k b → IsTidy a → IsTidy b
entry-tidy p ev a b k e h r =
    let i = entry-inside p ev a b k e in
    let x = h r in
    let s = one-further a b k.content.resource r i.0 i.1 i.2 (i.3 r) in omega arith

pub exit-tidy : (p : Program) (ev : Event) (a b : TimedPart) (k : TimedContent)
    → Exits p ev a k b → IsTidy a → IsTidy b
exit-tidy p ev a b k e h r =
    let i = exit-inside p ev a b k e in
    let x = h r in
    let s = one-further b a k.content.resource r i.0 i.2 i.1 (λ ne. sym (i.3 r ne)) in omega arith

-- what keeps what a part is inside of, and what it holds, keeps it tidy
same-tidy : (a b : TimedPart) → entered b.part.stand ≡ entered a.part.stand
    → ((r : ResId) → b.part.holds r ≡ a.part.holds r) → IsTidy a → IsTidy b
same-tidy a b inside holds h r =
    let x = h r in
    let y : times r.0 (entered b.part.stand) ≡ times r.0 (entered a.part.stand) =
    ap (times r.0) inside in
    let z = cond-bool (b.part.holds r) (a.part.holds r) (holds r) in omega arith

pub private-tidy : (p : Program) (ev : Event) (a b : TimedPart) → Private p ev a b → IsTidy a
    → IsTidy b
private-tidy p ev a b e h = let i = private-inside p ev a b e in same-tidy a b i.0 i.1 h

pub fork-tidy : (p : Program) (ev : Event) (a b one two : TimedPart) → Forks p ev a b one two
    → IsTidy a → IsTidy b
fork-tidy p ev a b one two e h =
    let i = fork-inside p ev a b one two e in same-tidy a b i.0 i.1 h

pub join-tidy : (p : Program) (ev : Event) (a one two b : TimedPart) → Joins p ev a one two b
    → IsTidy a → IsTidy b
join-tidy p ev a one two b e h =
    let i = join-inside p ev a one two b e in same-tidy a b i.0 i.1 h

-- a part that is inside of no region is tidy
pub outside-tidy : (a : TimedPart) → entered a.part.stand ≡ [] → IsTidy a
outside-tidy a e r =
    let x : times r.0 (entered a.part.stand) ≡ times r.0 [] = ap (times r.0) e in omega arith
