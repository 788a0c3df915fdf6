-- What fits in surroundings fits in fewer, bodies fit where they are called, and each step leaves what fits.
-- Names: `WHAT-fewer` with fewer resources around, `WHAT-fits` says what fits, `WHAT-step` what a step leaves.
use Rattle.std.specs.Prelude.{◌≡◌, ◌⊎◌, List, [], ◌∷◌, ◌++◌, Contains, Some}
use Rattle.std.proofs.Common.{sym, refl, subst, inl, inr}
use Rattle.std.proofs.lemmas.List.Elements.{Contains-append_left, Contains-append_right}
use Rattle.std.proofs.lemmas.Option.{same_Some}
use Rattle.sf_base.proofs.Elements.{contains-cons, contains-single_of}
use Rattle.sf_base.specs.declared.ids.ProcId.{ProcId}
use Rattle.sf_base.specs.declared.ids.ResId.{ResId}
use Rattle.sf_base.specs.declared.path.Turn.TheVariants.{Left as left, Right as right}
use Rattle.sf_core.specs.Machine.Config.{Item, command, leave, items, Fixed, Frame, Task, runs, waits, Path, Common, task_at, put_task}
use Rattle.sf_core.specs.Machine.HasThroughout.{SetsUp}
use Rattle.sf_core.specs.Machine.Next.{frame_next}
use Rattle.sf_core.specs.Machine.Step.{Event, procedure_at, task_with, Does, Goes, TaskStep}
use Rattle.sf_core.specs.Program.Heads.{Site, sites, inner_sites}
use Rattle.sf_core.specs.Program.Syntax.{Call, Command, assign, look_up, mutate, new, dispose, if, while, call, fork, with, Block, done, then, Procedure, Program}
use Rattle.sf_calls.specs.Reaches.{directly, through}
use Rattle.sf_order.specs.Nests.{MayEnter, Nests}
use Rattle.sf_order.specs.Checked.Fits.{CalleeFits, CommandFits, BlockFits, Leaves, AnyHolds, TodoFits, FramesFit, TaskFits, SetterTakesNone}

-- the second of two becomes something else
on-right : {A B C : Type 0} → (B → C) → A ⊎ B → A ⊎ C
on-right f (inl a) = inl a
on-right f (inr b) = inr (f b)

-- three, taken together in the other way
to-right : {A B C : Type 0} → (A ⊎ B) ⊎ C → A ⊎ (B ⊎ C)
to-right (inl (inl a)) = inl a
to-right (inl (inr b)) = inr (inl b)
to-right (inr c) = inr (inr c)

-- four, taken together in the other way
pub flat : {A B C D : Type 0} → (A ⊎ (B ⊎ C)) ⊎ D → A ⊎ (B ⊎ (C ⊎ D))
flat m = on-right to-right (to-right m)

-- nothing, or that
of-none : {A : Type 0} → ⊥ ⊎ A → A
of-none (inl h) = absurd h
of-none (inr a) = a

-- the commands of a block leave no regions
block-leaves : (b : Block) (rest : List Item) (r : ResId) → Leaves (items b ++ rest) r → Leaves rest r
block-leaves done rest r h = h
block-leaves (then c b) rest r h = block-leaves b rest r h

pub block-leaves_none : (b : Block) (r : ResId) → Leaves (items b) r → ⊥
block-leaves_none done r h = h
block-leaves_none (then c b) r h = block-leaves_none b r h

module _ (p : Program) where
  mutual
    command-fewer : (a b : ResId → Type 0) → ((r : ResId) → b r → a r) → (c : Command) → CommandFits p a c
        → CommandFits p b c
    command-fewer a b k (assign q x e) h = h
    command-fewer a b k (look_up q x e field) h = h
    command-fewer a b k (mutate q e field d) h = h
    command-fewer a b k (new q x) h = h
    command-fewer a b k (dispose q e) h = h
    command-fewer a b k (if q t c d) h = (block-fewer a b k c h.0, block-fewer a b k d h.1)
    command-fewer a b k (while q t i c) h = block-fewer a b k c h
    command-fewer a b k (call q c) h = λ r s m t. h r s (k r m) t
    command-fewer a b k (fork q c d) h = (λ r s m t. h.0 r s (k r m) t, λ r s m t. h.1 r s (k r m) t)
    command-fewer a b k (with q s t c) h = (
      λ r m. h.0 r (k r m),
      block-fewer (λ r. (s ≡ r) ⊎ a r) (λ r. (s ≡ r) ⊎ b r) (λ r. on-right (k r)) c h.1,
    )

    pub block-fewer : (a b : ResId → Type 0) → ((r : ResId) → b r → a r) → (c : Block) → BlockFits p a c
        → BlockFits p b c
    block-fewer a b k done h = h
    block-fewer a b k (then c d) h = (command-fewer a b k c h.0, block-fewer a b k d h.1)

  -- a block that fits, alone
  pub block-alone : (a : ResId → Type 0) (b : Block) → BlockFits p a b → TodoFits p a (items b)
  block-alone a done h = tt
  block-alone a (then c b) h = (
    command-fewer a (λ r. Leaves (items b) r ⊎ a r) (λ r m. of-none (none r m)) c h.0,
    block-alone a b h.1,
  )
    where
      none : (r : ResId) → Leaves (items b) r ⊎ a r → ⊥ ⊎ a r
      none r (inl m) = inl (block-leaves_none b r m)
      none r (inr m) = inr m

  -- and before others
  pub block-before : (a : ResId → Type 0) (b : Block) (rest : List Item)
      → BlockFits p (λ r. Leaves rest r ⊎ a r) b → TodoFits p a rest → TodoFits p a (items b ++ rest)
  block-before a done rest h k = k
  block-before a (then c b) rest h k = (
    command-fewer (λ r. Leaves rest r ⊎ a r) (λ r. Leaves (items b ++ rest) r ⊎ a r) fewer c h.0,
    block-before a b rest h.1 k,
  )
    where
      fewer : (r : ResId) → Leaves (items b ++ rest) r ⊎ a r → Leaves rest r ⊎ a r
      fewer r (inl m) = inl (block-leaves b rest r m)
      fewer r (inr m) = inr m

  -- around a command there are these, and those of the regions that it is inside of
  abbrev Inside : (ResId → Type 0) → List ResId → ResId → Type 0
  Inside a es r = Contains es r ⊎ a r

  -- what the command may enter nests in each of these
  abbrev NestsAt : (ResId → Type 0) → List ResId → Command → Type 0
  NestsAt a es c = (r q : ResId) → Inside a es r → MayEnter p c q → Nests p r q

  -- one more region
  one-more : (a : ResId → Type 0) (s : ResId) (es : List ResId) (r : ResId) → (s ≡ r) ⊎ Inside a es r
      → Inside a (s ∷ es) r
  one-more a s es r (inl e) = inl ((contains-cons s es r).1 (inl e))
  one-more a s es r (inr (inl m)) = inl ((contains-cons s es r).1 (inr m))
  one-more a s es r (inr (inr m)) = inr m

  mutual
    -- commands fit where each of them nests in what is around it
    block-fits : (a : ResId → Type 0) (es : List ResId) (b : Block)
        → ((s : Site) → Contains (sites es b) s → NestsAt a s.entered s.command) → BlockFits p (Inside a es) b
    block-fits a es done k = tt
    block-fits a es (then c b) k =
        let site : Site = record { entered = es; command = c } in
        let rest : List Site = inner_sites es c ++ sites es b in (
          command-fits a es c (k site ((contains-cons site rest site).1 (inl refl)))
              (λ s m. k s ((contains-cons site rest s).1 (inr (Contains-append_left (inner_sites es c) (sites es b) s m)))),
          block-fits a es b
              (λ s m. k s ((contains-cons site rest s).1 (inr (Contains-append_right (inner_sites es c) (sites es b) s m)))),
        )

    command-fits : (a : ResId → Type 0) (es : List ResId) (c : Command) → NestsAt a es c
        → ((s : Site) → Contains (inner_sites es c) s → NestsAt a s.entered s.command)
        → CommandFits p (Inside a es) c
    command-fits a es (assign q x e) here k = tt
    command-fits a es (look_up q x e field) here k = tt
    command-fits a es (mutate q e field d) here k = tt
    command-fits a es (new q x) here k = tt
    command-fits a es (dispose q e) here k = tt
    command-fits a es (if q t c d) here k = (
      block-fits a es c (λ s m. k s (Contains-append_left (sites es c) (sites es d) s m)),
      block-fits a es d (λ s m. k s (Contains-append_right (sites es c) (sites es d) s m)),
    )
    command-fits a es (while q t i c) here k = block-fits a es c k
    command-fits a es (call q c) here k =
        λ r s m t. here r s m (inr (c, contains-single_of c c refl, t))
    command-fits a es (fork q c d) here k = (
      λ r s m t. here r s m (inr (c, (contains-cons c (d ∷ []) c).1 (inl refl), t)),
      λ r s m t. here r s m (inr (d, (contains-cons c (d ∷ []) d).1 (inr (contains-single_of d d refl)), t)),
    )
    command-fits a es (with q s t c) here k = (
      λ r m. here r s m (inl (contains-single_of s s refl)),
      block-fewer (Inside a (s ∷ es)) (λ r. (s ≡ r) ⊎ Inside a es r) (one-more a s es) c (block-fits a (s ∷ es) c k),
    )

  -- a body fits where a call of its procedure does
  pub body-fits : (f : ProcId) (h : Procedure) → procedure_at p f ≡ Some h → (a : ResId → Type 0)
      → CalleeFits p a f → BlockFits p a h.body
  body-fits f h there a fits =
      block-fewer (Inside a []) a (λ r m. inr m) h.body (block-fits a [] h.body at)
    where
      at : (s : Site) → Contains (sites [] h.body) s → NestsAt a s.entered s.command
      at s m r q (inl e) enters = (f, (h, there, (s, m, (e, enters))))
      at s m r q (inr e) (inl region) = fits r q e (directly (h, there, (s, m, region)))
      at s m r q (inr e) (inr (d, c, t)) =
          fits r q e (through d.callee (h, there, (s, m, (tt, (d, c, refl)))) t)

module _ (p : Program) (none : SetterTakesNone p) where
  -- what fits around a call fits with what its procedure sets up
  own-fits : (a : ResId → Type 0) (f : ProcId) → CalleeFits p a f → CalleeFits p (λ r. SetsUp p f r ⊎ a r) f
  own-fits a f h r q (inl up) t = absurd (none f r q up t)
  own-fits a f h r q (inr m) t = h r q m t

  -- the frame of a procedure fits where a call of it does
  pub frame-fits : (f : ProcId) (h : Procedure) → procedure_at p f ≡ Some h → (a : ResId → Type 0)
      → CalleeFits p a f → TodoFits p (λ r. SetsUp p f r ⊎ a r) (items h.body)
  frame-fits f h there a fits =
      block-alone p (λ r. SetsUp p f r ⊎ a r) h.body
      (body-fits p f h there (λ r. SetsUp p f r ⊎ a r) (own-fits a f fits))

  module _ (ev : Event) (s t : Common) (a : ResId → Type 0) (f : Fixed) (below : List Frame)
      (u : Task) (others : FramesFit p a below) where
    -- around the frame
    abbrev Around : ResId → Type 0
    Around r = SetsUp p f.procedure r ⊎ (AnyHolds p below r ⊎ a r)

    -- it goes on with that to do
    goes-on : (todo : List Item) → TodoFits p Around todo → u ≡ task_with f todo below → TaskFits p a u
    goes-on todo h e = subst (TaskFits p a) (sym e) (h, others)

    -- with one block or the other
    chooses : {P Q : Type 0} (this that : List Item) → TodoFits p Around this → TodoFits p Around that
        → (P × (u ≡ task_with f this below)) ⊎ (Q × (u ≡ task_with f that below)) → TaskFits p a u
    chooses this that h k (inl e) = goes-on this h e.1
    chooses this that h k (inr e) = goes-on that k e.1

    -- the frames from this one on, with that still to do
    abbrev Frames : List Item → List Frame
    Frames rest = record { fixed = f; todo = rest } ∷ below

    -- the frame of a callee, above this one
    callee : (rest : List Item) (c : Call) (g : Procedure) → procedure_at p c.callee ≡ Some g
        → CalleeFits p (λ r. Leaves rest r ⊎ Around r) c.callee
        → TodoFits p (λ r. SetsUp p c.callee r ⊎ (AnyHolds p (Frames rest) r ⊎ a r)) (items g.body)
    callee rest c g there h =
        frame-fits c.callee g there (λ r. AnyHolds p (Frames rest) r ⊎ a r) (λ r q m takes. h r q (flat m) takes)

    -- and alone above it in a child
    child : (rest : List Item) (c : Call) (g : Procedure) → procedure_at p c.callee ≡ Some g
        → CalleeFits p (λ r. Leaves rest r ⊎ Around r) c.callee
        → TodoFits p (λ r. SetsUp p c.callee r ⊎ (⊥ ⊎ (AnyHolds p (Frames rest) r ⊎ a r))) (items g.body)
    child rest c g there h =
        frame-fits c.callee g there (λ r. ⊥ ⊎ (AnyHolds p (Frames rest) r ⊎ a r))
        (λ r q m takes. h r q (flat (of-none m)) takes)

    command-step : (rest : List Item) (c : Command) → CommandFits p (λ r. Leaves rest r ⊎ Around r) c
        → TodoFits p Around rest → Does p ev s f below c rest t u → TaskFits p a u
    command-step rest (assign q x e) h k d = goes-on rest k d.1
    command-step rest (look_up q x e field) h k d = goes-on rest k d.4
    command-step rest (mutate q e field v) h k d = goes-on rest k d.4
    command-step rest (new q x) h k d = goes-on rest k d.3
    command-step rest (dispose q e) h k d = goes-on rest k d.4
    command-step rest (if q test this that) h k d =
        chooses (items this ++ rest) (items that ++ rest) (block-before p Around this rest h.0 k)
        (block-before p Around that rest h.1 k) d.1
    command-step rest (while q test i body) h k d =
        chooses (items body ++ (command (while q test i body) ∷ rest)) rest
        (block-before p Around body (command (while q test i body) ∷ rest) h (h, k)) k d.1
    command-step rest (call q c) h k (g, there, e, i) =
        subst (TaskFits p a) (sym i) (callee rest c g there h, (k, others))
    command-step rest (fork q c d) h k (turns, g, g', there, there', e, i) =
        subst (TaskFits p a) (sym i) (
          (k, others),
          (child rest c g there h.0, tt),
          (child rest d g' there' h.1, tt),
        )
    command-step rest (with q r test body) h k d =
        goes-on (items body ++ (leave r ∷ rest))
        (block-before p Around body (leave r ∷ rest)
        (block-fewer p (λ z. (r ≡ z) ⊎ (Leaves rest z ⊎ Around z)) (λ z. ((r ≡ z) ⊎ Leaves rest z) ⊎ Around z)
        (λ z. to-right) body h.1) k) d.3

    frame-step : (todo : List Item) → TodoFits p Around todo → Goes p ev s (frame_next f below todo) t u
        → TaskFits p a u
    frame-step [] h g = subst (TaskFits p a) (sym g.2) others
    frame-step (command c ∷ rest) h g = command-step rest c h.0 h.1 g
    frame-step (leave r ∷ rest) h g = goes-on rest h g.2

  -- the step of a task leaves one that fits
  pub task-step : (ev : Event) (s t : Common) (from u : Task) → TaskStep p ev s from t u → (a : ResId → Type 0)
      → TaskFits p a from → TaskFits p a u
  task-step ev s t (runs []) u d a h = absurd d
  task-step ev s t (runs (f ∷ below)) u d a h = frame-step ev s t a f.fixed below u h.1 f.todo h.0 d
  task-step ev s t (waits frames one two) u d a h = subst (TaskFits p a) (sym d.3) h.0

module _ (p : Program) where
  -- and so a tree that does
  pub fits-put : (path : Path) (t from u : Task) → task_at path t ≡ Some from
      → ((a : ResId → Type 0) → TaskFits p a from → TaskFits p a u) → (a : ResId → Type 0) → TaskFits p a t
      → TaskFits p a (put_task path u t)
  fits-put [] t from u e k a h = k a (subst (TaskFits p a) (same_Some t from e) h)
  fits-put (left ∷ path) (runs frames) from u e k a h = absurd (cc)
  fits-put (right ∷ path) (runs frames) from u e k a h = absurd (cc)
  fits-put (left ∷ path) (waits frames one two) from u e k a h =
      (h.0, fits-put path one from u e k (λ r. AnyHolds p frames r ⊎ a r) h.1, h.2)
  fits-put (right ∷ path) (waits frames one two) from u e k a h =
      (h.0, h.1, fits-put path two from u e k (λ r. AnyHolds p frames r ⊎ a r) h.2)
