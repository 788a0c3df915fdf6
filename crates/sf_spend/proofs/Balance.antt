-- Units that are divided as the tasks are, and what a task has used and has left.
-- Names: `divided-LAW`, `balanced-LAW`.
use Rattle.std.specs.Prelude.{◌≡◌, ◌⊎◌, ℕ, true, false, List, [], ◌∷◌, length, Some, None}
use Rattle.std.proofs.Common.{sym, ap, ◌∙◌, refl, subst, inl, inr, arith}
use Rattle.sf_base.proofs.Options.{some-none, some-once}
use Rattle.sf_base.specs.declared.path.Turn.{Turn}
use Rattle.sf_base.specs.declared.path.Turn.TheVariants.{Left as left, Right as right}
use Rattle.sf_core.specs.Machine.Config.{Path, Common, Config, Fixed, Item, Frame, Task, runs, waits, task_at, put_task}
use Rattle.sf_core.specs.Machine.Next.{Next, does, leaves, returns, joins, nothing, next}
use Rattle.sf_core.specs.Machine.Numbered.{NumberedFrom}
use Rattle.sf_core.specs.Machine.SpentSteps.{is_at_or_above, Spending, spends}
use Rattle.sf_core.specs.Machine.Step.{Event, Step, Goes, Does}
use Rattle.sf_core.specs.Machine.Supplies.{Supply, has, lent, left_in, supply_at, put_supply, NextTakes, Takes}
use Rattle.sf_core.specs.Program.Syntax.{Command, assign, look_up, mutate, new, dispose, if, while, call, fork, with, Program}
use Rattle.sf_spend.specs.Counting.{CountedFrom, IsBalanced, IsDividedAs}
use Rattle.sf_spend.proofs.Counts.{bool-or, spends-anew, spends-own, spends-there}
use Rattle.sf_spend.proofs.Takings.{above-length, beside-is, kept-length, kept-next, kept_command, kept_next}

-- the supply of a task is divided as it is
divided-at : (path : Path) (tree : Task) (supply : Supply) (task : Task) (own : Supply)
    → IsDividedAs tree supply → task_at path tree ≡ Some task → supply_at path supply ≡ Some own
    → IsDividedAs task own
divided-at [] tree supply task own h there is = subst (λ (z : Task × Supply). IsDividedAs z.0 z.1)
    (λ i. (some-once _ tree task refl there i, some-once _ supply own refl is i)) h
divided-at (left ∷ path) (runs frames) supply task own h there is =
    absurd (some-none task (sym there))
divided-at (right ∷ path) (runs frames) supply task own h there is =
    absurd (some-none task (sym there))
divided-at (turn ∷ path) (waits frames a b) (has us) task own h there is = absurd h
divided-at (left ∷ path) (waits frames a b) (lent one two) task own h there is =
    divided-at path a one task own h.0 there is
divided-at (right ∷ path) (waits frames a b) (lent one two) task own h there is =
    divided-at path b two task own h.1 there is

-- with another task and another supply at a path
divided-put : (path : Path) (tree : Task) (supply : Supply) (task : Task) (own : Supply) (to : Task)
    (kept : Supply) → IsDividedAs tree supply → task_at path tree ≡ Some task
    → supply_at path supply ≡ Some own → IsDividedAs to kept
    → IsDividedAs (put_task path to tree) (put_supply path kept supply)
divided-put [] tree supply task own to kept h there is after = after
divided-put (left ∷ path) (runs frames) supply task own to kept h there is after =
    absurd (some-none task (sym there))
divided-put (right ∷ path) (runs frames) supply task own to kept h there is after =
    absurd (some-none task (sym there))
divided-put (turn ∷ path) (waits frames a b) (has us) task own to kept h there is after = absurd h
divided-put (left ∷ path) (waits frames a b) (lent one two) task own to kept h there is after =
    (divided-put path a one task own to kept h.0 there is after, h.1)
divided-put (right ∷ path) (waits frames a b) (lent one two) task own to kept h there is after =
    (h.0, divided-put path b two task own to kept h.1 there is after)

-- what a task becomes, and what is left of its supply
module _ (p : Program) (ev : Event) (s t : Common) (u : Task) (us : List ℕ) where
  running : (frames : List Frame) → u ≡ runs frames → IsDividedAs u (has us)
  running frames e = subst (λ z. IsDividedAs z (has us)) (sym e) tt

  chosen : {A B : Type 0} (these those : List Frame)
      → (A × (u ≡ runs these)) ⊎ (B × (u ≡ runs those)) → IsDividedAs u (has us)
  chosen these those (inl h) = running these h.1
  chosen these those (inr h) = running those h.1

  divided-command : (f : Fixed) (below : List Frame) (c : Command) (rest : List Item)
      → Does p ev s f below c rest t u → IsDividedAs u (kept_command c us)
  divided-command f below (assign place x e) rest h = running _ h.1
  divided-command f below (look_up place x e g) rest h = running _ h.4
  divided-command f below (mutate place e g v) rest h = running _ h.4
  divided-command f below (new place x) rest h = running _ h.3
  divided-command f below (dispose place e) rest h = running _ h.4
  divided-command f below (if place test this that) rest h = chosen _ _ h.1
  divided-command f below (while place test kept body) rest h = chosen _ _ h.1
  divided-command f below (call place c) rest h = running _ h.3
  divided-command f below (fork place c d) rest h =
      subst (λ z. IsDividedAs z (kept_command (fork place c d) us)) (sym h.6) (tt, tt)
  divided-command f below (with place r test body) rest h = running _ h.3

  divided-next : (what : Next) → Goes p ev s what t u → IsDividedAs u (kept_next what us)
  divided-next (does f below c rest) h = divided-command f below c rest h
  divided-next (leaves f below r rest) h = running _ h.2
  divided-next (returns f below) h = running _ h.2
  divided-next (joins frames one two) h = running _ h.3
  divided-next nothing h = absurd h

-- one event leaves them divided
pub divided-step : (p : Program) (ev : Event) (c d : Config) (supply rest : Supply)
    → Step p ev c d → Takes ev c supply rest → IsDividedAs c.tasks supply
    → IsDividedAs d.tasks rest
divided-step p ev c d supply rest step takes h =
    let same : takes.task ≡ step.from = some-once _ takes.task step.from takes.there step.there in
    let (us, one, is) = kept-next ev (next step.from) takes.own takes.kept
    (subst (λ z. NextTakes ev (next z) takes.own takes.kept) same takes.takes) in
    let after : IsDividedAs step.to takes.kept = subst (IsDividedAs step.to) (sym is)
    (divided-next p ev c.common d.common step.to us (next step.from) step.steps) in
    subst (λ (z : Task × Supply). IsDividedAs z.0 z.1)
    (λ i. (sym step.tasks i, sym takes.rest i))
    (divided-put ev.task c.tasks supply step.from takes.own step.to takes.kept h step.there
    takes.is after)

pub divided-list : (p : Program) (events : List Event) (c d : Config) (supply rest : Supply)
    → NumberedFrom p c supply events d rest → IsDividedAs c.tasks supply
    → IsDividedAs d.tasks rest
divided-list p [] c d supply rest (at, units) h = subst (λ (z : Config × Supply).
    IsDividedAs z.0.tasks z.1) (λ i. (sym at i, sym units i)) h
divided-list p (ev ∷ events) c d supply rest (m, l, step, takes, more) h =
    divided-list p events m d l rest more (divided-step p ev c m supply l step takes h)

-- What is used and what is left
-- a task that comes up has used nothing
anew-balanced : (path : Path) (supply own : Supply) (s : Spending)
    → supply_at path supply ≡ Some own
    → s ≡ record { given = length (left_in own); used = 0 } → IsBalanced path supply s
anew-balanced path supply own s is e u there =
    let given = ap (λ (z : Spending). z.given) e in
    let used = ap (λ (z : Spending). z.used) e in
    let same = ap (λ z. length (left_in z)) (some-once _ own u is there) in omega arith

none-balanced : (path : Path) (supply : Supply) (s : Spending) → supply_at path supply ≡ None
    → IsBalanced path supply s
none-balanced path supply s none u there = absurd (some-none u (sym there ∙ none))

-- what a task that runs has, it has lent to none
runs-whole : (frames : List Frame) (own : Supply) (turn : Turn) (more : Path)
    → IsDividedAs (runs frames) own → supply_at (turn ∷ more) own ≡ None
runs-whole frames (has us) turn more h = refl
runs-whole frames (lent one two) turn more h = absurd h

module _ (p : Program) (path : Path) (ev : Event) (c d : Config) (before after : Supply)
    (s : Spending) (step : Step p ev c d) (takes : Takes ev c before after)
    (divided : IsDividedAs c.tasks before) (h : IsBalanced path before s) where
  abbrev now : Spending
  now = spends path ev.task before after s

  balanced-own : is_at_or_above path ev.task ≡ true → IsBalanced path after now
  balanced-own at v there =
      let less = kept-length ev (next takes.task) takes.own takes.kept takes.takes in
      let (u, was, fewer) = above-length path ev.task takes.kept before takes.own v at takes.is less
      (ap (supply_at path) (sym takes.rest) ∙ there) in
      let old = h u was in
      let e = spends-own path ev.task before after s at in
      let given = ap (λ (z : Spending). z.given) e in
      let used = ap (λ (z : Spending). z.used) e in omega arith

  -- a task below the one of the event, which comes up or is no more
  balanced-below : is_at_or_above path ev.task ≡ false → (turn : Turn) (more : Path)
      → supply_at path before ≡ supply_at (turn ∷ more) takes.own
      → supply_at path after ≡ supply_at (turn ∷ more) takes.kept → IsBalanced path after now
  balanced-below apart turn more was is = go takes.task refl
    where
      mine : IsDividedAs takes.task takes.own
      mine = divided-at ev.task c.tasks before takes.task takes.own divided takes.there takes.is

      go : (task : Task) → takes.task ≡ task → IsBalanced path after now
      go (runs frames) e v there =
          let none : supply_at path before ≡ None = was ∙ runs-whole frames takes.own turn more
          (subst (λ z. IsDividedAs z takes.own) e mine) in
          anew-balanced path after v now there
          (spends-anew path ev.task before after v s apart none there) v there
      go (waits frames one two) e v there =
          let (us, next_one, kept) = kept-next ev (next (waits frames one two)) takes.own takes.kept
          (subst (λ z. NextTakes ev (next z) takes.own takes.kept) e takes.takes) in
          none-balanced path after now (is ∙ ap (supply_at (turn ∷ more)) kept) v there

  -- a task that is left alone
  balanced-still : is_at_or_above path ev.task ≡ false
      → supply_at path after ≡ supply_at path before → IsBalanced path after now
  balanced-still apart same v there =
      let was : supply_at path before ≡ Some v = sym same ∙ there in
      let e = spends-there path ev.task before after v s apart was in
      let given = ap (λ (z : Spending). z.given) e in
      let used = ap (λ (z : Spending). z.used) e in
      let old = h v was in omega arith

  pub balanced-step : IsBalanced path after now
  balanced-step = go (bool-or (is_at_or_above path ev.task))
    where
      go : (is_at_or_above path ev.task ≡ true) ⊎ (is_at_or_above path ev.task ≡ false)
          → IsBalanced path after now
      go (inl at) = balanced-own at
      go (inr apart) = elim (beside-is path ev.task takes.kept before takes.own apart takes.is) [
        | inl same ↦ balanced-still apart (ap (supply_at path) takes.rest ∙ same)
        | inr (turn, more, was, is) ↦
            balanced-below apart turn more was (ap (supply_at path) takes.rest ∙ is)
      ]

pub balanced-list : (p : Program) (path : Path) (events : List Event) (c d : Config)
    (supply rest : Supply) (s last : Spending) → CountedFrom p path c supply s events d rest last
    → IsDividedAs c.tasks supply → IsBalanced path supply s → IsBalanced path rest last
balanced-list p path [] c d supply rest s last (at, units, count) divided h =
    subst (λ (z : Supply × Spending). IsBalanced path z.0 z.1)
    (λ i. (sym units i, sym count i)) h
balanced-list p path (ev ∷ events) c d supply rest s last (m, l, step, takes, more) divided h =
    balanced-list p path events m d l rest (spends path ev.task supply l s) last more
    (divided-step p ev c m supply l step takes divided)
    (balanced-step p path ev c m supply l s step takes divided h)
