-- Counted lists of events: what they leave, how they are put together and taken apart, and a task
-- that comes up in one.
-- Names: `spends-LAW` of one event, `counts-LAW` of a list.
use Rattle.std.specs.Prelude.{◌≡◌, ◌⊎◌, ◌+◌, Bool, true, false, cond, List, [], ◌∷◌, ◌++◌, length, Option, Some, None}
use Rattle.std.proofs.Common.{sym, ap, ◌∙◌, refl, subst, inl, inr}
use Rattle.sf_base.proofs.Options.{some-none, some-or_none}
use Rattle.sf_core.proofs.Machine.Determinism.{step-unique}
use Rattle.sf_core.specs.Machine.Config.{Path, Config}
use Rattle.sf_core.specs.Machine.Numbered.{NumberedFrom}
use Rattle.sf_core.specs.Machine.SpentSteps.{is_at_or_above, Spending, SpendingFrom, anew, spends}
use Rattle.sf_core.specs.Machine.Step.{Event}
use Rattle.sf_core.specs.Machine.Supplies.{Supply, left_in, supply_at, Takes}
use Rattle.sf_core.specs.Program.Syntax.{Program}
use Rattle.sf_spend.specs.Counting.{CountedFrom}
use Rattle.sf_spend.proofs.Takings.{above-there, takes-one}

module _ (p : Program) (path : Path) where
  pub counts-numbered : (events : List Event) (c d : Config) (supply rest : Supply) (s : Spending)
      → NumberedFrom p c supply events d rest
      → (last : Spending) × CountedFrom p path c supply s events d rest last
  counts-numbered [] c d supply rest s (is, same) = (s, (is, same, refl))
  counts-numbered (ev ∷ events) c d supply rest s (between, left, step, takes, more) =
      let (last, counted) = counts-numbered events between d left rest
      (spends path ev.task supply left s) more in
      (last, (between, left, step, takes, counted))

  pub numbered-counts : (events : List Event) (c d : Config) (supply rest : Supply)
      (s last : Spending) → CountedFrom p path c supply s events d rest last
      → NumberedFrom p c supply events d rest
  numbered-counts [] c d supply rest s last (is, same, count) = (is, same)
  numbered-counts (ev ∷ events) c d supply rest s last (between, left, step, takes, more) = (
    between,
    left,
    step,
    takes,
    numbered-counts events between d left rest (spends path ev.task supply left s) last more,
  )

  pub spending-counts : (events : List Event) (c d : Config) (supply rest : Supply)
      (s last : Spending) → CountedFrom p path c supply s events d rest last
      → SpendingFrom p path c supply s events d last
  spending-counts [] c d supply rest s last (is, same, count) = (is, count)
  spending-counts (ev ∷ events) c d supply rest s last (between, left, step, takes, more) = (
    between,
    left,
    step,
    takes,
    spending-counts events between d left rest (spends path ev.task supply left s) last more,
  )

  pub counts-spending : (events : List Event) (c d : Config) (supply : Supply)
      (s last : Spending) → SpendingFrom p path c supply s events d last
      → (rest : Supply) × CountedFrom p path c supply s events d rest last
  counts-spending [] c d supply s last (is, count) = (supply, (is, refl, count))
  counts-spending (ev ∷ events) c d supply s last (between, left, step, takes, more) =
      let (rest, counted) = counts-spending events between d left
      (spends path ev.task supply left s) last more in
      (rest, (between, left, step, takes, counted))

  pub counts-one : (events : List Event) (c d e : Config) (supply rest other : Supply)
      (s last also : Spending) → CountedFrom p path c supply s events d rest last
      → CountedFrom p path c supply s events e other also
      → (d ≡ e) × (rest ≡ other) × (last ≡ also)
  counts-one [] c d e supply rest other s last also h k =
      (h.0 ∙ sym k.0, h.1 ∙ sym k.1, h.2 ∙ sym k.2)
  counts-one (ev ∷ events) c d e supply rest other s last also (m, l, step, takes, more)
      (n, r, step', takes', more') =
      let at : n ≡ m = step-unique p ev c n m step' step in
      let left : r ≡ l = takes-one ev c supply r l takes' takes in
      counts-one events m d e l rest other (spends path ev.task supply l s) last also more
      (subst (λ (z : Config × Supply). CountedFrom p path z.0 z.1
      (spends path ev.task supply z.1 s) events e other also) (λ i. (at i, left i)) more')

  pub counts-join : (events more : List Event) (c d e : Config) (supply between rest : Supply)
      (s middle last : Spending) → CountedFrom p path c supply s events d between middle
      → CountedFrom p path d between middle more e rest last
      → CountedFrom p path c supply s (events ++ more) e rest last
  counts-join [] more c d e supply between rest s middle last (at, left, count) k =
      subst (λ (z : Config × Supply × Spending). CountedFrom p path z.0 z.1 z.2 more e rest last)
      (λ i. (at i, left i, count i)) k
  counts-join (ev ∷ events) more c d e supply between rest s middle last (m, l, step, takes, h)
      k = (
        m,
        l,
        step,
        takes,
        counts-join events more m d e l between rest (spends path ev.task supply l s) middle last
            h k,
      )

  pub counts-part : (events more : List Event) (c e : Config) (supply rest : Supply)
      (s last : Spending) → CountedFrom p path c supply s (events ++ more) e rest last
      → (d : Config) × (between : Supply) × (middle : Spending)
      × CountedFrom p path c supply s events d between middle
      × CountedFrom p path d between middle more e rest last
  counts-part [] more c e supply rest s last h = (c, supply, s, (refl, refl, refl), h)
  counts-part (ev ∷ events) more c e supply rest s last (m, l, step, takes, h) =
      let (d, between, middle, first, then) = counts-part events more m e l rest
      (spends path ev.task supply l s) last h in
      (d, between, middle, (m, l, step, takes, first), then)

-- One event
-- of the task or of a descendant
pub spends-own : (path at : Path) (before after : Supply) (s : Spending)
    → is_at_or_above path at ≡ true
    → spends path at before after s ≡ record { given = s.given; used = s.used + 1 }
spends-own path at before after s h = ap
    (λ b. cond b (record { given = s.given; used = s.used + 1 })
    (anew (supply_at path before) (supply_at path after) s)) h

-- of another
pub spends-other : (path at : Path) (before after : Supply) (s : Spending)
    → is_at_or_above path at ≡ false
    → spends path at before after s ≡ anew (supply_at path before) (supply_at path after) s
spends-other path at before after s h = ap
    (λ b. cond b (record { given = s.given; used = s.used + 1 })
    (anew (supply_at path before) (supply_at path after) s)) h

-- of another, where the task was there
pub spends-there : (path at : Path) (before after own : Supply) (s : Spending)
    → is_at_or_above path at ≡ false → supply_at path before ≡ Some own
    → spends path at before after s ≡ s
spends-there path at before after own s h is = spends-other path at before after s h
    ∙ (ap (λ z. anew z (supply_at path after) s) is ∙ go (supply_at path after))
  where
    go : (o : Option Supply) → anew (Some own) o s ≡ s
    go None = refl
    go (Some u) = refl

-- of another, where it wasn't there and isn't
pub spends-none : (path at : Path) (before after : Supply) (s : Spending)
    → is_at_or_above path at ≡ false → supply_at path before ≡ None
    → supply_at path after ≡ None → spends path at before after s ≡ s
spends-none path at before after s h was is = spends-other path at before after s h
    ∙ (λ i. anew (was i) (is i) s)

-- of another, where it came up
pub spends-anew : (path at : Path) (before after own : Supply) (s : Spending)
    → is_at_or_above path at ≡ false → supply_at path before ≡ None
    → supply_at path after ≡ Some own
    → spends path at before after s ≡ record { given = length (left_in own); used = 0 }
spends-anew path at before after own s h was is = spends-other path at before after s h
    ∙ (λ i. anew (was i) (is i) s)

-- whether an event is of the task or of a descendant
pub bool-or : (b : Bool) → (b ≡ true) ⊎ (b ≡ false)
bool-or true = inl refl
bool-or false = inr refl

-- a task that isn't there has no event, nor has a descendant
pub none-apart : (p : Program) (path : Path) (ev : Event) (c : Config) (before after : Supply)
    → Takes ev c before after → supply_at path before ≡ None
    → is_at_or_above path ev.task ≡ false
none-apart p path ev c before after takes none = go (bool-or (is_at_or_above path ev.task))
  where
    go : (is_at_or_above path ev.task ≡ true) ⊎ (is_at_or_above path ev.task ≡ false)
        → is_at_or_above path ev.task ≡ false
    go (inl h) =
        let (u, is) = above-there path ev.task before takes.own h takes.is in
        absurd (some-none u (sym is ∙ none))
    go (inr h) = h

pub counts-anew : (p : Program) (path : Path) (events : List Event) (c d : Config)
    (supply rest own : Supply) (s last other : Spending)
    → CountedFrom p path c supply s events d rest last
    → supply_at path supply ≡ None → supply_at path rest ≡ Some own
    → CountedFrom p path c supply other events d rest last
counts-anew p path [] c d supply rest own s last other (at, left, count) none is =
    absurd (some-none own (sym is ∙ (ap (supply_at path) left ∙ none)))
counts-anew p path (ev ∷ events) c d supply rest own s last other (m, l, step, takes, more) none
    is = (
      m,
      l,
      step,
      takes,
      go (some-or_none (supply_at path l)) (λ still. counts-anew p path events m d l rest own
          (spends path ev.task supply l s) last (spends path ev.task supply l other) more still is),
    )
  where
    apart : is_at_or_above path ev.task ≡ false
    apart = none-apart p path ev c supply l takes none

    go : ((u : Supply) × (supply_at path l ≡ Some u)) ⊎ (supply_at path l ≡ None)
        → (supply_at path l ≡ None
        → CountedFrom p path m l (spends path ev.task supply l other) events d rest last)
        → CountedFrom p path m l (spends path ev.task supply l other) events d rest last
    go (inl (u, up)) later = subst (λ z. CountedFrom p path m l z events d rest last)
        (spends-anew path ev.task supply l u s apart none up
        ∙ sym (spends-anew path ev.task supply l u other apart none up)) more
    go (inr still) later = later still
