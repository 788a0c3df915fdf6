-- Private events keep a part safe.
-- Names: `private-LAW`; the lemma of the law has the name of its function.
use Rattle.std.specs.Prelude.{◌≡◌, ℕ, suc, cond, Contains, List, [], ◌∷◌, Option, Some, None}
use Rattle.std.proofs.Common.{sym, ap, ◌∙◌, subst, inl}
use Rattle.sf_base.proofs.Elements.{contains-cons}
use Rattle.sf_base.proofs.Options.{is_some-false}
use Rattle.sf_base.specs.declared.ids.ResId.{ResId}
use Rattle.sf_base.specs.HeapStore.{own}
use Rattle.sf_core.specs.Machine.Config.{Task, runs, Path, Common}
use Rattle.sf_core.specs.Machine.Next.{Next, does, leaves, returns, joins, nothing, next}
use Rattle.sf_core.specs.Machine.Step.{Event, Goes, close_room, free_all_if}
use Rattle.sf_core.specs.Machine.Supplies.{NextTakes, TakesNext, has}
use Rattle.sf_core.specs.Machine.Whole.{Part, numbers}
use Rattle.sf_core.specs.Program.Syntax.{assign, look_up, mutate, new, dispose, if, while, call, fork, with, Program}
use Rattle.sf_own.proofs.Standing.{running-safe}
use Rattle.sf_own.proofs.Tokens.{holds-same}
use Rattle.sf_own.proofs.Worlds.{alone, held-all, held-none, others_of, parts-same, with_held, world-pair, world-parts, world-sums}
use Rattle.sf_own.specs.Checked.Accepted.{IsAccepted}
use Rattle.sf_own.specs.Checked.Laws.{PrivateEventsKeepSafe}
use Rattle.sf_own.specs.Checked.Safe.{HoldsWithin, IsSafe, own_of}
use Rattle.sf_part.specs.Keeps.{IsUnmade, Keeps}
use Rattle.sf_part.specs.Steps.{IsPrivate, Private, common_of}
use Rattle.sf_part.specs.Timed.{TimedPart}
use Rattle.sf_safe.specs.Checked.Contract.{Known}
use Rattle.sf_safe.specs.Checked.Invariant.{Running}
use Rattle.sf_safe.specs.Checked.LawsOfShares.{After, EventsKeepShares}
use Rattle.sf_safe.specs.Checked.Own.{Parts, everything, nothing as none}

module _ (p : Program) (ev : Event) (s t : Common) (u : Task) where
  -- a private event is one whoever holds the resources
  private-anywhere : (held : ResId → Option Path) (what : Next) → IsPrivate p what
      → Goes p ev s what t u → Goes p ev (with_held held s) what (with_held held t) u
  private-anywhere held (does f below (assign place x e) rest) h d = (ap (with_held held) d.0, d.1)
  private-anywhere held (does f below (look_up place x e g) rest) h d =
      (d.0, d.1, d.2, ap (with_held held) d.3, d.4)
  private-anywhere held (does f below (mutate place e g v) rest) h d =
      (d.0, d.1, d.2, ap (with_held held) d.3, d.4)
  private-anywhere held (does f below (new place x) rest) h d =
      (d.0, d.1, ap (with_held held) d.2, d.3)
  private-anywhere held (does f below (dispose place e) rest) h d =
      (d.0, d.1, d.2, ap (with_held held) d.3, d.4)
  private-anywhere held (does f below (if place test this that) rest) h d =
      (ap (with_held held) d.0, d.1)
  private-anywhere held (does f below (while place test kept body) rest) h d =
      (ap (with_held held) d.0, d.1)
  private-anywhere held (does f below (call place c) rest) h d =
      (d.0, d.1, ap (with_held held) d.2, d.3)
  private-anywhere held (does f below (fork place c e) rest) h d = absurd h
  private-anywhere held (does f below (with place r test body) rest) h d = absurd h
  private-anywhere held (leaves f below r rest) h d = absurd h
  private-anywhere held (returns f below) h d = (
    d.0,
    ap (with_held held) d.1
        ∙ ap (λ b. free_all_if b (close_room f.room (with_held held s))) (sym h),
    d.2,
  )
  private-anywhere held (joins frames one two) h d = absurd h
  private-anywhere held nothing h d = absurd h

  -- it moves no resource
  private-holders : (what : Next) → IsPrivate p what → Goes p ev s what t u → t.held ≡ s.held
  private-holders (does f below (assign place x e) rest) h d = ap (λ z. z.held) d.0
  private-holders (does f below (look_up place x e g) rest) h d = ap (λ z. z.held) d.3
  private-holders (does f below (mutate place e g v) rest) h d = ap (λ z. z.held) d.3
  private-holders (does f below (new place x) rest) h d = ap (λ z. z.held) d.2
  private-holders (does f below (dispose place e) rest) h d = ap (λ z. z.held) d.3
  private-holders (does f below (if place test this that) rest) h d = ap (λ z. z.held) d.0
  private-holders (does f below (while place test kept body) rest) h d = ap (λ z. z.held) d.0
  private-holders (does f below (call place c) rest) h d = ap (λ z. z.held) d.2
  private-holders (does f below (fork place c e) rest) h d = absurd h
  private-holders (does f below (with place r test body) rest) h d = absurd h
  private-holders (leaves f below r rest) h d = absurd h
  private-holders (returns f below) h d =
      ap (λ z. z.held) d.1 ∙ ap (λ b. λ r. cond b None (s.held r)) h
  private-holders (joins frames one two) h d = absurd h
  private-holders nothing h d = absurd h

-- the next unit is there
pub taken-there : (number : ℕ) (us rest : List ℕ) → TakesNext number us rest → Contains us number
taken-there number [] rest t = absurd t
taken-there number (u ∷ us) rest t = (contains-cons u us number).1 (inl (sym t.0))

module _ (p : Program) (ev : Event) (us vs : List ℕ) where
  private-unit : (what : Next) → IsPrivate p what → NextTakes ev what (has us) (has vs)
      → Contains us ev.number
  private-unit (does f below (assign place x e) rest) h t = taken-there ev.number us t.0 t.1
  private-unit (does f below (look_up place x e g) rest) h t = taken-there ev.number us t.0 t.1
  private-unit (does f below (mutate place e g v) rest) h t = taken-there ev.number us t.0 t.1
  private-unit (does f below (new place x) rest) h t = taken-there ev.number us t.0 t.1
  private-unit (does f below (dispose place e) rest) h t = taken-there ev.number us t.0 t.1
  private-unit (does f below (if place test this that) rest) h t = taken-there ev.number us t.0 t.1
  private-unit (does f below (while place test kept body) rest) h t =
      taken-there ev.number us t.0 t.1
  private-unit (does f below (call place c) rest) h t = taken-there ev.number us t.0 t.1
  private-unit (does f below (fork place c e) rest) h t = absurd h
  private-unit (does f below (with place r test body) rest) h t = absurd h
  private-unit (leaves f below r rest) h t = absurd h
  private-unit (returns f below) h t = taken-there ev.number us t.0 t.1
  private-unit (joins frames one two) h t = absurd h
  private-unit nothing h t = absurd h

module _ (p : Program) (known : IsAccepted p) (law : EventsKeepShares) (owed : Known) (ev : Event)
    (before after : TimedPart) (keeps : Keeps before) (e : Private p ev before after)
    (s : IsSafe p owed before.part) where
  abbrev a : Part
  a = before.part

  abbrev b : Part
  b = after.part

  holds : b.holds ≡ a.holds
  holds = holds-same a b
      (private-holders p ev (common_of a) (common_of b) (runs e.kept) (next (runs e.frames))
      e.private e.acts.steps)

  within : HoldsWithin p b
  within r h = s.within r (ap (λ z. z r) (sym holds) ∙ h)

  unmade : IsUnmade a.heap a.store ev.number
  unmade = keeps.unmade ev.number
      (private-unit p ev (numbers a.supply) (numbers b.supply) (next (runs e.frames)) e.private
      e.spends)

  event : (n : ℕ) → After p n owed (alone a.task b) (runs e.kept) (others_of p a.holds)
  unfolding EventsKeepShares
  event n = law p known.formed known.bodies n owed ev (runs e.frames) (runs e.kept)
      (alone a.task a) (alone a.task b) (own_of a) (others_of p a.holds) none
      (λ index. is_some-false (a.store (own ev.number index)) (unmade.store index))
      (world-sums (world-parts p a.task a s.within))
      (running-safe p owed a e.frames s e.acts.from_is (suc n))
      (held-all p a.task 0 p.resources)
      (private-anywhere p ev (common_of a) (common_of b) (runs e.kept) (λ r. Some a.task)
      (next (runs e.frames)) e.private e.acts.steps)

  share : (n : ℕ) → (event n).part ≡ own_of b
  share n =
      let x = event n in
      parts-same
      (world-pair (held-none p a.task 0 p.resources x.free x.resources) x.sums)
      (subst (λ h. Parts (everything p (alone a.task b)) (own_of b) (others_of p h)) holds
      (world-parts p a.task b within))

  pub private-safe : IsSafe p owed b
  private-safe = record {
    within = within;
    frames = e.kept;
    runs = e.acts.to_is;
    safe = λ n. subst (Running p n owed e.kept) (share n) (event n).tree;
  }

pub private_events_keep_safe : EventsKeepShares → PrivateEventsKeepSafe
unfolding PrivateEventsKeepSafe
private_events_keep_safe law p known owed ev before after keeps e s =
    private-safe p known law owed ev before after keeps e s
