-- Numbered events as a log tells of them: by their tasks and their numbers alone, which loses nothing of what they do.
-- Names: `told-` of events as they are told, `takes-` of the unit that an event takes, `each-` of all units of a supply.
use Rattle.std.specs.Prelude.{◌≡◌, ◌⊎◌, ◌/◌, ◌≤◌, ℕ, zero, suc, List, [], ◌∷◌, map, length, take, drop, None, Some, All}
use Rattle.std.proofs.Common.{inl, inr, refl, sym, ◌∙◌, subst, arith}
use Rattle.std.proofs.lemmas.List.Elements.{All-append, All-cons, All-drop, All-head, All-nil, All-tail, All-take}
use Rattle.std.proofs.lemmas.Option.{same_Some, none-some}
use Rattle.sf_base.specs.declared.path.Turn.TheVariants.{Left as left, Right as right}
use Rattle.sf_base.specs.declared.value.Value.TheVariants.{Nil as nil}
use Rattle.sf_core.specs.Machine.Config.{Item, Fixed, Frame, Task, Path, Common, Config}
use Rattle.sf_core.specs.Machine.Next.{Next, does, leaves, returns, joins, nothing, next}
use Rattle.sf_core.specs.Machine.Numbered.{NumberedFrom}
use Rattle.sf_core.specs.Machine.Step.{Event, Does, Goes, Step}
use Rattle.sf_core.specs.Machine.Supplies.{Supply, has, lent, left_in, supply_at, put_supply, units, CommandTakes, NextTakes, TakesNext}
use Rattle.sf_core.specs.Program.Formed.{IsFormed}
use Rattle.sf_core.specs.Program.Syntax.{Command, assign, look_up, mutate, new, dispose, if, while, call, fork, with, Procedure, Program}
use Rattle.sf_core.proofs.Machine.Determinism.{step-unique}
use Rattle.sf_journal.specs.Reorders.{CommandIsNew, IsNew}
use Rattle.sf_journal.proofs.Exchanges.{Runs}
use Rattle.sf_journal.proofs.Neighbours.{IsReached, ActStep, step-reached}
use Rattle.sf_trace.specs.Trace.{Act, Traces, events_in}

-- the event as a log tells of it: its cell, if it makes one, stands at its number, with all fields nil
abbrev pub told : Event → Event
told event = record { task = event.task; number = event.number; at = event.number; fields = λ f. nil }

-- the same of an act
abbrev pub told_act : Act → Act
told_act a = record { event = told a.event; what = a.what }

-- the cell stands there, and its fields are nil
record IsPlain (event : Event) : Type 0 where
  at : event.at ≡ event.number
  fields : event.fields ≡ (λ f. nil)

plain-told : (event : Event) → IsPlain event → event ≡ told event
plain-told event h = λ i. record { task = event.task; number = event.number; at = h.at i; fields = h.fields i }

-- What an event does
told-does : (p : Program) (ev : Event) (s t : Common) (f : Fixed) (below : List Frame) (c : Command)
    (rest : List Item) (u : Task) → (CommandIsNew c → IsPlain ev) → Does p ev s f below c rest t u
    → Does p (told ev) s f below c rest t u
told-does p ev s t f below (assign place x e) rest u h d = d
told-does p ev s t f below (look_up place x e g) rest u h d = d
told-does p ev s t f below (mutate place e g v) rest u h d = d
told-does p ev s t f below (new place x) rest u h d =
    subst (λ z. Does p z s f below (new place x) rest t u) (plain-told ev (h tt)) d
told-does p ev s t f below (dispose place e) rest u h d = d
told-does p ev s t f below (if place test this that) rest u h d = d
told-does p ev s t f below (while place test kept body) rest u h d = d
told-does p ev s t f below (call place c) rest u h d = d
told-does p ev s t f below (fork place one two) rest u h d = d
told-does p ev s t f below (with place r test body) rest u h d = d

told-goes : (p : Program) (ev : Event) (s t : Common) (n : Next) (u : Task) → (IsNew n → IsPlain ev)
    → Goes p ev s n t u → Goes p (told ev) s n t u
told-goes p ev s t (does f below c rest) u h d = told-does p ev s t f below c rest u h d
told-goes p ev s t (leaves f below r rest) u h d = d
told-goes p ev s t (returns f below) u h d = d
told-goes p ev s t (joins frames one two) u h d = d
told-goes p ev s t nothing u h d = d

-- the told event makes the same step
told-step : (p : Program) (ev : Event) (c d : Config) (s : Step p ev c d) → (IsNew (next s.from) → IsPlain ev)
    → Step p (told ev) c d
told-step p ev c d s h = record {
  fresh = s.fresh;
  used = s.used;
  from = s.from;
  to = s.to;
  there = s.there;
  steps = told-goes p ev c.common d.common (next s.from) s.to h s.steps;
  tasks = s.tasks;
}

-- What an event takes
-- that holds of each unit of a supply
abbrev pub Each : (ℕ → Type 0) → Supply → Type 0
Each P (has us) = All P us
Each P (lent one two) = Each P one × Each P two

each-left : (P : ℕ → Type 0) (s : Supply) → Each P s → All P (left_in s)
each-left P (has us) h = h
each-left P (lent one two) h = All-append P (left_in one) (left_in two) (each-left P one h.0) (each-left P two h.1)

each-at : (P : ℕ → Type 0) (path : Path) (s own : Supply) → supply_at path s ≡ Some own → Each P s → Each P own
each-at P [] s own e h = subst (Each P) (same_Some s own e) h
each-at P (left ∷ path) (has us) own e h = absurd (none-some own e)
each-at P (right ∷ path) (has us) own e h = absurd (none-some own e)
each-at P (left ∷ path) (lent one two) own e h = each-at P path one own e h.0
each-at P (right ∷ path) (lent one two) own e h = each-at P path two own e h.1

each-put : (P : ℕ → Type 0) (path : Path) (s kept : Supply) → Each P s → Each P kept → Each P (put_supply path kept s)
each-put P [] s kept h k = k
each-put P (left ∷ path) (has us) kept h k = h
each-put P (right ∷ path) (has us) kept h k = h
each-put P (left ∷ path) (lent one two) kept h k = (each-put P path one kept h.0 k, h.1)
each-put P (right ∷ path) (lent one two) kept h k = (h.0, each-put P path two kept h.1 k)

pub each-from : (P : ℕ → Type 0) (base count : ℕ) → ((n : ℕ) → base ≤ n → P n) → All P (units base count)
each-from P base zero h = All-nil P
each-from P base (suc count) h =
    All-cons P base (units (suc base) count) (h base (omega arith))
    (each-from P (suc base) count (λ n l. h n (omega (arith, l))))

-- an event's number is the next unit, those after it are left, and a `new` makes its cell there, with nil fields
record IsTaken (ev : Event) (n : Next) (before after : Supply) : Type 0 where
  rest : List ℕ
  takes : TakesNext ev.number (left_in before) rest
  left : (after ≡ has rest) ⊎ (after ≡ lent (has (take (length rest / 2) rest)) (has (drop (length rest / 2) rest)))
  plain : IsNew n → IsPlain ev

takes-command : (ev : Event) (f : Fixed) (below : List Frame) (c : Command) (rest : List Item) (before after : Supply)
    → CommandTakes ev c before after → IsTaken ev (does f below c rest) before after
takes-command ev f below (assign place x e) rest before after t =
    record { rest = t.0; takes = t.1; left = inl t.2; plain = λ h. absurd h }
takes-command ev f below (look_up place x e g) rest before after t =
    record { rest = t.0; takes = t.1; left = inl t.2; plain = λ h. absurd h }
takes-command ev f below (mutate place e g v) rest before after t =
    record { rest = t.0; takes = t.1; left = inl t.2; plain = λ h. absurd h }
takes-command ev f below (new place x) rest before after t =
    record { rest = t.0; takes = t.1; left = inl t.2; plain = λ h. record { at = t.3; fields = t.4 } }
takes-command ev f below (dispose place e) rest before after t =
    record { rest = t.0; takes = t.1; left = inl t.2; plain = λ h. absurd h }
takes-command ev f below (if place test this that) rest before after t =
    record { rest = t.0; takes = t.1; left = inl t.2; plain = λ h. absurd h }
takes-command ev f below (while place test kept body) rest before after t =
    record { rest = t.0; takes = t.1; left = inl t.2; plain = λ h. absurd h }
takes-command ev f below (call place c) rest before after t =
    record { rest = t.0; takes = t.1; left = inl t.2; plain = λ h. absurd h }
takes-command ev f below (fork place c d) rest before after t =
    record { rest = t.0; takes = t.1; left = inr t.2; plain = λ h. absurd h }
takes-command ev f below (with place r test body) rest before after t =
    record { rest = t.0; takes = t.1; left = inl t.2; plain = λ h. absurd h }

takes-next : (ev : Event) (n : Next) (before after : Supply) → NextTakes ev n before after
    → IsTaken ev n before after
takes-next ev (does f below c rest) before after t = takes-command ev f below c rest before after t
takes-next ev (leaves f below r rest) before after t =
    record { rest = t.0; takes = t.1; left = inl t.2; plain = λ h. absurd h }
takes-next ev (returns f below) before after t =
    record { rest = t.0; takes = t.1; left = inl t.2; plain = λ h. absurd h }
takes-next ev (joins frames one two) before after t =
    record { rest = t.0; takes = t.1; left = inl t.2; plain = λ h. absurd h }
takes-next ev nothing before after t = absurd t

-- what holds of each unit holds of an event's number, and of the units that are left
taken-each : (P : ℕ → Type 0) (ev : Event) (n : Next) (own kept : Supply) → IsTaken ev n own kept → Each P own
    → P ev.number × Each P kept
taken-each P ev n own kept t h = split (left_in own) t.rest t.takes (each-left P own h) t.left
  where
    after : (rest : List ℕ) → All P rest
        → (kept ≡ has rest) ⊎ (kept ≡ lent (has (take (length rest / 2) rest)) (has (drop (length rest / 2) rest)))
        → Each P kept
    after rest h (inl e) = subst (Each P) (sym e) h
    after rest h (inr e) = subst (Each P) (sym e)
        (All-take P (length rest / 2) rest h, All-drop P (length rest / 2) rest h)

    split : (us rest : List ℕ) → TakesNext ev.number us rest → All P us
        → (kept ≡ has rest) ⊎ (kept ≡ lent (has (take (length rest / 2) rest)) (has (drop (length rest / 2) rest)))
        → P ev.number × Each P kept
    split [] rest takes h k = absurd takes
    split (u ∷ us) rest takes h k = (
      subst P (sym takes.0) (All-head P u us h),
      after rest (subst (All P) (sym takes.1) (All-tail P u us h)) k,
    )

-- a numbered list, as it is told, is made of steps at whose numbers the start's heap has no location
module _ (p : Program) (entry : Procedure) (start : Config) (formed : IsFormed p) where
  pub told-runs : (acts : List Act) (c d : Config) (supply last : Supply) → IsReached p entry start c
      → Each (λ n. start.common.heap n ≡ None) supply → Traces p c acts d
      → NumberedFrom p c supply (events_in acts) d last → Runs (ActStep p entry start) c (map told_act acts) d
  unfolding told-step
  told-runs [] c d supply last i free t r = t
  told-runs (a ∷ acts) c d supply last i free (m, s, is, t) (n, rest, q, takes, r) =
      let same : takes.task ≡ s.from = same_Some takes.task s.from (sym takes.there ∙ s.there) in
      let taken : IsTaken a.event (next s.from) takes.own takes.kept =
      takes-next a.event (next s.from) takes.own takes.kept
      (subst (λ z. NextTakes a.event (next z) takes.own takes.kept) same takes.takes) in
      let units = taken-each (λ n. start.common.heap n ≡ None) a.event (next s.from) takes.own takes.kept taken
      (each-at (λ n. start.common.heap n ≡ None) a.event.task supply takes.own takes.is free) in
      let first : ActStep p entry start c (told_act a) m = record {
        reached = i;
        fits = record { unlocated = units.0; at_number = λ h. refl };
        step = told-step p a.event c m s taken.plain;
        is = is;
      } in (
        m,
        first,
        told-runs acts m d rest last (step-reached p entry start formed c m (told_act a) first)
            (subst (Each (λ n. start.common.heap n ≡ None)) (sym takes.rest)
            (each-put (λ n. start.common.heap n ≡ None) a.event.task supply takes.kept free units.1)) t
            (subst (λ z. NumberedFrom p z rest (events_in acts) d last) (step-unique p a.event c n m q s) r),
      )
