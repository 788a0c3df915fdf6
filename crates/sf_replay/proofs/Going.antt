-- Events that were made, and what is found after them.
-- Names: `leads-LAW` of runs, `going-WHAT` of what is kept.
use Rattle.std.specs.Prelude.{◌≡◌, ◌+◌, ℕ, List, [], ◌∷◌, ◌++◌, Some, length, map, take}
use Rattle.std.specs.List.{slice_get}
use Rattle.std.proofs.Common.{sym, ap, ◌∙◌, refl, subst, inl, inr, append_assoc, arith}
use Rattle.std.proofs.lemmas.List.{length-append, length-map, map-append}
use Rattle.sf_base.specs.declared.value.Value.{Value}
use Rattle.sf_core.specs.Machine.Bad.{Bad, IsAbsent, IsAtNoCell}
use Rattle.sf_core.specs.Machine.Config.{Common, Config, Fixed}
use Rattle.sf_core.specs.Machine.Enabled.{IsBlocked}
use Rattle.sf_core.specs.Machine.Next.{Next, does, leaves, returns, joins, nothing, next}
use Rattle.sf_core.specs.Machine.Step.{Event, Step}
use Rattle.sf_core.specs.Program.Syntax.{Command, assign, look_up, mutate, new, dispose, if, while, call, fork, with, Program}
use Rattle.sf_machine.specs.Accessing.{thing_of}
use Rattle.sf_frame.specs.declared.refusal.Refusal.TheVariants as refusal
use Rattle.sf_machine.specs.Answers.{Answers, IsRefused, Refuses}
use Rattle.sf_machine.specs.Events.{event_of}
use Rattle.sf_machine.specs.declared.event.Stepped.{Stepped}
use Rattle.sf_machine.specs.declared.event.Stepped.TheVariants as s
use Rattle.sf_replay.specs.Checked.Going.{Going, IsBadAt}
use Rattle.sf_replay.specs.declared.found.Found.{Found}
use Rattle.sf_replay.specs.declared.found.Found.TheVariants.{Clean, Absent, Race}
use Rattle.sf_replay.specs.declared.found.ReplayFault.TheVariants.{NotAnEvent}
use Rattle.sf_replay.specs.declared.schedule.Scheduled.{Scheduled}
use Rattle.sf_replay.specs.FirstBad.{IsFirstAbsent, IsFirstRace}
use Rattle.sf_replay.specs.Replays.{Finds, IsCause, IsStuckAt, LeadsSafely, LeadsTo, Stops}
use Rattle.sf_replay.specs.ScheduleText.{events_of}

-- one event more
leads-more : (p : Program) (start c d : Config) (events : List Event) (e : Event) → LeadsSafely p start events c
    → (Bad c → ⊥) → Step p e c d → LeadsSafely p start (events ++ e ∷ []) d
leads-more p start c d [] e l f step =
    (subst (λ (z : Config). Bad z → ⊥) l f, (d, subst (λ (z : Config). Step p e z d) l step, refl))
leads-more p start c d (x ∷ events) e l f step =
    (l.0, (l.1.0, l.1.1, leads-more p l.1.0 c d events e l.1.2 f step))

pub going-start : (p : Program) (all : List Scheduled) (c : Config) → Going p c all all 0 c
going-start p all c = record { done = []; split = refl; count = refl; leads = refl }

pub going-more : (p : Program) (start c d : Config) (all rest : List Scheduled) (x : Scheduled) (n : ℕ)
    → Going p start all (x ∷ rest) n c → (Bad c → ⊥) → Step p (event_of x.event) c d
    → Going p start all rest (n + 1) d
going-more p start c d all rest x n g f step = record {
  done = g.done ++ x ∷ [];
  split = g.split ∙ sym (append_assoc g.done (x ∷ []) rest);
  count = omega (arith, length-append g.done (x ∷ []), g.count);
  leads = subst (λ (es : List Event). LeadsSafely p start es d)
      (sym (map-append (λ (y : Scheduled). event_of y.event) g.done (x ∷ [])))
      (leads-more p start c d (events_of g.done) (event_of x.event) g.leads f step);
}

take-first : {A : Type 0} (xs ys : List A) → take (length xs) (xs ++ ys) ≡ xs
take-first [] ys = refl
take-first (x ∷ xs) ys = ap (λ zs. x ∷ zs) (take-first xs ys)

get-first : {A : Type 0} (xs ys : List A) (y : A) → slice_get (xs ++ y ∷ ys) (length xs) ≡ Some y
get-first [] ys y = refl
get-first (x ∷ xs) ys y = get-first xs ys y

-- the events that were made
going-events : (p : Program) (start c : Config) (all left : List Scheduled) (n : ℕ) → (g : Going p start all left n c)
    → events_of all ≡ events_of g.done ++ events_of left
going-events p start c all left n g =
    ap (map (λ (y : Scheduled). event_of y.event)) g.split
    ∙ map-append (λ (y : Scheduled). event_of y.event) g.done left

going-count : (p : Program) (start c : Config) (all left : List Scheduled) (n : ℕ) → (g : Going p start all left n c)
    → length (events_of g.done) ≡ n
going-count p start c all left n g = length-map g.done (λ (y : Scheduled). event_of y.event) ∙ g.count

pub going-to : (p : Program) (start c : Config) (all left : List Scheduled) (n : ℕ) (What : Config → Type 0)
    → Going p start all left n c → What c → LeadsTo p start (events_of all) n What
going-to p start c all left n What g w =
    let es = going-events p start c all left n g in
    let k : length (events_of g.done) ≡ n = going-count p start c all left n g in
    let all-count : length (events_of all) ≡ length (events_of g.done) + length (events_of left) =
    ap length es ∙ length-append (events_of g.done) (events_of left) in
    let first : take n (events_of all) ≡ events_of g.done = ap (λ m. take m (events_of all)) (sym k)
    ∙ ap (take (length (events_of g.done))) es ∙ take-first (events_of g.done) (events_of left) in
    record {
      config = c;
      within = omega (arith, k, all-count);
      leads = subst (λ (z : List Event). LeadsSafely p start z c) (sym first) g.leads;
      what = w;
    }

-- what is bad of a configuration is what is found
pub going-bad : (p : Program) (start c : Config) (all left : List Scheduled) (n : ℕ) (found : Found)
    → Going p start all left n c → IsBadAt n c found → Finds p start (events_of all) found
going-bad p start c all left n Clean g b = absurd b
going-bad p start c all left n (Absent count path value) g b =
    subst (λ (z : ℕ). LeadsTo p start (events_of all) z (λ d. IsFirstAbsent d path value)) (sym b.0)
    (going-to p start c all left n (λ d. IsFirstAbsent d path value) g b.1)
going-bad p start c all left n (Race count path other thing) g b =
    subst (λ (z : ℕ). LeadsTo p start (events_of all) z (λ d. IsFirstRace d path other (thing_of thing))) (sym b.0)
    (going-to p start c all left n (λ d. IsFirstRace d path other (thing_of thing)) g b.1)

-- a list of no length has nothing
pub none-left : (left : List Scheduled) → length left ≡ 0 → left ≡ []
none-left [] e = refl
none-left (x ∷ left) e = absurd (omega (arith, e))

-- nothing is bad in the end
pub going-clean : (p : Program) (start c : Config) (all left : List Scheduled) (n : ℕ) → left ≡ []
    → Going p start all left n c → (Bad c → ⊥) → Finds p start (events_of all) Clean
going-clean p start c all left n e g f =
    let es = going-events p start c all left n g in
    let k : length (events_of g.done) ≡ n = going-count p start c all left n g in
    let none : length (events_of left) ≡ 0 = ap (λ (z : List Scheduled). length (events_of z)) e in
    let all-count : length (events_of all) ≡ length (events_of g.done) + length (events_of left) =
    ap length es ∙ length-append (events_of g.done) (events_of left) in
    let same : n ≡ length (events_of all) = omega (arith, k, none, all-count) in
    subst (λ (z : ℕ). LeadsTo p start (events_of all) z (λ d. Bad d → ⊥)) same
    (going-to p start c all left n (λ d. Bad d → ⊥) g f)

-- a command that finds no cell is at none
refuses-command : (ev : Event) (c : Common) (f : Fixed) (one : Command) (v : Value)
    → Refuses ev c (does f [] one []) (s.Absent v) → IsAtNoCell c (does f [] one [])
refuses-command ev c f (assign place x e) v h = absurd h
refuses-command ev c f (look_up place x e g) v h = subst (IsAbsent c.heap) (sym h.0) h.1
refuses-command ev c f (mutate place e g w) v h = subst (IsAbsent c.heap) (sym h.0) h.1
refuses-command ev c f (new place x) v h = let k : refusal.Absent v ≡ refusal.Stale = h.0 in absurd (cc)
refuses-command ev c f (dispose place e) v h = subst (IsAbsent c.heap) (sym h.0) h.1
refuses-command ev c f (if place test this that) v h = absurd h
refuses-command ev c f (while place test kept body) v h = absurd h
refuses-command ev c f (call place d) v h = absurd h
refuses-command ev c f (fork place d e) v h = let k : refusal.Absent v ≡ refusal.TooDeep = h.0 in absurd (cc)
refuses-command ev c f (with place r test body) v h = absurd h

refuses-at : (ev : Event) (c : Common) (n : Next) (v : Value) → Refuses ev c n (s.Absent v) → IsAtNoCell c n
refuses-at ev c (does f below one rest) v h = refuses-command ev c f one v h
refuses-at ev c (leaves f below r rest) v h = absurd h
refuses-at ev c (returns f below) v h = absurd h
refuses-at ev c (joins frames one two) v h = absurd h
refuses-at ev c nothing v h = absurd h

open-command : (c : Common) (f : Fixed) (one : Command) → IsAtNoCell c (does f [] one [])
    → IsBlocked c.held (does f [] one []) → ⊥
open-command c f (assign place x e) h b = b
open-command c f (look_up place x e g) h b = b
open-command c f (mutate place e g w) h b = b
open-command c f (new place x) h b = b
open-command c f (dispose place e) h b = b
open-command c f (if place test this that) h b = b
open-command c f (while place test kept body) h b = b
open-command c f (call place d) h b = b
open-command c f (fork place d e) h b = b
open-command c f (with place r test body) h b = h

open-at : (c : Common) (n : Next) → IsAtNoCell c n → IsBlocked c.held n → ⊥
open-at c (does f below one rest) h b = open-command c f one h b
open-at c (leaves f below r rest) h b = h
open-at c (returns f below) h b = h
open-at c (joins frames one two) h b = h
open-at c nothing h b = h

-- an event that would touch an absent cell comes in a configuration that is bad
refused-bad : (ev : Event) (c : Config) (v : Value) → IsRefused ev c (s.Absent v) → Bad c
refused-bad ev c v r = elim r.cause [
  | inl k ↦ let e : s.Absent v ≡ s.Stale = k.1 in absurd (cc)
  | inr k ↦
      let at = refuses-at ev c.common (next r.task) v k.1 in
      inl (record {
        path = ev.task;
        task = r.task;
        absent = at;
        enabled = record {
          there = r.going.there;
          going = r.going.going;
          free = open-at c.common (next r.task) at;
        };
      })
]

-- why an event is none, where nothing is bad
pub stuck-cause : (p : Program) (ev : Event) (c : Config) (why : Stepped) → (Bad c → ⊥) → (why ≡ s.Moved → ⊥)
    → Answers p ev c why → IsCause why
stuck-cause p ev c s.Moved f m a = absurd (m refl)
stuck-cause p ev c (s.Absent v) f m a = f (refused-bad ev c v a)
stuck-cause p ev c (s.Waiting r) f m a = tt
stuck-cause p ev c s.NoTask f m a = tt
stuck-cause p ev c s.Stale f m a = tt
stuck-cause p ev c s.TooDeep f m a = tt

pub going-stuck : (p : Program) (start c : Config) (all rest : List Scheduled) (x : Scheduled) (n : ℕ) (why : Stepped)
    → Going p start all (x ∷ rest) n c → (Bad c → ⊥) → (why ≡ s.Moved → ⊥) → Answers p (event_of x.event) c why
    → Stops p start (events_of all) (NotAnEvent n why)
going-stuck p start c all rest x n why g f m a =
    let es = going-events p start c all (x ∷ rest) n g in
    let k = going-count p start c all (x ∷ rest) n g in
    going-to p start c all (x ∷ rest) n (IsStuckAt p (events_of all) n why) g (record {
      fine = f;
      event = event_of x.event;
      there = ap (λ m. slice_get (events_of all) m) (sym k)
          ∙ ap (λ (z : List Event). slice_get z (length (events_of g.done))) es
          ∙ get-first (events_of g.done) (events_of rest) (event_of x.event);
      answers = a;
      cause = stuck-cause p (event_of x.event) c why f m a;
    })

-- the same of events that begin with that one
pub going-next : (p : Program) (start c d : Config) (all left rest : List Scheduled) (x : Scheduled) (n : ℕ)
    → left ≡ x ∷ rest → Going p start all left n c → (Bad c → ⊥) → Step p (event_of x.event) c d
    → Going p start all rest (n + 1) d
going-next p start c d all left rest x n e g f step =
    going-more p start c d all rest x n (subst (λ (z : List Scheduled). Going p start all z n c) e g) f step

pub going-stop : (p : Program) (start c : Config) (all left rest : List Scheduled) (x : Scheduled) (n : ℕ) (why : Stepped)
    → left ≡ x ∷ rest → Going p start all left n c → (Bad c → ⊥) → (why ≡ s.Moved → ⊥)
    → Answers p (event_of x.event) c why → Stops p start (events_of all) (NotAnEvent n why)
going-stop p start c all left rest x n why e g f m a =
    going-stuck p start c all rest x n why (subst (λ (z : List Scheduled). Going p start all z n c) e g) f m a
