-- What comes of a list of events is one thing.
-- Names: `leads-LAW` of runs, `same-WHAT` of two that are one, `once-WHAT` of what is found.
use Rattle.std.specs.Prelude.{◌≡◌, ◌⊎◌, ◌<◌, ◌≤◌, ℕ, zero, suc, true, List, [], ◌∷◌, Some, length, take}
use Rattle.std.specs.List.{slice_get}
use Rattle.std.proofs.Common.{sym, ap, ap₂, ◌∙◌, refl, subst, inl, inr, arith}
use Rattle.std.proofs.lemmas.Bool.{cases_lt}
use Rattle.std.proofs.lemmas.Option.{same_Some, slice_get_within}
use Rattle.sf_base.proofs.Options.{some-once}
use Rattle.sf_base.specs.declared.ids.Thing.{Thing as CodeThing}
use Rattle.sf_base.specs.declared.value.Value.{Value}
use Rattle.sf_core.specs.Checked.Machine.Laws.{StepsAreDeterministic}
use Rattle.sf_core.specs.Machine.Bad.{Bad}
use Rattle.sf_core.specs.Machine.Config.{Path, Config, task_at}
use Rattle.sf_core.specs.Machine.Enabled.{Thing}
use Rattle.sf_core.specs.Machine.Next.{next}
use Rattle.sf_core.specs.Machine.Reach.{Reach}
use Rattle.sf_core.specs.Machine.Step.{Event, Step}
use Rattle.sf_core.specs.Program.Syntax.{Program}
use Rattle.sf_core.proofs.Machine.Laws.{steps_are_deterministic}
use Rattle.sf_machine.specs.Absent.{IsAtAbsent, root_of}
use Rattle.sf_machine.specs.Accessing.{thing_of}
use Rattle.sf_machine.specs.Answers.{Answers, AnswersAreExclusive, RefusedEventsDoNotStep}
use Rattle.sf_machine.specs.declared.event.Stepped.{Stepped}
use Rattle.sf_machine.specs.declared.event.Stepped.TheVariants as s
use Rattle.sf_replay.specs.Checked.Laws.{EventsAreReplayedOnce, NoneBadBefore, SafeRunsAreRuns}
use Rattle.sf_replay.specs.declared.found.Found.{Found}
use Rattle.sf_replay.specs.declared.found.Found.TheVariants.{Clean, Absent, Race}
use Rattle.sf_replay.specs.declared.found.ReplayFault.{ReplayFault}
use Rattle.sf_replay.specs.declared.found.ReplayFault.TheVariants.{NotAnEvent, OutOfMemory}
use Rattle.sf_replay.specs.FirstBad.{IsFirstAbsent, IsFirstRace}
use Rattle.sf_replay.specs.Order.{path_before}
use Rattle.sf_replay.specs.Replays.{Finds, IsCause, IsStuckAt, LeadsSafely, LeadsTo, Stops}
use Rattle.sf_replay.proofs.Firsts.{absent-touches, conflicts-race}
use Rattle.sf_replay.proofs.PathOrder.{before-either, before-self}
use Rattle.sf_replay.proofs.ThingOrder.{thing-either, thing-same}

-- an event leads to one configuration
step-once : (p : Program) (e : Event) (c d x : Config) → Step p e c d → Step p e c x → d ≡ x
unfolding StepsAreDeterministic
step-once p e c d x a b = steps_are_deterministic p e c d x a b

-- a safe run is a run
pub leads-reach : (p : Program) (s c : Config) (es : List Event) → LeadsSafely p s es c → Reach p s es c
leads-reach p s c [] l = l
leads-reach p s c (e ∷ es) l = (l.1.0, l.1.1, leads-reach p l.1.0 c es l.1.2)

reach-fine : (p : Program) (s c : Config) (es : List Event) → LeadsSafely p s es c → NoneBadBefore p s es
reach-fine p s c [] l k d few r = absurd (omega (arith, few))
reach-fine p s c (e ∷ es) l zero d few r = subst (λ (z : Config). Bad z → ⊥) (sym r) l.0
reach-fine p s c (e ∷ es) l (suc k) d few r =
    let same : r.0 ≡ l.1.0 = step-once p e s r.0 l.1.0 r.1 l.1.1 in
    reach-fine p l.1.0 c es l.1.2 k d (omega (arith, few))
    (subst (λ (z : Config). Reach p z (take k es) d) same r.2)

-- and a run is safe before whose end nothing is bad
reach-leads : (p : Program) (s c : Config) (es : List Event) → Reach p s es c → NoneBadBefore p s es
    → LeadsSafely p s es c
reach-leads p s c [] r f = r
reach-leads p s c (e ∷ es) r f = (
  f 0 s (omega arith) refl,
  (
    r.0,
    r.1,
    reach-leads p r.0 c es r.2
        (λ k d few t. f (suc k) d (omega (arith, few)) (r.0, r.1, t)),
  ),
)

pub safe_runs_are_runs : SafeRunsAreRuns
unfolding SafeRunsAreRuns
safe_runs_are_runs p start c events = (
  λ l. (leads-reach p start c events l, reach-fine p start c events l),
  λ r. reach-leads p start c events r.0 r.1,
)

leads-once : (p : Program) (s c d : Config) (es : List Event) → LeadsSafely p s es c → LeadsSafely p s es d → c ≡ d
leads-once p s c d [] l m = l ∙ sym m
leads-once p s c d (e ∷ es) l m = leads-once p m.1.0 c d es
    (subst (λ (z : Config). LeadsSafely p z es c) (step-once p e s l.1.0 m.1.0 l.1.1 m.1.1) l.1.2) m.1.2

-- what is so before the end of a safe run: nothing is bad, and the next event is one
abbrev GoesOn : Program → List Event → ℕ → Config → Type 0
GoesOn p es k c = (Bad c → ⊥) × ((e : Event) → slice_get es k ≡ Some e → (x : Config) × Step p e c x)

leads-on : (p : Program) (s c d : Config) (es : List Event) (k j : ℕ) → k < j → j ≤ length es
    → LeadsSafely p s (take k es) c → LeadsSafely p s (take j es) d → GoesOn p es k c
leads-on p s c d [] k j less few l m = absurd (omega (arith, less, few))
leads-on p s c d (e ∷ es) zero zero less few l m = absurd (omega (arith, less))
leads-on p s c d (e ∷ es) (suc k) zero less few l m = absurd (omega (arith, less))
leads-on p s c d (e ∷ es) zero (suc j) less few l m = (
  subst (λ (z : Config). Bad z → ⊥) (sym l) m.0,
  λ x h. (
    m.1.0,
    subst (λ (z : Event). Step p z c m.1.0) (same_Some e x h)
        (subst (λ (z : Config). Step p e z m.1.0) (sym l) m.1.1),
  ),
)
leads-on p s c d (e ∷ es) (suc k) (suc j) less few l m = leads-on p m.1.0 c d es k j (omega (arith, less))
    (omega (arith, few))
    (subst (λ (z : Config). LeadsSafely p z (take k es) c) (step-once p e s l.1.0 m.1.0 l.1.1 m.1.1) l.1.2) m.1.2

-- the run ends there: something is bad, no event is left, or the next one is none
abbrev Ends : Program → List Event → ℕ → Config → Type 0
Ends p es k c = Bad c ⊎ ((length es ≤ k)
    ⊎ ((e : Event) × (slice_get es k ≡ Some e) × ((d : Config) → Step p e c d → ⊥)))

ends-first : (p : Program) (s c d : Config) (es : List Event) (k j : ℕ) → Ends p es k c → k < j → j ≤ length es
    → LeadsSafely p s (take k es) c → LeadsSafely p s (take j es) d → ⊥
ends-first p s c d es k j (inl b) less few l m = (leads-on p s c d es k j less few l m).0 b
ends-first p s c d es k j (inr (inl all)) less few l m = absurd (omega (arith, less, few, all))
ends-first p s c d es k j (inr (inr stuck)) less few l m =
    let step = (leads-on p s c d es k j less few l m).1 stuck.0 stuck.1 in
    stuck.2 step.0 step.1

-- two runs that end do so after as many events, in one configuration
same-end : (p : Program) (s : Config) (es : List Event) (k j : ℕ) (W V : Config → Type 0)
    → ((c : Config) → W c → Ends p es k c) → ((c : Config) → V c → Ends p es j c)
    → LeadsTo p s es k W → LeadsTo p s es j V → (k ≡ j) × ((c : Config) × W c × V c)
same-end p s es k j W V w v l m = elim (cases_lt k j) [
  | inl less ↦ absurd (ends-first p s l.config m.config es k j (w l.config l.what) less m.within l.leads m.leads)
  | inr most ↦ elim (cases_lt j k) [
    | inl less ↦ absurd (ends-first p s m.config l.config es j k (v m.config m.what) less l.within m.leads l.leads)
    | inr least ↦
        let same : k ≡ j = omega (arith, most, least) in
        let one : l.config ≡ m.config = leads-once p s l.config m.config (take j es)
        (subst (λ (z : ℕ). LeadsSafely p s (take z es) l.config) same l.leads) m.leads in
        (same, (m.config, subst W one l.what, m.what))
  ]
]

-- ---- what ends a run

pub absent-bad : (c : Config) (path : Path) (v : Value) → IsFirstAbsent c path v → Bad c
absent-bad c path v a = inl (absent-touches c path v a.absent)

pub race-bad : (c : Config) (path other : Path) (t : Thing) → IsFirstRace c path other t → Bad c
race-bad c path other t r = inr (conflicts-race c path other t
    (λ e. before-self other (subst (λ (z : Path). path_before z other ≡ true) e r.ordered)) r.conflicts)

no-step : RefusedEventsDoNotStep → (p : Program) (e : Event) (c d : Config) (why : Stepped) → Answers p e c why → (why ≡ s.Moved → ⊥)
    → Step p e c d → ⊥
unfolding RefusedEventsDoNotStep
no-step refused p e c d why a m step = refused p e c d why a m step

cause-moved : (why : Stepped) → IsCause why → why ≡ s.Moved → ⊥
cause-moved why h e = subst IsCause e h

stuck-ends : RefusedEventsDoNotStep → (p : Program) (es : List Event) (k : ℕ) (why : Stepped) (c : Config) → IsStuckAt p es k why c
    → Ends p es k c
stuck-ends refused p es k why c h =
    inr (inr (h.event, h.there, λ d step. no-step refused p h.event c d why h.answers (cause-moved why h.cause) step))

clean-ends : (p : Program) (es : List Event) (c : Config) → (Bad c → ⊥) → Ends p es (length es) c
clean-ends p es c h = inr (inl (omega arith))

absent-ends : (p : Program) (es : List Event) (k : ℕ) (path : Path) (v : Value) (c : Config) → IsFirstAbsent c path v
    → Ends p es k c
absent-ends p es k path v c h = inl (absent-bad c path v h)

race-ends : (p : Program) (es : List Event) (k : ℕ) (path other : Path) (t : Thing) (c : Config)
    → IsFirstRace c path other t → Ends p es k c
race-ends p es k path other t c h = inl (race-bad c path other t h)

-- ---- what is first is one

same-value : (c : Config) (path : Path) (v w : Value) → IsAtAbsent c path v → IsAtAbsent c path w → v ≡ w
same-value c path v w a b =
    let task : a.task ≡ b.task = some-once (task_at path c.tasks) a.task b.task a.enabled.there b.enabled.there in
    same_Some v w (sym a.is ∙ ap (λ z. root_of c.common (next z)) task ∙ b.is)

same-absent : (c : Config) (path other : Path) (v w : Value) → IsFirstAbsent c path v → IsFirstAbsent c other w
    → (path ≡ other) × (v ≡ w)
same-absent c path other v w a b = elim (before-either path other) [
  | inl e ↦ (e, same-value c other v w (subst (λ (z : Path). IsAtAbsent c z v) e a.absent) b.absent)
  | inr h ↦ elim h [
    | inl k ↦ absurd (b.first path v a.absent k)
    | inr k ↦ absurd (a.first other w b.absent k)
  ]
]

same-second : (c : Config) (path other another : Path) (t u : Thing) → IsFirstRace c path other t
    → IsFirstRace c path another u → other ≡ another
same-second c path other another t u a b = elim (before-either other another) [
  | inl e ↦ e
  | inr h ↦ elim h [
    | inl k ↦ absurd (b.first path other t a.ordered a.conflicts (inr (refl, k)))
    | inr k ↦ absurd (a.first path another u b.ordered b.conflicts (inr (refl, k)))
  ]
]

same-first : (c : Config) (path one other another : Path) (t u : Thing) → IsFirstRace c path other t
    → IsFirstRace c one another u → path ≡ one
same-first c path one other another t u a b = elim (before-either path one) [
  | inl e ↦ e
  | inr h ↦ elim h [
    | inl k ↦ absurd (b.first path other t a.ordered a.conflicts (inl k))
    | inr k ↦ absurd (a.first one another u b.ordered b.conflicts (inl k))
  ]
]

same-thing : (c : Config) (path other : Path) (t u : Thing) → IsFirstRace c path other t
    → IsFirstRace c path other u → t ≡ u
same-thing c path other t u a b = elim (thing-either t u) [
  | inl e ↦ e
  | inr h ↦ elim h [
    | inl k ↦ absurd (b.least t a.conflicts k)
    | inr k ↦ absurd (a.least u b.conflicts k)
  ]
]

same-race : (c : Config) (path one other another : Path) (x y : CodeThing) (k : ℕ)
    → IsFirstRace c path other (thing_of x) → IsFirstRace c one another (thing_of y)
    → Race k path other x ≡ Race k one another y
same-race c path one other another x y k a b =
    let e : path ≡ one = same-first c path one other another (thing_of x) (thing_of y) a b in
    let a₂ = subst (λ (z : Path). IsFirstRace c z other (thing_of x)) e a in
    let f : other ≡ another = same-second c one other another (thing_of x) (thing_of y) a₂ b in
    let a₃ = subst (λ (z : Path). IsFirstRace c one z (thing_of x)) f a₂ in
    let g : x ≡ y = thing-same x y (same-thing c one another (thing_of x) (thing_of y) a₃ b) in
    ap₂ (λ (z w : Path). Race k z w x) e f ∙ ap (Race k one another) g

-- ---- what is found is one thing

once-found : (p : Program) (st : Config) (es : List Event) (one other : Found) → Finds p st es one
    → Finds p st es other → one ≡ other
once-found p st es Clean Clean a b = refl
once-found p st es Clean (Absent j q w) a b =
    let m = (same-end p st es (length es) j (λ c. Bad c → ⊥) (λ c. IsFirstAbsent c q w) (clean-ends p es)
    (absent-ends p es j q w) a b).1 in
    absurd (m.1 (absent-bad m.0 q w m.2))
once-found p st es Clean (Race j q r y) a b =
    let m = (same-end p st es (length es) j (λ c. Bad c → ⊥) (λ c. IsFirstRace c q r (thing_of y)) (clean-ends p es)
    (race-ends p es j q r (thing_of y)) a b).1 in
    absurd (m.1 (race-bad m.0 q r (thing_of y) m.2))
once-found p st es (Absent k path v) Clean a b =
    let m = (same-end p st es k (length es) (λ c. IsFirstAbsent c path v) (λ c. Bad c → ⊥)
    (absent-ends p es k path v) (clean-ends p es) a b).1 in
    absurd (m.2 (absent-bad m.0 path v m.1))
once-found p st es (Absent k path v) (Absent j q w) a b =
    let m = same-end p st es k j (λ c. IsFirstAbsent c path v) (λ c. IsFirstAbsent c q w)
    (absent-ends p es k path v) (absent-ends p es j q w) a b in
    let n = same-absent m.1.0 path q v w m.1.1 m.1.2 in
    ap (λ z. Absent z path v) m.0 ∙ ap₂ (λ (z : Path) (u : Value). Absent j z u) n.0 n.1
once-found p st es (Absent k path v) (Race j q r y) a b =
    let m = (same-end p st es k j (λ c. IsFirstAbsent c path v) (λ c. IsFirstRace c q r (thing_of y))
    (absent-ends p es k path v) (race-ends p es j q r (thing_of y)) a b).1 in
    absurd (m.2.none_absent path v m.1.absent)
once-found p st es (Race k path other x) Clean a b =
    let m = (same-end p st es k (length es) (λ c. IsFirstRace c path other (thing_of x)) (λ c. Bad c → ⊥)
    (race-ends p es k path other (thing_of x)) (clean-ends p es) a b).1 in
    absurd (m.2 (race-bad m.0 path other (thing_of x) m.1))
once-found p st es (Race k path other x) (Absent j q w) a b =
    let m = (same-end p st es k j (λ c. IsFirstRace c path other (thing_of x)) (λ c. IsFirstAbsent c q w)
    (race-ends p es k path other (thing_of x)) (absent-ends p es j q w) a b).1 in
    absurd (m.1.none_absent q w m.2.absent)
once-found p st es (Race k path other x) (Race j q r y) a b =
    let m = same-end p st es k j (λ c. IsFirstRace c path other (thing_of x)) (λ c. IsFirstRace c q r (thing_of y))
    (race-ends p es k path other (thing_of x)) (race-ends p es j q r (thing_of y)) a b in
    ap (λ z. Race z path other x) m.0 ∙ same-race m.1.0 path q other r x y j m.1.1 m.1.2

same-why : AnswersAreExclusive → (p : Program) (es : List Event) (k j : ℕ) (why other : Stepped) (c : Config) → k ≡ j
    → IsStuckAt p es k why c → IsStuckAt p es j other c → why ≡ other
unfolding AnswersAreExclusive
same-why exclusive p es k j why other c e a b =
    let event : a.event ≡ b.event =
    same_Some a.event b.event (sym a.there ∙ ap (λ n. slice_get es n) e ∙ b.there) in
    exclusive p b.event c why other (subst (λ (z : Event). Answers p z c why) event a.answers) b.answers

once-fault : AnswersAreExclusive → RefusedEventsDoNotStep → (p : Program) (st : Config) (es : List Event) (one other : ReplayFault) → Stops p st es one
    → Stops p st es other → one ≡ other
once-fault exclusive refused p st es OutOfMemory other a b = absurd a
once-fault exclusive refused p st es (NotAnEvent k why) OutOfMemory a b = absurd b
once-fault exclusive refused p st es (NotAnEvent k why) (NotAnEvent j other) a b =
    let m = same-end p st es k j (IsStuckAt p es k why) (IsStuckAt p es j other) (stuck-ends refused p es k why)
    (stuck-ends refused p es j other) a b in
    ap₂ NotAnEvent m.0 (same-why exclusive p es k j why other m.1.0 m.0 m.1.1 m.1.2)

once-apart : RefusedEventsDoNotStep → (p : Program) (st : Config) (es : List Event) (found : Found) (fault : ReplayFault)
    → Finds p st es found → Stops p st es fault → ⊥
once-apart refused p st es found OutOfMemory a b = b
once-apart refused p st es Clean (NotAnEvent j why) a b =
    let m = same-end p st es (length es) j (λ c. Bad c → ⊥) (IsStuckAt p es j why) (clean-ends p es)
    (stuck-ends refused p es j why) a b in
    let within : j < length es = slice_get_within es j m.1.2.event m.1.2.there in
    absurd (omega (arith, m.0, within))
once-apart refused p st es (Absent k path v) (NotAnEvent j why) a b =
    let m = (same-end p st es k j (λ c. IsFirstAbsent c path v) (IsStuckAt p es j why) (absent-ends p es k path v)
    (stuck-ends refused p es j why) a b).1 in
    m.2.fine (absent-bad m.0 path v m.1)
once-apart refused p st es (Race k path other x) (NotAnEvent j why) a b =
    let m = (same-end p st es k j (λ c. IsFirstRace c path other (thing_of x)) (IsStuckAt p es j why)
    (race-ends p es k path other (thing_of x)) (stuck-ends refused p es j why) a b).1 in
    m.2.fine (race-bad m.0 path other (thing_of x) m.1)

pub events_are_replayed_once : AnswersAreExclusive → RefusedEventsDoNotStep → EventsAreReplayedOnce
unfolding EventsAreReplayedOnce
events_are_replayed_once exclusive refused p start events = record {
  found = once-found p start events;
  faults = once-fault exclusive refused p start events;
  apart = once-apart refused p start events;
}
