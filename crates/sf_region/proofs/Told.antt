-- What the rule says of parts and contents, and what an event of one part leaves of it; a private
-- event.
-- Names: `private-LAW` of that kind.
use Rattle.std.specs.Prelude.{◌≡◌, ◌+◌, ℕ, cond, Bool, true, List, [], ◌∷◌, ◌++◌, map, Option, Some, None, Contains}
use Rattle.std.specs.List.{sum_by, AllByRecursion}
use Rattle.std.proofs.Common.{set, sym, ap, ◌∙◌, refl, subst, inl, ⊎_elim, arith}
use Rattle.std.proofs.lemmas.List.{map-append}
use Rattle.std.proofs.lemmas.List.Sums.{sum_by-append, sum_by-cons}
use Rattle.std.proofs.lemmas.Option.{none-some, same_Some}
use mathlib.Core.Option.{some, some-injective}
use lib.ListN.{get_elem?}
use Rattle.sf_base.proofs.MapSplits.{splits-lacks_right}
use Rattle.sf_base.specs.declared.ids.ResId.{ResId}
use Rattle.sf_core.specs.Machine.Config.{Frame, runs, Config}
use Rattle.sf_core.specs.Machine.Next.{next}
use Rattle.sf_core.specs.Machine.Step.{Step}
use Rattle.sf_core.specs.Machine.Whole.{Part as WholePart, Content as WholeContent, Whole, holders, numbers, running}
use Rattle.sf_core.specs.Program.Syntax.{Program}
use Rattle.sf_core.specs.Machine.Supplies.{has}
use Rattle.sf_part.specs.Checked.Laws.{Leads, PartsInAnyOrder, PrivateEventsAreSteps}
use Rattle.sf_part.specs.declared.content.Content.{Content}
use Rattle.sf_part.specs.Contents.{content_of}
use Rattle.sf_part.specs.Steps.{Private}
use Rattle.sf_part.specs.Timed.{Stamped, TimedPart, noted}
use Rattle.sf_region.specs.Checked.PartLaws.{PartLaws}
use Rattle.sf_region.proofs.Insides.{private-inside}
use Rattle.sf_region.proofs.Lists.{cut, has-cases, has-first, has-later, has-middle, has-none}
use Rattle.sf_region.proofs.Runs.{history-more, task-from, task-apart, task-childless, union-has}
use Rattle.sf_region.proofs.Single.{single-more}
use Rattle.sf_region.proofs.Turns.{free-more}
use Rattle.sf_region.proofs.Units.{takes-unit}
use Rattle.sf_region.specs.declared.views.Begun.{Begun}
use Rattle.sf_region.specs.Holdings.{Holding}
use Rattle.sf_region.specs.Marks.{private, joining, Mark, IsKind, History}
use Rattle.sf_region.specs.Rule.{IsExactly, untimed, present}
use Rattle.sf_region.specs.Stamps.{Touches, IsChild, entry_of, Stamps}
use Rattle.sf_region.specs.Waits.{BeganAt, first_of, opening_parts, program_in}

-- what the rule says of parts and contents
pub record Told (b : Begun) (marks : List Mark) (parts : List TimedPart)
    (contents : List (Option Content)) : Type 0 where
  pub exactly : (r : ℕ) (k : Content) → get_elem? contents r ≡ some (Some k)
      → IsExactly (program_in b) r k
  pub start : (c : Config) × BeganAt b c
  pub history : (c : Config) → BeganAt b c
      → History (program_in b) (opening_parts b) c marks (untimed parts) (present contents)
  pub stamps : Stamps (first_of b) marks parts contents

-- the contents with that in hand among them
abbrev pub placed : Option Content → List (Option Content) → List (Option Content)
placed None base = base
placed (Some k) base = set base k.resource.0 (Some k)

-- there is no content of these resources
abbrev pub Out : List (Option Content) → List ℕ → Type 0
Out base ns = (r : ℕ) → Contains ns r → get_elem? base r ≡ some None

-- the parts with a seat's among them
abbrev pub around : List TimedPart → Holding → List TimedPart → List TimedPart
around before a after = before ++ a.part ∷ (a.kids ++ after)

pub has-map : {A B : Type 0} (f : A → B) (xs : List A) (x : A) → Contains xs x → Contains (map f xs)
    (f x)
has-map f [] x h = absurd (has-none x h)
has-map {A} {B} f (y ∷ xs) x h = ⊎_elim
    (λ (e : y ≡ x). subst (λ (z : A). Contains (f y ∷ map f xs) (f z)) e (has-first (f y) (map f
    xs)))
    (λ k. has-later (f y) (f x) (map f xs) (has-map f xs x k)) (has-cases y x xs h)

pub all-middle : (P : WholeContent → Type 0) (before : List WholeContent) (k : WholeContent)
    (after : List WholeContent) → AllByRecursion P (before ++ k ∷ after) → P k
all-middle P [] k after h = h.0
all-middle P (x ∷ before) k after h = all-middle P before k after h.1

pub some-same : (x y : Content) → some (Some x) ≡ some (Some y) → x ≡ y
some-same x y e = same_Some x y (some-injective (Some x) (Some y) e)

pub some-not : (x : Content) → some (Some x) ≡ some None → ⊥
some-not x e = none-some x (sym (some-injective (Some x) None e))

-- an event's entry in a log
pub noted-sum : (weigh : Stamped → ℕ) (log more : List Stamped) (keeps : Bool) (e f : Stamped)
    → keeps ≡ true → more ≡ log ++ noted keeps e → e ≡ f
    → sum_by weigh more ≡ sum_by weigh log + weigh f
noted-sum weigh log more keeps e f on is same =
    let a : sum_by weigh more ≡ sum_by weigh (log ++ f ∷ []) = ap (sum_by weigh)
    (is ∙ (ap (λ z. log ++ noted z e) on ∙ ap (λ z. log ++ z ∷ []) same)) in
    let b = sum_by-append weigh log (f ∷ []) in
    let c = sum_by-cons weigh f [] in omega arith

module _ (laws : PartLaws) (b : Begun) (marks : List Mark) (m : Mark) (before more : List TimedPart) (x y : TimedPart)
    (contents : List (Option Content)) (told : Told b marks (before ++ x ∷ more) contents) where
  abbrev pub p : Program
  p = program_in b

  abbrev pub others : List WholePart
  others = untimed before ++ untimed more

  abbrev pub parts_is : untimed (before ++ x ∷ more) ≡ untimed before ++ x.part ∷ untimed more
  parts_is = map-append (λ (a : TimedPart). a.part) before (x ∷ more)

  abbrev pub news_is : untimed (before ++ y ∷ more) ≡ untimed before ++ y.part ∷ untimed more
  news_is = map-append (λ (a : TimedPart). a.part) before (y ∷ more)

  pub whole-at : (c : Config) (began : BeganAt b c)
      → Whole (untimed before ++ x.part ∷ untimed more) (present contents)
      (told.history c began).config
  whole-at c began = subst
      (λ z. Whole z (present contents) (told.history c began).config) parts_is
      (told.history c began).whole

  abbrev pub here : Config
  here = (told.history told.start.0 told.start.1).config

  pub whole-first : Whole (x.part ∷ others) (present contents) here
  unfolding PartsInAnyOrder
  whole-first = (laws.order (untimed before) (untimed more) x.part (present contents) here).0
      (whole-at told.start.0 told.start.1)

  pub others-has : (q : TimedPart) → Contains (before ++ more) q → Contains others q.part
  others-has q h = subst (λ z. Contains z q.part)
      (map-append (λ (a : TimedPart). a.part) before more)
      (has-map (λ (a : TimedPart). a.part) (before ++ more) q h)

  pub alone : (q : TimedPart) → Contains (before ++ more) q → q.part.task ≡ x.part.task → ⊥
  alone q h e = task-apart x.part others (present contents) here q.part whole-first
      (others-has q h) e

  pub childless : (frames : List Frame) → x.part.stand ≡ running frames → (q : TimedPart)
      → Contains (before ++ more) q → IsChild x.part.task q.part.task → ⊥
  childless frames stand q h c = task-childless laws x.part others (present contents) here q.part
      frames c.0 whole-first stand (others-has q h) c.1

  -- what one of the others holds, this one doesn't
  pub not-both : (r : ResId) (q : TimedPart) → Contains (before ++ more) q → q.part.holds r ≡ true
      → x.part.holds r ≡ true → ⊥
  not-both r q h e own =
      let (w, s, u) = whole-first.held in
      let there = union-has holders others w q.part r q.part.task u (others-has q h)
      (ap (λ z. cond z (Some q.part.task) None) e) in
      let gone : w r ≡ None = splits-lacks_right r x.part.task s
      (ap (λ z. cond z (Some x.part.task) None) own) in
      none-some q.part.task (sym gone ∙ there)

  -- what a content is of, nobody holds
  pub not-held : (k : Content) (i : ℕ) → get_elem? contents i ≡ some (Some k) → (q : TimedPart)
      → Contains (before ++ more) q → q.part.holds k.resource ≡ true → ⊥
  not-held k i e q h own =
      let c = cut contents i (Some k) e in
      let free : here.common.held k.resource ≡ None = all-middle
      (λ z. here.common.held z.resource ≡ None) (present c.before) (content_of k).content
      (present c.after) (subst (AllByRecursion (λ z. here.common.held z.resource ≡ None))
      (ap present c.is ∙ Rattle.sf_region.proofs.Lists.present-append c.before
      (Some k ∷ c.after)) whole-first.free) in
      let there = union-has holders (x.part ∷ others) here.common.held q.part k.resource
      q.part.task whole-first.held (has-later x.part q.part others (others-has q h))
      (ap (λ z. cond z (Some q.part.task) None) own) in
      none-some q.part.task (sym free ∙ there)

  -- one event more, by the law of parts
  abbrev pub LeadsOn : List (Option Content) → Type 0
  LeadsOn now = (c : Config) (began : BeganAt b c)
      → Leads p (m.event ∷ []) (told.history c began).config
      (untimed before ++ x.part ∷ untimed more) (untimed before ++ y.part ∷ untimed more)
      (present now)

  pub history-on : (now : List (Option Content)) → LeadsOn now
      → ((c : Config) (began : BeganAt b c) (d : Config)
      (s : Step p m.event (told.history c began).config d) → IsKind p m.kind (next s.from))
      → (c : Config) → BeganAt b c
      → History p (opening_parts b) c (marks ++ m ∷ []) (untimed (before ++ y ∷ more)) (present now)
  history-on now leads kind c began = history-more p (opening_parts b) c marks m
      (untimed (before ++ x ∷ more)) (untimed (before ++ y ∷ more)) (present contents) (present now)
      (told.history c began)
      (subst (λ z. Leads p (m.event ∷ []) (told.history c began).config z
      (untimed (before ++ y ∷ more)) (present now)) (sym parts_is)
      (subst (λ z. Leads p (m.event ∷ []) (told.history c began).config
      (untimed before ++ x.part ∷ untimed more) z (present now)) (sym news_is)
      (leads c began)))
      (kind c began)

  pub kind-on : (frames : List Frame) → m.event.task ≡ x.part.task → x.part.stand ≡ running frames
      → IsKind p m.kind (next (runs frames))
      → (c : Config) (began : BeganAt b c) (d : Config)
      (s : Step p m.event (told.history c began).config d) → IsKind p m.kind (next s.from)
  kind-on frames own stand k c began d s = subst (λ z. IsKind p m.kind (next z))
      (sym (task-from laws p (untimed before) (untimed more) x.part (present contents)
      (told.history c began).config d m.event frames (whole-at c began) own stand s)) k

  pub private-told : m.kind ≡ private → m.stamp ≡ y.clock → Private p m.event x y
      → Told b (marks ++ m ∷ []) (before ++ y ∷ more) contents
  unfolding PrivateEventsAreSteps
  private-told kind stamp e =
      let st = told.stamps in
      let clock = e.notes.clock_is in
      let i = private-inside p m.event x y e in
      let none : (r : ResId) → Touches r m.kind → ⊥ = λ r t.
      subst (λ z. Touches r z) kind t in
      let stand = e.acts.from_is in
      record {
        exactly = told.exactly;
        start = told.start;
        history = history-on contents
            (λ c began. laws.privates p (m.event ∷ []) x y (untimed before) (untimed more)
            (present contents) (told.history c began).config (y, e, refl) (whole-at c began))
            (kind-on e.frames e.acts.own stand
            (subst (λ z. IsKind p z (next (runs e.frames))) (sym kind) e.private));
        stamps = single-more (first_of b) marks before more x y m contents contents st
            e.acts.own e.acts.task stamp (omega arith) e.kept e.acts.to_is alone
            (childless e.frames stand) e.notes.keeps
            (λ j. absurd (let f : private ≡ joining = sym kind ∙ j in cc))
            (λ k r h t u. absurd (none r u))
            (λ k r h t there. let z = st.held k r x h t (has-middle before more x)
            (sym (i.1 r) ∙ there) in omega arith)
            (λ r q h t there. none r t)
            (free-more m st none)
            (let z = st.clocks x (has-middle before more x) in omega arith)
            (λ r c there. inl (st.stamps r c there))
            (takes-unit m.event (next (runs e.frames)) (has (numbers x.part.supply))
            (has (numbers y.part.supply)) e.spends)
            (λ on weigh. noted-sum weigh x.log y.log x.keeps
            (record { stamp = y.clock; task = m.event.task; number = m.event.number }) (entry_of m)
            (st.keeps x (has-middle before more x) ∙ on) e.notes.log_is
            (λ j. record { stamp = sym stamp j; task = m.event.task; number = m.event.number }));
      }
