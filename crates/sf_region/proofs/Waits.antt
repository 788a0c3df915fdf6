-- Misses have their places in the list of events.
-- Names: `places-LAW`; `act-LAW` and `advance-LAW` of what events leave of a task; `KIND-waits`
-- of a
-- view after that kind of step.
use Rattle.std.specs.Prelude.{◌≡◌, ◌≢◌, ◌⊎◌, ◌==◌, ◌+◌, ◌<◌, ◌≤◌, ℕ, zero, suc, cond, Bool, true, false, List, [], ◌∷◌, ◌++◌, map, take, length, slice_index, Option, Some, None, Contains, flat_map}
use Rattle.std.specs.List.{sum_by}
use Rattle.std.proofs.Common.{set, sym, ap, ◌∙◌, refl, subst, inl, inr, ⊎_elim, arith, append-nil, eq-eqb, ne_eqb}
use Rattle.std.proofs.lemmas.List.{length-append, map-append, take-append-le, take_all}
use Rattle.std.proofs.lemmas.List.Elements.{Contains-append_left, Contains-append_right}
use Rattle.std.proofs.lemmas.Grind.{flat_map-append}
use Rattle.std.proofs.lemmas.Option.{none-some}
use mathlib.Core.Logic.{dite}
use mathlib.Core.Option.{some, some-injective}
use native.Mathlib.Decide.{ℕ_discrete}
use lib.ListN.{get_elem?}
use Rattle.atomic_table.proofs.Lists.{at_set}
use Rattle.atomic_table.specs.Table.{State}
use Rattle.sf_base.specs.declared.ids.ResId.{ResId}
use Rattle.sf_base.specs.HeapStore.{Slot as StoreSlot}
use Rattle.sf_base.specs.declared.value.Value.{Value}
use Rattle.sf_core.specs.declared.assertion.Test.{Test}
use Rattle.sf_core.specs.declared.command.Expr.{Expr}
use Rattle.sf_core.specs.Assertions.Sat.{IsTrueOf}
use Rattle.sf_core.specs.Machine.Config.{Fixed, runs, Path, Config, evaluate}
use Rattle.sf_core.specs.Machine.Enabled.{variable, ReadsTest}
use Rattle.sf_core.specs.Machine.SpentWaits.{MayMiss}
use Rattle.sf_core.specs.Machine.SpentWaits as waits
use Rattle.sf_core.specs.Machine.Whole.{Part as WholePart, Content as WholeContent, Whole, numbers}
use Rattle.sf_core.specs.Program.Syntax.{with}
use Rattle.sf_part.specs.Checked.Lemmas.Shapes.{next-shape}
use Rattle.sf_part.specs.Checked.Laws.{PartsInAnyOrder}
use Rattle.sf_part.proofs.Supplies.{count-contains}
use Rattle.sf_part.specs.Checked.LawsOfWhole.{ConditionsAreSeenAlike, ContentsAreApart, PartsHold, RunningPartsRun}
use Rattle.sf_part.specs.declared.content.Content.{Content}
use Rattle.sf_part.specs.declared.part.Part.{Part}
use Rattle.sf_part.specs.Contents.{content_of}
use Rattle.sf_part.specs.Guards.{IsAtRegion, StandsAt}
use Rattle.sf_part.specs.PartView.{part_of}
use Rattle.sf_part.specs.Steps.{HasInHand}
use Rattle.sf_part.specs.Timed.{TimedPart}
use Rattle.sf_region.specs.Checked.PartLaws.{PartLaws}
use Rattle.sf_region.proofs.Keeps.{live-group, parts-at}
use Rattle.sf_region.proofs.Lists.{at-has, others-at, cut, in_range, has-cases, has-first, has-later, has-none, present-append, sum-focus}
use Rattle.sf_region.proofs.Runs.{history-arrives, task-apart}
use Rattle.sf_region.specs.declared.views.Begun.{Begun}
use Rattle.sf_region.specs.declared.views.View.{View}
use Rattle.sf_region.specs.Holdings.{Holding, taken, with_hand, entered, Does, Act, Advance}
use Rattle.sf_region.specs.Marks.{Kind, private, entry, exit, forking, joining, Mark, Arrives}
use Rattle.sf_region.specs.Plays.{Known, moved, won, lost, giving, left, bump, since}
use Rattle.sf_region.specs.Rule.{Slot, holding, group_of, parts_in, untimed, present, IsTidy, Rule, CanTry, Waits, Law}
use Rattle.sf_region.specs.Stamps.{units_of}
use Rattle.sf_region.specs.Waits.{BeganAt, Places, Missed, first_of, opening_parts, program_in}

pub places-none : (b : Begun) (marks : List Mark) (t : Path) (r : ResId) → Places b marks t r 0
places-none b marks t r = record {
  place = λ k. 0;
  order = λ j k le less. absurd (omega arith);
  within = λ k less. absurd (omega arith);
  quiet = λ k j m less. absurd (omega arith);
  missed = λ k less. absurd (omega arith);
}

places-fewer : (b : Begun) (marks : List Mark) (t : Path) (r : ResId) (m n : ℕ) → m ≤ n
    → Places b marks t r n → Places b marks t r m
places-fewer b marks t r m n le p = record {
  place = p.place;
  order = λ j k h less. p.order j k h (omega arith);
  within = λ k less. p.within k (omega arith);
  quiet = λ k j x less. p.quiet k j x (omega arith);
  missed = λ k less. p.missed k (omega arith);
}

at-append : {A : Type 0} (l k : List A) (j : ℕ) (a : A) → get_elem? (l ++ k) j ≡ some a
    → (get_elem? l j ≡ some a) ⊎ Contains k a
at-append [] k j a e = inr (at-has k j a e)
at-append (x ∷ l) k zero a e = inl e
at-append (x ∷ l) k (suc j) a e = at-append l k j a e

-- events of others come
places-more : (b : Begun) (marks more : List Mark) (t : Path) (r : ResId) (n : ℕ)
    → ((m : Mark) → Contains more m → m.event.task ≢ t) → Places b marks t r n
    → Places b (marks ++ more) t r n
places-more b marks more t r n others p = record {
  place = p.place;
  order = p.order;
  within = λ k less.
      let a = p.within k less in
      let l : length (marks ++ more) ≡ length marks + length more = length-append marks more in
      omega arith;
  quiet = λ k j m less le e. ⊎_elim (λ old. p.quiet k j m less le old) (λ new. others m new)
      (at-append marks more j m e);
  missed = λ k less c began. subst
      (λ z. (a : Arrives (program_in b) (opening_parts b) c z) × MayMiss a.config t r)
      (sym (take-append-le (p.place k) marks more (p.within k less))) (p.missed k less c began);
}

-- one more, at the end of the list
places-add : (b : Begun) (marks : List Mark) (t : Path) (r : ResId) (n : ℕ)
    → ((c : Config) → BeganAt b c
    → (a : Arrives (program_in b) (opening_parts b) c marks) × MayMiss a.config t r)
    → Places b marks t r n → Places b marks t r (n + 1)
places-add b marks t r n here p = record {
  place = place;
  order = λ j k le less. dite (ℕ_discrete k n)
      (λ e. let a = last k e in dite (ℕ_discrete j n)
      (λ f. let x = last j f in omega arith)
      (λ f. let x = first j f in let y = p.within j (omega arith) in omega arith))
      (λ ne. let a = first k ne in let x = first j (λ f. ne (omega arith)) in
      let y = p.order j k le (omega arith) in omega arith);
  within = λ k less. dite (ℕ_discrete k n) (λ e. let a = last k e in omega arith)
      (λ ne. let a = first k ne in let y = p.within k (omega arith) in omega arith);
  quiet = λ k j m less le e. dite (ℕ_discrete k n)
      (λ f. let a = last k f in let y = in_range marks j m e in absurd (omega arith))
      (λ ne. let a = first k ne in p.quiet k j m (omega arith) (omega arith) e);
  missed = λ k less c began. dite (ℕ_discrete k n)
      (λ e. let a = last k e in subst
      (λ z. (a : Arrives (program_in b) (opening_parts b) c z) × MayMiss a.config t r)
      (sym (take_all (place k) marks (omega arith))) (here c began))
      (λ ne. subst
      (λ i. (a : Arrives (program_in b) (opening_parts b) c (take i marks)) × MayMiss a.config t r)
      (sym (first k ne)) (p.missed k (omega arith) c began));
}
  where
    place : ℕ → ℕ
    place k = cond (k == n) (length marks) (p.place k)

    last : (k : ℕ) → k ≡ n → place k ≡ length marks
    last k e = ap (λ z. cond z (length marks) (p.place k)) (eq-eqb k n e)

    first : (k : ℕ) → k ≢ n → place k ≡ p.place k
    first k ne = ap (λ z. cond z (length marks) (p.place k)) (ne_eqb k n ne)

-- an event is of the holding's task, and raises its clock
act-own : (p : Rattle.sf_core.specs.Program.Syntax.Program) (a c : Holding) (m : Mark) → Act p a m c
    → (m.event.task ≡ a.part.part.task) × (c.part.part.task ≡ a.part.part.task)
    × (a.part.clock < c.part.clock)
act-own p a c m (stamp, does) = go m.kind does
  where
    go : (kind : Kind) → Does p a kind m.event c
        → (m.event.task ≡ a.part.part.task) × (c.part.part.task ≡ a.part.part.task)
        × (a.part.clock < c.part.clock)
    go private (hand, kids, e) =
        (e.acts.own, e.acts.task, (let n = e.notes.clock_is in omega arith))
    go (entry r) (k, in_hand, of, hand, kids, e) = (
      e.acts.own ∙ e.hand.task,
      e.acts.task ∙ e.hand.task,
      (let n = e.notes.clock_is in omega arith),
    )
    go (exit r) (k, empty, hand, of, kids, is_in, gives) =
        let e = gives.exits in
        (e.acts.own, sym e.hand.task ∙ e.acts.task, (let n = e.notes.clock_is in omega arith))
    go forking (one, two, hand, none, kids, e) =
        (e.acts.own, sym e.children.task ∙ e.acts.task, (let n = e.notes.clock_is in omega arith))
    go joining (one, two, hand, kids, none, e) = (
      e.acts.own ∙ e.children.task,
      e.acts.task ∙ e.children.task,
      (let n = e.notes.clock_is in omega arith),
    )

module _ (p : Rattle.sf_core.specs.Program.Syntax.Program) where
  pub advance-task : (a c : Holding) (marks : List Mark) → Advance p a marks c
      → c.part.part.task ≡ a.part.part.task
  advance-task a c [] e = ap (λ (z : Holding). z.part.part.task) e
  advance-task a c (x ∷ marks) (m, act, rest) =
      advance-task m c marks rest ∙ (act-own p a m x act).1

  pub advance-tasks : (a c : Holding) (marks : List Mark) → Advance p a marks c → (m : Mark)
      → Contains marks m → m.event.task ≡ a.part.part.task
  advance-tasks a c [] e m h = absurd (has-none m h)
  advance-tasks a c (x ∷ marks) (k, act, rest) m h = ⊎_elim
      (λ (e : x ≡ m). ap (λ (z : Mark). z.event.task) (sym e) ∙ (act-own p a k x act).0)
      (λ i. advance-tasks k c marks rest m i ∙ (act-own p a k x act).1) (has-cases x m marks h)

  pub advance-push : (a c d : Holding) (marks : List Mark) (m : Mark) → Advance p a marks c
      → Act p c m d → Advance p a (marks ++ m ∷ []) d
  advance-push a c d [] m e act = (d, subst (λ (z : Holding). Act p z m d) e act, refl)
  advance-push a c d (x ∷ marks) m (between, first, rest) act =
      (between, first, advance-push between c d marks m rest act)

  pub advance-clock : (a c : Holding) (marks : List Mark) → Advance p a marks c
      → a.part.clock + length marks ≤ c.part.clock
  advance-clock a c [] e = let h = ap (λ (z : Holding). z.part.clock) e in omega arith
  advance-clock a c (x ∷ marks) (m, act, rest) =
      let h = advance-clock m c marks rest in let k = (act-own p a m x act).2 in omega arith

  -- with the clock unchanged there was no event
  pub no-event : (a c : Holding) (marks : List Mark) → Advance p a marks c
      → c.part.clock ≡ a.part.clock → (marks ≡ []) × (c ≡ a)
  no-event a c [] e same = (refl, e)
  no-event a c (x ∷ marks) adv same =
      let h = advance-clock a c (x ∷ marks) adv in absurd (omega arith)

-- Two live views are of two tasks
pub has-flat : {A B : Type 0} (f : A → List B) (l : List A) (x : A) (y : B) → Contains l x
    → Contains (f x) y → Contains (flat_map f l) y
has-flat f [] x y h i = absurd (has-none x h)
has-flat {A} {B} f (z ∷ l) x y h i = ⊎_elim
    (λ (e : z ≡ x). Contains-append_left (f z) (flat_map f l) y
    (subst (λ (w : A). Contains (f w) y) (sym e) i))
    (λ k. Contains-append_right (f z) (flat_map f l) y (has-flat f l x y k i)) (has-cases z x l h)

has-mapped : {A B : Type 0} (f : A → B) (l : List A) (x : A) → Contains l x → Contains (map f l)
    (f x)
has-mapped f [] x h = absurd (has-none x h)
has-mapped {A} {B} f (y ∷ l) x h = ⊎_elim
    (λ (e : y ≡ x). subst (λ (z : A). Contains (f y ∷ map f l) (f z)) e (has-first (f y) (map f l)))
    (λ k. has-later (f y) (f x) (map f l) (has-mapped f l x k)) (has-cases y x l h)

module _ (laws : PartLaws) (views : List View) (contents : List WholeContent) (d : Config)
    (w : Whole (untimed (parts_in views)) contents d) where
  -- the parts, with a view's among them
  pub focused : (id : ℕ) (v : View) (at : get_elem? views id ≡ some v) → v.live ≡ true
      → Whole (untimed (parts_in (cut views id v at).before)
      ++ (part_of v.part).part
      ∷ untimed ((holding v).kids ++ parts_in (cut views id v at).after)) contents d
  focused id v at live = subst (λ z. Whole z contents d)
      (ap untimed (parts-at views id v (cut views id v at) live)
      ∙ map-append (λ (a : TimedPart). a.part) (parts_in (cut views id v at).before)
      ((part_of v.part) ∷ ((holding v).kids ++ parts_in (cut views id v at).after))) w

  pub views-apart : (i j : ℕ) (v u : View) → j ≢ i → get_elem? views i ≡ some v
      → get_elem? views j ≡ some u → v.live ≡ true → u.live ≡ true
      → (part_of u.part).part.task ≢ (part_of v.part).part.task
  unfolding PartsInAnyOrder
  views-apart i j v u ne e g vl ul same =
      let c = cut views i v e in
      let before = untimed (parts_in c.before) in
      let after = untimed ((holding v).kids ++ parts_in c.after) in
      let rest : Contains (flat_map group_of (c.before ++ c.after)) (part_of u.part) =
      has-flat group_of (c.before ++ c.after) u (part_of u.part) (others-at views i v e j u ne g)
      (subst (λ z. Contains z (part_of u.part)) (sym (live-group u ul))
      (has-first (part_of u.part) (holding u).kids)) in
      let there : Contains (parts_in c.before ++ ((holding v).kids ++ parts_in c.after))
      (part_of u.part) = ⊎_elim
      (λ k. Contains-append_left (parts_in c.before) ((holding v).kids ++ parts_in c.after)
      (part_of u.part) k)
      (λ k. Contains-append_right (parts_in c.before) ((holding v).kids ++ parts_in c.after)
      (part_of u.part) (Contains-append_right (holding v).kids (parts_in c.after) (part_of u.part)
      k))
      (Rattle.std.proofs.lemmas.List.Elements.Contains-append_cases (parts_in c.before)
      (parts_in c.after) (part_of u.part)
      (subst (λ z. Contains z (part_of u.part)) (flat_map-append group_of c.before c.after) rest))
      in
      task-apart (part_of v.part).part (before ++ after) contents d (part_of u.part).part
      ((laws.order before after (part_of v.part).part contents d).0 (focused i v e vl))
      (subst (λ z. Contains z (part_of u.part).part)
      (map-append (λ (a : TimedPart). a.part) (parts_in c.before)
      ((holding v).kids ++ parts_in c.after))
      (has-mapped (λ (a : TimedPart). a.part)
      (parts_in c.before ++ ((holding v).kids ++ parts_in c.after)) (part_of u.part) there)) same

  -- a task that stands at a region does so in the configuration
  pub at-region : (id : ℕ) (v : View) (at : get_elem? views id ≡ some v) → v.live ≡ true
      → (r : ResId) (f : Fixed) (test : Test Expr) → StandsAt (part_of v.part).part r f test
      → (h : waits.IsAtRegion d (part_of v.part).part.task r) × (h.frame ≡ f) × (h.test ≡ test)
  unfolding RunningPartsRun
  at-region id v at live r f test (frames, stand, guard) =
      let c = cut views id v at in
      let before = untimed (parts_in c.before) in
      let after = untimed ((holding v).kids ++ parts_in c.after) in (
        record {
          frame = f;
          below = guard.below;
          place = guard.place;
          test = test;
          body = guard.body;
          rest = guard.rest;
          there = laws.run before after (part_of v.part).part contents d frames
              (focused id v at live) stand
              ∙ ap (λ z. Some (runs z)) (next-shape frames f guard.below
              (with guard.place r test guard.body) guard.rest guard.is);
        },
        refl,
        refl,
      )

  pub held-by : (id : ℕ) (v : View) (at : get_elem? views id ≡ some v) → v.live ≡ true
      → (r : ResId) → (part_of v.part).part.holds r ≡ true
      → d.common.held r ≡ Some (part_of v.part).part.task
  unfolding PartsHold
  held-by id v at live r h = laws.hold (untimed (parts_in (cut views id v at).before))
      (untimed ((holding v).kids ++ parts_in (cut views id v at).after)) (part_of v.part).part
      contents d r (focused id v at live) h

-- what a part is inside of, it holds
tidy-holds : (a : TimedPart) (r : ResId) → IsTidy a → Contains (entered a.part.stand) r.0
    → a.part.holds r ≡ true
tidy-holds a r tidy h =
    go (a.part.holds r) (tidy r) (count-contains r.0 (entered a.part.stand) h)
  where
    go : (b : Bool) {n : ℕ} → n ≤ cond b 1 0 → 1 ≤ n → b ≡ true
    go true x y = refl
    go false x y = absurd (omega arith)

-- of a view with a content in hand
abbrev pub Hands : View → Type 0
Hands v = v.live ≡ true → (k : Content) → v.hand ≡ Some k
    → CanTry (part_of v.part).part k.resource × (v.missed ≡ k.resource)

-- what a region's condition reads is there, with the content in hand
abbrev pub ReadsThere : WholePart → Content → Type 0
ReadsThere a k = (f : Fixed) (test : Test Expr) → StandsAt a k.resource f test
    → (both : WholePart) → HasInHand a (content_of k).content both → (slot : StoreSlot)
    → ReadsTest f.slots test (variable slot) → (v : Value) × (both.store slot ≡ Some v)

-- the condition isn't true, whatever frame one takes it of
abbrev pub NotTrue : WholePart → Content → Type 0
NotTrue a k = (f : Fixed) (test : Test Expr) → StandsAt a k.resource f test
    → (both : WholePart) → HasInHand a (content_of k).content both
    → IsTrueOf (evaluate f.slots both.store) test → ⊥

module _ (laws : PartLaws) (b : Begun) (marks : List Mark) (s : State Slot View)
    (q : Rule b marks s)
    (hands : (j : ℕ) (u : View) → get_elem? s.views j ≡ some u → Hands u)
    (id : ℕ) (v : View) (e : get_elem? s.views id ≡ some v) (live : v.live ≡ true) (r : ResId)
    (stands : IsAtRegion (part_of v.part).part r) where
  -- a word that was found taken
  pub taken-missed : v.hand ≡ None → (part_of v.part).part.holds r ≡ false
      → r.0 < length s.homes → slice_index s.words (suc r.0) ≢ 0 → (c : Config) → BeganAt b c
      → (a : Arrives (program_in b) (opening_parts b) c marks)
      × MayMiss a.config (part_of v.part).part.task r
  taken-missed empty idle less not_free c began =
      let h = q.history c began in
      let t = q.kept r.0 less not_free in
      let u : View = t.0 in
      let j : ℕ = q.owner r.0 in
      let w = h.whole in (
        history-arrives (program_in b) (opening_parts b) c marks (untimed (parts_in s.views))
            (present q.contents) h,
        (
          (at-region laws s.views (present q.contents) h.config w id v e live r stands.0 stands.1
              stands.2).0,
          dite (ℕ_discrete j id)
              (λ same.
              let is : u ≡ v = some-injective u v (sym t.1 ∙ (ap (get_elem? s.views) same ∙ e)) in
              let i : Contains (with_hand v.hand (entered (part_of v.part).part.stand)) r.0 =
              subst (λ (z : View). Contains (taken (holding z)) r.0) is t.3 in
              absurd (Rattle.std.proofs.Common.true≢false (sym (tidy-holds (part_of v.part) r
              (q.each id v e live).tidy (subst (λ z. Contains
              (with_hand z (entered (part_of v.part).part.stand)) r.0) empty i)) ∙ idle)))
              (λ ne. ⊎_elim (λ x. inl x) (λ x. inr (inl x))
              (other h.config w j u ne t.1 t.2 t.3 u.hand refl)),
        ),
      )
    where
      other : (d : Config) → Whole (untimed (parts_in s.views)) (present q.contents) d → (j : ℕ)
          (u : View) → j ≢ id → get_elem? s.views j ≡ some u → u.live ≡ true
          → Contains (taken (holding u)) r.0 → (x : Option Content) → u.hand ≡ x
          → ((o : Path) × (d.common.held r ≡ Some o) × (o ≢ (part_of v.part).part.task))
          ⊎ ((o : Path) × (o ≢ (part_of v.part).part.task) × waits.IsAtRegion d o r)
      other d w j u ne g ul inside x hand = go x hand
          (subst (λ z. Contains (with_hand z (entered (part_of u.part).part.stand)) r.0) hand
          inside)
        where
          apart : (part_of u.part).part.task ≢ (part_of v.part).part.task
          apart = views-apart laws s.views (present q.contents) d w id j v u ne e g live ul

          deep : Contains (entered (part_of u.part).part.stand) r.0
              → (o : Path) × (d.common.held r ≡ Some o) × (o ≢ (part_of v.part).part.task)
          deep i = (
            (part_of u.part).part.task,
            held-by laws s.views (present q.contents) d w j u g ul r
                (tidy-holds (part_of u.part) r (q.each j u g ul).tidy i),
            apart,
          )

          go : (x : Option Content) → u.hand ≡ x
              → Contains (with_hand x (entered (part_of u.part).part.stand)) r.0
              → ((o : Path) × (d.common.held r ≡ Some o) × (o ≢ (part_of v.part).part.task))
              ⊎ ((o : Path) × (o ≢ (part_of v.part).part.task) × waits.IsAtRegion d o r)
          go None is i = inl (deep i)
          go (Some k) is i = ⊎_elim
              (λ (f : k.resource.0 ≡ r.0).
              let same : k.resource ≡ r = λ m. record { 0 = f m } in
              let at' = (hands j u g ul k is).0.0 in
              inr (
                (part_of u.part).part.task,
                apart,
                (at-region laws s.views (present q.contents) d w j u g ul r at'.0 at'.1
                    (subst (λ (z : ResId). StandsAt (part_of u.part).part z at'.0 at'.1) same
                    at'.2)).0,
              ))
              (λ n. inl (deep n))
              (has-cases k.resource.0 r.0 (entered (part_of u.part).part.stand) i)

  -- a content in hand, of which the condition is false
  pub false-missed : (k : Content) → v.hand ≡ Some k → k.resource ≡ r
      → ReadsThere (part_of v.part).part k → NotTrue (part_of v.part).part k
      → (c : Config) → BeganAt b c
      → (a : Arrives (program_in b) (opening_parts b) c marks)
      × MayMiss a.config (part_of v.part).part.task r
  unfolding ContentsAreApart ConditionsAreSeenAlike
  false-missed k hand is reads not_true c began =
      let h = q.history c began in
      let d = h.config in
      let w = h.whole in
      let a : WholePart = (part_of v.part).part in
      let before = untimed (parts_in (cut s.views id v e).before) in
      let after = untimed ((holding v).kids ++ parts_in (cut s.views id v e).after) in
      let fw = focused laws s.views (present q.contents) d w id v e live in
      let there = (q.each id v e live).in_hand k hand in
      let cs = cut q.contents k.resource.0 (Some k) there in
      let contents_is : present q.contents
      ≡ present cs.before ++ (content_of k).content ∷ present cs.after =
      ap present cs.is ∙ present-append cs.before (Some k ∷ cs.after) in
      let w2 : Whole (before ++ a ∷ after)
      (present cs.before ++ (content_of k).content ∷ present cs.after) d =
      subst (λ z. Whole (before ++ a ∷ after) z d) contents_is fw in
      let apart = laws.contents before after a (present cs.before) (present cs.after)
      (content_of k).content d w2 in
      let both : WholePart = apart.0.0 in
      let f = stands.0 in let test = stands.1 in
      let st : StandsAt a k.resource f test = subst (λ (z : ResId). StandsAt a z f test) (sym is)
      stands.2 in
      let seen = laws.seen before after a both (present cs.before)
      (present cs.after) (content_of k).content d f.slots test w2 apart.0.1
      (reads f test st both apart.0.1) in
      let at' = at-region laws s.views (present q.contents) d w id v e live r f test stands.2 in
      let free : d.common.held k.resource ≡ None =
      Rattle.sf_region.proofs.Told.all-middle (λ z. d.common.held z.resource ≡ None)
      (present cs.before) (content_of k).content (present cs.after) w2.free in (
        history-arrives (program_in b) (opening_parts b) c marks (untimed (parts_in s.views))
            (present q.contents) h,
        (
          at'.0,
          inr (inr (
            ap d.common.held (sym is) ∙ free,
            λ true_there. not_true f test st both apart.0.1 (seen.1
                (subst (λ (z : Fixed × Test Expr). IsTrueOf (evaluate z.0.slots d.common.store) z.1)
                (λ i. (at'.1 i, at'.2 i)) true_there)),
          )),
        ),
      )

-- What is so of each view
pub each-set : (P : View → Type 0) (views : List View) (id : ℕ) (w : View) → P w
    → ((j : ℕ) (u : View) → j ≢ id → get_elem? views j ≡ some u → P u) → (j : ℕ) (u : View)
    → get_elem? (set views id w) j ≡ some u → P u
each-set P views id w own others j u e = ⊎_elim
    (λ (x : (j ≡ id) × (w ≡ u)). subst P x.1 own)
    (λ (x : (j ≢ id) × (get_elem? views j ≡ some u)). others j u x.0 x.1) (at_set views id j w u e)

pub empty-hand : (v : View) → v.hand ≡ None → Hands v
empty-hand v e live k f = absurd (none-some k (sym e ∙ f))

-- one seat moves, and the others keep what they had
module _ (laws : PartLaws) (b : Begun) (s : State Slot View) (law : Law b s) (id : ℕ) (v : View)
    (at : get_elem? s.views id ≡ some v) (live : v.live ≡ true) (more : List Mark)
    (own : (m : Mark) → Contains more m → m.event.task ≡ (part_of v.part).part.task) where
  others-wait : (j : ℕ) (u : View) → j ≢ id → get_elem? s.views j ≡ some u → u.live ≡ true
      → Waits b (law.marks ++ more) u
  others-wait j u ne e ul =
      let h = law.rule.history law.rule.start.0 law.rule.start.1 in
      let apart = views-apart laws s.views (present law.rule.contents) h.config h.whole id j v u ne at e
      live ul in
      let w = law.waits j u e ul in
      record {
        places = places-more b law.marks more (part_of u.part).part.task u.missed u.misses
            (λ m i same. apart (sym same ∙ own m i)) w.places;
        stood = w.stood;
      }

  pub all-wait : (w : View) → (w.live ≡ true → Waits b (law.marks ++ more) w) → (j : ℕ) (u : View)
      → get_elem? (set s.views id w) j ≡ some u → u.live ≡ true → Waits b (law.marks ++ more) u
  all-wait w own = each-set (λ (u : View). u.live ≡ true → Waits b (law.marks ++ more) u) s.views id
      w own others-wait

  pub all-hands : (w : View) → Hands w → (j : ℕ) (u : View)
      → get_elem? (set s.views id w) j ≡ some u → Hands u
  all-hands w own = each-set Hands s.views id w own
      (λ j u ne e ul k h. law.hands j u k e ul h)

-- the own seat, kind by kind
module _ (b : Begun) (marks : List Mark) (v : View) (a : Part) (more : List Mark)
    (w : Waits b marks v) where
  abbrev t : Path
  t = (part_of a).part.task

  -- the misses that count after its own events
  kept-waits : (h : Option Content) (ks : List TimedPart)
      → Advance (program_in b) (holding v) more
      (record { hand = h; part = part_of a; kids = ks })
      → Places b (marks ++ more) t v.missed (since a v)
      × (0 < since a v → CanTry (part_of a).part v.missed)
  kept-waits h ks adv = dite (ℕ_discrete a.clock v.part.clock)
      (λ e.
      let none = no-event (program_in b) (holding v)
      (record { hand = h; part = part_of a; kids = ks }) more adv e in
      let part : part_of a ≡ part_of v.part = ap (λ (z : Holding). z.part) none.1 in
      let count : since a v ≡ v.misses = ap (λ z. cond z v.misses 0)
      (eq-eqb a.clock v.part.clock e) in
      let list : marks ++ more ≡ marks = ap (λ z. marks ++ z) none.0 ∙ append-nil marks in (
        subst (λ (z : List Mark × (TimedPart × ℕ)). Places b z.0 z.1.0.part.task v.missed z.1.1)
            (λ i. (sym list i, (sym part i, sym count i))) w.places,
        λ some'. subst (λ (z : TimedPart). CanTry z.part v.missed) (sym part)
            (w.stood (omega arith)),
      ))
      (λ ne.
      let count : since a v ≡ 0 = ap (λ z. cond z v.misses 0) (ne_eqb a.clock v.part.clock ne) in (
        subst (λ n. Places b (marks ++ more) t v.missed n) (sym count)
            (places-none b (marks ++ more) t v.missed),
        λ some'. absurd (omega arith),
      ))

  -- the same at the region at which the task stands
  kept-at : (r : ResId) (n : ℕ) → IsAtRegion (part_of a).part r
      → Places b (marks ++ more) t v.missed n × (0 < n → CanTry (part_of a).part v.missed)
      → Places b (marks ++ more) t r n
  kept-at r zero here p = places-none b (marks ++ more) t r
  kept-at r (suc n) here p = subst (λ z. Places b (marks ++ more) t z (suc n))
      (Rattle.sf_region.proofs.Stands.region-one (part_of a).part v.missed r
      (p.1 (omega arith)).0 here) p.0

  pub moved-waits : (ks : List Part)
      → Advance (program_in b) (holding v) more (holding (moved a ks v))
      → Waits b (marks ++ more) (moved a ks v)
  moved-waits ks adv =
      let k = kept-waits None (map part_of ks) adv in record { places = k.0; stood = k.1 }

  pub won-waits : (k : Content) → Advance (program_in b) (holding v) more (holding (moved a [] v))
      → CanTry (part_of a).part k.resource → Waits b (marks ++ more) (won k (moved a [] v))
  won-waits k adv here = record {
    places = kept-at k.resource (since a v) here.0 (kept-waits None [] adv);
    stood = λ _. here;
  }

  pub lost-waits : (r : ResId) → Advance (program_in b) (holding v) more (holding (moved a [] v))
      → CanTry (part_of a).part r
      → ((c : Config) → BeganAt b c
      → (x : Arrives (program_in b) (opening_parts b) c (marks ++ more)) × MayMiss x.config t r)
      → Waits b (marks ++ more) (lost r (moved a [] v))
  lost-waits r adv here missed = record {
    places =
        let n : ℕ = since a v in
        places-fewer b (marks ++ more) t r (bump n) (n + 1) (omega arith)
        (places-add b (marks ++ more) t r n missed
        (kept-at r n here.0 (kept-waits None [] adv)));
    stood = λ _. here;
  }

  pub left-waits : (k : Content)
      → Advance (program_in b) (holding v) more (holding (giving k a v))
      → (a.clock ≡ v.part.clock → (v.missed ≡ k.resource)
      × CanTry (part_of a).part k.resource
      × ((c : Config) → BeganAt b c
      → (x : Arrives (program_in b) (opening_parts b) c (marks ++ more))
      × MayMiss x.config t k.resource))
      → Waits b (marks ++ more) (left a v)
  left-waits k adv same = dite (ℕ_discrete a.clock v.part.clock)
      (λ e.
      let f = same e in
      let n : ℕ = v.misses in
      let count : since a v ≡ n = ap (λ z. cond z n 0) (eq-eqb a.clock v.part.clock e) in
      let now : (left a v).misses ≡ bump n = ap (λ z. cond z (bump n) 0)
      (eq-eqb a.clock v.part.clock e) in
      let old : Places b (marks ++ more) t k.resource n =
      subst (λ (z : ResId × ℕ). Places b (marks ++ more) t z.0 z.1) (λ i. (f.0 i, count i))
      (kept-waits (Some k) [] adv).0 in
      let new : Places b (marks ++ more) t k.resource (bump n) =
      places-fewer b (marks ++ more) t k.resource (bump n) (n + 1) (omega arith)
      (places-add b (marks ++ more) t k.resource n f.2 old) in
      record {
        places = subst (λ (z : ResId × ℕ). Places b (marks ++ more) t z.0 z.1)
            (λ i. (sym f.0 i, sym now i)) new;
        stood = λ _. subst (λ z. CanTry (part_of a).part z) (sym f.0) f.1;
      })
      (λ ne.
      let now : (left a v).misses ≡ 0 = ap (λ z. cond z (bump v.misses) 0)
      (ne_eqb a.clock v.part.clock ne) in
      record {
        places = subst (λ n. Places b (marks ++ more) t v.missed n) (sym now)
            (places-none b (marks ++ more) t v.missed);
        stood = λ h. absurd (omega arith);
      })

-- what has a unit has one at least
some-unit : (ns : List ℕ) → ns ≢ [] → 0 < length ns
some-unit [] ne = absurd (ne refl)
some-unit (n ∷ ns) ne = omega arith

-- while a task has a unit, not all of those with which the table began are used
still-left : (b : Begun) (marks : List Mark) (s : State Slot View) → Rule b marks s → (id : ℕ) (v : View)
    → get_elem? s.views id ≡ some v → v.live ≡ true → numbers (part_of v.part).part.supply ≢ []
    → length marks < units_of (first_of b)
still-left b marks s q id v e live unit =
    let before = parts_in (cut s.views id v e).before in
    let after = (holding v).kids ++ parts_in (cut s.views id v e).after in
    let parts = ap (sum_by units_of) (parts-at s.views id v (cut s.views id v e) live) in
    let all = sum-focus units_of before after (part_of v.part) in
    let one = some-unit (numbers (part_of v.part).part.supply) unit in
    let supply = q.stamps.supply in
    omega arith

-- what a seat's view stands for
pub knows : (b : Begun) (s : State Slot View) (law : Law b s) (id : ℕ) (v : View)
    → get_elem? s.views id ≡ some v → v.live ≡ true → Known v
knows b s law id v e live = subst
    (λ (z : Begun). Missed z (part_of v.part).part.task v.missed v.misses)
    (sym (law.rule.each id v e live).begun)
    (record {
      marks = law.marks;
      places = (law.waits id v e live).places;
      left = λ some'. still-left b law.marks s law.rule id v e live
          ((law.waits id v e live).stood some').1;
    })

-- a view without misses stands for nothing
pub unmissed : (v : View) → 0 ≡ v.misses → Known v
unmissed v e = record {
  marks = [];
  places = subst (λ n. Places v.begun [] (part_of v.part).part.task v.missed n) e
      (places-none v.begun [] (part_of v.part).part.task v.missed);
  left = λ some'. absurd (omega arith);
}
