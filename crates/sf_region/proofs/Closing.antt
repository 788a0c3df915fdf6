-- The end: where the task with which the table began has ended, it is alone, and all contents are
-- at
-- home.
-- Names: `closing-LAW`.
use Rattle.std.specs.Prelude.{◌≡◌, ◌≢◌, ◌<◌, ℕ, zero, suc, cond, Bool, true, false, List, [], ◌∷◌, ◌++◌, map, length, slice_index, Option, Some, None, Contains}
use Rattle.std.proofs.Common.{sym, ap, ◌∙◌, refl, subst, ⊎_elim, arith, true≢false}
use Rattle.std.proofs.lemmas.List.Elements.{Contains-append_cases, Contains-append_right}
use Rattle.std.proofs.lemmas.Grind.{flat_map-append}
use Rattle.std.proofs.lemmas.Option.{none-some}
use mathlib.Core.Logic.{dite}
use mathlib.Core.Option.{some, some-injective}
use native.Mathlib.Decide.{ℕ_discrete}
use lib.ListN.{get_elem?}
use Rattle.atomic_table.specs.Table.{State, Final, Seen}
use Rattle.sf_core.specs.Machine.Config.{Frame, runs, Path, Config}
use Rattle.sf_core.specs.Machine.Enabled.{HasEnded}
use Rattle.sf_core.specs.Machine.Whole.{Part as WholePart, Content as WholeContent, running, stand_of, stands, own_stand, same_path, Whole}
use Rattle.sf_part.specs.Checked.Laws.{PartsInAnyOrder}
use Rattle.sf_part.specs.Checked.LawsOfWhole.{RunningEntriesAreAlone}
use Rattle.sf_part.specs.declared.content.Content.{Content}
use Rattle.sf_part.specs.PartView.{part_of}
use Rattle.sf_part.specs.Timed.{TimedPart}
use Rattle.sf_region.specs.Checked.PartLaws.{PartLaws}
use Rattle.sf_region.proofs.Keeps.{live-group, parts-at}
use Rattle.sf_region.proofs.Lists.{cut, has-first, has-none, in_range, others-at}
use Rattle.sf_region.proofs.Waits.{focused, has-flat}
use Rattle.sf_region.specs.declared.views.Begun.{Begun}
use Rattle.sf_region.specs.declared.views.View.{View}
use Rattle.sf_region.specs.Holdings.{inside_of, entered, taken, with_hand}
use Rattle.sf_region.specs.Marks.{History}
use Rattle.sf_region.specs.Plays.{Finished}
use Rattle.sf_region.specs.Rule.{Slot, holding, group_of, parts_in, untimed, present, Rule, Law}
use Rattle.sf_region.specs.Stamps.{Stamps}
use Rattle.sf_region.specs.Waits.{first_of, opening_parts, program_in}

-- a task that has ended is inside of no region
ended-outside : (path : Path) (frames : List Frame) → HasEnded path (runs frames)
    → inside_of frames ≡ []
ended-outside path [] h = refl
ended-outside [] (f ∷ []) h = λ i. map (λ (r : Rattle.sf_base.specs.declared.ids.ResId.ResId). r.0)
    (Rattle.sf_part.specs.Of.inside (h i)) ++ []
ended-outside [] (f ∷ g ∷ below) h = absurd h
ended-outside (turn ∷ path) (f ∷ below) h = absurd h

-- a part that is the only one is the entry's
path-empty : (path : Path) → same_path [] path ≡ true → path ≡ []
path-empty [] e = refl
path-empty (turn ∷ path) e = absurd (true≢false (sym e))

pub first-entry : (a : WholePart) (contents : List WholeContent) (c : Config) → Whole (a ∷ [])
    contents c
    → a.task ≡ []
first-entry a contents c w = go (same_path [] a.task) refl
  where
    go : (b : Bool) → same_path [] a.task ≡ b → a.task ≡ []
    go true e = path-empty a.task e
    go false e =
        let (others, s, none) = w.tasks in
        let left : own_stand a [] ≡ None = ap (λ z. cond z (Some a.stand) None) e in
        let whole : stands c.tasks [] ≡ None =
        s.is [] ∙ ((λ i. Rattle.std.specs.Option.option_or (left i) (none.none [] i))) in
        absurd (none-some (stand_of c.tasks) (sym whole))

nil-first : {A B : Type 0} (f : A → B) (xs : List A) (ys : List B) → map f xs ++ ys ≡ [] → xs ≡ []
nil-first f [] ys e = refl
nil-first f (x ∷ xs) ys e = absurd (let h = ap length e in omega arith)

nil-second : {A : Type 0} (xs ys : List A) → xs ++ ys ≡ [] → ys ≡ []
nil-second [] ys e = e
nil-second (x ∷ xs) ys e = absurd (let h = ap length e in omega arith)

-- a list of contents that are all there
all-there : (l : List (Option Content))
    → ((r : ℕ) → r < length l → (k : Content) × (get_elem? l r ≡ some (Some k)))
    → (cs : List Content) × (l ≡ map Some cs)
all-there [] h = ([], refl)
all-there (x ∷ l) h =
    let first = h 0 (omega arith) in
    let rest = all-there l (λ r less. h (suc r) (omega arith)) in (
      first.0 ∷ rest.0,
      λ i. some-injective x (Some first.0) first.1 i ∷ rest.1 i,
    )

-- what is at a place of a list is there among all that are there
at-some : {A : Type 0} (l : List A) (r : ℕ) (a : A) → get_elem? l r ≡ some a
    → get_elem? (map Some l) r ≡ some (Some a)
at-some [] r a e = absurd (let h = in_range [] r a e in omega arith)
at-some (x ∷ l) zero a e = ap (λ z. some (Some z)) (some-injective x a e)
at-some (x ∷ l) (suc r) a e = at-some l r a e

-- lists with the same at each place
same-lists : {A : Type 0} (l m : List A) → length l ≡ length m
    → ((r : ℕ) (a : A) → get_elem? m r ≡ some a → get_elem? l r ≡ some a) → l ≡ m
same-lists [] [] e h = refl
same-lists [] (y ∷ m) e h = absurd (omega arith)
same-lists (x ∷ l) [] e h = absurd (omega arith)
same-lists (x ∷ l) (y ∷ m) e h =
    let first = some-injective x y (h 0 y refl) in
    let rest = same-lists l m (omega arith) (λ r a k. h (suc r) a k) in
    λ i. first i ∷ rest i

module _ (laws : PartLaws) (about : Begun) (s : State Slot View) (law : Law about s) (id : ℕ) (v : View)
    (at : get_elem? s.views id ≡ some v) (live : v.live ≡ true) (empty : v.hand ≡ None)
    (first : (part_of v.part).part.task ≡ (first_of about).part.task) (frames : List Frame)
    (stand : (part_of v.part).part.stand ≡ running frames)
    (ended : HasEnded (part_of v.part).part.task (runs frames)) where
  abbrev q : Rule about law.marks s
  q = law.rule

  abbrev a : TimedPart
  a = part_of v.part

  abbrev before : List TimedPart
  before = parts_in (cut s.views id v at).before

  abbrev more : List TimedPart
  more = (holding v).kids ++ parts_in (cut s.views id v at).after

  root : a.part.task ≡ []
  root = first ∙ first-entry (first_of about).part
      (Rattle.sf_region.specs.Waits.contents_in about.contents) q.start.0 q.start.1

  others-none : untimed before ++ untimed more ≡ []
  unfolding RunningEntriesAreAlone PartsInAnyOrder
  others-none =
      let h = q.history q.start.0 q.start.1 in
      laws.alone a.part (untimed before ++ untimed more) (present q.contents)
      h.config
      frames ((laws.order (untimed before) (untimed more) a.part (present q.contents) h.config).0
      (focused laws s.views (present q.contents) h.config h.whole id v at live)) root stand

  before-none : before ≡ []
  before-none = nil-first (λ (z : TimedPart). z.part) before (untimed more) others-none

  more-none : more ≡ []
  more-none = nil-first (λ (z : TimedPart). z.part) more [] (Rattle.std.proofs.Common.append-nil
      (untimed more) ∙ nil-second (untimed before) (untimed more) others-none)

  parts-alone : parts_in s.views ≡ a ∷ []
  parts-alone = parts-at s.views id v (cut s.views id v at) live
      ∙ (λ i. before-none i ++ a ∷ more-none i)

  -- each other live view would have a part
  only-live : (j : ℕ) (u : View) → get_elem? s.views j ≡ some u → u.live ≡ true → j ≢ id → ⊥
  only-live j u e ul ne =
      let c = cut s.views id v at in
      let there : Contains (parts_in (c.before ++ c.after)) (part_of u.part) =
      has-flat group_of (c.before ++ c.after) u (part_of u.part) (others-at s.views id v at j u ne
      e)
      (subst (λ z. Contains z (part_of u.part)) (sym (live-group u ul))
      (has-first (part_of u.part) (holding u).kids)) in
      ⊎_elim
      (λ h. has-none (part_of u.part) (subst (λ z. Contains z (part_of u.part)) before-none h))
      (λ h. has-none (part_of u.part) (subst (λ z. Contains z (part_of u.part)) more-none
      (Contains-append_right (holding v).kids (parts_in c.after) (part_of u.part) h)))
      (Contains-append_cases (parts_in c.before) (parts_in c.after) (part_of u.part)
      (subst (λ z. Contains z (part_of u.part)) (flat_map-append group_of c.before c.after) there))

  taken-none : taken (holding v) ≡ []
  taken-none = (λ i. with_hand (empty i) (entered (stand i)))
      ∙ ended-outside a.part.task frames ended

  words-free : (r : ℕ) → r < length s.homes → slice_index s.words (suc r) ≡ 0
  words-free r less = dite (ℕ_discrete (slice_index s.words (suc r)) 0) (λ e. e)
      (λ ne.
      let t = q.kept r less ne in
      dite (ℕ_discrete (q.owner r) id)
      (λ same.
      let is : t.0 ≡ v = some-injective t.0 v (sym t.1 ∙ (ap (get_elem? s.views) same ∙ at)) in
      absurd (has-none r (subst (λ z. Contains z r) taken-none
      (subst (λ (z : View). Contains (taken (holding z)) r) is t.3))))
      (λ other. absurd (only-live (q.owner r) t.0 t.1 t.2 other)))

  pub contents-there : (cs : List Content) × (q.contents ≡ map Some cs)
  contents-there = all-there q.contents (λ r less.
      let e = q.even in
      let f = q.free r (omega arith) (words-free r (omega arith)) in (f.0, f.2))

  -- what is found in the slots is all of it
  pub closing-slots : (xs : List Slot) → length s.homes ≡ length xs
      → ((r : ℕ) (y : Slot) → get_elem? s.homes r ≡ some (some y) → get_elem? xs r ≡ some y)
      → xs ≡ map Some contents-there.0
  closing-slots xs long there = same-lists xs (map Some contents-there.0)
      (let e = q.even in let f = ap length contents-there.1 in omega arith)
      (λ r y e.
      let less : r < length (map Some contents-there.0) = in_range (map Some contents-there.0) r y
      e in
      let l = ap length contents-there.1 in let m = q.even in
      let f = q.free r (omega arith) (words-free r (omega arith)) in
      let same : Some f.0 ≡ y = some-injective (Some f.0) y
      (sym f.2 ∙ (ap (λ z. get_elem? z r) contents-there.1 ∙ e)) in
      there r (Some f.0) f.1 ∙ ap some same)

  pub closing-finished : Finished about a contents-there.0
  closing-finished = record {
    marks = law.marks;
    history = λ c began. subst
        (λ (z : List TimedPart × List (Option Content)). History (program_in about)
        (opening_parts about) c law.marks (untimed z.0) (present z.1))
        (λ i. (parts-alone i, contents-there.1 i)) (q.history c began);
    stamps = subst
        (λ (z : List TimedPart × List (Option Content)). Stamps (first_of about) law.marks z.0 z.1)
        (λ i. (parts-alone i, contents-there.1 i)) q.stamps;
    exactly = λ r k at. q.exactly r k
        (ap (λ z. get_elem? z r) contents-there.1 ∙ at-some contents-there.0 r k at);
  }

  pub closing-begun : v.begun ≡ about
  closing-begun = (q.each id v at live).begun

-- what a closed table holds: the contents of all resources, at the end of one list of events
pub closing-all : PartLaws → (about : Begun) (id : ℕ) (v : View) (ws : List ℕ) (xs : List Slot)
    → Final (Seen (Law about) id v) ws xs → v.live ≡ true → v.hand ≡ None
    → (part_of v.part).part.task ≡ (first_of v.begun).part.task → (frames : List Frame)
    → (part_of v.part).part.stand ≡ running frames
    → HasEnded (part_of v.part).part.task (runs frames)
    → (cs : List Content) × (xs ≡ map Some cs) × Finished v.begun (part_of v.part) cs
closing-all laws about id v ws xs (s, (law, at), words, long, there) live empty first frames stand
    ended =
    let begun = (law.rule.each id v at live).begun in
    let first' = first ∙ ap (λ (z : Begun). (first_of z).part.task) begun in
    let all = contents-there laws about s law id v at live empty first' frames stand ended in (
      all.0,
      closing-slots laws about s law id v at live empty first' frames stand ended xs long there,
      subst (λ (z : Begun). Finished z (part_of v.part) all.0) (sym begun)
          (closing-finished laws about s law id v at live empty first' frames stand ended),
    )
