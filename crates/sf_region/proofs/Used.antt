-- A task that has used what it was given, in the list of events of the rule.
-- Names: `start-LAW` of where a table begins, `drains-LAW` of a part, `drained-LAW` of a view.
use Rattle.std.specs.Prelude.{◌≡◌, ◌⊎◌, ℕ, ◌+◌, true, List, [], ◌∷◌, ◌++◌, length, Option, Some, None, Contains}
use Rattle.std.proofs.Common.{sym, ap, ◌∙◌, refl, subst, ⊎_elim, arith}
use Rattle.std.proofs.lemmas.List.{map-append}
use Rattle.std.proofs.lemmas.Option.{none-some, same_Some}
use mathlib.Core.Option.{some}
use lib.ListN.{get_elem?}
use Rattle.atomic_table.specs.Table.{State}
use Rattle.sf_base.specs.declared.path.Turn.{Turn}
use Rattle.sf_base.specs.declared.path.Turn.TheVariants.{Left as left, Right as right}
use Rattle.sf_core.specs.Machine.Config.{Frame, Task, runs, waits, Path, Config, IsOver, task_at}
use Rattle.sf_core.specs.Machine.Enabled.{HasEnded}
use Rattle.sf_core.specs.Machine.SpentSteps.{NeedsNoChild, Spending, SpendingFrom}
use Rattle.sf_core.specs.Machine.Supplies.{Supply, has, lent, left_in, supply_at}
use Rattle.sf_core.specs.Machine.Whole.{Stand, running, waiting, Part as WholePart, numbers, Whole, own_stand, stand_of, stands}
use Rattle.sf_part.proofs.Trees.{entry-here}
use Rattle.sf_part.specs.Checked.Laws.{PartsInAnyOrder}
use Rattle.sf_part.specs.Checked.LawsOfWhole.{RunningPartsRun, WaitingPartsWait}
use Rattle.sf_part.specs.declared.content.Content.{Content}
use Rattle.sf_part.specs.declared.part.Part.{Part}
use Rattle.sf_part.specs.PartView.{part_of}
use Rattle.sf_part.specs.Supplied.{share_in, share_of, Supplied}
use Rattle.sf_part.specs.Timed.{TimedPart}
use Rattle.sf_region.specs.Checked.Laws.{DrainedTasksHaveSpentSteps}
use Rattle.sf_region.specs.Checked.PartLaws.{PartLaws}
use Rattle.sf_region.proofs.Asks.{three-are}
use Rattle.sf_region.proofs.Children.{second-three, third-three}
use Rattle.sf_region.proofs.Closing.{first-entry}
use Rattle.sf_region.proofs.Granted.{shares-running, shares-there, shares-waiting, union-none}
use Rattle.sf_region.proofs.Keeps.{parts-at}
use Rattle.sf_region.proofs.Lists.{cut, has-cases, has-first, has-middle, has-none}
use Rattle.sf_region.proofs.Runs.{history-arrives, task-childless, union-has}
use Rattle.sf_region.proofs.Told.{has-map}
use Rattle.sf_region.proofs.Waits.{focused}
use Rattle.sf_region.specs.declared.views.Begun.{Begun}
use Rattle.sf_region.specs.declared.views.View.{View}
use Rattle.sf_region.specs.Drained.{MayHaveSpent, Drains, Grants}
use Rattle.sf_region.specs.Marks.{Mark, events_of, History}
use Rattle.sf_region.specs.Plays.{AreSpent, IsDrained, IsSpent}
use Rattle.sf_region.specs.Rule.{Slot, holding, parts_in, untimed, present, Rule, Law}
use Rattle.sf_region.specs.Waits.{BeganAt, contents_in, first_of, opening_parts, program_in}
use Rattle.sf_spend.specs.Checked.Laws.{CountedListsAreNumbered, CountsStayBalanced, IsSoFar, NumberedListsAreCounted, SpentTasksHaveSpentSteps}
use Rattle.sf_spend.specs.Counting.{IsBalanced, IsDividedAs}

-- Where a table begins
module _ (b : Begun) (c : Config) (began : BeganAt b c) (supply : Supply)
    (supplied : Supplied (opening_parts b) supply) where
  abbrev first : WholePart
  first = (first_of b).part

  start-root : first.task ≡ []
  start-root = first-entry first (contents_in b.contents) c began

  start-stand : stand_of c.tasks ≡ first.stand
  start-stand = same_Some (stand_of c.tasks) first.stand
      (union-has own_stand (first ∷ []) (stands c.tasks) first [] first.stand began.tasks
      (has-first first []) (subst (λ z. own_stand first z ≡ Some first.stand) start-root
      (entry-here first.task first.stand)))

  -- no other part is there
  start-alone : stands c.tasks (left ∷ []) ≡ None
  start-alone = union-none own_stand (first ∷ []) (stands c.tasks) (left ∷ []) began.tasks
      (λ a h. subst (λ z. own_stand z (left ∷ []) ≡ None)
      (⊎_elim (λ e. e) (λ k. absurd (has-none a k)) (has-cases first a [] h))
      (subst (λ z. Rattle.std.specs.Prelude.cond
      (Rattle.sf_core.specs.Machine.Whole.same_path (left ∷ []) z) (Some first.stand) None ≡ None)
      (sym start-root) refl))

  start-share : share_of supply ≡ share_in first.stand (numbers first.supply)
  start-share = let (u, is, share) = shares-there (first ∷ []) supply first supplied
      (has-first first []) in
      ap share_of (same_Some supply u
      (subst (λ z. supply_at z supply ≡ Some u) start-root is)) ∙ share

  -- so it runs, with all its units
  start-runs : (frames : List Frame) × (c.tasks ≡ runs frames)
  start-runs = go c.tasks start-alone refl
    where
      go : (t : Task) → stands t (left ∷ []) ≡ None → c.tasks ≡ t
          → (frames : List Frame) × (c.tasks ≡ runs frames)
      go (runs frames) none e = (frames, e)
      go (waits frames one two) none e = absurd (none-some (stand_of one) (sym none))

  start-supply : supply ≡ has (numbers first.supply)
  start-supply = shares-running supply (numbers first.supply)
      (start-share ∙ ap (λ z. share_in z (numbers first.supply))
      (sym start-stand ∙ ap stand_of start-runs.1))

  pub start-divided : IsDividedAs c.tasks supply
  start-divided = subst (λ (z : Task × Supply). IsDividedAs z.0 z.1)
      (λ i. (sym start-runs.1 i, sym start-supply i)) tt

  pub start-balanced : (path : Path) (s : Spending) → MayHaveSpent (first_of b) path s
      → IsBalanced path supply s
  start-balanced [] s begins own is =
      let used = begins.used (sym start-root) in
      let same : length (left_in own) ≡ length (numbers first.supply) =
      ap (λ z. length (left_in z)) (sym (same_Some supply own is) ∙ start-supply) in omega arith
  start-balanced (turn ∷ path) s begins own is = absurd (none-some own
      (subst (λ z. supply_at (turn ∷ path) z ≡ Some own) start-supply is))

  -- what is balanced so far is what a table begins with
  pub start-so-far : (count : ℕ) (path : Path) (s : Spending) → (first_of b).given ≡ count
      → IsSoFar count path supply s → MayHaveSpent (first_of b) path s
  start-so-far count path s given so_far = record {
    given = λ e. so_far.entry (e ∙ start-root) ∙ sym given;
    used = λ e.
        let here : supply_at path supply ≡ Some supply =
        ap (λ z. supply_at z supply) (e ∙ start-root) in
        let used = so_far.balanced supply here in
        let same : length (left_in supply) ≡ length (numbers first.supply) =
        ap (λ z. length (left_in z)) start-supply in omega arith;
  }

-- One part of those that the list of events leads to
module _ (laws : PartLaws) (b : Begun) (marks : List Mark) (parts : List TimedPart)
    (contents : List (Option Content))
    (history : (c : Config) → BeganAt b c
    → History (program_in b) (opening_parts b) c marks (untimed parts) (present contents))
    (grants : Grants b marks parts) (a : TimedPart) (here : Contains parts a)
    (empty : (tree : Supply) → Supplied (untimed parts) tree → (u : Supply)
    → supply_at a.part.task tree ≡ Some u → left_in u ≡ [])
    (c : Config) (began : BeganAt b c) where
  drains-spends : (supply : Supply) → Supplied (opening_parts b) supply → (s : Spending)
      → MayHaveSpent (first_of b) a.part.task s
      → SpendingFrom (program_in b) a.part.task c supply s (events_of marks)
      (history c began).config (record { given = a.given; used = a.given })
  unfolding NumberedListsAreCounted CountedListsAreNumbered CountsStayBalanced
  drains-spends supply supplied s begins =
      let p = program_in b in
      let path = a.part.task in
      let h = history c began in
      let (rest, n, left_units) = h.numbered supply supplied in
      let (last, k) = laws.counted p path c h.config supply rest s (events_of marks) n in
      let spent = (laws.numbered p path c h.config supply rest s last (events_of marks) k).1 in
      let given = grants.given c began supply supplied s last h.config a here begins spent in
      let balanced = laws.balanced p path c h.config supply rest s last (events_of marks) k
      (start-divided b c began supply supplied)
      (start-balanced b c began supply supplied path s begins) in
      let (u, is, share) = shares-there (untimed parts) rest a.part left_units
      (has-map (λ (z : TimedPart). z.part) parts a here) in
      let all = balanced u is in
      let none : length (left_in u) ≡ 0 = ap length (empty rest left_units u is) in
      let used : last.used ≡ a.given = omega arith in
      let same : last ≡ record { given = a.given; used = a.given } =
      λ i. record { given = given i; used = used i } in
      subst (λ z. SpendingFrom p path c supply s (events_of marks) h.config z) same spent

  pub drains-part : (at : Task) → task_at a.part.task (history c began).config.tasks ≡ Some at
      → (HasEnded a.part.task at → ⊥) → NeedsNoChild at → Drains b a.part.task a.given marks c
  drains-part at there going alone = record {
    arrives = history-arrives (program_in b) (opening_parts b) c marks (untimed parts)
        (present contents) (history c began);
    spends = drains-spends;
    at = at;
    there = there;
    going = going;
    alone = alone;
  }

-- a task that waits hasn't ended
waits-going : (path : Path) (frames : List Frame) (one two : Task)
    → HasEnded path (waits frames one two) → ⊥
waits-going [] frames one two h = h
waits-going (turn ∷ path) frames one two h = h

-- below one that waits stand its children
child-at : (turn : Turn) (path : Path) (tree : Task) (frames : List Frame) (one two : Task)
    → task_at path tree ≡ Some (waits frames one two)
    → task_at (path ++ turn ∷ []) tree ≡ task_at (turn ∷ []) (waits frames one two)
child-at turn [] tree frames one two e =
    ap (task_at (turn ∷ [])) (same_Some tree (waits frames one two) e)
child-at turn (left ∷ path) (waits fs x y) frames one two e = child-at turn path x frames one two e
child-at turn (right ∷ path) (waits fs x y) frames one two e = child-at turn path y frames one two e
child-at turn (left ∷ path) (runs fs) frames one two e = absurd (none-some _ e)
child-at turn (right ∷ path) (runs fs) frames one two e = absurd (none-some _ e)

-- and their supplies
lent-at : (turn : Turn) (path : Path) (tree one two : Supply)
    → supply_at path tree ≡ Some (lent one two)
    → supply_at (path ++ turn ∷ []) tree ≡ supply_at (turn ∷ []) (lent one two)
lent-at turn [] tree one two e = ap (supply_at (turn ∷ [])) (same_Some tree (lent one two) e)
lent-at turn (left ∷ path) (lent x y) one two e = lent-at turn path x one two e
lent-at turn (right ∷ path) (lent x y) one two e = lent-at turn path y one two e
lent-at turn (next ∷ path) (has us) one two e = absurd (none-some (lent one two) e)

nil-both : (xs ys : List ℕ) → xs ++ ys ≡ [] → (xs ≡ []) × (ys ≡ [])
nil-both [] ys e = (refl, e)
nil-both (x ∷ xs) ys e = absurd (let h = ap length e in omega arith)

-- A view's task that would go on
module _ (laws : PartLaws) (b : Begun) (s : State Slot View) (law : Law b s) (id : ℕ) (v : View)
    (at : get_elem? s.views id ≡ some v) (live : v.live ≡ true) where
  abbrev a : TimedPart
  a = part_of v.part

  abbrev q : Rule b law.marks s
  q = law.rule

  begun-is : v.begun ≡ b
  begun-is = (q.each id v at live).begun

  mine : Contains (parts_in s.views) a
  mine = subst (λ z. Contains z a) (sym (parts-at s.views id v (cut s.views id v at) live))
      (has-middle (parts_in (cut s.views id v at).before)
      ((holding v).kids ++ parts_in (cut s.views id v at).after) a)

  running-empty : IsSpent a → (tree : Supply) → Supplied (untimed (parts_in s.views)) tree
      → (u : Supply) → supply_at a.part.task tree ≡ Some u → left_in u ≡ []
  running-empty ((frames, stand, going), none) tree supplied u is =
      let (w, here, share) = shares-there (untimed (parts_in s.views)) tree a.part supplied
      (has-map (λ (z : TimedPart). z.part) (parts_in s.views) a mine) in
      let all = shares-running w (numbers a.part.supply)
      (share ∙ ap (λ z. share_in z (numbers a.part.supply)) stand) in
      ap left_in (same_Some u w (sym is ∙ here) ∙ all) ∙ none

  pub drained-running : IsSpent a → IsDrained v.begun a
  unfolding RunningPartsRun
  drained-running spent = subst (λ z. IsDrained z a) (sym begun-is) (record {
    marks = law.marks;
    drains = λ c began.
        let h = q.history c began in
        let frames = spent.0.0 in
        drains-part laws b law.marks (parts_in s.views) q.contents q.history q.grants a mine
        (running-empty spent) c began (runs frames)
        (laws.run (untimed (parts_in (cut s.views id v at).before))
        (untimed ((holding v).kids ++ parts_in (cut s.views id v at).after)) a.part
        (present q.contents) h.config frames
        (focused laws s.views (present q.contents) h.config h.whole id v at live) spent.0.1)
        spent.0.2 tt;
  })

  -- or waits for two children that have ended
  module _ (one two : Part) (kids : v.kids ≡ one ∷ two ∷ [])
      (spent : AreSpent a (part_of one) (part_of two)) where
    abbrev front : List TimedPart
    front = parts_in (cut s.views id v at).before

    abbrev back : List TimedPart
    back = parts_in (cut s.views id v at).after

    abbrev three-list : List TimedPart
    three-list = front ++ a ∷ part_of one ∷ part_of two ∷ back

    listed : parts_in s.views ≡ three-list
    listed = three-are laws b law.marks s q id v at live one two kids

    first-there : Contains (parts_in s.views) (part_of one)
    first-there = subst (λ z. Contains z (part_of one)) (sym listed)
        (second-three front back a (part_of one) (part_of two))

    second-there : Contains (parts_in s.views) (part_of two)
    second-there = subst (λ z. Contains z (part_of two)) (sym listed)
        (third-three front back a (part_of one) (part_of two))

    -- an ended child's supply
    child-empty : (tree : Supply) → Supplied (untimed (parts_in s.views)) tree → (k : TimedPart)
        → Contains (parts_in s.views) k → k.part.stand ≡ running [] → numbers k.part.supply ≡ []
        → (u : Supply) → supply_at k.part.task tree ≡ Some u → left_in u ≡ []
    child-empty tree supplied k there over none u is =
        let (w, here, share) = shares-there (untimed (parts_in s.views)) tree k.part supplied
        (has-map (λ (z : TimedPart). z.part) (parts_in s.views) k there) in
        let all = shares-running w (numbers k.part.supply)
        (share ∙ ap (λ z. share_in z (numbers k.part.supply)) over) in
        ap left_in (same_Some u w (sym is ∙ here) ∙ all) ∙ none

    waiting-empty : (frames : List Frame) → a.part.stand ≡ waiting frames → (tree : Supply)
        → Supplied (untimed (parts_in s.views)) tree → (u : Supply)
        → supply_at a.part.task tree ≡ Some u → left_in u ≡ []
    waiting-empty frames stand tree supplied u is =
        let (w, here, share) = shares-there (untimed (parts_in s.views)) tree a.part supplied
        (has-map (λ (z : TimedPart). z.part) (parts_in s.views) a mine) in
        let (x, y, lends) = shares-waiting w
        (share ∙ ap (λ z. share_in z (numbers a.part.supply)) stand) in
        let at_lent : supply_at a.part.task tree ≡ Some (lent x y) = here ∙ ap Some lends in
        let both = nil-both (numbers (part_of one).part.supply) (numbers (part_of two).part.supply)
        spent.none in
        let l = child-empty tree supplied (part_of one) first-there spent.left_ended both.0 x
        (ap (λ z. supply_at z tree) spent.left.task ∙ lent-at left a.part.task tree x y at_lent) in
        let r = child-empty tree supplied (part_of two) second-there spent.right_ended both.1 y
        (ap (λ z. supply_at z tree) spent.right.task ∙ lent-at right a.part.task tree x y at_lent) in
        ap left_in (same_Some u w (sym is ∙ here) ∙ lends) ∙ (λ i. l i ++ r i)

    module _ (c : Config) (began : BeganAt b c) where
      abbrev h : History (program_in b) (opening_parts b) c law.marks (untimed (parts_in s.views))
          (present q.contents)
      h = q.history c began

      three-whole : Whole (untimed front ++ a.part ∷ (part_of one).part ∷ (part_of two).part
          ∷ untimed back) (present q.contents) h.config
      three-whole = subst (λ z. Whole z (present q.contents) h.config)
          (ap untimed listed ∙ map-append (λ (z : TimedPart). z.part) front
          (a ∷ part_of one ∷ part_of two ∷ back)) h.whole

      -- each child runs no frame
      left-over : task_at (part_of one).part.task h.config.tasks ≡ Some (runs [])
      unfolding RunningPartsRun
      left-over = laws.run (untimed front ++ a.part ∷ [])
          ((part_of two).part ∷ untimed back) (part_of one).part (present q.contents) h.config []
          (subst (λ z. Whole z (present q.contents) h.config)
          (sym (Rattle.std.proofs.Common.append_assoc (untimed front) (a.part ∷ [])
          ((part_of one).part ∷ (part_of two).part ∷ untimed back))) three-whole) spent.left_ended

      right-over : task_at (part_of two).part.task h.config.tasks ≡ Some (runs [])
      unfolding RunningPartsRun
      right-over = laws.run (untimed front ++ a.part ∷ (part_of one).part ∷ [])
          (untimed back) (part_of two).part (present q.contents) h.config []
          (subst (λ z. Whole z (present q.contents) h.config)
          (sym (Rattle.std.proofs.Common.append_assoc (untimed front)
          (a.part ∷ (part_of one).part ∷ []) ((part_of two).part ∷ untimed back))) three-whole)
          spent.right_ended

      drains-waiting : (stand : Stand) → a.part.stand ≡ stand
          → Drains b a.part.task a.given law.marks c
      unfolding PartsInAnyOrder WaitingPartsWait
      drains-waiting (running frames) is = absurd (task-childless laws a.part
          (untimed front ++ (part_of one).part ∷ (part_of two).part ∷ untimed back)
          (present q.contents) h.config (part_of one).part frames left
          ((laws.order (untimed front) ((part_of one).part ∷ (part_of two).part ∷ untimed back)
          a.part (present q.contents) h.config).0 three-whole) is
          (has-middle (untimed front) ((part_of two).part ∷ untimed back) (part_of one).part)
          spent.left.task)
      drains-waiting (waiting frames) is =
          let (x, y, there) = laws.wait (untimed front)
          ((part_of one).part ∷ (part_of two).part ∷ untimed back) a.part (present q.contents)
          h.config frames three-whole is in
          let l : x ≡ runs [] = same_Some x (runs [])
          (sym (child-at left a.part.task h.config.tasks frames x y there)
          ∙ (ap (λ z. task_at z h.config.tasks) (sym spent.left.task) ∙ left-over)) in
          let r : y ≡ runs [] = same_Some y (runs [])
          (sym (child-at right a.part.task h.config.tasks frames x y there)
          ∙ (ap (λ z. task_at z h.config.tasks) (sym spent.right.task) ∙ right-over)) in
          drains-part laws b law.marks (parts_in s.views) q.contents q.history q.grants a mine
          (waiting-empty frames is) c began (waits frames x y) there
          (waits-going a.part.task frames x y)
          (subst IsOver (sym l) tt, subst IsOver (sym r) tt)

    pub drained-waiting : IsDrained v.begun a
    drained-waiting = subst (λ z. IsDrained z a) (sym begun-is) (record {
      marks = law.marks;
      drains = λ c began. drains-waiting c began a.part.stand refl;
    })

-- a task that is drained has spent its steps, from the start on
pub drained-steps : SpentTasksHaveSpentSteps → DrainedTasksHaveSpentSteps
unfolding SpentTasksHaveSpentSteps DrainedTasksHaveSpentSteps
drained-steps spent b start c base count used path supply before divided numbered began supplied
    given drained =
    let d = drained.drains c began in
    spent (program_in b) start c d.arrives.config base count used path supply before
    (events_of drained.marks) d.at divided numbered
    (λ s so_far. d.spends supply supplied s
    (start-so-far b c began supply supplied count path s given so_far))
    d.there d.going d.alone
