-- What a part tells of the whole that it belongs to.
-- Names: each lemma has the name of the law's function; `test-LAW` speaks of what a test sees.
use Rattle.std.proofs.lemmas.List.Elements.{Contains-append_left}
use Rattle.sf_part.proofs.Supplies.{contains-count, count-append, count-contains}
use Rattle.sf_part.proofs.Leads.{order-three}
use Rattle.std.specs.Prelude.{◌≡◌, cond, List, [], ◌∷◌, ◌++◌, length, map, Option, Some, None}
use Rattle.std.specs.Option.{option_map}
use Rattle.std.proofs.Common.{sym, ap, ◌∙◌, refl, subst, inl, inr, arith}
use Rattle.std.proofs.lemmas.Bool.{cases_lt, le-ltb}
use Rattle.std.proofs.lemmas.Option.{none-some, same_Some}
use Rattle.sf_base.proofs.MapSplits.{splits-has_left, splits-has_right, splits-lacks_right, union, splits-assoc_left, splits-lacks_both}
use Rattle.sf_base.specs.declared.ids.Var.{Var}
use Rattle.sf_base.specs.HeapStore.{Slot, Store, own}
use Rattle.sf_core.specs.declared.assertion.Test.{Test}
use Rattle.sf_core.specs.declared.assertion.Test.TheVariants.{True, Equal, Differ}
use Rattle.sf_core.specs.declared.command.Expr.{Expr}
use Rattle.sf_core.specs.Assertions.Sat.{IsTrueOf}
use Rattle.sf_core.specs.Machine.Config.{Frame, Task, runs, Path, evaluate, task_at}
use Rattle.sf_core.specs.Machine.Enabled.{variable, ReadsTest}
use Rattle.sf_core.specs.Machine.Whole.{Stand, stand_of, stands, own_stand, numbers, supplies, Whole}
use Rattle.sf_core.proofs.Machine.InOrder.Regions.{regions-past}
use Rattle.sf_core.proofs.Machine.InOrder.Starts.{reach-keeps, start-in_order}
use Rattle.sf_core.proofs.Machine.Locality.{evaluate-same}
use Rattle.sf_core.proofs.Machine.Tasks.{task_at-running}
use Rattle.sf_part.specs.Checked.LawsOfWhole.{ConditionsAreSeenAlike, HeldAreOfTheProgram, PartsHold, RunningEntriesAreAlone, RunningPartsRun, WaitingPartsWait, ContentsAreApart, ChildrenAreApart}
use Rattle.sf_part.proofs.Order.{content_store, part_store, whole-focus, whole-focus_content, content_heap, part_heap, whole-unfocus}
use Rattle.sf_part.proofs.Tasks.{stand-waits, tasks-runs}
use Rattle.sf_part.proofs.Trees.{entry-here}
use Rattle.sf_part.proofs.Unions.{union-join, union-second, union-take}

pub running_parts_run : RunningPartsRun
unfolding RunningPartsRun
running_parts_run before after a contents c frames w e =
    tasks-runs c.tasks a (map own_stand (before ++ after)) frames
    (whole-focus before after a contents c w).tasks e

pub waiting_parts_wait : WaitingPartsWait
unfolding WaitingPartsWait
waiting_parts_wait before after a contents c frames w e =
    let v = whole-focus before after a contents c w in
    stand-waits (task_at a.task c.tasks) frames
    (splits-has_left a.task a.stand v.tasks.1 (entry-here a.task a.stand) ∙ ap Some e)

-- what is found in a tree of one task is found at its root
found-at : (frames : List Frame) (path : Path) (s : Stand) → stands (runs frames) path ≡ Some s
    → path ≡ []
found-at frames path s e = go (task_at path (runs frames)) refl e
  where
    go : (o : Option Task) → task_at path (runs frames) ≡ o → option_map stand_of o ≡ Some s
        → path ≡ []
    go None is h = absurd (none-some s h)
    go (Some t) is h = task_at-running path frames t is

pub running_entries_are_alone : RunningEntriesAreAlone
unfolding RunningEntriesAreAlone
running_entries_are_alone a [] contents c frames w top e = refl
running_entries_are_alone a (b ∷ others) contents c frames w top e =
    let (x, s, (y, t, u)) = w.tasks in
    let root : task_at [] c.tasks ≡ Some (runs frames) =
    subst (λ z. task_at z c.tasks ≡ Some (runs frames)) top
    (tasks-runs c.tasks a (map own_stand (b ∷ others)) frames w.tasks e) in
    let tree : c.tasks ≡ runs frames = same_Some c.tasks (runs frames) root in
    let there : x b.task ≡ Some b.stand = splits-has_left b.task b.stand t
    (entry-here b.task b.stand) in
    let at_root : b.task ≡ [] = found-at frames b.task b.stand
    (sym (ap (λ z. stands z b.task) tree) ∙ splits-has_right b.task b.stand s there) in
    let gone : x a.task ≡ None = splits-lacks_right a.task a.stand s (entry-here a.task a.stand) in
    absurd (none-some b.stand (sym gone ∙ ap x (top ∙ sym at_root) ∙ there))

pub parts_hold : PartsHold
unfolding PartsHold
parts_hold before after a contents c r w h =
    splits-has_left r a.task (whole-focus before after a contents c w).held.1
    (ap (λ b. cond b (Some a.task) None) h)

-- a test is true in both of two stores that have the same in the slots that it reads
test-alike : (slots : Var → Slot) (one two : Store) (test : Test Expr)
    → ((slot : Slot) → ReadsTest slots test (variable slot) → one slot ≡ two slot)
    → IsTrueOf (evaluate slots one) test → IsTrueOf (evaluate slots two) test
test-alike slots one two True h t = tt
test-alike slots one two (Equal x y) h t =
    sym (evaluate-same slots one two x (λ slot r. h slot (inl r))) ∙ t
    ∙ evaluate-same slots one two y (λ slot r. h slot (inr r))
test-alike slots one two (Differ x y) h t = λ e. t
    (evaluate-same slots one two x (λ slot r. h slot (inl r)) ∙ e
    ∙ sym (evaluate-same slots one two y (λ slot r. h slot (inr r))))

pub conditions_are_seen_alike : ConditionsAreSeenAlike
unfolding ConditionsAreSeenAlike
conditions_are_seen_alike before after a both earlier later k c slots test w hand has =
    let others = before ++ after in
    let contents = earlier ++ later in
    let v = whole-focus_content (a ∷ others) earlier later k c
    (whole-focus before after a (earlier ++ k ∷ later) c w) in
    let u = union-join c.common.store both.store a.store k.store
    (map part_store others ++ map content_store contents)
    hand.store (union-second a.store (map part_store others) k.store (map content_store contents)
    c.common.store
    v.store) in
    let same : (slot : Slot) → ReadsTest slots test (variable slot)
    → both.store slot ≡ c.common.store slot = λ slot r. (
    let (x, e) = has slot r in e ∙ sym (splits-has_left slot x u.1 e)) in (
      test-alike slots both.store c.common.store test same,
      test-alike slots c.common.store both.store test (λ slot r. sym (same slot r)),
    )

pub held_are_of_the_program : HeldAreOfTheProgram
unfolding HeldAreOfTheProgram
held_are_of_the_program p f store heap start c events formed s reach r path h =
    let o = reach-keeps p s.procedure events start c formed
    (start-in_order p f store heap start formed s) reach in
    elim (cases_lt r.0 (length p.resources)) [
      | inl t ↦ t
      | inr t ↦
          let one = o.inside r path h in
          let none = regions-past p c.tasks o.formed r (le-ltb r.0 (length p.resources) t) path in
          absurd (omega arith)
    ]

pub contents_are_apart : ContentsAreApart
unfolding ContentsAreApart
contents_are_apart before after a earlier later k c w =
    let others = before ++ after in
    let contents = earlier ++ later in
    let v = whole-focus_content (a ∷ others) earlier later k c
    (whole-focus before after a (earlier ++ k ∷ later) c w) in
    let (x, s, (y, t, u)) = union-second a.heap (map part_heap others) k.heap
    (map content_heap contents) c.common.heap v.heap in
    let (d, f, (g, h, i)) = union-second a.store (map part_store others) k.store
    (map content_store contents) c.common.store v.store in (
      (
        record a { heap = union a.heap k.heap; store = union a.store k.store },
        record {
          task = refl;
          stand = refl;
          holds = refl;
          supply = refl;
          heap = (splits-assoc_left t s).0;
          store = (splits-assoc_left h f).0;
        },
      ),
      λ n here.
          let unused = v.unused n
          (Contains-append_left (numbers a.supply) (supplies others) n here) in (
            (splits-lacks_both n t (splits-lacks_both n s unused.heap).1).0,
            λ j. (splits-lacks_both (own n j) h
                (splits-lacks_both (own n j) f (unused.store j)).1).0,
          ),
    )

pub children_are_apart : ChildrenAreApart
unfolding ChildrenAreApart
children_are_apart before after a one two contents c w l r =
    let others = before ++ after in
    let v = order-three (λ parts. Whole parts contents c)
    (λ x y z k. whole-focus x y z contents c k)
    (λ x y z k. whole-unfocus x y z contents c k) before after a one two w in
    let (heap, hs, (x, p, u)) = union-take (a.heap ∷ one.heap ∷ two.heap ∷ [])
    (map part_heap others ++ map content_heap contents) c.common.heap v.heap in
    let (store, ss, (y, q, t)) = union-take (a.store ∷ one.store ∷ two.store ∷ [])
    (map part_store others ++ map content_store contents) c.common.store v.store in (
      record a { heap = heap; store = store },
      record {
        task = refl;
        stand = refl;
        holds = refl;
        heap = hs;
        store = ss;
        left_one = l;
        right_one = r;
      },
      λ n i j.
          let once = v.once n in
          let first = count-contains n (numbers one.supply) i in
          let second = count-contains n (numbers two.supply) j in
          let b = count-append n (numbers a.supply) (supplies (one ∷ two ∷ others)) in
          let d = count-append n (numbers one.supply) (supplies (two ∷ others)) in
          let e = count-append n (numbers two.supply) (supplies others) in
          absurd (omega arith),
      λ n h.
          let there = count-contains n (numbers one.supply ++ numbers two.supply) h in
          let k = count-append n (numbers one.supply) (numbers two.supply) in
          let b = count-append n (numbers a.supply) (supplies (one ∷ two ∷ others)) in
          let d = count-append n (numbers one.supply) (supplies (two ∷ others)) in
          let e = count-append n (numbers two.supply) (supplies others) in
          let unused = v.unused n (contains-count n (supplies (a ∷ one ∷ two ∷ others))
          (omega arith)) in (
            (splits-lacks_both n p unused.heap).0,
            λ j. (splits-lacks_both (own n j) q (unused.store j)).0,
          ),
    )
