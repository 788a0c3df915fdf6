-- Entries of regions and exits from them are steps, with the content that is taken in or left
-- behind.
-- Names: `entry-LAW`, `exit-LAW`, `hand-LAW` of a part with a content in hand, `count-LAW` of
-- contents of a resource.
use Rattle.std.specs.Prelude.{◌≡◌, ◌≤◌, ◌==◌, Bool, cond, true, false, List, [], ◌∷◌, ◌++◌, map, Option, Some, None}
use Rattle.std.specs.List.{AllByRecursion}
use Rattle.std.proofs.Common.{true≢false, sym, ap, ◌∙◌, refl, subst, arith}
use Rattle.std.proofs.lemmas.Option.{none-some}
use Rattle.sf_base.proofs.HeapSplits.{at-self}
use Rattle.sf_base.proofs.MapSplits.{splits-has_left}
use Rattle.sf_base.proofs.StoreSplits.{resource-same}
use Rattle.sf_base.specs.declared.ids.ResId.{ResId}
use Rattle.sf_core.specs.Checked.Machine.Laws.{HolderChanges, Moves}
use Rattle.sf_core.specs.Machine.Config.{runs, Path, Common, Config}
use Rattle.sf_core.specs.Machine.Next.{Next, next}
use Rattle.sf_core.specs.Machine.Step.{Event}
use Rattle.sf_core.specs.Machine.Supplies.{has, NextTakes}
use Rattle.sf_core.specs.Machine.Whole.{Part, Content, holders, numbers, own_stand, IsUnion, Whole}
use Rattle.sf_core.specs.Program.Syntax.{Program}
use Rattle.sf_core.proofs.Machine.Steps.{moved-by_next}
use Rattle.sf_part.specs.Steps.{common_of, Enters, Exits, HasInHand, IsEntry, IsExit}
use Rattle.sf_part.specs.Timed.{TimedContent, TimedPart}
use Rattle.sf_part.proofs.Beside.{beside-step, free-after, next-step, next_config, spent-number, spent-once, spent-one, spent-unused, takes-at, takes-one}
use Rattle.sf_part.proofs.Leads.{Single, leads-along, leads-one, supplied-focus, supplied-unfocus}
use Rattle.sf_part.proofs.Shares.{shares-run}
use Rattle.sf_part.specs.Checked.Laws.{Leads}
use Rattle.sf_part.proofs.Order.{content_heap, content_store, of_resource, of_resource-cons, part_heap, part_store, whole-focus, whole-focus_content, whole-unfocus, whole-unfocus_content}
use Rattle.sf_part.proofs.Supplies.{one_if}
use Rattle.sf_part.proofs.Tasks.{own-task}
use Rattle.sf_part.proofs.Unions.{union-join, union-part, union-second, union-unsecond}

-- Contents of a resource
-- where none counts, each is of another
count-other : (q : ResId) (contents : List Content) → of_resource q contents ≡ 0
    → AllByRecursion (λ (k : Content). (k.resource.0 == q.0) ≡ false) contents
count-other q [] e = tt
count-other q (k ∷ contents) e =
    let s = of_resource-cons q k contents in
    (is_false (k.resource.0 == q.0) (omega arith), count-other q contents (omega arith))
  where
    is_false : (b : Bool) → one_if b ≡ 0 → b ≡ false
    is_false true h = absurd (omega arith)
    is_false false h = refl

-- where all are of free resources, none is of one that is held
pub count-held : (q : ResId) (path : Path) (s : Common) (contents : List Content)
    → s.held q ≡ Some path
    → AllByRecursion (λ (k : Content). s.held k.resource ≡ None) contents
    → of_resource q contents ≡ 0
count-held q path s [] e free = refl
count-held q path s (k ∷ contents) e (f, free) =
    let more = count-held q path s contents e free in
    let sum = of_resource-cons q k contents in
    let none : one_if (k.resource.0 == q.0) ≡ 0 = go (k.resource.0 == q.0) refl in
    omega arith
  where
    go : (b : Bool) → (k.resource.0 == q.0) ≡ b → one_if b ≡ 0
    go true h = absurd (none-some path (sym f ∙ ap s.held (resource-same k.resource q h) ∙ e))
    go false h = refl

-- what follows at each content from two facts
all-map_two : (P Q R : Content → Type 0) (contents : List Content)
    → ((k : Content) → P k → Q k → R k)
    → AllByRecursion P contents → AllByRecursion Q contents → AllByRecursion R contents
all-map_two P Q R [] f h g = tt
all-map_two P Q R (k ∷ contents) f (x, h) (y, g) = (f k x y, all-map_two P Q R contents f h g)

-- What moves
entry-moves : (p : Program) (what : Next) (q r : ResId) → IsEntry what q → Moves p what r → r ≡ q
entry-moves p what q r (f, below, place, test, body, rest, is) m = subst (λ z. Moves p z r) is m

entry-moved : (p : Program) (what : Next) (q : ResId) → IsEntry what q → Moves p what q
entry-moved p what q (f, below, place, test, body, rest, is) = subst (λ z. Moves p z q) (sym is)
    refl

entry-changes : (what : Next) (q : ResId) (path : Path) (x y : Option Path) → IsEntry what q
    → HolderChanges path what x y → (x ≡ None) × (y ≡ Some path)
entry-changes what q path x y (f, below, place, test, body, rest, is) h =
    let k = subst (λ z. HolderChanges path z x y) is h in (k.0, k.1)

exit-moves : (p : Program) (what : Next) (q r : ResId) → IsExit what q → Moves p what r → r ≡ q
exit-moves p what q r (f, below, rest, is) m = subst (λ z. Moves p z r) is m

exit-moved : (p : Program) (what : Next) (q : ResId) → IsExit what q → Moves p what q
exit-moved p what q (f, below, rest, is) = subst (λ z. Moves p z q) (sym is) refl

exit-changes : (what : Next) (q : ResId) (path : Path) (x y : Option Path) → IsExit what q
    → HolderChanges path what x y → (x ≡ Some path) × (y ≡ None)
exit-changes what q path x y (f, below, rest, is) h =
    let k = subst (λ z. HolderChanges path z x y) is h in (k.0, k.1)

-- a part with a content in hand holds the same resources
pub hand-holders : (a : Part) (k : Content) (both : Part) → HasInHand a k both
    → holders both ≡ holders a
hand-holders a k both h = λ i. λ r. cond (h.holds i r) (Some (h.task i)) None

-- the entry of a region by the first part, with the first content, is a step
pub entry-step : (p : Program) (ev : Event) (a b : TimedPart) (k : TimedContent)
    (others : List Part)
    (contents : List Content) (c : Config) → Enters p ev a k b
    → Whole (a.part ∷ others) (k.content ∷ contents) c
    → Single p ev c (a.part ∷ others) (b.part ∷ others) contents
entry-step p ev a b k others contents c e w =
    let what = next (runs e.frames) in
    let q = k.content.resource in
    let units = takes-one ev what (numbers a.part.supply) (numbers b.part.supply) e.spends in
    let spent = spent-one ev a.part b.part others units in
    let number = spent-number ev (a.part ∷ others) (b.part ∷ others) c spent w.unused in
    let same = hand-holders a.part k.content e.both e.hand in
    let hands : (r : ResId) → Moves p what r → holders e.both r ≡ c.common.held r = λ r m. (
    let change = entry-changes what q ev.task (holders e.both r) (holders b.part r) e.entry
    (moved-by_next p ev (common_of e.both) (common_of b.part) what (runs e.kept) e.acts.steps r m)
    in
    change.0 ∙ sym (ap c.common.held (entry-moves p what q r e.entry m) ∙ w.free.0)) in
    let s = beside-step p ev e.both b.part (runs e.frames) (runs e.kept) others contents c e.acts
    (record {
      heap = union-join c.common.heap e.both.heap a.part.heap k.content.heap
          (map part_heap others ++ map content_heap contents) e.hand.heap
          (union-second a.part.heap (map part_heap others) k.content.heap
          (map content_heap contents) c.common.heap
          w.heap);
      store = union-join c.common.store e.both.store a.part.store k.content.store
          (map part_store others ++ map content_store contents) e.hand.store
          (union-second a.part.store (map part_store others) k.content.store
          (map content_store contents)
          c.common.store w.store);
      held = subst (λ z. IsUnion c.common.held (z ∷ map holders others)) (sym same) w.held;
    }) number
    (takes-at p ev what (has (numbers a.part.supply)) (has (numbers b.part.supply)) e.spends) hands
    in
    let own = e.acts.own ∙ e.hand.task in
    let from_is = sym e.hand.stand ∙ e.acts.from_is in
    let none : of_resource q contents ≡ 0 = only_one (w.different q) in
    let here = own-task c.tasks a.part (map own_stand others) e.frames own w.tasks
    from_is in
    record {
      config = next_config c ev s.after (runs e.kept);
      step = next-step p ev c (runs e.frames) (runs e.kept) s.after number.used here.0 s.steps;
      whole = record {
        tasks = here.1 b.part e.kept (e.acts.task ∙ e.hand.task) e.acts.to_is;
        heap = s.beside.heap;
        store = s.beside.store;
        held = s.beside.held;
        free = all-map_two (λ (j : Content). c.common.held j.resource ≡ None)
            (λ (j : Content). (j.resource.0 == q.0) ≡ false)
            (λ (j : Content). s.after.held j.resource ≡ None) contents
            (λ j f n. s.kept j.resource (λ m. true≢false (sym (ap (λ (z : ResId). z.0 == q.0)
            (entry-moves p what q j.resource e.entry m) ∙ at-self q.0) ∙ n)) ∙ f) w.free.1
            (count-other q contents none);
        different = λ r. fewer r (w.different r);
        once = spent-once ev (a.part ∷ others) (b.part ∷ others) spent w.once;
        unused = spent-unused ev (a.part ∷ others) (b.part ∷ others) c s.after (runs e.kept) spent
            w.once w.unused
            s.unused;
      };
      takes = shares-run ev c a.part b.part others e.frames e.kept own here.0 e.spends from_is
          (e.acts.task ∙ e.hand.task) e.acts.to_is;
    }
  where
    only_one : of_resource k.content.resource (k.content ∷ contents) ≤ 1
        → of_resource k.content.resource contents ≡ 0
    only_one h =
        let s = of_resource-cons k.content.resource k.content contents in
        let e : one_if (k.content.resource.0 == k.content.resource.0) ≡ 1 =
        ap one_if (at-self k.content.resource.0) in
        omega arith

    fewer : (r : ResId) → of_resource r (k.content ∷ contents) ≤ 1 → of_resource r contents ≤ 1
    fewer r h = let s = of_resource-cons r k.content contents in omega arith

-- the exit of the first part from a region, which leaves the first content behind, is a step
pub exit-step : (p : Program) (ev : Event) (a b : TimedPart) (k : TimedContent) (others : List Part)
    (contents : List Content) (c : Config) → Exits p ev a k b → Whole (a.part ∷ others) contents c
    → Single p ev c (a.part ∷ others) (b.part ∷ others) (k.content ∷ contents)
exit-step p ev a b k others contents c e w =
    let what = next (runs e.frames) in
    let q = k.content.resource in
    let units : numbers a.part.supply ≡ ev.number ∷ numbers b.part.supply =
    takes-one ev what (numbers a.part.supply) (numbers e.both.supply) e.spends
    ∙ ap (λ z. ev.number ∷ numbers z) e.hand.supply in
    let spent = spent-one ev a.part b.part others units in
    let number = spent-number ev (a.part ∷ others) (b.part ∷ others) c spent w.unused in
    let same = hand-holders b.part k.content e.both e.hand in
    let changes = λ (r : ResId) (m : Moves p what r). exit-changes what q ev.task (holders a.part r)
    (holders e.both r) e.exit
    (moved-by_next p ev (common_of a.part) (common_of e.both) what (runs e.kept) e.acts.steps r m)
    in
    let hands : (r : ResId) → Moves p what r → holders a.part r ≡ c.common.held r = λ r m.
    (changes r m).0 ∙ sym (splits-has_left r ev.task w.held.1 (changes r m).0) in
    let s = beside-step p ev a.part e.both (runs e.frames) (runs e.kept) others contents c e.acts
    (record { heap = w.heap; store = w.store; held = w.held }) number
    (takes-at p ev what (has (numbers a.part.supply)) (has (numbers e.both.supply)) e.spends) hands
    in
    let moved = exit-moved p what q e.exit in
    let freed = λ (r : ResId) (m : Moves p what r). s.moved r m ∙ (changes r m).1 in
    let none = count-held q ev.task c.common contents (sym (hands q moved) ∙ (changes q moved).0)
    w.free in
    let here = own-task c.tasks a.part (map own_stand others) e.frames e.acts.own w.tasks
    e.acts.from_is in
    record {
      config = next_config c ev s.after (runs e.kept);
      step = next-step p ev c (runs e.frames) (runs e.kept) s.after number.used here.0 s.steps;
      whole = record {
        tasks = here.1 b.part e.kept (sym e.hand.task ∙ e.acts.task)
            (sym e.hand.stand ∙ e.acts.to_is);
        heap = union-unsecond b.part.heap (map part_heap others) k.content.heap
            (map content_heap contents) s.after.heap
            (union-part s.after.heap e.both.heap b.part.heap k.content.heap
            (map part_heap others ++ map content_heap contents) e.hand.heap s.beside.heap);
        store = union-unsecond b.part.store (map part_store others) k.content.store
            (map content_store contents)
            s.after.store
            (union-part s.after.store e.both.store b.part.store k.content.store
            (map part_store others ++ map content_store contents) e.hand.store s.beside.store);
        held = subst (λ z. IsUnion s.after.held (z ∷ map holders others)) same s.beside.held;
        free = (freed q moved, free-after p what c.common s.after contents s.kept freed w.free);
        different = λ r. more r none (w.different r);
        once = spent-once ev (a.part ∷ others) (b.part ∷ others) spent w.once;
        unused = spent-unused ev (a.part ∷ others) (b.part ∷ others) c s.after (runs e.kept) spent
            w.once w.unused
            s.unused;
      };
      takes = shares-run ev c a.part b.part others e.frames e.kept e.acts.own here.0
          (subst (λ z. NextTakes ev what (has (numbers a.part.supply)) (has (numbers z)))
          e.hand.supply e.spends)
          e.acts.from_is (sym e.hand.task ∙ e.acts.task) (sym e.hand.stand ∙ e.acts.to_is);
    }
  where
    more : (r : ResId) → of_resource k.content.resource contents ≡ 0 → of_resource r contents ≤ 1
        → of_resource r (k.content ∷ contents) ≤ 1
    more r none h = go (k.content.resource.0 == r.0) refl
      where
        go : (b : Bool) → (k.content.resource.0 == r.0) ≡ b
            → of_resource r (k.content ∷ contents) ≤ 1
        go true e =
            let s = of_resource-cons r k.content contents in
            let z : of_resource r contents ≡ 0 =
            subst (λ q. of_resource q contents ≡ 0) (resource-same k.content.resource r e) none in
            let o : one_if (k.content.resource.0 == r.0) ≡ 1 = ap one_if e in
            omega arith
        go false e =
            let s = of_resource-cons r k.content contents in
            let o : one_if (k.content.resource.0 == r.0) ≡ 0 = ap one_if e in
            omega arith

-- entries by a part in the middle, with a content in the middle
pub entries-lead : (p : Program) (ev : Event) (a b : TimedPart) (k : TimedContent)
    (before after : List Part)
    (earlier later : List Content) (c : Config) → Enters p ev a k b
    → Whole (before ++ a.part ∷ after) (earlier ++ k.content ∷ later) c
    → Leads p (ev ∷ []) c (before ++ a.part ∷ after) (before ++ b.part ∷ after) (earlier ++ later)
entries-lead p ev a b k before after earlier later c e w =
    leads-along p (ev ∷ []) c (a.part ∷ before ++ after) (before ++ a.part ∷ after)
    (b.part ∷ before ++ after)
    (before ++ b.part ∷ after) (earlier ++ later) (earlier ++ later)
    (λ s h. supplied-focus s before after a.part h)
    (λ s h. supplied-unfocus s before after b.part h)
    (λ d h. whole-unfocus before after b.part (earlier ++ later) d h)
    (leads-one p ev c (a.part ∷ before ++ after) (b.part ∷ before ++ after) (earlier ++ later)
    (entry-step p ev a b k (before ++ after) (earlier ++ later) c e
    (whole-focus_content (a.part ∷ before ++ after) earlier later k.content c
    (whole-focus before after a.part (earlier ++ k.content ∷ later) c w))))

-- exits of a part in the middle, with a content that comes into the middle
pub exits-lead : (p : Program) (ev : Event) (a b : TimedPart) (k : TimedContent)
    (before after : List Part)
    (earlier later : List Content) (c : Config) → Exits p ev a k b
    → Whole (before ++ a.part ∷ after) (earlier ++ later) c
    → Leads p (ev ∷ []) c (before ++ a.part ∷ after) (before ++ b.part ∷ after)
    (earlier ++ k.content ∷ later)
exits-lead p ev a b k before after earlier later c e w =
    leads-along p (ev ∷ []) c (a.part ∷ before ++ after) (before ++ a.part ∷ after)
    (b.part ∷ before ++ after)
    (before ++ b.part ∷ after) (k.content ∷ earlier ++ later) (earlier ++ k.content ∷ later)
    (λ s h. supplied-focus s before after a.part h)
    (λ s h. supplied-unfocus s before after b.part h)
    (λ d h. whole-unfocus before after b.part (earlier ++ k.content ∷ later) d
    (whole-unfocus_content (b.part ∷ before ++ after) earlier later k.content d h))
    (leads-one p ev c (a.part ∷ before ++ after) (b.part ∷ before ++ after)
    (k.content ∷ earlier ++ later)
    (exit-step p ev a b k (before ++ after) (earlier ++ later) c e
    (whole-focus before after a.part (earlier ++ later) c w)))
