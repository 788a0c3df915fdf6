-- Forks and joins are steps, with what goes to the children and comes back from them.
-- Names: `fork-LAW`, `join-LAW`, `child-LAW` of parts that hold nothing.
use Rattle.std.specs.Prelude.{◌≡◌, Bool, cond, false, List, [], ◌∷◌, ◌++◌, map, Some, None}
use Rattle.std.proofs.Common.{sym, ap, ◌∙◌, subst, arith}
use Rattle.sf_base.proofs.MapSplits.{splits-empty_left, splits-of_empty_left}
use Rattle.sf_base.specs.declared.ids.ResId.{ResId}
use Rattle.sf_base.specs.declared.path.Turn.TheVariants.{Left as left, Right as right}
use Rattle.sf_base.specs.HeapStore.{IsEmpty, Map, Splits}
use Rattle.sf_core.specs.Checked.Machine.Laws.{Moves}
use Rattle.sf_core.specs.Machine.Config.{Task, runs, waits, Config, task_at, put_task}
use Rattle.sf_core.specs.Machine.Next.{Next, next}
use Rattle.sf_core.specs.Machine.Step.{Event}
use Rattle.sf_core.specs.Machine.Supplies.{has, lent}
use Rattle.sf_core.specs.Machine.Whole.{Part, Content, holders, numbers, own_stand, stands, supplies, IsUnion, Whole}
use Rattle.sf_core.specs.Program.Syntax.{Program}
use Rattle.sf_part.specs.Steps.{Forks, HasChildren, IsFork, Joins}
use Rattle.sf_part.specs.Timed.{TimedPart}
use Rattle.sf_part.proofs.Beside.{beside-step, free-after, next-step, next_config, Spent, spent-number, spent-once, spent-unused, takes-at, takes-fork, takes-join}
use Rattle.sf_part.proofs.Leads.{Single, leads-along, leads-one, order-three, order-three_back, supplied-focus, supplied-unfocus}
use Rattle.sf_part.proofs.Shares.{shares-fork, shares-join}
use Rattle.sf_part.specs.Checked.Laws.{Leads}
use Rattle.sf_part.specs.Supplied.{Supplied}
use Rattle.sf_part.proofs.Order.{content_heap, content_store, part_heap, part_store, whole-focus, whole-unfocus}
use Rattle.sf_part.proofs.Supplies.{count-append, count-cons, times}
use Rattle.sf_part.proofs.Tasks.{own-task, tasks-ended, tasks-fork, tasks-join}
use Rattle.sf_part.proofs.Unions.{union-gather, union-open}

-- a part that holds no resource
child-none : (a : Part) → a.holds ≡ (λ r. false) → IsEmpty (holders a)
child-none a h = record { none = λ r. ap (λ (f : ResId → Bool). cond (f r) (Some a.task) None) h }

-- a parent holds what the part with all that its children have does
child-holders : (b one two all : Part) → HasChildren b one two all → holders all ≡ holders b
child-holders b one two all h = λ i. λ r. cond (h.holds i r) (Some (h.task i)) None

-- maps with two that are empty
module _ {K X : Type 0} where
  union-empty : (w u v x : Map K X) (more : List (Map K X)) → IsEmpty v → IsEmpty x
      → IsUnion w (u ∷ more)
      → IsUnion w (u ∷ v ∷ x ∷ more)
  union-empty w u v x more e f (rest, s, m) =
      (rest, s, (rest, splits-empty_left e, (rest, splits-empty_left f, m)))

  union-no_empty : (w u v x : Map K X) (more : List (Map K X)) → IsEmpty v → IsEmpty x
      → IsUnion w (u ∷ v ∷ x ∷ more)
      → IsUnion w (u ∷ more)
  union-no_empty w u v x more e f (a, s, (b, t, (d, y, m))) =
      (d, subst (λ z. Splits w u z) (splits-of_empty_left e t ∙ splits-of_empty_left f y) s, m)

fork-still : (p : Program) (what : Next) (r : ResId) → IsFork what → Moves p what r → ⊥
fork-still p what r (f, below, place, one, two, rest, is) m = subst (λ z. Moves p z r) is m

-- the units of a fork
fork-spent : (ev : Event) (a b one two : Part) (others : List Part)
    → numbers a.supply ≡ ev.number ∷ (numbers one.supply ++ numbers two.supply)
    → numbers b.supply ≡ []
    → Spent ev (a ∷ others) (b ∷ one ∷ two ∷ others)
fork-spent ev a b one two others e none n =
    let p = count-append n (numbers a.supply) (supplies others) in
    let q = ap (times n) e ∙ count-cons n ev.number (numbers one.supply ++ numbers two.supply) in
    let r = count-append n (numbers one.supply) (numbers two.supply) in
    let s = count-append n (numbers b.supply) (supplies (one ∷ two ∷ others)) in
    let t : times n (numbers b.supply) ≡ 0 = ap (times n) none in
    let u = count-append n (numbers one.supply) (supplies (two ∷ others)) in
    let v = count-append n (numbers two.supply) (supplies others) in
    omega arith

-- the units of a join
join-spent : (ev : Event) (a one two b : Part) (others : List Part)
    → numbers one.supply ++ numbers two.supply ≡ ev.number ∷ numbers b.supply
    → Spent ev (a ∷ one ∷ two ∷ others) (b ∷ others)
join-spent ev a one two b others e n =
    let p = count-append n (numbers b.supply) (supplies others) in
    let q = ap (times n) e ∙ count-cons n ev.number (numbers b.supply) in
    let r = count-append n (numbers one.supply) (numbers two.supply) in
    let s = count-append n (numbers a.supply) (supplies (one ∷ two ∷ others)) in
    let u = count-append n (numbers one.supply) (supplies (two ∷ others)) in
    let v = count-append n (numbers two.supply) (supplies others) in
    omega arith

-- the fork of the first part is a step
pub fork-step : (p : Program) (ev : Event) (a b one two : TimedPart) (others : List Part)
    (contents : List Content)
    (c : Config) → Forks p ev a b one two → Whole (a.part ∷ others) contents c
    → Single p ev c (a.part ∷ others) (b.part ∷ one.part ∷ two.part ∷ others) contents
fork-step p ev a b one two others contents c e w =
    let what = next (runs e.frames) in
    let to : Task = waits e.kept (runs e.left_frames) (runs e.right_frames) in
    let olds = a.part ∷ others in
    let news = b.part ∷ one.part ∷ two.part ∷ others in
    let units = takes-fork ev what (numbers a.part.supply) (numbers one.part.supply)
    (numbers two.part.supply) e.fork
    e.spends in
    let spent = fork-spent ev a.part b.part one.part two.part others units e.none_left in
    let number = spent-number ev olds news c spent w.unused in
    let still = λ (r : ResId) (m : Moves p what r). fork-still p what r e.fork m in
    let s = beside-step p ev a.part e.all (runs e.frames) to others contents c e.acts
    (record { heap = w.heap; store = w.store; held = w.held }) number
    (takes-at p ev what (has (numbers a.part.supply))
    (lent (has (numbers one.part.supply)) (has (numbers two.part.supply))) e.spends)
    (λ r m. absurd (still r m)) in
    let task = sym e.children.task ∙ e.acts.task in
    let there = (own-task c.tasks a.part (map own_stand others) e.frames e.acts.own w.tasks
    e.acts.from_is).0 in
    record {
      config = next_config c ev s.after to;
      step = next-step p ev c (runs e.frames) to s.after number.used there s.steps;
      whole = record {
        tasks = subst (λ z. IsUnion (stands (put_task z to c.tasks)) (map own_stand news))
            (sym e.acts.own)
            (tasks-fork c.tasks a.part b.part one.part two.part (map own_stand others) e.frames
            e.kept e.left_frames
            e.right_frames w.tasks e.acts.from_is task (sym e.children.stand ∙ e.acts.to_is)
            (e.children.left_one.task ∙ ap (λ z. z ++ left ∷ []) task) e.left_begins.stand
            (e.children.right_one.task ∙ ap (λ z. z ++ right ∷ []) task) e.right_begins.stand);
        heap = union-open (b.part.heap ∷ one.part.heap ∷ two.part.heap ∷ [])
            (map part_heap others ++ map content_heap contents) s.after.heap e.all.heap
            e.children.heap s.beside.heap;
        store = union-open (b.part.store ∷ one.part.store ∷ two.part.store ∷ [])
            (map part_store others ++ map content_store contents) s.after.store e.all.store
            e.children.store
            s.beside.store;
        held = union-empty s.after.held (holders b.part) (holders one.part) (holders two.part)
            (map holders others)
            (child-none one.part e.children.left_one.holds)
            (child-none two.part e.children.right_one.holds)
            (subst (λ z. IsUnion s.after.held (z ∷ map holders others))
            (child-holders b.part one.part two.part e.all e.children) s.beside.held);
        free = free-after p what c.common s.after contents s.kept (λ r m. absurd (still r m))
            w.free;
        different = w.different;
        once = spent-once ev olds news spent w.once;
        unused = spent-unused ev olds news c s.after to spent w.once w.unused s.unused;
      };
      takes = shares-fork ev c a.part b.part one.part two.part others e.frames e.kept e.left_frames
          e.right_frames e.acts.own
          there e.spends e.acts.from_is task (sym e.children.stand ∙ e.acts.to_is)
          (e.children.left_one.task ∙ ap (λ z. z ++ left ∷ []) task) e.left_begins.stand
          (e.children.right_one.task ∙ ap (λ z. z ++ right ∷ []) task) e.right_begins.stand;
    }

-- the join of the second and the third part by the first is a step
pub join-step : (p : Program) (ev : Event) (a one two b : TimedPart) (others : List Part)
    (contents : List Content)
    (c : Config) → Joins p ev a one two b → Whole (a.part ∷ one.part ∷ two.part ∷ others) contents c
    → Single p ev c (a.part ∷ one.part ∷ two.part ∷ others) (b.part ∷ others) contents
join-step p ev a one two b others contents c e w =
    let from : Task = waits e.frames (runs []) (runs []) in
    let what = next from in
    let olds = a.part ∷ one.part ∷ two.part ∷ others in
    let news = b.part ∷ others in
    let units = takes-join ev what (numbers one.part.supply) (numbers two.part.supply)
    (numbers b.part.supply) e.spends in
    let spent = join-spent ev a.part one.part two.part b.part others units in
    let number = spent-number ev olds news c spent w.unused in
    let s = beside-step p ev e.all b.part from (runs e.kept) others contents c e.acts
    (record {
      heap = union-gather (a.part.heap ∷ one.part.heap ∷ two.part.heap ∷ [])
          (map part_heap others ++ map content_heap contents) c.common.heap e.all.heap
          e.children.heap w.heap;
      store = union-gather (a.part.store ∷ one.part.store ∷ two.part.store ∷ [])
          (map part_store others ++ map content_store contents) c.common.store e.all.store
          e.children.store w.store;
      held = subst (λ z. IsUnion c.common.held (z ∷ map holders others))
          (sym (child-holders a.part one.part two.part e.all e.children))
          (union-no_empty c.common.held (holders a.part) (holders one.part) (holders two.part)
          (map holders others)
          (child-none one.part e.children.left_one.holds)
          (child-none two.part e.children.right_one.holds) w.held);
    }) number
    (takes-at p ev what (lent (has (numbers one.part.supply)) (has (numbers two.part.supply)))
    (has (numbers b.part.supply)) e.spends) (λ r m. absurd m) in
    let own = e.acts.own ∙ e.children.task in
    let from_is = sym e.children.stand ∙ e.acts.from_is in
    let there = subst (λ z. task_at z c.tasks ≡ Some from) (sym own)
    (tasks-ended c.tasks a.part one.part two.part (map own_stand others) e.frames w.tasks from_is
    e.children.left_one.task e.left_ended e.children.right_one.task e.right_ended) in
    record {
      config = next_config c ev s.after (runs e.kept);
      step = next-step p ev c from (runs e.kept) s.after number.used there s.steps;
      whole = record {
        tasks = subst (λ z. IsUnion (stands (put_task z (runs e.kept) c.tasks))
            (own_stand b.part ∷ map own_stand others))
            (sym own)
            (tasks-join c.tasks a.part one.part two.part b.part (map own_stand others) e.frames
            e.kept w.tasks from_is
            e.children.left_one.task e.left_ended e.children.right_one.task e.right_ended
            (e.acts.task ∙ e.children.task) e.acts.to_is);
        heap = s.beside.heap;
        store = s.beside.store;
        held = s.beside.held;
        free = free-after p what c.common s.after contents s.kept (λ r m. absurd m) w.free;
        different = w.different;
        once = spent-once ev olds news spent w.once;
        unused = spent-unused ev olds news c s.after (runs e.kept) spent w.once w.unused s.unused;
      };
      takes = shares-join ev c a.part one.part two.part b.part others e.frames e.kept own there
          e.spends from_is
          e.children.left_one.task e.left_ended e.children.right_one.task e.right_ended
          (e.acts.task ∙ e.children.task) e.acts.to_is;
    }

-- the fork of a part in the middle
pub forks-lead : (p : Program) (ev : Event) (a b one two : TimedPart) (before after : List Part)
    (contents : List Content) (c : Config) → Forks p ev a b one two
    → Whole (before ++ a.part ∷ after) contents c
    → Leads p (ev ∷ []) c (before ++ a.part ∷ after)
    (before ++ b.part ∷ one.part ∷ two.part ∷ after) contents
forks-lead p ev a b one two before after contents c e w =
    leads-along p (ev ∷ []) c (a.part ∷ before ++ after) (before ++ a.part ∷ after)
    (b.part ∷ one.part ∷ two.part ∷ before ++ after)
    (before ++ b.part ∷ one.part ∷ two.part ∷ after) contents contents
    (λ s h. supplied-focus s before after a.part h)
    (λ s h. order-three_back (λ parts. Supplied parts s) (supplied-focus s) (supplied-unfocus s)
    before after b.part
    one.part two.part h)
    (λ d h. order-three_back (λ parts. Whole parts contents d)
    (λ x y z k. whole-focus x y z contents d k)
    (λ x y z k. whole-unfocus x y z contents d k) before after b.part one.part two.part h)
    (leads-one p ev c (a.part ∷ before ++ after) (b.part ∷ one.part ∷ two.part ∷ before ++ after)
    contents
    (fork-step p ev a b one two (before ++ after) contents c e
    (whole-focus before after a.part contents c w)))

-- and its join
pub joins-lead : (p : Program) (ev : Event) (a one two b : TimedPart) (before after : List Part)
    (contents : List Content) (c : Config) → Joins p ev a one two b
    → Whole (before ++ a.part ∷ one.part ∷ two.part ∷ after) contents c
    → Leads p (ev ∷ []) c (before ++ a.part ∷ one.part ∷ two.part ∷ after)
    (before ++ b.part ∷ after) contents
joins-lead p ev a one two b before after contents c e w =
    leads-along p (ev ∷ []) c (a.part ∷ one.part ∷ two.part ∷ before ++ after)
    (before ++ a.part ∷ one.part ∷ two.part ∷ after) (b.part ∷ before ++ after)
    (before ++ b.part ∷ after) contents
    contents
    (λ s h. order-three (λ parts. Supplied parts s) (supplied-focus s) (supplied-unfocus s) before
    after a.part one.part
    two.part h)
    (λ s h. supplied-unfocus s before after b.part h)
    (λ d h. whole-unfocus before after b.part contents d h)
    (leads-one p ev c (a.part ∷ one.part ∷ two.part ∷ before ++ after) (b.part ∷ before ++ after)
    contents
    (join-step p ev a one two b (before ++ after) contents c e
    (order-three (λ parts. Whole parts contents c) (λ x y z k. whole-focus x y z contents c k)
    (λ x y z k. whole-unfocus x y z contents c k) before after a.part one.part two.part w)))
