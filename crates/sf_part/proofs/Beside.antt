-- A part beside others that make up what is shared with it, and a step of it among them.
-- Names: `beside-LAW`; `spent-LAW` speaks of the units that are left, `takes-LAW` of those that an
-- event takes.
use Rattle.std.specs.Prelude.{◌≡◌, ◌≢◌, ℕ, ◌+◌, ◌*◌, ◌≤◌, ◌/◌, ◌==◌, false, List, [], ◌∷◌, ◌++◌, length, take, drop, map, Some, None, Contains}
use Rattle.std.specs.List.{AllByRecursion}
use Rattle.std.proofs.Common.{sym, ap, ap₂, ◌∙◌, refl, subst, inl, inr, arith}
use Rattle.std.proofs.lemmas.List.{length-drop, length-take, take-append-drop}
use Rattle.sf_base.proofs.HeapSplits.{at-self}
use Rattle.sf_base.specs.declared.ids.ResId.{ResId}
use Rattle.sf_base.specs.HeapStore.{own}
use Rattle.sf_core.specs.Checked.Machine.Laws.{Makes, Moves}
use Rattle.sf_core.specs.Machine.Config.{Task, Common, Config, task_at, put_task, adds}
use Rattle.sf_core.specs.Machine.Enabled.{cell}
use Rattle.sf_core.specs.Machine.Next.{Next, does, leaves, returns, joins, nothing, next}
use Rattle.sf_core.specs.Machine.Step.{Event, TaskStep, Step}
use Rattle.sf_core.specs.Machine.Supplies.{Supply, has, lent, TakesNext, CommandTakes, NextTakes}
use Rattle.sf_core.specs.Machine.Whole.{Part, Content, holders, numbers, supplies, IsUnion, IsUnused}
use Rattle.sf_core.specs.Program.Syntax.{Command, assign, look_up, mutate, new, dispose, if, while, call, fork, with, Program}
use Rattle.sf_core.proofs.Machine.Decided.{moves-or_not}
use Rattle.sf_core.proofs.Machine.Runs.{adds-other}
use Rattle.sf_part.specs.Steps.{Acts, IsFork}
use Rattle.sf_part.proofs.Acts.{acts-step}
use Rattle.sf_part.proofs.Order.{part_heap, part_store, content_heap, content_store}
use Rattle.sf_part.proofs.Supplies.{contains-count, count-append, count-cons, count-contains, one_if, times}

-- the part and what the others and the contents have are what is shared
pub record Beside (m : Part) (others : List Part) (contents : List Content) (s : Common) : Type 0
  where
    pub heap : IsUnion s.heap (m.heap ∷ map part_heap others ++ map content_heap contents)
    pub store : IsUnion s.store (m.store ∷ map part_store others ++ map content_store contents)
    pub held : IsUnion s.held (holders m ∷ map holders others)

-- the step of the whole, with the part after it beside the others
pub record Stepped (p : Program) (ev : Event) (n : Part) (from to : Task) (others : List Part)
    (contents : List Content)
    (c : Config) : Type 0 where
  pub after : Common
  pub steps : TaskStep p ev c.common from after to
  pub beside : Beside n others contents after
  pub kept : (r : ResId) → (Moves p (next from) r → ⊥) → after.held r ≡ c.common.held r
  pub moved : (r : ResId) → Moves p (next from) r → after.held r ≡ holders n r
  pub unused : (k : ℕ) → k ≢ ev.number → IsUnused c k
      → (after.heap k ≡ None) × ((i : ℕ) → after.store (own k i) ≡ None)

pub beside-step : (p : Program) (ev : Event) (m n : Part) (from to : Task) (others : List Part)
    (contents : List Content) (c : Config) → Acts p ev m n from to
    → Beside m others contents c.common
    → IsUnused c ev.number → ((location : ℕ) → Makes p ev (next from) (cell location)
    → location ≡ ev.number)
    → ((r : ResId) → Moves p (next from) r → holders m r ≡ c.common.held r)
    → Stepped p ev n from to others contents c
beside-step p ev m n from to others contents c acts b number at hands =
    let (cells, h, hs) = b.heap in
    let (variables, s, ss) = b.store in
    let (holds, r, rs) = b.held in
    let x = acts-step p ev m n from to acts c cells variables holds h s r number at hands in
    record {
      after = x.after;
      steps = x.steps;
      beside = record {
        heap = (cells, x.heap, hs);
        store = (variables, x.store, ss);
        held = (holds, x.held, rs);
      };
      kept = x.kept;
      moved = x.moved;
      unused = x.unused;
    }

-- the configuration after an event
abbrev pub next_config : Config → Event → Common → Task → Config
next_config c ev after to = record {
  common = after;
  used = adds ev.number c.used;
  tasks = put_task ev.task to c.tasks;
}

-- the step to it
pub next-step : (p : Program) (ev : Event) (c : Config) (from to : Task) (after : Common)
    → c.used ev.number ≡ false
    → task_at ev.task c.tasks ≡ Some from → TaskStep p ev c.common from after to
    → Step p ev c (next_config c ev after to)
next-step p ev c from to after fresh there steps = record {
  fresh = fresh;
  used = refl;
  from = from;
  to = to;
  there = there;
  steps = steps;
  tasks = refl;
}

-- Units no number is more often in the new supplies than in the old ones, and the event's is there
-- once less
abbrev pub Spent : Event → (olds news : List Part) → Type 0
Spent ev olds news = (n : ℕ) → times n (supplies news) + one_if (ev.number == n) ≤ times n
    (supplies olds)

-- the event's number was unused
pub spent-number : (ev : Event) (olds news : List Part) (c : Config) → Spent ev olds news
    → ((n : ℕ) → Contains (supplies olds) n → IsUnused c n) → IsUnused c ev.number
spent-number ev olds news c spent unused =
    let s = spent ev.number in
    let e : one_if (ev.number == ev.number) ≡ 1 = ap one_if (at-self ev.number) in
    unused ev.number (contains-count ev.number (supplies olds) (omega arith))

-- no number is twice in the new supplies
pub spent-once : (ev : Event) (olds news : List Part) → Spent ev olds news
    → ((n : ℕ) → times n (supplies olds) ≤ 1) → (n : ℕ) → times n (supplies news) ≤ 1
spent-once ev olds news spent once n = let s = spent n in let o = once n in omega arith

-- and none of them is used
pub spent-unused : (ev : Event) (olds news : List Part) (c : Config) (after : Common) (to : Task)
    → Spent ev olds news
    → ((n : ℕ) → times n (supplies olds) ≤ 1)
    → ((n : ℕ) → Contains (supplies olds) n → IsUnused c n)
    → ((k : ℕ) → k ≢ ev.number → IsUnused c k → (after.heap k ≡ None)
    × ((i : ℕ) → after.store (own k i) ≡ None))
    → (n : ℕ) → Contains (supplies news) n → IsUnused (next_config c ev after to) n
spent-unused ev olds news c after to spent once unused stays n h =
    let there = count-contains n (supplies news) h in
    let s = spent n in
    let o = once n in
    let u = unused n (contains-count n (supplies olds) (omega arith)) in
    let other : n ≢ ev.number = λ e. (
    let k : one_if (ev.number == n) ≡ 1 = ap (λ z. one_if (ev.number == z)) e
    ∙ ap one_if (at-self ev.number) in
    absurd (omega arith)) in
    let k = stays n other u in
    record { used = adds-other n ev.number c.used other u.used; heap = k.0; store = k.1 }

-- what is taken is the first
pub takes-next : (n : ℕ) (us rest : List ℕ) → TakesNext n us rest → us ≡ n ∷ rest
takes-next n [] rest t = absurd t
takes-next n (u ∷ us) rest (e, h) = ap₂ (λ x xs. x ∷ xs) (sym e) (sym h)

takes-has : (n : ℕ) (us vs rest : List ℕ) → TakesNext n us rest → has vs ≡ has rest → us ≡ n ∷ vs
takes-has n us vs rest t e = let h : vs ≡ rest = cc in takes-next n us rest t
    ∙ ap (λ z. n ∷ z) (sym h)

-- the event of a command other than a parallel call takes the first unit, and leaves the others
takes-command : (ev : Event) (c : Command) (us vs : List ℕ) → CommandTakes ev c (has us) (has vs)
    → us ≡ ev.number ∷ vs
takes-command ev (fork place c d) us vs (rest, t, e) = absurd (cc)
takes-command ev (new place x) us vs (rest, t, e, at, fields) = takes-has ev.number us vs rest t e
takes-command ev (assign place x e) us vs (rest, t, h) = takes-has ev.number us vs rest t h
takes-command ev (look_up place x e g) us vs (rest, t, h) = takes-has ev.number us vs rest t h
takes-command ev (mutate place e g v) us vs (rest, t, h) = takes-has ev.number us vs rest t h
takes-command ev (dispose place e) us vs (rest, t, h) = takes-has ev.number us vs rest t h
takes-command ev (if place test this that) us vs (rest, t, h) = takes-has ev.number us vs rest t h
takes-command ev (while place test kept body) us vs (rest, t, h) = takes-has ev.number us vs rest t
    h
takes-command ev (call place c) us vs (rest, t, h) = takes-has ev.number us vs rest t h
takes-command ev (with place r test body) us vs (rest, t, h) = takes-has ev.number us vs rest t h

-- so does every other event of one part that goes on
pub takes-one : (ev : Event) (what : Next) (us vs : List ℕ) → NextTakes ev what (has us) (has vs)
    → us ≡ ev.number ∷ vs
takes-one ev (does f below c rest) us vs t = takes-command ev c us vs t
takes-one ev (leaves f below r rest) us vs (left, t, e) = takes-has ev.number us vs left t e
takes-one ev (returns f below) us vs (left, t, e) = takes-has ev.number us vs left t e
takes-one ev (joins frames one two) us vs (left, t, e) = takes-has ev.number us vs left t e
takes-one ev nothing us vs t = absurd t

-- a join takes the first of what the children have left
pub takes-join : (ev : Event) (what : Next) (us ws vs : List ℕ)
    → NextTakes ev what (lent (has us) (has ws)) (has vs)
    → us ++ ws ≡ ev.number ∷ vs
takes-join ev (does f below (fork place c d) rest) us ws vs (left, t, e) = absurd (cc)
takes-join ev (does f below (new place x) rest) us ws vs (left, t, e, at, fields) =
    takes-has ev.number (us ++ ws) vs left t e
takes-join ev (does f below (assign place x e) rest) us ws vs (left, t, h) =
    takes-has ev.number (us ++ ws) vs left t h
takes-join ev (does f below (look_up place x e g) rest) us ws vs (left, t, h) =
    takes-has ev.number (us ++ ws) vs left t h
takes-join ev (does f below (mutate place e g v) rest) us ws vs (left, t, h) =
    takes-has ev.number (us ++ ws) vs left t h
takes-join ev (does f below (dispose place e) rest) us ws vs (left, t, h) =
    takes-has ev.number (us ++ ws) vs left t h
takes-join ev (does f below (if place test this that) rest) us ws vs (left, t, h) =
    takes-has ev.number (us ++ ws) vs left t h
takes-join ev (does f below (while place test kept body) rest) us ws vs (left, t, h) =
    takes-has ev.number (us ++ ws) vs left t h
takes-join ev (does f below (call place c) rest) us ws vs (left, t, h) =
    takes-has ev.number (us ++ ws) vs left t h
takes-join ev (does f below (with place r test body) rest) us ws vs (left, t, h) =
    takes-has ev.number (us ++ ws) vs left t h
takes-join ev (leaves f below r rest) us ws vs (left, t, e) = takes-has ev.number (us ++ ws) vs left
    t e
takes-join ev (returns f below) us ws vs (left, t, e) = takes-has ev.number (us ++ ws) vs left t e
takes-join ev (joins frames one two) us ws vs (left, t, e) = takes-has ev.number (us ++ ws) vs left
    t e
takes-join ev nothing us ws vs t = absurd t

-- a fork takes the first, and the children have the others
pub takes-fork : (ev : Event) (what : Next) (us ws vs : List ℕ) → IsFork what
    → NextTakes ev what (has us) (lent (has ws) (has vs)) → us ≡ ev.number ∷ (ws ++ vs)
takes-fork ev what us ws vs (f, below, place, one, two, rest, is) t =
    let (left, s, e) = subst (λ z. NextTakes ev z (has us) (lent (has ws) (has vs))) is t in
    let a : ws ≡ take (length left / 2) left = cc in
    let b : vs ≡ drop (length left / 2) left = cc in
    takes-next ev.number us left s
    ∙ ap (λ z. ev.number ∷ z) (sym (ap₂ (λ x y. x ++ y) a b
    ∙ take-append-drop (length left / 2) left))

-- and each child has at most half of them
pub takes-halves : (ev : Event) (what : Next) (us ws vs : List ℕ) → IsFork what
    → NextTakes ev what (has us) (lent (has ws) (has vs))
    → (2 * length ws ≤ length us) × (2 * length vs ≤ length us)
takes-halves ev what us ws vs (f, below, place, one, two, rest, is) t =
    let (left, s, e) = subst (λ z. NextTakes ev z (has us) (lent (has ws) (has vs))) is t in
    let a : ws ≡ take (length left / 2) left = cc in
    let b : vs ≡ drop (length left / 2) left = cc in
    let all = ap length (takes-next ev.number us left s) in
    let c = ap length a ∙ length-take (length left / 2) left in
    let d = ap length b ∙ length-drop (length left / 2) left in
    (omega (arith, all, c), omega (arith, all, d))

-- a cell that an event makes is at its number
pub takes-at : (p : Program) (ev : Event) (what : Next) (before after : Supply)
    → NextTakes ev what before after
    → (location : ℕ) → Makes p ev what (cell location) → location ≡ ev.number
takes-at p ev (does f below (new place x) rest) before after (left, t, e, at, fields) location m =
    let same : location ≡ ev.at = cc in same ∙ at
takes-at p ev (does f below (call place c) rest) before after t location (g, e, i) = absurd i
takes-at p ev (does f below (fork place c d) rest) before after t location (g, h, e, k, m) =
    elim m [ inl i ↦ absurd i | inr i ↦ absurd i ]
takes-at p ev (does f below _ rest) before after t location m = absurd m
takes-at p ev (leaves f below r rest) before after t location m = absurd m
takes-at p ev (returns f below) before after t location m = absurd m
takes-at p ev (joins frames one two) before after t location m = absurd m
takes-at p ev nothing before after t location m = absurd m

-- a part of which one unit is spent, beside the same others
pub spent-one : (ev : Event) (a b : Part) (others : List Part) → numbers a.supply ≡ ev.number
    ∷ numbers b.supply
    → Spent ev (a ∷ others) (b ∷ others)
spent-one ev a b others e n =
    let p = count-append n (numbers a.supply) (supplies others) in
    let q = count-append n (numbers b.supply) (supplies others) in
    let r = ap (times n) e ∙ count-cons n ev.number (numbers b.supply) in
    omega arith

-- Contents
-- what holds of each content, with what follows from it at each
pub all-map : (P Q : Content → Type 0) (contents : List Content) → ((k : Content) → P k → Q k)
    → AllByRecursion P contents → AllByRecursion Q contents
all-map P Q [] f h = tt
all-map P Q (k ∷ contents) f (x, h) = (f k x, all-map P Q contents f h)

-- contents of free resources stay so, where what is moved is free afterwards
pub free-after : (p : Program) (what : Next) (s t : Common) (contents : List Content)
    → ((r : ResId) → (Moves p what r → ⊥) → t.held r ≡ s.held r)
    → ((r : ResId) → Moves p what r → t.held r ≡ None)
    → AllByRecursion (λ (k : Content). s.held k.resource ≡ None) contents
    → AllByRecursion (λ (k : Content). t.held k.resource ≡ None) contents
free-after p what s t contents kept moved free =
    all-map (λ (k : Content). s.held k.resource ≡ None) (λ (k : Content). t.held k.resource ≡ None)
    contents (λ k e. stays k e) free
  where
    stays : (k : Content) → s.held k.resource ≡ None → t.held k.resource ≡ None
    stays k e = elim (moves-or_not p what k.resource) [
      | inl m ↦ moved k.resource m
      | inr n ↦ kept k.resource n ∙ e
    ]
