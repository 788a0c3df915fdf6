-- The return of the procedure that sets the resources up is a step, which hands their contents out.
-- Names: `settle-LAW`; `out-LAW` speaks of what is handed out, `from-LAW` of contents of resources
-- in their order.
use Rattle.std.specs.Prelude.{◌≡◌, ◌⊎◌, ℕ, suc, ◌+◌, ◌<◌, ◌≤◌, ◌==◌, cond, List, [], ◌∷◌, ◌++◌, length, map, Option, Some, None}
use Rattle.std.specs.List.{AllByRecursion}
use Rattle.std.proofs.Common.{sym, ap, ◌∙◌, refl, subst, inl, inr, arith}
use Rattle.std.proofs.lemmas.Bool.{cases_lt}
use Rattle.std.proofs.lemmas.Bool.Decides.{eqb_tells}
use Rattle.sf_base.proofs.MapSplits.{splits-has_left, splits-lacks_both}
use Rattle.sf_base.specs.declared.ids.ResId.{ResId}
use Rattle.sf_core.specs.Checked.Machine.Laws.{HolderChanges, Moves}
use Rattle.sf_core.specs.Machine.Config.{runs, Path, Common, Config}
use Rattle.sf_core.specs.Machine.Next.{Next, does, leaves, returns, joins, nothing, next}
use Rattle.sf_core.specs.Machine.Step.{Event}
use Rattle.sf_core.specs.Machine.Supplies.{has, NextTakes}
use Rattle.sf_core.specs.Machine.Whole.{Part, Content, holders, numbers, own_stand, stands, IsUnion, Whole}
use Rattle.sf_core.specs.Program.Syntax.{Program}
use Rattle.sf_core.proofs.Machine.Steps.{moved-by_next}
use Rattle.sf_part.specs.Steps.{common_of, AreFrom, HandsOut, HasInHand, IsSettling, Settles}
use Rattle.sf_part.specs.Timed.{TimedContent, TimedPart, contents_of}
use Rattle.sf_part.proofs.Beside.{Beside, beside-step, next-step, next_config, spent-number, spent-once, spent-one, spent-unused, takes-at, takes-one}
use Rattle.sf_part.proofs.Leads.{Single, leads-along, leads-one, supplied-focus, supplied-unfocus}
use Rattle.sf_part.proofs.Shares.{shares-run}
use Rattle.sf_part.specs.Checked.Laws.{Leads}
use Rattle.sf_part.proofs.Order.{content_heap, content_store, of_resource, of_resource-cons, part_heap, part_store, whole-focus, whole-unfocus}
use Rattle.sf_part.proofs.Regions.{count-held, hand-holders}
use Rattle.sf_part.proofs.Supplies.{one_if}
use Rattle.sf_part.proofs.Tasks.{own-task}
use Rattle.sf_part.proofs.Unions.{union-focus_tail, union-part, union-unsecond}

-- What is handed out
-- one content
out-one : (less all : Part) (k : Content) (others : List Part) (contents : List Content)
    (s : Common)
    → HasInHand less k all → Beside all others contents s → Beside less others (k ∷ contents) s
out-one less all k others contents s h b = record {
  heap = union-unsecond less.heap (map part_heap others) k.heap (map content_heap contents) s.heap
      (union-part s.heap all.heap less.heap k.heap
      (map part_heap others ++ map content_heap contents) h.heap b.heap);
  store = union-unsecond less.store (map part_store others) k.store (map content_store contents)
      s.store
      (union-part s.store all.store less.store k.store
      (map part_store others ++ map content_store contents) h.store
      b.store);
  held = subst (λ z. IsUnion s.held (z ∷ map holders others)) (hand-holders less k all h) b.held;
}

-- a content in the middle may come first
out-focus : (m : Part) (others : List Part) (before : List Content) (k : Content)
    (after : List Content) (s : Common)
    → Beside m others (before ++ k ∷ after) s → Beside m others (k ∷ before ++ after) s
out-focus m others before k after s b = record {
  heap = union-focus_tail content_heap (m.heap ∷ map part_heap others) before k after s.heap b.heap;
  store = union-focus_tail content_store (m.store ∷ map part_store others) before k after s.store
      b.store;
  held = b.held;
}

-- all of them, before those that are there
out-all : (all rest : Part) (out : List TimedContent) (others : List Part) (contents : List Content)
    (s : Common)
    → HandsOut all out rest → Beside all others contents s
    → Beside rest others (contents_of out ++ contents) s
out-all all rest [] others contents s h b = subst (λ z. Beside z others contents s) (sym h) b
out-all all rest (k ∷ out) others contents s (less, h, hs) b =
    out-focus rest others (contents_of out) k.content contents s
    (out-all less rest out others (k.content ∷ contents) s hs
    (out-one less all k.content others contents s h b))

-- the task, how it stands, what it holds and its units stay
out-task : (all rest : Part) (out : List TimedContent) → HandsOut all out rest
    → all.task ≡ rest.task
out-task all rest [] h = ap (λ (z : Part). z.task) (sym h)
out-task all rest (k ∷ out) (less, h, hs) = h.task ∙ out-task less rest out hs

out-stand : (all rest : Part) (out : List TimedContent) → HandsOut all out rest
    → all.stand ≡ rest.stand
out-stand all rest [] h = ap (λ (z : Part). z.stand) (sym h)
out-stand all rest (k ∷ out) (less, h, hs) = h.stand ∙ out-stand less rest out hs

pub out-supply : (all rest : Part) (out : List TimedContent) → HandsOut all out rest
    → all.supply ≡ rest.supply
out-supply all rest [] h = ap (λ (z : Part). z.supply) (sym h)
out-supply all rest (k ∷ out) (less, h, hs) = h.supply ∙ out-supply less rest out hs

-- Contents in the order of their resources
-- one that is of another resource counts for none
other-resource : (r : ResId) (k : TimedContent) (out : List TimedContent)
    → (k.content.resource.0 ≡ r.0 → ⊥) → of_resource r (contents_of out) ≡ 0
    → of_resource r (contents_of (k ∷ out)) ≡ 0
other-resource r k out other h =
    let s = of_resource-cons r k.content (contents_of out) in
    elim (eqb_tells k.content.resource.0 r.0) [
      | inl t ↦ absurd (other t.1)
      | inr t ↦ let o : one_if (k.content.resource.0 == r.0) ≡ 0 = ap one_if t.0 in omega arith
    ]

from-low : (r : ResId) (n : ℕ) (out : List TimedContent) → AreFrom n out → r.0 < n
    → of_resource r (contents_of out) ≡ 0
from-low r n [] a l = refl
from-low r n (k ∷ out) (e, a) l =
    other-resource r k out (λ same. omega arith) (from-low r (suc n) out a (omega arith))

from-high : (r : ResId) (n : ℕ) (out : List TimedContent) → AreFrom n out → n + length out ≤ r.0
    → of_resource r (contents_of out) ≡ 0
from-high r n [] a l = refl
from-high r n (k ∷ out) (e, a) l =
    other-resource r k out (λ same. omega arith) (from-high r (suc n) out a (omega arith))

pub from-once : (r : ResId) (n : ℕ) (out : List TimedContent) → AreFrom n out
    → of_resource r (contents_of out) ≤ 1
from-once r n [] a = omega arith
from-once r n (k ∷ out) (e, a) =
    let s = of_resource-cons r k.content (contents_of out) in
    let h = from-once r (suc n) out a in
    elim (eqb_tells k.content.resource.0 r.0) [
      | inl t ↦
          let same : k.content.resource.0 ≡ r.0 = t.1 in
          let z = from-low r (suc n) out a (omega arith) in
          let o : one_if (k.content.resource.0 == r.0) ≡ 1 = ap one_if t.0 in omega arith
      | inr t ↦ let o : one_if (k.content.resource.0 == r.0) ≡ 0 = ap one_if t.0 in omega arith
    ]

of_resource-append : (r : ResId) (one two : List Content)
    → of_resource r (one ++ two) ≡ of_resource r one + of_resource r two
of_resource-append r [] two = omega arith
of_resource-append r (k ∷ one) two =
    let h = of_resource-append r one two in
    let s = of_resource-cons r k (one ++ two) in
    let t = of_resource-cons r k one in
    omega arith

all-hold : (P : Content → Type 0) (contents : List Content) → ((k : Content) → P k)
    → AllByRecursion P contents
all-hold P [] f = tt
all-hold P (k ∷ contents) f = (f k, all-hold P contents f)

-- What moves: every resource
settle-moves : (p : Program) (what : Next) (r : ResId) → IsSettling p what → Moves p what r
settle-moves p (does f below c rest) r h = absurd h
settle-moves p (leaves f below q rest) r h = absurd h
settle-moves p (returns f below) r h = h
settle-moves p (joins frames one two) r h = absurd h
settle-moves p nothing r h = absurd h

settle-frees : (p : Program) (what : Next) (path : Path) (x y : Option Path) → IsSettling p what
    → HolderChanges path what x y → y ≡ None
settle-frees p (does f below c rest) path x y h m = absurd h
settle-frees p (leaves f below q rest) path x y h m = absurd h
settle-frees p (returns f below) path x y h m = m
settle-frees p (joins frames one two) path x y h m = absurd h
settle-frees p nothing path x y h m = absurd h

-- the return of the first part's task is a step
settle-step : (p : Program) (ev : Event) (a b : TimedPart) (out : List TimedContent)
    (others : List Part)
    (contents : List Content) (c : Config) → Settles p ev a out b
    → ((r : ResId) (path : Path) → c.common.held r ≡ Some path → r.0 < length p.resources)
    → Whole (a.part ∷ others) contents c
    → Single p ev c (a.part ∷ others) (b.part ∷ others) (contents_of out ++ contents)
settle-step p ev a b out others contents c e known w =
    let what = next (runs e.frames) in
    let units : numbers a.part.supply ≡ ev.number ∷ numbers b.part.supply =
    takes-one ev what (numbers a.part.supply) (numbers e.all.supply) e.spends
    ∙ ap (λ z. ev.number ∷ numbers z) (out-supply e.all b.part out e.out) in
    let spent = spent-one ev a.part b.part others units in
    let number = spent-number ev (a.part ∷ others) (b.part ∷ others) c spent w.unused in
    let s = beside-step p ev a.part e.all (runs e.frames) (runs e.kept) others contents c e.acts
    (record { heap = w.heap; store = w.store; held = w.held }) number
    (takes-at p ev what (has (numbers a.part.supply)) (has (numbers e.all.supply)) e.spends)
    (λ r m. hands r (c.common.held r) refl) in
    let beside = out-all e.all b.part out others contents s.after e.out s.beside in
    let freed : (r : ResId) → s.after.held r ≡ None = λ r. (
    let m = settle-moves p what r e.settling in
    s.moved r m ∙ settle-frees p what ev.task (holders a.part r) (holders e.all r) e.settling
    (moved-by_next p ev (common_of a.part) (common_of e.all) what (runs e.kept) e.acts.steps r m))
    in
    let here = own-task c.tasks a.part (map own_stand others) e.frames e.acts.own w.tasks
    e.acts.from_is in
    record {
      config = next_config c ev s.after (runs e.kept);
      step = next-step p ev c (runs e.frames) (runs e.kept) s.after number.used here.0 s.steps;
      whole = record {
        tasks = here.1 b.part e.kept
            (sym (out-task e.all b.part out e.out) ∙ e.acts.task)
            (sym (out-stand e.all b.part out e.out) ∙ e.acts.to_is);
        heap = beside.heap;
        store = beside.store;
        held = beside.held;
        free = all-hold (λ (k : Content). s.after.held k.resource ≡ None)
            (contents_of out ++ contents) (λ k. freed k.resource);
        different = λ r. one_each r (cases_lt r.0 (length p.resources));
        once = spent-once ev (a.part ∷ others) (b.part ∷ others) spent w.once;
        unused = spent-unused ev (a.part ∷ others) (b.part ∷ others) c s.after (runs e.kept) spent
            w.once w.unused
            s.unused;
      };
      takes = shares-run ev c a.part b.part others e.frames e.kept e.acts.own here.0
          (subst (λ z. NextTakes ev what (has (numbers a.part.supply)) (has (numbers z)))
          (out-supply e.all b.part out e.out) e.spends) e.acts.from_is
          (sym (out-task e.all b.part out e.out) ∙ e.acts.task)
          (sym (out-stand e.all b.part out e.out) ∙ e.acts.to_is);
    }
  where
    -- the part holds each resource of the program
    mine : (r : ResId) → r.0 < length p.resources → holders a.part r ≡ Some a.part.task
    mine r l = ap (λ b. cond b (Some a.part.task) None) (e.holds r l)

    -- all that is held the part holds
    hands : (r : ResId) (o : Option Path) → c.common.held r ≡ o → holders a.part r ≡ c.common.held r
    hands r None h = (splits-lacks_both r w.held.1 h).0 ∙ sym h
    hands r (Some path) h =
        let m = mine r (known r path h) in m ∙ sym (splits-has_left r a.part.task w.held.1 m)

    one_each : (r : ResId) → (r.0 < length p.resources) ⊎ (length p.resources ≤ r.0)
        → of_resource r (contents_of out ++ contents) ≤ 1
    one_each r (inl l) =
        let m = mine r l in
        let none = count-held r a.part.task c.common contents
        (splits-has_left r a.part.task w.held.1 m) w.free in
        let sum = of_resource-append r (contents_of out) contents in
        let one = from-once r 0 out e.in_order in
        omega arith
    one_each r (inr l) =
        let each : length out ≡ length p.resources = e.each in
        let none = from-high r 0 out e.in_order (omega arith) in
        let sum = of_resource-append r (contents_of out) contents in
        let one = w.different r in
        omega arith

-- that of a part in the middle
pub settling-leads : (p : Program) (ev : Event) (a b : TimedPart) (out : List TimedContent)
    (before after : List Part)
    (contents : List Content) (c : Config) → Settles p ev a out b
    → ((r : ResId) (path : Path) → c.common.held r ≡ Some path → r.0 < length p.resources)
    → Whole (before ++ a.part ∷ after) contents c
    → Leads p (ev ∷ []) c (before ++ a.part ∷ after) (before ++ b.part ∷ after)
    (contents_of out ++ contents)
settling-leads p ev a b out before after contents c e known w =
    leads-along p (ev ∷ []) c (a.part ∷ before ++ after) (before ++ a.part ∷ after)
    (b.part ∷ before ++ after)
    (before ++ b.part ∷ after) (contents_of out ++ contents) (contents_of out ++ contents)
    (λ s h. supplied-focus s before after a.part h)
    (λ s h. supplied-unfocus s before after b.part h)
    (λ d h. whole-unfocus before after b.part (contents_of out ++ contents) d h)
    (leads-one p ev c (a.part ∷ before ++ after) (b.part ∷ before ++ after)
    (contents_of out ++ contents)
    (settle-step p ev a b out (before ++ after) contents c e known
    (whole-focus before after a.part contents c w)))
