-- The part with which a procedure starts, and the contents beside it, are the configuration in
-- which it starts.
-- Names: `first-LAW`; `units-LAW` counts numbers from a base on.
use Rattle.std.specs.Prelude.{◌≡◌, ℕ, zero, suc, ◌<◌, ◌≤◌, ◌==◌, Bool, cond, List, [], ◌∷◌, length, Option, Some, None, Contains}
use Rattle.std.specs.List.{AllByRecursion}
use Rattle.std.proofs.Common.{sym, ap, ◌∙◌, refl, subst, inl, inr, arith}
use Rattle.std.proofs.lemmas.Bool.{cases_lt}
use Rattle.std.proofs.lemmas.Bool.Decides.{eqb_tells}
use Rattle.std.proofs.lemmas.List.{append-nil}
use Rattle.sf_base.proofs.MapSplits.{empty_map, empty-holds, map-same, splits-empty_right}
use Rattle.sf_base.specs.declared.ids.ProcId.{ProcId}
use Rattle.sf_base.specs.declared.ids.ResId.{ResId}
use Rattle.sf_base.specs.declared.path.Turn.TheVariants.{Left as left, Right as right}
use Rattle.sf_base.specs.declared.value.Value.{Value}
use Rattle.sf_base.specs.HeapStore.{Cell, Heap, Map, Store, own}
use Rattle.sf_core.specs.Machine.Config.{Frame, runs, Path, Config}
use Rattle.sf_core.specs.Machine.Start.{Beginning, settled, fresh, Start, first_frames, first_holders, initial_config}
use Rattle.sf_core.specs.Machine.Supplies.{has, units}
use Rattle.sf_core.specs.Machine.Whole.{running, Part, Content, holders, numbers, stands, supplies, IsUnion, IsUnused, Whole}
use Rattle.sf_core.specs.Program.Syntax.{Program}
use Rattle.sf_part.specs.First.{First, first_count, first_holds}
use Rattle.sf_part.specs.Supplied.{units as units_of, shares, share_in, Supplied}
use Rattle.sf_part.specs.Timed.{TimedContent, TimedPart, contents_of}
use Rattle.sf_part.proofs.Settling.{from-once}
use Rattle.sf_part.proofs.Supplies.{count-cons, count-contains, one_if, times}
use Rattle.sf_part.proofs.Trees.{entry}

-- a map is the union of itself alone
pub union-alone : {K X : Type 0} (w u : Map K X) → w ≡ u → IsUnion w (u ∷ [])
union-alone w u e = subst (λ z. IsUnion z (u ∷ [])) (sym e)
    (empty_map, splits-empty_right empty-holds, empty-holds)

-- Units from a base on
pub units-low : (n base count : ℕ) → n < base → times n (units base count) ≡ 0
units-low n base zero l = refl
units-low n base (suc count) l =
    let s = count-cons n base (units (suc base) count) in
    let h = units-low n (suc base) count (omega arith) in
    elim (eqb_tells base n) [
      | inl t ↦ absurd (let same : base ≡ n = t.1 in omega arith)
      | inr t ↦ let o : one_if (base == n) ≡ 0 = ap one_if t.0 in omega arith
    ]

pub units-once : (n base count : ℕ) → times n (units base count) ≤ 1
units-once n base zero = omega arith
units-once n base (suc count) =
    let s = count-cons n base (units (suc base) count) in
    let h = units-once n (suc base) count in
    elim (eqb_tells base n) [
      | inl t ↦
          let same : base ≡ n = t.1 in
          let z = units-low n (suc base) count (omega arith) in
          let o : one_if (base == n) ≡ 1 = ap one_if t.0 in omega arith
      | inr t ↦ let o : one_if (base == n) ≡ 0 = ap one_if t.0 in omega arith
    ]

-- The one task
stands-one : (frames : List Frame) (path : Path)
    → stands (runs frames) path ≡ entry [] (running frames) path
stands-one frames [] = refl
stands-one frames (left ∷ path) = refl
stands-one frames (right ∷ path) = refl

shares-one : (us : List ℕ) (path : Path) → shares (has us) path ≡ entry [] (units_of us) path
shares-one us [] = refl
shares-one us (left ∷ path) = refl
shares-one us (right ∷ path) = refl

-- who holds what
holders-first : (b : Beginning) (p : Program) (a : Part) → a.task ≡ [] → a.holds ≡ first_holds b p
    → (r : ResId)
    → first_holders b p r ≡ holders a r
holders-first settled p a e h r = sym (ap (λ (f : ResId → Bool). cond (f r) (Some a.task) None) h)
holders-first (fresh n g) p a e h r =
    ap (λ z. cond (first_holds (fresh n g) p r) (Some z) None) (sym e)
    ∙ sym (ap (λ (f : ResId → Bool). cond (f r) (Some a.task) None) h)

free-first : (b : Beginning) (p : Program) (contents : List TimedContent)
    → length contents ≡ first_count b p
    → AllByRecursion (λ (k : Content). first_holders b p k.resource ≡ None) (contents_of contents)
free-first b p [] e = tt
free-first settled p (k ∷ contents) e = (refl, all contents)
  where
    all : (ks : List TimedContent)
        → AllByRecursion (λ (k : Content). first_holders settled p k.resource ≡ None)
        (contents_of ks)
    all [] = tt
    all (k ∷ ks) = (refl, all ks)
free-first (fresh n g) p (k ∷ contents) e = absurd (omega arith)

-- a number from the base on is unused
unused-first : (p : Program) (f : ProcId) (store : Store) (heap : Heap) (c : Config)
    (base count : ℕ) (a : TimedPart)
    (contents : List TimedContent) (s : Start p f store heap c)
    → First p f s.procedure s.beginning store heap base count a contents → (n : ℕ) → base ≤ n
    → IsUnused (initial_config s.beginning p f s.procedure store heap) n
unused-first p f store heap c base count a contents s x n l = record {
  used = elim (eqb_tells n 0) [
    | inl t ↦ absurd (let z : n ≡ 0 = t.1 in let q : 0 < base = x.positive in omega arith)
    | inr t ↦ t.0
  ];
  heap = none (heap n) refl;
  store = λ i. no_slot i (store (own n i)) refl;
}
  where
    none : (o : Option Cell) → heap n ≡ o → heap n ≡ None
    none None e = e
    none (Some k) e = absurd (let q : n < base = x.above n k e in omega arith)

    no_slot : (i : ℕ) (o : Option Value) → store (own n i) ≡ o → store (own n i) ≡ None
    no_slot i None e = e
    no_slot i (Some v) e =
        absurd (let z : n ≡ 0 = (s.no_more (own n i) v e).0 in let q : 0 < base = x.positive in
        omega arith)

pub first-whole : (p : Program) (f : ProcId) (store : Store) (heap : Heap) (c : Config)
    (base count : ℕ) (a : TimedPart)
    (contents : List TimedContent) → (s : Start p f store heap c)
    → First p f s.procedure s.beginning store heap base count a contents
    → Whole (a.part ∷ []) (contents_of contents) c × Supplied (a.part ∷ []) (has (units base count))
first-whole p f store heap c base count a contents s x = (
  subst (λ z. Whole (a.part ∷ []) (contents_of contents) z) (sym s.is) (record {
    tasks = union-alone _ _ (map-same _ _ (stands-one frames)
        ∙ (ap (λ z. entry z (running frames)) (sym x.task) ∙ ap (entry a.part.task) (sym x.stand)));
    heap = x.heap_is;
    store = x.store_is;
    held = union-alone _ _ (map-same _ _ (holders-first s.beginning p a.part x.task x.holds));
    free = free-first s.beginning p contents x.each;
    different = λ r. from-once r 0 contents x.in_order;
    once = λ n. subst (λ z. times n z ≤ 1) (sym all) (units-once n base count);
    unused = λ n h. unused-first p f store heap c base count a contents s x n
        (from_base n (subst (λ z. Contains z n) all h));
  }),
  union-alone _ _ (map-same _ _ (shares-one (units base count))
      ∙ (ap (λ z. entry z (units_of (units base count))) (sym x.task)
      ∙ ap (entry a.part.task) (ap units_of (sym mine)
      ∙ ap (λ z. share_in z (numbers a.part.supply)) (sym x.stand)))),
)
  where
    frames : List Frame
    frames = first_frames s.beginning f s.procedure

    mine : numbers a.part.supply ≡ units base count
    mine = ap numbers x.supply ∙ append-nil (units base count)

    all : supplies (a.part ∷ []) ≡ units base count
    all = append-nil (numbers a.part.supply) ∙ mine

    from_base : (n : ℕ) → Contains (units base count) n → base ≤ n
    from_base n h =
        let there = count-contains n (units base count) h in
        elim (cases_lt n base) [
          | inl l ↦ absurd (let z = units-low n base count l in omega arith)
          | inr l ↦ l
        ]
