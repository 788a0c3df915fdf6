-- The part with which a run begins, and the contents of the resources beside it, once these are
-- parted off from what is shared then.
-- Names: `lookup-LAW` of lists by their places, `begun-LAW`.
use Rattle.std.specs.Prelude.{◌≡◌, ◌+◌, ◌-◌, ◌<◌, ◌≤◌, ◌==◌, ◌&&◌, ℕ, zero, suc, Bool, true, false, cond, leb, ltb, nat_lt, List, [], ◌∷◌, ◌++◌, get_or, length, map, slice_get, slice_index_or, Option, Some, None, Contains, is_some, unwrap_or}
use Rattle.std.specs.List.{AllByRecursion, AllZip}
use Rattle.std.specs.FinMap.{get}
use Rattle.std.proofs.Common.{true≢false, sym, ap, ◌∙◌, refl, subst, inl, inr, arith}
use Rattle.std.proofs.lemmas.Bool.{and_parts, cases_lt}
use Rattle.std.proofs.lemmas.Bool.Decides.{Decides-eqb, Decides-ltb, eqb_tells, nat_tests}
use Rattle.std.proofs.lemmas.List.{append-nil, length-map}
use Rattle.std.proofs.lemmas.Option.{none-some, same_Some, slice_get_within, unwrap_or-slice_get}
use Rattle.std.proofs.lemmas.Slice.Zip.{AllZip-long}
use Rattle.sf_base.proofs.Elements.{contains-nil}
use Rattle.sf_base.proofs.HeapSplits.{at-same}
use Rattle.sf_base.proofs.MapSplits.{map-same, splits-has_left}
use Rattle.sf_base.proofs.Options.{is_some-cond, is_some-map, some-once}
use Rattle.sf_base.specs.declared.ids.ProcId.{ProcId}
use Rattle.sf_base.specs.declared.ids.ResId.{ResId}
use Rattle.sf_base.specs.declared.ids.Var.{Var}
use Rattle.sf_base.specs.declared.ids.Var.TheVariants.{Own, Shared as shared_variable}
use Rattle.sf_base.specs.declared.limits.TheConstants.{STEPS}
use Rattle.sf_base.specs.declared.value.Value.{Value}
use Rattle.sf_base.specs.declared.value.Value.TheVariants.{Nil as nil}
use Rattle.sf_base.specs.HeapStore.{Cell, Heap, Slot, Store, own, shared}
use Rattle.sf_calls.specs.Conditions.{Free}
use Rattle.sf_calls.specs.Checked.Lemmas.Within.{level_within}
use Rattle.sf_core.specs.Assertions.Occurs.{VarOccursIn}
use Rattle.sf_core.specs.Assertions.Sat.{Sat, value}
use Rattle.sf_core.specs.Machine.Config.{Frame, items, in_room, Path}
use Rattle.sf_core.specs.Machine.HasThroughout.{HasThroughout}
use Rattle.sf_core.specs.Machine.Start.{Beginning, settled, fresh, BeginsWith, IsKept, entry_frame, entry_slot, init_frame, first_count as slot_count, first_frames, first_holders, initial_config}
use Rattle.sf_core.specs.Machine.Step.{procedure_at, room_for}
use Rattle.sf_core.specs.Machine.Supplies.{units}
use Rattle.sf_core.specs.Machine.Whole.{Content, IsUnion, Range, running}
use Rattle.sf_core.specs.Program.Formed.{IsFormed, IsOfResource, variable_count}
use Rattle.sf_core.specs.Program.Heads.{Site}
use Rattle.sf_core.specs.Program.Init.{is_init, sets_up}
use Rattle.sf_core.specs.Program.Syntax.{Assertion, Block, done, then, Procedure, Program, Resource}
use Rattle.sf_core.proofs.Assertions.Sat.{sat-same_variables}
use Rattle.sf_core.proofs.Inits.{sets_up-is}
use Rattle.sf_foot.specs.declared.vars.Vars.{Vars}
use Rattle.sf_foot.specs.Footprint.{IsFootprint}
use Rattle.sf_foot.specs.Starting.{AreFootprints, HasWidth, IsBeginning, IsFreshFrom, StartsWith, store_of}
use Rattle.sf_foot.specs.Variables.{value_of, values_or_none}
use Rattle.sf_frame.specs.Commons.{common_of, held_of}
use Rattle.sf_frame.specs.declared.shared.Shared.{Shared}
use Rattle.sf_frame.specs.declared.stack.Stack.{Stack}
use Rattle.sf_frame.specs.Frames.{stack_of}
use Rattle.sf_frame.specs.Stores.{store_of as kept_in}
use Rattle.sf_heap.specs.Cells.{Cells, cell_of, heap_of}
use Rattle.sf_part.specs.Checked.KeepsIsProp.{AreOwn}
use Rattle.sf_part.specs.Checked.Parting.{ArePartedOff, IsPartedOff}
use Rattle.sf_part.specs.Contents.{IsContentIn, content_of}
use Rattle.sf_part.specs.declared.content.Content.{Content as CodeContent}
use Rattle.sf_part.specs.declared.log.Stamped.{Stamped}
use Rattle.sf_part.specs.declared.stand.Stand.TheVariants.{Runs}
use Rattle.sf_part.specs.First.{first_count, first_holds}
use Rattle.sf_part.specs.Given.{IsContentOf, is_variable_of}
use Rattle.sf_part.specs.Keeps.{Keeps}
use Rattle.sf_part.specs.Of.{AreInOrder, FrameIsOf, FramesAreOf, HasEntered, IsOf, IsVariable, inside, times_held, times_left, without}
use Rattle.sf_part.specs.Parts.{part_with}
use Rattle.sf_part.specs.Starts.{Starts}
use Rattle.sf_part.specs.Steps.{AreFrom}
use Rattle.sf_part.specs.Timed.{TimedContent, TimedPart, contents_of}
use Rattle.sf_part.proofs.Firsts.{units-low, units-once}
use Rattle.sf_part.proofs.Sites.{inside-block, sites-block}
use Rattle.sf_part.proofs.Supplies.{count-contains, times}

-- Lists by their places
all-lookups : {A : Type 0} (P : A → Type 0) (xs : List A)
    → ((i : ℕ) (x : A) → slice_get xs i ≡ Some x → P x) → AllByRecursion P xs
all-lookups P [] h = tt
all-lookups P (x ∷ xs) h = (h 0 x refl, all-lookups P xs (λ i y e. h (suc i) y e))

lookup-stamps : (ks : List CodeContent)
    → ((i : ℕ) (k : CodeContent) → slice_get ks i ≡ Some k → k.stamp ≡ 0)
    → AllByRecursion (λ (k : TimedContent). k.stamp ≡ 0) (map content_of ks)
lookup-stamps [] h = tt
lookup-stamps (k ∷ ks) h = (h 0 k refl, lookup-stamps ks (λ i z e. h (suc i) z e))

lookup-from : (n : ℕ) (ks : List CodeContent)
    → ((i : ℕ) (k : CodeContent) → slice_get ks i ≡ Some k → k.resource.0 ≡ n + i)
    → AreFrom n (map content_of ks)
lookup-from n [] h = tt
lookup-from n (k ∷ ks) h =
    let first : k.resource.0 ≡ n = h 0 k refl ∙ omega arith in (
      first,
      lookup-from (suc n) ks (λ i z e. let next : n + suc i ≡ suc n + i = omega arith in
          h (suc i) z e ∙ next),
    )

zip-at : {A B : Type 0} (R : A → B → Type 0) (xs : List A) (ys : List B) (i : ℕ) (x : A) (d : B)
    → AllZip R xs ys → slice_get xs i ≡ Some x → R x (get_or ys i d)
zip-at R [] ys i x d z e = absurd (none-some x e)
zip-at R (w ∷ xs) [] i x d z e = absurd z
zip-at R (w ∷ xs) (y ∷ ys) zero x d z e = subst (λ v. R v y) (same_Some w x e) z.0
zip-at R (w ∷ xs) (y ∷ ys) (suc i) x d z e = zip-at R xs ys i x d z.1 e

get-map : {A B : Type 0} (f : A → B) (xs : List A) (i : ℕ) (x : A) → slice_get xs i ≡ Some x
    → slice_get (map f xs) i ≡ Some (f x)
get-map f [] i x e = absurd (none-some x e)
get-map f (y ∷ xs) zero x e = ap (λ z. Some (f z)) (same_Some y x e)
get-map f (y ∷ xs) (suc i) x e = get-map f xs i x e

-- the cells and the slots of contents
lookup-heaps : (ks : List CodeContent)
    → map (λ (k : Content). k.heap) (contents_of (map content_of ks))
    ≡ map (λ (k : CodeContent). heap_of k.heap) ks
lookup-heaps [] = refl
lookup-heaps (k ∷ ks) = ap (λ z. heap_of k.heap ∷ z) (lookup-heaps ks)

lookup-stores : (ks : List CodeContent)
    → map (λ (k : Content). k.store) (contents_of (map content_of ks))
    ≡ map (λ (k : CodeContent). kept_in k.store) ks
lookup-stores [] = refl
lookup-stores (k ∷ ks) = ap (λ z. kept_in k.store ∷ z) (lookup-stores ks)

-- so many numbers there are in a range
units-length : (base count : ℕ) → length (units base count) ≡ count
units-length base zero = refl
units-length base (suc count) = ap suc (units-length (suc base) count)

-- a body leaves no region
left-block : (r : ResId) (b : Block) → times_left r (items b) ≡ 0
left-block r done = refl
left-block r (then c b) = left-block r b

-- a number is itself
same-number : (n : ℕ) (b : Bool) → ((n == n) && b) ≡ b
same-number n b = ap (λ z. z && b) ((Decides-eqb n n).1 refl)

-- how many parts a start has: that of the precondition, and one for each content
pub begun-parts : (p : Program) (g : Procedure) (is_fresh : Bool) (b : Beginning) (vars : Vars)
    (heap : Cells) (parts : List (List ℕ)) → IsBeginning p is_fresh b
    → AreFootprints p g is_fresh vars heap parts → length parts ≡ 1 + first_count b p
begun-parts p g true settled vars heap parts kind z = absurd kind
begun-parts p g true (fresh n h) vars heap parts kind z =
    AllZip-long (λ (a : Assertion) (ls : List ℕ). IsFootprint a.level (value_of vars) (heap_of heap)
    ls) (g.pre ∷ []) parts z
begun-parts p g false (fresh n h) vars heap parts kind z = absurd kind
begun-parts p g false settled vars heap parts kind z =
    AllZip-long (λ (a : Assertion) (ls : List ℕ). IsFootprint a.level (value_of vars) (heap_of heap)
    ls) (g.pre ∷ map (λ (r : Resource). r.invariant) p.resources) parts z
    ∙ ap suc (length-map p.resources (λ (r : Resource). r.invariant))
    ∙ omega arith

pub begun-few : (p : Program) (g : Procedure) (is_fresh : Bool) (b : Beginning) (vars : Vars)
    (heap : Cells) (parts : List (List ℕ)) → IsBeginning p is_fresh b
    → AreFootprints p g is_fresh vars heap parts
    → (0 < length parts) × (length parts ≤ 1 + length p.resources)
begun-few p g is_fresh b vars heap parts kind z =
    let all = begun-parts p g is_fresh b vars heap parts kind z in
    let most = go b in
    (omega (arith, all), omega (arith, all, most))
  where
    go : (z : Beginning) → first_count z p ≤ length p.resources
    go settled = omega arith
    go (fresh n h) = omega arith

-- the part of the code as it begins, by its pieces
begun-same : (task : Path) (stack : Stack) (new : Shared) (supply : List Range)
    (log : List Stamped) (keep : Bool) (base count : ℕ) → task ≡ []
    → supply ≡ record { first = base; count = count } ∷ [] → log ≡ []
    → part_with [] (Runs stack) new (record { first = base; count = count } ∷ []) 0 keep [] count
    ≡ part_with task (Runs stack) new supply 0 keep log count
begun-same task stack new supply log keep base count t s l =
    λ i. part_with (sym t i) (Runs stack) new (sym s i) 0 keep (sym l i) count

-- which resources are held
holds-first : (b : Beginning) (p : Program) (held : ResId → Option Path) → held ≡ first_holders b p
    → (λ (r : ResId). is_some (held r)) ≡ first_holds b p
holds-first b p held e = (λ i. λ r. is_some (e i r)) ∙ (λ i. λ r. go b r i)
  where
    go : (b : Beginning) (r : ResId) → is_some (first_holders b p r) ≡ first_holds b p r
    go settled r = refl
    go (fresh n h) r = is_some-cond [] (ltb r.0 (length p.resources))

-- whoever holds one then is the entry's task
holds-own : (b : Beginning) (p : Program) (r : ResId) (holder : Path)
    → first_holders b p r ≡ Some holder → holder ≡ []
holds-own settled p r holder e = absurd (none-some holder e)
holds-own (fresh n h) p r holder e = go (ltb r.0 (length p.resources)) e
  where
    go : (within : Bool) → cond within (Some []) None ≡ Some holder → holder ≡ []
    go true i = sym (same_Some [] holder i)
    go false i = absurd (none-some holder i)

-- the procedure that sets the resources up is the one
abbrev pub IsSetUp : Program → Beginning → Type 0
IsSetUp p settled = Unit {0}
IsSetUp p (fresh n h) = (procedure_at p n ≡ Some h) × (is_init h ≡ true)

-- A start, by its procedure and the way in which it begins
record Begun (p : Program) (f : ProcId) (vars : Vars) (procedure : Procedure)
    (beginning : Beginning) : Type 0 where
  pub init : IsSetUp p beginning
  pub holds_none : (r : ResId) → HasThroughout p f r → ⊥
  pub no_init : sets_up p f ≡ false
  pub kept : (slot : Slot) → IsKept beginning p procedure slot
      → is_some (store_of beginning procedure vars slot) ≡ true

begun-start : (p : Program) (f : ProcId) (is_fresh : Bool) (vars : Vars) (heap : Cells)
    (parts : List (List ℕ)) → (s : StartsWith p f is_fresh vars heap parts)
    → Begun p f vars s.procedure s.beginning
begun-start p f is_fresh vars heap parts s = record {
  init = go s.beginning
      (subst (λ b. BeginsWith b p s.starts.procedure store (heap_of heap)) s.begins
      s.starts.begins);
  holds_none = s.starts.holds_none;
  no_init = sets_up-is p f s.starts.procedure s.starts.there ∙ s.starts.no_init;
  kept = λ slot k. let at = s.starts.kept slot
      (subst (λ b. IsKept b p s.starts.procedure slot) (sym s.begins)
      (subst (λ g. IsKept s.beginning p g slot) same k)) in ap is_some at.1;
}
  where
    store : Store
    store = store_of s.beginning s.procedure vars

    same : s.procedure ≡ s.starts.procedure
    same = some-once (procedure_at p f) s.procedure s.starts.procedure s.there s.starts.there

    go : (b : Beginning) → BeginsWith b p s.starts.procedure store (heap_of heap) → IsSetUp p b
    go settled h = tt
    go (fresh n h) k = (k.0, k.1)

-- The frames of a procedure that begins
module _ (p : Program) (f : ProcId) (g : Procedure) (there : procedure_at p f ≡ Some g)
    (few : g.references ≤ length g.names) (no_init : sets_up p f ≡ false)
    (unfree : (r : ResId) (i : ℕ) → Free p f (shared_variable r i) → ⊥) (st : Store)
    (has : (i : ℕ) → i < length g.names → is_some (st (own 0 i)) ≡ true) where
  entry-variables : (x : Var) → IsVariable p (entry_frame f g) g x
      → is_some (st (entry_slot x)) ≡ true
  entry-variables (Own k) v = has k v
  entry-variables (shared_variable r i) v = elim v.1 [
    | inl free ↦ absurd (unfree r i free)
    | inr k ↦ elim k [
      | inl m ↦ absurd (contains-nil r (subst (λ z. Contains z r) (inside-block g.body) m))
      | inr m ↦ absurd (true≢false (sym m ∙ no_init))
    ]
  ]

  entry-room : (slot : Slot) → in_room (room_for g 0 g.references) slot ≡ true
      → is_some (st slot) ≡ true
  entry-room (shared r i) h = absurd (true≢false (sym h))
  entry-room (own e i) h =
      let a = and_parts (e == 0)
      (leb g.references i && ltb i (g.references + (length g.names - g.references))) h in
      let b = and_parts (leb g.references i)
      (ltb i (g.references + (length g.names - g.references))) a.1 in
      let below : i < g.references + (length g.names - g.references) =
      (Decides-ltb i (g.references + (length g.names - g.references))).0 b.1 in
      ap (λ z. is_some (st (own z i))) (at-same 0 e a.0)
      ∙ has i (omega (arith, below, few))

  pub entry-of : FrameIsOf p st (entry_frame f g)
  entry-of = record {
    procedure = g;
    there = there;
    todo = λ z k. subst (λ (w : List Site). Contains w z) (sites-block g.body) k;
    names = λ r i. refl;
    variables = entry-variables;
    room = entry-room;
  }

-- that of the procedure that sets the resources up
module _ (p : Program) (n : ProcId) (h : Procedure) (there : procedure_at p n ≡ Some h) (first : ℕ)
    (bare : h.references ≡ 0) (st : Store)
    (has : (i : ℕ) → i < first + length h.names → is_some (st (own 0 i)) ≡ true)
    (all : (r : ResId) (i : ℕ) → i < variable_count (slice_get p.resources r.0)
    → is_some (st (shared r i)) ≡ true) where
  init-variables : (x : Var) → IsVariable p (init_frame n h first) h x
      → is_some (st ((init_frame n h first).fixed.slots x)) ≡ true
  init-variables (Own k) v =
      let within : k < length h.names = v in has (first + k) (omega (arith, within))
  init-variables (shared_variable r i) v = all r i v.0

  init-room : (slot : Slot) → in_room (room_for h 0 first) slot ≡ true → is_some (st slot) ≡ true
  init-room (shared r i) e = absurd (true≢false (sym e))
  init-room (own d i) e =
      let a = and_parts (d == 0)
      (leb first i && ltb i (first + (length h.names - h.references))) e in
      let b = and_parts (leb first i) (ltb i (first + (length h.names - h.references))) a.1 in
      let below : i < first + (length h.names - h.references) =
      (Decides-ltb i (first + (length h.names - h.references))).0 b.1 in
      ap (λ z. is_some (st (own z i))) (at-same 0 d a.0)
      ∙ has i (omega (arith, below, bare))

  pub init-of : FrameIsOf p st (init_frame n h first)
  init-of = record {
    procedure = h;
    there = there;
    todo = λ z k. subst (λ (w : List Site). Contains w z) (sites-block h.body) k;
    names = λ r i. refl;
    variables = init-variables;
    room = init-room;
  }

-- The frames with which a run begins have called one another, and entered nothing
own-no_resource : (event index : ℕ) (r : ResId) (i : ℕ) → own event index ≡ shared r i → ⊥
own-no_resource event index r i e = absurd (cc)

entered-none : (p : Program) (frame : Frame) → inside frame.todo ≡ []
    → ((n : ℕ) (r : ResId) (i : ℕ) → frame.fixed.slots (Own n) ≡ shared r i → ⊥)
    → HasEntered p frame
entered-none p frame e a = record {
  regions = λ r m. absurd (contains-nil r (subst (λ z. Contains z r) e m));
  passed = λ n r i k. absurd (a n r i k);
}

order-first : (p : Program) (f : ProcId) (g : Procedure) → sets_up p f ≡ false
    → ((r : ResId) → HasThroughout p f r → ⊥) → (z : Beginning) → IsSetUp p z
    → AreInOrder p (first_frames z f g)
order-first p f g no_init none settled set = (
  entered-none p (entry_frame f g) (inside-block g.body) (λ n r i. own-no_resource 0 n r i),
  no_init,
  tt,
)
order-first p f g no_init none (fresh n h) set = (
  entered-none p (init_frame n h (length g.names)) (inside-block h.body)
      (λ m r i. own-no_resource 0 (length g.names + m) r i),
  inr (
    sets_up-is p n h set.0 ∙ set.1,
    record { holds = none; names = λ m r i. own-no_resource 0 m r i },
    refl,
  ),
  (
    entered-none p (entry_frame f g) (inside-block g.body) (λ m r i. own-no_resource 0 m r i),
    no_init,
    tt,
  ),
)

-- a slot before a room stays without it
before-room : (h : Procedure) (first : ℕ) (st : Store) (i : ℕ) → i < first
    → is_some (st (own 0 i)) ≡ true → is_some (without (room_for h 0 first) st (own 0 i)) ≡ true
before-room h first st i less e =
    let out : leb first i ≡ false = grind (arith, nat_tests) in
    ap (λ z. is_some (cond (z && ltb i (first + (length h.names - h.references))) None
    (st (own 0 i)))) out ∙ e

-- WHAT IS THERE once the contents are parted off
-- what the first part comes to, and the contents of the resources beside it
pub record First (p : Program) (f : ProcId) (is_fresh : Bool) (vars : Vars) (heap : Cells)
    (base count : ℕ) (new : Shared) (contents : List CodeContent) (part : TimedPart) : Type 0 where
  pub starts : Starts p f is_fresh vars heap base count part (map content_of contents)
  pub kept : Keeps part
  pub of : IsOf p part.part
  pub own : AreOwn new.held part.part.task
  pub wide : HasWidth (length p.fields) new.heap
  pub contents_in : AllByRecursion (λ (k : CodeContent). IsContentIn p k) contents
  pub exactly : AllByRecursion (λ (k : CodeContent). IsContentOf p (content_of k).content) contents

module _ (p : Program) (formed : IsFormed p) (f : ProcId) (is_fresh : Bool) (vars : Vars)
    (heap : Cells) (parts : List (List ℕ)) (s : StartsWith p f is_fresh vars heap parts)
    (unfree : (r : ResId) (i : ℕ) → Free p f (shared_variable r i) → ⊥) (old new : Shared)
    (contents : List CodeContent) (cells : old.heap ≡ heap)
    (common : common_of old ≡ (initial_config s.beginning p f s.procedure
    (store_of s.beginning s.procedure vars) (heap_of heap)).common)
    (parted : ArePartedOff p.resources parts (length parts - 1) old contents new) where
  start : Begun p f vars s.procedure s.beginning
  start = begun-start p f is_fresh vars heap parts s

  abbrev g : Procedure
  g = s.procedure

  abbrev b : Beginning
  b = s.beginning

  abbrev store : Store
  store = store_of b g vars

  many : length parts - 1 ≡ first_count b p
  many =
      let all = begun-parts p g is_fresh b vars heap parts s.kind s.footprints in
      omega (arith, all)

  kept : (slot : Slot) → IsKept b p g slot → is_some (kept_in old.store slot) ≡ true
  kept slot k = ap (λ c. is_some (c.store slot)) common ∙ start.kept slot k

  held : held_of new.held ≡ first_holders b p
  held = ap held_of parted.held ∙ ap (λ c. c.held) common

  few : g.references ≤ length g.names
  few = let w = (formed.procedures f.0 g s.there).declared in omega (arith, w)

  own-kept : (i : ℕ) → i < slot_count b g → is_some (kept_in new.store (own 0 i)) ≡ true
  own-kept i less = ap is_some (parted.own 0 i) ∙ kept (own 0 i) (refl, less)

  -- the frames are the program's
  frames-of : (z : Beginning) → b ≡ z → IsSetUp p z
      → FramesAreOf p (kept_in new.store) (first_frames z f g)
  frames-of settled e set = (
    entry-of p f g s.there few start.no_init unfree (kept_in new.store)
        (λ i less. own-kept i (subst (λ (z : Beginning). i < slot_count z g) (sym e) less)),
    tt,
  )
  frames-of (fresh n h) e set = (
    init-of p n h set.0 (length g.names) bare (kept_in new.store)
        (λ i less. own-kept i (subst (λ (z : Beginning). i < slot_count z g) (sym e) less)) all,
    (
      entry-of p f g s.there few start.no_init unfree
          (without (room_for h 0 (length g.names)) (kept_in new.store))
          (λ i less. before-room h (length g.names) (kept_in new.store) i less (own-kept i
          (subst (λ (z : Beginning). i < slot_count z g) (sym e)
          (let l : i < length g.names = less in omega arith)))),
      tt,
    ),
  )
    where
      bare : h.references ≡ 0
      bare = ((formed.procedures n.0 h set.0).init set.1).references

      none : length parts - 1 ≡ 0
      none = many ∙ ap (λ (z : Beginning). first_count z p) e

      all : (r : ResId) (i : ℕ) → i < variable_count (slice_get p.resources r.0)
          → is_some (kept_in new.store (shared r i)) ≡ true
      all r i less = go (slice_get p.resources r.0) refl less
        where
          go : (o : Option Resource) → slice_get p.resources r.0 ≡ o → i < variable_count o
              → is_some (kept_in new.store (shared r i)) ≡ true
          go None at l = absurd (omega (arith, l))
          go (Some of) at l = ap is_some (parted.variables r i (omega (arith, none)))
              ∙ kept (shared r i) (of, at, l)

  times-first : (z : Beginning) → IsSetUp p z → (r : ResId)
      → times_held p r (first_frames z f g) ≡ cond (first_holds z p r) 1 0
  times-first settled set r =
      ap (λ (q : Bool). (cond (q && ltb r.0 (length p.resources)) 1 0 + times_left r (items g.body))
      + 0) start.no_init
      ∙ (let none : times_left r (items g.body) ≡ 0 = left-block r g.body in omega arith)
  times-first (fresh n h) set r =
      (λ i. (cond ((sets_up-is p n h set.0 ∙ set.1) i && ltb r.0 (length p.resources)) 1 0
      + left-block r h.body i)
      + ((cond (start.no_init i && ltb r.0 (length p.resources)) 1 0 + left-block r g.body i) + 0))
      ∙ (let n : ℕ = cond (ltb r.0 (length p.resources)) 1 0 in
      let e : (n + 0) + ((0 + 0) + 0) ≡ n = omega arith in e)

  -- the part as it begins
  module _ (stack : Stack) (keep : Bool) (base count : ℕ)
      (frames : stack_of stack ≡ first_frames b f g)
      (above : IsFreshFrom vars heap base) (most : count ≤ STEPS) where
    abbrev part : TimedPart
    part = part_with [] (Runs stack) new (record { first = base; count = count } ∷ []) 0 keep []
        count

    begun-of : IsOf p part.part
    begun-of = record {
      stands = subst (FramesAreOf p (kept_in new.store)) (sym frames)
          (frames-of b refl start.init);
      inside = λ r. ap (times_held p r) frames ∙ times-first b start.init r
          ∙ ap (λ (q : ResId → Bool). cond (q r) 1 0)
          (sym (holds-first b p (held_of new.held) held));
      order = subst (AreInOrder p) (sym frames)
          (order-first p f g start.no_init start.holds_none b start.init);
    }

    -- a cell that is left is one of the start, below its first unit
    mentioned : (location : ℕ) (c : Cell) → heap_of heap location ≡ Some c → location < base
    mentioned location c e = above.1 location
        (inl (sym (is_some-map cell_of (get heap location)) ∙ ap is_some e))

    left : (location : ℕ) (c : Cell) → heap_of new.heap location ≡ Some c
        → heap_of heap location ≡ Some c
    left location c e = sym (ap (λ (z : Cells). heap_of z location) cells)
        ∙ splits-has_left location c parted.heap.1 e

    begun-starts : Starts p f is_fresh vars heap base count part (map content_of contents)
    begun-starts = record {
      procedure = g;
      there = s.there;
      beginning = b;
      kind = s.kind;
      is = record {
        task = refl;
        stand = ap running frames;
        holds = holds-first b p (held_of new.held) held;
        heap_is = subst (λ z. IsUnion (heap_of heap) (heap_of new.heap ∷ z))
            (sym (lookup-heaps contents))
            (subst (λ (z : Cells). IsUnion (heap_of z) (heap_of new.heap
            ∷ map (λ (k : CodeContent). heap_of k.heap) contents)) cells parted.heap);
        store_is = subst (λ z. IsUnion store (kept_in new.store ∷ z)) (sym (lookup-stores contents))
            (subst (λ (z : Store). IsUnion z (kept_in new.store
            ∷ map (λ (k : CodeContent). kept_in k.store) contents)) (ap (λ c. c.store) common)
            parted.store);
        supply = refl;
        positive = above.0.0;
        above = mentioned;
        clock = refl;
        log = refl;
        given = refl;
        stamps = lookup-stamps contents (λ i k e. (parted.contents_are i k e).stamp);
        in_order = lookup-from 0 contents
            (λ i k e. (parted.contents_are i k e).number_is ∙ omega arith);
        each = length-map contents content_of ∙ parted.each ∙ many;
      };
    }

    from_base : (n : ℕ) → Contains (units base count ++ []) n → base ≤ n
    from_base n c =
        let there = count-contains n (units base count)
        (subst (λ z. Contains z n) (append-nil (units base count)) c) in
        elim (cases_lt n base) [
          | inl l ↦ absurd (let z = units-low n base count l in omega arith)
          | inr l ↦ l
        ]

    no-cell : (n : ℕ) (o : Option Cell) → base ≤ n → heap_of new.heap n ≡ o → is_some o ≡ false
    no-cell n None l e = refl
    no-cell n (Some c) l e =
        absurd (let m = mentioned n c (left n c e) in omega (arith, m, l))

    no-slot : (n i : ℕ) → base ≤ n → is_some (kept_in new.store (own n i)) ≡ false
    no-slot n i l =
        ap is_some (parted.own n i) ∙ ap (λ c. is_some (c.store (own n i))) common
        ∙ elim (eqb_tells n 0) [
          | inl t ↦ absurd (let z : n ≡ 0 = t.1 in omega (arith, z, above.0.0, l))
          | inr t ↦ ap (λ z. is_some (cond (z && nat_lt i (slot_count b g))
              (Some (slice_index_or vars.own.items i nil)) None)) t.0
        ]

    begun-keeps : Keeps part
    begun-keeps = record {
      once = λ n. subst (λ z. times n z ≤ 1) (sym (append-nil (units base count)))
          (units-once n base count);
      unmade = λ n c. let l = from_base n c in record {
        positive = omega (arith, above.0.0, l);
        heap = no-cell n (heap_of new.heap n) l refl;
        store = λ i. no-slot n i l;
      };
      waiting = λ w. absurd w;
      time = record {
        logged = tt;
        within =
            let all : length (units base count ++ []) ≡ count =
            ap length (append-nil (units base count)) ∙ units-length base count in
            omega (arith, all, most);
        unlogged = λ e. refl;
      };
    }

  begun-own : AreOwn new.held []
  begun-own r holder e = holds-own b p (record { 0 = r }) holder
      (ap (λ (q : ResId → Option Path). q (record { 0 = r })) (sym held) ∙ e)

  begun-wide : HasWidth (length p.fields) new.heap
  begun-wide = parted.wide (length p.fields)
      (subst (HasWidth (length p.fields)) (sym cells) s.width)

  -- A content
  module _ (number : ℕ) (k : CodeContent) (at : slice_get contents number ≡ Some k) where
    it : IsPartedOff p.resources parts old number k
    it = parted.contents_are number k at

    found : slice_get p.resources k.resource.0 ≡ Some it.resource
    found = ap (slice_get p.resources) it.number_is ∙ it.there

    -- its variables are there
    its-variable : (slot : Slot)
        → is_variable_of k.resource (length it.resource.variables) slot ≡ true
        → is_some (kept_in old.store slot) ≡ true
    its-variable (own e i) h = absurd (true≢false (sym h))
    its-variable (shared q i) h =
        let a = and_parts (q.0 == k.resource.0) (ltb i (length it.resource.variables)) h in
        kept (shared q i) (
          it.resource,
          ap (slice_get p.resources) (at-same k.resource.0 q.0 a.0) ∙ found,
          (Decides-ltb i (length it.resource.variables)).0 a.1,
        )

    has-variables : (slot : Slot) → is_some (kept_in k.store slot)
        ≡ is_variable_of k.resource (length it.resource.variables) slot
    has-variables slot = ap is_some (it.variables slot)
        ∙ go (is_variable_of k.resource (length it.resource.variables) slot)
        (its-variable slot)
      where
        go : (v : Bool) → (v ≡ true → is_some (kept_in old.store slot) ≡ true)
            → is_some (cond v (kept_in old.store slot) None) ≡ v
        go true h = h refl
        go false h = refl

    pub begun-in : IsContentIn p k
    begun-in = record {
      resource = it.resource;
      there = found;
      variables = has-variables;
      wide = it.wide (length p.fields) (subst (HasWidth (length p.fields)) (sym cells) s.width);
    }

    -- the footprint of its invariant
    footprint : (fresh_start : Bool) → is_fresh ≡ fresh_start
        → IsFootprint it.resource.invariant.level (value_of vars) (heap_of heap)
        (get_or parts (number + 1) [])
    footprint true e =
        let none : length contents ≡ 0 = parted.each ∙ many ∙ go b s.kind in
        let within = slice_get_within contents number k at in
        absurd (omega (arith, none, within))
      where
        go : (z : Beginning) → IsBeginning p is_fresh z → first_count z p ≡ 0
        go settled h = absurd (subst (λ w. IsBeginning p w settled) e h)
        go (fresh n z) h = refl
    footprint false e =
        let next : number + 1 ≡ suc number = omega arith in
        subst (λ z. IsFootprint it.resource.invariant.level (value_of vars) (heap_of heap)
        (get_or parts z [])) (sym next)
        (zip-at (λ (a : Assertion) (ls : List ℕ). IsFootprint a.level (value_of vars) (heap_of heap)
        ls) (g.pre ∷ map (λ (r : Resource). r.invariant) p.resources) parts (suc number)
        it.resource.invariant []
        (subst (λ w. AreFootprints p g w vars heap parts) e s.footprints)
        (get-map (λ (r : Resource). r.invariant) p.resources number it.resource it.there))

    print : IsFootprint it.resource.invariant.level (value_of vars) (heap_of heap)
        (get_or parts (number + 1) [])
    print = footprint is_fresh refl

    here : (location : ℕ) (c : Cell) → heap_of k.heap location ≡ Some c
        → heap_of heap location ≡ Some c
    here location c e = sym (ap (λ (z : Cells). heap_of z location) cells) ∙ it.heap location c e

    -- its cells are just that
    just : print.part ≡ heap_of k.heap
    just = map-same print.part (heap_of k.heap)
        (λ l. go l (print.part l) (heap_of k.heap l) refl refl)
      where
        among : (l : ℕ) (c : Cell) → heap_of k.heap l ≡ Some c
            → Contains (get_or parts (number + 1) []) l
        among l c e = (it.locations l).0
            (sym (is_some-map cell_of (get k.heap l)) ∙ ap is_some e)

        go : (l : ℕ) (x y : Option Cell) → print.part l ≡ x → heap_of k.heap l ≡ y → x ≡ y
        go l None None e i = refl
        go l (Some c) (Some d) e i =
            sym (splits-has_left l c print.foot.splits e) ∙ here l d i
        go l None (Some d) e i = absurd ((print.at l).1 (among l d i) e)
        go l (Some c) None e i =
            let c = (it.locations l).1 ((print.at l).0 (λ n. none-some c (sym n ∙ e))) in
            absurd (true≢false (sym c ∙ sym (is_some-map cell_of (get k.heap l)) ∙ ap is_some i))

    -- its variables have the values of the start
    values : (x : Var) → VarOccursIn it.resource.invariant.level x
        → value_of vars x ≡ unwrap_or (kept_in k.store (entry_slot x)) nil
    values x o = go x (level_within p.fields
        (IsOfResource number (length it.resource.variables)) [] x it.resource.invariant.level
        (formed.resources number it.resource it.there).annotation.within o)
      where
        go : (x : Var) → IsOfResource number (length it.resource.variables) x
            → value_of vars x ≡ unwrap_or (kept_in k.store (entry_slot x)) nil
        go (Own i) h = absurd h
        go (shared_variable q i) h =
            let mine : is_variable_of k.resource (length it.resource.variables) (shared q i)
            ≡ true =
            (λ j. ((h.0 ∙ sym it.number_is) j == k.resource.0)
            && ltb i (length it.resource.variables))
            ∙ same-number k.resource.0 (ltb i (length it.resource.variables))
            ∙ (Decides-ltb i (length it.resource.variables)).1 h.1 in
            sym (unwrap_or-slice_get (values_or_none (slice_get vars.shared.items q.0)) i nil)
            ∙ ap (λ (c : Option Value). unwrap_or c nil)
            (ap (λ c. c.store (shared q i)) (sym common)
            ∙ sym (ap (λ w. cond w (kept_in old.store (shared q i)) None) mine)
            ∙ sym (it.variables (shared q i)))

    pub begun-exactly : IsContentOf p (content_of k).content
    begun-exactly = record {
      resource = it.resource;
      there = found;
      variables = has-variables;
      invariant = sat-same_variables it.resource.invariant.level (value_of vars)
          (λ x. unwrap_or (kept_in k.store (entry_slot x)) nil) (λ n. nil) (heap_of k.heap) values
          (subst (λ (h : Heap). Sat it.resource.invariant.level (value (value_of vars)) (λ n. nil)
          h) just print.foot.sat);
    }

  begun-all_in : AllByRecursion (λ (k : CodeContent). IsContentIn p k) contents
  begun-all_in = all-lookups (λ (k : CodeContent). IsContentIn p k) contents begun-in

  begun-all_exactly : AllByRecursion
      (λ (k : CodeContent). IsContentOf p (content_of k).content) contents
  begun-all_exactly = all-lookups (λ (k : CodeContent). IsContentOf p (content_of k).content)
      contents
      begun-exactly

  -- all of it, for a part that is made of pieces that are the same
  pub begun-first : (stack : Stack) (keep : Bool) (base count : ℕ)
      → stack_of stack ≡ first_frames b f g → IsFreshFrom vars heap base → count ≤ STEPS
      → (task : Path) → task ≡ [] → (supply : List Range)
      → supply ≡ record { first = base; count = count } ∷ [] → (log : List Stamped) → log ≡ []
      → First p f is_fresh vars heap base count new contents
      (part_with task (Runs stack) new supply 0 keep log count)
  begun-first stack keep base count frames above most task t supply u log l =
      let same = begun-same task stack new supply log keep base count t u l in
      record {
        starts = subst (λ (a : TimedPart). Starts p f is_fresh vars heap base count a
            (map content_of contents)) same (begun-starts stack keep base count frames above most);
        kept = subst Keeps same (begun-keeps stack keep base count frames above most);
        of = subst (λ (a : TimedPart). IsOf p a.part) same
            (begun-of stack keep base count frames above most);
        own = λ r holder e. begun-own r holder e ∙ sym t;
        wide = begun-wide;
        contents_in = begun-all_in;
        exactly = begun-all_exactly;
      }
