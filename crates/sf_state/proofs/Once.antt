-- Entries, starts and texts are at most one each, and entries and texts are there.
-- Names: `SUBJECT_is_unique`, `SUBJECT_exists` for the laws; `start-LAW` for the parts of one.
use Rattle.std.proofs.Common.{◌≡◌, ◌↔◌, ◌⊎◌, ◌<◌, ◌≤◌, ◌+◌, ◌==◌, ℕ, zero, suc, Bool, true, false, List, [], ◌∷◌, Some, None, length, slice_get, refl, sym, ap, ◌∙◌, subst, subst₂, inl, inr, arith, nat_eq, slice_index_or}
use Rattle.std.specs.FinMap.{contains_key, contains_key-keys, get, keys}
use Rattle.std.specs.List.{AllZip, list_any}
use Rattle.std.specs.Ordering.{eq_by_cmp, nat_cmp}
use Rattle.std.specs.Str.{bytes_eq}
use Rattle.std.proofs.lemmas.List.Elements.{All-contains}
use Rattle.std.proofs.lemmas.List.{length-map}
use Rattle.std.specs.Set.{is_member}
use Rattle.std.proofs.lemmas.Option.{same_Some, slice_get_within}
use Rattle.sf_base.specs.declared.ids.ProcId.{ProcId}
use Rattle.sf_base.specs.declared.ids.ResId.{ResId}
use Rattle.sf_base.specs.declared.ids.Var.{Var}
use Rattle.sf_base.specs.declared.value.Value.{Value}
use Rattle.sf_base.specs.declared.value.Value.TheVariants.{Nil as nil, Loc as loc}
use Rattle.sf_base.specs.HeapStore.{Heap}
use Rattle.sf_base.proofs.Equality.{bytes_eq-other, bytes_eq-same}
use Rattle.sf_base.proofs.Elements.{contains-cons, contains-rest}
use Rattle.sf_base.proofs.Numbers.{at-is}
use Rattle.sf_calls.specs.Checked.Laws.{SetsExist}
use Rattle.sf_calls.specs.Sets.{IsResSet}
use Rattle.sf_core.specs.Checked.Assertions.Precise.{IsPrecise}
use Rattle.sf_core.specs.Machine.HasThroughout.{HasThroughout}
use Rattle.sf_core.specs.Assertions.Determined.{Determined}
use Rattle.sf_core.specs.Checked.Assertions.Laws.{DeterminedHasOneFootprint}
use Rattle.sf_core.specs.Assertions.Sat.{Sat, value}
use Rattle.sf_core.specs.Program.Init.{sets_up}
use Rattle.sf_core.specs.Program.Named.{IsFirstNamed}
use Rattle.sf_core.specs.Program.Syntax.{Assertion, Procedure, Program}
use Rattle.sf_heap.specs.Cells.{AreAt, Cells, FieldValues, heap_of}
use Rattle.sf_foot.specs.declared.vars.Vars.{Vars}
use Rattle.sf_foot.specs.Footprint.{IsFootprint}
use Rattle.sf_foot.specs.Starting.{IsFirstUnit, IsMentioned, assertions_of}
use Rattle.sf_foot.specs.Variables.{value_of}
use Rattle.sf_lines.specs.Lines.{Text}
use Rattle.sf_precise.specs.Annotations.{annotations_in}
use Rattle.sf_state.specs.declared.fault.StartFault.{StartFault}
use Rattle.sf_state.specs.declared.fault.StartFault.TheVariants as fault
use Rattle.sf_state.specs.Entering.{IsEntry, IsEntryFault, procedure_names}
use Rattle.sf_state.specs.Finishing.{values_of}
use Rattle.sf_state.specs.Checked.Laws.{AreDetermined, EntryExists, EntryIsUnique, FinishTextExists, FinishTextIsUnique, SameLocations, SameVars, StartIsUnique}
use Rattle.sf_state.specs.Names.{names_of}
use Rattle.sf_state.specs.Starts.{IsStartText, gives_fresh}
use Rattle.sf_state.specs.StateText.{state_text}
use Rattle.sf_state.proofs.Deciding.{fault-once, precise-notes, start-no_fault}
use Rattle.sf_state.proofs.FirstNamed.{entries-one, faults-one, first-named, holds-none, holds-one, never-both}
use Rattle.sf_state.proofs.NextFound.{there-at}
use Rattle.sf_heap.specs.Checked.Lemmas.Rising.{rising-keys, rising-same}
use Rattle.sf_state.proofs.StateOnce.{state-once, state-vars}
use Rattle.sf_state.proofs.Turns.{ArePrecise}
use Rattle.sf_state.proofs.Without.{member-decides}

pub entry_is_unique : EntryIsUnique
unfolding EntryIsUnique
entry_is_unique p name = record {
  entries = entries-one p name;
  faults = faults-one p name;
  apart = never-both p name;
}

-- each name is that of an entry, or is refused
pub entry_exists : SetsExist → EntryExists
unfolding EntryExists
entry_exists sets p name formed = go (first-named (procedure_names p) name)
  where
    there : (k : ℕ) → slice_get (procedure_names p) k ≡ Some name → k < length p.procedures
    there k e =
        let within = slice_get_within (procedure_names p) k name e in
        let size = length-map p.procedures (λ (g : Procedure). g.name) in
        omega (arith, within, size)

    held : (k : ℕ) → k < length p.procedures → (xs : List ResId) × IsResSet (HasThroughout p (record { 0 = k })) xs
    held k h =
        let s = sets p formed in
        let size = s.1.holds.each in
        let at = there-at s.0.holds k (omega (arith, h, size)) in
        (at.0, s.1.holds.is (record { 0 = k }) at.0 at.1)

    go : ((k : ℕ) × IsFirstNamed (procedure_names p) name (Some k)) ⊎ IsFirstNamed (procedure_names p) name None
        → ((f : ProcId) × IsEntry p name f) ⊎ ((e : StartFault) × IsEntryFault p name e)
    go (inr out) = inr (fault.Unknown name, (refl, out))
    go (inl f) = and (held f.0 (there f.0 f.1.0))
      where
        and : (xs : List ResId) × IsResSet (HasThroughout p (record { 0 = f.0 })) xs
            → ((g : ProcId) × IsEntry p name g) ⊎ ((e : StartFault) × IsEntryFault p name e)
        and s = step s.0 s.1 (length s.0 == 0) refl
          where
            step : (xs : List ResId) → IsResSet (HasThroughout p (record { 0 = f.0 })) xs → (b : Bool) → (length xs == 0) ≡ b
                → ((g : ProcId) × IsEntry p name g) ⊎ ((e : StartFault) × IsEntryFault p name e)
            step xs set true e = other (sets_up p (record { 0 = f.0 })) refl
              where
                other : (b : Bool) → sets_up p (record { 0 = f.0 }) ≡ b
                    → ((g : ProcId) × IsEntry p name g) ⊎ ((e : StartFault) × IsEntryFault p name e)
                other false n = inl (
                  record { 0 = f.0 },
                  record { named = f.1; free = holds-none p (record { 0 = f.0 }) xs set e; other = n },
                )
                other true n = inr (
                  fault.FreeEntry name,
                  (refl, record { procedure = record { 0 = f.0 }; named = f.1; holds = inr n }),
                )
            step xs set false e =
                let h = holds-one p (record { 0 = f.0 }) xs set e in
                inr (
                  fault.FreeEntry name,
                  (refl, record { procedure = record { 0 = f.0 }; named = f.1; holds = inl h }),
                )

-- determined annotations are precise
pub start-precise : DeterminedHasOneFootprint → (p : Program) (f : ProcId) (g : Procedure) (text : Text)
    → AreDetermined p → slice_get p.procedures f.0 ≡ Some g → (vars : Var → Value)
    → ArePrecise vars (assertions_of p g (gives_fresh p g text))
unfolding DeterminedHasOneFootprint
start-precise one p f g text determined there vars a c = one a.level vars (λ n. nil)
    (All-contains (λ (b : Assertion). Determined b.level) (annotations_in p) a determined
    (precise-notes p f g (gives_fresh p g text) a there c))

-- two footprints of one assertion have the same locations
start-locations : (vars : Var → Value) (heap : Heap) (a : Assertion) (ls ms : List ℕ)
    → IsPrecise (Sat a.level (value vars) (λ n. nil)) → IsFootprint a.level vars heap ls
    → IsFootprint a.level vars heap ms → SameLocations ls ms
start-locations vars heap a ls ms precise f g l =
    let same : f.part ≡ g.part =
    precise heap f.part g.part f.foot.rest g.foot.rest f.foot.splits g.foot.splits f.foot.sat g.foot.sat in (
      λ c. (g.at l).0 (λ n. (f.at l).1 c (ap (λ (h : Heap). h l) same ∙ n)),
      λ c. (f.at l).0 (λ n. (g.at l).1 c (ap (λ (h : Heap). h l) (sym same) ∙ n)),
    )

start-parts : (vars : Var → Value) (heap : Heap) (notes : List Assertion) (ps qs : List (List ℕ))
    → ArePrecise vars notes → AllZip (λ a ls. IsFootprint a.level vars heap ls) notes ps
    → AllZip (λ a ls. IsFootprint a.level vars heap ls) notes qs → AllZip SameLocations ps qs
start-parts vars heap [] [] [] h f g = tt
start-parts vars heap [] (ls ∷ ps) qs h f g = absurd f
start-parts vars heap [] [] (ms ∷ qs) h f g = absurd g
start-parts vars heap (a ∷ notes) [] qs h f g = absurd f
start-parts vars heap (a ∷ notes) (ls ∷ ps) [] h f g = absurd g
start-parts vars heap (a ∷ notes) (ls ∷ ps) (ms ∷ qs) h f g = (
  start-locations vars heap a ls ms (h a ((contains-cons a notes a).1 (inl refl))) f.0 g.0,
  start-parts vars heap notes ps qs (λ b c. h b (contains-rest a notes b c)) f.1 g.1,
)

-- a location is mentioned, for these values of variables
abbrev Mentions : (Var → Value) → Cells → ℕ → Type 0
Mentions vars heap location = (contains_key heap location ≡ true)
    ⊎ (((x : Var) × (vars x ≡ loc location))
    ⊎ ((at : ℕ) × (here : FieldValues) × (field : ℕ) × (get heap at ≡ Some here)
    × (slice_index_or here field nil ≡ loc location)))

-- no first unit is above another
unit-most : (v w : Vars) (h k : Cells) (t u : ℕ) → ((l : ℕ) → IsMentioned v h l → IsMentioned w k l)
    → IsFirstUnit v h t → IsFirstUnit w k u → t ≤ u
unit-most v w h k t u to a b = go a.1
  where
    go : (t ≡ 1) ⊎ ((l : ℕ) × IsMentioned v h l × (t ≡ l + 1)) → t ≤ u
    go (inl e) = let some : 0 < u = b.0.0.0 in omega (arith, e, some)
    go (inr m) = let less : m.0 < u = b.0.1 m.0 (to m.0 m.1) in omega (arith, less, m.2)

-- A text that is two starts
module _ (p : Program) (f : ProcId) (g : Procedure) (text : Text) (v w : Vars) (h k : Cells) (ps qs : List (List ℕ))
    (t u : ℕ) (m n : Bool) (a : IsStartText p f g text v h ps t m) (b : IsStartText p f g text w k qs u n) where
  start-vars : SameVars v w
  start-vars = let same = state-vars p g text v w h k a.state b.state in record { own = same.0; shared = same.1 }

  start-cells : h ≡ k
  start-cells = (state-once p g text v w h k a.state b.state).1

  start-mentions : (l : ℕ) → IsMentioned v h l ↔ IsMentioned w k l
  start-mentions l =
      let same = state-once p g text v w h k a.state b.state in (
        subst₂ (λ (vs : Var → Value) (c : Cells). Mentions vs c l) same.0 same.1,
        subst₂ (λ (vs : Var → Value) (c : Cells). Mentions vs c l) (sym same.0) (sym same.1),
      )

  start-unit : t ≡ u
  start-unit =
      let one : t ≤ u = unit-most v w h k t u (λ l. (start-mentions l).0) a.first_unit b.first_unit in
      let two : u ≤ t = unit-most w v k h u t (λ l. (start-mentions l).1) b.first_unit a.first_unit in
      omega (arith, one, two)

  start-fresh : m ≡ n
  start-fresh = a.is_fresh ∙ sym b.is_fresh

  start-same_parts : ArePrecise (value_of w) (assertions_of p g (gives_fresh p g text))
      → slice_get p.procedures f.0 ≡ Some g → AllZip SameLocations ps qs
  start-same_parts precise there =
      let same = state-once p g text v w h k a.state b.state in
      let notes = assertions_of p g (gives_fresh p g text) in
      let mine : AllZip (λ x ls. IsFootprint x.level (value_of v) (heap_of h) ls) notes ps =
      subst₂ (λ (q : Procedure) (z : Bool). AllZip (λ x ls. IsFootprint x.level (value_of v) (heap_of h) ls)
      (assertions_of p q z) ps)
      (same_Some a.starts.procedure g (sym a.starts.there ∙ there)) a.is_fresh a.starts.footprints in
      let other : AllZip (λ x ls. IsFootprint x.level (value_of w) (heap_of k) ls) notes qs =
      subst₂ (λ (q : Procedure) (z : Bool). AllZip (λ x ls. IsFootprint x.level (value_of w) (heap_of k) ls)
      (assertions_of p q z) qs)
      (same_Some b.starts.procedure g (sym b.starts.there ∙ there)) b.is_fresh b.starts.footprints in
      start-parts (value_of w) (heap_of k) notes ps qs precise
      (subst₂ (λ (vs : Var → Value) (c : Cells). AllZip (λ x ls. IsFootprint x.level vs (heap_of c) ls) notes ps)
      same.0 same.1 mine) other

pub start_is_unique : DeterminedHasOneFootprint → StartIsUnique
unfolding StartIsUnique
start_is_unique one p f g text determined there = record {
  variables = λ v w h k ps qs t u m n a b. start-vars p f g text v w h k ps qs t u m n a b;
  cells = λ v w h k ps qs t u m n a b. start-cells p f g text v w h k ps qs t u m n a b;
  parts = λ v w h k ps qs t u m n a b. start-same_parts p f g text v w h k ps qs t u m n a b
      (start-precise one p f g text determined there (value_of w)) there;
  unit = λ v w h k ps qs t u m n a b. start-unit p f g text v w h k ps qs t u m n a b;
  fresh = λ v w h k ps qs t u m n a b. start-fresh p f g text v w h k ps qs t u m n a b;
  faults = λ d e. fault-once p g text d e (start-precise one p f g text determined there);
  apart = λ v h ps t m e. start-no_fault p f g text v h ps t m e (start-precise one p f g text determined there) there;
}

pub finish_text_is_unique : FinishTextIsUnique
unfolding FinishTextIsUnique
finish_text_is_unique p g vars heap text other a b =
    a.is ∙ ap (state_text p.fields (names_of p g) (values_of vars) (get heap))
    (rising-same a.locations b.locations a.rising b.rising
    (λ l. (λ c. (b.all l).0 ((a.all l).1 c), λ c. (a.all l).0 ((b.all l).1 c)))) ∙ sym b.is

-- the keys of cells are their locations
pub finish-keys : (heap : Cells) → AreAt (keys heap) heap
finish-keys heap l = (
  λ h. (member-decides (keys heap) l).0 (sym same ∙ h),
  λ c. same ∙ (member-decides (keys heap) l).1 c,
)
  where
    by_cmp : eq_by_cmp nat_cmp ≡ nat_eq
    by_cmp = λ i x y. at-is x y i

    same : contains_key heap l ≡ is_member nat_eq (keys heap) l
    same = contains_key-keys heap l ∙ ap (λ (e : ℕ → ℕ → Bool). list_any (e l) (keys heap)) by_cmp

pub finish_text_exists : FinishTextExists
unfolding FinishTextExists
finish_text_exists p g vars heap = (
  state_text p.fields (names_of p g) (values_of vars) (get heap) (keys heap),
  record { locations = keys heap; rising = rising-keys heap; all = finish-keys heap; is = refl },
)
