-- From the places of a task's misses in a list of events: that it has tried a region so often in
-- vain.
-- Names: `at-LAW` of elements of lists, `place-LAW` of one place, `places-LAW` of all.
use Rattle.std.specs.Prelude.{◌≡◌, ◌≢◌, ◌+◌, ◌-◌, ◌<◌, ◌≤◌, ℕ, zero, suc, List, [], ◌∷◌, ◌++◌, take, drop, length}
use Rattle.std.specs.List.{AllByRecursion}
use Rattle.std.proofs.Common.{sym, ap, ◌∙◌, refl, subst, arith, length-drop}
use Rattle.std.proofs.lemmas.List.{drop-take, length-take-le, take-append-drop, take-take}
use mathlib.Core.Option.{some, some-ne-none}
use lib.ListN.{get_elem?}
use Rattle.sf_base.specs.declared.ids.ResId.{ResId}
use Rattle.sf_core.specs.Machine.Config.{Path, Config}
use Rattle.sf_core.specs.Machine.Numbered.{NumberedFrom}
use Rattle.sf_core.specs.Machine.SpentWaits.{MayMiss, NoneBefore, SpentWaits}
use Rattle.sf_core.specs.Machine.Step.{Event}
use Rattle.sf_core.specs.Machine.Supplies.{Supply, has, units}
use Rattle.sf_core.specs.Program.Syntax.{Program}
use Rattle.sf_run.proofs.Lists.{numbered-append, numbered-cut, reach-one}
use Rattle.sf_run.proofs.Numbering.{reach-numbered}

-- an element of the front of a list is one of the list, at the same place
at-front : {A : Type 0} (n : ℕ) (xs : List A) (j : ℕ) (x : A) → get_elem? (take n xs) j ≡ some x
    → get_elem? xs j ≡ some x
at-front zero xs j x e = absurd (some-ne-none x (sym e))
at-front (suc n) [] j x e = e
at-front (suc n) (y ∷ xs) zero x e = e
at-front (suc n) (y ∷ xs) (suc j) x e = at-front n xs j x e

-- what is so of each element from a place on, is so of all that is behind it
at-behind : {A : Type 0} (P : A → Type 0) (n : ℕ) (xs : List A)
    → ((j : ℕ) (x : A) → n ≤ j → get_elem? xs j ≡ some x → P x) → AllByRecursion P (drop n xs)
at-behind P zero [] h = tt
at-behind P zero (x ∷ xs) h =
    (h 0 x (omega arith) refl, at-behind P zero xs (λ j y le e. h (suc j) y (omega arith) e))
at-behind P (suc n) [] h = tt
at-behind P (suc n) (x ∷ xs) h =
    at-behind P n xs (λ j y le e. h (suc j) y (omega (arith, le)) e)

-- the front of a list up to a place, and so many after it
front-more : {A : Type 0} (n m : ℕ) (xs : List A)
    → take n xs ++ take m (drop n xs) ≡ take (n + m) xs
front-more n m xs = ap (λ z. take n xs ++ z) (sym (drop-take n m xs))
    ∙ ap (λ z. z ++ drop n (take (n + m) xs)) (sym (take-take n (n + m) xs (omega arith)))
    ∙ take-append-drop n (take (n + m) xs)

module _ (p : Program) (start : Config) (base count : ℕ) (path : Path) (r : ResId) (before : List Event)
    (c : Config) (supply : Supply)
    (first : NumberedFrom p start (has (units base count)) before c supply)
    (events : List Event) (place : ℕ → ℕ) (more : ℕ)
    (order : (j k : ℕ) → j ≤ k → k < suc more → place j ≤ place k)
    (within : (k : ℕ) → k < suc more → place k ≤ length events)
    (quiet : (k j : ℕ) (e : Event) → k < suc more → place k ≤ j → get_elem? events j ≡ some e
    → e.task ≢ path)
    (missed : (k : ℕ) → k < suc more → (d : Config) × (rest : Supply)
    × NumberedFrom p c supply (take (place k) events) d rest × MayMiss d path r) where
  -- the events up to the last place, and those of them after the first
  abbrev all : List Event
  all = take (place more) events

  abbrev between : List Event
  between = drop (place 0) all

  abbrev last : (d : Config) × (rest : Supply) × NumberedFrom p c supply all d rest × MayMiss d path r
  last = missed more (omega arith)

  abbrev halves : (d : Config) × (t : Supply) × NumberedFrom p c supply (take (place 0) all) d t
      × NumberedFrom p d t between last.0 last.1
  halves = numbered-cut p (take (place 0) all) between c last.0 supply last.1
      (subst (λ z. NumberedFrom p c supply z last.0 last.1) (sym (take-append-drop (place 0) all))
      last.2)

  abbrev place-of : ℕ → ℕ
  place-of k = place k - place 0

  place-within : (k : ℕ) → k < suc more → place-of k ≤ length between
  place-within k less =
      let size = length-drop (place 0) all in
      let front = length-take-le (place more) events (within more (omega arith)) in
      let low = order 0 k (omega arith) less in
      let high = order k more (omega (arith, less)) (omega arith) in
      omega (arith, size, front, low, high)

  place-missed : (k : ℕ) → k < suc more → (place-of k ≤ length between)
      × ((d : Config) × (rest : Supply)
      × NumberedFrom p halves.0 halves.1 (take (place-of k) between) d rest × MayMiss d path r)
  place-missed k less =
      let own = missed k less in
      let low = order 0 k (omega arith) less in
      let high = order k more (omega (arith, less)) (omega arith) in
      let cut = numbered-cut p (take (place-of k) between) (drop (place-of k) between) halves.0 last.0
      halves.1 last.1
      (subst (λ z. NumberedFrom p halves.0 halves.1 z last.0 last.1)
      (sym (take-append-drop (place-of k) between)) halves.3) in
      let run = numbered-append p (take (place 0) all) (take (place-of k) between) c halves.0 cut.0
      supply halves.1 cut.1 halves.2 cut.2 in
      let count_is : place 0 + place-of k ≡ place k = omega (arith, low) in
      let list : take (place 0) all ++ take (place-of k) between ≡ take (place k) events =
      front-more (place 0) (place-of k) all
      ∙ (ap (λ z. take z all) count_is ∙ take-take (place k) (place more) events high) in
      let same : cut.0 ≡ own.0 = reach-one p (take (place k) events) c cut.0 own.0
      (reach-numbered p (take (place k) events) c cut.0 supply cut.1
      (subst (λ z. NumberedFrom p c supply z cut.0 cut.1) list run))
      (reach-numbered p (take (place k) events) c own.0 supply own.1 own.2) in (
        place-within k less,
        (cut.0, cut.1, cut.2, subst (λ z. MayMiss z path r) (sym same) own.3),
      )

  -- so many places, from the one of that number on
  abbrev places-from : (j n : ℕ) → List ℕ
  places-from j zero = []
  places-from j (suc n) = place-of j ∷ places-from (suc j) n

  places-length : (j n : ℕ) → length (places-from j n) ≡ n
  places-length j zero = refl
  places-length j (suc n) = ap suc (places-length (suc j) n)

  places-ordered : (low j n : ℕ) → j + n ≤ suc more
      → ((k : ℕ) → j ≤ k → k < suc more → low ≤ place-of k) → NoneBefore low (places-from j n)
  places-ordered low j zero few h = tt
  places-ordered low j (suc n) few h = (
    h j (omega arith) (omega (arith, few)),
    places-ordered (place-of j) (suc j) n (omega (arith, few))
        (λ k le less. let o = order j k (omega (arith, le)) less in omega (arith, o)),
  )

  places-missed : (j n : ℕ) → j + n ≤ suc more
      → AllByRecursion (λ k. (k ≤ length between) × ((d : Config) × (rest : Supply)
      × NumberedFrom p halves.0 halves.1 (take k between) d rest × MayMiss d path r))
      (places-from j n)
  places-missed j zero few = tt
  places-missed j (suc n) few = (
    place-missed j (omega (arith, few)),
    places-missed (suc j) n (omega (arith, few)),
  )

  -- the task has tried the region as often in vain
  pub spent-waits : SpentWaits p start base count path r (suc more)
  spent-waits = record {
    before = before ++ take (place 0) all;
    between = between;
    config = halves.0;
    supply = halves.1;
    first = numbered-append p before (take (place 0) all) start c halves.0 (has (units base count))
        supply halves.1 first halves.2;
    others = at-behind (λ (e : Event). e.task ≢ path) (place 0) all
        (λ j e le there. quiet 0 j e (omega arith) le
        (at-front (place more) events j e there));
    places = places-from 0 (suc more);
    ordered = places-ordered 0 0 (suc more) (omega arith) (λ k le less. omega arith);
    many = places-length 0 (suc more);
    missed = places-missed 0 (suc more) (omega arith);
  }
