-- Work: what is kept while conjuncts are taken, each as soon as nothing is lacking and none before it is
-- ready.
-- The worklist of a topological sort (Kahn, 1962): counts of what is lacking, who waits for what, and
-- who is ready, by number.
use Rattle.std.specs.Prelude.{◌≡◌, ◌≢◌, ℕ, ◌+◌, ◌-◌, ◌<◌, ◌≤◌, ◌==◌, Bool, true, false, not, ◌&&◌, ◌||◌, List, [], ◌∷◌, ◌++◌, length, map, sum, replicate, count_by, slice_get, slice_index_or, Some, None, Option, Vec, Contains}
use Rattle.std.specs.List.{list_any}
use Rattle.std.specs.Ordering.{nat_cmp}
use Rattle.std.specs.BTreeMap.{BTreeMap, get}
use Rattle.std.specs.BTreeSet.{contains, btree_set_len}
use Rattle.std.specs.declared.alloc.Global.{Global}
use Rattle.sf_precise.specs.declared.work.Work.{Work}
use Rattle.sf_precise.specs.Checked.Waits.{Job}

-- a list that may be absent
abbrev pub items_or_none : Option (Vec ℕ Global) → List ℕ
items_or_none None = []
items_or_none (Some v) = v.items

-- the jobs that wait for the existential, each as often as it waits for it
abbrev pub row : BTreeMap ℕ (Vec ℕ Global) → ℕ → List ℕ
row waiting n = items_or_none (get nat_cmp waiting n)

-- nothing is lacking for the job of that number
abbrev pub is_served : Work → ℕ → Bool
is_served w i = slice_index_or w.lacking.items i 1 == 0

-- the job of that number is ready
abbrev pub is_ready : Work → ℕ → Bool
is_ready w i = contains nat_cmp w.ready i

-- whoever waits is one of the jobs
abbrev pub WaitsWithin : Work → Type 0
WaitsWithin w = (n i : ℕ) → Contains (row w.waiting n) i → i < length w.lacking.items

-- how much work is left at most
abbrev pub work_left : Work → ℕ
work_left w = btree_set_len w.ready + sum w.lacking.items

-- the job i waits for the existentials ns beside what was waited for
pub record AddsWaits (i : ℕ) (ns : List ℕ) (before after : BTreeMap ℕ (Vec ℕ Global)) : Type 0 where
  pub rows : (n : ℕ) → row after n ≡ row before n ++ replicate (count_by (λ m. m == n) ns) i

-- one thing less is lacking for each of the jobs xs, as often as it is there; those for which nothing is
-- lacking any more are ready
pub record Serves (xs : List ℕ) (before after : Work) : Type 0 where
  pub size : length after.lacking.items ≡ length before.lacking.items
  pub lacking : (i : ℕ) → i < length before.lacking.items
      → slice_index_or after.lacking.items i 1 ≡ slice_index_or before.lacking.items i 1 - count_by
      (λ k. k == i) xs
  pub ready : (i : ℕ)
      → is_ready after i ≡ (is_ready before i || (is_served after i && not (is_served before i)))
  pub waiting : (n : ℕ) → row after.waiting n ≡ row before.waiting n
  pub left : work_left after ≤ work_left before

-- the existentials ns are known beside those that were
abbrev pub known_with : List ℕ → (ℕ → Bool) → ℕ → Bool
known_with ns known n = known n || list_any (λ m. m == n) ns

-- the work of these jobs, where that is known and those jobs are taken
pub record IsWork (jobs : List Job) (known : ℕ → Bool) (taken : List Bool) (w : Work) : Type 0 where
  pub size : length w.lacking.items ≡ length jobs
  pub flags : length taken ≡ length jobs
  pub lacking : (i : ℕ) (j : Job) → slice_get jobs i ≡ Some j
      → slice_index_or w.lacking.items i 1 ≡ j.need - count_by known j.waits
  pub rows : (n : ℕ) → known n ≡ false → (i : ℕ) (j : Job) → slice_get jobs i ≡ Some j
      → count_by (λ k. k == i) (row w.waiting n) ≡ count_by (λ m. m == n) j.waits
  pub gone : (n : ℕ) → known n ≡ true → row w.waiting n ≡ []
  pub within : (n i : ℕ) → Contains (row w.waiting n) i → i < length jobs
  pub ready : (i : ℕ) → is_ready w i ≡ (is_served w i && not (slice_index_or taken i true))
  pub served : (i : ℕ) → slice_index_or taken i true ≡ true → i < length jobs → is_served w i ≡ true

-- the existentials ns become known
pub record Learns (ns : List ℕ) (before after : Work) : Type 0 where
  pub work : (jobs : List Job) (known : ℕ → Bool) (taken : List Bool) → IsWork jobs known taken before
      → IsWork jobs (known_with ns known) taken after
  pub within : WaitsWithin before → WaitsWithin after
  pub left : work_left after ≤ work_left before

-- no job is taken
abbrev pub none_taken : List Job → List Bool
none_taken jobs = map (λ j. false) jobs

-- one more job, none of what it waits for being known, and no job taken
abbrev pub AddsJob : Job → (before after : Work) → Type 0
AddsJob j before after =
    (jobs : List Job) (known : ℕ → Bool) → list_any known j.waits ≡ false
    → IsWork jobs known (none_taken jobs) before
    → IsWork (jobs ++ j ∷ []) known (none_taken (jobs ++ j ∷ [])) after

-- the first number at which something is lacking; None where nothing is
abbrev pub IsFirstLacking : List ℕ → Option ℕ → Type 0
IsFirstLacking lacking None = (k : ℕ) → k < length lacking → slice_index_or lacking k 1 ≡ 0
IsFirstLacking lacking (Some i) =
    (i < length lacking) × (slice_index_or lacking i 1 ≢ 0)
    × ((k : ℕ) → k < i → slice_index_or lacking k 1 ≡ 0)
