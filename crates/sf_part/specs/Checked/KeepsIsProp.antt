-- That what a part keeps holds in one way at most, so that its type can keep the facts.
-- Ordinary: each part is an order, or an equation of data.
use Rattle.std.specs.Prelude.{◌≡◌, ◌≤◌, ℕ, List, [], ◌∷◌, refl}
use Rattle.std.specs.Coded.{×_prop, Π_prop, →_prop, Unit-prop, le_prop, Coded, Coded-set, code_by, coded×, coded_ℕ, coded_bool, coded_list}
use Rattle.std.specs.List.{AllByRecursion}
use Rattle.std.specs.Ordering.{nat_cmp}
use Rattle.std.specs.BTreeMap.{BTreeMap, get}
use Rattle.std.specs.Prelude.{Some}
use Rattle.sf_base.specs.declared.path.Turn.{Turn}
use Rattle.sf_base.specs.contracts.path.Turn as turn
use Rattle.sf_base.specs.HeapStore.{Heap, Store}
use Rattle.sf_core.specs.Machine.Config.{Path}
use Rattle.sf_part.specs.Keeps.{IsUnmade, Keeps}
use Rattle.sf_part.specs.Timed.{IsInTime, Stamped, TimedPart}

-- entries of logs are data
abbrev stamped_code : Coded Stamped
stamped_code = code_by (ℕ × (List Turn × ℕ))
    (coded× coded_ℕ (coded× (coded_list turn.the_row.coded) coded_ℕ))
    (λ s. (s.stamp, (s.task, s.number))) (λ t. record { stamp = t.0; task = t.1.0; number = t.1.1 })
    (λ _. refl)

pub IsUnmade-prop : (heap : Heap) (store : Store) (number : ℕ) → IsProp (IsUnmade heap store number)
IsUnmade-prop heap store number s t = λ i. record {
  positive = le_prop s.positive t.positive i;
  heap = Coded-set coded_bool _ _ s.heap t.heap i;
  store = Π_prop (λ j. Coded-set coded_bool _ _) s.store t.store i;
}

logged-prop : (clock : ℕ) (log : List Stamped)
    → IsProp (AllByRecursion (λ (entry : Stamped). entry.stamp ≤ clock) log)
logged-prop clock [] = Unit-prop
logged-prop clock (entry ∷ log) = ×_prop le_prop (logged-prop clock log)

pub IsInTime-prop : (a : TimedPart) → IsProp (IsInTime a)
IsInTime-prop a s t = λ i. record {
  logged = logged-prop a.clock a.log s.logged t.logged i;
  within = le_prop s.within t.within i;
  unlogged = →_prop (Coded-set (coded_list stamped_code) _ _) s.unlogged t.unlogged i;
}

-- what a part keeps
pub Keeps-prop : (a : TimedPart) → IsProp (Keeps a)
Keeps-prop a s t = λ i. record {
  once = Π_prop (λ n. le_prop) s.once t.once i;
  unmade = Π_prop (λ n. →_prop (IsUnmade-prop a.part.heap a.part.store n)) s.unmade t.unmade i;
  waiting = →_prop (Coded-set (coded_list coded_ℕ) _ _) s.waiting t.waiting i;
  time = IsInTime-prop a s.time t.time i;
}

-- whoever holds something is that task
abbrev pub AreOwn : BTreeMap ℕ (List Turn) → Path → Type 0
AreOwn held task = (r : ℕ) (holder : Path) → get nat_cmp held r ≡ Some holder → holder ≡ task

pub AreOwn-prop : (held : BTreeMap ℕ (List Turn)) (task : Path) → IsProp (AreOwn held task)
AreOwn-prop held task =
    Π_prop (λ r. Π_prop (λ h. →_prop (Coded-set (coded_list turn.the_row.coded) _ _)))
