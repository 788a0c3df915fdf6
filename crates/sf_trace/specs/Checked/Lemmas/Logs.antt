-- Logs of lists of events that follow one another.
-- Names: `each-LAW` of what holds of all acts of a list, `rising-LAW` of stamps, `log-LAW`.
use Rattle.std.specs.Prelude.{◌≡◌, ◌<◌, List, [], ◌∷◌, ◌++◌, map, Contains}
use Rattle.std.proofs.Common.{sym, ap, ◌∙◌, refl, subst, inl, inr}
use Rattle.std.proofs.lemmas.List.{map-append}
use Rattle.std.proofs.lemmas.List.Elements.{Contains-append_cases}
use Rattle.std.proofs.lemmas.List.Sorted.{IsPermutation-append, IsPermutation-refl}
use Rattle.std.specs.List.Sorted.{IsPermutation}
use Rattle.sf_base.proofs.Elements.{contains-cons, contains-nil, contains-rest, contains-single}
use Rattle.sf_core.specs.Machine.Config.{Config}
use Rattle.sf_core.specs.Machine.Step.{Event}
use Rattle.sf_core.specs.Program.Syntax.{Program}
use Rattle.sf_part.specs.Timed.{Stamped}
use Rattle.sf_trace.specs.Checked.Lemmas.Traces.{trace-append}
use Rattle.sf_trace.specs.Logs.{IsLogOf, Precedes, Rising, Timed, acts_in, entry_of}
use Rattle.sf_trace.specs.Trace.{Act, Traces, events_in}

-- that holds of all of them
abbrev pub Each : (Timed → Type 0) → List Timed → Type 0
Each P timed = (x : Timed) → Contains timed x → P x

pub each-none : (P : Timed → Type 0) → Each P []
each-none P x h = absurd (contains-nil x h)

pub each-one : (P : Timed → Type 0) (x : Timed) → P x → Each P (x ∷ [])
each-one P x h y c = subst P (contains-single x y c) h

pub each-append : (P : Timed → Type 0) (xs ys : List Timed) → Each P xs → Each P ys → Each P (xs ++ ys)
each-append P xs ys a b x c = elim (Contains-append_cases xs ys x c) [ inl h ↦ a x h | inr h ↦ b x h ]

module _ (p : Program) where
  -- of two of these lists whose order counts the one of the second has the greater stamp
  abbrev pub RiseBetween : List Timed → List Timed → Type 0
  RiseBetween xs ys = (x y : Timed) → Contains xs x → Contains ys y → Precedes p x.act y.act → x.stamp < y.stamp

  pub rising-append : (xs ys : List Timed) → Rising p xs → Rising p ys → RiseBetween xs ys
      → Rising p (xs ++ ys)
  rising-append [] ys a b h = b
  rising-append (x ∷ xs) ys a b h = (first, rising-append xs ys a.1 b (λ y z c d. h y z (contains-rest x xs y c) d))
    where
      first : (y : Timed) → Contains (xs ++ ys) y → Precedes p x.act y.act → x.stamp < y.stamp
      first y c k = elim (Contains-append_cases xs ys y c) [
        | inl d ↦ a.0 y d k
        | inr d ↦ h x y ((contains-cons x xs x).1 (inl refl)) d k
      ]

  -- a log of no events, and one of an event
  abbrev pub log-none : (c : Config) → IsLogOf p c [] c []
  log-none c = record { timed = []; are = refl; traces = refl; entries = IsPermutation-refl []; rising = tt }

  abbrev pub log-one : (x : Timed) (c d : Config) → Traces p c (x.act ∷ []) d
      → IsLogOf p c (x.act.event ∷ []) d (entry_of x ∷ [])
  log-one x c d t = record {
    timed = x ∷ [];
    are = refl;
    traces = t;
    entries = IsPermutation-refl (entry_of x ∷ []);
    rising = ((λ y h. absurd (contains-nil y h)), tt);
  }

  -- one after the other
  module _ (events more : List Event) (c d e : Config) (log others : List Stamped)
      (one : IsLogOf p c events d log) (two : IsLogOf p d more e others) where
    pub log-are : events_in (acts_in (one.timed ++ two.timed)) ≡ events ++ more
    log-are = ap events_in (map-append (λ (x : Timed). x.act) one.timed two.timed)
        ∙ (map-append (λ (a : Act). a.event) (acts_in one.timed) (acts_in two.timed)
        ∙ (ap (λ z. z ++ events_in (acts_in two.timed)) one.are ∙ ap (λ z. events ++ z) two.are))

    pub log-traces : Traces p c (acts_in (one.timed ++ two.timed)) e
    log-traces = subst (λ z. Traces p c z e) (sym (map-append (λ (x : Timed). x.act) one.timed two.timed))
        (trace-append p (acts_in one.timed) (acts_in two.timed) c d e one.traces two.traces)

    pub log-entries : IsPermutation (map entry_of (one.timed ++ two.timed)) (log ++ others)
    log-entries = subst (λ z. IsPermutation z (log ++ others)) (sym (map-append entry_of one.timed two.timed))
        (IsPermutation-append (map entry_of one.timed) log (map entry_of two.timed) others one.entries two.entries)

    abbrev pub log-append : RiseBetween one.timed two.timed → IsLogOf p c (events ++ more) e (log ++ others)
    log-append rise = record {
      timed = one.timed ++ two.timed;
      are = log-are;
      traces = log-traces;
      entries = log-entries;
      rising = rising-append one.timed two.timed one.rising two.rising rise;
    }
