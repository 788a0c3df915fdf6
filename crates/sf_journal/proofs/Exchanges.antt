-- Exchanges: events whose order doesn't count may change places wherever they are neighbours; so each list of the same
-- events in which the others keep their order leads where the first one does. It is said of any steps.
-- Mazurkiewicz, "Concurrent Program Schemes and their Interpretations" (1977): two lists are of one trace exactly where
-- exchanges of neighbours lead from the one to the other.
use Rattle.std.specs.Prelude.{◌≡◌, ◌⊎◌, List, [], ◌∷◌, ◌++◌, Contains}
use Rattle.std.proofs.Common.{inl, inr, sym, subst}
use Rattle.sf_base.proofs.Elements.{contains-nil, contains-cons, contains-rest}
use Rattle.sf_journal.specs.Before.{IsBefore}
use Rattle.sf_journal.proofs.Orders.{IsOnce, contains-first, contains-parts, contains-middle, contains-middle_cases, once-middle, before-middle, before-front, before-there, before-first}

-- the events, one after the other, lead from the one state to the other
abbrev pub Runs : {S E : Type 0} → (S → E → S → Type 0) → S → List E → S → Type 0
Runs step c [] d = d ≡ c
Runs {S} step c (event ∷ events) d = (between : S) × step c event between × Runs step between events d

-- neighbours that aren't tied may change places
abbrev pub MayChange : {S E : Type 0} → (S → E → S → Type 0) → (E → E → Type 0) → Type 0
MayChange {S} {E} step Tied = (c d e : S) (a b : E) → (Tied a b → ⊥) → step c a d → step d b e
    → (m : S) × step c b m × step m a e

-- the other list has the same events, each once, and those that are tied in the same order
pub record IsReordered {E : Type 0} (Tied : E → E → Type 0) (events others : List E) : Type 0 where
  pub once : IsOnce events
  pub other_once : IsOnce others
  pub there : (a : E) → Contains events a → Contains others a
  pub back : (a : E) → Contains others a → Contains events a
  pub agrees : (a b : E) → IsBefore events a b → Tied a b → IsBefore others a b

module _ {S E : Type 0} (step : S → E → S → Type 0) (Tied : E → E → Type 0) (change : MayChange step Tied) where
  -- an event to which none of those before it is tied may come first
  to-front : (front back : List E) (event : E) (c d : S) → ((a : E) → Contains front a → Tied a event → ⊥)
      → Runs step c (front ++ event ∷ back) d → Runs step c (event ∷ (front ++ back)) d
  to-front [] back event c d free r = r
  to-front (a ∷ front) back event c d free (m, s, r) =
      let k = to-front front back event m d (λ b h. free b (contains-rest a front b h)) r in
      let w = change c m k.0 a event (free a (contains-first a front)) s k.1 in
      (w.0, w.1, (k.0, w.2, k.2))

  -- what is left once the first event of the other list is taken from both
  rest-reordered : (front back others : List E) (event : E)
      → IsReordered Tied (front ++ event ∷ back) (event ∷ others) → IsReordered Tied (front ++ back) others
  rest-reordered front back others event h =
      let o = once-middle front back event h.once in
      record {
        once = o.1;
        other_once = (h.other_once).1;
        there = λ a k. there a k ((contains-cons event others a).0 (h.there a (contains-middle front back event a k)))
            o.0;
        back = λ a k. elim (contains-middle_cases front back event a (h.back a (contains-rest event others a k))) [
          | inl e ↦ absurd ((h.other_once).0 (subst (λ z. Contains others z) (sym e) k))
          | inr l ↦ l
        ];
        agrees = λ a b k tied. order a b (before-there (front ++ back) a b k).0
            (h.agrees a b (before-middle front back event a b k) tied) o.0;
      }
    where
      order : (a b : E) → Contains (front ++ back) a → IsBefore (event ∷ others) a b
          → (Contains (front ++ back) event → ⊥) → IsBefore others a b
      order a b k (inl w) out = absurd (out (subst (λ z. Contains (front ++ back) z) (sym w.0) k))
      order a b k (inr w) out = w

      there : (a : E) → Contains (front ++ back) a → (event ≡ a) ⊎ Contains others a
          → (Contains (front ++ back) event → ⊥) → Contains others a
      there a k (inl e) out = absurd (out (subst (λ z. Contains (front ++ back) z) (sym e) k))
      there a k (inr l) out = l

  -- a list that reorders the events leads where they do
  pub reordered-runs : (others events : List E) (c d : S) → IsReordered Tied events others → Runs step c events d
      → Runs step c others d
  reordered-runs [] [] c d h r = r
  reordered-runs [] (a ∷ events) c d h r = absurd (contains-nil a (h.there a (contains-first a events)))
  reordered-runs (event ∷ others) events c d h r =
      let w = contains-parts events event (h.back event (contains-first event others)) in
      let k = subst (λ z. IsReordered Tied z (event ∷ others)) w.are h in
      let first = to-front w.front w.back event c d
      (λ a there tied. before-first event others a k.other_once
      (k.agrees a event (before-front w.front w.back event a there) tied))
      (subst (λ z. Runs step c z d) w.are r) in (
        first.0,
        first.1,
        reordered-runs others (w.front ++ w.back) first.0 d
            (rest-reordered w.front w.back others event k) first.2,
      )
