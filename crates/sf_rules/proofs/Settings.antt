-- A program has one setting: its sets are one list each, and what is determined has one order.
-- Names: `earlier-LAW` of what comes before another, `KIND-same` of two that are one; the laws have the names of the functions
-- whose contracts they are.
use Rattle.std.specs.Prelude.{◌⊎◌, Contains, AllPairs}
use Rattle.std.proofs.Common.{◌≡◌, ℕ, ◌<◌, List, [], ◌∷◌, length, get_or, refl, sym, ap, ◌∙◌, subst, inl, inr, arith}
use Rattle.std.proofs.lemmas.List.{ext_get_or}
use Rattle.std.proofs.lemmas.List.Elements.{All-contains}
use Rattle.std.proofs.lemmas.Option.{slice_get-get_or}
use Rattle.sf_base.proofs.Elements.{contains-cons, contains-nil, contains-rest, pairs-head, pairs-tail}
use Rattle.sf_base.specs.declared.ids.ProcId.{ProcId}
use Rattle.sf_base.specs.declared.ids.ResId.{ResId}
use Rattle.sf_base.specs.declared.ids.Var.{Var}
use Rattle.sf_base.specs.declared.ids.Var.TheVariants.{Own, Shared}
use Rattle.sf_base.specs.declared.place.Place.{Place}
use Rattle.sf_calls.specs.Checked.Laws.{SetsExist, SetsFromTruncation}
use Rattle.sf_calls.specs.Sets.{AreSetsOf, IsEarlier, IsEarlierResource, IsFamily, IsSetOf, Sets}
use Rattle.sf_core.specs.Assertions.Determined.{Determined}
use Rattle.sf_core.specs.Program.Syntax.{Assertion, Program}
use Rattle.sf_precise.specs.Checked.Laws.{DeterminedHasOrder, NeverTakenIsUndetermined, OrderingExists, UndeterminedHasPlace}
use Rattle.sf_precise.specs.Order.{IsOrdering}
use Rattle.sf_precise.specs.Taken.{NeverTakenAt}
use Rattle.sf_rules.specs.Checked.LawsOfSettings.{ArrangedHasSetting, SettingExists, SettingIsUnique}

-- Lists in order with the same members are one
module _ {A : Type 0} (Before : A → A → Type 0) (one_way : (x y : A) → Before x y → Before y x → ⊥) where
  -- a later member of the one is a later member of the other, where both begin with the same
  rest-same : (x y z : A) (xs ys : List A) → x ≡ y → AllPairs Before (x ∷ xs)
      → (Contains (x ∷ xs) z → Contains (y ∷ ys) z) → Contains xs z → Contains ys z
  rest-same x y z xs ys e h are c = elim ((contains-cons y ys z).0 (are (contains-rest x xs z c))) [
    | inl same ↦
        let before : Before z z = subst (λ (w : A). Before w z) (e ∙ same)
        (All-contains (Before x) xs z (pairs-head Before x xs h) c) in
        absurd (one_way z z before before)
    | inr k ↦ k
  ]

  list-same : (xs ys : List A) → AllPairs Before xs → AllPairs Before ys
      → ((z : A) → Contains xs z → Contains ys z) → ((z : A) → Contains ys z → Contains xs z) → xs ≡ ys
  list-same [] [] h k there back = refl
  list-same [] (y ∷ ys) h k there back =
      absurd (contains-nil y (back y ((contains-cons y ys y).1 (inl refl))))
  list-same (x ∷ xs) [] h k there back =
      absurd (contains-nil x (there x ((contains-cons x xs x).1 (inl refl))))
  list-same (x ∷ xs) (y ∷ ys) h k there back =
      let rest : xs ≡ ys = list-same xs ys (pairs-tail Before x xs h) (pairs-tail Before y ys k)
      (λ z. rest-same x y z xs ys first h (there z)) (λ z. rest-same y x z ys xs (sym first) k (back z)) in
      λ i. first i ∷ rest i
    where
      first : x ≡ y
      first = elim ((contains-cons y ys x).0 (there x ((contains-cons x xs x).1 (inl refl)))) [
        | inl e ↦ sym e
        | inr c ↦ elim ((contains-cons x xs y).0 (back y ((contains-cons y ys y).1 (inl refl)))) [
          | inl e ↦ e
          | inr d ↦
              absurd (one_way x y (All-contains (Before x) xs y (pairs-head Before x xs h) d)
              (All-contains (Before y) ys x (pairs-head Before y ys k) c))
        ]
      ]

  set-same : (P : A → Type 0) (xs ys : List A) → IsSetOf Before P xs → IsSetOf Before P ys → xs ≡ ys
  set-same P xs ys h k =
      list-same xs ys h.ordered k.ordered (λ z c. (k.members z).1 ((h.members z).0 c))
      (λ z c. (h.members z).1 ((k.members z).0 c))

  family-same : (P : ProcId → A → Type 0) (count : ℕ) (xs ys : List (List A))
      → IsFamily (IsSetOf Before) P count xs → IsFamily (IsSetOf Before) P count ys → xs ≡ ys
  family-same P count xs ys h k =
      let lengths : length xs ≡ length ys = h.each ∙ sym k.each in
      ext_get_or [] xs ys lengths (λ i below.
      let f : ProcId = record { 0 = i } in
      let there : i < length ys = subst (λ n. i < n) lengths below in
      set-same (P f) (get_or xs i []) (get_or ys i []) (h.is f (get_or xs i []) (slice_get-get_or xs i [] below))
      (k.is f (get_or ys i []) (slice_get-get_or ys i [] there)))

-- resources and variables come in one order
earlier-resource : (r q : ResId) → IsEarlierResource r q → IsEarlierResource q r → ⊥
earlier-resource r q h k = omega (arith, h, k)

earlier-variable : (x y : Var) → IsEarlier x y → IsEarlier y x → ⊥
earlier-variable (Own m) (Own n) h k = omega (arith, h, k)
earlier-variable (Own m) (Shared q j) h k = absurd k
earlier-variable (Shared r i) (Own n) h k = absurd h
earlier-variable (Shared r i) (Shared q j) (inl h) (inl k) = omega (arith, h, k)
earlier-variable (Shared r i) (Shared q j) (inl h) (inr k) =
    let same : q.0 ≡ r.0 = ap (λ (z : ResId). z.0) k.0 in omega (arith, h, same)
earlier-variable (Shared r i) (Shared q j) (inr h) (inl k) =
    let same : r.0 ≡ q.0 = ap (λ (z : ResId). z.0) h.0 in omega (arith, k, same)
earlier-variable (Shared r i) (Shared q j) (inr h) (inr k) =
    let one : i < j = h.1 in let two : j < i = k.1 in omega arith

-- a program's sets are one
sets-same : (p : Program) (s t : Sets) → AreSetsOf p s → AreSetsOf p t → s ≡ t
sets-same p s t h k =
    let takes = family-same IsEarlierResource earlier-resource _ (length p.procedures) s.takes t.takes h.takes k.takes in
    let held = family-same IsEarlierResource earlier-resource _ (length p.procedures) s.holds t.holds h.holds k.holds in
    let free = family-same IsEarlier earlier-variable _ (length p.procedures) s.free t.free h.free k.free in
    λ i. record { takes = takes i; holds = held i; free = free i }

-- what two functions make of an assertion that they put in order is one
ordered-same : UndeterminedHasPlace → NeverTakenIsUndetermined → DeterminedHasOrder
    → (f g : Assertion → Assertion) → IsOrdering f → IsOrdering g → (a : Assertion) → f a ≡ g a
ordered-same place never order f g h k a = go (place a.level)
  where
    go : Determined a.level ⊎ ((q : Place) × NeverTakenAt a.level q) → f a ≡ g a
    go (inl d) =
        let (o, is) = order a.level d in
        let there : Assertion = record { names = a.names; level = o } in
        h.ordered a there (record { names = refl; level = is })
        ∙ sym (k.ordered a there (record { names = refl; level = is }))
    go (inr (q, n)) =
        h.kept a (never a.level q n) ∙ sym (k.kept a (never a.level q n))

pub setting_is_unique : UndeterminedHasPlace → NeverTakenIsUndetermined → DeterminedHasOrder → SettingIsUnique
unfolding SettingIsUnique
setting_is_unique place never order p d e h k =
    let program : d.program ≡ e.program = h.program ∙ sym k.program in
    let sets = sets-same p d.sets e.sets h.sets k.sets in
    λ i. record {
      program = program i;
      sets = sets i;
      ordered = λ a. ordered-same place never order d.ordered e.ordered h.ordering k.ordering a i;
    }

pub setting_exists : SetsExist → OrderingExists → SettingExists
unfolding OrderingExists SettingExists
setting_exists sets ordering p formed =
    let (found, are) = sets p formed in (
      record { program = p; sets = found; ordered = ordering.0 },
      record { program = refl; sets = are; ordering = ordering.1 },
    )

pub arranged_has_setting : SetsFromTruncation → ArrangedHasSetting
unfolding ArrangedHasSetting
arranged_has_setting sets in_order a ordering = record {
  program = refl;
  sets = sets _ a.calls a.sets;
  ordering = ordering;
}
