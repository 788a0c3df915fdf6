-- A function that puts each determined assertion in its order.
use Rattle.std.proofs.Common.{◌≡◌, ◌⊎◌, ◌∙◌, false, refl, sym, inl, inr}
use Rattle.sf_base.specs.declared.place.Place.{Place}
use Rattle.sf_core.specs.Assertions.Determined.{Determined}
use Rattle.sf_core.specs.Program.Syntax.{Assertion}
use Rattle.sf_precise.specs.Checked.Laws.{OrderingExists}
use Rattle.sf_precise.specs.Order.{IsOrderOf}
use Rattle.sf_precise.specs.Taken.{NeverTakenAt}
use Rattle.sf_precise.specs.Checked.Lemmas.Branches.{never-undetermined, ordered-determined}
use Rattle.sf_precise.specs.Checked.Lemmas.OrderMeaning.{level-one}
use Rattle.sf_precise.specs.Checked.Lemmas.OrdersExist.{determined-order, determined-or_place}

-- an assertion in order, if it is determined
abbrev picked : (a : Assertion) → Determined a.level ⊎ ((q : Place) × NeverTakenAt a.level q) → Assertion
picked a (inl d) = record { names = a.names; level = (determined-order a.level d).0 }
picked a (inr n) = a

picked-order : (a : Assertion) (w : Determined a.level ⊎ ((q : Place) × NeverTakenAt a.level q))
    → Determined a.level → IsOrderOf a (picked a w)
picked-order a (inl d) e = record { names = refl; level = (determined-order a.level d).1 }
picked-order a (inr n) e = absurd (never-undetermined a.level n.0 n.1 e)

picked-kept : (a : Assertion) (w : Determined a.level ⊎ ((q : Place) × NeverTakenAt a.level q))
    → ¬ Determined a.level → picked a w ≡ a
picked-kept a (inl d) n = absurd (n d)
picked-kept a (inr w) n = refl

-- an assertion has one order
order-one : (a o u : Assertion) → IsOrderOf a o → IsOrderOf a u → o ≡ u
order-one a o u i j =
    let names : o.names ≡ u.names = i.names ∙ sym j.names in
    let level = level-one (λ n. false) a.level o.level u.level i.level j.level in
    λ k. record { names = names k; level = level k }

-- each assertion in order, if it is determined
abbrev in_order : Assertion → Assertion
in_order a = picked a (determined-or_place a.level)

pub ordering-exists : OrderingExists
unfolding OrderingExists
ordering-exists = (
  in_order,
  record {
    ordered = λ a o i. order-one a (in_order a) o
        (picked-order a (determined-or_place a.level) (ordered-determined a.level o.level i.level)) i;
    kept = λ a n. picked-kept a (determined-or_place a.level) n;
  },
  λ a d. picked-order a (determined-or_place a.level) d,
)
