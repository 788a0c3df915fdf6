-- The parts of a configuration after an event.
-- Names: `common_LAW` speaks of what all tasks share, `used_LAW` of the numbers of events.
use Rattle.std.specs.Prelude.{◌≡◌, ℕ, ◌==◌, Bool, true, false, cond}
use Rattle.std.specs.Ordering.{nat_cmp, is_eq}
use Rattle.std.specs.BTreeSet.{BTreeSet, contains}
use Rattle.std.proofs.Common.{sym, ap, ◌∙◌, refl, arith}
use Rattle.std.proofs.lemmas.Bool.Decides.{nat_tests}
use Rattle.sf_core.specs.Machine.Config.{Common}
use Rattle.sf_frame.specs.Checked.Effects.{IsSameCommon}
use Rattle.sf_base.proofs.Numbers.{at-is}
use Rattle.std.specs.Cmp.{nat_eq_equiv}

-- what is the same at each location, slot and resource is one
pub common_same : (s t : Common) → IsSameCommon s t → s ≡ t
common_same s t h = λ i. record { heap = λ l. h.heap l i; store = λ slot. h.store slot i; held = λ r. h.held r i }

-- a number that was new came and went
pub used_again : (old more new : BTreeSet ℕ) (n : ℕ) → contains nat_cmp old n ≡ false
    → ((q : ℕ) → contains nat_cmp more q ≡ cond (is_eq (nat_cmp n q)) true (contains nat_cmp old q))
    → ((q : ℕ) → contains nat_cmp new q ≡ cond (is_eq (nat_cmp n q)) false (contains nat_cmp more q))
    → contains nat_cmp new ≡ contains nat_cmp old
used_again old more new n fresh h k = λ i q. same q i
  where
    gone : (q : ℕ) (a : Bool) → is_eq (nat_cmp n q) ≡ a
        → cond a false (cond a true (contains nat_cmp old q)) ≡ contains nat_cmp old q
    gone q true e =
        let test : (q == n) ≡ true = sym (at-is n q ∙ nat_eq_equiv.symm n q) ∙ e in
        let same : q ≡ n = grind (arith, nat_tests) in
        sym (ap (contains nat_cmp old) same ∙ fresh)
    gone q false e = refl

    same : (q : ℕ) → contains nat_cmp new q ≡ contains nat_cmp old q
    same q =
        k q ∙ ap (λ z. cond (is_eq (nat_cmp n q)) false z) (h q) ∙ gone q (is_eq (nat_cmp n q)) refl
