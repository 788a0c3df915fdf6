-- The values of variables that a run ends with, one after the other.
-- Names: `values_LAW`.
use Rattle.std.specs.Prelude.{◌≡◌, ◌+◌, ◌<◌, ℕ, List, [], ◌∷◌, ◌++◌, length, slice_index_or, unwrap_or}
use Rattle.std.proofs.Common.{sym, ap, ◌∙◌, refl, subst, inl, inr, arith, length-append}
use Rattle.std.proofs.lemmas.Bool.{cases_lt}
use Rattle.std.proofs.Math.ListN.{get_or-append}
use Rattle.std.proofs.Math.Seq.{get_or-append_seam}
use Rattle.sf_base.specs.declared.value.Value.{Value}
use Rattle.sf_base.specs.declared.value.Value.TheVariants.{Nil as nil}
use Rattle.sf_base.specs.HeapStore.{Slot, Store}
use Rattle.sf_frame.specs.Checked.Endings.{AreValues}

-- no values
pub values_none : (store : Store) (slot : ℕ → Slot) → AreValues store slot 0 []
values_none store slot = record { length = refl; at = λ k l. absurd (omega (arith, l)) }

-- one value more
pub values_more : (store : Store) (slot : ℕ → Slot) (n : ℕ) (values new : List Value) (v : Value)
    → AreValues store slot n values → v ≡ unwrap_or (store (slot n)) nil → new ≡ values ++ v ∷ []
    → AreValues store slot (n + 1) new
values_more store slot n values new v h e is = subst (AreValues store slot (n + 1)) (sym is) more
  where
    at : (k : ℕ) → k < n + 1
        → slice_index_or (values ++ v ∷ []) k nil ≡ unwrap_or (store (slot k)) nil
    at k l = elim (cases_lt k n) [
      | inl b ↦ get_or-append values (v ∷ []) nil k (omega (arith, b, h.length)) ∙ h.at k b
      | inr m ↦
          let last : k ≡ length values = omega (arith, m, l, h.length) in
          let same : n ≡ k = omega (arith, m, l) in
          ap (λ z. slice_index_or (values ++ v ∷ []) z nil) last
          ∙ get_or-append_seam values v [] nil ∙ e
          ∙ ap (λ z. unwrap_or (store (slot z)) nil) same
    ]

    more : AreValues store slot (n + 1) (values ++ v ∷ [])
    more = record { length = omega (arith, length-append values (v ∷ []), h.length); at = at }
