-- Runs of the machine: the numbers of their events, and how they compose.
-- Names: `reach-WHAT`.
use Rattle.std.specs.Prelude.{◌≡◌, ◌≢◌, ℕ, ◌==◌, Bool, true, false, ◌||◌, List, [], ◌∷◌, ◌++◌, ◌⊎◌}
use Rattle.std.proofs.Common.{true≢false, sym, ap, ◌∙◌, refl, subst, inl, inr}
use Rattle.std.proofs.lemmas.Bool.{or_cases, or_left, or_right}
use Rattle.sf_base.proofs.HeapSplits.{at-other, at-same, at-self}
use Rattle.sf_core.specs.Machine.Config.{Config, adds}
use Rattle.sf_core.specs.Checked.Machine.Laws.{HasNumber, Numbers}
use Rattle.sf_core.specs.Machine.Reach.{Reach}
use Rattle.sf_core.specs.Machine.Step.{Event}
use Rattle.sf_core.specs.Program.Syntax.{Program}

-- a number is used after another is added exactly where it is that one or was used
adds-used : (n m : ℕ) (used : ℕ → Bool) → adds m used n ≡ true → (n ≡ m) ⊎ (used n ≡ true)
adds-used n m used e = elim (or_cases (n == m) (used n) e) [ inl f ↦ inl (at-same m n f) | inr f ↦ inr f ]

-- a number that isn't used after another is added wasn't used before
pub adds-fresh : (n m : ℕ) (used : ℕ → Bool) → adds m used n ≡ false → (n ≢ m) × (used n ≡ false)
adds-fresh n m used e =
    (λ s. true≢false (sym (or_left (n == m) (used n) (ap (λ z. n == z) (sym s) ∙ at-self n)) ∙ e), go (n == m) e)
  where
    go : (b : Bool) → (b || used n) ≡ false → used n ≡ false
    go true f = absurd (true≢false f)
    go false f = f

-- a number that isn't used isn't used after another is added
pub adds-other : (n m : ℕ) (used : ℕ → Bool) → n ≢ m → used n ≡ false → adds m used n ≡ false
adds-other n m used h e = ap (λ z. z || used n) (at-other m n h) ∙ e

-- the numbers of a run: new, different, and just these are added
pub reach-numbers : (p : Program) (events : List Event) (c d : Config) → Reach p c events d
    → Numbers events c d
reach-numbers p [] c d r = record {
  fresh = λ n h. absurd h;
  distinct = tt;
  added = λ n. (
    λ u. inr (subst (λ (z : Config). z.used n ≡ true) r u),
    λ h. elim h [ inl z ↦ absurd z | inr u ↦ subst (λ (z : Config). z.used n ≡ true) (sym r) u ],
  );
}
reach-numbers p (event ∷ events) c d (m, s, r) =
    let later : Numbers events m d = reach-numbers p events m d r in
    record {
      fresh = λ n h. elim h [
        | inl e ↦ ap c.used e ∙ s.fresh
        | inr k ↦ (adds-fresh n event.number c.used (sym (ap (λ f. f n) s.used) ∙ later.fresh n k)).1
      ];
      distinct = (
        λ h. (adds-fresh event.number event.number c.used
            (sym (ap (λ f. f event.number) s.used) ∙ later.fresh event.number h)).0 refl,
        later.distinct,
      );
      added = λ n. (λ u. there n ((later.added n).0 u), λ h. (later.added n).1 (over n h));
    }
  where
    there : (n : ℕ) → HasNumber events n ⊎ (m.used n ≡ true)
        → ((n ≡ event.number) ⊎ HasNumber events n) ⊎ (c.used n ≡ true)
    there n (inl h) = inl (inr h)
    there n (inr u) = elim (adds-used n event.number c.used (sym (ap (λ f. f n) s.used) ∙ u)) [
      | inl e ↦ inl (inl e)
      | inr v ↦ inr v
    ]

    over : (n : ℕ) → ((n ≡ event.number) ⊎ HasNumber events n) ⊎ (c.used n ≡ true)
        → HasNumber events n ⊎ (m.used n ≡ true)
    over n (inl (inl e)) = inr (ap (λ f. f n) s.used
        ∙ or_left (n == event.number) (c.used n) (ap (λ z. n == z) (sym e) ∙ at-self n))
    over n (inl (inr h)) = inl h
    over n (inr u) = inr (ap (λ f. f n) s.used ∙ or_right (n == event.number) (c.used n) u)

-- a run may be cut anywhere
pub reach-cut : (p : Program) (events more : List Event) (c d : Config) → Reach p c (events ++ more) d
    → (m : Config) × Reach p c events m × Reach p m more d
reach-cut p [] more c d r = (c, refl, r)
reach-cut p (event ∷ events) more c d (m, s, r) =
    let k = reach-cut p events more m d r in
    (k.0, (m, s, k.1), k.2)

-- two runs one after the other are one
pub reach-join : (p : Program) (events more : List Event) (c m d : Config) → Reach p c events m
    → Reach p m more d → Reach p c (events ++ more) d
reach-join p [] more c m d e r = subst (λ z. Reach p z more d) e r
reach-join p (event ∷ events) more c m d (n, s, q) r = (n, s, reach-join p events more n m d q r)
