-- What is noted in a list of things.
-- Names: `noted_LAW` speaks of what was added, `room_LAW` of the slots of a room.
use Rattle.std.specs.Prelude.{◌≡◌, ◌⊎◌, ◌↔◌, List, [], ◌∷◌, ◌++◌}
use Rattle.std.proofs.Common.{sym, subst, inl, inr}
use Rattle.sf_base.specs.declared.ids.Thing.{Thing as CodeThing}
use Rattle.sf_core.specs.Machine.Enabled.{Thing}
use Rattle.sf_machine.specs.Accessing.{thing_of, IsListed}
use Rattle.sf_machine.specs.Checked.Noting.{Notes}

-- a list with one thing more
listed_snoc : (xs : List CodeThing) (x : CodeThing) (t : Thing)
    → IsListed (xs ++ x ∷ []) t ↔ (IsListed xs t ⊎ (t ≡ thing_of x))
listed_snoc [] x t = (
  λ h. elim h [ inl e ↦ inr e | inr n ↦ absurd n ],
  λ h. elim h [ inl n ↦ absurd n | inr e ↦ inl e ],
)
listed_snoc (y ∷ ys) x t = (
  λ h. elim h [
    | inl e ↦ inl (inl e)
    | inr k ↦ elim ((listed_snoc ys x t).0 k) [ inl l ↦ inl (inr l) | inr e ↦ inr e ]
  ],
  λ h. elim h [
    | inl k ↦ elim k [ inl e ↦ inl e | inr l ↦ inr ((listed_snoc ys x t).1 (inl l)) ]
    | inr e ↦ inr ((listed_snoc ys x t).1 (inr e))
  ],
)

-- one thing more
pub noted_at : (old new : List CodeThing) (x : CodeThing) (a : Thing) → new ≡ old ++ x ∷ [] → thing_of x ≡ a
    → Notes old new (λ t. t ≡ a)
noted_at old new x a e h = λ t.
    subst (λ z. IsListed z t ↔ (IsListed old t ⊎ (t ≡ a))) (sym e)
    (subst (λ z. IsListed (old ++ x ∷ []) t ↔ (IsListed old t ⊎ (t ≡ z))) h (listed_snoc old x t))

-- nothing more
pub noted_none : (old : List CodeThing) (P : Thing → Type 0) → ((t : Thing) → P t → ⊥) → Notes old old P
noted_none old P n = λ t. (λ h. inl h, λ h. elim h [ inl k ↦ k | inr p ↦ absurd (n t p) ])

-- some things, and then others
pub noted_then : (a b c : List CodeThing) (P Q : Thing → Type 0) → Notes a b P → Notes b c Q
    → Notes a c (λ t. P t ⊎ Q t)
noted_then a b c P Q n k = λ t. (
  λ h. elim ((k t).0 h) [
    | inl l ↦ elim ((n t).0 l) [ inl o ↦ inl o | inr p ↦ inr (inl p) ]
    | inr q ↦ inr (inr q)
  ],
  λ h. elim h [
    | inl o ↦ (k t).1 (inl ((n t).1 (inl o)))
    | inr s ↦ elim s [ inl p ↦ (k t).1 (inl ((n t).1 (inr p))) | inr q ↦ (k t).1 (inr q) ]
  ],
)

-- the same things, told otherwise
pub noted_by : (a b : List CodeThing) (P Q : Thing → Type 0) → Notes a b P → ((t : Thing) → P t ↔ Q t)
    → Notes a b Q
noted_by a b P Q n k = λ t. (
  λ h. elim ((n t).0 h) [ inl o ↦ inl o | inr p ↦ inr ((k t).0 p) ],
  λ h. elim h [ inl o ↦ (n t).1 (inl o) | inr q ↦ (n t).1 (inr ((k t).1 q)) ],
)
