-- Reaches: the least set that has what has something directly, and whatever steps to one that it has.
-- The inductive definition of what reaches a set along a relation, as usual since Tarski, "A
-- lattice-theoretical fixpoint theorem" (1955).

-- a member has it directly, or steps to a member
pub data Reaches {A : Type 0} (Seed : A → Type 0) (Step : A → A → Type 0) : A → Type 0 where
  directly : {a : A} → Seed a → Reaches Seed Step a
  through : {a : A} (b : A) → Step a b → Reaches Seed Step b → Reaches Seed Step a
