-- That it is so or isn't that no parallel call can be reached from a procedure.
-- Names: `tell-WHAT`.
use Rattle.std.specs.Prelude.{◌≡◌, ◌⊎◌, ℕ, zero, suc, ◌<◌, List, [], ◌∷◌, Option, Some, None, length, slice_get, Contains}
use Rattle.std.proofs.Common.{refl, sym, ap, subst, inl, inr, arith}
use Rattle.std.proofs.lemmas.Bool.Decides.{eqb_tells}
use Rattle.std.proofs.lemmas.Option.{same_Some, none-some, slice_get_within}
use Rattle.sf_base.proofs.Elements.{contains-cons, contains-nil}
use Rattle.sf_base.specs.declared.ids.ProcId.{ProcId}
use Rattle.sf_calls.specs.Conditions.{Calls, Has}
use Rattle.sf_calls.specs.Checked.Lemmas.Decidable.{IsDecidable, decidable_both, decidable_like, decidable_some}
use Rattle.sf_calls.specs.Checked.Lemmas.Paths.{decidable_reaches}
use Rattle.sf_calls.specs.Checked.Lemmas.Searches.{proc}
use Rattle.sf_calls.specs.Outside.{CallsIn}
use Rattle.sf_core.specs.Program.Heads.{head_calls, head_forks, sites}
use Rattle.sf_core.specs.Program.Syntax.{Block, Call, Procedure, Program}
use Rattle.sf_run.specs.Sequential.{Forks, ForksIn, IsSequential, ReachesFork}

-- whether a list has an element
tell-some : {A : Type 0} (xs : List A) → IsDecidable ((x : A) × Contains xs x)
tell-some [] = inr (λ h. contains-nil h.0 h.1)
tell-some (x ∷ xs) = inl (x, (contains-cons x xs x).1 (inl refl))

-- whether two procedures are one
tell-same : (f g : ProcId) → IsDecidable (f ≡ g)
tell-same f g = elim (eqb_tells f.0 g.0) [
  | inl e ↦ inl (ap proc e.1)
  | inr e ↦ inr (λ h. e.1 (ap (λ (k : ProcId). k.0) h))
]

-- whether a block has a parallel call, or calls that procedure
tell-forks_in : (b : Block) → IsDecidable (ForksIn b)
tell-forks_in b = decidable_some _ (λ s. tell-some (head_forks s.command)) (sites [] b)

tell-calls_in : (g : ProcId) (b : Block) → IsDecidable (CallsIn None g b)
tell-calls_in g b = decidable_some _ (λ s.
    decidable_both (inl tt)
    (decidable_some (λ (c : Call). c.callee ≡ g) (λ c. tell-same c.callee g) (head_calls s.command))) (sites [] b)

-- whether something is there with that property
tell-there : {A : Type 0} (P : A → Type 0) → ((x : A) → IsDecidable (P x)) → (o : Option A)
    → IsDecidable ((x : A) × (o ≡ Some x) × P x)
tell-there P tell None = inr (λ h. none-some h.0 h.1)
tell-there P tell (Some x) =
    decidable_like (λ k. (x, refl, k)) (λ h. subst P (sym (same_Some x h.0 h.1)) h.2) (tell x)

-- the procedures below that number
abbrev procedures_below : ℕ → List ProcId
procedures_below zero = []
procedures_below (suc n) = proc n ∷ procedures_below n

procedure-below : (n : ℕ) (f : ProcId) → f.0 < n → Contains (procedures_below n) f
procedure-below zero f below = absurd (omega (arith, below))
procedure-below (suc n) f below = elim (eqb_tells f.0 n) [
  | inl e ↦ (contains-cons (proc n) (procedures_below n) f).1 (inl (ap proc (sym e.1)))
  | inr e ↦
      (contains-cons (proc n) (procedures_below n) f).1
      (inr (procedure-below n f (let other : f.0 ≡ n → ⊥ = e.1 in omega (arith, below))))
]

-- whoever has a property is one of the program's
has-there : (p : Program) (P : Procedure → Type 0) (f : ProcId) → Has p P f
    → Contains (procedures_below (length p.procedures)) f
has-there p P f h = procedure-below (length p.procedures) f (slice_get_within p.procedures f.0 h.0 h.1)

tell-reaches_fork : (p : Program) (f : ProcId) → IsDecidable (ReachesFork p f)
tell-reaches_fork p f =
    decidable_reaches (Forks p) (Calls p None) (procedures_below (length p.procedures))
    (has-there p (λ h. ForksIn h.body)) (λ g k c. has-there p (λ h. CallsIn None k h.body) g c) tell-same
    (λ g. tell-there _ (λ h. tell-forks_in h.body) (slice_get p.procedures g.0))
    (λ g k. tell-there _ (λ h. tell-calls_in k h.body) (slice_get p.procedures g.0)) f

pub tell-sequential : (p : Program) (f : ProcId) → IsSequential p f ⊎ (IsSequential p f → ⊥)
tell-sequential p f = elim (tell-reaches_fork p f) [
  | inl reaches ↦ inr (λ never. never reaches)
  | inr never ↦ inl never
]
