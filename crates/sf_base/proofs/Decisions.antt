-- When a call decides its input: what it found or refused is right, and there is one answer.
-- Names: `decides`.
use Rattle.std.proofs.Common.{◌≡◌, ◌⊎◌, inl, inr}
use Rattle.std.specs.declared.result.Result.{Result}
use Rattle.std.specs.declared.result.Result.TheVariants.{Ok, Err}
use Rattle.std.specs.Prelude.{IfOk, IfErr}
use Rattle.sf_base.specs.Results.{Decides}

-- a right answer is the only one where there is one good value, one fault, and not both
pub decides : {T E V : Type 0} (result : Result T E) (view : T → V) (Good : V → Type 0) (Fault : E → Type 0)
    (memory : E) →
    ((v w : V) → Good v → Good w → v ≡ w) → ((f g : E) → Fault f → Fault g → f ≡ g)
    → ((v : V) (f : E) → Good v → Fault f → ⊥) →
    IfOk result (λ x. Good (view x)) → IfErr result (λ e. (e ≡ memory) ⊎ Fault e)
    → Decides result view Good Fault memory
decides (Ok x) view Good Fault memory one_good one_fault never_both found refused = record {
  found = found;
  refused = refused;
  only_found = λ v h. one_good (view x) v found h;
  only_refused = λ f h. never_both (view x) f found h;
}
decides (Err e) view Good Fault memory one_good one_fault never_both found refused = record {
  found = found;
  refused = refused;
  only_found = λ v h. elim refused [ inl is ↦ is | inr f ↦ absurd (never_both v e h f) ];
  only_refused = λ f h. elim refused [ inl is ↦ inr is | inr own ↦ inl (one_fault e f own h) ];
}
