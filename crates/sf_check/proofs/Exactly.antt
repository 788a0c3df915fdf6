-- A check that answers rightly gives each answer where it is due.
-- Names: `only-ANSWER` says that, where the tags prove the program or are refused, it answers no other way.
use Rattle.std.proofs.Common.{◌≡◌, ◌⊎◌, inl, inr, ℕ, List, refl, ap₂, subst}
use Rattle.std.specs.Prelude.{IfOk, IfErr, MatchResult}
use Rattle.std.specs.declared.result.Result.{Result}
use Rattle.std.specs.declared.result.Result.TheVariants.{Ok, Err}
use Rattle.sf_sym.specs.declared.tag.Tag.{Tag}
use Rattle.sf_rules.specs.Proving.{Proves}
use Rattle.sf_rules.specs.Setting.{Setting}
use Rattle.sf_check.specs.declared.refusal.CheckFault.{CheckFault}
use Rattle.sf_check.specs.declared.refusal.CheckFault.TheVariants.{Refused as IsRefused, OutOfMemory}
use Rattle.sf_check.specs.declared.refusal.Refusal.{Refusal}
use Rattle.sf_check.specs.Refusal.{IfRefused, Refused}
use Rattle.sf_check.proofs.Finishing.{proves-finishes}
use Rattle.sf_check.proofs.Refusing.{refused-never, refused-once}

-- where they prove it, the tags that it was given being those
pub only-proved : {X : Type 0} (d : Setting) (tags given : List Tag) (r : Result X CheckFault) → given ≡ tags
    → IfErr r (λ e. IfRefused e (Refused d given)) → Proves d tags
    → MatchResult r (λ x. Unit {0}) (λ e. e ≡ OutOfMemory)
only-proved d tags given (Ok x) same refused p = tt
only-proved d tags given (Err (IsRefused n why)) same refused p =
    absurd
    (refused-never d tags n why (proves-finishes d tags p) (subst (λ ts. Refused d ts n why) same refused))
only-proved d tags given (Err OutOfMemory) same refused p = refl

-- where they are refused
pub only-refused : {X : Type 0} (d : Setting) (tags given : List Tag) (r : Result X CheckFault) → given ≡ tags
    → IfOk r (λ x. Proves d given) → IfErr r (λ e. IfRefused e (Refused d given)) → (n : ℕ) (why : Refusal)
    → Refused d tags n why → MatchResult r (λ x. ⊥) (λ e. (e ≡ IsRefused n why) ⊎ (e ≡ OutOfMemory))
only-refused d tags given (Ok x) same proved refused n why k =
    refused-never d tags n why (proves-finishes d tags (subst (Proves d) same proved)) k
only-refused d tags given (Err (IsRefused m other)) same proved refused n why k =
    let once = refused-once d tags m n other why (subst (λ ts. Refused d ts m other) same refused) k in
    inl (ap₂ (λ (i : ℕ) (w : Refusal). IsRefused i w) once.0 once.1)
only-refused d tags given (Err OutOfMemory) same proved refused n why k = inr refl
