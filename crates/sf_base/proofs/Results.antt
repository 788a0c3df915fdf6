-- Results of calls: clauses on an `Ok` that give others.
-- Names: `ok-LAW`; `ok-some` and `ok-none` speak of an option in the `Ok`. Std has `IfOk-weaker`,
-- `IfErr-weaker` in lemmas.Result.
use Rattle.std.specs.Prelude.{Option, Some, None, IfOk, IfSome, IfNone}
use Rattle.std.specs.declared.result.Result.{Result}
use Rattle.std.specs.declared.result.Result.TheVariants.{Ok, Err}

-- two clauses on a result give a third
pub ok-both : {A E : Type 0} (r : Result A E) (P Q R : A → Type 0) → ((x : A) → P x → Q x → R x) → IfOk r P
    → IfOk r Q → IfOk r R
ok-both (Ok x) P Q R f p q = f x p q
ok-both (Err e) P Q R f p q = tt

-- of the value that is found
pub ok-some : {X E : Type 0} (r : Result (Option X) E) (P Q : X → Type 0) → ((x : X) → P x → Q x)
    → IfOk r (λ o. IfSome o P) → IfOk r (λ o. IfSome o Q)
ok-some (Ok (Some x)) P Q f h = f x h
ok-some (Ok None) P Q f h = tt
ok-some (Err e) P Q f h = tt

-- of there being none
pub ok-none : {X E : Type 0} (r : Result (Option X) E) (A B : Type 0) → (A → B) → IfOk r (λ o. IfNone o A)
    → IfOk r (λ o. IfNone o B)
ok-none (Ok (Some x)) A B f h = tt
ok-none (Ok None) A B f h = f h
ok-none (Err e) A B f h = tt
