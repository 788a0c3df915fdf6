-- How often a name has failed, after one more failure.
use Rattle.std.proofs.Common.{◌≡◌, ◌≢◌, ◌≤◌, ◌+◌, ℕ, List, [], ◌∷◌, ◌++◌, true, false, refl, sym, inl, inr, ◌⊎◌, Result, Ok, Err, IsOk, IsErrOf, arith}
use Rattle.std.specs.Str.{bytes_eq}
use Rattle.std.proofs.lemmas.Grind.{common_steps}
use Rattle.std.proofs.lemmas.Slice.Eq.{bytes_eq-Decides}
use Rattle.std.proofs.lemmas.Bool.{false_from_ne_true}
use Rattle.sf_io.specs.declared.shelf.FetchFault.{FetchFault}
use Rattle.sf_io.specs.declared.shelf.FetchFault.TheVariants.{Failed, OutOfMemory}
use Rattle.sf_io.specs.Shelf.{failures_of}

-- the name that failed occurs once more
pub failures_of-append_same : (failed : List (List ℕ)) (name : List ℕ) →
    failures_of (failed ++ name ∷ []) name ≡ failures_of failed name + 1
unfolding failures_of
failures_of-append_same failed name =
    let same : bytes_eq name name ≡ true = (bytes_eq-Decides name name).1 refl in
    grind (arith, common_steps, same)

-- any other name as often as before
pub failures_of-append_other : (failed : List (List ℕ)) (name other : List ℕ) → other ≢ name →
    failures_of (failed ++ name ∷ []) other ≡ failures_of failed other
unfolding failures_of
failures_of-append_other failed name other differ =
    let apart : bytes_eq name other ≡ false = false_from_ne_true _ (λ e. differ (sym ((bytes_eq-Decides name other).0 e))) in
    grind (arith, common_steps, apart)

-- no name less often
pub failures_of-append_le : (failed : List (List ℕ)) (name any : List ℕ) →
    failures_of failed any ≤ failures_of (failed ++ name ∷ []) any
unfolding failures_of
failures_of-append_le failed name any = grind (arith, common_steps)

-- whatever the answer, the list is as before, or has one name more
pub same_or_more : (answer : Result (Unit {0}) FetchFault) (old new more : List (List ℕ)) →
    (IsErrOf answer Failed → new ≡ more) → (IsOk answer ⊎ IsErrOf answer OutOfMemory → new ≡ old) →
    (new ≡ old) ⊎ (new ≡ more)
same_or_more (Ok done) old new more fault no_fault = inl (no_fault (inl refl))
same_or_more (Err Failed) old new more fault no_fault = inr (fault refl)
same_or_more (Err OutOfMemory) old new more fault no_fault = inl (no_fault (inr refl))
