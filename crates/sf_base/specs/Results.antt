-- What a call's result says: that it appended to a list, and that it decides what its input is.
-- Relations of our own, for clauses that many crates would write out again and again.
use Rattle.std.specs.Prelude.{◌≡◌, ◌⊎◌, List, ◌++◌, IfOk, IfErr, OnOk, MatchResult}
use Rattle.std.specs.declared.result.Result.{Result}

-- after an `Ok` the new list is the old one with these elements at its end
abbrev pub Appends : {T E X : Type 0} → Result T E → (old new added : List X) → Type 0
Appends result old new added = OnOk result (new ≡ old ++ added)

-- the call answers `Ok` with the one good value, seen through `view`, exactly where there is one, and
-- `Err` with the
-- one fault exactly where there is one; instead of either it may run out of memory
pub record Decides {T E V : Type 0} (result : Result T E) (view : T → V) (Good : V → Type 0)
    (Fault : E → Type 0) (out_of_memory : E) : Type 0 where
  pub found : IfOk result (λ answer. Good (view answer))
  pub refused : IfErr result (λ fault. (fault ≡ out_of_memory) ⊎ Fault fault)
  pub only_found : (good : V) → Good good
      → MatchResult result (λ answer. view answer ≡ good) (λ fault. fault ≡ out_of_memory)
  pub only_refused : (fault : E) → Fault fault
      → MatchResult result (λ _. ⊥) (λ own. (own ≡ fault) ⊎ (own ≡ out_of_memory))
