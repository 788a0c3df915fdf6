-- What a call answers.
-- Names: `ok-LAW`.
use Rattle.std.specs.Prelude.{IfOk}
use Rattle.std.specs.declared.result.Result.{Result}
use Rattle.std.proofs.lemmas.Result.{IfOk-weaker}

-- what its answer says, said in another way
pub ok-then : {X Y : Type 0} (r : Result X Y) (P Q : X → Type 0) → IfOk r P → ((x : X) → P x → Q x) → IfOk r Q
ok-then r P Q h f = IfOk-weaker r P Q f h
