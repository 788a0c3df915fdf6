-- That what a state's text gives is a start of the procedure.
use Rattle.std.specs.Prelude.{◌≡◌, ℕ, zero, suc, ◌<◌, List, [], ◌∷◌, Some, Ok, IfSome, length, slice_get}
use Rattle.std.proofs.Common.{refl, arith}
use Rattle.sf_base.proofs.Options.{some-holds}
use Rattle.sf_base.specs.declared.ids.ProcId.{ProcId}
use Rattle.sf_core.specs.Program.Syntax.{Procedure, Program}
use Rattle.sf_foot.specs.declared.start.Start.{Start}
use Rattle.sf_foot.specs.Starting.{StartsWith}
use Rattle.sf_state.specs.Starts.{DecidesStart}

-- a place of a list has an element
element-at : {A : Type 0} (xs : List A) (k : ℕ) → k < length xs → (x : A) × (slice_get xs k ≡ Some x)
element-at [] k l = absurd (omega (arith, l))
element-at (x ∷ xs) zero l = (x, refl)
element-at (x ∷ xs) (suc k) l = element-at xs k (omega (arith, l))

pub text-starts : (p : Program) (f : ProcId) (text : List ℕ) (s : Start) → f.0 < length p.procedures
    → IfSome (slice_get p.procedures f.0) (λ g. DecidesStart p f g text (Ok s))
    → StartsWith p f s.fresh s.vars s.heap s.parts.items
text-starts p f text s below said =
    let there = element-at p.procedures f.0 below in
    (some-holds (λ (g : Procedure). DecidesStart p f g text (Ok s)) (slice_get p.procedures f.0) there.0 there.1
    said).started.starts
