-- The procedure that sets the resources up is one at most, so what is so of it can be told.
-- Names: `init-WHAT`.
use Rattle.std.specs.Prelude.{◌≡◌, ◌⊎◌, ◌↔◌, ℕ, zero, suc, ◌<◌, Bool, true, false, List, Option, Some, None, length, map, IfOk, IsTrue, Result, Ok, Err}
use Rattle.std.specs.Option.{option_map}
use Rattle.std.specs.Str.{bytes_eq}
use Rattle.std.proofs.Common.{refl, sym, ap, subst, ◌∙◌, inl, inr, arith}
use Rattle.std.proofs.lemmas.Bool.{false≢true}
use Rattle.std.proofs.lemmas.Bool.Decides.{eqb_tells}
use Rattle.std.proofs.lemmas.Simd.{map-map}
use Rattle.std.proofs.lemmas.Option.{slice_get-map, slice_get_within}
use Rattle.sf_base.proofs.Equality.{bytes_eq-same}
use Rattle.sf_base.specs.declared.ids.ProcId.{ProcId}
use Rattle.sf_calls.specs.Checked.Lemmas.Searches.{proc}
use Rattle.sf_core.specs.declared.program.Proc.{Proc}
use Rattle.sf_core.specs.Machine.Step.{procedure_at}
use Rattle.sf_core.specs.Program.Formed.{IsFormed}
use Rattle.sf_core.specs.Program.Init.{IsInitAmong, init_name, is_init, sets_up}
use Rattle.sf_core.specs.Program.Named.{name_in}
use Rattle.sf_core.specs.Program.Syntax.{Procedure, Program}
use Rattle.sf_core.specs.Program.View.{procedure_of}
use Rattle.sf_run.specs.Sequential.{InitIsSequential, IsSequential}
use Rattle.sf_run.proofs.Beginnings.{named-sets_up}
use Rattle.sf_run.proofs.Telling.{tell-sequential}

-- it is one of the program's
init-there : (p : Program) (m : ProcId) → sets_up p m ≡ true
    → (h : Procedure) × (procedure_at p m ≡ Some h) × (is_init h ≡ true)
init-there p m e = go (procedure_at p m) refl e
  where
    go : (o : Option Procedure) → procedure_at p m ≡ o → bytes_eq (name_in o) init_name ≡ true
        → (h : Procedure) × (procedure_at p m ≡ Some h) × (is_init h ≡ true)
    go None at e = absurd (false≢true e)
    go (Some h) at e = (h, at, e)

-- and one at most
init-once : (p : Program) → IsFormed p → (m n : ProcId) → sets_up p m ≡ true → sets_up p n ≡ true → m ≡ n
init-once p formed m n a b =
    let one = init-there p m a in
    let other = init-there p n b in
    ap proc (formed.one_init m.0 n.0 one.0 other.0 one.1 other.1 one.2 other.2)

-- so that it is sequential is so of the one
init-same : (p : Program) → IsFormed p → (n : ProcId) → sets_up p n ≡ true → IsSequential p n → InitIsSequential p
init-same p formed n up one m also = subst (IsSequential p) (init-once p formed n m up also) one

-- one of the first procedures sets the resources up, or none does
seek : (p : Program) (n : ℕ)
    → ((k : ℕ) × (sets_up p (proc k) ≡ true)) ⊎ ((m : ProcId) → m.0 < n → sets_up p m ≡ false)
seek p zero = inr (λ m below. absurd (omega (arith, below)))
seek p (suc n) = go (sets_up p (proc n)) refl (seek p n)
  where
    go : (b : Bool) → sets_up p (proc n) ≡ b
        → ((k : ℕ) × (sets_up p (proc k) ≡ true)) ⊎ ((m : ProcId) → m.0 < n → sets_up p m ≡ false)
        → ((k : ℕ) × (sets_up p (proc k) ≡ true)) ⊎ ((m : ProcId) → m.0 < suc n → sets_up p m ≡ false)
    go true e rest = inl (n, e)
    go false e (inl found) = inl found
    go false e (inr none) = inr (λ m below. elim (eqb_tells m.0 n) [
      | inl is ↦ ap (λ k. sets_up p (proc k)) is.1 ∙ e
      | inr is ↦ none m (let other : m.0 ≡ n → ⊥ = is.1 in omega (arith, below))
    ])

pub init-told : (p : Program) → IsFormed p → InitIsSequential p ⊎ (InitIsSequential p → ⊥)
init-told p formed = elim (seek p (length p.procedures)) [
  | inl found ↦ elim (tell-sequential p (proc found.0)) [
    | inl one ↦ inl (init-same p formed (proc found.0) found.1 one)
    | inr not ↦ inr (λ all. not (all (proc found.0) found.1))
  ]
  | inr none ↦ inl (λ m up.
      let here = init-there p m up in
      absurd (false≢true (sym (none m (slice_get_within p.procedures m.0 here.0 here.1)) ∙ up)))
]

-- the code's answer for the number that the program keeps
named-up : (p : Program) (n : ProcId) → IsInitAmong (map (λ (g : Procedure). g.name) p.procedures) (Some n)
    → sets_up p n ≡ true
named-up p n named = go (procedure_at p n) refl
    (sym (slice_get-map (λ (g : Procedure). g.name) p.procedures n.0) ∙ named.0)
  where
    go : (o : Option Procedure) → procedure_at p n ≡ o → option_map (λ (g : Procedure). g.name) o ≡ Some init_name
        → sets_up p n ≡ true
    go None at e = absurd (cc)
    go (Some h) at e = named-sets_up p n h at named.0

pub init-some : {E : Type 0} (p : Program) → IsFormed p → (n : ProcId) (r : Result Bool E)
    → IsInitAmong (map (λ (g : Procedure). g.name) p.procedures) (Some n)
    → IfOk r (λ yes. IsTrue yes ↔ IsSequential p n) → IfOk r (λ yes. IsTrue yes ↔ InitIsSequential p)
init-some p formed n (Ok told) named is =
    (λ e. init-same p formed n (named-up p n named) (is.0 e), λ all. is.1 (all n (named-up p n named)))
init-some p formed n (Err e) named is = tt

pub init-none : (p : Program) → IsInitAmong (map (λ (g : Procedure). g.name) p.procedures) None
    → (IsTrue true ↔ InitIsSequential p)
init-none p none = (λ e m up. go m (init-there p m up), λ all. refl)
  where
    go : (m : ProcId) → (h : Procedure) × (procedure_at p m ≡ Some h) × (is_init h ≡ true) → IsSequential p m
    go m here = absurd (none m.0 (slice_get-map (λ (g : Procedure). g.name) p.procedures m.0
        ∙ ap (option_map (λ (g : Procedure). g.name)) here.1 ∙ ap Some (bytes_eq-same (here.0).name init_name here.2)))

-- the number that the code keeps is among the names of the definitions
pub named-code : (procedures : List Proc) (init : Option ProcId) → IsInitAmong (map (λ f. f.name) procedures) init
    → IsInitAmong (map (λ (g : Procedure). g.name) (map procedure_of procedures)) init
named-code procedures init h = subst (λ ns. IsInitAmong ns init)
    (sym (map-map (λ (g : Procedure). g.name) procedure_of procedures)) h
