-- The procedure that sets the resources up, by its number and by itself.
-- Names: `WHAT-is` says what a test is, `WHAT-one` that there is one.
use Rattle.std.specs.Prelude.{◌≡◌, ℕ, zero, suc, ◌==◌, Bool, true, false, cond, List, [], ◌∷◌, map, Option, Some, None, slice_get}
use Rattle.std.specs.Str.{bytes_eq}
use Rattle.std.proofs.Common.{sym, ap, ◌∙◌, refl, subst, inl, inr, arith, true≢false}
use Rattle.std.proofs.lemmas.Bool.Decides.{nat_tests}
use Rattle.std.proofs.lemmas.Option.{none-some, same_Some}
use Rattle.sf_base.proofs.Equality.{bytes_eq-self, bytes_eq-same}
use Rattle.sf_base.proofs.HeapSplits.{at-same}
use Rattle.sf_core.specs.declared.program.Proc.{Proc}
use Rattle.sf_core.specs.declared.program.Resource.{Resource}
use Rattle.sf_core.specs.Program.Formed.{IsFormed}
use Rattle.sf_core.specs.Program.View.{procedure_of, program_with}
use Rattle.sf_core.specs.Machine.Good.{owed_by}
use Rattle.sf_core.specs.Machine.HasThroughout.{ContractMentions, HasThroughout}
use Rattle.sf_base.specs.declared.ids.ProcId.{ProcId}
use Rattle.sf_base.specs.declared.ids.ResId.{ResId}
use Rattle.sf_core.specs.Machine.Step.{procedure_at}
use Rattle.sf_core.specs.Program.Init.{IsInitAmong, init_name, is_init, is_init_at, sets_up}
use Rattle.sf_core.specs.Program.Named.{name_in}
use Rattle.sf_core.specs.Program.Syntax.{Procedure, Program}

-- whether the procedure of a number sets the resources up is whether the procedure that is there does
pub sets_up-is : (p : Program) (f : ProcId) (g : Procedure) → procedure_at p f ≡ Some g → sets_up p f ≡ is_init g
sets_up-is p f g e = ap (λ z. bytes_eq (name_in z) init_name) e

-- what the return of another procedure owes is its postcondition
pub owed_by-post : (p : Program) (g : Procedure) → is_init g ≡ false → owed_by p g ≡ g.post.level ∷ []
owed_by-post p g e = ap (λ b. cond b (map (λ r. r.invariant.level) p.resources) (g.post.level ∷ [])) e

-- and what its own owes is each resource's invariant
pub owed_by-invariants : (p : Program) (g : Procedure) → is_init g ≡ true
    → owed_by p g ≡ map (λ r. r.invariant.level) p.resources
owed_by-invariants p g e = ap (λ b. cond b (map (λ r. r.invariant.level) p.resources) (g.post.level ∷ [])) e

-- another procedure has throughout what its contract mentions
pub has_throughout-mentions : (p : Program) (f : ProcId) (r : ResId) → sets_up p f ≡ false → HasThroughout p f r
    → ContractMentions p f r
has_throughout-mentions p f r e (inl m) = m
has_throughout-mentions p f r e (inr m) = absurd (true≢false (sym m.0 ∙ e))

-- The number that the code keeps
-- the names of the code's procedures are those of the definitions'
names-same : (procedures : List Proc) → map (λ f. f.name) procedures ≡ map (λ g. g.name) (map procedure_of procedures)
names-same [] = refl
names-same (f ∷ fs) = ap (λ z. f.name ∷ z) (names-same fs)

named-at : (gs : List Procedure) (k : ℕ) (g : Procedure) → slice_get gs k ≡ Some g
    → slice_get (map (λ (g : Procedure). g.name) gs) k ≡ Some g.name
named-at [] k g e = absurd (none-some g e)
named-at (h ∷ gs) zero g e = ap (λ (z : Procedure). Some z.name) (same_Some h g e)
named-at (h ∷ gs) (suc k) g e = named-at gs k g e

at-named : (gs : List Procedure) (k : ℕ) (name : List ℕ)
    → slice_get (map (λ (g : Procedure). g.name) gs) k ≡ Some name
    → (g : Procedure) × (slice_get gs k ≡ Some g) × (g.name ≡ name)
at-named [] k name e = absurd (none-some name e)
at-named (h ∷ gs) zero name e = (h, refl, same_Some h.name name e)
at-named (h ∷ gs) (suc k) name e = at-named gs k name e

-- no number fits where no name does
init-none : (gs : List Procedure) (f : ProcId) → IsInitAmong (map (λ (g : Procedure). g.name) gs) None
    → is_init_at gs f ≡ false
init-none gs f none = go (slice_get gs f.0) refl
  where
    go : (o : Option Procedure) → slice_get gs f.0 ≡ o → bytes_eq (name_in o) init_name ≡ false
    go None e = refl
    go (Some g) e = test (is_init g) refl
      where
        test : (b : Bool) → is_init g ≡ b → is_init g ≡ false
        test false i = i
        test true i = absurd (none f.0 (named-at gs f.0 g e ∙ ap Some (bytes_eq-same g.name init_name i)))

-- and where one is there just its number does
init-some : (p : Program) → IsFormed p → (f init : ProcId)
    → IsInitAmong (map (λ (g : Procedure). g.name) p.procedures) (Some init) → is_init_at p.procedures f ≡ (init.0 == f.0)
init-some p formed f init first =
    let here = at-named p.procedures init.0 init_name first.0 in
    let named : is_init here.0 ≡ true =
    ap (λ z. bytes_eq z init_name) here.2 ∙ bytes_eq-self init_name in
    go here.0 here.1 named (init.0 == f.0) refl
  where
    go : (h : Procedure) → slice_get p.procedures init.0 ≡ Some h → is_init h ≡ true → (b : Bool) → init.0 == f.0 ≡ b
        → is_init_at p.procedures f ≡ b
    go h there named true e =
        let same : f.0 ≡ init.0 = at-same init.0 f.0 (swap init.0 f.0 e) in
        ap (λ k. bytes_eq (name_in (slice_get p.procedures k)) init_name) same ∙ sets_up-is p init h there ∙ named
      where
        swap : (m n : ℕ) → m == n ≡ true → n == m ≡ true
        swap m n e = grind (arith, nat_tests)
    go h there named false e = other (slice_get p.procedures f.0) refl
      where
        differ : (m n : ℕ) → m == n ≡ false → m ≡ n → ⊥
        differ m n e i = grind (arith, nat_tests)

        other : (o : Option Procedure) → slice_get p.procedures f.0 ≡ o → bytes_eq (name_in o) init_name ≡ false
        other None i = refl
        other (Some g) i = test (is_init g) refl
          where
            test : (b : Bool) → is_init g ≡ b → is_init g ≡ false
            test false j = j
            test true j = absurd (differ init.0 f.0 e (formed.one_init init.0 f.0 h g there i named j))

-- what the code answers from the number that it keeps
pub code-init : (fields : List (List ℕ)) (resources : List Resource) (procedures : List Proc) (init f : ProcId)
    → IsFormed (program_with fields resources procedures)
    → IsInitAmong (map (λ f. f.name) procedures) (Some init)
    → (init.0 == f.0) ≡ is_init_at (map procedure_of procedures) f
code-init fields resources procedures init f formed is =
    sym (init-some (program_with fields resources procedures) formed f init
    (subst (λ names. IsInitAmong names (Some init)) (names-same procedures) is))

-- and where it keeps none
pub code-no_init : (procedures : List Proc) (f : ProcId) → IsInitAmong (map (λ f. f.name) procedures) None
    → false ≡ is_init_at (map procedure_of procedures) f
code-no_init procedures f is = sym (init-none (map procedure_of procedures) f
    (subst (λ names. IsInitAmong names None) (names-same procedures) is))
