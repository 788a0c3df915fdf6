-- Each program that is in order has its sets: of the resources and the variables in file order those
-- that a procedure takes, holds and has free.
use Rattle.std.proofs.Common.{◌≡◌, ◌<◌, ◌+◌, ℕ, zero, suc, List, [], ◌∷◌, length, Some, slice_get, refl, ap, subst, arith}
use Rattle.std.proofs.lemmas.Option.{none-some, same_Some}
use Rattle.sf_base.specs.declared.ids.ProcId.{ProcId}
use Rattle.sf_base.specs.declared.ids.ResId.{ResId}
use Rattle.sf_core.specs.Machine.HasThroughout.{HasThroughout}
use Rattle.sf_core.specs.Program.Syntax.{Program}
use Rattle.sf_calls.specs.Conditions.{Free, Takes}
use Rattle.sf_calls.specs.Checked.Laws.{SetsExist}
use Rattle.sf_calls.specs.Sets.{IsEarlier, IsEarlierResource, IsFamily, IsResSet, IsVarSet}
use Rattle.sf_calls.specs.Checked.Lemmas.Decidable.{IsDecidable, set_there}
use Rattle.sf_calls.specs.Checked.Lemmas.InFile.{free_there, resources_ordered, resources_there, variables_ordered}
use Rattle.sf_calls.specs.Checked.Lemmas.Least.{holds_within, takes_within}
use Rattle.sf_calls.specs.Checked.Lemmas.Searches.{proc}
use Rattle.sf_calls.specs.Checked.Lemmas.SetsDecidable.{free_decidable, holds_decidable, takes_decidable}

-- where each procedure has its set, so many procedures have theirs, from that number on
sets_from : {A : Type 0} (Is : (A → Type 0) → List A → Type 0) (P : ProcId → A → Type 0)
    → ((f : ProcId) → (xs : List A) × Is (P f) xs) → (count k : ℕ)
    → (sets : List (List A)) × (length sets ≡ count)
    × ((i : ℕ) (xs : List A) → slice_get sets i ≡ Some xs → Is (P (proc (k + i))) xs)
sets_from Is P has zero k = ([], refl, λ i xs at. absurd (none-some xs at))
sets_from {A} Is P has (suc count) k = put (has (proc k)) (sets_from Is P has count (suc k))
  where
    put : (xs : List A) × Is (P (proc k)) xs
        → (sets : List (List A)) × (length sets ≡ count)
        × ((i : ℕ) (xs : List A) → slice_get sets i ≡ Some xs → Is (P (proc (suc k + i))) xs)
        → (sets : List (List A)) × (length sets ≡ suc count)
        × ((i : ℕ) (xs : List A) → slice_get sets i ≡ Some xs → Is (P (proc (k + i))) xs)
    put (ys, here) (sets, size, more) = (ys ∷ sets, ap suc size, each)
      where
        each : (i : ℕ) (xs : List A) → slice_get (ys ∷ sets) i ≡ Some xs → Is (P (proc (k + i))) xs
        each zero xs at =
            subst (λ (n : ℕ). Is (P (proc n)) xs) (let e : k ≡ k + 0 = omega arith in e)
            (subst (Is (P (proc k))) (same_Some ys xs at) here)
        each (suc i) xs at =
            subst (λ (n : ℕ). Is (P (proc n)) xs) (let e : suc k + i ≡ k + suc i = omega arith in e)
            (more i xs at)

family_there : {A : Type 0} (Is : (A → Type 0) → List A → Type 0) (P : ProcId → A → Type 0)
    → ((f : ProcId) → (xs : List A) × Is (P f) xs) → (count : ℕ)
    → (sets : List (List A)) × IsFamily Is P count sets
family_there Is P has count =
    let sets = sets_from Is P has count 0 in (
      sets.0,
      record {
        each = sets.1;
        is = λ f xs at. subst (λ (n : ℕ). Is (P (proc n)) xs)
            (let e : 0 + f.0 ≡ f.0 = omega arith in e) (sets.2 f.0 xs at);
      },
    )

-- the set of those resources of the program that have a decidable property
resources_set : (p : Program) (P : ResId → Type 0) → ((r : ResId) → IsDecidable (P r))
    → ((r : ResId) → P r → r.0 < length p.resources) → (rs : List ResId) × IsResSet P rs
resources_set p P tell within =
    set_there IsEarlierResource P tell _ (resources_ordered 0 p.resources)
    (λ r h. resources_there 0 p.resources r (omega arith)
    (let below : r.0 < length p.resources = within r h in omega arith))

pub sets_there : SetsExist
sets_there p formed = (
  record { takes = takes.0; holds = holds.0; free = free.0 },
  record
      { takes = takes.1; holds = holds.1; free = free.1 },
)
  where
    takes : (sets : List (List ResId)) × IsFamily IsResSet (Takes p) (length p.procedures) sets
    takes =
        family_there IsResSet (Takes p)
        (λ f. resources_set p (Takes p f) (takes_decidable p f) (takes_within p formed f))
        (length p.procedures)

    holds : (sets : List (List ResId)) × IsFamily IsResSet (HasThroughout p) (length p.procedures) sets
    holds =
        family_there IsResSet (HasThroughout p)
        (λ f. resources_set p (HasThroughout p f) (holds_decidable p f) (holds_within p formed f))
        (length p.procedures)

    free : (sets : List (List _)) × IsFamily IsVarSet (Free p) (length p.procedures) sets
    free =
        family_there IsVarSet (Free p)
        (λ f. set_there IsEarlier (Free p f) (free_decidable p f) _ (variables_ordered 0 p.resources)
        (λ x h. free_there p f x formed h)) (length p.procedures)
