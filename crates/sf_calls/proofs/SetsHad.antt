-- That sets are a program's follows from its truncation.
use Rattle.std.proofs.Common.{◌≡◌, ℕ, ◌==◌, Bool, List}
use Rattle.std.proofs.Math.Logic.{∥∥₁_map}
use Rattle.std.proofs.Math.Nat.{ℕ_set}
use Rattle.std.specs.Bool.{Decides}
use Rattle.std.proofs.lemmas.Bool.Decides.{Decides-ltb}
use Rattle.sf_base.proofs.Elements.{contains-decides}
use Rattle.sf_base.specs.declared.ids.ProcId.{ProcId}
use Rattle.sf_base.specs.declared.ids.ResId.{ResId}
use Rattle.sf_base.specs.declared.ids.Var.{Var}
use Rattle.sf_core.specs.Machine.HasThroughout.{HasThroughout}
use Rattle.sf_calls.specs.Conditions.{Free, Takes}
use Rattle.sf_calls.specs.Checked.Laws.{SetsFromTruncation}
use Rattle.sf_calls.specs.Sets.{IsEarlier, IsEarlierResource, IsFamily, IsSetOf}
use Rattle.sf_base.specs.Variables.{same_var}
use Rattle.sf_calls.specs.Checked.Lemmas.Decidable.{IsDecidable, decidable_by}
use Rattle.sf_base.proofs.Variables.{resource-decides, same_var-decides}
use Rattle.sf_calls.specs.Checked.Lemmas.Gathered.{earlier_is}
use Rattle.sf_calls.specs.Checked.Lemmas.Had.{IsHad, had_decidable, had_exactly, had_once, had_pairs}
use Rattle.sf_calls.specs.Checked.Lemmas.SetsDecidable.{takes_decidable, holds_decidable, free_decidable}

-- that a list is such a set
set_had : {A : Type 0} (same : A → A → Bool) → ((x y : A) → Decides (same x y) (x ≡ y))
    → (B : A → A → Type 0) → ((x y : A) → IsHad (B x y)) → (P : A → Type 0) → ((x : A) → IsDecidable (P x))
    → (xs : List A) → IsHad (IsSetOf B P xs)
set_had same is B order P tell xs h = record {
  ordered = had_pairs B order xs (∥∥₁_map h (λ s. s.ordered));
  members =
      λ x. had_exactly (had_decidable (decidable_by _ (contains-decides same is xs x)))
      (had_decidable (tell x)) (∥∥₁_map h (λ s. s.members x));
}

-- that lists are such sets, each for its procedure
family_had : {A : Type 0} (Is : (A → Type 0) → List A → Type 0) (P : ProcId → A → Type 0)
    → ((f : ProcId) (xs : List A) → IsHad (Is (P f) xs)) → (count : ℕ) (sets : List (List A))
    → IsHad (IsFamily Is P count sets)
family_had Is P had count sets h = record {
  each = had_once (ℕ_set _ _) (∥∥₁_map h (λ s. s.each));
  is = λ f xs here. had f xs (∥∥₁_map h (λ s. s.is f xs here));
}

-- that a variable comes before another
earlier_had : (x y : Var) → IsHad (IsEarlier x y)
earlier_had x y = had_decidable (decidable_by _ (earlier_is x y))

-- that a resource comes before another
earlier_resource_had : (r q : ResId) → IsHad (IsEarlierResource r q)
earlier_resource_had r q = had_decidable (decidable_by _ (Decides-ltb r.0 q.0))

-- that sets are the program's
pub sets_had : SetsFromTruncation
sets_had p sets h = record {
  takes =
      family_had _ (Takes p)
      (λ f. set_had (λ r q. r.0 == q.0) resource-decides IsEarlierResource earlier_resource_had (Takes p f)
      (takes_decidable p f)) _ sets.takes (∥∥₁_map h (λ s. s.takes));
  holds =
      family_had _ (HasThroughout p)
      (λ f. set_had (λ r q. r.0 == q.0) resource-decides IsEarlierResource earlier_resource_had
      (HasThroughout p f) (holds_decidable p f)) _ sets.holds (∥∥₁_map h (λ s. s.holds));
  free =
      family_had _ (Free p)
      (λ f. set_had same_var same_var-decides IsEarlier earlier_had (Free p f) (free_decidable p f)) _ sets.free
      (∥∥₁_map h (λ s. s.free));
}
