-- What a program's procedures take, hold and have free is decidable.
use Rattle.std.proofs.Common.{◌≡◌, ◌⊎◌, ◌↔◌, ◌<◌, ◌==◌, ℕ, zero, suc, List, [], ◌∷◌, ◌++◌, length, Option, None, slice_get, Contains, Bool, sym, ap, inl, inr, arith}
use Rattle.std.specs.Bool.{Decides}
use Rattle.std.proofs.lemmas.Bool.Decides.{Decides-like, Decides-eqb, Decides-ltb, eqb_tells}
use Rattle.std.proofs.lemmas.Option.{slice_get_within}
use Rattle.sf_base.proofs.Elements.{contains-decides, contains-cons}
use Rattle.sf_base.specs.declared.ids.ProcId.{ProcId}
use Rattle.sf_base.specs.declared.ids.ResId.{ResId}
use Rattle.sf_base.specs.declared.ids.Var.{Var}
use Rattle.sf_base.specs.declared.ids.Var.TheVariants.{Own, Shared}
use Rattle.sf_core.specs.Machine.HasThroughout.{HasThroughout, ContractMentions}
use Rattle.sf_core.specs.Assertions.Occurs.{VarOccursIn}
use Rattle.sf_core.specs.Program.Heads.{sites}
use Rattle.sf_core.specs.Program.Init.{sets_up}
use Rattle.sf_core.specs.Program.Syntax.{Procedure, Program}
use Rattle.sf_calls.specs.Conditions.{Calls, Free, Has, Takes}
use Rattle.sf_calls.specs.Reaches.{Reaches}
use Rattle.sf_calls.specs.Outside.{CallsIn, EntersIn, OccursOutside, owner}
use Rattle.sf_calls.specs.Checked.Listed.{entered_in, is_entered, shared_in, shared_in_levels}
use Rattle.sf_calls.specs.Checked.Tests.{callees_in}
use Rattle.sf_calls.specs.Checked.Summaries.{has, speaks_of}
use Rattle.sf_calls.specs.Checked.Lemmas.Decidable.{IsDecidable, decidable_both, decidable_by, decidable_one, listed, listed_is, passes, passes_is}
use Rattle.sf_calls.specs.Checked.Lemmas.Decided.{callees_in_are, entered_is}
use Rattle.sf_calls.specs.Checked.Lemmas.Listing.{entered_are, mentioned_are, in_contract_are}
use Rattle.sf_calls.specs.Checked.Lemmas.Paths.{decidable_reaches}
use Rattle.sf_calls.specs.Checked.Lemmas.Rows.{Speaks, speaks_is, has_is as list_has_is}
use Rattle.sf_calls.specs.Checked.Lemmas.Searches.{proc}

-- one procedure
same_procedure : (f g : ProcId) → IsDecidable (f ≡ g)
same_procedure f g =
    elim (eqb_tells f.0 g.0) [
      | inl e ↦ inl (ap proc e.1)
      | inr e ↦ inr (λ h. e.1 (ap (λ (k : ProcId). k.0) h))
    ]

-- the procedures below that number
abbrev procedures_below : ℕ → List ProcId
procedures_below zero = []
procedures_below (suc n) = proc n ∷ procedures_below n

procedure_below : (n : ℕ) (f : ProcId) → f.0 < n → Contains (procedures_below n) f
procedure_below zero f below = absurd (omega (arith, below))
procedure_below (suc n) f below = elim (eqb_tells f.0 n) [
  | inl e ↦ (contains-cons (proc n) (procedures_below n) f).1 (inl (ap proc (sym e.1)))
  | inr e ↦
      (contains-cons (proc n) (procedures_below n) f).1
      (inr (procedure_below n f (let other : f.0 ≡ n → ⊥ = e.1 in omega (arith, below))))
]

-- whoever has a property is one of the program's
has_there : (p : Program) (P : Procedure → Type 0) (f : ProcId) → Has p P f
    → Contains (procedures_below (length p.procedures)) f
has_there p P f h = procedure_below (length p.procedures) f (slice_get_within p.procedures f.0 h.0 h.1)

-- the procedures that the procedure calls outside the regions of the resource that is left out
abbrev called : Program → Option ResId → ProcId → List ProcId
called p but f = listed (λ (h : Procedure). callees_in but (sites [] h.body)) (slice_get p.procedures f.0)

-- they are those
called_are : (p : Program) (but : Option ResId) (f g : ProcId) → Contains (called p but f) g ↔ Calls p but f g
called_are p but f g =
    listed_is (λ (h : Procedure). callees_in but (sites [] h.body)) (λ h k. CallsIn but k h.body)
    (λ h k. callees_in_are but k h.body) (slice_get p.procedures f.0) g

-- a test of the procedure of that number decides whether it is one of those
has_is : (p : Program) (t : Procedure → Bool) (P : Procedure → Type 0)
    → ((h : Procedure) → Decides (t h) (P h)) → (f : ProcId)
    → Decides (passes t (slice_get p.procedures f.0)) (Has p P f)
has_is p t P is f = passes_is t P is (slice_get p.procedures f.0)

-- whether the one calls the other is decidable
calls_decidable : (p : Program) (but : Option ResId) (f g : ProcId) → IsDecidable (Calls p but f g)
calls_decidable p but f g =
    let are = called_are p but f g in
    decidable_by _
    (Decides-like _ are.0 are.1 (contains-decides (λ (h k : ProcId). h.0 == k.0)
    (λ h k. Decides-like _ (ap proc) (ap (λ (j : ProcId). j.0)) (Decides-eqb h.0 k.0))
    (called p but f) g))

-- what reaches along calls to a procedure with a property
module _ (p : Program) (t : Procedure → Bool) (P : Procedure → Type 0)
    (is : (h : Procedure) → Decides (t h) (P h)) where
  along_calls : (but : Option ResId) (f : ProcId) → IsDecidable (Reaches (Has p P) (Calls p but) f)
  along_calls but f =
      decidable_reaches (Has p P) (Calls p but) (procedures_below (length p.procedures)) (has_there p P)
      (λ g h c. has_there p (λ k. CallsIn but h k.body) g c)
      same_procedure (λ g. decidable_by _ (has_is p t P is g)) (calls_decidable p but) f

-- the list of its regions decides whether a procedure enters a resource
enters_is : (r : ResId) (h : Procedure) → Decides (is_entered r (entered_in (sites [] h.body))) (EntersIn r h.body)
enters_is r h =
    let are = entered_are r h.body in Decides-like _ are.0 are.1 (entered_is r (entered_in (sites [] h.body)))

-- whether a procedure takes a resource
pub takes_decidable : (p : Program) (f : ProcId) (r : ResId) → IsDecidable (Takes p f r)
takes_decidable p f r =
    along_calls p (λ h. is_entered r (entered_in (sites [] h.body))) (λ h. EntersIn r h.body) (enters_is r) None f

-- the variables of resources that a procedure mentions, and those of its pre and post
abbrev mentioned : Procedure → List Var
mentioned h = shared_in_levels h.pre.level h.post.level ++ shared_in (sites [] h.body)

abbrev in_contract : Procedure → List Var
in_contract h = shared_in_levels h.pre.level h.post.level

-- they decide whether it mentions a resource's variable
mentions_is : (r : ResId) (i : ℕ) (h : Procedure)
    → Decides (has (Shared r i) (mentioned h))
    (VarOccursIn h.pre.level (Shared r i)
    ⊎ (VarOccursIn h.post.level (Shared r i) ⊎ OccursOutside (Shared r i) h.body))
mentions_is r i h =
    let are = mentioned_are h.pre.level h.post.level h.body (Shared r i) in
    Decides-like _ (λ c. (are.0 c).1) (λ m. are.1 (tt, m)) (list_has_is (Shared r i) (mentioned h))

-- whether a variable is free in a procedure
pub free_decidable : (p : Program) (f : ProcId) (x : Var) → IsDecidable (Free p f x)
free_decidable p f (Own n) = inr (λ h. h.0)
free_decidable p f (Shared r i) =
    decidable_both (inl tt)
    (along_calls p (λ h. has (Shared r i) (mentioned h)) _ (mentions_is r i) (owner (Shared r i)) f)

-- they decide whether its pre or its post speaks of a resource
speaks_of_is : (r : ResId) (h : Procedure)
    → Decides (speaks_of r (in_contract h))
    ((n : ℕ) × (VarOccursIn h.pre.level (Shared r n) ⊎ VarOccursIn h.post.level (Shared r n)))
unfolding Speaks
speaks_of_is r h = Decides-like _ to from (speaks_is r (in_contract h))
  where
    to : Speaks r (in_contract h)
        → (n : ℕ) × (VarOccursIn h.pre.level (Shared r n) ⊎ VarOccursIn h.post.level (Shared r n))
    to s = (s.0, ((in_contract_are h.pre.level h.post.level (Shared r s.0)).0 s.1).1)

    from : (n : ℕ) × (VarOccursIn h.pre.level (Shared r n) ⊎ VarOccursIn h.post.level (Shared r n))
        → Speaks r (in_contract h)
    from m = (m.0, (in_contract_are h.pre.level h.post.level (Shared r m.0)).1 (tt, m.1))

-- whether its contract mentions it
mentions_decidable : (p : Program) (f : ProcId) (r : ResId) → IsDecidable (ContractMentions p f r)
mentions_decidable p f r =
    decidable_by _
    (Decides-like _ to from (has_is p (λ h. speaks_of r (in_contract h)) _ (speaks_of_is r) f))
  where
    to : Has p
        (λ h. (n : ℕ) × (VarOccursIn h.pre.level (Shared r n) ⊎ VarOccursIn h.post.level (Shared r n))) f
        → ContractMentions p f r
    to h = record { procedure = h.0; there = h.1; variable = h.2.0; occurs = h.2.1 }

    from : ContractMentions p f r
        → Has p
        (λ h. (n : ℕ) × (VarOccursIn h.pre.level (Shared r n) ⊎ VarOccursIn h.post.level (Shared r n))) f
    from b = (b.procedure, b.there, (b.variable, b.occurs))

-- whether a procedure holds a resource
pub holds_decidable : (p : Program) (f : ProcId) (r : ResId) → IsDecidable (HasThroughout p f r)
holds_decidable p f r =
    decidable_one (mentions_decidable p f r)
    (decidable_both (decidable_by (sets_up p f) (λ e. e, λ e. e))
    (decidable_by _ (Decides-ltb r.0 (length p.resources))))
