-- A branch's order rests on nothing around it, once all that it takes from there is known.
use Rattle.std.proofs.Common.{◌≡◌, ℕ, Bool, true, false, not, ◌&&◌, Option, Some, None, Result, Ok, Err, IfErr, refl, sym, ap, ap₂, ◌∙◌, subst, inl, inr}
use Rattle.std.proofs.lemmas.Bool.{and_parts, not-true}
use Rattle.sf_base.specs.declared.place.Place.{Place}
use Rattle.sf_core.specs.declared.assertion.Operand.{Operand}
use Rattle.sf_core.specs.declared.assertion.Operand.TheVariants.{Exists}
use Rattle.sf_core.specs.declared.assertion.Scope.{Scope}
use Rattle.sf_core.specs.declared.assertion.Test.{Test}
use Rattle.sf_core.specs.Assertions.Determined.{CanBeTaken, Determined, HasOrder, known_inside}
use Rattle.sf_core.specs.Assertions.InOrder.{IsInOrder}
use Rattle.sf_core.specs.Assertions.Occurs.{OccursInAll}
use Rattle.sf_core.specs.Assertions.Scopes.{is_made_by}
use Rattle.sf_core.specs.Program.Syntax.{choose, Conjuncts, Level, level}
use Rattle.sf_precise.specs.declared.fault.OrderFault.{OrderFault}
use Rattle.sf_precise.specs.declared.fault.OrderFault.TheVariants.{Undetermined, OutOfMemory}
use Rattle.sf_precise.specs.Order.{IsOrder, IsOrderFrom}
use Rattle.sf_precise.specs.Checked.Prepared.{IsBranch, IsPrepared, IsSuppliedLevel, joined}
use Rattle.sf_precise.specs.Taken.{IfUndetermined, NeverTakenFrom}
use Rattle.sf_precise.specs.Checked.Waits.{known_outside}
use Rattle.sf_precise.specs.Checked.Lemmas.Agree.{agree-is_order, agree-order}
use Rattle.sf_precise.specs.Checked.Lemmas.Greedy.{order-has, order-stands, taken-branches, taken-supplied}
use Rattle.sf_precise.specs.Checked.Lemmas.NeverTaken.{never-no_order}

inside-outside : (made : Scope) (known : ℕ → Bool) (n : ℕ) → known_inside made known n ≡ true
    → known_outside (Some made) n ≡ true
inside-outside made known n e = (and_parts (known n) (not (is_made_by made n)) e).1

module _ {E : Type 0} where
  -- the existentials that a level makes
  abbrev pub made_of : Level E → Scope
  made_of (level made cs) = made

  outside-inside : (made : Scope) (cs : Conjuncts E) (known : ℕ → Bool)
      → IsSuppliedLevel known (level made cs) → (n : ℕ) → OccursInAll cs (Exists n)
      → known_outside (Some made) n ≡ true → known_inside made known n ≡ true
  outside-inside made cs known s n o e = ap₂ ◌&&◌ (s n (o, not-true (is_made_by made n) e)) e

  -- a branch that is in order is so from whatever supplies it
  pub branch-ordered : (made : Scope) (a o : Level E) → made_of a ≡ made
      → IsOrderFrom (known_outside (Some made)) a o → IsBranch a (Some o)
  branch-ordered made a (level m os) e i known s =
      let same : m ≡ made = sym (ap made_of i.1) ∙ e in
      let s' : IsSuppliedLevel known (level m i.0) = subst (IsSuppliedLevel known) i.1 s in (
        i.0,
        i.1,
        agree-is_order (known_outside (Some m)) (known_inside m known) i.0 os
            (record { to = outside-inside m i.0 known s'; from = λ n o. inside-outside m known n })
            (subst (λ (z : Scope). IsOrder (known_outside (Some z)) i.0 os) (sym same) i.2),
      )

  -- a branch of which a conjunct is never taken has no order, whatever supplies it
  pub branch-stuck : (made : Scope) (a : Level E) (p : Place) → made_of a ≡ made
      → NeverTakenFrom (known_outside (Some made)) a p → IsBranch a None
  branch-stuck made (level m cs) p e n known s h =
      never-no_order (known_outside (Some made)) cs cs p n
      (subst (λ (z : Scope). HasOrder (known_outside (Some z)) cs) e
      (agree-order (known_inside m known) (known_outside (Some m)) cs
      (λ k o. inside-outside m known k) h))

  -- a choice of which a branch has no order is never taken
  pub choice-never_this : (known : ℕ → Bool) (p : Place) (t : Test (Operand E)) (this that : Level E)
      → IsBranch this None → CanBeTaken known (choose p t this that) → ⊥
  choice-never_this known p t this that n f =
      n known (λ k o. taken-supplied known (choose p t this that) p t this that refl f k (inr (inl o)))
      (taken-branches known p t this that f).0

  pub choice-never_that : (known : ℕ → Bool) (p : Place) (t : Test (Operand E)) (this that : Level E)
      → IsBranch that None → CanBeTaken known (choose p t this that) → ⊥
  choice-never_that known p t this that n f =
      n known (λ k o. taken-supplied known (choose p t this that) p t this that refl f k (inr (inr o)))
      (taken-branches known p t this that f).1

  -- a choice is prepared where its branches are in order, or have none
  pub choice-prepared : (p : Place) (t : Test (Operand E)) (this that : Level E) (a b : Option (Level E))
      → IsBranch this a → IsBranch that b → IsPrepared (choose p t this that) (joined p t a b)
  choice-prepared p t this that None b i j = λ known f. choice-never_this known p t this that i f
  choice-prepared p t this that (Some o) None i j = λ known f. choice-never_that known p t this that j f
  choice-prepared p t this that (Some o) (Some u) i j =
      λ known s. (this, that, refl, i known (λ n k. s n (inr (inl k))), j known (λ n k. s n (inr (inr k))))

  -- a level in order is determined, and one with a conjunct that is never taken is not
  pub ordered-determined : (a o : Level E) → IsOrderFrom (λ n. false) a o → Determined a
  ordered-determined a (level made os) i = subst Determined (sym i.1) (order-has (λ n. false) i.0 os i.2)

  pub never-undetermined : (a : Level E) (p : Place) → NeverTakenFrom (λ n. false) a p → Determined a → ⊥
  never-undetermined (level made cs) p n d = never-no_order (λ n. false) cs cs p n d

  -- a level in order is in order
  pub ordered-stands : (a o : Level E) → IsOrderFrom (λ n. false) a o → IsInOrder o
  ordered-stands a (level made os) i = order-stands (λ n. false) i.0 os i.2

  -- a fault that names a conjunct that is never taken names none of a determined level
  pub undetermined-not : (a : Level E) (e : OrderFault) → IfUndetermined e (NeverTakenFrom (λ n. false) a)
      → IfUndetermined e (λ p. Determined a → ⊥)
  undetermined-not a (Undetermined p) n = never-undetermined a p n
  undetermined-not a OutOfMemory n = tt

  pub error-not : {X : Type 0} (r : Result X OrderFault) (a : Level E)
      → IfErr r (λ e. IfUndetermined e (NeverTakenFrom (λ n. false) a))
      → IfErr r (λ e. IfUndetermined e (λ p. Determined a → ⊥))
  error-not (Ok x) a h = h
  error-not (Err e) a h = undetermined-not a e h
