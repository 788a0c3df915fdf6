-- What the conditions on variables say of one command, in the words of LocalSafe, for whoever shows bodies to be safe.
-- After the variable conditions of Berdine, Calcagno, O'Hearn, "Smallfoot" (2005).
use Rattle.std.specs.Prelude.{◌≡◌, ◌⊎◌, ◌<◌, ℕ, zero, suc, Contains, List, [], ◌∷◌, Some, slice_get}
use Rattle.std.proofs.Common.{sym, ap, ◌∙◌, refl, subst, inl, inr, arith}
use Rattle.std.proofs.lemmas.Bool.{cases_eq}
use Rattle.std.proofs.lemmas.Option.{none-some, same_Some}
use Rattle.sf_base.proofs.Elements.{contains-cons}
use Rattle.sf_base.specs.declared.ids.ProcId.{ProcId}
use Rattle.sf_base.specs.declared.ids.ResId.{ResId}
use Rattle.sf_base.specs.declared.ids.Var.{Var}
use Rattle.sf_base.specs.declared.place.Place.{Place}
use Rattle.sf_core.specs.declared.assertion.Test.{Test}
use Rattle.sf_core.specs.declared.command.Expr.{Expr}
use Rattle.sf_core.specs.declared.command.Occurrence.{Occurrence}
use Rattle.sf_core.specs.Machine.Step.{procedure_at}
use Rattle.sf_core.specs.Program.Formed.{CallWithin, HasCounts}
use Rattle.std.specs.Str.{bytes_eq}
use Rattle.sf_core.specs.Program.Heads.{Site, head_calls}
use Rattle.sf_core.specs.Program.Init.{init_name}
use Rattle.sf_core.specs.Program.Named.{name_in}
use Rattle.sf_core.specs.Program.Syntax.{Block, Call, Procedure, Program, fork, with}
use Rattle.sf_calls.specs.declared.breach.Breach.{Breach}
use Rattle.sf_calls.specs.declared.breach.Breach.TheVariants.{ParallelShares, Reentered, ReferenceIsFree, SameReference}
use Rattle.sf_calls.specs.Around.{IsHeld}
use Rattle.sf_calls.specs.Assigned.{MayChange}
use Rattle.sf_calls.specs.Breaks.{BreaksAt, IsAgain}
use Rattle.sf_calls.specs.Conditions.{Takes}
use Rattle.sf_calls.specs.Outside.{IsAmong, OccursInValues}
use Rattle.sf_safe.specs.Checked.Local.{Fits}

-- the command there breaks no condition in the body of that procedure
abbrev pub Unbroken : Program → ProcId → Site → Type 0
Unbroken p k s = (b : Breach) → BreaksAt p k b s → ⊥

slice-contains : (refs : List Occurrence) (i : ℕ) (y : Occurrence) → slice_get refs i ≡ Some y → Contains refs y
slice-contains [] i y e = absurd (none-some y e)
slice-contains (z ∷ refs) zero y e = (contains-cons z refs y).1 (inl (same_Some z y e))
slice-contains (z ∷ refs) (suc i) y e = (contains-cons z refs y).1 (inr (slice-contains refs i y e))

-- a reference whose variable was there before is there again
again : (refs : List Occurrence) (i j : ℕ) (x y : Occurrence) → slice_get refs i ≡ Some x → slice_get refs j ≡ Some y
    → x.var ≡ y.var → i < j → IsAgain y refs
again [] i j x y e f same l = absurd (none-some x e)
again (z ∷ refs) zero zero x y e f same l = absurd (omega (arith, l))
again (z ∷ refs) zero (suc j) x y e f same l =
    inl (ap (λ (o : Occurrence). o.var) (same_Some z x e) ∙ same, slice-contains refs j y f)
again (z ∷ refs) (suc i) zero x y e f same l = absurd (omega (arith, l))
again (z ∷ refs) (suc i) (suc j) x y e f same l = inr (again refs i j x y e f same (omega (arith, l)))

among-contains : (refs : List Occurrence) (x : Var) → IsAmong x refs
    → (place : Place) × Contains refs (record { var = x; place = place })
among-contains [] x a = absurd a
among-contains (y ∷ refs) x (inl e) = (
  y.place,
  (contains-cons y refs (record { var = x; place = y.place })).1
      (inl (λ i. record { var = e i; place = y.place })),
)
among-contains (y ∷ refs) x (inr a) =
    let m = among-contains refs x a in
    (m.0, (contains-cons y refs (record { var = x; place = m.0 })).1 (inr m.1))

-- a call that is well formed and breaks no condition fits its callee
pub unbroken-fits : (p : Program) (k : ProcId) (s : Site) (f g : Procedure) (c : Call) → Unbroken p k s
    → Contains (head_calls s.command) c → CallWithin p f c → procedure_at p c.callee ≡ Some g → Fits p c g
unbroken-fits p k s f g c n makes within there =
    let counts = subst (λ z. HasCounts z c) there within.callee in
    record {
      references = counts.0;
      values = counts.1;
      different = λ i j x y e h same. elim (cases_eq i j) [
        | inl k ↦ k
        | inr k ↦ absurd (elim (order i j) [
          | inl l ↦ repeated i j x y e h same l
          | inr l ↦ elim l [ inl q ↦ k q | inr q ↦ repeated j i y x h e (sym same) q ]
        ])
      ];
      not_free = λ x among free.
          let m = among-contains c.references x among in
          n (ReferenceIsFree m.0 x) (c, makes, (m.1, free));
      no_init = sym (ap (λ z. bytes_eq (name_in z) init_name) there) ∙ within.no_init;
    }
  where
    order : (i j : ℕ) → (i < j) ⊎ ((i ≡ j) ⊎ (j < i))
    order zero zero = inr (inl refl)
    order zero (suc j) = inl (omega arith)
    order (suc i) zero = inr (inr (omega arith))
    order (suc i) (suc j) = elim (order i j) [
      | inl l ↦ inl (omega (arith, l))
      | inr l ↦ inr (elim l [ inl e ↦ inl (ap suc e) | inr l ↦ inr (omega (arith, l)) ])
    ]

    repeated : (i j : ℕ) (x y : Occurrence) → slice_get c.references i ≡ Some x → slice_get c.references j ≡ Some y
        → x.var ≡ y.var → i < j → ⊥
    repeated i j x y e h same l = n (SameReference y.place y.var) (c, makes, again c.references i j x y e h same l)

-- what the one of two parallel calls may change the other may neither change nor read
pub unbroken-apart : (p : Program) (k : ProcId) (entered : List ResId) (place : Place) (c d : Call)
    → Unbroken p k (record { entered = entered; command = fork place c d }) → (x : Var)
    → MayChange p c x → (MayChange p d x ⊎ OccursInValues x d.values) → ⊥
unbroken-apart p k entered place c d n x i j =
    n (ParallelShares c.place x) ((c, d), (contains-cons (c, d) [] (c, d)).1 (inl refl), refl, inl (i, j))

-- a region that is entered isn't held
pub unbroken-enters : (p : Program) (k : ProcId) (entered : List ResId) (place : Place) (r : ResId)
    (test : Test Expr) (body : Block)
    → Unbroken p k (record { entered = entered; command = with place r test body }) → IsHeld p k entered r → ⊥
unbroken-enters p k entered place r test body n held =
    n (Reentered place r) (held, inl (refl, (contains-cons r [] r).1 (inl refl)))

-- nor is one that a call takes
pub unbroken-takes : (p : Program) (k : ProcId) (s : Site) (c : Call) → Unbroken p k s
    → Contains (head_calls s.command) c → (r : ResId) → Takes p c.callee r → IsHeld p k s.entered r → ⊥
unbroken-takes p k s c n makes r takes held = n (Reentered c.place r) (held, inr (c, makes, (refl, takes)))
