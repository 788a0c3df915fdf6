-- What the conditions on variables keep apart: where a resource is entered, or taken by what is
-- called, nobody has a variable of it.
-- Names: `held-LAW` of the resources that a procedure holds, `free-LAW` of variables that are free,
-- `passed-LAW` of those that are passed.
use Rattle.std.specs.Prelude.{◌≡◌, ℕ, List, ◌∷◌, ◌++◌, None, Contains}
use Rattle.std.specs.List.{flat_map}
use Rattle.std.proofs.Common.{sym, refl, subst, inl, inr}
use Rattle.std.proofs.lemmas.List.Elements.{Contains-append_cases, Contains-append_left}
use Rattle.sf_base.proofs.Elements.{contains-nil, contains-single_of}
use Rattle.sf_base.specs.declared.ids.ProcId.{ProcId}
use Rattle.sf_base.specs.declared.ids.ResId.{ResId}
use Rattle.sf_base.specs.declared.ids.Var.{Var}
use Rattle.sf_base.specs.declared.ids.Var.TheVariants.{Shared}
use Rattle.sf_base.specs.declared.place.Place.{Place}
use Rattle.sf_base.specs.HeapStore.{Store}
use Rattle.sf_calls.specs.Around.{IsHeld}
use Rattle.sf_calls.specs.Breaks.{Breaks}
use Rattle.sf_calls.specs.Checked.Lemmas.Broken.{first_broken}
use Rattle.sf_calls.specs.Checked.Lemmas.Sites.{among_at}
use Rattle.sf_calls.specs.Conditions.{Calls, Enters, Free, Takes}
use Rattle.sf_calls.specs.declared.breach.Breach.{Breach}
use Rattle.sf_calls.specs.declared.breach.Breach.TheVariants.{NotHeld, Reentered}
use Rattle.sf_calls.specs.FirstBreach.{Conditions}
use Rattle.sf_calls.specs.Reaches.{directly, through}
use Rattle.sf_core.specs.declared.assertion.Test.{Test}
use Rattle.sf_core.specs.declared.command.Expr.{Expr}
use Rattle.sf_core.specs.declared.command.Occurrence.{Occurrence}
use Rattle.sf_core.specs.Machine.Config.{Item, command, Fixed, Frame}
use Rattle.sf_core.specs.Machine.HasThroughout.{HasThroughout}
use Rattle.sf_core.specs.Program.Formed.{IsFormed}
use Rattle.sf_core.specs.Program.Heads.{expr_occurrences, head_calls, head_regions}
use Rattle.sf_core.specs.Program.Places.{place_of}
use Rattle.sf_core.specs.Program.Syntax.{Block, Call, Command, with, Program}
use Rattle.sf_safe.proofs.Unheld.{unheld-is_not_free}
use Rattle.sf_part.specs.Of.{FrameIsOf, HasCalled, IsPassed, Passes, inside}
use Rattle.sf_part.proofs.Sites.{sites-first}

-- a command that makes a call is no region
calls-no_region : (c : Command) (d : Call) (r : ResId) → Contains (head_calls c) d
    → Contains (head_regions c) r → ⊥
calls-no_region (with q s t c) d r k m = contains-nil d k
calls-no_region _ d r k m = contains-nil r m

module _ (p : Program) (formed : IsFormed p) (conditions : Conditions p) (r : ResId) where
  unbroken : (f : ProcId) (b : Breach) → Breaks p f b → ⊥
  unbroken f b = (first_broken p formed).kept conditions f b

  -- a procedure doesn't hold what its body enters
  pub held-entered : (f : ProcId) → Enters p r f → HasThroughout p f r → ⊥
  held-entered f (h, there, (s, m, k)) held =
      unbroken f (Reentered (place_of s.command) r)
      (h, there, (s, m, (inl held, inl (refl, k))))

  -- nor what a procedure takes that it calls
  pub held-called : (g f : ProcId) → Calls p None g f → Takes p f r → HasThroughout p g r → ⊥
  held-called g f (h, there, (s, m, (out, (d, k, e)))) takes held =
      unbroken g (Reentered d.place r)
      (h, there, (s, m, (inl held, inr (d, k, (refl, subst (λ z. Takes p z r) (sym e) takes)))))

  -- nor is a frame still inside of what the one takes that it has called
  pub inside-called : (g : Frame) (f : ProcId) → HasCalled p g f → Takes p f r
      → Contains (inside g.todo) r → ⊥
  inside-called g f (h, there, (s, m, (around, (d, k, e)))) takes entered =
      unbroken g.fixed.procedure (Reentered d.place r) (
        h,
        there,
        (
          s,
          m,
          (
            inr (subst (λ z. Contains z r) (sym around) entered),
            inr (d, k, (refl, subst (λ z. Takes p z r) (sym e) takes)),
          ),
        ),
      )

  -- nor one of that whose region it is about to enter
  pub inside-entering : (store : Store) (f : Fixed) (place : Place) (test : Test Expr) (body : Block)
      (rest : List Item)
      → FrameIsOf p store (record { fixed = f; todo = command (with place r test body) ∷ rest })
      → Contains (inside rest) r → ⊥
  inside-entering store f place test body rest of entered =
      unbroken f.procedure (Reentered place r) (
        of.procedure,
        of.there,
        (
          record { entered = inside rest; command = with place r test body },
          of.todo _ (sites-first (with place r test body) rest),
          (inr entered, inl (refl, contains-single_of r r refl)),
        ),
      )

  -- which it takes too
  pub held-takes : (g f : ProcId) → Calls p None g f → Takes p f r → Takes p g r
  held-takes g f calls takes = through f calls takes

  -- A variable of the resource
  module _ (i : ℕ) where
    abbrev x : Var
    x = Shared r i

    abbrev at_ : Place → Occurrence
    at_ place = record { var = x; place = place }

    is-at : (y : Occurrence) → y.var ≡ x → y ≡ at_ y.place
    is-at y e = λ j. record { var = e j; place = y.place }

    -- it isn't free in a procedure that doesn't hold the resource
    pub free-unheld : (f : ProcId) → (HasThroughout p f r → ⊥) → Free p f x → ⊥
    free-unheld f n = unheld-is_not_free p f r i formed conditions n

    -- a procedure that is passed it doesn't take the resource
    passes-not_taken : (g f : ProcId) → Passes p x g f → Takes p f r → ⊥
    passes-not_taken g f (h, there, (s, m, (d, k, (e, a)))) takes =
        let y = among_at x d.references a in
        unbroken g (NotHeld y.0.place x) (
          h,
          there,
          (
            s,
            m,
            (
              λ held. unbroken g (Reentered d.place r) (
                h,
                there,
                (
                  s,
                  m,
                  (
                    around held,
                    inr (d, k, (refl, subst (λ z. Takes p z r) (sym e) takes)),
                  ),
                ),
              ),
              inl (inr (
                d,
                k,
                Contains-append_left d.references (flat_map expr_occurrences d.values)
                    (at_ y.0.place) (subst (Contains d.references) (is-at y.0 y.2) y.1),
              )),
            ),
          ),
        )
      where
        around : IsHeld p g (head_regions s.command ++ s.entered) r → IsHeld p g s.entered r
        around (inl held) = inl held
        around (inr c) = elim (Contains-append_cases (head_regions s.command) s.entered r c) [
          | inl here ↦ absurd (calls-no_region s.command d r k here)
          | inr here ↦ inr here
        ]

    pub passed-not_taken : (f : ProcId) → IsPassed p x f → Takes p f r → ⊥
    passed-not_taken f (directly (g, passes)) takes = passes-not_taken g f passes takes
    passed-not_taken f (through g calls passed) takes =
        passed-not_taken g passed (held-takes g f calls takes)
