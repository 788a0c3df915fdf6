-- A procedure whose contract mentions no variable of a resource uses none outside its regions: else one would
-- be where its resource isn't held, which the conditions on variables forbid.
use Rattle.std.specs.Prelude.{◌≡◌, ℕ, List, ◌++◌, Contains, Some, slice_get}
use Rattle.std.proofs.Common.{sym, refl, subst, inl, inr}
use Rattle.std.proofs.lemmas.List.Elements.{Contains-append_cases}
use Rattle.sf_base.specs.declared.ids.ProcId.{ProcId}
use Rattle.sf_base.specs.declared.ids.ResId.{ResId}
use Rattle.sf_base.specs.declared.ids.Var.{Var}
use Rattle.sf_base.specs.declared.ids.Var.TheVariants.{Shared}
use Rattle.sf_base.specs.declared.place.Place.{Place}
use Rattle.sf_base.proofs.Elements.{contains-nil}
use Rattle.sf_base.proofs.Members.{contains-flat_map_from}
use Rattle.sf_core.specs.declared.command.Occurrence.{Occurrence}
use Rattle.sf_core.specs.Machine.HasThroughout.{HasThroughout}
use Rattle.sf_core.specs.Program.Formed.{IsFormed}
use Rattle.sf_core.specs.Program.Heads.{Somewhere, call_occurrences, head_calls, head_occurrences, head_regions, occurrences_at}
use Rattle.sf_core.specs.Program.Syntax.{Block, Call, Command, with, Procedure, Program}
use Rattle.sf_calls.specs.declared.breach.Breach.TheVariants.{NotHeld}
use Rattle.sf_calls.specs.Around.{IsHeld}
use Rattle.sf_calls.specs.Breaks.{BreaksAt, OccursAt}
use Rattle.sf_calls.specs.Conditions.{Free, FreeIn}
use Rattle.sf_calls.specs.FirstBreach.{Conditions}
use Rattle.sf_calls.specs.Outside.{CallsIn, OccursOutside}
use Rattle.sf_calls.specs.Reaches.{directly, through}
use Rattle.sf_calls.specs.Checked.Lemmas.Broken.{first_broken}
use Rattle.sf_calls.specs.Checked.Lemmas.Sites.{among_at}

-- what occurs at a command occurs in it itself, or in one of its calls
occurs-at : (c : Command) (y : Occurrence) → Contains (occurrences_at c) y → OccursAt y c
occurs-at c y k = elim (Contains-append_cases (head_occurrences c) _ y k) [
  | inl h ↦ inl h
  | inr h ↦ inr (contains-flat_map_from call_occurrences (head_calls c) y h)
]

-- a command that makes a call is no region
calls-no_region : (c : Command) (d : Call) (r : ResId) → Contains (head_calls c) d
    → Contains (head_regions c) r → ⊥
calls-no_region (with q s t c) d r k m = contains-nil d k
calls-no_region _ d r k m = contains-nil r m

module _ (p : Program) (f : ProcId) (r : ResId) (i : ℕ) where
  abbrev x : Var
  x = Shared r i

  -- the variable there
  abbrev at_ : Place → Occurrence
  at_ place = record { var = x; place = place }

  is-at : (y : Occurrence) → y.var ≡ x → y ≡ at_ y.place
  is-at y e = λ j. record { var = e j; place = y.place }

  -- it is where its resource isn't held
  abbrev Broken : Block → Type 0
  Broken b = (place : Place) × Somewhere (BreaksAt p f (NotHeld place x)) b

  -- what the contract doesn't hold, and no region around enters, isn't held
  unheld : (HasThroughout p f r → ⊥) → (entered : List ResId) → (Contains entered r → ⊥) → IsHeld p f entered r → ⊥
  unheld n entered out (inl h) = n h
  unheld n entered out (inr c) = out c

  block-occurs : (HasThroughout p f r → ⊥) → (b : Block) → OccursOutside x b → Broken b
  block-occurs n b (s, m, (out, a)) =
      let y = among_at x (occurrences_at s.command) a in (
        y.0.place,
        (
          s,
          m,
          (
            unheld n (head_regions s.command ++ s.entered) out,
            inl (subst (λ (z : Occurrence). OccursAt z s.command) (is-at y.0 y.2) (occurs-at s.command y.0 y.1)),
          ),
        ),
      )

  block-calls : (HasThroughout p f r → ⊥) → (g : ProcId) → Free p g x → (b : Block) → CallsIn (Some r) g b → Broken b
  block-calls n g free b (s, m, (out, (d, k, e))) = (
    d.place,
    (
      s,
      m,
      (
        unheld n (head_regions s.command ++ s.entered)
            (λ c. elim (Contains-append_cases (head_regions s.command) s.entered r c) [
              | inl h ↦ calls-no_region s.command d r k h
              | inr h ↦ out h
            ]),
        inr (d, k, (refl, subst (λ z. Free p z x) (sym e) free)),
      ),
    ),
  )

  -- the condition that a variable is only where its resource is held: then none of a resource that the contract
  -- doesn't mention is free
  pub unheld-is_not_free : IsFormed p → Conditions p → (HasThroughout p f r → ⊥) → Free p f x → ⊥
  unheld-is_not_free formed conditions n (shared_, m) = go m
    where
      broken : (h : Procedure) → slice_get p.procedures f.0 ≡ Some h → Broken h.body → ⊥
      broken h there b = (first_broken p formed).kept conditions f (NotHeld b.0 x) (h, there, b.1)

      go : FreeIn p f x → ⊥
      go (directly (h, there, inl o)) =
          n (inl (record { procedure = h; there = there; variable = i; occurs = inl o }))
      go (directly (h, there, inr (inl o))) =
          n (inl (record { procedure = h; there = there; variable = i; occurs = inr o }))
      go (directly (h, there, inr (inr o))) = broken h there (block-occurs n h.body o)
      go (through g (h, there, c) m) = broken h there (block-calls n g (tt, m) h.body c)
