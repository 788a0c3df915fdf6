-- A content that is just its resource's is the share of a free resource, and the other way round.
-- Names: `content-LAW`.
use Rattle.std.specs.Prelude.{◌≡◌, ◌==◌, ◌&&◌, ◌<◌, ℕ, true, ltb, length, Option, Some, None, is_some}
use Rattle.std.proofs.Common.{true≢false, sym, ap, ◌∙◌, refl, subst, arith}
use Rattle.std.proofs.lemmas.Bool.Decides.{nat_tests}
use Rattle.sf_base.proofs.Bools.{bool-same}
use Rattle.sf_base.specs.declared.ids.ResId.{ResId}
use Rattle.sf_base.specs.declared.ids.Var.{Var}
use Rattle.sf_base.specs.declared.ids.Var.TheVariants.{Own as OwnVar, Shared}
use Rattle.sf_base.specs.declared.value.Value.{Value}
use Rattle.sf_base.specs.HeapStore.{Slot, shared, own}
use Rattle.sf_core.specs.Machine.Start.{entry_slot}
use Rattle.sf_core.specs.Machine.Whole.{Content}
use Rattle.sf_core.specs.Program.Formed.{IsOfResource}
use Rattle.sf_core.specs.Program.Syntax.{Program}
use Rattle.sf_own.proofs.Tokens.{token_of}
use Rattle.sf_part.specs.Given.{IsContentOf, is_variable_of}
use Rattle.sf_safe.specs.Checked.Contract.{FreeShare}
use Rattle.sf_safe.specs.Checked.Own.{Own, HasSlot}

-- what a content owns
abbrev pub share_of : Content → Own
share_of k = record { cells = k.heap; slots = k.store; tokens = token_of k.resource }

-- the content that a share is
abbrev pub content_of : ResId → Own → Content
content_of r w = record { resource = r; heap = w.cells; store = w.slots }

pub there-is : {X : Type 0} (o : Option X) → is_some o ≡ true → (x : X) × (o ≡ Some x)
there-is (Some x) e = (x, refl)
there-is None e = absurd (cc)

test-of : (q r i n : ℕ) → q ≡ r → i < n → (q == r) && ltb i n ≡ true
test-of q r i n e l = grind (arith, nat_tests)

of-test : (q r i n : ℕ) → (q == r) && ltb i n ≡ true → (q ≡ r) × (i < n)
of-test q r i n h = (grind (arith, nat_tests, h), grind (arith, nat_tests, h))

-- a content is a share
pub content-free : (p : Program) (k : Content) → IsContentOf p k
    → FreeShare p k.resource (share_of k)
content-free p k c = record {
  resource = c.resource;
  there = c.there;
  variables = record { each = each; only = only };
  tokens = refl;
  invariant = c.invariant;
}
  where
    count : ℕ
    count = length c.resource.variables

    each : (x : Var) → IsOfResource k.resource.0 (length c.resource.variables) x
        → HasSlot (share_of k) (entry_slot x)
    each (OwnVar i) v = absurd v
    each (Shared q i) v = there-is (k.store (shared q i))
        (c.variables (shared q i)
        ∙ test-of q.0 k.resource.0 i (length c.resource.variables) v.0 v.1)

    only : (slot : Slot) (v : Value) → k.store slot ≡ Some v
        → (x : Var) × IsOfResource k.resource.0 (length c.resource.variables) x
        × (entry_slot x ≡ slot)
    only (own e i) v h = absurd (true≢false (sym (ap is_some h) ∙ c.variables (own e i)))
    only (shared q i) v h = (
      Shared q i,
      of-test q.0 k.resource.0 i (length c.resource.variables)
          (sym (c.variables (shared q i)) ∙ ap is_some h),
      refl,
    )

-- and a share is a content
pub content-of_free : (p : Program) (r : ResId) (w : Own) → FreeShare p r w
    → IsContentOf p (content_of r w)
content-of_free p r w f = record {
  resource = f.resource;
  there = f.there;
  variables = λ slot. go slot;
  invariant = f.invariant;
}
  where
    found : (slot : Slot) (x : Var) → IsOfResource r.0 (length f.resource.variables) x
        → entry_slot x ≡ slot → is_variable_of r (length f.resource.variables) slot ≡ true
    found slot (OwnVar i) v e = absurd v
    found slot (Shared q i) v e =
        subst (λ z. is_variable_of r (length f.resource.variables) z ≡ true) e
        (test-of q.0 r.0 i (length f.resource.variables) v.0 v.1)

    there : (slot : Slot) → is_some (w.slots slot) ≡ true
        → is_variable_of r (length f.resource.variables) slot ≡ true
    there slot e =
        let v = there-is (w.slots slot) e in
        let x = f.variables.only slot v.0 v.1 in
        found slot x.0 x.1 x.2

    back : (slot : Slot) → is_variable_of r (length f.resource.variables) slot ≡ true
        → is_some (w.slots slot) ≡ true
    back (own e i) h = absurd (cc)
    back (shared q i) h =
        ap is_some (f.variables.each (Shared q i)
        (of-test q.0 r.0 i (length f.resource.variables) h)).1

    go : (slot : Slot) → is_some (w.slots slot)
        ≡ is_variable_of r (length f.resource.variables) slot
    go slot = bool-same (is_some (w.slots slot))
        (is_variable_of r (length f.resource.variables) slot)
        (there slot) (back slot)
