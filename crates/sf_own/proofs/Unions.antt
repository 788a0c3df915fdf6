-- A parent and its children together, as what they own.
-- Names: `children-LAW`, `whole-same`.
use Rattle.std.specs.Prelude.{◌≡◌, Bool, false, cond, [], ◌∷◌, Option, Some, None}
use Rattle.std.proofs.Common.{sym, ap, ◌∙◌, refl, subst}
use Rattle.sf_base.proofs.MapSplits.{empty-holds, splits-empty_right, splits-is, splits-of_empty_right}
use Rattle.sf_base.specs.declared.ids.ResId.{ResId}
use Rattle.sf_base.specs.HeapStore.{Map, Splits}
use Rattle.sf_core.specs.Machine.Whole.{Part, IsUnion}
use Rattle.sf_own.specs.Checked.Safe.{own_of}
use Rattle.sf_part.specs.Steps.{HasChildren}
use Rattle.sf_safe.specs.Checked.Own.{Own, Parts, nothing}
use Rattle.sf_safe.specs.Checked.Owns.{Sums, own-same, parts-nothing}

-- two parts make up one whole
pub whole-same : {w x u v : Own} → Parts w u v → Parts x u v → w ≡ x
whole-same {w} {x} p q = own-same w x (splits-is p.cells ∙ sym (splits-is q.cells))
    (splits-is p.slots ∙ sym (splits-is q.slots)) (splits-is p.tokens ∙ sym (splits-is q.tokens))

-- what holds none has no token
pub tokens-none : (a : Part) → a.holds ≡ (λ r. false) → (own_of a).tokens ≡ (λ r. None)
tokens-none a e =
    ap (λ (h : ResId → Bool). λ r. cond {A = Option (Unit {0})} (h r) (Some tt) None) e

-- parts that hold the same have the same
pub tokens-same : (a b : Part) → a.holds ≡ b.holds → (own_of a).tokens ≡ (own_of b).tokens
tokens-same a b e =
    ap (λ (h : ResId → Bool). λ r. cond {A = Option (Unit {0})} (h r) (Some tt) None) e

-- a union of two is them
union-two : {K X : Type 0} {w u v : Map K X} → IsUnion w (u ∷ v ∷ []) → Splits w u v
union-two {w = w} {u} (x, s, (y, t, e)) = subst (Splits w u) (splits-of_empty_right e t) s

-- no tokens are no tokens twice
none-split : Splits {K = ResId} {X = Unit {0}} (λ r. None) (λ r. None) (λ r. None)
none-split = splits-empty_right empty-holds

-- all that a parent and its children have
pub children-sums : (a one two all : Part) → HasChildren a one two all
    → Sums (own_of all) (own_of a ∷ own_of one ∷ own_of two ∷ [])
children-sums a one two all h = (
  rest,
  record {
    cells = h.heap.1;
    slots = h.store.1;
    tokens = subst (λ z. Splits (own_of all).tokens z (λ r. None)) (tokens-same all a h.holds)
        (splits-empty_right empty-holds);
  },
  (
    own_of two,
    record {
      cells = union-two h.heap.2;
      slots = union-two h.store.2;
      tokens = subst (λ z. Splits (λ r. None) z (own_of two).tokens)
          (sym (tokens-none one h.left_one.holds))
          (subst (λ z. Splits (λ r. None) (λ r. None) z) (sym (tokens-none two h.right_one.holds))
          none-split);
    },
    (nothing, parts-nothing (own_of two), refl),
  ),
)
  where
    rest : Own
    rest = record { cells = h.heap.0; slots = h.store.0; tokens = λ r. None }
