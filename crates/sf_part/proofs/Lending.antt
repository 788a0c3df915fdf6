-- What a parent lends to its children is determined.
-- Names: the lemma of the law has the name of its function; `lent-LAW` speaks of two ways to lend.
use Rattle.std.specs.Prelude.{◌≡◌, ◌↔◌, Bool, true, false, [], ◌∷◌, is_some}
use Rattle.std.proofs.Common.{sym, ap, ap₂, ◌∙◌, refl, subst}
use Rattle.std.proofs.lemmas.Option.{same_Some}
use Rattle.sf_base.proofs.MapSplits.{map-same, union, splits-cancel_right, splits-has_left, splits-is, splits-of_empty_right}
use Rattle.sf_base.specs.declared.value.Value.TheVariants.{Nil as nil}
use Rattle.sf_base.specs.HeapStore.{Heap, Map, Splits, Store}
use Rattle.sf_core.specs.Assertions.Determined.{Determined}
use Rattle.sf_core.specs.Assertions.Sat.{Sat}
use Rattle.sf_core.specs.Machine.Config.{Frame, evaluate}
use Rattle.sf_core.specs.Machine.Whole.{Part, IsUnion}
use Rattle.sf_core.specs.Program.Syntax.{Procedure, Program}
use Rattle.sf_core.proofs.Assertions.Determined.{determined-precise}
use Rattle.sf_part.specs.Checked.LawsOfGiving.{LentSharesAreOne}
use Rattle.sf_part.specs.Lent.{IsNamed, IsShareOf}
use Rattle.sf_part.proofs.Giving.{given-same}
use Rattle.sf_part.proofs.Unions.{union-focus, union-swap}

-- two tests of one fact are one
pub test-same : (b d : Bool) (P : Type 0) → (b ≡ true) ↔ P → (d ≡ true) ↔ P → b ≡ d
test-same true d P h k = sym (k.1 (h.0 refl))
test-same false true P h k = h.1 (k.0 refl)
test-same false false P h k = refl

-- two shares of one frame in one whole are one
module _ (p : Program) (f : Frame) (one left : Part) (x : IsShareOf p f one)
    (y : IsShareOf p f left)
    (heap : Heap) (store : Store) (cells other_cells : Heap) (slots other_slots : Store)
    (determined : Determined x.procedure.pre.level)
    (one_heap : Splits heap one.heap cells) (left_heap : Splits heap left.heap other_cells)
    (one_store : Splits store one.store slots) (left_store : Splits store left.store other_slots)
  where
    procedure : y.procedure ≡ x.procedure
    procedure = same_Some y.procedure x.procedure (sym y.there ∙ x.there)

    pub lent-stores : one.store ≡ left.store
    lent-stores =
        map-same one.store left.store (λ slot. given-same (one.store slot) (left.store slot)
        (store slot)
        (test-same (is_some (one.store slot)) (is_some (left.store slot)) _ (x.variables slot)
        (subst (λ (h : Procedure). (is_some (left.store slot) ≡ true) ↔ IsNamed p f h slot)
        procedure (y.variables slot)))
        (λ v e. splits-has_left slot v one_store e) (λ v e. splits-has_left slot v left_store e))

    pub lent-heaps : one.heap ≡ left.heap
    lent-heaps = determined-precise x.procedure.pre.level (evaluate f.fixed.slots one.store)
        (λ n. nil) determined
        heap one.heap left.heap cells other_cells one_heap left_heap x.precondition
        (subst (λ (s : Store). Sat x.procedure.pre.level (evaluate f.fixed.slots s) (λ n. nil)
        left.heap)
        (sym lent-stores)
        (subst (λ (h : Procedure). Sat h.pre.level (evaluate f.fixed.slots left.store) (λ n. nil)
        left.heap)
        procedure y.precondition))

-- of three maps that make up a whole, the other two determine the first
lent-kept : {K X : Type 0} (w a b u v m n : Map K X) → IsUnion w (a ∷ u ∷ v ∷ [])
    → IsUnion w (b ∷ m ∷ n ∷ [])
    → u ≡ m → v ≡ n → a ≡ b
lent-kept w a b u v m n (x, s, (y, t, (z, r, e))) (x', s', (y', t', (z', r', e'))) first second =
    let rest : y ≡ v = splits-of_empty_right e r in
    let rest' : y' ≡ n = splits-of_empty_right e' r' in
    let others : x ≡ union u v = splits-is t ∙ ap (union u) rest in
    let others' : x' ≡ union m n = splits-is t' ∙ ap (union m) rest' in
    let same : x ≡ x' = others ∙ ap₂ union first second ∙ sym others' in
    splits-cancel_right (subst (λ i. Splits w a i) same s) s'

pub lent_shares_are_one : LentSharesAreOne
unfolding LentSharesAreOne
lent_shares_are_one p all a b one two left right f g determined h k x y z w =
    let first = union-swap all.heap a.heap one.heap (two.heap ∷ []) h.heap in
    let first' = union-swap all.heap b.heap left.heap (right.heap ∷ []) k.heap in
    let slots = union-swap all.store a.store one.store (two.store ∷ []) h.store in
    let slots' = union-swap all.store b.store left.store (right.store ∷ []) k.store in
    let second = union-focus (a.heap ∷ one.heap ∷ []) two.heap [] all.heap h.heap in
    let second' = union-focus (b.heap ∷ left.heap ∷ []) right.heap [] all.heap k.heap in
    let others = union-focus (a.store ∷ one.store ∷ []) two.store [] all.store h.store in
    let others' = union-focus (b.store ∷ left.store ∷ []) right.store [] all.store k.store in
    let left_pre = determined f.fixed.procedure.0 x.procedure x.there in
    let right_pre = determined g.fixed.procedure.0 z.procedure z.there in
    let one_heap = lent-heaps p f one left x y all.heap all.store first.0 first'.0 slots.0 slots'.0
    left_pre
    first.1 first'.1 slots.1 slots'.1 in
    let one_store = lent-stores p f one left x y all.heap all.store first.0 first'.0 slots.0
    slots'.0 left_pre
    first.1 first'.1 slots.1 slots'.1 in
    let two_heap = lent-heaps p g two right z w all.heap all.store second.0 second'.0 others.0
    others'.0 right_pre
    second.1 second'.1 others.1 others'.1 in
    let two_store = lent-stores p g two right z w all.heap all.store second.0 second'.0 others.0
    others'.0 right_pre
    second.1 second'.1 others.1 others'.1 in (
      one_heap,
      one_store,
      two_heap,
      two_store,
      lent-kept all.heap a.heap b.heap one.heap two.heap left.heap right.heap h.heap k.heap one_heap
          two_heap,
      lent-kept all.store a.store b.store one.store two.store left.store right.store h.store k.store
          one_store
          two_store,
    )
