-- Locations that differ and all have a cell are no more than the cells.
use Rattle.std.proofs.Common.{◌≡◌, ◌==◌, ◌||◌, ℕ, ◌-◌, ◌<◌, ◌≤◌, ◌++◌, Bool, true, false, cond, List, [], ◌∷◌, length, None, is_some, refl, sym, ap, ◌∙◌, subst, arith}
use Rattle.std.specs.FinMap.{get, remove, len, len-remove, get-remove, empty_of_len, get-empty}
use Rattle.std.specs.List.{list_any}
use Rattle.std.specs.Ordering.{nat_cmp, eq_by_cmp}
use Rattle.std.proofs.lemmas.Bool.{false≢true}
use Rattle.std.proofs.lemmas.Bool.Decides.{nat_tests}
use Rattle.std.proofs.lemmas.Cmp.{nat_cmp_total}
use Rattle.sf_heap.specs.Cells.{Cells, HasCell}
use Rattle.sf_base.specs.declared.ids.FieldId.{FieldId}
use Rattle.sf_base.specs.declared.value.Value.{Value}
use Rattle.sf_foot.specs.Checked.Walks.{DoubleWalk, empty, linked, SegmentWalk, end, cell, TreesWalk, none, leaf, node}
use Rattle.sf_foot.proofs.Parts.{Distinct}

-- each of the locations has a cell
abbrev pub AllHave : Cells → List ℕ → Type 0
AllHave heap [] = Unit {0}
AllHave heap (l ∷ ls) = HasCell heap l × AllHave heap ls

-- without one location, the others still have theirs
have-without : (heap : Cells) (l : ℕ) (ls : List ℕ) → list_any (λ m. l == m) ls ≡ false → AllHave heap ls
    → AllHave (remove heap l) ls
have-without heap l [] new all = tt
have-without heap l (m ∷ ls) new all =
    let parts = none_of (l == m) (list_any (λ k. l == k) ls) new in (
      ap is_some (get-remove nat_cmp_total heap l m) ∙ ap (λ b. is_some (cond b None (get heap m))) (other l m parts.0) ∙ all.0,
      have-without heap l ls parts.1 all.1,
    )
  where
    none_of : (a b : Bool) → a || b ≡ false → (a ≡ false) × (b ≡ false)
    none_of true b e = absurd (false≢true (sym e))
    none_of false b e = (refl, e)

    other : (l m : ℕ) → (l == m) ≡ false → eq_by_cmp nat_cmp m l ≡ false
    other l m e = grind (arith, nat_tests)

pub length-distinct : (heap : Cells) (ls : List ℕ) → Distinct ls → AllHave heap ls → length ls ≤ len heap
length-distinct heap [] d all = omega arith
length-distinct heap (l ∷ ls) d all =
    let rest = length-distinct (remove heap l) ls d.1 (have-without heap l ls d.0 all.1) in
    let less = len-remove nat_cmp_total heap l ∙ ap (λ b. cond b (len heap - 1) (len heap)) all.0 in
    let some : len heap ≡ 0 → ⊥ = λ e. false≢true
    (sym (ap is_some (ap (λ h. get h l) (empty_of_len heap e) ∙ get-empty nat_cmp l)) ∙ all.0) in
    omega (arith, rest, less, some)

-- each location of a walk has a cell
pub have-segment : (heap : Cells) (next : FieldId) (to from : Value) (ls : List ℕ) → SegmentWalk heap next to from ls
    → AllHave heap ls
have-segment heap next to from ls (end e n) = subst (AllHave heap) (sym n) tt
have-segment heap next to from ls (cell o a here rest p g w e) =
    subst (AllHave heap) (sym e) (ap is_some g, have-segment heap next to _ rest w)

pub have-double : (heap : Cells) (next back : FieldId) (last to before from : Value) (ls : List ℕ)
    → DoubleWalk heap next back last to before from ls → AllHave heap ls
have-double heap next back last to before from ls (empty e b n) = subst (AllHave heap) (sym n) tt
have-double heap next back last to before from ls (linked o a here rest p g k w e) =
    subst (AllHave heap) (sym e) (ap is_some g, have-double heap next back last to from _ rest w)

pub have-trees : (heap : Cells) (left right : FieldId) (roots : List Value) (ls : List ℕ)
    → TreesWalk heap left right roots ls → AllHave heap ls
have-trees heap left right roots ls (none e n) = subst (AllHave heap) (sym n) tt
have-trees heap left right roots ls (leaf others e w) = have-trees heap left right others ls w
have-trees heap left right roots ls (node a others here rest e g w n) =
    subst (AllHave heap) (sym n) (ap is_some g, have-trees heap left right _ rest w)

-- both parts of a list have their cells
pub have-append : (heap : Cells) (xs ys : List ℕ) → AllHave heap xs → AllHave heap ys → AllHave heap (xs ++ ys)
have-append heap [] ys h k = k
have-append heap (x ∷ xs) ys h k = (h.0, have-append heap xs ys h.1 k)

-- a walk that would make more locations than there are cells meets one twice
pub too-long : (heap : Cells) (old ls : List ℕ) → AllHave heap old → AllHave heap ls → len heap < length (old ++ ls)
    → Distinct (old ++ ls) → ⊥
too-long heap old ls h k long distinct =
    let few = length-distinct heap (old ++ ls) distinct (have-append heap old ls h k) in omega (arith, few, long)
