-- Footprints in a heap and in what is left of it without some cells.
-- Names: `without-LAW` for what is left; `foot-LAW` and `part-LAW` for footprints and parts in it.
use Rattle.std.proofs.Common.{◌≡◌, ◌≢◌, ◌⊎◌, ◌||◌, ℕ, Bool, true, false, cond, nat_eq, List, ◌++◌, Option, Some, None, Contains, refl, sym, ap, ap₂, ◌∙◌, subst, inl, inr}
use Rattle.std.specs.Option.{option_or}
use Rattle.std.specs.Set.{is_member}
use Rattle.std.proofs.lemmas.Bool.{false≢true}
use Rattle.std.specs.Bool.{Decides}
use Rattle.std.proofs.lemmas.Bool.Decides.{Decides-eqb}
use Rattle.std.proofs.lemmas.List.Folds.{list_any-append}
use Rattle.std.proofs.lemmas.Map.Made.{is_member-Decides}
use Rattle.sf_base.specs.declared.ids.Var.{Var}
use Rattle.sf_base.specs.declared.value.Value.{Value}
use Rattle.sf_base.specs.declared.value.Value.TheVariants.{Nil as nil}
use Rattle.sf_base.specs.HeapStore.{Apart, Cell, Heap, Splits}
use Rattle.sf_base.proofs.Bools.{bool-same}
use Rattle.sf_base.proofs.MapSplits.{apart-none, map-same, splits-lacks_right}
use Rattle.sf_base.proofs.Options.{some-none, some-or_none}
use Rattle.sf_core.specs.declared.command.Expr.{Expr}
use Rattle.sf_core.specs.Checked.Assertions.Precise.{IsPrecise}
use Rattle.sf_core.specs.Assertions.Sat.{Foot, Sat, value}
use Rattle.sf_core.specs.Program.Syntax.{Level}
use Rattle.sf_foot.specs.Footprint.{IsFootprint}
use Rattle.sf_state.specs.Starts.{without}

-- a number is a member where the list has it
pub member-decides : (ls : List ℕ) (l : ℕ) → Decides (is_member nat_eq ls l) (Contains ls l)
member-decides ls l = is_member-Decides Decides-eqb ls l

-- what isn't there at a location that was taken away
pub without-taken : (ls : List ℕ) (heap : Heap) (l : ℕ) → is_member nat_eq ls l ≡ true → without ls heap l ≡ None
without-taken ls heap l e = ap (λ b. cond b None (heap l)) e

-- at another what was there
pub without-other : (ls : List ℕ) (heap : Heap) (l : ℕ) → is_member nat_eq ls l ≡ false
    → without ls heap l ≡ heap l
without-other ls heap l e = ap (λ b. cond b None (heap l)) e

-- what is left without two lists
pub without-append : (ls ms : List ℕ) (heap : Heap) → without (ls ++ ms) heap ≡ without ms (without ls heap)
without-append ls ms heap = map-same _ _ (λ l. ap (λ b. cond b None (heap l)) (list_any-append (nat_eq l) ls ms)
    ∙ both (is_member nat_eq ls l) (is_member nat_eq ms l) (heap l))
  where
    both : (a b : Bool) (o : Option Cell) → cond (a || b) None o ≡ cond b None (cond a None o)
    both true true o = refl
    both true false o = refl
    both false true o = refl
    both false false o = refl

-- which lists have the same numbers
pub without-same : (ls ms : List ℕ) (heap : Heap) → ((l : ℕ) → Contains ls l → Contains ms l)
    → ((l : ℕ) → Contains ms l → Contains ls l) → without ls heap ≡ without ms heap
without-same ls ms heap to from = map-same _ _ (λ l. ap (λ b. cond b None (heap l))
    (bool-same (is_member nat_eq ls l) (is_member nat_eq ms l)
    (λ e. (member-decides ms l).1 (to l ((member-decides ls l).0 e)))
    (λ e. (member-decides ls l).1 (from l ((member-decides ms l).0 e)))))

-- a part that has none of the cells that were taken away is a part of what is left
splits-left : (ls : List ℕ) (heap part rest : Heap) → Splits heap part rest
    → ((l : ℕ) → part l ≢ None → is_member nat_eq ls l ≡ false) → Splits (without ls heap) part (without ls rest)
splits-left ls heap part rest s out = record {
  apart = λ l. apart l (is_member nat_eq ls l) refl;
  is = λ l. is l (is_member nat_eq ls l) refl;
}
  where
    apart : (l : ℕ) (b : Bool) → is_member nat_eq ls l ≡ b → Apart (part l) (without ls rest l)
    apart l true e = subst (Apart (part l)) (sym (without-taken ls rest l e)) (apart-none (part l))
    apart l false e = subst (Apart (part l)) (sym (without-other ls rest l e)) (s.apart l)

    none : (l : ℕ) → is_member nat_eq ls l ≡ true → part l ≡ None
    none l e = elim (some-or_none (part l)) [
      | inl x ↦ absurd (false≢true (sym (out l (λ n. some-none x.0 (sym x.1 ∙ n))) ∙ e))
      | inr n ↦ n
    ]

    is : (l : ℕ) (b : Bool) → is_member nat_eq ls l ≡ b
        → without ls heap l ≡ option_or (part l) (without ls rest l)
    is l true e = without-taken ls heap l e ∙ sym (ap₂ option_or (none l e) (without-taken ls rest l e))
    is l false e = without-other ls heap l e ∙ s.is l ∙ ap (option_or (part l)) (sym (without-other ls rest l e))

-- where neither is there the first isn't
first-none : {X : Type 0} (x y : Option X) → option_or x y ≡ None → x ≡ None
first-none None y e = refl
first-none (Some x) y e = e

-- the rest of a part of what is left, with what was taken away
abbrev with_back : List ℕ → (heap rest : Heap) → Heap
with_back ls heap rest l = cond (is_member nat_eq ls l) (heap l) (rest l)

-- a part of what is left is a part of the whole, and has none of the cells that were taken away
pub part-none : (ls : List ℕ) (heap part rest : Heap) → Splits (without ls heap) part rest → (l : ℕ)
    → is_member nat_eq ls l ≡ true → part l ≡ None
part-none ls heap part rest s l e = first-none (part l) (rest l) (sym (s.is l) ∙ without-taken ls heap l e)

splits-back : (ls : List ℕ) (heap part rest : Heap) → Splits (without ls heap) part rest
    → Splits heap part (with_back ls heap rest)
splits-back ls heap part rest s = record {
  apart = λ l. apart l (is_member nat_eq ls l) refl;
  is = λ l. is l (is_member nat_eq ls l) refl;
}
  where
    apart : (l : ℕ) (b : Bool) → is_member nat_eq ls l ≡ b → Apart (part l) (with_back ls heap rest l)
    apart l true e = subst (λ o. Apart o (with_back ls heap rest l)) (sym (part-none ls heap part rest s l e)) tt
    apart l false e = subst (Apart (part l)) (sym (ap (λ b. cond b (heap l) (rest l)) e)) (s.apart l)

    is : (l : ℕ) (b : Bool) → is_member nat_eq ls l ≡ b → heap l ≡ option_or (part l) (with_back ls heap rest l)
    is l true e = sym (ap₂ option_or (part-none ls heap part rest s l e) (ap (λ b. cond b (heap l) (rest l)) e))
    is l false e = sym (without-other ls heap l e) ∙ s.is l
        ∙ ap (option_or (part l)) (sym (ap (λ b. cond b (heap l) (rest l)) e))

-- a footprint without any of the cells that were taken away is one in what is left
pub foot-left : (a : Level Expr) (vars : Var → Value) (heap : Heap) (taken ls : List ℕ) → IsFootprint a vars heap ls
    → ((l : ℕ) → Contains ls l → is_member nat_eq taken l ≡ false) → IsFootprint a vars (without taken heap) ls
foot-left a vars heap taken ls f out = record {
  part = f.part;
  foot = record {
    rest = without taken f.foot.rest;
    splits = splits-left taken heap f.part f.foot.rest f.foot.splits (λ l n. out l ((f.at l).0 n));
    sat = f.foot.sat;
  };
  at = f.at;
}

-- a part of what is left that satisfies an assertion is one of the whole
pub foot-whole : (a : Level Expr) (vars : Var → Value) (heap part : Heap) (taken : List ℕ)
    → Foot a (value vars) (without taken heap) part → Foot a (value vars) heap part
foot-whole a vars heap part taken f = record {
  rest = with_back taken heap f.rest;
  splits = splits-back taken heap part f.rest f.splits;
  sat = f.sat;
}

-- two footprints of one assertion leave the same
pub foot-same : (a : Level Expr) (vars : Var → Value) (heap : Heap) (ls ms : List ℕ)
    → IsPrecise (Sat a (value vars) (λ n. nil)) → IsFootprint a vars heap ls → IsFootprint a vars heap ms
    → without ls heap ≡ without ms heap
foot-same a vars heap ls ms precise f g =
    let same : f.part ≡ g.part =
    precise heap f.part g.part f.foot.rest g.foot.rest f.foot.splits g.foot.splits f.foot.sat g.foot.sat in
    without-same ls ms heap
    (λ l c. (g.at l).0 (λ n. (f.at l).1 c (ap (λ (h : Heap). h l) same ∙ n)))
    (λ l c. (f.at l).0 (λ n. (g.at l).1 c (ap (λ (h : Heap). h l) (sym same) ∙ n)))

-- what a footprint leaves is what is left without its locations
pub foot-splits : (a : Level Expr) (vars : Var → Value) (heap : Heap) (ls : List ℕ) (f : IsFootprint a vars heap ls)
    → Splits heap f.part (without ls heap)
foot-splits a vars heap ls f = subst (λ (rest : Heap). Splits heap f.part rest)
    (map-same f.foot.rest (without ls heap) (λ l. at l (is_member nat_eq ls l) refl)) f.foot.splits
  where
    at : (l : ℕ) (b : Bool) → is_member nat_eq ls l ≡ b → f.foot.rest l ≡ without ls heap l
    at l true e = there (some-or_none (f.part l)) ∙ sym (without-taken ls heap l e)
      where
        there : ((x : Cell) × (f.part l ≡ Some x)) ⊎ (f.part l ≡ None) → f.foot.rest l ≡ None
        there (inl x) = splits-lacks_right l x.0 f.foot.splits x.1
        there (inr n) = absurd ((f.at l).1 ((member-decides ls l).0 e) n)
    at l false e = sym (f.foot.splits.is l
        ∙ ap (λ o. option_or o (f.foot.rest l)) (absent (some-or_none (f.part l)))) ∙ sym (without-other ls heap l e)
      where
        absent : ((x : Cell) × (f.part l ≡ Some x)) ⊎ (f.part l ≡ None) → f.part l ≡ None
        absent (inl x) = absurd (false≢true (sym e
            ∙ (member-decides ls l).1 ((f.at l).0 (λ n. some-none x.0 (sym x.1 ∙ n)))))
        absent (inr n) = n
