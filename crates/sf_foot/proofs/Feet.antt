-- The footprint of an assertion, from what its conjuncts take.
-- Names: `distinct-LAW` of locations, `foot-LAW` of footprints.
use Rattle.std.proofs.Common.{◌≡◌, ◌≢◌, ◌↔◌, ◌==◌, ◌||◌, ◌<◌, ◌≤◌, ℕ, Bool, true, false, cond, eqb, List, [], ◌∷◌, length, Contains, Option, Some, None, is_some, refl, sym, ap, ◌∙◌, subst, inl, inr, arith}
use Rattle.std.specs.FinMap.{get}
use Rattle.std.specs.List.{AllByRecursion, IsDistinct}
use Rattle.std.specs.List.Sorted.{IsStrictlyIncreasing}
use Rattle.std.specs.Cmp.{IsEquivalence}
use Rattle.std.specs.Option.{option_map, unwrap_or}
use Rattle.std.specs.Ordering.{eq_by_cmp, nat_cmp}
use Rattle.std.specs.Set.{distinct_count, is_member}
use Rattle.std.proofs.lemmas.Bool.{false≢true}
use Rattle.std.proofs.lemmas.Bool.Decides.{Decides-eqb, nat_tests}
use Rattle.std.proofs.lemmas.Map.Keys.{IsDistinct-from_sorted, sorted_from_strictly_increasing}
use Rattle.std.proofs.lemmas.Map.Made.{IsDistinct-from_count, distinct_count-from_IsDistinct, distinct_count-le, is_member-Decides, length-from_keys}
use Rattle.std.proofs.lemmas.Option.{none-some, same_Some}
use Rattle.sf_base.specs.declared.ids.Var.{Var}
use Rattle.sf_base.specs.declared.value.Value.{Value}
use Rattle.sf_base.specs.declared.value.Value.TheVariants.{Nil as nil}
use Rattle.sf_base.specs.HeapStore.{Cell}
use Rattle.sf_base.proofs.MapSplits.{rest_of, splits-rest}
use Rattle.sf_core.specs.declared.assertion.Scope.{Scope}
use Rattle.sf_core.specs.declared.command.Expr.{Expr}
use Rattle.sf_core.specs.Assertions.InOrder.{IsInOrder}
use Rattle.sf_core.specs.Assertions.Sat.{SameOutside, value}
use Rattle.sf_core.specs.Assertions.Scopes.{is_made_by}
use Rattle.sf_core.specs.Program.Syntax.{Conjuncts, Level, level}
use Rattle.sf_heap.specs.Cells.{Cells, HasCell, cell_of, heap_of}
use Rattle.sf_foot.specs.declared.known.Known.{Known}
use Rattle.sf_foot.specs.Footprint.{HasNoFootprint, IsFootprint}
use Rattle.sf_foot.specs.Checked.Known.{Agrees, IsWithin, is_told, told}
use Rattle.sf_foot.specs.Checked.Places.{part_at}
use Rattle.sf_foot.specs.Checked.Taking.{AllTake, AreReady, LevelTakes, Overflows, Takes}
use Rattle.sf_foot.proofs.Knowing.{agrees-before}
use Rattle.sf_foot.proofs.Meaning.{have-all, have-level, level-from_sat, sat-from_level}
use Rattle.sf_foot.proofs.Parts.{Distinct}
use Rattle.sf_foot.proofs.Pigeons.{AllHave, too-long}
use Rattle.sf_foot.proofs.Ready.{order-more}
use Rattle.sf_foot.proofs.Sums.{have-among, is_among, none_of}

-- numbers are compared by what they are
eqb-laws : IsEquivalence eqb
eqb-laws = record {
  refl = λ x. (Decides-eqb x x).1 refl;
  symm = λ x y. symm x y;
  congr = λ x y z e. congr x y z e;
}
  where
    symm : (x y : ℕ) → eqb x y ≡ eqb y x
    symm x y = grind (arith, nat_tests)

    congr : (x y z : ℕ) → eqb x y ≡ true → eqb x z ≡ eqb y z
    congr x y z e = ap (λ k. eqb k z) ((Decides-eqb x y).0 e)

by_cmp : eq_by_cmp nat_cmp ≡ eqb
by_cmp = λ i x y. at x y i
  where
    at : (x y : ℕ) → eq_by_cmp nat_cmp x y ≡ eqb x y
    at x y = grind (arith, nat_tests)

-- locations that differ, as std says it
pub distinct-to : (xs : List ℕ) → Distinct xs → IsDistinct eqb xs
unfolding IsDistinct
distinct-to [] d = tt
distinct-to (x ∷ xs) d = (others x xs d.0, distinct-to xs d.1)
  where
    others : (x : ℕ) (ys : List ℕ) → is_among x ys ≡ false → AllByRecursion (λ y. eqb x y ≡ false) ys
    others x [] e = tt
    others x (y ∷ ys) e = let both = none_of (x == y) (is_among x ys) e in (both.0, others x ys both.1)

distinct-from : (xs : List ℕ) → IsDistinct eqb xs → Distinct xs
unfolding IsDistinct
distinct-from [] d = tt
distinct-from (x ∷ xs) d = (others x xs d.0, distinct-from xs d.1)
  where
    others : (x : ℕ) (ys : List ℕ) → AllByRecursion (λ y. eqb x y ≡ false) ys → is_among x ys ≡ false
    others x [] e = refl
    others x (y ∷ ys) e = none_both (x == y) (is_among x ys) e.0 (others x ys e.1)
      where
        none_both : (a b : Bool) → a ≡ false → b ≡ false → (a || b) ≡ false
        none_both a b e f = ap (λ (t : Bool). t || b) e ∙ f

same-tests : (a b : Bool) → (a ≡ true → b ≡ true) → (b ≡ true → a ≡ true) → a ≡ b
same-tests true b f g = sym (f refl)
same-tests false true f g = g refl
same-tests false false f g = refl

-- rising locations are as many as there are different ones
count : (found ls : List ℕ) → IsStrictlyIncreasing ls → ((l : ℕ) → Contains ls l ↔ Contains found l)
    → length ls ≡ distinct_count eqb found
count found ls rises same = length-from_keys eqb-laws ls found
    (subst (λ (eq : ℕ → ℕ → Bool). IsDistinct eq ls) by_cmp (IsDistinct-from_sorted nat_cmp ls (sorted_from_strictly_increasing ls rises)))
    (λ q. same-tests (is_member eqb ls q) (is_member eqb found q)
    (λ i. (is_member-Decides Decides-eqb found q).1 ((same q).0 ((is_member-Decides Decides-eqb ls q).0 i)))
    (λ i. (is_member-Decides Decides-eqb ls q).1 ((same q).1 ((is_member-Decides Decides-eqb found q).0 i))))

-- where these are no fewer, the locations differ
pub distinct-enough : (found ls : List ℕ) → IsStrictlyIncreasing ls → ((l : ℕ) → Contains ls l ↔ Contains found l)
    → length found ≤ length ls → Distinct found
distinct-enough found ls rises same h =
    let c = count found ls rises same in
    let few = distinct_count-le eqb found in
    let all : distinct_count eqb found ≡ length found = omega (arith, c, few, h) in
    distinct-from found (IsDistinct-from_count eqb-laws found all)

-- where these are fewer, they don't
distinct-too_few : (found ls : List ℕ) → IsStrictlyIncreasing ls → ((l : ℕ) → Contains ls l ↔ Contains found l)
    → length ls < length found → Distinct found → ⊥
distinct-too_few found ls rises same h d =
    let c = count found ls rises same in
    let all = distinct_count-from_IsDistinct eqb-laws found (distinct-to found d) in
    omega (arith, c, all, h)

among : (found : List ℕ) (l : ℕ) → Contains found l → is_among l found ≡ true
among found l c = (is_member-Decides Decides-eqb found l).1 c

-- the locations that a level takes are those of a footprint where they differ, in whatever order they are named
pub foot-taken : (heap : Cells) (vars : Var → Value) (a : Level Expr) (found ls : List ℕ)
    → LevelTakes heap a (value vars) (λ n. nil) found → Distinct found → ((l : ℕ) → Contains ls l ↔ Contains found l)
    → IsFootprint a vars (heap_of heap) ls
foot-taken heap vars a found ls t d same = record {
  part = part_at found (heap_of heap);
  foot = record {
    rest = rest_of (part_at found (heap_of heap)) (heap_of heap);
    splits = splits-rest (λ q c e. inside (is_among q found) (heap_of heap q) c e);
    sat = sat-from_level heap (value vars) a (λ n. nil) found t d;
  };
  at = λ l. (λ n. (same l).1 (from l n (is_among l found) refl), λ c e. to l (among found l ((same l).0 c)) e);
}
  where
    inside : (t : Bool) (o : Option Cell) (c : Cell) → cond t o None ≡ Some c → o ≡ Some c
    inside true o c e = e
    inside false o c e = absurd (none-some c e)

    from : (l : ℕ) → part_at found (heap_of heap) l ≢ None → (t : Bool) → is_among l found ≡ t → Contains found l
    from l n true i = (is_member-Decides Decides-eqb found l).0 i
    from l n false i = absurd (n (ap (λ (t : Bool). cond t (heap_of heap l) None) i))

    use_cell : (o : Option _) → is_some o ≡ true → option_map cell_of o ≡ None → ⊥
    use_cell None e f = false≢true e
    use_cell (Some v) e f = none-some (cell_of v) (sym f)

    to : (l : ℕ) → is_among l found ≡ true → part_at found (heap_of heap) l ≡ None → ⊥
    to l i e = use_cell (get heap l)
        (have-among heap found l (have-level heap (value vars) a (λ n. nil) found t) i)
        (sym (ap (λ (t : Bool). cond t (heap_of heap l) None) i) ∙ e)

-- A level whose conjuncts are taken in a heap
module _ (heap : Cells) (vars : Var → Value) (made : Scope) (cs : Conjuncts Expr) (k : Known)
    (begins : (n : ℕ) → told k n ≡ cond (is_made_by made n) None (Some nil)) where
  -- values that are nil outside the level are those that agree with what is known at the beginning
  begin-agrees : (here : ℕ → Value) → SameOutside made (λ n. nil) here → Agrees k here
  begin-agrees here o n v e = go (is_made_by made n) refl
    where
      go : (t : Bool) → is_made_by made n ≡ t → here n ≡ v
      go true i = absurd (none-some v (sym (begins n ∙ ap (λ (t : Bool). cond t None (Some nil)) i) ∙ e))
      go false i = o n i ∙ same_Some nil v (sym (begins n ∙ ap (λ (t : Bool). cond t None (Some nil)) i) ∙ e)

  begin-outside : (here : ℕ → Value) → Agrees k here → SameOutside made (λ n. nil) here
  begin-outside here h n i = h n nil (begins n ∙ ap (λ (t : Bool). cond t None (Some nil)) i)

  -- its conjuncts can be taken
  pub foot-ready : k.inner.made ≡ made → IsInOrder (level made cs) → AreReady k cs
  foot-ready m o = record {
    in_order = order-more (λ n. false) (is_told k) (λ n e. absurd (false≢true e)) cs o;
    within = λ n x. within n (is_made_by made n) refl;
  }
    where
      within : (n : ℕ) → (t : Bool) → is_made_by made n ≡ t → IsWithin k n
      within n true i = inr (subst (λ (s : Scope). is_made_by s n ≡ true) (sym m) i)
      within n false i = inl (ap is_some (begins n) ∙ ap (λ (t : Bool). is_some (cond t None (Some nil))) i)

  -- where every taking would need more cells than there are, there is no footprint
  pub foot-none : Overflows (AllTake heap cs (value vars)) heap k [] → HasNoFootprint (level made cs) vars (heap_of heap)
  foot-none h part f =
      let w = level-from_sat heap (value vars) (level made cs) (λ n. nil) part f.rest f.splits f.sat in
      too-long heap [] w.locations tt (have-level heap (value vars) (level made cs) (λ n. nil) w.locations w.walked)
      (h w.walked.0 w.locations (begin-agrees w.walked.0 w.walked.1) w.walked.2) w.distinct

  module _ (after : Known) (p : ℕ → Bool) (found ls : List ℕ) (t : Takes (AllTake heap cs (value vars)) p k after [] found)
      (rises : IsStrictlyIncreasing ls) (same : (l : ℕ) → Contains ls l ↔ Contains found l) where
    -- where a location was met twice, there is none
    pub foot-repeats : length ls < length found → HasNoFootprint (level made cs) vars (heap_of heap)
    foot-repeats h part f =
        let w = level-from_sat heap (value vars) (level made cs) (λ n. nil) part f.rest f.splits f.sat in
        let only = t.only w.walked.0 w.locations (begin-agrees w.walked.0 w.walked.1) w.walked.2 in
        distinct-too_few found ls rises same h (subst Distinct (only.0 ∙ sym t.grew) w.distinct)

    -- the values of existentials that were found
    abbrev values : ℕ → Value
    values n = unwrap_or (told after n) nil

    values-agree : Agrees after values
    values-agree n v e = ap (λ o. unwrap_or o nil) e

    taken : AllTake heap cs (value vars) values found
    taken = subst (AllTake heap cs (value vars) values) (sym t.grew) (t.all values values-agree)

    have : AllHave heap found
    have = have-all heap (value vars) cs values found taken

    -- else the locations that were found are those of the footprint
    pub foot-found : length found ≤ length ls → IsFootprint (level made cs) vars (heap_of heap) ls
    foot-found h = foot-taken heap vars (level made cs) found ls
        (values, begin-outside values (agrees-before p k after values t.grows values-agree), taken)
        (distinct-enough found ls rises same h) same

    -- and each has a cell
    pub foot-there : (l : ℕ) → Contains ls l → HasCell heap l
    foot-there l c = have-among heap found l have (among found l ((same l).0 c))
