-- Footprints one after the other: what the set of their locations has, and what the next one is.
-- Names: `marks_LAW` of the set, `distinct_LAW` of lists without repeats, `next_CASE` of the next
-- one.
use Rattle.std.proofs.Common.{◌≡◌, ◌≢◌, ◌⊎◌, ◌<◌, ◌+◌, ◌||◌, ℕ, suc, Bool, true, false, cond, nat_eq, nat_cmp, List, [], ◌∷◌, ◌++◌, All, Contains, length, drop, drop-cons, get_or, refl, sym, ap, ◌∙◌, subst, inl, inr, arith, append-nil}
use Rattle.std.specs.BTreeMap.{is_at}
use Rattle.std.specs.BTreeSet.{BTreeSet, contains}
use Rattle.std.specs.List.{AllByRecursion, IsDistinct, concat}
use Rattle.std.specs.List.Sorted.{IsStrictlyIncreasing}
use Rattle.std.specs.Ordering.{eq_by_cmp}
use Rattle.std.specs.Set.{is_member}
use Rattle.std.specs.Bool.{Decides}
use Rattle.std.proofs.lemmas.Bool.{cases_eq, false≢true, or_cases}
use Rattle.std.proofs.lemmas.Bool.Decides.{Decides-eqb, nat_tests}
use Rattle.std.proofs.lemmas.Map.Made.{is_member-Decides}
use Rattle.std.proofs.lemmas.Option.{get_or_from_slice_get, slice_get-get_or}
use Rattle.std.proofs.lemmas.List.Elements.{All-contains}
use Rattle.std.proofs.lemmas.List.Folds.{concat-append, list_any-append}
use Rattle.std.proofs.lemmas.Map.Keys.{IsDistinct-from_sorted, sorted_from_strictly_increasing}
use Rattle.sf_base.specs.declared.ids.Var.{Var}
use Rattle.sf_base.specs.declared.value.Value.{Value}
use Rattle.sf_base.specs.declared.value.Value.TheVariants.{Nil as nil}
use Rattle.sf_base.specs.HeapStore.{Heap}
use Rattle.sf_base.proofs.Elements.{all_by-append, contains-cons}
use Rattle.sf_base.proofs.Numbers.{at-is, at-self, at-other}
use Rattle.sf_core.specs.declared.command.Expr.{Expr}
use Rattle.sf_core.specs.Checked.Assertions.Precise.{IsPrecise}
use Rattle.sf_core.specs.Assertions.Sat.{Sat, value}
use Rattle.sf_core.specs.Program.Syntax.{Level}
use Rattle.sf_heap.specs.Cells.{Cells, HasCell}
use Rattle.sf_foot.specs.declared.found.Found.{Found}
use Rattle.sf_foot.specs.Footprint.{HasNoFootprint, IsFootprint}
use Rattle.sf_foot.specs.Found.{AreApart, HasNoneBeside}

-- a number is a member where the list has it
member_decides : (ls : List ℕ) (l : ℕ) → Decides (is_member nat_eq ls l) (Contains ls l)
member_decides ls l = is_member-Decides Decides-eqb ls l

-- what is read at a place doesn't depend on what is read past the end
pub read_at : {X : Type 0} (xs : List X) (i : ℕ) (d : X) → i < length xs
    → get_or xs i d ≡ get_or xs i (get_or xs i d)
read_at xs i d h =
    sym (get_or_from_slice_get xs i (get_or xs i d) (get_or xs i d) (slice_get-get_or xs i d h))

-- one more that is added is one fewer that is left
pub marks_more : (taken new : BTreeSet ℕ) (x : ℕ) (rest : List ℕ) (q : ℕ)
    → contains nat_cmp new q ≡ cond (is_at (nat_cmp x) q) true (contains nat_cmp taken q)
    → (contains nat_cmp new q || is_member nat_eq rest q) ≡
    (contains nat_cmp taken q || is_member nat_eq (x ∷ rest) q)
marks_more taken new x rest q e = ap (λ b. b || is_member nat_eq rest q) e ∙ step (cases_eq q x)
  where
    same : (k y : ℕ) → k ≡ y → nat_eq k y ≡ true
    same k y f = grind (arith, nat_tests)

    other : (k y : ℕ) → k ≢ y → nat_eq k y ≡ false
    other k y f = grind (arith, nat_tests)

    first : (a b : Bool) → true ≡ (a || (true || b))
    first true b = refl
    first false b = refl

    step : (q ≡ x) ⊎ (q ≢ x) → (cond (is_at (nat_cmp x) q) true
        (contains nat_cmp taken q) || is_member nat_eq rest q)
        ≡ (contains nat_cmp taken q || (nat_eq q x || is_member nat_eq rest q))
    step (inl f) = ap (λ b. cond b true (contains nat_cmp taken q) || is_member nat_eq rest q)
        (ap (λ k. is_at (nat_cmp x) k) f ∙ at-self x)
        ∙ first (contains nat_cmp taken q) (is_member nat_eq rest q)
        ∙ ap (λ b. contains nat_cmp taken q || (b || is_member nat_eq rest q)) (sym (same q x f))
    step (inr f) = ap (λ b. cond b true (contains nat_cmp taken q) || is_member nat_eq rest q)
        (at-other x q (λ g. f (sym g)))
        ∙ ap (λ b. contains nat_cmp taken q || (b || is_member nat_eq rest q)) (sym (other q x f))

-- what is left begins with the next
pub marks_next : (at : List ℕ) (i x : ℕ) (q : ℕ) → i < length at → x ≡ get_or at i x
    → is_member nat_eq (drop i at) q ≡ is_member nat_eq (x ∷ drop (i + 1) at) q
marks_next at i x q h e = ap (λ xs. is_member nat_eq xs q)
    (drop-cons at i x h ∙ ap (λ y. y ∷ drop (suc i) at) (sym e)
    ∙ ap (λ k. x ∷ drop k at) (let one : suc i ≡ i + 1 = omega arith in one))

-- two lists without repeats that have no number together
pub distinct_append : (xs ys : List ℕ) → IsDistinct nat_eq xs → IsDistinct nat_eq ys
    → ((l : ℕ) → Contains xs l → is_member nat_eq ys l ≡ false) → IsDistinct nat_eq (xs ++ ys)
unfolding IsDistinct
distinct_append [] ys d e out = e
distinct_append (x ∷ xs) ys d e out = (
  all_by-append (λ y. nat_eq x y ≡ false) xs ys d.0
      (none ys (out x ((contains-cons x xs x).1 (inl refl)))),
  distinct_append xs ys d.1 e (λ l c. out l ((contains-cons x xs l).1 (inr c))),
)
  where
    first : (b c : Bool) → (b || c) ≡ false → b ≡ false
    first true c h = h
    first false c h = refl

    rest : (b c : Bool) → (b || c) ≡ false → c ≡ false
    rest true c h = absurd (false≢true (sym h))
    rest false c h = h

    none : (zs : List ℕ) → is_member nat_eq zs x ≡ false
        → AllByRecursion (λ y. nat_eq x y ≡ false) zs
    none [] h = tt
    none (z ∷ zs) h = (
      first (nat_eq x z) (is_member nat_eq zs x) h,
      none zs
          (rest (nat_eq x z) (is_member nat_eq zs x) h),
    )

distinct_rising : (xs : List ℕ) → IsStrictlyIncreasing xs → IsDistinct nat_eq xs
distinct_rising xs r = subst (λ (e : ℕ → ℕ → Bool). IsDistinct e xs) same
    (IsDistinct-from_sorted nat_cmp xs (sorted_from_strictly_increasing xs r))
  where
    same : eq_by_cmp nat_cmp ≡ nat_eq
    same = λ i x y. at-is x y i

-- there is none in the whole heap
pub next_none : (a : Level Expr) (vars : Var → Value) (heap : Heap) (taken : List ℕ)
    → HasNoFootprint a vars heap
    → HasNoneBeside taken a vars heap
next_none a vars heap taken none part f out = none part f

-- the one of the whole heap has a cell of an earlier one
pub next_overlap : (a : Level Expr) (vars : Var → Value) (heap : Heap) (taken ls : List ℕ) (l : ℕ)
    → IsPrecise (Sat a (value vars) (λ n. nil)) → IsFootprint a vars heap ls → Contains ls l
    → is_member nat_eq taken l ≡ true → HasNoneBeside taken a vars heap
next_overlap a vars heap taken ls l precise f here e part g out =
    let same : f.part ≡ part =
    precise heap f.part part f.foot.rest g.rest f.foot.splits g.splits f.foot.sat g.sat in
    (f.at l).1 here (ap (λ (h : Heap). h l) same ∙ out l e)

-- it has none, and is found too
pub next_apart : (heap : Cells) (old next : Found) (ls at : List ℕ) → AreApart heap old
    → All (HasCell heap) ls
    → at ≡ ls → IsStrictlyIncreasing ls → All (λ l. contains nat_cmp old.taken l ≡ false) at
    → next.parts.items ≡ old.parts.items ++ ls ∷ []
    → ((q : ℕ) → contains nat_cmp next.taken q ≡
    (contains nat_cmp old.taken q || is_member nat_eq at q))
    → AreApart heap next
next_apart heap old next ls at found has same rises out parts marks = record {
  distinct = subst (IsDistinct nat_eq) (sym whole)
      (distinct_append (concat old.parts.items) ls found.distinct (distinct_rising ls rises) apart);
  there = λ l e. elim (or_cases (is_member nat_eq (concat old.parts.items) l)
      (is_member nat_eq ls l) (sym (members l) ∙ e)) [
        | inl h ↦ found.there l h
        | inr h ↦ All-contains (HasCell heap) ls l has ((member_decides ls l).0 h)
      ];
  marks = λ l. marks l ∙ ap (λ b. b || is_member nat_eq at l) (found.marks l)
      ∙ ap (λ xs. is_member nat_eq (concat old.parts.items) l || is_member nat_eq xs l) same
      ∙ sym (members l);
}
  where
    whole : concat next.parts.items ≡ concat old.parts.items ++ ls
    whole = ap concat parts ∙ concat-append old.parts.items (ls ∷ [])
        ∙ ap (λ xs. concat old.parts.items ++ xs) (append-nil ls)

    members : (l : ℕ) → is_member nat_eq (concat next.parts.items) l
        ≡ (is_member nat_eq (concat old.parts.items) l || is_member nat_eq ls l)
    members l = ap (λ xs. is_member nat_eq xs l) whole
        ∙ list_any-append (nat_eq l) (concat old.parts.items) ls

    apart : (l : ℕ) → Contains (concat old.parts.items) l → is_member nat_eq ls l ≡ false
    apart l c = go (is_member nat_eq ls l) refl
      where
        go : (b : Bool) → is_member nat_eq ls l ≡ b → is_member nat_eq ls l ≡ false
        go false e = e
        go true e = absurd (false≢true (sym (All-contains
            (λ q. contains nat_cmp old.taken q ≡ false) at l out
            (subst (λ xs. Contains xs l) (sym same) ((member_decides ls l).0 e)))
            ∙ found.marks l ∙ (member_decides (concat old.parts.items) l).1 c))

-- nothing is found yet
pub next_nothing : (found : Found) → found.parts.items ≡ []
    → ((l : ℕ) → contains nat_cmp found.taken l ≡ false) → (heap : Cells) → AreApart heap found
unfolding IsDistinct
next_nothing found e marks heap = record {
  distinct = subst (λ ps. IsDistinct nat_eq (concat ps)) (sym e) tt;
  there = λ l h. absurd (false≢true (sym (ap (λ ps. is_member nat_eq (concat ps) l) e) ∙ h));
  marks = λ l. marks l ∙ sym (ap (λ ps. is_member nat_eq (concat ps) l) e);
}
