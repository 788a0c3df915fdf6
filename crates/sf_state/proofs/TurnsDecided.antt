-- Assertions of which each has a footprint or none have footprints in turn, or one is the first that is unmet.
-- Names: `turns-LAW`, `removed-LAW` for cells that are taken away.
use Rattle.std.proofs.Common.{◌≡◌, ◌≢◌, ◌⊎◌, ◌<◌, ◌≤◌, ◌||◌, ℕ, suc, Bool, true, false, cond, nat_eq, is_some, List, [], ◌∷◌, Option, Some, None, Contains, take, refl, sym, ap, ◌∙◌, subst, inl, inr, arith}
use Rattle.std.specs.FinMap.{get, get-remove, keys, remove}
use Rattle.std.specs.List.{AllPairs, AllZip, IsDistinct, concat}
use Rattle.std.specs.Option.{option_map, option_or}
use Rattle.std.specs.Set.{is_member}
use Rattle.std.proofs.lemmas.Bool.{false≢true}
use Rattle.std.proofs.lemmas.Cmp.{nat_cmp_total}
use Rattle.std.proofs.lemmas.List.Elements.{All-contains, Contains-append_cases}
use Rattle.std.proofs.lemmas.List.Kept.{AllPairs-from_increasing}
use Rattle.std.proofs.lemmas.Option.{none-some}
use Rattle.sf_base.specs.declared.ids.Var.{Var}
use Rattle.sf_base.specs.declared.value.Value.{Value}
use Rattle.sf_base.specs.HeapStore.{Heap}
use Rattle.sf_base.proofs.Elements.{contains-cons, contains-nil, contains-rest, pairs-head}
use Rattle.sf_base.proofs.MapSplits.{map-same}
use Rattle.sf_base.proofs.Options.{is_some-map, some-or_none}
use Rattle.sf_core.specs.Program.Syntax.{Assertion}
use Rattle.sf_heap.specs.Cells.{Cells, FieldValues, cell_of, heap_of}
use Rattle.sf_foot.specs.Footprint.{HasNoFootprint, IsFootprint}
use Rattle.sf_foot.specs.Checked.Laws.{HasFootprintOrNone}
use Rattle.sf_state.specs.Starts.{HaveFootprints, IsUnmet, without}
use Rattle.sf_state.proofs.NextFound.{distinct-append}
use Rattle.sf_state.proofs.Once.{finish-keys}
use Rattle.sf_heap.specs.Checked.Lemmas.Rising.{rising-keys}
use Rattle.sf_state.proofs.Without.{foot-whole, member-decides, without-append, without-other, without-taken}
use Rattle.sf_state.proofs.StateExists.{by_cmp}

-- cells without those at these locations
removed : List ℕ → Cells → Cells
removed [] heap = heap
removed (l ∷ ls) heap = remove (removed ls heap) l

removed-heap : (ls : List ℕ) (heap : Cells) → heap_of (removed ls heap) ≡ without ls (heap_of heap)
unfolding removed
removed-heap [] heap = refl
removed-heap (l ∷ ls) heap = map-same _ _ (λ q. ap (option_map cell_of) (get-remove nat_cmp_total (removed ls heap) l q)
    ∙ ap (λ b. option_map cell_of (cond b None (get (removed ls heap) q))) (by_cmp q l)
    ∙ at q (nat_eq q l) ∙ ap (λ (h : Heap). cond (nat_eq q l) None (h q)) (removed-heap ls heap)
    ∙ both (nat_eq q l) (is_member nat_eq ls q) (heap_of heap q))
  where
    at : (q : ℕ) (b : Bool) → option_map cell_of (cond b None (get (removed ls heap) q))
        ≡ cond b None (heap_of (removed ls heap) q)
    at q true = refl
    at q false = refl

    both : {X : Type 0} (a b : Bool) (o : Option X) → cond a None (cond b None o) ≡ cond (a || b) None o
    both true b o = refl
    both false b o = refl

-- each of these locations differs from those after it, in each list
abbrev pub AllDistinct : List (List ℕ) → Type 0
AllDistinct [] = Unit {0}
AllDistinct (ls ∷ ps) = IsDistinct nat_eq ls × AllDistinct ps

-- assertions have footprints in turn, or one of them is the first that is unmet
pub turns-decided : (vars : Var → Value) (notes : List Assertion) (heap : Cells)
    → ((a : Assertion) → Contains notes a → (h : Cells) → HasFootprintOrNone a.level vars (heap_of h))
    → ((ps : List (List ℕ)) × HaveFootprints vars (heap_of heap) notes ps × AllDistinct ps)
    ⊎ ((k : ℕ) × IsUnmet vars (heap_of heap) notes k)
turns-decided vars [] heap tell = inl ([], refl, tt)
turns-decided vars (a ∷ notes) heap tell =
    go (tell a ((contains-cons a notes a).1 (inl refl)) heap)
    (λ ls. turns-decided vars notes (removed ls heap) (λ b c. tell b (contains-rest a notes b c)))
  where
    go : HasFootprintOrNone a.level vars (heap_of heap)
        → ((ls : List ℕ) → ((ps : List (List ℕ)) × HaveFootprints vars (heap_of (removed ls heap)) notes ps × AllDistinct ps)
        ⊎ ((k : ℕ) × IsUnmet vars (heap_of (removed ls heap)) notes k))
        → ((ps : List (List ℕ)) × HaveFootprints vars (heap_of heap) (a ∷ notes) ps × AllDistinct ps)
        ⊎ ((k : ℕ) × IsUnmet vars (heap_of heap) (a ∷ notes) k)
    go (inr none) others = inr (0, record { parts = []; earlier = refl; assertion = a; there = refl; none = none })
    go (inl f) others = elim (others f.0) [
      | inl g ↦ inl (
        f.0 ∷ g.0,
        (f.1, subst (λ (h : Heap). HaveFootprints vars h notes g.0) (removed-heap f.0 heap) g.1),
        (f.2, g.2),
      )
      | inr u ↦ inr (
        suc u.0,
        record {
          parts = f.0 ∷ u.1.parts;
          earlier = (f.1, subst (λ (h : Heap). HaveFootprints vars h (take u.0 notes) u.1.parts) (removed-heap f.0 heap) u.1.earlier);
          assertion = u.1.assertion;
          there = u.1.there;
          none = subst (λ (h : Heap). HasNoFootprint u.1.assertion.level vars h)
              (ap (without (concat u.1.parts)) (removed-heap f.0 heap)
              ∙ sym (without-append f.0 (concat u.1.parts) (heap_of heap))) u.1.none;
        },
      )
    ]

-- where footprints in turn are in the whole heap
turns-whole : (vars : Var → Value) (heap : Heap) (notes : List Assertion) (ps : List (List ℕ)) (taken : List ℕ)
    → AllZip (λ a ls. IsFootprint a.level vars (without taken heap) ls) notes ps
    → AllZip (λ a ls. IsFootprint a.level vars heap ls) notes ps
turns-whole vars heap [] [] taken z = tt
turns-whole vars heap [] (ls ∷ ps) taken z = absurd z
turns-whole vars heap (a ∷ notes) [] taken z = absurd z
turns-whole vars heap (a ∷ notes) (ls ∷ ps) taken z = (
  record { part = z.0.part; foot = foot-whole a.level vars heap z.0.part taken z.0.foot; at = z.0.at },
  turns-whole vars heap notes ps taken z.1,
)

pub turns-parts : (vars : Var → Value) (heap : Heap) (notes : List Assertion) (ps : List (List ℕ))
    → HaveFootprints vars heap notes ps → AllZip (λ a ls. IsFootprint a.level vars heap ls) notes ps
turns-parts vars heap [] [] f = tt
turns-parts vars heap [] (ls ∷ ps) f = absurd cc
turns-parts vars heap (a ∷ notes) [] f = absurd f
turns-parts vars heap (a ∷ notes) (ls ∷ ps) f = (
  f.0,
  turns-whole vars heap notes ps ls (turns-parts vars (without ls heap) notes ps f.1),
)

-- each of their locations has a cell
pub turns-there : (vars : Var → Value) (heap : Heap) (notes : List Assertion) (ps : List (List ℕ))
    → HaveFootprints vars heap notes ps → (l : ℕ) → Contains (concat ps) l → heap l ≢ None
turns-there vars heap [] [] f l c e = contains-nil l c
turns-there vars heap [] (ls ∷ ps) f l c e = absurd cc
turns-there vars heap (a ∷ notes) [] f l c e = absurd f
turns-there vars heap (a ∷ notes) (ls ∷ ps) f l c e = elim (Contains-append_cases ls (concat ps) l c) [
  | inl i ↦ (f.0.at l).1 i (first (f.0.part l) (f.0.foot.rest l) (sym (f.0.foot.splits.is l) ∙ e))
  | inr i ↦ turns-there vars (without ls heap) notes ps f.1 l i (gone (is_member nat_eq ls l) refl)
]
  where
    first : {X : Type 0} (o q : Option X) → option_or o q ≡ None → o ≡ None
    first None q h = refl
    first (Some x) q h = absurd cc

    gone : (b : Bool) → is_member nat_eq ls l ≡ b → without ls heap l ≡ None
    gone true m = without-taken ls heap l m
    gone false m = without-other ls heap l m ∙ e

-- and no two of their locations are one
pub turns-distinct : (vars : Var → Value) (heap : Heap) (notes : List Assertion) (ps : List (List ℕ))
    → HaveFootprints vars heap notes ps → AllDistinct ps → IsDistinct nat_eq (concat ps)
unfolding IsDistinct
turns-distinct vars heap [] [] f d = tt
turns-distinct vars heap [] (ls ∷ ps) f d = absurd cc
turns-distinct vars heap (a ∷ notes) [] f d = absurd f
turns-distinct vars heap (a ∷ notes) (ls ∷ ps) f d =
    distinct-append ls (concat ps) d.0 (turns-distinct vars (without ls heap) notes ps f.1 d.1)
    (λ l c. apart l c (is_member nat_eq (concat ps) l) refl)
  where
    apart : (l : ℕ) → Contains ls l → (b : Bool) → is_member nat_eq (concat ps) l ≡ b
        → is_member nat_eq (concat ps) l ≡ false
    apart l c false e = e
    apart l c true e = absurd (turns-there vars (without ls heap) notes ps f.1 l ((member-decides (concat ps) l).0 e)
        (without-taken ls heap l ((member-decides ls l).1 c)))

-- what footprints in turn leave has a least cell or none
pub turns-left : (heap : Cells) (ls : List ℕ)
    → ((l : ℕ) × (without ls (heap_of heap) l ≢ None) × ((k : ℕ) → without ls (heap_of heap) k ≢ None → l ≤ k))
    ⊎ ((l : ℕ) → without ls (heap_of heap) l ≡ None)
turns-left heap ls = go (keys (removed ls heap)) refl
  where
    same : (l : ℕ) → without ls (heap_of heap) l ≡ heap_of (removed ls heap) l
    same l = ap (λ (h : Heap). h l) (sym (removed-heap ls heap))

    listed : (l : ℕ) → without ls (heap_of heap) l ≢ None → Contains (keys (removed ls heap)) l
    listed l n = (finish-keys (removed ls heap) l).0 (there (get (removed ls heap) l) (λ e. n (same l ∙ ap (option_map cell_of) e)))
      where
        there : (o : Option FieldValues) → o ≢ None → is_some o ≡ true
        there None m = absurd (m refl)
        there (Some c) m = refl

    go : (xs : List ℕ) → keys (removed ls heap) ≡ xs
        → ((l : ℕ) × (without ls (heap_of heap) l ≢ None) × ((k : ℕ) → without ls (heap_of heap) k ≢ None → l ≤ k))
        ⊎ ((l : ℕ) → without ls (heap_of heap) l ≡ None)
    go [] e = inr (λ l. elim (some-or_none (without ls (heap_of heap) l)) [
      | inl x ↦ absurd (contains-nil l (subst (λ xs. Contains xs l) e (listed l (λ n. none-some x.0 (sym n ∙ x.1)))))
      | inr n ↦ n
    ])
    go (l ∷ xs) e = inl (
      l,
      λ n. false≢true (sym (ap is_some (sym (same l) ∙ n)) ∙ is_some-map cell_of (get (removed ls heap) l)
          ∙ (finish-keys (removed ls heap) l).1 (subst (λ ks. Contains ks l) (sym e) ((contains-cons l xs l).1 (inl refl)))),
      λ k n. elim ((contains-cons l xs k).0 (subst (λ ks. Contains ks k) e (listed k n))) [
        | inl s ↦ omega (arith, s)
        | inr c ↦
            let less : l < k = All-contains (λ b. l < b) xs k (pairs-head (λ a b. a < b) l xs
            (subst (AllPairs (λ a b. a < b)) e (AllPairs-from_increasing (keys (removed ls heap)) (rising-keys (removed ls heap))))) c in
            omega (arith, less)
      ],
    )
