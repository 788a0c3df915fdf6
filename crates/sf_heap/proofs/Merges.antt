-- Cells that move from one tree to another: the steps of pouring a tree into another one, and of parting one.
-- Names: `poured-LAW` for the one, `Parting-LAW` for the other.
use Rattle.std.proofs.Common.{◌≡◌, ℕ, ◌+◌, ◌<◌, cond, List, [], ◌∷◌, ◌++◌, length, get_or, take, Contains, Option, Some, None, IsTrue, is_some, refl, sym, ap, ◌∙◌, subst, inl, inr, arith, length-append}
use Rattle.std.specs.List.Sorted.{IsStrictlyIncreasing}
use Rattle.std.specs.Option.{option_or}
use Rattle.std.specs.Ordering.{nat_cmp, eq_by_cmp}
use Rattle.std.proofs.lemmas.Bool.{cases_eq, cases_order, false≢true}
use Rattle.std.proofs.lemmas.List.{append-nil, get_or-take, get_or_default, length-take-le, map-append, take_more}
use Rattle.std.proofs.lemmas.List.Kept.{AllPairs-from_increasing}
use Rattle.sf_base.specs.HeapStore.{Apart}
use Rattle.sf_base.proofs.Elements.{contains-cons, contains-nil}
use Rattle.sf_base.proofs.Options.{option_or-assoc}
use Rattle.sf_heap.specs.declared.tree.Entry.{Entry}
use Rattle.sf_heap.specs.Checked.Entries.{AllAbove, AllBelow, Rises, found, places}
use Rattle.sf_heap.specs.Checked.Moves.{AreApart, IsMerge, IsMoved, Parting}
use Rattle.sf_heap.specs.Checked.Trees.{IsMore}
use Rattle.sf_heap.proofs.Keys.{at-same, at-other}
use Rattle.sf_heap.proofs.Entries.{found-above, found-below}
use Rattle.sf_heap.proofs.Forks.{Rises-put, Rises-taken, found-here, found-more, found-none, found-right, left-below, length-more, right-above}
use Rattle.sf_heap.proofs.Splits.{Apart-front_right, Apart-none, found-append}

-- what is apart from something isn't there
none_apart : {X : Type 0} (x : Option X) (v : X) → Apart x (Some v) → x ≡ None
none_apart None v h = refl
none_apart (Some x) v h = absurd h

-- what isn't there is none
none_unless : {X : Type 0} (x : Option X) → (IsTrue (is_some x) → ⊥) → x ≡ None
none_unless None h = refl
none_unless (Some x) h = absurd (h refl)

or_none : {X : Type 0} (x : Option X) → option_or x None ≡ x
or_none None = refl
or_none (Some x) = refl

-- nothing is found among entries that are all below
found-under : (q : ℕ) (es : List Entry) → AllBelow q es → found q es ≡ None
found-under q es h = ap (found q) (sym (append-nil es)) ∙ found-below q es [] h

under : (a b : ℕ) (es : List Entry) → a < b → AllBelow a es → AllBelow b es
under a b [] h below = tt
under a b (e ∷ es) h below = (omega (arith, below.0), under a b es h below.1)

module _ (into below : List Entry) (e : Entry) (above : List Entry) (rises : Rises (below ++ e ∷ above))
    (apart : AreApart into (below ++ e ∷ above)) where
  -- the entries below are apart from the others
  pub poured-left : AreApart into below
  poured-left q = Apart-front_right (found q into) (found q below) (found q (e ∷ above))
      (subst (Apart (found q into)) (found-append q below (e ∷ above)) (apart q))

  -- they have none at the location of the entry
  not_there : found e.at into ≡ None
  not_there = none_apart (found e.at into) e.cell
      (subst (Apart (found e.at into)) (found-here below e above rises e.at refl) (apart e.at))

  module _ (first : List Entry) (m : IsMerge into below first) where
    -- nor have the two together
    pub poured-absent : found e.at first ≡ None
    poured-absent = m.all_found e.at ∙ found-append e.at into below
        ∙ ap (λ o. option_or o (found e.at below)) not_there ∙ found-under e.at below (left-below below e above rises)

    module _ (second : List Entry) (more : IsMore first e second) where
      -- the entries above are apart from what there is then
      pub poured-right : AreApart second above
      poured-right q = elim (cases_order q e.at) [
        | inl same ↦ nothing (found-above q above (subst (λ k. AllAbove k above) (sym same) (right-above below e above rises)))
        | inr (inl less) ↦ nothing (found-above q above (over q e.at above less (right-above below e above rises)))
        | inr (inr higher) ↦ subst (λ o. Apart o (found q above))
            (sym (found-more first e second more q ∙ at-other q e.at _ _ (λ s. omega (arith, higher, s))
            ∙ m.all_found q ∙ found-append q into below
            ∙ ap (option_or (found q into)) (found-under q below (under e.at q below higher (left-below below e above rises)))
            ∙ or_none (found q into)))
            (subst (Apart (found q into)) (found-right below e above rises q higher) (apart q))
      ]
        where
          nothing : found q above ≡ None → Apart (found q second) (found q above)
          nothing is = subst (Apart (found q second)) (sym is) (Apart-none (found q second))

          over : (a b : ℕ) (es : List Entry) → a < b → AllAbove b es → AllAbove a es
          over a b [] h k = tt
          over a b (x ∷ es) h k = (omega (arith, k.0), over a b es h k.1)

      -- and with them it is all of both
      pub poured-all : (all : List Entry) → IsMerge second above all → IsMerge into (below ++ e ∷ above) all
      poured-all all last = record {
        rises = last.rises;
        all_found = λ q. last.all_found q ∙ found-append q second above
            ∙ ap (λ o. option_or o (found q above)) (found-more first e second more q)
            ∙ both q ∙ ap (option_or (found q into)) (sym (found-append q below (e ∷ above)))
            ∙ sym (found-append q into (below ++ e ∷ above));
        sizes = omega (arith, last.sizes, length-more first e second more, m.sizes, length-append below (e ∷ above));
      }
        where
          both : (q : ℕ) → option_or (cond (eq_by_cmp nat_cmp q e.at) (Some e.cell) (found q first)) (found q above)
              ≡ option_or (found q into) (option_or (found q below) (found q (e ∷ above)))
          both q = elim (cases_eq q e.at) [
            | inl same ↦ ap (λ o. option_or o (found q above)) (at-same q e.at _ _ same)
                ∙ sym (ap (λ o. option_or o (option_or (found q below) (found q (e ∷ above))))
                (ap (λ k. found k into) same ∙ not_there)
                ∙ ap (λ o. option_or o (found q (e ∷ above)))
                (ap (λ k. found k below) same ∙ found-under e.at below (left-below below e above rises))
                ∙ at-same q e.at _ _ same)
            | inr other ↦ ap (λ o. option_or o (found q above)) (at-other q e.at _ _ other ∙ m.all_found q ∙ found-append q into below)
                ∙ option_or-assoc (found q into) (found q below) (found q above)
                ∙ ap (λ o. option_or (found q into) (option_or (found q below) o)) (sym (at-other q e.at _ _ other))
          ]

-- numbers that rise: those before a place are lower than the one there
before_lower : (at : List ℕ) (i q : ℕ) → IsStrictlyIncreasing at → i < length at → Contains (take i at) q
    → q < get_or at i 0
before_lower at i q rises within c =
    let k = c.0 in
    let lower : k < i = omega (arith, c.1, length-take-le i at (omega arith)) in
    let here : get_or at k q ≡ q = sym (get_or-take i at k q lower) ∙ c.2 in
    let less = AllPairs-from_increasing at rises k i q lower within in
    omega (arith, here, less, get_or_default at i q 0 within)

-- the cells of the part are at the given locations, and no others
pub found-places : (q : ℕ) (es : List Entry) → IsTrue (is_some (found q es)) → Contains (places es) q
found-places q [] h = absurd (false≢true h)
found-places q (e ∷ es) h = elim (cases_eq q e.at) [
  | inl same ↦ (contains-cons e.at (places es) q).1 (inl (sym same))
  | inr other ↦ (contains-cons e.at (places es) q).1
      (inr (found-places q es (ap is_some (sym (at-other q e.at _ _ other)) ∙ h)))
]

pub places-found : (q : ℕ) (es : List Entry) → Contains (places es) q → IsTrue (is_some (found q es))
places-found q [] c = absurd (contains-nil q c)
places-found q (e ∷ es) c = elim (cases_eq q e.at) [
  | inl same ↦ ap is_some (at-same q e.at _ _ same)
  | inr other ↦ ap is_some (at-other q e.at _ _ other) ∙ elim ((contains-cons e.at (places es) q).0 c) [
    | inl same ↦ absurd (other (sym same))
    | inr k ↦ places-found q es k
  ]
]

module _ (whole : List Entry) (at : List ℕ) (i : ℕ) (part rest : List Entry) (rises : IsStrictlyIncreasing at)
    (within : i < length at) (p : Parting whole at i part rest) where
  -- no entry of the part has the next location
  pub Parting-absent : found (get_or at i 0) part ≡ None
  Parting-absent = none_unless (found (get_or at i 0) part) (λ there.
      let lower = before_lower at i (get_or at i 0) rises within
      (subst (λ l. Contains l (get_or at i 0)) (sym p.at_is) (found-places (get_or at i 0) part there)) in
      omega (arith, lower))

  -- so one of the rest has
  pub Parting-there : IsTrue (is_some (found (get_or at i 0) whole)) → IsTrue (is_some (found (get_or at i 0) rest))
  Parting-there h = ap is_some (sym (p.splits.is (get_or at i 0)
      ∙ ap (λ o. option_or o (found (get_or at i 0) rest)) Parting-absent)) ∙ h

  module _ (part_after rest_after : List Entry) (m : IsMoved part rest (get_or at i 0) part_after rest_after) where
    -- the entries of the part have lower locations, so the next one comes last
    last : part_after ≡ part ++ m.entry ∷ []
    last = m.placed.is ∙ ap (λ es. m.placed.before ++ m.entry ∷ es) (none m.placed.after refl)
        ∙ ap (λ es. es ++ m.entry ∷ []) (sym (m.placed.was ∙ ap (λ es. m.placed.before ++ es) (none m.placed.after refl) ∙ append-nil m.placed.before))
      where
        none : (es : List Entry) → es ≡ m.placed.after → es ≡ []
        none [] is = refl
        none (x ∷ xs) is =
            let here = places-found x.at (x ∷ xs) ((contains-cons x.at (places xs) x.at).1 (inl refl)) in
            let above = (subst (AllAbove m.entry.at) (sym is) m.placed.above).0 in
            let found_there = ap is_some (ap (found x.at) (m.placed.was ∙ ap (λ es. m.placed.before ++ es) (sym is))
            ∙ found-below x.at m.placed.before (x ∷ xs) (under m.entry.at x.at m.placed.before above m.placed.below)) ∙ here in
            let lower = before_lower at i x.at rises within
            (subst (λ l. Contains l x.at) (sym p.at_is) (found-places x.at part found_there)) in
            absurd (omega (arith, lower, above, m.at_is))

    -- with it the part has one location more
    pub Parting-more : Parting whole at (i + 1) part_after rest_after
    Parting-more = record {
      part_rises = Rises-put part m.entry part_after m.placed p.part_rises;
      rest_rises = Rises-taken rest_after m.entry rest m.taken p.rest_rises;
      splits = record {
        apart = λ q. elim (cases_eq q m.entry.at) [
          | inl same ↦ subst (Apart (found q part_after))
              (sym (ap (λ k. found k rest_after) same ∙ found-none rest_after m.entry rest m.taken)) (Apart-none (found q part_after))
          | inr other ↦ subst (λ o. Apart o (found q rest_after)) (sym (found-more part m.entry part_after m.placed q ∙ at-other q m.entry.at _ _ other))
              (subst (Apart (found q part)) (found-more rest_after m.entry rest m.taken q ∙ at-other q m.entry.at _ _ other) (p.splits.apart q))
        ];
        is = λ q. p.splits.is q ∙ elim (cases_eq q m.entry.at) [
          | inl same ↦ ap (λ o. option_or o (found q rest)) (ap (λ k. found k part) (same ∙ m.at_is) ∙ Parting-absent)
              ∙ found-more rest_after m.entry rest m.taken q ∙ at-same q m.entry.at _ _ same
              ∙ sym (ap (λ o. option_or o (found q rest_after)) (found-more part m.entry part_after m.placed q ∙ at-same q m.entry.at _ _ same))
          | inr other ↦ ap (option_or (found q part)) (found-more rest_after m.entry rest m.taken q ∙ at-other q m.entry.at _ _ other)
              ∙ ap (λ o. option_or o (found q rest_after)) (sym (found-more part m.entry part_after m.placed q ∙ at-other q m.entry.at _ _ other))
        ];
      };
      at_is = take_more at i 0 within ∙ ap (λ l. l ++ get_or at i 0 ∷ []) p.at_is ∙ ap (λ k. places part ++ k ∷ []) (sym m.at_is)
          ∙ sym (ap places last ∙ map-append (λ (x : Entry). x.at) part (m.entry ∷ []));
      sizes = omega (arith, p.sizes, length-more part m.entry part_after m.placed, length-more rest_after m.entry rest m.taken);
    }
