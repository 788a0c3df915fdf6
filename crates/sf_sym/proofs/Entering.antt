-- A row that is entered where its atom begins, and one that leaves.
use Rattle.std.proofs.Common.{◌≡◌, ◌⊎◌, inl, inr, ℕ, Bool, true, false, ◌&&◌, ◌||◌, not, cond, Option, Some, None, List, [], ◌∷◌, refl, sym, ap, ◌∙◌, subst}
use Rattle.std.specs.List.{list_any}
use Rattle.std.proofs.lemmas.Bool.{and_from, false≢true, or_cases, or_left, or_right}
use Rattle.std.proofs.lemmas.Option.{none-some, same_Some}
use Rattle.sf_base.proofs.Bools.{and-left, and-right, not-both}
use Rattle.sf_sym.specs.declared.atom.Atom.{Atom}
use Rattle.sf_sym.specs.declared.atom.Atom.TheVariants.{Points, Ls, Tree, Dll}
use Rattle.sf_sym.specs.declared.outline.Row.{Row}
use Rattle.sf_sym.specs.declared.term.Term.{Term}
use Rattle.sf_sym.specs.Checked.Keeping.{AreAlso, AreMarksAlso, AreMarksWith, Enters, EntersOf, Has, HasMark, In, IsCovered, IsMarkedBeside, IsThere, IsUndone, Leaves, MayEnter, StillMarked, gets_cell, joins, other_root, row_begins}
use Rattle.sf_sym.specs.Checked.Lemmas.{same_term_is}
use Rattle.sf_sym.specs.Checked.Rows.{IsOut, IsPut, bare, is_marked, rows_at, same_row}
use Rattle.sf_sym.specs.Tests.{begins, has_cell, root, same_term}
use Rattle.sf_sym.proofs.Members.{clash, in-any, not-true}
use Rattle.sf_sym.proofs.ByRows.{marked-in}
use Rattle.sf_sym.proofs.SameRows.{same_row_is, same_row_self}
use Rattle.sf_sym.proofs.SameTerms.{same_self}

-- an atom begins at its root, and at no more than one other term
shorter : (b : Bool) → (b || false) ≡ b
shorter true = refl
shorter false = refl

pub root-begins : (x : Atom) → begins (root x) x ≡ true
root-begins (Points r fields) = or_left (same_term r r) false (same_self r)
root-begins (Ls r u) = or_left (same_term r r) false (same_self r)
root-begins (Tree r) = or_left (same_term r r) false (same_self r)
root-begins (Dll v p l u) = or_left (same_term v v) (same_term l v || false) (same_self v)

one-root : (r at t : Term) → (same_term r at || false) ≡ true → (same_term r t || false) ≡ true → t ≡ at
one-root r at t a b =
    sym (same_term_is r t (sym (shorter (same_term r t)) ∙ b)) ∙ same_term_is r at (sym (shorter (same_term r at)) ∙ a)

either-root : (v l t : Term) → (same_term v t || (same_term l t || false)) ≡ true → (t ≡ v) ⊎ (t ≡ l)
either-root v l t e = elim (or_cases (same_term v t) (same_term l t || false) e) [
  | inl g ↦ inl (sym (same_term_is v t g))
  | inr g ↦ inr (sym (same_term_is l t (sym (shorter (same_term l t)) ∙ g)))
]

-- of two terms the other one than the third
the-other : (v l at t : Term) → (same_term v at || (same_term l at || false)) ≡ true
    → (same_term v t || (same_term l t || false)) ≡ true
    → (t ≡ at) ⊎ (cond (same_term v l) None (Some (cond (same_term v at) l v)) ≡ Some t)
the-other v l at t a b = go (same_term v l) refl (same_term v at) refl (either-root v l at a) (either-root v l t b)
  where
    go : (x : Bool) → same_term v l ≡ x → (y : Bool) → same_term v at ≡ y → (at ≡ v) ⊎ (at ≡ l) → (t ≡ v) ⊎ (t ≡ l)
        → (t ≡ at) ⊎ (cond x None (Some (cond y l v)) ≡ Some t)
    go x e y f (inl g) (inl h) = inl (h ∙ sym g)
    go x e y f (inr g) (inr h) = inl (h ∙ sym g)
    go true e y f (inl g) (inr h) = inl (h ∙ sym (same_term_is v l e) ∙ sym g)
    go true e y f (inr g) (inl h) = inl (h ∙ same_term_is v l e ∙ sym g)
    go false e true f (inl g) (inr h) = inr (ap Some (sym h))
    go false e false f (inl g) (inr h) =
        absurd (false≢true (sym f ∙ ap (same_term v) g ∙ same_self v))
    go false e true f (inr g) (inl h) =
        absurd (false≢true (sym e ∙ ap (same_term v) (sym g) ∙ f))
    go false e false f (inr g) (inl h) = inr (ap Some (sym h))

pub other-place : (at t : Term) (x : Atom) → begins at x ≡ true → begins t x ≡ true
    → (t ≡ at) ⊎ (other_root at x ≡ Some t)
other-place at t (Points r fields) a b = inl (one-root r at t a b)
other-place at t (Ls r u) a b = inl (one-root r at t a b)
other-place at t (Tree r) a b = inl (one-root r at t a b)
other-place at t (Dll v p l u) a b = the-other v l at t a b

-- it begins at that too
pub other-begins : (at t : Term) (x : Atom) → other_root at x ≡ Some t → begins t x ≡ true
other-begins at t (Points r fields) e = absurd (cc)
other-begins at t (Ls r u) e = absurd (cc)
other-begins at t (Tree r) e = absurd (cc)
other-begins at t (Dll v p l u) e = go (same_term v l) (same_term v at) e
  where
    go : (x y : Bool) → cond x None (Some (cond y l v)) ≡ Some t
        → (same_term v t || (same_term l t || false)) ≡ true
    go true y f = absurd (cc)
    go false true f =
        subst (λ z. (same_term v z || (same_term l z || false)) ≡ true) (same_Some l t f)
        (or_right (same_term v l) (same_term l l || false) (or_left (same_term l l) false (same_self l)))
    go false false f =
        subst (λ z. (same_term v z || (same_term l z || false)) ≡ true) (same_Some v t f)
        (or_left (same_term v v) (same_term l v || false) (same_self v))

-- what is among some rows is found there
in-marked : (rows : List Row) (r : Row) → In r rows → is_marked rows r ≡ true
in-marked rows r h = in-any (same_row r) rows r h (same_row_self r)

-- the same rows are at the same terms
pub may-same : (row : Row) (old now : List (Term × List Row)) → ((u : Term) → rows_at now u ≡ rows_at old u)
    → MayEnter row old now
may-same row old now same = record {
  only = λ u r h. inl (subst (In r) (same u) h);
  still = λ u r h. subst (In r) (sym (same u)) h;
}

-- a row is put at a term where its atom begins
pub may-put : (row : Row) (old now : List (Term × List Row)) (t : Term) → row_begins t row ≡ true → IsPut t row old now
    → MayEnter row old now
may-put row old now t b is = record {
  only = λ u r h.
      let x = same_term u t && same_row r row in
      elim (or_cases x (is_marked (rows_at old u) r) (sym (is u r) ∙ in-marked (rows_at now u) r h)) [
        | inl g ↦ inr (
          same_row_is r row (and-right (same_term u t) (same_row r row) g),
          subst (λ z. row_begins z row ≡ true)
              (sym (same_term_is u t (and-left (same_term u t) (same_row r row) g))) b,
        )
        | inr g ↦ inl (marked-in (rows_at old u) r g)
      ];
  still = λ u r h.
      marked-in (rows_at now u) r
      (is u r ∙ or_right (same_term u t && same_row r row) (is_marked (rows_at old u) r)
      (in-marked (rows_at old u) r h));
}

-- it is there then
pub put-there : (row : Row) (old now : List (Term × List Row)) (t : Term) → IsPut t row old now → In row (rows_at now t)
put-there row old now t is =
    marked-in (rows_at now t) row
    (is t row ∙ or_left (same_term t t && same_row row row) (is_marked (rows_at old t) row)
    (and_from (same_term t t) (same_row row row) (same_self t) (same_row_self row)))

-- one after the other
pub may-both : (row : Row) (old mid now : List (Term × List Row)) → MayEnter row old mid → MayEnter row mid now
    → MayEnter row old now
may-both row old mid now one two = record {
  only = λ u r h. elim (two.only u r h) [ inl g ↦ one.only u r g | inr g ↦ inr g ];
  still = λ u r h. two.still u r (one.still u r h);
}

-- a row that is put at the one term where its atom begins, or at both
pub entered : (row : Row) (old now : List (Term × List Row)) → other_root (root (bare row.outline)) (bare row.outline) ≡ None
    → IsPut (root (bare row.outline)) row old now → Enters row old now
entered row old now none is =
    let x = bare row.outline in
    let may = may-put row old now (root x) (root-begins x) is in
    record {
      only = may.only;
      still = may.still;
      there = λ u b. elim (other-place (root x) u x (root-begins x) b) [
        | inl e ↦ subst (λ z. In row (rows_at now z)) (sym e) (put-there row old now (root x) is)
        | inr e ↦ absurd (none-some u (sym none ∙ e))
      ];
    }

pub entered-both : (row : Row) (old mid now : List (Term × List Row)) (last : Term)
    → other_root (root (bare row.outline)) (bare row.outline) ≡ Some last
    → IsPut (root (bare row.outline)) row old mid → IsPut last row mid now → Enters row old now
entered-both row old mid now last some one two =
    let x = bare row.outline in
    let here = may-put row old mid (root x) (root-begins x) one in
    let there = may-put row mid now last (other-begins (root x) last x some) two in
    let may = may-both row old mid now here there in
    record {
      only = may.only;
      still = may.still;
      there = λ u b. elim (other-place (root x) u x (root-begins x) b) [
        | inl e ↦ subst (λ z. In row (rows_at now z)) (sym e)
            (there.still (root x) row (put-there row old mid (root x) one))
        | inr e ↦ subst (λ z. In row (rows_at now z)) (same_Some last u (sym some ∙ e))
            (put-there row mid now last two)
      ];
    }

-- the same, where the first term is known to be the root
module _ (row : Row) (old mid now : List (Term × List Row)) (t : Term) (at : t ≡ root (bare row.outline)) where
  abbrev next : Term → Option Term
  next u = other_root u (bare row.outline)

  pub entered-at : None ≡ next t → IsPut t row old now → Enters row old now
  entered-at none is = entered row old now (ap next (sym at) ∙ sym none) (subst (λ z. IsPut z row old now) at is)

  pub entered-both_at : (last : Term) → Some last ≡ next t → IsPut t row old mid → IsPut last row mid now → Enters row old now
  entered-both_at last some one two =
      entered-both row old mid now last (ap next (sym at) ∙ sym some) (subst (λ z. IsPut z row old mid) at one) two

  pub may-first : IsPut t row old mid → ((u : Term) → rows_at now u ≡ rows_at mid u) → MayEnter row old now
  may-first is same =
      may-both row old mid now
      (may-put row old mid t (ap (λ z. row_begins z row) at ∙ root-begins (bare row.outline)) is) (may-same row mid now same)

-- a row that goes from a term
out-only : (row : Row) (old now : List (Term × List Row)) (t : Term) → IsOut t row old now → (u : Term) (r : Row)
    → In r (rows_at now u) → In r (rows_at old u) × (u ≡ t → r ≡ row → ⊥)
out-only row old now t is u r h =
    let x = same_term u t && same_row r row in
    let both = sym (is u r) ∙ in-marked (rows_at now u) r h in (
      marked-in (rows_at old u) r (and-right (not x) (is_marked (rows_at old u) r) both),
      (λ e same. not-both x
          (and_from (same_term u t) (same_row r row) (ap (λ z. same_term z t) e ∙ same_self t)
          (ap (λ z. same_row z row) same ∙ same_row_self row))
          (and-left (not x) (is_marked (rows_at old u) r) both)),
    )

out-others : (row : Row) (old now : List (Term × List Row)) (t : Term) → IsOut t row old now → (u : Term) (r : Row)
    → In r (rows_at old u) → (r ≡ row → ⊥) → In r (rows_at now u)
out-others row old now t is u r h other =
    let x = same_term u t && same_row r row in
    marked-in (rows_at now u) r
    (is u r ∙ and_from (not x) (is_marked (rows_at old u) r)
    (ap not (not-true x (λ e. other (same_row_is r row (and-right (same_term u t) (same_row r row) e)))))
    (in-marked (rows_at old u) r h))

-- a row that goes from the one term where its atom begins, or from both
pub left : (row : Row) (old now : List (Term × List Row)) → other_root (root (bare row.outline)) (bare row.outline) ≡ None
    → IsOut (root (bare row.outline)) row old now → Leaves row old now
left row old now none is =
    let x = bare row.outline in
    record {
      only = λ u r h.
          let k = out-only row old now (root x) is u r h in (
            k.0,
            (λ b same. elim (other-place (root x) u x (root-begins x) b) [
              | inl e ↦ k.1 e same
              | inr e ↦ none-some u (sym none ∙ e)
            ]),
          );
      others = out-others row old now (root x) is;
    }

pub left-both : (row : Row) (old mid now : List (Term × List Row)) (last : Term)
    → other_root (root (bare row.outline)) (bare row.outline) ≡ Some last
    → IsOut (root (bare row.outline)) row old mid → IsOut last row mid now → Leaves row old now
left-both row old mid now last some one two =
    let x = bare row.outline in
    record {
      only = λ u r h.
          let j = out-only row mid now last two u r h in
          let k = out-only row old mid (root x) one u r j.0 in (
            k.0,
            (λ b same. elim (other-place (root x) u x (root-begins x) b) [
              | inl e ↦ k.1 e same
              | inr e ↦ j.1 (same_Some u last (sym e ∙ some)) same
            ]),
          );
      others = λ u r h other. out-others row mid now last two u r (out-others row old mid (root x) one u r h other) other;
    }

module _ (row : Row) (old mid now : List (Term × List Row)) (t : Term) (at : t ≡ root (bare row.outline)) where
  pub left-at : None ≡ other_root t (bare row.outline) → IsOut t row old now → Leaves row old now
  left-at none is =
      left row old now (ap (λ z. other_root z (bare row.outline)) (sym at) ∙ sym none)
      (subst (λ z. IsOut z row old now) at is)

  pub left-both_at : (last : Term) → Some last ≡ other_root t (bare row.outline) → IsOut t row old mid
      → IsOut last row mid now → Leaves row old now
  left-both_at last some one two =
      left-both row old mid now last (ap (λ z. other_root z (bare row.outline)) (sym at) ∙ sym some)
      (subst (λ z. IsOut z row old mid) at one) two

-- what may have come goes again
pub undone : (row : Row) (old mid now : List (Term × List Row)) → MayEnter row old mid → Leaves row mid now
    → IsUndone row.number old now
undone row old mid now may leaves = record {
  only = λ t r h.
      let k = leaves.only t r h in elim (may.only t r k.0) [
        | inl g ↦ g
        | inr g ↦ absurd (k.1 g.1 g.0)
      ];
  others = λ t r h other. leaves.others t r (may.still t r h) (λ e. other (ap (λ (x : Row). x.number) e));
}

pub undone-same : (n : ℕ) (rows : List (Term × List Row)) → IsUndone n rows rows
undone-same n rows = record { only = λ t r h. h; others = λ t r h other. h }

-- what came goes again
pub undone-enter : (row : Row) (old mid now : List (Term × List Row)) → Enters row old mid → Leaves row mid now
    → IsUndone row.number old now
undone-enter row old mid now enters leaves =
    undone row old mid now (record { only = enters.only; still = enters.still }) leaves

-- marks of rows at one term are of rows of the index
pub marks-also : (roots : List (Term × List Row)) (at : Term) (old now : List Row)
    → AreMarksWith (rows_at roots at) old now → AreMarksAlso roots old now
marks-also roots at old now more r h = elim (more r h) [ inl g ↦ inl g | inr g ↦ inr (at, g) ]

-- one after the other
pub also-both : (roots : List (Term × List Row)) (old mid now : List Row) → AreMarksAlso roots old mid
    → AreMarksAlso roots mid now → AreMarksAlso roots old now
also-both roots old mid now one two r h = elim (two r h) [ inl g ↦ one r g | inr g ↦ inr g ]

-- what is marked beside a row stays so
pub beside-still : (roots : List (Term × List Row)) (at : Term) (row : Row) (old now : List Row) → StillMarked old now
    → IsMarkedBeside roots at row old → IsMarkedBeside roots at row now
beside-still roots at row old now still beside u e r h = still r (beside u e r h)

-- all that begin at the two terms where an atom does are marked
pub marked-roots : (roots : List (Term × List Row)) (row : Row) (marks : List Row)
    → ((r : Row) → In r (rows_at roots (root (bare row.outline))) → HasMark marks r)
    → IsMarkedBeside roots (root (bare row.outline)) row marks
    → (t : Term) → row_begins t row ≡ true → (r : Row) → In r (rows_at roots t) → HasMark marks r
marked-roots roots row marks here beside t b r h =
    let x = bare row.outline in
    elim (other-place (root x) t x (root-begins x) b) [
      | inl e ↦ here r (subst (λ z. In r (rows_at roots z)) e h)
      | inr e ↦ beside t e r h
    ]

-- what is covered stays so where rows and marks come
pub covered-still : (roots cells more : List (Term × List Row)) (marks marked : List Row) (c : Row) → Has cells more
    → StillMarked marks marked → IsCovered roots cells marks c → IsCovered roots more marked c
covered-still roots cells more marks marked c has still covered t b =
    let k = covered t b in (has t c k.0, (λ r h. still r (k.1 r h)))

-- one more of some rows comes into an index
pub enters-also : (rows : List Row) (row : Row) (old cells more : List (Term × List Row)) → In row rows
    → EntersOf rows old cells → EntersOf (row ∷ []) cells more → EntersOf rows old more
enters-also rows row old cells more here also only t r h = elim (only t r h) [
  | inl g ↦ also t r g
  | inr g ↦ elim g.0 [
    | inl e ↦ inr (subst (λ (x : Row). In x rows) (sym e) here, g.1)
    | inr z ↦ absurd z
  ]
]

-- rows at one term of the index of roots come into another one
pub enters-roots : (roots old more : List (Term × List Row)) (at : Term) → EntersOf (rows_at roots at) old more
    → AreAlso roots old more
enters-roots roots old more at only t r h = elim (only t r h) [
  | inl g ↦ inl g
  | inr g ↦ inr ((at, g.0), g.1)
]

-- where none of some rows gets a cell, this one doesn't
pub gets-none : (apart : List (Term × Term)) (p : Term × Term) (rows : List Row) (c : Row) (any : Bool)
    → any ≡ list_any (gets_cell apart p) rows → any ≡ false → In c rows → joins p (bare c.outline) ≡ true
    → has_cell apart (bare c.outline) ≡ false → ⊥
gets-none apart p rows c any is none h j e =
    clash any
    (is ∙ in-any (gets_cell apart p) rows c h
    (and_from (joins p (bare c.outline)) (not (has_cell apart (bare c.outline))) j (ap not e))) none

-- a row is covered once it is in the index, and all rows at its terms are marked
pub covered-one : (roots cells : List (Term × List Row)) (marks : List Row) (at : Term)
    → ((t : Term) (r : Row) → In r (rows_at roots t) → row_begins t r ≡ true) → (c : Row) → In c (rows_at roots at)
    → IsThere cells c → ((r : Row) → In r (rows_at roots at) → HasMark marks r) → IsMarkedBeside roots at c marks
    → IsCovered roots cells marks c
covered-one roots cells marks at of c here there all beside t b = (
  there t b,
  (λ r h. elim (other-place at t (bare c.outline) (of at c here) b) [
    | inl e ↦ all r (subst (λ z. In r (rows_at roots z)) e h)
    | inr e ↦ beside t e r h
  ]),
)

-- the index of cells has the new row where the part has a cell
pub cells-only : (is_cell : Bool) (row : Row) (old now : List (Term × List Row)) → (is_cell ≡ true → Enters row old now)
    → (is_cell ≡ false → now ≡ old) → (t : Term) (r : Row) → In r (rows_at now t)
    → In r (rows_at old t) ⊎ ((r ≡ row) × (row_begins t row ≡ true))
cells-only true row old now enters same t r h = (enters refl).only t r h
cells-only false row old now enters same t r h = inl (subst (λ z. In r (rows_at z t)) (same refl) h)

pub cells-still : (is_cell : Bool) (row : Row) (old now : List (Term × List Row)) → (is_cell ≡ true → Enters row old now)
    → (is_cell ≡ false → now ≡ old) → Has old now
cells-still true row old now enters same t r h = (enters refl).still t r h
cells-still false row old now enters same t r h = subst (λ z. In r (rows_at z t)) (sym (same refl)) h
