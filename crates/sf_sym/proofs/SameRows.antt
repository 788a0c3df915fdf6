-- Rows that test as one are one, and the derived equality is that test.
use Rattle.std.proofs.Common.{◌≡◌, nat_eq, Bool, true, false, ◌&&◌, ◌||◌, not, cond, List, [], ◌∷◌, refl, sym, ap, ap₂, ◌∙◌}
use Rattle.std.specs.List.{list_any}
use Rattle.std.proofs.lemmas.Bool.{and_from, false≢true}
use Rattle.std.proofs.lemmas.Bool.Decides.{Decides-eqb}
use Rattle.sf_base.proofs.Bools.{and-left, and-right, bool-same}
use Rattle.sf_sym.specs.declared.outline.Outline.{Outline}
use Rattle.sf_sym.specs.declared.outline.Outline.TheVariants.{Cell, Segment, Tree as Wood, Double}
use Rattle.sf_sym.specs.declared.outline.Row.{Row}
use Rattle.sf_sym.specs.Checked.Lemmas.{same_term_is}
use Rattle.sf_sym.specs.Checked.Rows.{is_marked, same_outline, same_row}
use Rattle.sf_sym.specs.Tests.{same_term}
use Rattle.sf_sym.proofs.SameTerms.{derived, same_self}
use Rattle.sf_sym.specs.contracts.outline.OutlinePartialEq.TheImpl.{eq-value as outline-value}
use Rattle.sf_sym.specs.contracts.outline.RowPartialEq.TheImpl.{eq-value as row-value}

outline_is : (o p : Outline) → same_outline o p ≡ true → o ≡ p
outline_is (Cell t) (Cell u) e = ap Cell (same_term_is t u e)
outline_is (Segment t u) (Segment v w) e =
    ap₂ Segment (same_term_is t v (and-left (same_term t v) (same_term u w) e))
    (same_term_is u w (and-right (same_term t v) (same_term u w) e))
outline_is (Wood t) (Wood u) e = ap Wood (same_term_is t u e)
outline_is (Double v p l u) (Double w q m x) e =
    let one = and-right (same_term v w) (same_term p q && (same_term l m && same_term u x)) e in
    let two = and-right (same_term p q) (same_term l m && same_term u x) one in
    let a = same_term_is v w (and-left (same_term v w) (same_term p q && (same_term l m && same_term u x)) e) in
    let b = same_term_is p q (and-left (same_term p q) (same_term l m && same_term u x) one) in
    let c = same_term_is l m (and-left (same_term l m) (same_term u x) two) in
    let d = same_term_is u x (and-right (same_term l m) (same_term u x) two) in
    λ i. Double (a i) (b i) (c i) (d i)
outline_is o p e = absurd (false≢true e)

outline_self : (o : Outline) → same_outline o o ≡ true
outline_self (Cell t) = same_self t
outline_self (Segment t u) = and_from (same_term t t) (same_term u u) (same_self t) (same_self u)
outline_self (Wood t) = same_self t
outline_self (Double v p l u) =
    and_from (same_term v v) (same_term p p && (same_term l l && same_term u u)) (same_self v)
    (and_from (same_term p p) (same_term l l && same_term u u) (same_self p)
    (and_from (same_term l l) (same_term u u) (same_self l) (same_self u)))

pub same_row_is : (r s : Row) → same_row r s ≡ true → r ≡ s
same_row_is r s e =
    ap₂ (λ n o. record { number = n; outline = o })
    ((Decides-eqb r.number s.number).0 (and-left (nat_eq r.number s.number) (same_outline r.outline s.outline) e))
    (outline_is r.outline s.outline (and-right (nat_eq r.number s.number) (same_outline r.outline s.outline) e))

pub same_row_self : (r : Row) → same_row r r ≡ true
same_row_self r =
    and_from (nat_eq r.number r.number) (same_outline r.outline r.outline) ((Decides-eqb r.number r.number).1 refl)
    (outline_self r.outline)

derived_outline : (o p : Outline) → outline-value.it o p ≡ same_outline o p
derived_outline (Cell t) (Cell u) = derived t u
derived_outline (Segment t u) (Segment v w) = ap₂ (λ a b. a && b) (derived t v) (derived u w)
derived_outline (Wood t) (Wood u) = derived t u
derived_outline (Double v p l u) (Double w q m x) =
    λ i. derived v w i && (derived p q i && (derived l m i && derived u x i))
derived_outline o p = refl

pub derived_row : (r s : Row) → row-value.it r s ≡ same_row r s
derived_row r s = ap (λ b. nat_eq r.number s.number && b) (derived_outline r.outline s.outline)

pub same_row_turned : (r s : Row) → same_row r s ≡ same_row s r
same_row_turned r s =
    bool-same (same_row r s) (same_row s r)
    (λ e. ap (λ x. same_row s x) (same_row_is r s e) ∙ same_row_self s)
    (λ e. ap (λ x. same_row r x) (same_row_is s r e) ∙ same_row_self r)

-- the marks, as the set compares
pub marked-by : (r : Row) (rows : List Row) → list_any (row-value.it r) rows ≡ is_marked rows r
marked-by r [] = refl
marked-by r (s ∷ rows) = ap₂ (λ a b. a || b) (derived_row r s) (marked-by r rows)

-- one mark more, and one less
pub marked-more : (row r : Row) (old now : List Row)
    → list_any (row-value.it r) now ≡ cond (row-value.it row r) true (list_any (row-value.it r) old)
    → is_marked now r ≡ (same_row r row || is_marked old r)
marked-more row r old now is =
    sym (marked-by r now) ∙ is
    ∙ ap₂ (λ a b. cond a true b) (derived_row row r ∙ same_row_turned row r) (marked-by r old)
    ∙ go (same_row r row)
  where
    go : (b : Bool) → cond b true (is_marked old r) ≡ (b || is_marked old r)
    go true = refl
    go false = refl

pub marked-less : (row r : Row) (old now : List Row)
    → list_any (row-value.it r) now ≡ cond (row-value.it row r) false (list_any (row-value.it r) old)
    → is_marked now r ≡ (not (same_row r row) && is_marked old r)
marked-less row r old now is =
    sym (marked-by r now) ∙ is
    ∙ ap₂ (λ a b. cond a false b) (derived_row row r ∙ same_row_turned row r) (marked-by r old)
    ∙ go (same_row r row)
  where
    go : (b : Bool) → cond b false (is_marked old r) ≡ (not b && is_marked old r)
    go true = refl
    go false = refl
