-- Tests that look only at some rows of an index find what the tests of all parts find.
-- Names: `any-LAW` of whether some row passes, `first-LAW` of which atom comes first.
use Rattle.std.proofs.Common.{◌≡◌, ℕ, Bool, true, false, ◌&&◌, ◌||◌, not, Option, Some, List, [], ◌∷◌, ◌++◌, is_some, refl, sym, ap, ap₂, subst}
use Rattle.std.specs.List.{list_any}
use Rattle.sf_base.proofs.Bools.{bool-same}
use Rattle.sf_sym.specs.declared.atom.Atom.{Atom}
use Rattle.sf_sym.specs.declared.atom.Atom.TheVariants.{Points, Ls, Tree, Dll}
use Rattle.sf_sym.specs.declared.atom.Numbered.{Numbered}
use Rattle.sf_sym.specs.declared.outline.Row.{Row}
use Rattle.sf_sym.specs.declared.store.Store.{Store}
use Rattle.sf_sym.specs.declared.term.Term.{Term}
use Rattle.sf_sym.specs.declared.term.Term.TheVariants.{Nil}
use Rattle.sf_sym.specs.Checked.Keeping.{HasMark, In, IsIndexed, IsUnmarked, are_allocated, row_allocates, row_beside, rows_of}
use Rattle.sf_sym.specs.Checked.Rows.{bare, is_marked, outline, row_of, rows_at, same_row}
use Rattle.sf_sym.specs.Checked.Wanted.{all_rows, are_first, is_first, known}
use Rattle.sf_sym.specs.Known.{forced_by}
use Rattle.sf_sym.specs.Tests.{allocated, allocates, are_both_allocated, is_left_out, same_term}
use Rattle.sf_sym.proofs.Members.{any-in, clash, in-any, not-false}
use Rattle.sf_sym.proofs.Outlines.{bare-test, double-pair, end-pair}
use Rattle.sf_sym.proofs.SameRows.{same_row_is, same_row_self}

pub bare-allocates : (apart : List (Term × Term)) (t : Term) (x : Atom)
    → allocates apart t (bare (outline x)) ≡ allocates apart t x
bare-allocates apart t = bare-test (allocates apart t) (λ r fields. refl)

-- a test of rows that says of each row what another one says of its atom
pub any-rows : (p : Row → Bool) (q : Numbered → Bool) → ((a : Numbered) → p (row_of a) ≡ q a) → (xs : List Numbered)
    → list_any p (rows_of xs) ≡ list_any q xs
any-rows p q same [] = refl
any-rows p q same (x ∷ xs) = ap₂ (λ a b. a || b) (same x) (any-rows p q same xs)

-- what is marked is among the marks
pub marked-in : (marks : List Row) (r : Row) → HasMark marks r → In r marks
marked-in marks r e = let s = any-in (same_row r) marks e in subst (λ x. In x marks) (sym (same_row_is r s.0 s.2)) s.1

module _ (apart : List (Term × Term)) (rows atoms : List Row) (roots cells : List (Term × List Row))
    (marks : List Row) (kept : IsIndexed apart rows atoms roots cells marks) where
  -- at one term, where only what has a cell there passes
  pub any-at : (t : Term) (p : Row → Bool) → ((r : Row) → p r ≡ true → row_allocates apart t r ≡ true)
      → list_any p (rows_at cells t) ≡ list_any p rows
  any-at t p there =
      bool-same (list_any p (rows_at cells t)) (list_any p rows)
      (λ e. let r = any-in p (rows_at cells t) e in in-any p rows r.0 (kept.cells_of_rows t r.0 r.1).0 r.2)
      (λ e. let r = any-in p rows e in
      in-any p (rows_at cells t) r.0 (kept.cells_listed r.0 r.1 t (there r.0 r.2)) r.2)

  -- of those that are marked, where none passes that isn't
  pub any-marked : (p : Row → Bool) → ((r : Row) → In r rows → IsUnmarked marks r → p r ≡ false)
      → list_any p marks ≡ list_any p rows
  any-marked p quiet =
      bool-same (list_any p marks) (list_any p rows)
      (λ e. let r = any-in p marks e in
      in-any p rows r.0 (kept.marked r.0 (in-any (same_row r.0) marks r.0 r.1 (same_row_self r.0))) r.2)
      (λ e. let r = any-in p rows e in
      in-any p marks r.0
      (marked-in marks r.0 (not-false (is_marked marks r.0) (λ f. clash (p r.0) r.2 (quiet r.0 r.1 f)))) r.2)

module _ (s : Store) where
  -- what is allocated, and whether two different parts have cells at two terms
  pub all_allocated : (t : Term) (except : Option ℕ)
      → are_allocated s.apart (all_rows s) t except ≡ allocated (known s) t except
  all_allocated t except =
      any-rows (row_beside s.apart t except) (λ a. not (is_left_out except a.number) && allocates s.apart t a.atom)
      (λ a. ap (λ b. not (is_left_out except a.number) && b) (bare-allocates s.apart t a.atom))
      (s.atoms ++ s.taken.items)

  pub both_allocated : (t u : Term) → are_first s t u ≡ are_both_allocated (known s) t u
  both_allocated t u =
      any-rows (is_first s t u) (λ a. allocates s.apart t a.atom && allocated (known s) u (Some a.number))
      (λ a. ap₂ (λ b c. b && c) (bare-allocates s.apart t a.atom) (all_allocated u (Some a.number)))
      (s.atoms ++ s.taken.items)

-- what is forced is so wherever its root is, or where it would be if that were elsewhere, and it is elsewhere
pub forced_where_closed : (x : Atom) (p : Bool)
    → (is_some (forced_by false x) || is_some (forced_by true x) && p) ≡ is_some (forced_by p x)
forced_where_closed (Points t fields) p = refl
forced_where_closed (Ls t u) p = go (not (same_term t u)) p
  where
    go : (a p : Bool) → (is_some (end-pair t u (a && false)) || is_some (end-pair t u (a && true)) && p)
        ≡ is_some (end-pair t u (a && p))
    go true true = refl
    go true false = refl
    go false p = refl
forced_where_closed (Tree t) p = go (not (same_term t Nil)) p
  where
    go : (a p : Bool) → (is_some (end-pair t Nil (a && false)) || is_some (end-pair t Nil (a && true)) && p)
        ≡ is_some (end-pair t Nil (a && p))
    go true true = refl
    go true false = refl
    go false p = refl
forced_where_closed (Dll v b l u) p = go (same_term v u) (same_term b l) p
  where
    go : (x y p : Bool)
        → (is_some (double-pair v b l u x y false) || is_some (double-pair v b l u x y true) && p)
        ≡ is_some (double-pair v b l u x y p)
    go true true p = refl
    go true false p = refl
    go false y true = refl
    go false y false = refl
