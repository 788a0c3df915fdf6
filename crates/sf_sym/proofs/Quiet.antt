-- What is quiet stays so where fewer parts have cells and more are marked.
use Rattle.std.proofs.Common.{◌≡◌, inl, inr, Bool, true, false, ◌&&◌, not, cond, Some, None, List, is_some, refl, ap}
use Rattle.std.specs.List.{list_any}
use Rattle.std.proofs.lemmas.Bool.{and_from, or_cases, or_left, or_right}
use Rattle.sf_base.proofs.Bools.{and-left, and-right}
use Rattle.sf_sym.specs.declared.atom.Atom.{Atom}
use Rattle.sf_sym.specs.declared.atom.Atom.TheVariants.{Points, Ls, Tree, Dll}
use Rattle.sf_sym.specs.declared.outline.Row.{Row}
use Rattle.sf_sym.specs.declared.term.Term.{Term}
use Rattle.sf_sym.specs.declared.term.Term.TheVariants.{Nil}
use Rattle.sf_sym.specs.Checked.Keeping.{In, IsQuiet, IsUnmarked, StillMarked, are_allocated, is_closed, is_forced, is_hopeless, row_allocates, row_begins, row_beside}
use Rattle.sf_sym.specs.Checked.Rows.{bare, is_marked}
use Rattle.sf_sym.specs.Known.{forced_by}
use Rattle.sf_sym.specs.Tests.{begins, has_cell, is_constant, is_integer_tree, is_left_out, root, roots, same_term}
use Rattle.sf_sym.proofs.Members.{any-in, clash, in-any, not-true}
use Rattle.sf_sym.proofs.Outlines.{double-pair}
use Rattle.sf_sym.proofs.SameTerms.{same_self}

-- an atom begins at each of its roots
pub begins-root : (x : Atom) (t : Term) → In t (roots x) → begins t x ≡ true
begins-root x t h = in-any (λ r. same_term r t) (roots x) t h (same_self t)

pub root-in : (x : Atom) → In (root x) (roots x)
root-in (Points t fields) = inl refl
root-in (Ls t u) = inl refl
root-in (Tree t) = inl refl
root-in (Dll v p l u) = inl refl

-- an atom that is forced where its root is elsewhere by one reckoning is so by a larger one
forced-more : (p q : Bool) (x : Atom) → (p ≡ true → q ≡ true) → is_some (forced_by p x) ≡ true
    → is_some (forced_by q x) ≡ true
forced-more p q (Points t fields) more e = e
forced-more p q (Ls t u) more e = go (not (same_term t u)) p q more e
  where
    go : (a p q : Bool) → (p ≡ true → q ≡ true) → is_some {T = Term × Term} (cond (a && p) (Some (t, u)) None) ≡ true
        → is_some {T = Term × Term} (cond (a && q) (Some (t, u)) None) ≡ true
    go true true q m f = ap (λ b. is_some {T = Term × Term} (cond b (Some (t, u)) None)) (m refl)
    go true false q m f = absurd (cc)
    go false p q m f = f
forced-more p q (Tree t) more e = go (not (same_term t Nil)) p q more e
  where
    go : (a p q : Bool) → (p ≡ true → q ≡ true) → is_some {T = Term × Term} (cond (a && p) (Some (t, Nil)) None) ≡ true
        → is_some {T = Term × Term} (cond (a && q) (Some (t, Nil)) None) ≡ true
    go true true q m f = ap (λ b. is_some {T = Term × Term} (cond b (Some (t, Nil)) None)) (m refl)
    go true false q m f = absurd (cc)
    go false p q m f = f
forced-more p q (Dll v b l u) more e = go (same_term v u) (same_term b l) p q more e
  where
    go : (x y p q : Bool) → (p ≡ true → q ≡ true) → is_some (double-pair v b l u x y p) ≡ true
        → is_some (double-pair v b l u x y q) ≡ true
    go true y p q m f = f
    go false y true q m f = ap (λ z. is_some (double-pair v b l u false y z)) (m refl)
    go false y false q m f = absurd (cc)

-- where something is found among the roots by one test, and each root that passes it passes another, it is found by that
roots-more : (p q : Term → Bool) (x : Atom) → ((t : Term) → begins t x ≡ true → p t ≡ true → q t ≡ true)
    → list_any p (roots x) ≡ true → list_any q (roots x) ≡ true
roots-more p q x more e =
    let r = any-in p (roots x) e in in-any q (roots x) r.0 r.1 (more r.0 (begins-root x r.0 r.1) r.2)

-- marks that are still there leave what has none without one
pub still-unmarked : (old now : List Row) → StillMarked old now → (r : Row) → IsUnmarked now r → IsUnmarked old r
still-unmarked old now still r f = not-true (is_marked old r) (λ e. clash (is_marked now r) (still r e) f)

module _ (apart less : List (Term × Term)) (rows atoms fewer left : List Row) (marks more : List Row)
    (there : (r : Row) → In r fewer → IsUnmarked more r → In r rows)
    (atom : (r : Row) → In r left → IsUnmarked more r → In r atoms)
    (part : (r : Row) → In r left → In r fewer)
    (was : (r : Row) → In r fewer → IsUnmarked more r → (c : Row) → In c fewer → (t : Term)
    → row_begins t r ≡ true → row_allocates less t c ≡ true → In c rows × (row_allocates apart t c ≡ true))
    (cell : (r : Row) → In r fewer → IsUnmarked more r → has_cell less (bare r.outline) ≡ true
    → has_cell apart (bare r.outline) ≡ true)
    (still : (r : Row) → In r fewer → IsUnmarked more r → IsUnmarked marks r) where
  closed-less : (r : Row) → In r fewer → IsUnmarked more r → (t : Term) → row_begins t r ≡ true
      → is_closed less fewer r.number t ≡ true → is_closed apart rows r.number t ≡ true
  closed-less r h f t b e = elim (or_cases (is_constant t) (are_allocated less fewer t (Some r.number)) e) [
    | inl g ↦ or_left (is_constant t) (are_allocated apart rows t (Some r.number)) g
    | inr g ↦ (
        let c = any-in (row_beside less t (Some r.number)) fewer g in
        let one = and-left (not (is_left_out (Some r.number) c.0.number)) (row_allocates less t c.0) c.2 in
        let two = and-right (not (is_left_out (Some r.number) c.0.number)) (row_allocates less t c.0) c.2 in
        let d = was r h f c.0 c.1 t b two in
        or_right (is_constant t) (are_allocated apart rows t (Some r.number))
        (in-any (row_beside apart t (Some r.number)) rows c.0 d.0
        (and_from (not (is_left_out (Some r.number) c.0.number)) (row_allocates apart t c.0) one d.1)))
  ]

  hopeless-less : (r : Row) → In r fewer → IsUnmarked more r → is_hopeless less fewer r ≡ true
      → is_hopeless apart rows r ≡ true
  hopeless-less r h f e =
      let x = bare r.outline in
      elim (or_cases (is_integer_tree x) (has_cell less x && list_any (is_closed less fewer r.number) (roots x)) e) [
        | inl g ↦ or_left (is_integer_tree x) (has_cell apart x && list_any (is_closed apart rows r.number) (roots x)) g
        | inr g ↦ (
            let one = and-left (has_cell less x) (list_any (is_closed less fewer r.number) (roots x)) g in
            let two = and-right (has_cell less x) (list_any (is_closed less fewer r.number) (roots x)) g in
            or_right (is_integer_tree x) (has_cell apart x && list_any (is_closed apart rows r.number) (roots x))
            (and_from (has_cell apart x) (list_any (is_closed apart rows r.number) (roots x)) (cell r h f one)
            (roots-more (is_closed less fewer r.number) (is_closed apart rows r.number) x (closed-less r h f) two)))
      ]

  pub quiet-less : IsQuiet apart rows atoms marks → IsQuiet less fewer left more
  quiet-less q = record {
    hopeful = λ r h f.
        not-true (is_hopeless less fewer r)
        (λ e. clash (is_hopeless apart rows r) (hopeless-less r h f e) (q.hopeful r (there r h f) (still r h f)));
    free = λ r h f.
        let x = bare r.outline in
        not-true (is_forced less fewer r)
        (λ e. clash (is_forced apart rows r)
        (forced-more (is_closed less fewer r.number (root x)) (is_closed apart rows r.number (root x)) x
        (closed-less r (part r h) f (root x) (begins-root x (root x) (root-in x))) e)
        (q.free r (atom r h f) (still r (part r h) f)));
  }
