-- What is kept beside the parts of a heap, after each primitive change.
-- Names: `kept-LAW` says that it is kept.
use Rattle.std.proofs.Common.{◌≡◌, ◌⊎◌, inl, inr, Bool, true, false, ◌&&◌, not, List, [], ◌∷◌, ◌++◌, refl, sym, ap, ◌∙◌, subst}
use Rattle.std.proofs.lemmas.Bool.{and_from}
use Rattle.sf_base.proofs.Bools.{and-left, and-right, not-both}
use Rattle.sf_sym.specs.declared.outline.Row.{Row}
use Rattle.sf_sym.specs.declared.term.Term.{Term}
use Rattle.sf_sym.specs.Checked.Keeping.{AreMarksOf, AreOf, Has, HasMark, In, IsIndexed, IsNoted, IsReady, IsUnmarked, Leaves, StillMarked, joins, row_allocates, row_begins}
use Rattle.sf_sym.specs.Checked.Rows.{bare, is_marked, rows_at, same_row}
use Rattle.sf_sym.specs.Tests.{has_cell, root}
use Rattle.sf_sym.proofs.CellPairs.{cell-more}
use Rattle.sf_sym.proofs.Members.{clash, not-true}
use Rattle.sf_sym.proofs.SameRows.{same_row_is, same_row_self}
use Rattle.sf_sym.proofs.Quiet.{begins-root, quiet-less, root-in, still-unmarked}

module _ (apart : List (Term × Term)) (rows atoms : List Row) (roots cells : List (Term × List Row))
    (marks : List Row) (kept : IsIndexed apart rows atoms roots cells marks)
    (part : (r : Row) → In r atoms → In r rows) where
  -- the same rows, and more marks
  pub kept-same : (now more : List (Term × List Row)) (marked : List Row)
      → Has roots now → Has now roots → Has cells more → AreOf rows more → StillMarked marks marked → AreMarksOf rows marked
      → IsIndexed apart rows atoms now more marked
  kept-same now more marked to from cto of still marks_of = record {
    listed = λ r h t b. to t r (kept.listed r h t b);
    of_rows = λ t r h. kept.of_rows t r (from t r h);
    cells_listed = λ r h t b. cto t r (kept.cells_listed r h t b);
    cells_of_rows = of;
    marked = marks_of;
    quiet = quiet-less apart apart rows atoms rows atoms marks marked (λ r h f. h) (λ r h f. h) part
        (λ r h f c i t b e. (i, e)) (λ r h f e. e) (λ r h f. still-unmarked marks marked still r f) kept.quiet;
  }

  -- the same parts in other lists, or fewer atoms among them
  pub kept-like : (others left : List Row) → ((r : Row) → In r others → In r rows) → ((r : Row) → In r rows → In r others)
      → ((r : Row) → In r left → In r atoms) → IsIndexed apart others left roots cells marks
  kept-like others left to from fewer = record {
    listed = λ r h t b. kept.listed r (to r h) t b;
    of_rows = λ t r h. let g = kept.of_rows t r h in (from r g.0, g.1);
    cells_listed = λ r h t b. kept.cells_listed r (to r h) t b;
    cells_of_rows = λ t r h. let g = kept.cells_of_rows t r h in (from r g.0, g.1);
    marked = λ r e. from r (kept.marked r e);
    quiet = quiet-less apart apart rows atoms others left marks marks (λ r h f. to r h) (λ r h f. fewer r h)
        (λ r h. from r (part r (fewer r h))) (λ r h f c i t b e. (to c i, e)) (λ r h f e. e) (λ r h f. f) kept.quiet;
  }

  -- a part that goes
  module _ (row : Row) (others left : List Row)
      (to : (r : Row) → In r others → In r rows) (distinct : (r : Row) → In r others → r.number ≡ row.number → ⊥)
      (from : (r : Row) → In r rows → In r others ⊎ (r ≡ row))
      (fewer : (r : Row) → In r left → In r atoms) (within : (r : Row) → In r left → In r others) where
    -- of what is left in an index each row is another one's
    stays : (old now : List (Term × List Row)) → AreOf rows old → Leaves row old now → AreOf others now
    stays old now of leaves t r h =
        let k = leaves.only t r h in
        let g = of t r k.0 in
        elim (from r g.0) [
          | inl i ↦ (i, g.1)
          | inr e ↦ absurd (k.1 (ap (row_begins t) (sym e) ∙ g.1) e)
        ]

    pub kept-removed : (now more : List (Term × List Row)) (marked : List Row) → Leaves row roots now
        → Leaves row cells more
        → ((r : Row) → is_marked marked r ≡ (not (same_row r row) && is_marked marks r))
        → IsIndexed apart others left now more marked
    kept-removed now more marked rleaves cleaves is = record {
      listed = λ r h t b. rleaves.others t r (kept.listed r (to r h) t b)
          (λ e. distinct r h (ap (λ (x : Row). x.number) e));
      of_rows = stays roots now kept.of_rows rleaves;
      cells_listed = λ r h t b. cleaves.others t r (kept.cells_listed r (to r h) t b)
          (λ e. distinct r h (ap (λ (x : Row). x.number) e));
      cells_of_rows = stays cells more kept.cells_of_rows cleaves;
      marked = λ r e.
          let both = is r in
          let one = and-left (not (same_row r row)) (is_marked marks r) (sym both ∙ e) in
          elim (from r (kept.marked r (and-right (not (same_row r row)) (is_marked marks r) (sym both ∙ e)))) [
            | inl g ↦ g
            | inr g ↦ absurd (not-both (same_row r row) (ap (λ x. same_row x row) g ∙ same_row_self row) one)
          ];
      quiet = quiet-less apart apart rows atoms others left marks marked (λ r h f. to r h) (λ r h f. fewer r h) within
          (λ r h f c i t b e. (to c i, e)) (λ r h f e. e)
          (λ r h f. not-true (is_marked marks r)
          (λ e. clash (is_marked marked r)
          (is r ∙ and_from (not (same_row r row)) (is_marked marks r) (ap not (other r h)) e) f)) kept.quiet;
    }
      where
        other : (r : Row) → In r others → same_row r row ≡ false
        other r h = not-true (same_row r row)
            (λ e. distinct r h (ap (λ (x : Row). x.number) (same_row_is r row e)))

  -- one part more
  pub kept-added : (row : Row) (others left : List Row) → ((r : Row) → In r rows → In r others) → In row others
      → ((r : Row) → In r others → In r rows ⊎ (r ≡ row)) → ((r : Row) → In r left → In r atoms ⊎ (r ≡ row))
      → ((r : Row) → In r left → In r others)
      → (now more : List (Term × List Row)) (marked : List Row)
      → IsNoted apart rows roots cells marks row now more marked
      → IsIndexed apart others left now more marked
  kept-added row others left to new from atoms_from within now more marked noted = record {
    listed = λ r h t b. elim (from r h) [
      | inl g ↦ noted.enters.still t r (kept.listed r g t b)
      | inr e ↦ subst (λ (x : Row). In x (rows_at now t)) (sym e) (noted.enters.there t (ap (row_begins t) (sym e) ∙ b))
    ];
    of_rows = λ t r h. elim (noted.enters.only t r h) [
      | inl g ↦ (let k = kept.of_rows t r g in (to r k.0, k.1))
      | inr e ↦ (subst (λ (x : Row). In x others) (sym e.0) new, ap (row_begins t) e.0 ∙ e.1)
    ];
    cells_listed = λ r h t b. elim (from r h) [
      | inl g ↦ noted.cells_still t r (kept.cells_listed r g t b)
      | inr e ↦ (
          let c = ap (row_allocates apart t) (sym e) ∙ b in
          let one = and-left (row_begins t row) (has_cell apart (bare row.outline)) c in
          let two = and-right (row_begins t row) (has_cell apart (bare row.outline)) c in
          subst (λ (x : Row). In x (rows_at more t)) (sym e) (noted.cell two t one).0)
    ];
    cells_of_rows = λ t r h. elim (noted.cells_only t r h) [
      | inl g ↦ (let k = kept.cells_of_rows t r g in (to r k.0, k.1))
      | inr e ↦ (subst (λ (x : Row). In x others) (sym e.0) new, ap (row_begins t) e.0 ∙ e.1)
    ];
    marked = λ r e. elim (noted.marks_only r e) [
      | inl g ↦ to r g
      | inr g ↦ subst (λ (x : Row). In x others) (sym g) new
    ];
    quiet = quiet-less apart apart rows atoms others left marks marked old
        (λ r h f. elim (atoms_from r h) [ inl g ↦ g | inr e ↦ absurd (not-new r e f) ]) within
        (λ r h f c i t b e. elim (from c i) [
          | inl g ↦ (g, e)
          | inr k ↦ (
              let d = ap (row_allocates apart t) (sym k) ∙ e in
              let one = and-left (row_begins t row) (has_cell apart (bare row.outline)) d in
              let two = and-right (row_begins t row) (has_cell apart (bare row.outline)) d in
              absurd (clash (is_marked marked r)
              ((noted.cell two t one).1 r (kept.listed r (old r h f) t b)) f))
        ]) (λ r h f e. e) (λ r h f. still-unmarked marks marked noted.marks_still r f) kept.quiet;
  }
    where
      not-new : (r : Row) → r ≡ row → IsUnmarked marked r → ⊥
      not-new r e f = clash (is_marked marked row) noted.has_mark (ap (is_marked marked) (sym e) ∙ f)

      old : (r : Row) → In r others → IsUnmarked marked r → In r rows
      old r h f = elim (from r h) [ inl g ↦ g | inr e ↦ absurd (not-new r e f) ]

  -- a part that was noted, and then forgotten
  pub kept-undone : (row : Row) → ((r : Row) → In r rows → r.number ≡ row.number → ⊥)
      → (now more : List (Term × List Row)) (marked : List Row) → IsNoted apart rows roots cells marks row now more marked
      → (back fewer : List (Term × List Row)) (left : List Row) → Leaves row now back → Leaves row more fewer
      → ((r : Row) → is_marked left r ≡ (not (same_row r row) && is_marked marked r))
      → IsIndexed apart rows atoms back fewer left
  kept-undone row new now more marked noted back fewer left rleaves cleaves is =
      kept-same back fewer left
      (λ t r h. rleaves.others t r (noted.enters.still t r h) (λ e. new r (kept.of_rows t r h).0 (ap (λ (x : Row). x.number) e)))
      (λ t r h.
      let k = rleaves.only t r h in
      elim (noted.enters.only t r k.0) [
        | inl g ↦ g
        | inr g ↦ absurd (k.1 g.1 g.0)
      ])
      (λ t r h. cleaves.others t r (noted.cells_still t r h)
      (λ e. new r (kept.cells_of_rows t r h).0 (ap (λ (x : Row). x.number) e)))
      (λ t r h.
      let k = cleaves.only t r h in
      elim (noted.cells_only t r k.0) [
        | inl g ↦ kept.cells_of_rows t r g
        | inr g ↦ absurd (k.1 g.1 g.0)
      ])
      (λ r h. is r ∙ and_from (not (same_row r row)) (is_marked marked r)
      (ap not (not-true (same_row r row) (λ e. new r (kept.marked r h) (ap (λ (x : Row). x.number) (same_row_is r row e)))))
      (noted.marks_still r h))
      (λ r h.
      let both = sym (is r) ∙ h in
      let one = and-left (not (same_row r row)) (is_marked marked r) both in
      elim (noted.marks_only r (and-right (not (same_row r row)) (is_marked marked r) both)) [
        | inl g ↦ g
        | inr g ↦ absurd (not-both (same_row r row) (ap (λ x. same_row x row) g ∙ same_row_self row) one)
      ])

  -- one pair more
  pub kept-pair : (t u : Term) → IsReady apart rows roots cells marks t u → IsIndexed (apart ++ (t, u) ∷ []) rows atoms roots cells marks
  kept-pair t u ready = record {
    listed = kept.listed;
    of_rows = kept.of_rows;
    cells_listed = λ r h v b.
        let one = and-left (row_begins v r) (has_cell more (bare r.outline)) b in
        let two = and-right (row_begins v r) (has_cell more (bare r.outline)) b in
        elim (by-cell r two) [
          | inl g ↦ kept.cells_listed r h v (and_from (row_begins v r) (has_cell apart (bare r.outline)) one g)
          | inr g ↦ (ready r h g.0 g.1 v one).0
        ];
    cells_of_rows = kept.cells_of_rows;
    marked = kept.marked;
    quiet = quiet-less apart more rows atoms rows atoms marks marks (λ r h f. h) (λ r h f. h) part
        (λ r h f c i v b e.
        let one = and-left (row_begins v c) (has_cell more (bare c.outline)) e in
        let two = and-right (row_begins v c) (has_cell more (bare c.outline)) e in
        elim (by-cell c two) [
          | inl g ↦ (i, and_from (row_begins v c) (has_cell apart (bare c.outline)) one g)
          | inr g ↦ absurd (clash (is_marked marks r) ((ready c i g.0 g.1 v one).1 r (kept.listed r h v b)) f)
        ])
        (λ r h f e. elim (by-cell r e) [
          | inl g ↦ g
          | inr g ↦ (
              let v = root (bare r.outline) in
              let b = begins-root (bare r.outline) v (root-in (bare r.outline)) in
              absurd (clash (is_marked marks r) ((ready r h g.0 g.1 v b).1 r (kept.listed r h v b)) f))
        ]) (λ r h f. f) kept.quiet;
  }
    where
      more : List (Term × Term)
      more = apart ++ (t, u) ∷ []

      by-cell : (r : Row) → has_cell more (bare r.outline) ≡ true
          → (has_cell apart (bare r.outline) ≡ true)
          ⊎ ((joins (t, u) (bare r.outline) ≡ true) × (has_cell apart (bare r.outline) ≡ false))
      by-cell r e = go (has_cell apart (bare r.outline)) refl (cell-more t u apart (bare r.outline) e)
        where
          go : (b : Bool) → has_cell apart (bare r.outline) ≡ b
              → (has_cell apart (bare r.outline) ≡ true) ⊎ (joins (t, u) (bare r.outline) ≡ true)
              → (has_cell apart (bare r.outline) ≡ true)
              ⊎ ((joins (t, u) (bare r.outline) ≡ true) × (has_cell apart (bare r.outline) ≡ false))
          go true i h = inl i
          go false i (inl h) = inl h
          go false i (inr h) = inr (h, i)

-- other parts, where the indices have just their rows, and all are marked
pub kept-made : (apart : List (Term × Term)) (rows atoms : List Row) (roots cells : List (Term × List Row)) (marks : List Row)
    → ((r : Row) → In r atoms → In r rows)
    → ((r : Row) → In r rows → (t : Term) → row_begins t r ≡ true → In r (rows_at roots t)) → AreOf rows roots
    → ((r : Row) → In r rows → (t : Term) → row_allocates apart t r ≡ true → In r (rows_at cells t)) → AreOf rows cells
    → AreMarksOf rows marks → ((r : Row) → In r rows → HasMark marks r) → IsIndexed apart rows atoms roots cells marks
kept-made apart rows atoms roots cells marks part listed of_rows cells_listed cells_of_rows marked all = record {
  listed = listed;
  of_rows = of_rows;
  cells_listed = cells_listed;
  cells_of_rows = cells_of_rows;
  marked = marked;
  quiet = record {
    hopeful = λ r h f. absurd (clash (is_marked marks r) (all r h) f);
    free = λ r h f. absurd (clash (is_marked marks r) (all r (part r h)) f);
  };
}
