-- An index that is made anew, a row at a time.
use Rattle.std.proofs.Common.{◌≡◌, inl, inr, Bool, true, false, List, [], ◌∷◌, ◌++◌, map, length, arith, refl, sym, ap, ◌∙◌, subst}
use Rattle.std.proofs.lemmas.Bool.{false≢true}
use Rattle.std.proofs.lemmas.List.{append-nil, append_assoc, map-append}
use Rattle.sf_base.proofs.Bools.{and-left, and-right}
use Rattle.sf_sym.specs.declared.atom.Numbered.{Numbered}
use Rattle.sf_sym.specs.declared.outline.Row.{Row}
use Rattle.sf_sym.specs.declared.term.Term.{Term}
use Rattle.sf_sym.specs.Checked.Keeping.{AreMarksWith, Enters, HasMark, In, StillMarked, row_allocates, row_begins, rows_of}
use Rattle.sf_sym.specs.Checked.Rows.{bare, is_marked, row_of, rows_at}
use Rattle.sf_sym.specs.Checked.Stores.{AreAllMarked, IsMade, MakesOf}
use Rattle.sf_sym.specs.Tests.{has_cell}
use Rattle.sf_sym.proofs.Entering.{cells-only, cells-still}
use Rattle.sf_sym.proofs.Members.{in-cases, in-last, in-left, in-push, in-right}

module _ (apart : List (Term × Term)) (had : List Row) (roots cells : List (Term × List Row))
    (made : IsMade apart had roots cells) (row : Row) (is_cell : Bool) (is : is_cell ≡ has_cell apart (bare row.outline))
    (now more : List (Term × List Row)) (enters : Enters row roots now)
    (cell : is_cell ≡ true → Enters row cells more) (without : is_cell ≡ false → more ≡ cells) where
  pub made-more : IsMade apart (had ++ row ∷ []) now more
  made-more = record {
    listed = λ r h t b. elim (in-push r had row h) [
      | inl g ↦ enters.still t r (made.listed r g t b)
      | inr e ↦ subst (λ (x : Row). In x (rows_at now t)) (sym e) (enters.there t (ap (row_begins t) (sym e) ∙ b))
    ];
    of_rows = λ t r h. elim (enters.only t r h) [
      | inl g ↦ (let k = made.of_rows t r g in (in-left r had (row ∷ []) k.0, k.1))
      | inr e ↦ (subst (λ (x : Row). In x (had ++ row ∷ [])) (sym e.0) (in-last row had), ap (row_begins t) e.0 ∙ e.1)
    ];
    cells_listed = λ r h t b. elim (in-push r had row h) [
      | inl g ↦ cells-still is_cell row cells more cell without t r (made.cells_listed r g t b)
      | inr e ↦ (
          let c = ap (row_allocates apart t) (sym e) ∙ b in
          let one = and-left (row_begins t row) (has_cell apart (bare row.outline)) c in
          let two = and-right (row_begins t row) (has_cell apart (bare row.outline)) c in
          subst (λ (x : Row). In x (rows_at more t)) (sym e) ((cell (is ∙ two)).there t one))
    ];
    cells_of_rows = λ t r h. elim (cells-only is_cell row cells more cell without t r h) [
      | inl g ↦ (let k = made.cells_of_rows t r g in (in-left r had (row ∷ []) k.0, k.1))
      | inr e ↦ (subst (λ (x : Row). In x (had ++ row ∷ [])) (sym e.0) (in-last row had), ap (row_begins t) e.0 ∙ e.1)
    ];
  }

-- rows come to none, one after another
pub makes-none : (apart : List (Term × Term)) (roots cells : List (Term × List Row)) → MakesOf apart [] roots cells roots cells
makes-none apart roots cells had made = subst (λ rows. IsMade apart rows roots cells) (sym (append-nil had)) made

pub makes-more : (apart : List (Term × Term)) (old cells now more then also : List (Term × List Row)) (done : List Row) (row : Row)
    → MakesOf apart done old cells now more → MakesOf apart (row ∷ []) now more then also
    → MakesOf apart (done ++ row ∷ []) old cells then also
makes-more apart old cells now more then also done row one two had made =
    subst (λ rows. IsMade apart rows then also) (append_assoc had done (row ∷ [])) (two (had ++ done) (one had made))

pub none-new : (apart : List (Term × Term)) (roots cells : List (Term × List Row)) → roots ≡ [] → cells ≡ []
    → IsMade apart [] roots cells
none-new apart roots cells e f = record {
  listed = λ r i t b. absurd i;
  of_rows = λ t r i. absurd (subst (λ x. In r (rows_at x t)) e i);
  cells_listed = λ r i t b. absurd i;
  cells_of_rows = λ t r i. absurd (subst (λ x. In r (rows_at x t)) f i);
}

-- a list of no elements
pub no_more : {X : Type 0} (xs : List X) → length xs ≡ 0 → xs ≡ []
no_more [] e = refl
no_more (x ∷ xs) e = absurd (omega (arith, e))

-- the rows of two lists with their terms replaced
pub rows-both : (to : Numbered → Numbered) (xs ys : List Numbered)
    → rows_of (map to (xs ++ ys)) ≡ rows_of (map to xs) ++ rows_of (map to ys)
rows-both to xs ys = ap rows_of (map-append to xs ys) ∙ map-append row_of (map to xs) (map to ys)

-- all of two lists are marked, one after the other
pub all-marked : (xs ys : List Row) (none one two : List Row) → none ≡ [] → ((r : Row) → In r xs → HasMark one r)
    → AreMarksWith xs none one → ((r : Row) → In r ys → HasMark two r) → StillMarked one two → AreMarksWith ys one two
    → AreAllMarked (xs ++ ys) two
all-marked xs ys none one two empty first only second still also = (
  (λ r h. elim (in-cases r xs ys h) [ inl g ↦ still r (first r g) | inr g ↦ second r g ]),
  (λ r h. elim (also r h) [
    | inl g ↦ elim (only r g) [
      | inl k ↦ absurd (false≢true (sym (ap (λ m. is_marked m r) empty) ∙ k))
      | inr k ↦ in-left r xs ys k
    ]
    | inr g ↦ in-right r xs ys g
  ]),
)
