-- What a map from terms to lists shows of an index of rows.
-- Names: `at-LAW` speaks of the rows at a term, `put-LAW` of an index once an entry is put at a term.
use Rattle.std.proofs.Common.{◌≡◌, Bool, true, false, ◌&&◌, ◌||◌, not, cond, Option, Some, None, List, [], ◌∷◌, map, length, arith, refl, sym, ap, ◌∙◌}
use Rattle.std.specs.Prelude.{Result, Ok, Err, OnErr, OnOk}
use Rattle.std.specs.Map.{lookup}
use Rattle.sf_sym.specs.declared.outline.Row.{Row}
use Rattle.sf_sym.specs.declared.term.Term.{Term}
use Rattle.sf_sym.specs.Tests.{same_term}
use Rattle.sf_sym.specs.Checked.Lemmas.{same_term_is}
use Rattle.sf_sym.specs.Checked.Rows.{IsOut, IsPut, is_marked, rows_at, same_row}
use Rattle.sf_sym.proofs.SameTerms.{same_turned, derived}
use Rattle.sf_sym.specs.contracts.term.TermPartialEq.TheImpl.{eq-value}

module _ {X : Type 0} (items : X → List Row) where
  -- the entries as a reader sees them
  abbrev pub seen : List (Term × X) → List (Term × List Row)
  seen es = map (λ e. (e.0, items e.1)) es

  abbrev pub items_or : Option X → List Row
  items_or None = []
  items_or (Some x) = items x

  -- the rows at a term are those of the entry there
  pub at-seen : (es : List (Term × X)) (t : Term) → rows_at (seen es) t ≡ items_or (lookup (eq-value.it t) es)
  at-seen [] t = refl
  at-seen (e ∷ es) t =
      ap (λ b. cond b (items e.1) (rows_at (seen es) t)) (sym (derived t e.0)) ∙ go (eq-value.it t e.0) (at-seen es t)
    where
      go : (b : Bool) → rows_at (seen es) t ≡ items_or (lookup (eq-value.it t) es)
          → cond b (items e.1) (rows_at (seen es) t) ≡ items_or (cond b (Some e.1) (lookup (eq-value.it t) es))
      go true h = refl
      go false h = h

  -- after an entry is put at a term
  pub at-put : (es fs : List (Term × X)) (t u : Term) (w : Option X)
      → lookup (eq-value.it u) fs ≡ cond (eq-value.it t u) w (lookup (eq-value.it u) es)
      → rows_at (seen fs) u ≡ cond (same_term u t) (items_or w) (rows_at (seen es) u)
  at-put es fs t u w put =
      at-seen fs u ∙ ap items_or put
      ∙ ap (λ b. items_or (cond b w (lookup (eq-value.it u) es))) (derived t u ∙ same_turned t u)
      ∙ go (same_term u t)
    where
      go : (b : Bool) → items_or (cond b w (lookup (eq-value.it u) es)) ≡ cond b (items_or w) (rows_at (seen es) u)
      go true = refl
      go false = sym (at-seen es u)

module _ {X : Type 0} (items : X → List Row) (old : List (Term × List Row)) (es fs : List (Term × X)) (t : Term)
    (view : seen items es ≡ old) where
  -- the rows of the entry at the term
  here : (o : Option X) → o ≡ lookup (eq-value.it t) es → items_or items o ≡ rows_at old t
  here o is = ap (items_or items) is ∙ sym (at-seen items es t) ∙ ap (λ z. rows_at z t) view

  -- one row more
  pub put-more : (o : Option X) (w : X) (row : Row) → o ≡ lookup (eq-value.it t) es
      → ((r : Row) → is_marked (items w) r ≡ (same_row r row || is_marked (items_or items o) r))
      → ((u : Term) → lookup (eq-value.it u) fs ≡ cond (eq-value.it t u) (Some w) (lookup (eq-value.it u) es))
      → IsPut t row old (seen items fs)
  put-more o w row is more put u r =
      ap (λ z. is_marked z r) (at-put items es fs t u (Some w) (put u)) ∙ go (same_term u t) refl
    where
      go : (b : Bool) → same_term u t ≡ b → is_marked (cond b (items w) (rows_at (seen items es) u)) r
          ≡ (b && same_row r row || is_marked (rows_at old u) r)
      go true e =
          more r ∙ ap (λ z. same_row r row || is_marked z r) (here o is ∙ ap (rows_at old) (sym (same_term_is u t e)))
      go false e = ap (λ z. is_marked (rows_at z u) r) view

  -- the same rows
  pub put-same : (x w : X) → Some x ≡ lookup (eq-value.it t) es → items w ≡ items x
      → ((u : Term) → lookup (eq-value.it u) fs ≡ cond (eq-value.it t u) (Some w) (lookup (eq-value.it u) es))
      → (u : Term) → rows_at (seen items fs) u ≡ rows_at old u
  put-same x w is same put u = at-put items es fs t u (Some w) (put u) ∙ go (same_term u t) refl
    where
      go : (b : Bool) → same_term u t ≡ b → cond b (items w) (rows_at (seen items es) u) ≡ rows_at old u
      go true e = same ∙ here (Some x) is ∙ ap (rows_at old) (sym (same_term_is u t e))
      go false e = ap (λ z. rows_at z u) view

  -- one row less
  pub put-less : (x : X) (w : Option X) (row : Row) → Some x ≡ lookup (eq-value.it t) es
      → ((r : Row) → is_marked (items_or items w) r ≡ (not (same_row r row) && is_marked (items x) r))
      → ((u : Term) → lookup (eq-value.it u) fs ≡ cond (eq-value.it t u) w (lookup (eq-value.it u) es))
      → IsOut t row old (seen items fs)
  put-less x w row is less put u r =
      ap (λ z. is_marked z r) (at-put items es fs t u w (put u)) ∙ go (same_term u t) refl
    where
      go : (b : Bool) → same_term u t ≡ b → is_marked (cond b (items_or items w) (rows_at (seen items es) u)) r
          ≡ (not (b && same_row r row) && is_marked (rows_at old u) r)
      go true e =
          less r
          ∙ ap (λ z. not (same_row r row) && is_marked z r)
          (here (Some x) is ∙ ap (rows_at old) (sym (same_term_is u t e)))
      go false e = ap (λ z. is_marked (rows_at z u) r) view

-- what holds however a call ends
pub at-err : {A E : Type 0} (r : Result A E) {P : Type 0} → P → OnErr r P
at-err (Ok a) p = tt
at-err (Err e) p = p

pub on-ok : {A E : Type 0} (r : Result A E) {P Q : Type 0} → (P → Q) → OnOk r P → OnOk r Q
on-ok (Ok a) f p = f p
on-ok (Err e) f p = p

pub put-twice : {X : Type 0} (b : Bool) (v w x : Option X) → cond b v (cond b w x) ≡ cond b v x
put-twice true v w x = refl
put-twice false v w x = refl

pub none-left : {X : Type 0} (xs : List X) → length xs ≡ 0 → xs ≡ []
none-left [] e = refl
none-left (x ∷ xs) e = absurd (omega (arith, e))

-- a row goes from where there is none
pub none-less : (old : List (Term × List Row)) (t : Term) (row : Row) → rows_at old t ≡ [] → IsOut t row old old
none-less old t row none u r = go (same_term u t) refl
  where
    none-both : (b : Bool) → (b && false) ≡ false
    none-both true = refl
    none-both false = refl

    go : (b : Bool) → same_term u t ≡ b
        → is_marked (rows_at old u) r ≡ (not (b && same_row r row) && is_marked (rows_at old u) r)
    go true e =
        let off : is_marked (rows_at old u) r ≡ false =
        ap (λ z. is_marked z r) (ap (rows_at old) (same_term_is u t e) ∙ none) in
        off ∙ sym (none-both (not (same_row r row))) ∙ ap (λ b. not (same_row r row) && b) (sym off)
    go false e = refl

-- what is alone is itself or nothing
pub shorter : (b : Bool) → b ≡ (b || false)
shorter true = refl
shorter false = refl
