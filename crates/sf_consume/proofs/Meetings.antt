-- What the fields of a wanted cell met: one more, and what a field has after all of them.
use Rattle.std.proofs.Common.{◌≡◌, ℕ, ◌+◌, ◌==◌, Bool, true, false, cond, Option, Some, List, [], ◌∷◌, ◌++◌, length, set, refl, sym, ap, ◌∙◌, subst, arith}
use Rattle.sf_base.specs.declared.ids.FieldId.{FieldId}
use Rattle.sf_sym.specs.declared.term.Term.{Term}
use Rattle.sf_sym.specs.declared.term.Term.TheVariants.{Sym}
use Rattle.sf_sym.specs.Checked.Lemmas.Updates.{field-found, fields, found, put-elsewhere, put-here}
use Rattle.sf_sym.specs.Fields.{field_term, put_term}
use Rattle.sf_consume.specs.declared.meeting.Met.{Met}
use Rattle.sf_consume.specs.Checked.Fits.{after_changes}
use Rattle.sf_consume.specs.Checked.Meeting.{latest_link, terms_of, with_links}
use Rattle.sf_consume.specs.Misfit.{met_term}

-- one more change at the end
pub met_more : (xs : List (ℕ × Met)) (n : ℕ) (t : Met) (next : ℕ) (bindings : List (Option Term))
    → after_changes (terms_of next (xs ++ (n, t) ∷ [])) bindings
    ≡ set (after_changes (terms_of next xs) bindings) n (Some (met_term next t))
met_more [] n t next bindings = refl
met_more (x ∷ xs) n t next bindings =
    met_more xs n t next (set bindings x.0 (Some (met_term next x.1)))

-- one more link at the end
pub link_more : (xs : List FieldId) (f : FieldId) (next : ℕ) (fields : List (FieldId × Term))
    → with_links next (xs ++ f ∷ []) fields
    ≡ put_term f (Sym (next + length xs)) (with_links next xs fields)
link_more [] f next fields = ap (λ n. put_term f (Sym n) fields) (omega arith)
link_more (x ∷ xs) f next fields =
    link_more xs f (next + 1) (put_term x (Sym next) fields)
    ∙ ap (λ n. put_term f (Sym n) (with_links (next + 1) xs (put_term x (Sym next) fields))) (omega arith)

-- a field after one was put
pub field_put : (g f : FieldId) (u : Term) (fs : List (FieldId × Term))
    → field_term (put_term g u fs) f ≡ cond (g.0 == f.0) (Some u) (field_term fs f)
field_put g f u fs = field-found (put_term g u fs) f ∙ go (g.0 == f.0) refl
  where
    go : (b : Bool) → g.0 == f.0 ≡ b
        → found fields (put_term g u fs) f ≡ cond b (Some u) (field_term fs f)
    go true i =
        subst (λ h. found fields (put_term g u fs) h ≡ Some u) (fields.is g f i)
        (put-here fields g u fs)
    go false i = put-elsewhere fields g u fs f i ∙ sym (field-found fs f)

-- what a field has after all links
pub latest_link_is : (next : ℕ) (links : List FieldId) (fields : List (FieldId × Term)) (f : FieldId)
    → field_term (with_links next links fields) f ≡ latest_link next links f (field_term fields f)
latest_link_is next [] fields f = refl
latest_link_is next (g ∷ gs) fields f =
    latest_link_is (next + 1) gs (put_term g (Sym next) fields) f
    ∙ ap (latest_link (next + 1) gs f) (field_put g f (Sym next) fields)
