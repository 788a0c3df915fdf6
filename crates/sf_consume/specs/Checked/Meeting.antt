-- How the code tests whether the fields of a wanted cell fit: it notes what existentials and unknown fields would stand
-- for.
-- Ordinary: lists of changes that are made one after the other.
use Rattle.std.specs.Prelude.{ℕ, ◌+◌, ◌==◌, cond, Option, Some, List, [], ◌∷◌, length, map}
use Rattle.sf_base.specs.declared.ids.FieldId.{FieldId}
use Rattle.sf_sym.specs.declared.term.Term.{Term}
use Rattle.sf_sym.specs.declared.term.Term.TheVariants.{Sym}
use Rattle.sf_sym.specs.Fields.{put_term}
use Rattle.sf_consume.specs.declared.meeting.Meeting.{Meeting}
use Rattle.sf_consume.specs.declared.meeting.Met.{Met}
use Rattle.sf_consume.specs.declared.meeting.Seen.{Seen}
use Rattle.sf_consume.specs.Checked.Fits.{after_changes}
use Rattle.sf_consume.specs.Misfit.{met_term}
use Rattle.sf_consume.specs.Subtract.{Fit}

-- what existentials are to stand for, as terms
abbrev pub terms_of : (next : ℕ) → List (ℕ × Met) → List (ℕ × Term)
terms_of next changes = map (λ c. (c.0, met_term next c.1)) changes

-- the fields of a cell, where each of these has a new symbol, one after the other
abbrev pub with_links : (next : ℕ) → List FieldId → List (FieldId × Term) → List (FieldId × Term)
with_links next [] fields = fields
with_links next (f ∷ fs) fields = with_links (next + 1) fs (put_term f (Sym next) fields)

-- the symbol of the last of these links of that field, or what was there before
abbrev pub latest_link : (next : ℕ) → List FieldId → FieldId → Option Term → Option Term
latest_link next [] f before = before
latest_link next (g ∷ gs) f before = latest_link (next + 1) gs f (cond (g.0 == f.0) (Some (Sym next)) before)

-- how far the fields fit, by what the code keeps of it
abbrev pub fit_of : Seen → Meeting → Fit
fit_of seen m = record {
  next_sym = seen.next + length m.links.items;
  fields = with_links seen.next m.links.items seen.fields.now;
  bindings = after_changes (terms_of seen.next m.changes.items) seen.bindings.now;
}

-- the same with the term of a field
abbrev pub link_of : Seen → Meeting × Met → Fit × Term
link_of seen r = (fit_of seen r.0, met_term seen.next r.1)

-- how far nothing is compared yet
abbrev pub first_fit_of : Seen → Fit
first_fit_of seen = record { next_sym = seen.next; fields = seen.fields.now; bindings = seen.bindings.now }
