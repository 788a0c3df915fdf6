-- How lines are read one after the other.
-- Names: `reading-LAW`.
use Rattle.std.proofs.Common.{◌≡◌, ◌+◌, ◌++◌, ℕ, suc, List, [], ◌∷◌, Some, None, length, refl, ap, sym, ◌∙◌, subst, arith, append_assoc, append-nil, length-append}
use Rattle.std.specs.Option.{option_or}
use Rattle.sf_state.specs.declared.line.Entry.{Entry}
use Rattle.sf_state.specs.declared.fault.StartFault.{StartFault}
use Rattle.sf_state.specs.declared.given.Given.{Given}
use Rattle.sf_state.specs.Checked.Keeping.{Keeps, Reading}
use Rattle.sf_lines.specs.Lines.{Text, lines}
use Rattle.sf_state.specs.Refused.{first_refusal, refusal}
use Rattle.sf_state.specs.Says.{entries_from, entries_of, says}

-- before the first line
pub reading-none : (fields names : List Text) (text : Text) (given : Given) → Keeps fields names given []
    → Reading fields names text 0 (lines text) given
reading-none fields names text given k = record {
  done = [];
  number = refl;
  keeps = k;
  entries = refl;
  refusals = refl;
}

-- after one more
pub reading-more : (fields names : List Text) (text : Text) (before next : ℕ) (line : Text) (all more : List Text)
    (old new : Given) → (r : Reading fields names text before all old) → all ≡ line ∷ more → next ≡ before + 1
    → (refusal fields names r.done (says fields names before line) ≡ None)
    × Keeps fields names new (r.done ++ says fields names before line ∷ [])
    → Reading fields names text next more new
reading-more fields names text before next line all more old new r is n t =
    let step : suc before ≡ next = omega arith in
    let e : Entry = says fields names before line in
    let now : List Entry = r.done ++ e ∷ [] in
    subst (λ k. Reading fields names text k more new) step (record {
      done = now;
      number = length-append r.done (e ∷ []) ∙ (let m : length r.done ≡ before = r.number in omega arith);
      keeps = t.1;
      entries = r.entries ∙ ap (λ ls. r.done ++ entries_from fields names before ls) is
          ∙ sym (append_assoc r.done (e ∷ []) (entries_from fields names (suc before) more));
      refusals = r.refusals ∙ ap (λ ls. first_refusal fields names r.done (entries_from fields names before ls)) is
          ∙ ap (λ o. option_or o (first_refusal fields names now (entries_from fields names (suc before) more))) t.0;
    })

-- a line that is refused is the first
pub reading-refused : (fields names : List Text) (text : Text) (before : ℕ) (line : Text) (all more : List Text)
    (given : Given) (f : StartFault) → (r : Reading fields names text before all given) → all ≡ line ∷ more
    → refusal fields names r.done (says fields names before line) ≡ Some f
    → first_refusal fields names [] (entries_of fields names text) ≡ Some f
reading-refused fields names text before line all more given f r is refused =
    r.refusals ∙ ap (λ ls. first_refusal fields names r.done (entries_from fields names before ls)) is
    ∙ ap (λ o. option_or o (first_refusal fields names (r.done ++ says fields names before line ∷ [])
    (entries_from fields names (suc before) more))) refused

-- after the last line
pub reading-all : (fields names : List Text) (text : Text) (before : ℕ) (all : List Text) (given : Given)
    → Reading fields names text before all given → all ≡ []
    → (first_refusal fields names [] (entries_of fields names text) ≡ None)
    × Keeps fields names given (entries_of fields names text)
reading-all fields names text before all given r is =
    let whole : entries_of fields names text ≡ r.done =
    r.entries ∙ ap (λ ls. r.done ++ entries_from fields names before ls) is ∙ append-nil r.done in (
      r.refusals ∙ ap (λ ls. first_refusal fields names r.done (entries_from fields names before ls)) is,
      subst (Keeps fields names given) (sym whole) r.keeps,
    )
