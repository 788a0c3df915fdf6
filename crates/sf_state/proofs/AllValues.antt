-- The values that lines give to all variables.
-- Names: `given-LAW`.
use Rattle.std.proofs.Common.{◌≡◌, ◌<◌, ◌≤◌, ◌+◌, ◌⊎◌, ℕ, suc, cond, List, [], ◌∷◌, Some, None, Option, Ok, Err, Result, length, map, refl, ap, sym, ◌∙◌, arith, slice_get, inl, inr}
use Rattle.std.specs.BTreeMap.{get}
use Rattle.std.specs.Option.{option_or}
use Rattle.std.specs.Ordering.{nat_cmp}
use Rattle.std.proofs.lemmas.Bool.{le-ltb, lt-ltb}
use Rattle.sf_base.specs.declared.limits.TheConstants.{STATE_BYTES}
use Rattle.sf_base.specs.declared.value.Value.{Value}
use Rattle.sf_state.specs.declared.line.Entry.{Entry}
use Rattle.sf_state.specs.declared.fault.StartFault.{StartFault}
use Rattle.sf_state.specs.declared.fault.StartFault.TheVariants.{OutOfMemory, TooLong}
use Rattle.sf_state.specs.declared.given.Given.{Given}
use Rattle.sf_state.specs.declared.state.State.{State}
use Rattle.sf_state.specs.Names.{Format}
use Rattle.sf_state.specs.Checked.Keeping.{Completes, Keeps}
use Rattle.sf_lines.specs.Lines.{Text}
use Rattle.sf_state.specs.Refused.{first_refusal, value_given}
use Rattle.sf_state.specs.Stated.{IsStated, given_by, is_fresh, lines_refusal, missing_from, needed, or_nil, text_refusal, values_given}
use Rattle.sf_state.specs.Says.{entries_of}

-- a table that has at each number what lines give has just what they give
given-table : (es : List Entry) (from : ℕ) (names : List Text) (table : List (Option Value))
    → length table ≡ length names
    → ((k : ℕ) → k < length names → slice_get table k ≡ Some (value_given es (from + k)))
    → table ≡ values_given es from names
given-table es from [] [] e at = refl
given-table es from [] (v ∷ vs) e at = absurd (omega arith)
given-table es from (n ∷ ns) [] e at = absurd (omega arith)
given-table es from (n ∷ ns) (v ∷ vs) e at =
    let first : Some v ≡ Some (value_given es (from + 0)) = at 0 (omega arith) in
    let here : v ≡ value_given es from = cc (ap (value_given es) (zero-last from)) in
    let rest : vs ≡ values_given es (suc from) ns = given-table es (suc from) ns vs (omega arith)
    (λ k h. at (suc k) (omega arith) ∙ ap (λ m. Some (value_given es m)) (next from k)) in
    cc
  where
    zero-last : (m : ℕ) → m + 0 ≡ m
    zero-last m = omega arith

    next : (m k : ℕ) → m + suc k ≡ suc m + k
    next m k = omega arith

pub given-all : (fields names : List Text) (given : Given) (es : List Entry) → Keeps fields names given es
    → given.values.items ≡ values_given es 0 names
given-all fields names given es k = given-table es 0 names given.values.items k.size
    (λ n h. k.values n h ∙ ap (λ m. Some (value_given es m)) (first n))
  where
    first : (m : ℕ) → m ≡ 0 + m
    first m = omega arith

-- a text that isn't too long is refused where its lines are
pub text-short : (m : Format) (text : Text) → length text ≤ STATE_BYTES
    → text_refusal m text ≡ lines_refusal m (entries_of m.fields m.names text)
text-short m text h = ap (λ b. cond b (Some TooLong) (lines_refusal m (entries_of m.fields m.names text)))
    (le-ltb STATE_BYTES (length text) h)

pub text-long : (m : Format) (text : Text) → STATE_BYTES < length text → text_refusal m text ≡ Some TooLong
text-long m text h = ap (λ b. cond b (Some TooLong) (lines_refusal m (entries_of m.fields m.names text)))
    (lt-ltb STATE_BYTES (length text) h)

-- a text whose first line that is refused is refused so is
pub text-line : (m : Format) (text : Text) (f : StartFault) → length text ≤ STATE_BYTES
    → first_refusal m.fields m.names [] (entries_of m.fields m.names text) ≡ Some f → text_refusal m text ≡ Some f
text-line m text f h e = text-short m text h
    ∙ ap (λ o. option_or o (missing_from m.names 0 (needed m (given_by m text)))) e

-- else it is refused where a variable is missing
pub text-missing : (m : Format) (text : Text) (given : List (Option Value)) (o : Option StartFault)
    → length text ≤ STATE_BYTES → first_refusal m.fields m.names [] (entries_of m.fields m.names text) ≡ None
    → given ≡ given_by m text → missing_from m.names 0 (needed m given) ≡ o → text_refusal m text ≡ o
text-missing m text given o h e is n = text-short m text h
    ∙ ap (λ o. option_or o (missing_from m.names 0 (needed m (given_by m text)))) e
    ∙ ap (λ vs. missing_from m.names 0 (needed m vs)) (sym is) ∙ n

-- what the lines of a text within the limit give is what it says
pub said-state : (m : Format) (text : Text) (given : Given) (result : Result State StartFault)
    → length text ≤ STATE_BYTES
    → (first_refusal m.fields m.names [] (entries_of m.fields m.names text) ≡ None)
    × Keeps m.fields m.names given (entries_of m.fields m.names text)
    → Completes m given result → IsStated m text result
said-state m text given (Ok state) h t c =
    let all = given-all m.fields m.names given (entries_of m.fields m.names text) t.1 in (
      text-missing m text given.values.items None h t.0 all c.0,
      record {
        values_are = c.1 ∙ ap (map or_nil) all;
        cells_are = λ l. ap (λ z. get nat_cmp z l) c.2 ∙ t.1.cells l;
      },
      c.3 ∙ ap (is_fresh m) all,
    )
said-state m text given (Err f) h t c =
    let all = given-all m.fields m.names given (entries_of m.fields m.names text) t.1 in
    elim c [
      | inl o ↦ inl o
      | inr n ↦ inr (text-missing m text given.values.items (Some f) h t.0 all n)
    ]
