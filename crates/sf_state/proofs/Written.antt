-- The lines that are left to be written, the first of them apart.
-- Names: `more`, after what is written.
use Rattle.std.proofs.Common.{◌≡◌, ◌<◌, ◌+◌, ◌++◌, ℕ, suc, List, [], length, drop, ap, ◌∙◌, slice_index_or, arith}
use Rattle.std.proofs.Math.Seq.{drop-cons}
use Rattle.sf_base.specs.declared.value.Value.{Value}
use Rattle.sf_base.specs.declared.value.Value.TheVariants.{Nil as nil}
use Rattle.sf_lines.specs.Lines.{Text}
use Rattle.sf_state.specs.Refused.{name_at}
use Rattle.sf_state.specs.StateText.{field_text, field_texts, variable_line, variable_lines}

pub variables_more : (names : List Text) (i : ℕ) (values : List Value) → i < length names
    → variable_lines (drop i names) i values ≡ variable_line (name_at names i) (slice_index_or values i nil)
    ++ variable_lines (drop (i + 1) names) (i + 1) values
variables_more names i values h =
    let next : suc i ≡ i + 1 = omega arith in
    ap (λ ns. variable_lines ns i values) (drop-cons names i [] h)
    ∙ ap (λ k. variable_line (name_at names i) (slice_index_or values i nil) ++ variable_lines (drop k names) k values)
    next

pub fields_more : (names : List Text) (i : ℕ) (values : List Value) → i < length names
    → field_texts (drop i names) i values ≡ field_text (name_at names i) (slice_index_or values i nil)
    ++ field_texts (drop (i + 1) names) (i + 1) values
fields_more names i values h =
    let next : suc i ≡ i + 1 = omega arith in
    ap (λ ns. field_texts ns i values) (drop-cons names i [] h)
    ∙ ap (λ k. field_text (name_at names i) (slice_index_or values i nil) ++ field_texts (drop k names) k values) next
