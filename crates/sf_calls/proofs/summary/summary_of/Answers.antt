use Rattle.std.proofs.Common.{◌≡◌, ◌∙◌, ◌++◌, [], List, map, ap, sym}
use Rattle.sf_base.specs.declared.ids.Var.{Var}
use Rattle.sf_core.specs.declared.command.Occurrence.{Occurrence}
use Rattle.sf_core.specs.Program.Heads.{level_occurrences, sites}
use Rattle.sf_core.specs.Program.Sites.{site_of}
use Rattle.sf_core.specs.Program.View.{procedure_of, block_of, level_of}
use Rattle.sf_calls.specs.Checked.Listed.{kept_of, shared_in, shared_in_levels, entered_in, with_calls_in}
use Rattle.sf_calls.specs.Checked.Lemmas.Listing.{summary_is}
use Rattle.sf_calls.proofs.summary.summary_of.Goals as goal

pub returns : goal.returns
returns c =
    let pre = level_of c.args.h.now.pre.level in
    let post = level_of c.args.h.now.post.level in
    let words : c.deref.result.now ≡ level_occurrences pre ++ level_occurrences post =
    c.deref.ensures.value ∙ c.in_ok-add_level_occurrences-2.ensures
    ∙ ap (λ (xs : List Occurrence). xs ++ level_occurrences post)
    (c.in_ok-add_level_occurrences.ensures
    ∙ ap (λ (xs : List Occurrence). xs ++ level_occurrences pre) c.new-words.ensures.items) in
    let in_contract : c.deref-2.result.now ≡ shared_in_levels pre post =
    c.deref-2.ensures.value ∙ c.in_ok-add_kept.ensures
    ∙ ap (λ (xs : List Var). xs ++ kept_of [] c.deref.result.now) c.new-named.ensures.items
    ∙ ap (kept_of []) words in
    let body : map site_of c.in_ok-body.body.items ≡ sites [] (block_of c.args.h.now.body.items) =
    c.in_ok-body.ensures ∙ ap (λ xs. sites [] (block_of xs)) c.deref-3.ensures.value in
    let mentioned : c.deref-5.result.now ≡ c.deref-2.result.now
    ++ shared_in (sites [] (block_of c.args.h.now.body.items)) =
    c.deref-5.ensures.value ∙ c.in_ok-add_shared.ensures
    ∙ ap (λ xs. c.add_kept.new.named.items ++ shared_in (map site_of xs)) c.deref-4.ensures.value
    ∙ ap (λ ss. c.add_kept.new.named.items ++ shared_in ss) body
    ∙ ap (λ (xs : List Var). xs ++ shared_in (sites [] (block_of c.args.h.now.body.items)))
    (sym c.deref-2.ensures.value) in
    summary_is (procedure_of c.args.h.now) _ c.deref-2.result.now c.deref-5.result.now c.requires in_contract mentioned
    c.in_ok-in_contract.ensures c.in_ok-mentioned.ensures
    (c.in_ok-add_regions.ensures ∙ ap (λ xs. xs ++ entered_in (map site_of c.deref-6.result.now))
    c.new-entered.ensures.items ∙ ap (λ xs. entered_in (map site_of xs)) c.deref-6.ensures.value
    ∙ ap entered_in body)
    (c.in_ok-add_with_calls.ensures ∙ ap (λ xs. xs ++ with_calls_in (map site_of c.deref-7.result.now))
    c.new-with_calls.ensures.items ∙ ap (λ xs. with_calls_in (map site_of xs)) c.deref-7.ensures.value
    ∙ ap with_calls_in body)
