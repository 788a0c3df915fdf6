use Rattle.std.proofs.Common.{◌≡◌, ◌∙◌, slice_get, length, sym, rules}
use Rattle.std.proofs.lemmas.List.{length-map}
use Rattle.sf_base.proofs.Results.{ok-both}
use Rattle.sf_core.specs.Program.Formed.{variable_count}
use Rattle.sf_core.specs.Program.View.{procedure_of, resource_of}
use Rattle.sf_core.specs.Program.ProgramView.{program_of}
use Rattle.sf_calls.specs.Conditions.{Free, FreeIn}
use Rattle.sf_calls.specs.Checked.Visited.{AreRows}
use Rattle.sf_calls.specs.Checked.Gathers.{IsUpTo}
use Rattle.sf_calls.specs.Sets.{IsEarlier}
use Rattle.sf_calls.specs.Checked.Lemmas.Least.{free_apart, free_both}
use Rattle.sf_calls.specs.Checked.Lemmas.Rows.{family_of, rows_read}
use Rattle.sf_calls.specs.Checked.Lemmas.InOrder.{all_shared}
use Rattle.sf_calls.proofs.reaching.free_sets.Goals as goal

pub sets-requires : goal.sets-requires
sets-requires c =
    let fit = rows_read _ _ _ _ _ _ c.in_ok-rows.ensures c.deref.ensures.value (search rules) in
    record { same = fit.0; long = fit.1 }

pub returns : goal.returns
returns c =
    let count : c.len.result ≡ length c.args.p.now.procedures.items = search rules in
    let rows : AreRows (length c.args.p.now.procedures.items)
    (FreeIn (program_of c.args.p.now)) c.args.variables.now c.deref.result.now = rw
    c.deref.ensures.value c.in_ok-rows.ensures in
    ok-both c.sets.result _ _ _
    (λ sets size each. family_of IsEarlier (length c.args.p.now.procedures.items)
    (length (program_of c.args.p.now).procedures) (FreeIn (program_of c.args.p.now))
    (Free (program_of c.args.p.now))
    (IsUpTo (λ k. variable_count (slice_get (program_of c.args.p.now).resources k))
    (length c.args.p.now.resources.items) 0) c.args.variables.now c.deref.result.now sets.items
    c.requires.keys rows
    (λ f x t. rw (← length-map c.args.p.now.resources.items resource_of)
    (free_apart (program_of c.args.p.now) c.args.p.now.formed f x t))
    (λ f x q t. free_both (program_of c.args.p.now) f x
    (rw (length-map c.args.p.now.resources.items resource_of) q) t)
    (size ∙ count ∙ sym (length-map c.args.p.now.procedures.items procedure_of)) each)
    c.sets.ensures.size c.sets.ensures.each

pub free_rows-requires-clause-shared : goal.free_rows-requires-clause-shared
free_rows-requires-clause-shared c = all_shared _ _ c.args.variables.now c.requires.keys
