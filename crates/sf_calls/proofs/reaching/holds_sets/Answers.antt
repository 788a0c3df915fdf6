use Rattle.std.proofs.Common.{get_or, rules}
use Rattle.std.proofs.lemmas.List.Elements.{Contains-get_or}
use Rattle.sf_base.proofs.Results.{ok-both}
use Rattle.sf_core.specs.Program.ProgramView.{program_of}
use Rattle.sf_core.specs.Machine.HasThroughout.{HasThroughout}
use Rattle.sf_calls.specs.Checked.Lemmas.Least.{holds_within}
use Rattle.sf_calls.specs.Checked.Lemmas.Rows.{resource_sets, rows_read}
use Rattle.sf_calls.proofs.reaching.holds_sets.Goals as goal

pub holds_rows-requires-clause-there : goal.holds_rows-requires-clause-there
holds_rows-requires-clause-there c k d below =
    (c.requires.keys.members (get_or c.args.resources.now k d)).0 (Contains-get_or c.args.resources.now k d below)

pub sets-requires : goal.sets-requires
sets-requires c =
    let fit = rows_read _ _ _ _ _ _ c.in_ok-rows.ensures c.deref.ensures.value (search rules) in
    record { same = fit.0; long = fit.1 }

pub returns : goal.returns
returns c =
    ok-both c.sets.result _ _ _
    (λ sets. resource_sets c.args.p.now (HasThroughout (program_of c.args.p.now))
    (holds_within (program_of c.args.p.now) c.args.p.now.formed) c.args.resources.now c.in_ok-rows.rows.items
    c.deref.result.now c.len.result c.requires.keys c.in_ok-rows.ensures c.deref.ensures.value (search rules)
    sets.items) c.sets.ensures.size c.sets.ensures.each
