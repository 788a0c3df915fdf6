use Rattle.std.proofs.Common.{◌+◌, ◌<◌, ◌≤◌, length, sym, subst, arith, rules}
use Rattle.std.specs.List.{slice_get}
use Rattle.sf_rules.specs.First.{first_goal}
use Rattle.std.proofs.Math.ListN.{drop_of_length-le}
use Rattle.sf_search.specs.Checked.Judging.{at_index, judged_all, judged_fault, judged_next, judged_over, setting_length, some_at}
use Rattle.sf_search.specs.Ends.{EndsAs, FailsAs}
use Rattle.sf_search.specs.Judge.{Search, proved}
use Rattle.sf_search.proofs.verdicts.verify.Goals as goal

pub returns-in-Err-clause-err : goal.returns-in-Err-clause-err
returns-in-Err-clause-err g c =
    let count = setting_length g.d c.args.arranged.now c.requires.1 in
    let within : c.loop-i.i < length c.args.arranged.now.program.procedures.items = search (rules, arith) in
    let here = at_index g.d.program.procedures c.loop-i.i (subst (λ n. c.loop-i.i < n) (sym count) within) in
    subst (FailsAs g.d) (sym c.failure.ensures)
    (judged_fault g.d c.loop-i.spent c.loop-i.i c.loop-i.tags.items here.0 here.2 c.loop-i.invariant.judged
    c.in-Err.fault c.loop-i.invariant.spent
    (some_at (λ h. EndsAs g.d (first_goal g.d (record { 0 = c.loop-i.i }) h) c.in-Err.fault)
    (slice_get g.d.program.procedures c.loop-i.i) here.0 here.1 c.in-Err.ensures.err))

pub returns-then-spent-gt-FILE_TAGS-clause-err : goal.returns-then-spent-gt-FILE_TAGS-clause-err
returns-then-spent-gt-FILE_TAGS-clause-err g c =
    let count = setting_length g.d c.args.arranged.now c.requires.1 in
    let within : c.loop-i.i < length c.args.arranged.now.program.procedures.items = search (rules, arith) in
    let here = at_index g.d.program.procedures c.loop-i.i (subst (λ n. c.loop-i.i < n) (sym count) within) in
    judged_over g.d c.loop-i.spent c.loop-i.i c.loop-i.tags.items here.0 here.2 c.loop-i.invariant.judged
    c.in-Ok.found.items proved
    (some_at (λ h. Search g.d (first_goal g.d (record { 0 = c.loop-i.i }) h) c.in-Ok.found.items proved)
    (slice_get g.d.program.procedures c.loop-i.i) here.0 here.1 c.in-Ok.ensures.ok) (search (rules, arith))

pub loop-i-preserved : goal.loop-i-preserved
loop-i-preserved g c =
    let count = setting_length g.d c.args.arranged.now c.requires.1 in
    let within : c.loop-i.i < length c.args.arranged.now.program.procedures.items = search (rules, arith) in
    let here = at_index g.d.program.procedures c.loop-i.i (subst (λ n. c.loop-i.i < n) (sym count) within) in
    record {
      judged =
          judged_next g.d c.loop-i.spent c.loop-i.i c.loop-i.tags.items here.0 here.2 c.loop-i.invariant.judged
          c.in-Ok.found.items (c.loop-i.spent + c.len-spent.result) (c.loop-i.i + 1) c.append.new.tags.items
          (some_at (λ h. Search g.d (first_goal g.d (record { 0 = c.loop-i.i }) h) c.in-Ok.found.items proved)
          (slice_get g.d.program.procedures c.loop-i.i) here.0 here.1 c.in-Ok.ensures.ok) (search (rules, arith))
          (omega arith) (search rules) (search (rules, arith));
      spent = search (rules, arith);
      within = search (rules, arith);
    }

pub returns-clause-ok : goal.returns-clause-ok
returns-clause-ok g c =
    let count = setting_length g.d c.args.arranged.now c.requires.1 in
    let past : length c.args.arranged.now.program.procedures.items ≤ c.loop-i.i = search (rules, arith) in
    judged_all g.d c.loop-i.spent c.loop-i.i c.loop-i.tags.items
    (drop_of_length-le g.d.program.procedures (subst (λ n. n ≤ c.loop-i.i) (sym count) past))
    c.loop-i.invariant.judged
