use Rattle.sf_base.proofs.Options.{none-holds, some-holds}
use Rattle.sf_core.specs.Program.ProgramView.{program_of}
use Rattle.sf_sym.specs.Goal.{goal_of}
use Rattle.sf_witness.proofs.Texts.{text-none, text-some}
use Rattle.sf_witness.proofs.text.witness_text.Goals as goal

pub returns-in_default : goal.returns-in_default
returns-in_default c =
    text-none (program_of c.args.p.now) c.args.f (goal_of c.args.goal.now) c.args.kind
    c.new-text.result.items c.put_goal_line.new.text.items c.put.new.text.items
    c.new-text.ensures.items c.in_ok-put_goal_line.ensures c.in_ok-put.ensures
    (none-holds c.in_ok-found.found c.in_default.is c.in_ok-found.ensures.none)

pub returns : goal.returns
returns c =
    text-some (program_of c.args.p.now) c.args.f (goal_of c.args.goal.now) c.args.kind
    c.new-text.result.items c.put_goal_line.new.text.items c.put_witness.new.text.items
    c.new-text.ensures.items c.in_ok-put_goal_line.ensures c.in_ok-at.at c.as_slice.result.now
    c.in-Some.w.vars.items c.in-Some.w.heap c.in-Some.w.fails c.in_ok-put_witness.ensures
    c.as_slice.ensures.value c.as_slice.ensures.rising c.in_ok-at.ensures
    (some-holds _ c.in_ok-found.found c.in-Some.w c.in-Some.is c.in_ok-found.ensures.vars)
    (some-holds _ c.in_ok-found.found c.in-Some.w c.in-Some.is c.in_ok-found.ensures.heap)
    (some-holds _ c.in_ok-found.found c.in-Some.w c.in-Some.is c.in_ok-found.ensures.fails)
    (some-holds _ c.in_ok-found.found c.in-Some.w c.in-Some.is c.in_ok-found.ensures.normal)
