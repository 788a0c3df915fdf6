use Rattle.std.proofs.Common.{◌≤◌, ◌∙◌, sym, ap, length, map, [], rules, arith}
use Rattle.std.proofs.lemmas.List.{length-map}
use Rattle.sf_base.proofs.Lookup.{get-read_map}
use Rattle.sf_core.specs.Program.Heads.{sites}
use Rattle.sf_core.specs.Program.Sites.{site_of}
use Rattle.sf_core.specs.Program.View.{procedure_of, block_of}
use Rattle.sf_core.specs.Program.ProgramView.{program_of}
use Rattle.sf_calls.specs.Checked.Tests.{callees_in}
use Rattle.sf_calls.proofs.CallGraph.{calls_none, calls_more, calls_all, callees_there}
use Rattle.sf_calls.proofs.callers.callers_of.Goals as goal

pub loop-i-init : goal.loop-i-init
loop-i-init c =
    record {
      size = search rules;
      callers =
          calls_none (program_of c.args.p.now) c.args.but c.in_ok-callers.callers.items
          c.in_ok-callers.ensures.none;
    }

pub add_caller-requires : goal.add_caller-requires
add_caller-requires c =
    let at = get-read_map procedure_of c.args.p.now.procedures.items _ c.loop-i.i c.procedure-item.result
    c.deref-procedure-items.ensures.value c.loop-i-test.true c.procedure-item.is in
    let are = c.deref-in-loop-i-2.ensures.value ∙ c.in_ok-callees.ensures
    ∙ ap (callees_in c.args.but) (ap (map site_of) c.deref-in-loop-i.ensures.value ∙ c.in_ok-body.ensures
    ∙ ap (λ xs. sites [] (block_of xs)) c.deref.ensures.value) in
    let within = callees_there (program_of c.args.p.now) c.args.but c.loop-i.i
    (procedure_of c.procedure-item.result) c.deref-in-loop-i-2.result.now c.args.p.now.formed at are in
    rw (c.loop-i.invariant.size, ← length-map c.args.p.now.procedures.items procedure_of) within

pub loop-i-preserved : goal.loop-i-preserved
loop-i-preserved c =
    let at = get-read_map procedure_of c.args.p.now.procedures.items _ c.loop-i.i c.procedure-item.result
    c.deref-procedure-items.ensures.value c.loop-i-test.true c.procedure-item.is in
    let are = c.deref-in-loop-i-2.ensures.value ∙ c.in_ok-callees.ensures
    ∙ ap (callees_in c.args.but) (ap (map site_of) c.deref-in-loop-i.ensures.value ∙ c.in_ok-body.ensures
    ∙ ap (λ xs. sites [] (block_of xs)) c.deref.ensures.value) in
    record {
      size = c.in_ok-add_caller.ensures.size ∙ c.loop-i.invariant.size;
      callers =
          calls_more (program_of c.args.p.now) c.args.but c.loop-i.i
          (procedure_of c.procedure-item.result) c.deref-in-loop-i-2.result.now c.loop-i.callers.items
          c.add_caller.new.callers.items at are c.loop-i.invariant.callers
          c.in_ok-add_caller.ensures.more;
    }

pub returns : goal.returns
returns c =
    let all : length c.args.p.now.procedures.items ≤ c.loop-i.i = omega
    (arith, c.loop-i-test.false, ap length c.deref-procedure-items.ensures.value) in
    record {
      size = c.loop-i.invariant.size ∙ sym (length-map c.args.p.now.procedures.items procedure_of);
      are =
          calls_all (program_of c.args.p.now) c.args.but c.loop-i.i c.loop-i.callers.items
          (rw (length-map c.args.p.now.procedures.items procedure_of) all) c.loop-i.invariant.callers;
    }
