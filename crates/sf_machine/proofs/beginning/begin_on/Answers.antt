use Rattle.std.proofs.Common.{ap, arith, refl}
use Rattle.std.proofs.lemmas.List.{length-map}
use Rattle.std.proofs.lemmas.Option.{slice_get_within}
use Rattle.sf_core.specs.Machine.Config.{runs}
use Rattle.sf_core.specs.Program.ProgramView.{program_of}
use Rattle.sf_core.specs.Program.View.{procedure_of}
use Rattle.sf_machine.specs.declared.task.Task.TheVariants.{Runs}
use Rattle.sf_machine.proofs.Reaching.{reached_begin}
use Rattle.sf_machine.proofs.Tables.{begins_as, used_first}
use Rattle.sf_machine.proofs.beginning.begin_on.Goals as goal

pub first_stack-requires : goal.first_stack-requires
first_stack-requires c =
    let s = c.requires.1 in
    let within = slice_get_within (program_of c.args.p.now).procedures c.args.f.0 s.procedure s.there in
    omega (arith, within, length-map c.args.p.now.procedures.items procedure_of)

pub returns-clause-begins : goal.returns-clause-begins
returns-clause-begins c =
    let p = program_of c.args.p.now in
    let s = c.requires.1 in
    record {
      procedure = s.procedure;
      there = s.there;
      beginning = s.beginning;
      kind = s.kind;
      is = begins_as p c.args.f s.procedure s.beginning c.args.vars.now c.args.heap (record {
        common = c.in_ok-common.common;
        used = c.insert.new.self;
        tasks = Runs c.in_ok-stack.stack;
      }) (c.in_ok-common.ensures.common s.procedure s.beginning s.there s.kind)
          (used_first c.new-used.result c.insert.new.self c.new-used.ensures.empty
          c.in_ok-insert.ensures.updates.0)
          (ap runs (c.in_ok-stack.ensures s.procedure s.beginning s.there s.kind));
    }

pub returns-clause-reached : goal.returns-clause-reached
unfolding returns-clause-begins
returns-clause-reached c = reached_begin (program_of c.args.p.now) c.args.f c.args.fresh
    c.args.vars.now
    c.args.heap c.requires.0 _ c.requires.1 (returns-clause-begins c) refl
