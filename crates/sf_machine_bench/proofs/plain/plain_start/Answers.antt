use Rattle.std.proofs.Common.{◌∙◌, sym}
use Rattle.sf_core.specs.Program.ProgramView.{program_of}
use Rattle.sf_core.specs.Program.View.{procedure_of}
use Rattle.sf_machine_bench.proofs.Starts.{plain_starts, plain_unit}
use Rattle.sf_machine_bench.proofs.plain.plain_start.Goals as goal

pub new-requires-5-clause-starts : goal.new-requires-5-clause-starts
new-requires-5-clause-starts c =
    plain_starts (program_of c.args.p.now) c.args.f (procedure_of c.proc.result.now)
    (record { own = c.new.result; shared = c.new-2.result }) c.new-4.result c.from_vec.result
    c.new-3.result.items c.in_ok-parts.parts.items c.proc.ensures.meaning
    (sym c.is_init.ensures ∙ c.if-is_init.false) (c.is_plain.ensures c.if-not-is_plain.false) c.new.ensures.items c.new-2.ensures.items c.new-4.ensures
    c.in_ok-parts.ensures.items c.from_vec.ensures.same c.new-3.ensures.items

pub new-requires-5-clause-first_unit : goal.new-requires-5-clause-first_unit
new-requires-5-clause-first_unit c =
    plain_unit (record { own = c.new.result; shared = c.new-2.result }) c.new-4.result c.new.ensures.items
    c.new-2.ensures.items c.new-4.ensures

pub returns : goal.returns
returns c =
    rw (c.new-5.ensures.vars, c.new-5.ensures.heap, c.new-5.ensures.parts, c.new-5.ensures.fresh)
    (plain_starts (program_of c.args.p.now) c.args.f (procedure_of c.proc.result.now)
    (record { own = c.new.result; shared = c.new-2.result }) c.new-4.result c.from_vec.result
    c.new-3.result.items c.in_ok-parts.parts.items c.proc.ensures.meaning
    (sym c.is_init.ensures ∙ c.if-is_init.false) (c.is_plain.ensures c.if-not-is_plain.false) c.new.ensures.items c.new-2.ensures.items c.new-4.ensures
    c.in_ok-parts.ensures.items c.from_vec.ensures.same c.new-3.ensures.items)
