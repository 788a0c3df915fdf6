use Rattle.sf_core.specs.Program.ProgramView.{program_of}
use Rattle.sf_cli.proofs.Witnesses.{witness-stuck}
use Rattle.sf_cli.proofs.witness.say_witness.Goals as goal

pub returns-in_ok-witness_text-in-Stuck : goal.returns-in_ok-witness_text-in-Stuck
returns-in_ok-witness_text-in-Stuck c =
    witness-stuck (program_of c.args.p.now) c.args.f c.args.fault.now c.in-Stuck.goal c.in-Stuck.kind
    c.in-Stuck.field-2 c.in_ok-witness_text-in-Stuck.field-0.items c.in-Stuck.is
    c.in_ok-witness_text-in-Stuck.ensures
