use Rattle.std.proofs.Common.{arith, refl, subst}
use Rattle.std.proofs.lemmas.List.{length-map}
use Rattle.sf_base.specs.HeapStore.{own}
use Rattle.sf_core.specs.Program.ProgramView.{program_of}
use Rattle.sf_core.specs.Program.View.{procedure_of}
use Rattle.sf_machine.specs.Configs.{config_of}
use Rattle.sf_frame.specs.Checked.Endings.{AreValues}
use Rattle.sf_frame.specs.Stores.{store_of}
use Rattle.sf_machine.proofs.Endings.{run_ended, slice_get_some}
use Rattle.sf_machine.proofs.config.Config.finish.Goals as goal

pub returns : goal.returns
returns c =
    let k = slice_get_some (program_of c.args.p.now).procedures c.args.f.0
    (omega (arith, c.requires.procedure, length-map c.args.p.now.procedures.items procedure_of)) in
    run_ended c.args.p.now c.args.f k.0 k.1 (config_of c.args.self)
    (record { own = c.in_ok-own.own; shared = c.in_ok-shared.shared }) c.args.self.common.heap
    (subst (λ n. AreValues (store_of c.args.self.common.store) (λ i. own 0 i) n c.in_ok-own.own.items)
    (c.parameter_count-count.ensures k.0 k.1) c.in_ok-own.ensures) c.in_ok-shared.ensures refl c.requires.wide
