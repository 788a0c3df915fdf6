use Rattle.std.proofs.Common.{subst, sym, take}
use Rattle.std.proofs.lemmas.List.{take_more}
use Rattle.sf_base.specs.First.{IsFirstAmong}
use Rattle.sf_elab.specs.declared.fault.Fault.TheVariants.{Unknown}
use Rattle.sf_elab.specs.Files.Faults.{is_earlier}
use Rattle.sf_elab.proofs.first_fault.first_of.Goals as goal

pub loop-fault-preserved : goal.loop-fault-preserved
loop-fault-preserved c =
    subst (λ fs. IsFirstAmong is_earlier fs c.earlier.result)
    (sym (take_more c.args.faults.now c.loop-fault.fault-index
    (Unknown (record { start = 0; end = 0; place = record { line = 0; column = 0 } })) c.loop-fault-test.true))
    (c.earlier.ensures (take c.loop-fault.fault-index c.args.faults.now) c.loop-fault.invariant)
