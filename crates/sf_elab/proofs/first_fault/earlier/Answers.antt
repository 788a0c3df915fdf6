use Rattle.std.proofs.Common.{refl, inl, inr, sym, ◌∙◌}
use Rattle.sf_elab.proofs.Files.FirstFaults.{earlier_alone, earlier_found}
use Rattle.sf_elab.proofs.first_fault.earlier.Goals as goal

pub returns-in-None : goal.returns-in-None
returns-in-None c = earlier_alone c.args.found c.args.fault c.in-None.is

pub returns-then-is_earlier : goal.returns-then-is_earlier
returns-then-is_earlier c =
    earlier_found c.args.found c.in-Some.first c.args.fault c.args.fault c.in-Some.is
    (inl (sym c.is_earlier.ensures ∙ c.if-is_earlier.true, refl))

pub returns-else-is_earlier : goal.returns-else-is_earlier
returns-else-is_earlier c =
    earlier_found c.args.found c.in-Some.first c.args.fault c.in-Some.first c.in-Some.is
    (inr (sym c.is_earlier.ensures ∙ c.if-is_earlier.false, refl))
