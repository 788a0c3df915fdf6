use Rattle.std.proofs.Common.{◌∙◌, Some, None, sym, inl}
use Rattle.sf_core.specs.Program.ProgramView.{program_of}
use Rattle.sf_vars.proofs.Answered.{first_in, found_told}
use Rattle.sf_vars.proofs.Exactly.{conditions-apart, fault-once}
use Rattle.sf_vars.proofs.Meets.{meets_program}
use Rattle.sf_vars.proofs.condition.conditions.Goals as goal

pub fault_of-requires : goal.fault_of-requires
fault_of-requires c =
    first_in (program_of c.args.p.now) c.in-Some.f c.in-Some.breach c.args.p.now.formed
    (meets_program (program_of c.args.p.now) c.args.c.now c.args.p.now.formed c.requires
    (Some (c.in-Some.f, c.in-Some.breach)) (sym c.in-Some.is ∙ c.in_ok-first_breach.ensures))

pub returns-in-None-clause-kept : goal.returns-in-None-clause-kept
returns-in-None-clause-kept c =
    meets_program (program_of c.args.p.now) c.args.c.now c.args.p.now.formed c.requires None
    (sym c.in-None.is ∙ c.in_ok-first_breach.ensures)

pub returns-in_ok-fault_of-in-Some-clause-broken : goal.returns-in_ok-fault_of-in-Some-clause-broken
returns-in_ok-fault_of-in-Some-clause-broken c = λ other.
    found_told (program_of c.args.p.now) c.args.c.now c.in-Some.f c.in-Some.breach
    c.in_ok-fault_of-in-Some.field-0 c.args.p.now.formed c.requires
    (sym c.in-Some.is ∙ c.in_ok-first_breach.ensures) c.in_ok-fault_of-in-Some.ensures

pub returns-in-None-clause-only_broken : goal.returns-in-None-clause-only_broken
returns-in-None-clause-only_broken c = λ fault h.
    conditions-apart (program_of c.args.p.now) fault
    (meets_program (program_of c.args.p.now) c.args.c.now c.args.p.now.formed c.requires None
    (sym c.in-None.is ∙ c.in_ok-first_breach.ensures)) h

pub returns-in_ok-fault_of-in-Some-clause-only_kept : goal.returns-in_ok-fault_of-in-Some-clause-only_kept
returns-in_ok-fault_of-in-Some-clause-only_kept c = λ kept.
    absurd
    (conditions-apart (program_of c.args.p.now) c.in_ok-fault_of-in-Some.field-0 kept
    (found_told (program_of c.args.p.now) c.args.c.now c.in-Some.f c.in-Some.breach
    c.in_ok-fault_of-in-Some.field-0 c.args.p.now.formed c.requires
    (sym c.in-Some.is ∙ c.in_ok-first_breach.ensures) c.in_ok-fault_of-in-Some.ensures))

pub returns-in_ok-fault_of-in-Some-clause-only_broken : goal.returns-in_ok-fault_of-in-Some-clause-only_broken
returns-in_ok-fault_of-in-Some-clause-only_broken c = λ fault h.
    inl
    (fault-once (program_of c.args.p.now) c.in_ok-fault_of-in-Some.field-0 fault
    (found_told (program_of c.args.p.now) c.args.c.now c.in-Some.f c.in-Some.breach
    c.in_ok-fault_of-in-Some.field-0 c.args.p.now.formed c.requires
    (sym c.in-Some.is ∙ c.in_ok-first_breach.ensures) c.in_ok-fault_of-in-Some.ensures) h)
