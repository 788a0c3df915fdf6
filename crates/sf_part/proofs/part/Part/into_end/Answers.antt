use Rattle.std.proofs.Common.{◌∙◌, arith, refl}
use Rattle.std.proofs.lemmas.List.{length-map}
use Rattle.sf_core.specs.Program.ProgramView.{program_of}
use Rattle.sf_core.specs.Program.View.{procedure_of}
use Rattle.sf_part.proofs.Parting.{item-there}
use Rattle.sf_part.proofs.part.Part.into_end.Goals as goal

pub returns : goal.returns
returns c =
    let k = item-there (program_of c.args.p.now).procedures c.args.f.0
    (omega (
      arith,
      c.requires.procedure,
      length-map c.args.p.now.procedures.items procedure_of,
    )) in
    let count = c.parameter_count.ensures k.0 k.1 in
    record {
      procedure = k.0;
      there = k.1;
      parameters = c.in_ok-own.ensures.length ∙ count;
      values = λ i less. c.in_ok-own.ensures.at i (omega (arith, less, count));
      no_more = c.new.ensures.items;
      cells = refl;
      width = c.requires.of.wide;
      log_is = refl;
    }
