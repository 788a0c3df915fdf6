use Rattle.std.proofs.Common.{◌∙◌, refl, sym}
use Rattle.std.proofs.lemmas.Result.{IfOk-weaker}
use Rattle.sf_base.proofs.Lookup.{get-read_map}
use Rattle.sf_core.specs.Program.View.{resource_of}
use Rattle.sf_core.specs.Program.ProgramView.{program_of}
use Rattle.sf_vars.specs.Faults.{IsResourceName}
use Rattle.sf_vars.proofs.naming.resource_name.Goals as goal

pub returns : goal.returns
returns c =
    IfOk-weaker c.new.result _ (λ name. IsResourceName (program_of c.args.p.now) c.args.r name) (λ name e. (
      resource_of c.index.result.now,
      get-read_map resource_of c.args.p.now.resources.items
          c.args.p.now.resources.items c.args.r.0 c.index.result.now refl c.requires c.index.ensures,
      sym
          (e ∙ c.as_bytes.ensures),
    )) c.new.ensures
