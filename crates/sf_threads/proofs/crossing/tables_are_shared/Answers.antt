use denote.Param.Send.{view_sync}
use denote.Param.SendFields.{declared_sync}
use Rattle.std.proofs.Crossing.{Vec-sync}
use Rattle.std.specs.contracts.option.Option as option
use Rattle.sf_part.specs.contracts.content.Content as content
use Rattle.sf_region.specs.contracts.regions.Regions.TheInside as regions
use Rattle.sf_region.specs.contracts.steps.Key as key
use Rattle.sf_region.specs.contracts.steps.Ruled as ruled
use Rattle.sf_region.specs.contracts.steps.RuledTableRuleOptionContentViewKey.TheImpl.{ghosts}
use Rattle.sf_region.specs.contracts.views.View as view
use Rattle.sf_threads.proofs.Crossed.{table_sync}
use Rattle.sf_threads.proofs.crossing.tables_are_shared.Goals as goal

pub returns : goal.returns
returns c κ = view_sync (regions.the_row κ) _ _ _ _ (declared_sync (regions.the_type κ) (
  table_sync (option.the_row content.the_row) (view.the_row κ) (key.the_row κ) ruled.the_row
      ghosts c.contents_are_sent.ensures.sent,
  (Vec-sync content.the_row c.contents_are_sent.ensures.shared, tt),
))
